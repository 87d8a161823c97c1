-- The small value.
use Rattle.std.specs.Prelude.{◌≡◌, ℕ, ◌+◌, ◌++◌, List, [], ◌∷◌, length, None, false}
use Rattle.dn_model.specs.declared.op.Entry.{Entry}
use Rattle.dn_model.specs.declared.op.Op.TheVariants as op
use Rattle.dn_model.specs.declared.op.Reply.TheVariants as reply
use Rattle.dn_model.specs.declared.op.CountChange.{CountChange}
use Rattle.count_board.specs.Told.{Told}
use Rattle.board_tests.specs.declared.tally.Tally.{Tally}

-- what is told of a value that never stops, with no operation in flight
abbrev pub told_of : List Entry → List CountChange → ℕ → Told
told_of entries changes made = record {
  entries = entries;
  trace = changes;
  hand = λ k. None;
  mark = record { stopped = false; left = 0; made = made; daemon_over = false; counts_over = false; reclaim_idle = false };
}

-- an entry of this number
abbrev pub by : ℕ → Entry
by who = record { who = who; op = op.List; reply = reply.Done }

-- as many entries and changes as events
abbrev pub IsEven : Tally → Type 0
IsEven t = (length t.entries.items ≡ t.made) × (length t.changes.items ≡ t.made)

-- after one more event
abbrev pub IsOneMore : ℕ → CountChange → Tally → Tally → Type 0
IsOneMore who change t t' = (t'.entries.items ≡ t.entries.items ++ by who ∷ []) × (t'.changes.items ≡ t.changes.items ++ change ∷ [])
    × (t'.made ≡ t.made + 1)

-- the same entries and changes
abbrev pub IsSame : Tally → Tally → Type 0
IsSame t t' = (t'.entries.items ≡ t.entries.items) × (t'.changes.items ≡ t.changes.items) × (t'.made ≡ t.made)
