-- What a player keeps of a run: the counts that its turns need.
use Rattle.std.specs.Prelude.{◌≡◌, ℕ, ◌+◌, ◌^◌, ◌<◌, ◌≤◌, Bool, false, ◌&&◌, nat_lt, List, length, slice_index, slice_index_or, slice_set, Option, Some, None, IsSome}
use Rattle.dn_model.specs.declared.op.Op.{Op}
use Rattle.dn_volume.specs.declared.outcome.Outcome.{Outcome}
use Rattle.dn_volume.specs.declared.outcome.Outcome.TheVariants as told
use Rattle.dn_core.specs.declared.event.Event.{Event}
use Rattle.dn_core.specs.declared.event.Event.TheVariants.{Begin, Advance, Daemon, Reclaim}
use Rattle.dn_core.specs.Steps.{actor_of}
use Rattle.job_runs.specs.declared.plan.Order.{Order}
use Rattle.job_runs.specs.declared.turn.Turn.{Turn}
use Rattle.job_runs.specs.declared.turn.Turn.TheVariants as turn
use Rattle.job_runs.specs.Turns.{Played, Upcoming, entries_of, next_op, after, is_idle}

-- how many operations each client has answered and whether it has one in flight, by its number;
-- whose turns are due, and whether this is a whole round that was idle so far
pub record Standing : Type 0 where
  pub answered : List ℕ
  pub flying : List Bool
  pub due : List ℕ
  pub idle : Bool

-- the counts are those of a run
pub record HasCounts (p : Played) (answered : List ℕ) (flying : List Bool) : Type 0 where
  pub places : length answered ≡ 15
  pub seats : length flying ≡ 15
  pub answers : (who : ℕ) → who < 15
      → slice_index answered who ≡ length (entries_of who p.entries)
  pub flights : (who : ℕ) → who < 15 → slice_index_or flying who false ≡ nat_lt 0 (p.left who)
  pub outside : (who : ℕ) → 17 ≤ who → p.left who ≡ 0

-- and so is the rest
pub record IsPlayer (p : Played) (s : Standing) : Type 0 where
  pub counts : HasCounts p s.answered s.flying
  pub due : s.due ≡ p.due
  pub idle : s.idle ≡ p.idle

-- the turn of an event
abbrev pub turn_for : Event → Turn
turn_for (Begin who op) = turn.Begin who
turn_for (Advance who) = turn.Advance who
turn_for Daemon = turn.Daemon
turn_for Reclaim = turn.Reclaim

-- a client's number is one that has a place, with room for one more answer
abbrev pub HasPlace : Turn → Standing → Type 0
HasPlace (turn.Begin who) s = (who < 15) × (slice_index s.answered who + 1 < 2 ^ 64)
HasPlace (turn.Advance who) s = (who < 15) × (slice_index s.answered who + 1 < 2 ^ 64)
HasPlace turn.Daemon s = Unit {0}
HasPlace turn.Reclaim s = Unit {0}

-- what an answer makes of a client's counts
abbrev pub answers_then : ℕ → Outcome → List ℕ → List ℕ
answers_then who (told.Running left) answered = answered
answers_then who (told.Done reply) answered =
    slice_set answered who (slice_index answered who + 1)
answers_then who (told.Busy holder) answered = answered
answers_then who (told.Released waiting) answered = answered
answers_then who told.Idle answered = answered
answers_then who told.NotYours answered = answered
answers_then who told.NoMemory answered = answered
answers_then who told.Stopped answered = answered

abbrev pub flights_then : ℕ → Outcome → List Bool → List Bool
flights_then who (told.Running left) flying = slice_set flying who (nat_lt 0 left)
flights_then who (told.Done reply) flying = slice_set flying who false
flights_then who (told.Busy holder) flying = flying
flights_then who (told.Released waiting) flying = flying
flights_then who told.Idle flying = slice_set flying who false
flights_then who told.NotYours flying = flying
flights_then who told.NoMemory flying = flying
flights_then who told.Stopped flying = flying

-- what an answer makes of a player, but for the turns that become due
abbrev pub noted : Turn → Outcome → Standing → Standing
noted (turn.Begin who) outcome s = record s {
  answered = answers_then who outcome s.answered;
  flying = flights_then who outcome s.flying;
}
noted (turn.Advance who) outcome s = record s {
  answered = answers_then who outcome s.answered;
  flying = flights_then who outcome s.flying;
}
noted turn.Daemon outcome s = record s { idle = s.idle && is_idle outcome }
noted turn.Reclaim outcome s = record s { idle = s.idle && is_idle outcome }

-- the player stands before the event that is next
pub record IsBefore (p : Played) (next : Upcoming) (s : Standing) : Type 0 where
  pub counts : HasCounts p s.answered s.flying
  pub due : s.due ≡ next.due
  pub idle : s.idle ≡ next.idle

-- it went on to what is next, or there is nothing
abbrev pub GoesTo : Option Upcoming → Played → Standing → Option Event → Type 0
GoesTo None p s event = event ≡ None
GoesTo (Some next) p s event = (event ≡ Some next.event) × IsBefore p next s

-- a client's event is for an operation of its script
abbrev pub HasOp : List (ℕ × List Op) → Played → Event → Type 0
HasOp scripts p (Begin who op) = IsSome (next_op scripts p.entries who)
HasOp scripts p (Advance who) = IsSome (next_op scripts p.entries who)
HasOp scripts p Daemon = Unit {0}
HasOp scripts p Reclaim = Unit {0}

-- an answer is noted, whatever the scripts are
abbrev pub Notes : Order → Turn → Outcome → Standing → Standing → Type 0
Notes order turn outcome s s' = (scripts : List (ℕ × List Op)) (p : Played) (next : Upcoming)
    → IsBefore p next s → turn ≡ turn_for next.event → HasOp scripts p next.event
    → IsPlayer (after order scripts p next (actor_of next.event) outcome) s'
