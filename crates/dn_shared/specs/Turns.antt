-- What one turn of a shared volume asks and tells.
use Rattle.std.specs.Prelude.{◌≡◌, ◌≢◌, ℕ, ◌≤◌, Bool, true, false, [], ◌∷◌, ◌++◌, Some, None}
use Rattle.dn_model.specs.declared.op.Op.{Op}
use Rattle.dn_model.specs.declared.op.Reply.{Reply}
use Rattle.dn_volume.specs.declared.outcome.Outcome.{Outcome}
use Rattle.dn_volume.specs.declared.outcome.Outcome.TheVariants as told
use Rattle.dn_core.specs.declared.event.Event.{Event}
use Rattle.dn_core.specs.declared.event.Event.TheVariants.{Begin, Advance, Daemon, Reclaim}
use Rattle.count_board.specs.declared.told.Hand.TheVariants.{Fly, Gone}
use Rattle.count_board.specs.declared.told.Mark.{Mark}
use Rattle.count_board.specs.declared.view.Account.{Account}
use Rattle.count_board.specs.declared.board.Board.{Board}
use Rattle.count_board.specs.declared.pass.Pass.{Pass}
use Rattle.count_board.specs.Reads.{counts_of}
use Rattle.count_board.specs.Boards.{IsPassOf}
use Rattle.count_board.specs.Passes.{known, account, IsAway}
use Rattle.dn_shared.specs.Marks.{SaysStopped, SaysLast}
use Rattle.dn_shared.specs.declared.made.Made.{Made}

-- one of so many clients, which hasn't left, makes an event of its own
pub record IsClient (clients : ℕ) (a : Account) (who : ℕ) : Type 0 where
  pub own : who ≡ a.number
  pub some : 1 ≤ who
  pub few : who ≤ clients
  pub here : a.hand ≢ Some Gone

-- events of the daemon and of reclaim are made by any pass
abbrev pub MayMake : ℕ → Account → Event → Type 0
MayMake clients a (Begin who op) = IsClient clients a who
MayMake clients a (Advance who) = IsClient clients a who
MayMake clients a Daemon = Unit {0}
MayMake clients a Reclaim = Unit {0}

-- the pass is away again, with the number and the lead that it had, and no count was read since
abbrev pub IsAgain : {H : Type 0} → Board H → Pass H → Pass H → Type 0
IsAgain b p q = IsPassOf b q × IsAway q × ((known q).lead ≡ (known p).lead)
    × ((account q).number ≡ (account p).number)
    × (counts_of (account q).seen ≡ counts_of (account p).seen)

-- nothing was answered, and the same is in hand
abbrev pub Keeps : Account → Account → Type 0
Keeps a b = (b.calls ≡ a.calls) × (b.hand ≡ a.hand)

-- an operation was answered: its entry is one call more, and nothing is in hand
abbrev pub IsAnswered : Op → Reply → Account → Account → Type 0
IsAnswered op reply a b =
    (b.calls ≡ a.calls ++ record { who = a.number; op = op; reply = reply } ∷ [])
    × (b.hand ≡ None)

-- what the answer of a begin tells its client
abbrev pub BeginTells : Op → Account → Account → Outcome → Type 0
BeginTells op a b (told.Running left) =
    (b.calls ≡ a.calls) × (b.hand ≡ Some (Fly op)) × (a.hand ≡ None)
BeginTells op a b (told.Done reply) = IsAnswered op reply a b × (a.hand ≡ None)
BeginTells op a b (told.Busy holder) = Keeps a b × (a.hand ≡ None)
BeginTells op a b (told.Released waiting) = Keeps a b × (a.hand ≡ None)
BeginTells op a b told.Idle = ⊥
BeginTells op a b told.NotYours = Keeps a b × (a.hand ≢ None)
BeginTells op a b told.NoMemory = Keeps a b × (a.hand ≡ None)
BeginTells op a b told.Stopped = Keeps a b

-- what the answer of an advance tells
abbrev pub AdvanceTells : Account → Account → Outcome → Type 0
AdvanceTells a b (told.Running left) = Keeps a b
AdvanceTells a b (told.Done reply) =
    (op : Op) × (a.hand ≡ Some (Fly op)) × IsAnswered op reply a b
AdvanceTells a b (told.Busy holder) = ⊥
AdvanceTells a b (told.Released waiting) = ⊥
AdvanceTells a b told.Idle = ⊥
AdvanceTells a b told.NotYours = Keeps a b × ((op : Op) → a.hand ≢ Some (Fly op))
AdvanceTells a b told.NoMemory = ⊥
AdvanceTells a b told.Stopped = Keeps a b

-- what the answer of an event of the daemon or of reclaim tells
abbrev pub WorkTells : Account → Account → Outcome → Type 0
WorkTells a b (told.Running left) = Keeps a b
WorkTells a b (told.Done reply) = ⊥
WorkTells a b (told.Busy holder) = Keeps a b
WorkTells a b (told.Released waiting) = ⊥
WorkTells a b told.Idle = Keeps a b
WorkTells a b told.NotYours = ⊥
WorkTells a b told.NoMemory = Keeps a b
WorkTells a b told.Stopped = Keeps a b

abbrev pub EventTells : Event → Account → Account → Outcome → Type 0
EventTells (Begin who op) a b outcome = BeginTells op a b outcome
EventTells (Advance who) a b outcome = AdvanceTells a b outcome
EventTells Daemon a b outcome = WorkTells a b outcome
EventTells Reclaim a b outcome = WorkTells a b outcome

-- whether the answer is that the volume is stopped
abbrev pub stops : Outcome → Bool
stops (told.Running left) = false
stops (told.Done reply) = false
stops (told.Busy holder) = false
stops (told.Released waiting) = false
stops told.Idle = false
stops told.NotYours = false
stops told.NoMemory = false
stops told.Stopped = true

abbrev pub SaysAsAnswered : Outcome → Account → Type 0
SaysAsAnswered outcome b = SaysLast b (λ mark. mark.stopped ≡ stops outcome)

-- nothing is left to be done by the daemon, or by reclaim
abbrev pub IsOver : Event → Mark → Type 0
IsOver (Begin who op) mark = Unit {0}
IsOver (Advance who) mark = Unit {0}
IsOver Daemon mark = mark.daemon_over ≡ true
IsOver Reclaim mark = (mark.counts_over ≡ true) × (mark.reclaim_idle ≡ true)

-- what a turn tells its pass
pub record TurnTells (event : Event) (made : Made) (a b : Account) : Type 0 where
  pub tells : EventTells event a b made.outcome
  pub says : SaysAsAnswered made.outcome b
  pub past : SaysStopped a → made.outcome ≡ told.Stopped
  pub over : made.outcome ≡ told.Idle → made.deserted ≡ true → SaysLast b (IsOver event)

-- what the answer of a begin tells a client that may call
abbrev pub Begun : Op → Account → Account → Outcome → Type 0
Begun op a b (told.Running left) =
    (b.calls ≡ a.calls) × (b.hand ≡ Some (Fly op)) × (a.hand ≡ None)
Begun op a b (told.Done reply) = IsAnswered op reply a b
Begun op a b (told.Busy holder) = Keeps a b × (a.hand ≡ None)
Begun op a b (told.Released waiting) = Keeps a b × (a.hand ≡ None)
Begun op a b told.Idle = ⊥
Begun op a b told.NotYours = ⊥
Begun op a b told.NoMemory = Keeps a b × (a.hand ≡ None)
Begun op a b told.Stopped = Keeps a b
