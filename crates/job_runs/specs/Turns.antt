-- Whose turn is next, and what its actor then does: a function of the clients' scripts, of a
-- schedule, and of what was answered so far.
use Rattle.std.specs.Prelude.{
  ℕ,
  Bool,
  true,
  false,
  ◌&&◌,
  ◌==◌,
  nat_lt,
  if◌then◌else◌,
  List,
  [],
  ◌∷◌,
  ◌++◌,
  length,
  slice_get,
  Option,
  Some,
  None,
  map,
}
use Rattle.dn_model.specs.declared.op.Op.{Op}
use Rattle.dn_model.specs.declared.op.Entry.{Entry}
use Rattle.dn_model.specs.declared.op.Reply.{Reply}
use Rattle.dn_volume.specs.declared.outcome.Outcome.{Outcome}
use Rattle.dn_volume.specs.declared.outcome.Outcome.TheVariants as told
use Rattle.dn_core.specs.declared.event.Event.{Event}
use Rattle.dn_core.specs.declared.event.Event.TheVariants.{Begin, Advance, Daemon, Reclaim}
use Rattle.job_runs.specs.declared.plan.Order.{Order}
use Rattle.job_runs.specs.declared.plan.Order.TheVariants.{Alone, InTurns, WithRest}

-- the operations of a client
abbrev pub script_of : List (ℕ × List Op) → ℕ → List Op
script_of [] who = []
script_of (c ∷ cs) who = if c.0 == who then c.1 else script_of cs who

-- its entries
abbrev pub entries_of : ℕ → List Entry → List Entry
entries_of who [] = []
entries_of who (entry ∷ entries) =
    if entry.who == who then entry ∷ entries_of who entries else entries_of who entries

-- How far a run is: what was answered, how many events each client's operation in flight has left
-- (0: none is), what the daemon and reclaim said that they had left, the number of a Released that
-- was just answered, whose turns are due, and whether this is a whole round in which the daemon and
-- reclaim were idle so far.
pub record Played : Type 0 where
  pub entries : List Entry
  pub left : ℕ → ℕ
  pub released : Option ℕ
  pub due : List ℕ
  pub idle : Bool

-- a client's next operation, if its script has one more
abbrev pub next_op : List (ℕ × List Op) → List Entry → ℕ → Option Op
next_op scripts entries who = slice_get (script_of scripts who) (length (entries_of who entries))

-- what an actor does in its turn, if anything
abbrev pub begin_of : ℕ → Option Op → Option Event
begin_of who None = None
begin_of who (Some op) = Some (Begin who op)

abbrev pub event_of : List (ℕ × List Op) → Played → ℕ → Option Event
event_of scripts p who =
    if who == 15 then Some Daemon else if who == 16 then Some Reclaim
    else if nat_lt 0 (p.left who) then Some (Advance who)
    else begin_of who (next_op scripts p.entries who)

-- the next event, and the turns that are due after it
pub record Upcoming : Type 0 where
  pub event : Event
  pub due : List ℕ
  pub idle : Bool

abbrev pub or_later : Option Event → List ℕ → Bool → Option Upcoming → Option Upcoming
or_later None due idle later = later
or_later (Some event) due idle later =
    Some (record { event = event; due = due; idle = idle })

-- that of the first of these turns in which anything happens
abbrev pub first_in : List (ℕ × List Op) → Played → Bool → List ℕ → Option Upcoming
first_in scripts p idle [] = None
first_in scripts p idle (who ∷ due) =
    or_later (event_of scripts p who) due idle (first_in scripts p idle due)

-- every one of these scripts is answered
abbrev pub is_answered : List (ℕ × List Op) → List Entry → Bool
is_answered [] entries = true
is_answered (c ∷ cs) entries =
    length (entries_of c.0 entries) == length c.1 && is_answered cs entries

-- the turns of one round, and whether no other follows the last
abbrev pub numbers_in : List (ℕ × List Op) → List ℕ
numbers_in scripts = map (λ (c : ℕ × List Op). c.0) scripts

abbrev pub round_of : Order → List (ℕ × List Op) → List ℕ
round_of Alone scripts = 1 ∷ []
round_of InTurns scripts = numbers_in scripts ++ 15 ∷ 16 ∷ []
round_of WithRest scripts = 1 ∷ []

abbrev pub is_over : Order → List (ℕ × List Op) → Played → Bool
is_over Alone scripts p = is_answered scripts p.entries
is_over InTurns scripts p = is_answered scripts p.entries && p.idle
is_over WithRest scripts p = is_answered scripts p.entries

abbrev pub or_round : Option Upcoming → Bool → Option Upcoming → Option Upcoming
or_round (Some upcoming) over round = Some upcoming
or_round None true round = None
or_round None false round = round

-- what is next, if the run isn't over
abbrev pub upcoming : Order → List (ℕ × List Op) → Played → Option Upcoming
upcoming order scripts p =
    or_round (first_in scripts p p.idle p.due) (is_over order scripts p)
    (first_in scripts p true (round_of order scripts))

-- before anything is played
abbrev pub at_start : List ℕ → Played
at_start turns = record {
  entries = [];
  left = λ who. 0;
  released = None;
  due = turns;
  idle = false;
}

-- what an answer changes
abbrev pub set_left : ℕ → ℕ → (ℕ → ℕ) → ℕ → ℕ
set_left who n left q = if q == who then n else left q

abbrev pub entry_for : ℕ → Reply → Option Op → List Entry
entry_for who reply None = []
entry_for who reply (Some op) = record { who = who; op = op; reply = reply } ∷ []

abbrev pub entry_after : List (ℕ × List Op) → Played → ℕ → Outcome → List Entry
entry_after scripts p who (told.Running left) = []
entry_after scripts p who (told.Done reply) =
    entry_for who reply (next_op scripts p.entries who)
entry_after scripts p who (told.Busy holder) = []
entry_after scripts p who (told.Released waiting) = []
entry_after scripts p who told.Idle = []
entry_after scripts p who told.NotYours = []
entry_after scripts p who told.NoMemory = []
entry_after scripts p who told.Stopped = []

abbrev pub left_after : ℕ → Outcome → (ℕ → ℕ) → ℕ → ℕ
left_after who (told.Running n) left = set_left who n left
left_after who (told.Done reply) left = set_left who 0 left
left_after who (told.Busy holder) left = left
left_after who (told.Released waiting) left = left
left_after who told.Idle left = set_left who 0 left
left_after who told.NotYours left = left
left_after who told.NoMemory left = left
left_after who told.Stopped left = left

abbrev pub released_by : Outcome → Option ℕ
released_by (told.Running n) = None
released_by (told.Done reply) = None
released_by (told.Busy holder) = None
released_by (told.Released waiting) = Some waiting
released_by told.Idle = None
released_by told.NotYours = None
released_by told.NoMemory = None
released_by told.Stopped = None

abbrev pub is_idle : Outcome → Bool
is_idle (told.Running n) = false
is_idle (told.Done reply) = false
is_idle (told.Busy holder) = false
is_idle (told.Released waiting) = false
is_idle told.Idle = true
is_idle told.NotYours = false
is_idle told.NoMemory = false
is_idle told.Stopped = false

-- whether a round with this event may be the last one
abbrev pub idle_after : Event → Outcome → Bool → Bool
idle_after (Begin who op) outcome idle = idle
idle_after (Advance who) outcome idle = idle
idle_after Daemon outcome idle = idle && is_idle outcome
idle_after Reclaim outcome idle = idle && is_idle outcome

-- after an operation is answered or held up, generated work has the daemon and reclaim make one
-- event each
abbrev pub rest_for : Order → List ℕ
rest_for Alone = []
rest_for InTurns = []
rest_for WithRest = 15 ∷ 16 ∷ []

-- an answer to a client, and that its begin was held up by somebody
abbrev pub is_rest_due : Event → Outcome → Bool
is_rest_due (Begin who op) (told.Running n) = false
is_rest_due (Begin who op) (told.Done reply) = true
is_rest_due (Begin who op) (told.Busy holder) = true
is_rest_due (Begin who op) (told.Released waiting) = false
is_rest_due (Begin who op) told.Idle = false
is_rest_due (Begin who op) told.NotYours = false
is_rest_due (Begin who op) told.NoMemory = false
is_rest_due (Begin who op) told.Stopped = false
is_rest_due (Advance who) (told.Running n) = false
is_rest_due (Advance who) (told.Done reply) = true
is_rest_due (Advance who) (told.Busy holder) = false
is_rest_due (Advance who) (told.Released waiting) = false
is_rest_due (Advance who) told.Idle = false
is_rest_due (Advance who) told.NotYours = false
is_rest_due (Advance who) told.NoMemory = false
is_rest_due (Advance who) told.Stopped = false
is_rest_due Daemon outcome = false
is_rest_due Reclaim outcome = false

abbrev pub rest_after : Order → Event → Outcome → List ℕ
rest_after order event outcome = if is_rest_due event outcome then rest_for order else []

abbrev pub after : Order → List (ℕ × List Op) → Played → Upcoming → ℕ → Outcome → Played
after order scripts p next who outcome = record {
  entries = p.entries ++ entry_after scripts p who outcome;
  left = left_after who outcome p.left;
  released = released_by outcome;
  due = rest_after order next.event outcome ++ next.due;
  idle = idle_after next.event outcome next.idle;
}
