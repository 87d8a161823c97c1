-- Events one after another.
use Rattle.std.specs.Prelude.{◌≡◌, ℕ, List, [], ◌∷◌, ◌++◌}
use Rattle.pm_device.specs.State.{State, Agree}
use Rattle.dn_model.specs.Own.{Print}
use Rattle.dn_model.specs.Course.{Base}
use Rattle.dn_model.specs.declared.op.Op.{Op}
use Rattle.dn_model.specs.declared.op.Reply.{Reply}
use Rattle.dn_model.specs.declared.op.Entry.{Entry}
use Rattle.dn_volume.specs.declared.outcome.Outcome.{Outcome}
use Rattle.dn_volume.specs.declared.outcome.Outcome.TheVariants as told
use Rattle.dn_volume.specs.declared.volume.Volume.{Volume}
use Rattle.dn_volume.specs.Sound.{Sound}
use Rattle.dn_core.specs.declared.event.Event.{Event}
use Rattle.dn_core.specs.declared.event.Event.TheVariants.{Begin}
use Rattle.dn_core.specs.Steps.{Steps, actor_of}

-- These events, with these outcomes, lead from the one volume to the other. So it is for none, and
-- for one more behind a run.
pub data Run {D F : Type 0} (state : D → State) (print : Print) (u : Volume D F) : List Event
    → List Outcome → Volume D F → Type 0 where
  at_first : Run state print u [] [] u
  then_next : {events : List Event} {outcomes : List Outcome} {v w : Volume D F}
      → (event : Event) (outcome : Outcome) → Run state print u events outcomes v
      → Steps state print event v w outcome
      → Run state print u (events ++ event ∷ []) (outcomes ++ outcome ∷ []) w

-- an entry is one of its event's actor, with the reply that was answered; a begin's has its
-- operation
pub record IsEntryOf (event : Event) (reply : Reply) (entry : Entry) : Type 0 where
  pub who_is : entry.who ≡ actor_of event
  pub op_is : (who : ℕ) (op : Op) → event ≡ Begin who op → entry.op ≡ op
  pub reply_is : entry.reply ≡ reply

-- what an event adds to the history: one entry where it answers an operation
abbrev pub Adds : Event → Outcome → List Entry → Type 0
Adds event (told.Running left) more = more ≡ []
Adds event (told.Done reply) more =
    (entry : Entry) × IsEntryOf event reply entry × (more ≡ entry ∷ [])
Adds event (told.Busy holder) more = more ≡ []
Adds event (told.Released waiting) more = more ≡ []
Adds event told.Idle more = more ≡ []
Adds event told.NotYours more = more ≡ []
Adds event told.NoMemory more = more ≡ []
Adds event told.Stopped more = more ≡ []

-- these are the entries that such events with such outcomes add, in order
pub data AreEntries : List Event → List Outcome → List Entry → Type 0 where
  none_yet : AreEntries [] [] []
  added : {events : List Event} {outcomes : List Outcome} {entries : List Entry}
      → (event : Event) (outcome : Outcome) (more : List Entry) → AreEntries events outcomes entries
      → Adds event outcome more
      → AreEntries (events ++ event ∷ []) (outcomes ++ outcome ∷ []) (entries ++ more)

-- the history has these entries more
pub record Records {D F : Type 0} (u v : Volume D F) (events : List Event)
    (outcomes : List Outcome) : Type 0 where
  pub more : List Entry
  pub history : v.parts.history.items ≡ u.parts.history.items ++ more
  pub entries : AreEntries events outcomes more

-- an event keeps a volume sound, for each base
abbrev pub StepsStaySound : (D F : Type 0) → (D → State) → Type 0
StepsStaySound D F state = ((x : D) → Agree (state x).now (state x).past) → (print : Print)
    (base : Base) (event : Event) (v v' : Volume D F) (outcome : Outcome)
    → Steps state print event v v' outcome → Sound state print base v → Sound state print base v'
