-- The headline: over every list of client, daemon and reclaim events, each reply is that of one
-- history on a file system that never shares; where a crash comes inside any event, with any
-- unfenced stores persisted, recovery yields the files after every acknowledged operation and some
-- whole operations then in flight; each count then equals the live mappings of its page, and a data
-- page is free exactly if none maps it.
use Rattle.std.specs.Prelude.{◌≡◌, ◌↔◌, ℕ, ◌≤◌, false, List, [], Option, Contains}
use Rattle.pm_device.specs.Past.{Left, moment}
use Rattle.pm_device.specs.State.{State, Agree}
use Rattle.dn_model.specs.Disk.{Disk}
use Rattle.dn_model.specs.Files.{Files, files, IsSameFiles}
use Rattle.dn_model.specs.Image.{StandsFor}
use Rattle.dn_model.specs.Own.{Print, IsOwn}
use Rattle.dn_model.specs.Counts.{Exact, IsFree}
use Rattle.dn_model.specs.History.{Legal}
use Rattle.dn_model.specs.Course.{Base, base_files}
use Rattle.dn_model.specs.declared.op.Op.{Op}
use Rattle.dn_model.specs.declared.op.Entry.{Entry}
use Rattle.dn_volume.specs.declared.outcome.Outcome.{Outcome}
use Rattle.dn_volume.specs.declared.volume.Volume.{Volume}
use Rattle.dn_volume.specs.Agrees.{IsVolume}
use Rattle.dn_volume.specs.Sound.{Sound}
use Rattle.dn_mount.specs.Mounted.{IsMounted}
use Rattle.dn_core.specs.declared.event.Event.{Event}
use Rattle.dn_core.specs.Steps.{Steps}
use Rattle.dn_core.specs.Run.{Run, AreEntries}
use Rattle.dn_core.specs.Images.{IsOneMore, answers_in, files_then, flying_then}

-- A volume that was recovered: it has these files, exact counts, and a free page for each that none
-- maps.
pub record Recovered {D F : Type 0} (state : D → State) (f : Files) (mounted : Volume D F) : Type 0
  where
    pub disk : Disk
    pub volume : IsVolume disk mounted.parts (state mounted.device)
    pub files_are : IsSameFiles (files disk) f
    pub counts : Exact disk
    pub free : (page : ℕ) → Contains mounted.parts.free.free page ↔ IsFree disk page

-- The image has the files of the operations that were acknowledged, or those after the one in
-- flight as well. Whatever a mount makes of it has just these.
pub record IsLeftOf (D F : Type 0) (state : D → State) (print : Print) (acknowledged : Files)
    (flying : Option Op) (c : List ℕ) : Type 0 where
  pub disk : Disk
  pub stands_for : StandsFor c disk
  pub own : IsOwn print disk
  pub whole : IsOneMore acknowledged flying (files disk)
  pub recovery : (d : Disk) (mounted : Volume D F) → StandsFor c d
      → IsMounted state print d mounted → Recovered state (files disk) mounted

-- of a run of events, and of one event more, in which or after which a crash comes
pub record Headline {D F : Type 0} (state : D → State) (print : Print) (base : Base)
    (events : List Event) (outcomes : List Outcome) (v w : Volume D F) (event : Event)
    (outcome : Outcome) : Type 0 where
  -- each reply is that of one history
  pub history : List Entry
  pub one : v.parts.history.items ≡ history
  pub replies : AreEntries events outcomes history
  -- on a file system that never shares
  pub acknowledged : Files
  pub never_shares : Legal (base_files base) history acknowledged
  -- where a crash comes inside the event, with any unfenced stores persisted
  pub inside : (m : ℕ) (c : List ℕ) → moment (state v.device).past ≤ m
      → Left (state w.device).past m c
      → IsLeftOf D F state print acknowledged (answers_in v.parts event) c
  -- and once it has answered
  pub answered : (c : List ℕ)
      → Left (state w.device).past (moment (state w.device).past) c
      → IsLeftOf D F state print (files_then acknowledged (answers_in v.parts event) outcome)
      (flying_then (answers_in v.parts event) outcome) c

-- so it is over every list of events, from a volume that was just mounted
abbrev pub HeadlineHolds : (D F : Type 0) → (D → State) → Type 0
HeadlineHolds D F state = ((x : D) → Agree (state x).now (state x).past) → (print : Print)
    (base : Base) (u v w : Volume D F) (events : List Event) (outcomes : List Outcome)
    (event : Event) (outcome : Outcome) → Sound state print base u → u.parts.history.items ≡ []
    → Run state print u events outcomes v → v.parts.stopped ≡ false
    → Steps state print event v w outcome
    → Headline state print base events outcomes v w event outcome
