-- What an event of the daemon or of reclaim promises.
use Rattle.std.specs.Prelude.{◌≡◌, ◌⊎◌, ℕ, ◌+◌, ◌-◌, ◌*◌, ◌<◌, ◌≤◌, if◌then◌else◌, nat_lt, true}
use Rattle.std.specs.Prelude.{List, [], ◌∷◌, length, slice_get, Option, Some, None, IsSome}
use Rattle.pm_device.specs.State.{State}
use Rattle.dedupe_queue.specs.declared.Work.{Work}
use Rattle.dn_model.specs.Maps.{Mapping}
use Rattle.dn_model.specs.Disk.{Disk, Live, maps}
use Rattle.dn_model.specs.Own.{Print}
use Rattle.dn_volume.specs.declared.background.Sharing.{Sharing}
use Rattle.dn_volume.specs.declared.background.Cleaning.{Cleaning}
use Rattle.dn_volume.specs.declared.background.SharingStep.{SharingStep}
use Rattle.dn_volume.specs.declared.background.SharingStep.TheVariants.{Look, Remap, Settle}
use Rattle.dn_volume.specs.declared.outcome.Outcome.{Outcome}
use Rattle.dn_volume.specs.declared.outcome.Outcome.TheVariants as told
use Rattle.dn_volume.specs.declared.volume.InodeState.{InodeState}
use Rattle.dn_volume.specs.declared.volume.Parts.{Parts}
use Rattle.dn_volume.specs.declared.volume.Volume.{Volume}
use Rattle.dn_volume.specs.Cleans.{none_may_clean}
use Rattle.dn_volume.specs.Parties.{Holds}
use Rattle.dn_volume.specs.Begins.{IsUntouched}
use Rattle.dn_volume.specs.Events.{MovesOn, Breaks}

-- Where a background actor stands before an event: it has nothing to do, it is held up by another
-- actor, or it has begun
-- something already.
pub record Stand : Type 1 where
  pub rests : Type 0
  pub held : ℕ → Type 0
  pub begun : Type 0

-- It has something to do, and isn't held up.
pub record MayWork (stand : Stand) : Type 0 where
  pub some : stand.rests → ⊥
  pub loose : (holder : ℕ) → stand.held holder → ⊥

-- An event of a background actor: `lowers` tells what gets less where it gets on, and how many
-- events are left. It takes no
-- memory for what is begun.
abbrev pub Works : {D F : Type 0} → (D → State) → Print → ℕ → Stand
    → (lowers : Parts → Parts → ℕ → Type 0)
    → Volume D F → Volume D F → Disk → Outcome → Type 0
Works state print who stand lowers v v' d (told.Running left) =
    MovesOn state print who v v' d × MayWork stand × lowers v.parts v'.parts left
Works state print who stand lowers v v' d (told.Done reply) = ⊥
Works state print who stand lowers v v' d (told.Busy holder) =
    IsUntouched state v v' d × stand.held holder
Works state print who stand lowers v v' d (told.Released waiting) = ⊥
Works state print who stand lowers v v' d told.Idle = IsUntouched state v v' d × stand.rests
Works state print who stand lowers v v' d told.NotYours = ⊥
Works state print who stand lowers v v' d told.NoMemory =
    IsUntouched state v v' d × MayWork stand × (stand.begun → ⊥)
Works state print who stand lowers v v' d told.Stopped =
    Breaks state print who None v v' d × MayWork stand

-- The daemon has so many events left of the item that it has begun, 0 where that is ended. A row
-- that was inserted is settled by an event that counts for two: no place is mapped anew in between.
abbrev pub step_events : SharingStep → ℕ
step_events Look = 3
step_events (Remap slot) = 2
step_events (Settle slot inserted) = if inserted then 2 else 1

abbrev pub sharing_events : Option Sharing → ℕ
sharing_events None = 0
sharing_events (Some sharing) =
    if nat_lt sharing.done sharing.count
    then 3 * (sharing.count - sharing.done - 1) + step_events sharing.step + 1
    else 1

-- What waits or is begun for the daemon, as a number that each of its events lowers: an item has at
-- most 17 places, of at
-- most 3 events each, is taken by one event and ended by another.
abbrev pub daemon_work : Parts → ℕ
daemon_work b = 53 * length b.queue.items + sharing_events b.sharing

-- A queued item is stale unless its inode is live, its round is the inode's, and a place is mapped
-- by its slot.
pub record IsFresh (d : Disk) (b : Parts) (work : Work) : Type 0 where
  pub live : (d.inode work.ino).use_of ≡ Live
  pub kept : InodeState
  pub is_kept : slice_get b.inodes.items work.ino ≡ Some kept
  pub round : work.round ≡ kept.round
  pub place : ℕ
  pub by : Mapping
  pub mapped : maps d work.ino place ≡ Some by
  pub by_item : by.slot ≡ work.slot

-- the daemon has begun nothing, and the front item, which isn't stale, is of an inode that this
-- actor holds
pub record IsHeldUp (d : Disk) (b : Parts) (holder : ℕ) : Type 0 where
  pub none_begun : b.sharing ≡ None
  pub work : Work
  pub rest : List Work
  pub front : b.queue.items ≡ work ∷ rest
  pub fresh : IsFresh d b work
  pub holds : Holds b holder work.ino

pub record DaemonRests (b : Parts) : Type 0 where
  pub none_begun : b.sharing ≡ None
  pub none_waits : b.queue.items ≡ []

abbrev pub daemon_stand : Disk → Parts → Stand
daemon_stand d b =
    record { rests = DaemonRests b; held = IsHeldUp d b; begun = IsSome b.sharing }

-- THE MEASURE OF ALL WORK

-- the pages that are in use on the disk; those that a cleaning has taken aren't yet
abbrev pub taken_to_clean : Option Cleaning → ℕ
taken_to_clean None = 0
taken_to_clean (Some c) = length c.pages.items

abbrev pub used_pages : Parts → ℕ
used_pages b = b.free.pages - length b.free.free - taken_to_clean b.reclaiming.cleaning

-- how many events a cleaning has left; where none is begun, more than any has
abbrev pub cleaning_events : Option Cleaning → ℕ
cleaning_events None = 0
cleaning_events (Some c) = (length c.pages.items - c.written) + 1

abbrev pub clean_work : Option Cleaning → ℕ
clean_work None = 70000
clean_work (Some c) = cleaning_events (Some c)

-- Each event of the daemon or of reclaim lowers it: the end of a cleaning leaves fewer pages in use,
-- and at most 4,096 items more for the daemon, of 53 units each; no event leaves more pages in use.
abbrev pub work_left : Parts → ℕ
work_left b = 300000 * used_pages b + clean_work b.reclaiming.cleaning + b.reclaiming.waiting +
    daemon_work b

-- its own work is less afterwards, and reclaim's is what it was
pub record DaemonLowers (b b' : Parts) (left : ℕ) : Type 0 where
  pub left_is : left ≡ sharing_events b'.sharing
  pub less : daemon_work b' < daemon_work b
  pub waiting : b'.reclaiming.waiting ≡ b.reclaiming.waiting
  pub pages : used_pages b' ≤ used_pages b

abbrev pub DaemonWorks : {D F : Type 0} → (D → State) → Print → Volume D F → Volume D F → Disk
    → Outcome
    → Type 0
DaemonWorks state print v v' d outcome =
    Works state print 15 (daemon_stand d v.parts) DaemonLowers v v' d outcome

-- RECLAIM

-- Releases and dying files: reclaim has the units that wait left, and nobody holds it up. A zero
-- check and a raised dying place are begun.
abbrev pub release_stand : Parts → Stand
release_stand b = record {
  rests = b.reclaiming.waiting ≡ 0;
  held = λ holder. ⊥;
  begun = IsSome b.reclaiming.zero_check ⊎ IsSome b.reclaiming.raised;
}

-- what waits gets less, and a cleaning and the daemon's work are what they were
pub record ReleaseLowers (b b' : Parts) (left : ℕ) : Type 0 where
  pub left_is : left ≡ b'.reclaiming.waiting + cleaning_events b'.reclaiming.cleaning
  pub less : b'.reclaiming.waiting < b.reclaiming.waiting
  pub cleaning : b'.reclaiming.cleaning ≡ b.reclaiming.cleaning
  pub sharing : b'.sharing ≡ b.sharing
  pub queue : b'.queue.items ≡ b.queue.items
  pub pages : used_pages b' ≤ used_pages b

abbrev pub ReleaseWorks : {D F : Type 0} → (D → State) → Print → Volume D F → Volume D F → Disk
    → Outcome
    → Type 0
ReleaseWorks state print v v' d outcome =
    Works state print 16 (release_stand v.parts) ReleaseLowers v v' d outcome

-- A cleaning, where nothing waits.
pub record CleanRests (b : Parts) : Type 0 where
  pub none_begun : b.reclaiming.cleaning ≡ None
  pub none_may : none_may_clean b ≡ true

abbrev pub clean_stand : Parts → Stand
clean_stand b = record {
  rests = CleanRests b;
  held = λ holder. ⊥;
  begun = IsSome b.reclaiming.cleaning;
}

-- All work is less afterwards, still nothing waits, and no count changes. Where the daemon has done
-- all that it had to do, the new log leaves it nothing.
pub record CleanLowers (b b' : Parts) (left : ℕ) : Type 0 where
  pub left_is : left ≡ cleaning_events b'.reclaiming.cleaning
  pub less : work_left b' < work_left b
  pub none_waits : b'.reclaiming.waiting ≡ 0
  pub sharing : b'.sharing ≡ b.sharing
  pub rests : DaemonRests b → b'.queue.items ≡ []
  pub trace : b'.trace.items ≡ b.trace.items

abbrev pub CleanWorks : {D F : Type 0} → (D → State) → Print → Volume D F → Volume D F → Disk
    → Outcome
    → Type 0
CleanWorks state print v v' d outcome =
    Works state print 16 (clean_stand v.parts) CleanLowers v v' d outcome

-- Both together: reclaim rests where nothing waits, no cleaning is begun and no log may be cleaned. A
-- cleaning goes on where nothing waits; so a release that waits may want memory beside it.
pub record ReclaimRests (b : Parts) : Type 0 where
  pub none_waits : b.reclaiming.waiting ≡ 0
  pub none_begun : b.reclaiming.cleaning ≡ None
  pub none_may : none_may_clean b ≡ true

abbrev pub reclaim_stand : Parts → Stand
reclaim_stand b = record {
  rests = ReclaimRests b;
  held = λ holder. ⊥;
  begun = IsSome b.reclaiming.zero_check ⊎ IsSome b.reclaiming.raised
      ⊎ (IsSome b.reclaiming.cleaning × (b.reclaiming.waiting ≡ 0));
}

-- Releases and dying files come before a cleaning, whose end leaves the daemon what it had to do
-- anew. All work is less afterwards.
pub record ReclaimLowers (b b' : Parts) (left : ℕ) : Type 0 where
  pub left_is : left ≡ b'.reclaiming.waiting + cleaning_events b'.reclaiming.cleaning
  pub less : work_left b' < work_left b
  pub waiting : (b'.reclaiming.waiting < b.reclaiming.waiting)
      ⊎ ((b.reclaiming.waiting ≡ 0) × (b'.reclaiming.waiting ≡ 0))
  pub sharing : b'.sharing ≡ b.sharing
  pub queue : 0 < b.reclaiming.waiting → b'.queue.items ≡ b.queue.items
  pub rests : DaemonRests b → b'.queue.items ≡ []
  pub trace : b.reclaiming.waiting ≡ 0 → b'.trace.items ≡ b.trace.items

abbrev pub ReclaimWorks : {D F : Type 0} → (D → State) → Print → Volume D F → Volume D F → Disk
    → Outcome
    → Type 0
ReclaimWorks state print v v' d outcome =
    Works state print 16 (reclaim_stand v.parts) ReclaimLowers v v' d outcome
