-- A volume that keeps to a history from a base.
use Rattle.std.specs.Prelude.{
  ◌≡◌,
  ◌≢◌,
  ◌⊎◌,
  ◌↔◌,
  ℕ,
  ◌+◌,
  ◌≤◌,
  List,
  length,
  drop,
  slice_get,
  Some,
  None,
  Contains,
}
use Rattle.pm_device.specs.Past.{Past, Left, moment}
use Rattle.pm_device.specs.State.{State, Rose}
use Rattle.dn_model.specs.Maps.{Mapping}
use Rattle.dn_model.specs.Table.{Row}
use Rattle.dn_model.specs.Disk.{Disk, rows}
use Rattle.dn_model.specs.Files.{Files, files}
use Rattle.dn_model.specs.Image.{StandsFor}
use Rattle.dn_model.specs.Own.{Print, LivePlace, IsAlone, IsOwn, HasTwin, page_bytes}
use Rattle.dn_model.specs.History.{Legal, IsShortOfSpace, IsShortOfInodes}
use Rattle.dn_model.specs.Course.{Base, Course, base_files, WasAlone}
use Rattle.dn_model.specs.LeftBy.{IsOnTheWay}
use Rattle.dn_model.specs.OnCourse.{IsOnCourse}
use Rattle.dn_model.specs.declared.op.Op.{Op}
use Rattle.dn_model.specs.declared.op.Entry.{Entry}
use Rattle.dn_model.specs.declared.op.Reply.TheVariants.{Refused}
use Rattle.dn_model.specs.declared.op.Refusal.TheVariants.{NoInode, NoSpace}
use Rattle.dn_volume.specs.declared.volume.Parts.{Parts}
use Rattle.dn_volume.specs.declared.volume.Volume.{Volume}
use Rattle.dn_volume.specs.declared.flight.Flight.{Flight}
use Rattle.dn_volume.specs.Parties.{Flies}
use Rattle.dn_volume.specs.Flights.{left_of}
use Rattle.dn_volume.specs.Accounts.{HasPage}
use Rattle.dn_volume.specs.Agrees.{IsVolume, IsStopped}
use Rattle.dn_volume.specs.Events.{word_at, word_after}

-- an image that a stop might leave at a moment since the base stands for this disk
pub record WasLeft (base : Base) (s : State) (e : Disk) : Type 0 where
  pub m : ℕ
  pub c : List ℕ
  pub since : base.start ≤ m
  pub so_far : m ≤ moment s.past
  pub left : Left s.past m c
  pub stands_for : StandsFor c e

-- what this client's script has after the k-th entry of the history, as far as it is known: its
-- later entries, and what
-- it has in flight
pub record IsLater (b : Parts) (k who : ℕ) (op : Op) : Type 0 where
  pub why : ((entry : Entry) × Contains (drop k b.history.items) entry × (entry.who ≡ who) ×
      (entry.op ≡ op)) ⊎ ((f : _) × Flies b who f × (f.op ≡ op))

-- the scripts of the 14 clients, in order; this one's own is left empty
pub record AreLater (b : Parts) (k who : ℕ) (scripts : List (List Op)) : Type 0 where
  pub clients : length scripts ≡ 14
  pub script : (i : ℕ) (ops : List Op) → slice_get scripts i ≡ Some ops → (op : Op)
      → Contains ops op ↔ ((i + 1 ≢ who) × IsLater b k (i + 1) op)

-- each want of room or of an inode was one, of an image since the base; where the past isn't told,
-- no image is
pub record AreShort (base : Base) (b : Parts) (s : State) : Type 0 where
  pub space : (k needed free : ℕ) (entry : Entry) → slice_get b.history.items k ≡ Some entry
      → entry.reply ≡ Refused (NoSpace needed free)
      → (e : Disk) × (scripts : List (List Op)) × WasLeft base s e × AreLater b k entry.who
      scripts × IsShortOfSpace e scripts entry.op needed free
  pub inode : (k : ℕ) (entry : Entry) → slice_get b.history.items k ≡ Some entry
      → entry.reply ≡ Refused NoInode → (e : Disk) × WasLeft base s e × IsShortOfInodes e entry.op

-- The disk is what the history made of the base's.
pub record IsSound (print : Print) (base : Base) (d : Disk) (b : Parts) (s : State) : Type 0 where
  pub own : IsOwn print d
  pub legal : Legal (base_files base) b.history.items (files d)
  pub course : IsOnCourse print (base_files base) base.start b.history.items (files d) s
  pub traced : (slot : ℕ) → word_at d slot ≡ word_after b.trace.items slot (word_at base.disk slot)
  pub short : (p : Past) → s.past ≡ Some p → AreShort base b s
  pub alone : (ino idx : ℕ) (m : Mapping) → LivePlace d ino idx m → IsAlone m
      → WasAlone base ino idx m.block ⊎ ((f : Files) × IsOnTheWay (base_files base) b.history.items
      f × HasTwin print f (page_bytes d m.block))
  pub row_pages : (row : Row) → Contains (rows d) row → (f : Files) × IsOnTheWay (base_files base)
      b.history.items f × HasPage f (page_bytes d row.page)
  pub begun : base.start ≤ moment s.past
  pub faults : base.faults ≤ s.faults

-- the volume stopped in the last event of an operation, which may have happened; it is in flight
-- still
pub record StoppedIn (print : Print) (base : Base) (b : Parts) (s : State) : Type 0 where
  pub who : ℕ
  pub flight : Flight
  pub flies : Flies b who flight
  pub last : left_of flight ≡ 1
  pub course : Course print (base_files base) base.start b.history.items (Some flight.op) s

-- what is so of a stopped volume
pub record WasSound (print : Print) (base : Base) (b : Parts) (s : State) : Type 0 where
  pub files_then : Files
  pub legal : Legal (base_files base) b.history.items files_then
  pub short : (p : Past) → s.past ≡ Some p → AreShort base b s
  pub rose : Rose base.faults s.faults
  pub course : Course print (base_files base) base.start b.history.items None s ⊎ StoppedIn print
      base b s

pub data Sound {D F : Type 0} (state : D → State) (print : Print) (base : Base) (v : Volume D F) :
    Type 0 where
  is_sound : (d : Disk) → IsVolume d v.parts (state v.device) → IsSound print base d v.parts
      (state v.device) → Sound state print base v
  was_sound : IsStopped v.parts (state v.device) → WasSound print base v.parts (state v.device)
      → Sound state print base v
