-- The laws by which an event of a machine is proved.
use Rattle.std.specs.Prelude.{
  ◌≡◌,
  ◌⊎◌,
  ℕ,
  ◌-◌,
  ◌*◌,
  ◌<◌,
  ◌≤◌,
  false,
  List,
  length,
  Option,
  None,
  Contains,
}
use Rattle.pm_device.specs.State.{State, Agree}
use Rattle.pm_device.specs.Settled.{LeavesOnly, LeavesNow, StoresOnly}
use Rattle.pm_layout.specs.declared.Geometry.{Geometry}
use Rattle.dn_model.specs.Valid.{IsValid}
use Rattle.pm_device.specs.Reading.{Said}
use Rattle.dn_model.specs.Log.{Log, IsPaged}
use Rattle.dn_model.specs.Growth.{IsGrown, Prepared}
use Rattle.dn_model.specs.Disk.{Disk, Live, DiskSays}
use Rattle.dn_model.specs.Image.{StandsFor}
use Rattle.dn_model.specs.Own.{Print, IsOwn}
use Rattle.dn_model.specs.Course.{Base}
use Rattle.dn_model.specs.declared.op.Op.{Op}
use Rattle.dn_model.specs.declared.op.Reply.{Reply}
use Rattle.fact_table.specs.Table.{IsTable}
use Rattle.law_write.specs.Events.{IsUnused}
use Rattle.file_content.specs.Pages.{IsInPages}
use Rattle.dn_volume.specs.declared.outcome.Outcome.TheVariants.{Running, Done}
use Rattle.dn_volume.specs.declared.volume.Parts.{Parts}
use Rattle.dn_volume.specs.declared.volume.Volume.{Volume}
use Rattle.dn_volume.specs.declared.outcome.Outcome.{Outcome}
use Rattle.dn_volume.specs.Agrees.{StandsFast, IsVolume}
use Rattle.dn_volume.specs.Events.{IsBetween, MovesOn, Answers, Breaks, Advances}
use Rattle.dn_volume.specs.Begins.{LacksSpace, LacksInode, AreFlying, Begins}
use Rattle.dn_model.specs.Apply.{IsGranted}
use Rattle.dn_model.specs.Files.{files}
use Rattle.dn_volume.specs.declared.flight.Flight.{Flight}
use Rattle.dn_volume.specs.Flights.{IsFlight}
use Rattle.dn_volume.specs.Parties.{flight_at, taken_by}
use Rattle.dn_model.specs.History.{needed, IsShortOfSpace, IsShortOfInodes}
use Rattle.dn_volume.specs.Sound.{Sound}

-- A quiet event: stores to words that the disk doesn't read leave it standing, and each image
-- stands for it. Such are
-- the words of unused pages, and those past the tail of a log.
pub record StandsStill (d : Disk) (s t : State) : Type 0 where
  pub fast : StandsFast d d.geometry t
  pub images : LeavesOnly s t (λ c. StandsFor c d)

abbrev pub PageStoresChangeNothing : Type 0
PageStoresChangeNothing = (d : Disk) (pages : List ℕ) (s t : State) → StandsFast d d.geometry s
    → ((page : ℕ) → Contains pages page → IsUnused d page) → StoresOnly (IsInPages pages) s t
    → Agree t.now t.past
    → StandsStill d s t

abbrev pub LogStoresChangeNothing : Type 0
LogStoresChangeNothing = (d : Disk) (ino : ℕ) (new : Log) (s t : State) → StandsFast d d.geometry s
    → ino < d.geometry.inodes → (d.inode ino).use_of ≡ Live
    → (grown : IsGrown (d.inode ino).log new) → IsPaged d.geometry new
    → ((page : ℕ) → Contains grown.fresh page → IsUnused d page)
    → StoresOnly (Said (Prepared ino (d.inode ino).log new)) s t → Agree t.now t.past
    → StandsStill d s t

-- A device that stands for a disk leaves images of it alone now.
abbrev pub FastDevicesLeave : Type 0
FastDevicesLeave = (d : Disk) (g : Geometry) (s : State) → StandsFast d g s → Agree s.now s.past
    → LeavesNow s (λ c. StandsFor c d)

-- What a valid disk says lies within its pages.
abbrev pub ValidDisksLieWithin : Type 0
ValidDisksLieWithin = (d : Disk) → IsValid d → (a v : ℕ) → DiskSays d a v
    → a < 512 * d.geometry.pages

-- A deciding event: where each image stands for the one disk or the other, it is between them.
abbrev pub DecidingStoresLead : Type 0
DecidingStoresLead = (print : Print) (d e : Disk) (s t : State) → (IsOwn print d → IsOwn print e)
    → LeavesOnly s t (λ c. StandsFor c d ⊎ StandsFor c e) → LeavesOnly s t (IsBetween print d e)

-- the table in memory is the table of the words
abbrev pub TablesAreThere : Type 0
TablesAreThere = (d : Disk) (b : Parts) (s : State) → IsVolume d b s → IsTable d s.now b.fact

-- What an event does keeps a volume sound: that goes on, that answers an operation, or that breaks
-- off.
abbrev pub MovesStaySound : (D F : Type 0) → (D → State) → Type 0
MovesStaySound D F state = (print : Print) (base : Base) (who : ℕ) (v v' : Volume D F)
    → v.parts.stopped ≡ false → Sound state print base v
    → ((d : Disk) → IsVolume d v.parts (state v.device) → MovesOn state print who v v' d)
    → Sound state print base v'

abbrev pub AnswersStaySound : (D F : Type 0) → (D → State) → Type 0
AnswersStaySound D F state = ((x : D) → Agree (state x).now (state x).past)
    → (print : Print) (base : Base) (who : ℕ) (op : Op) (reply : Reply) (v v' : Volume D F)
    → v.parts.stopped ≡ false → Sound state print base v
    → ((d : Disk) → IsVolume d v.parts (state v.device) → Answers state print who op reply v v' d)
    → Sound state print base v'

abbrev pub BreaksStaySound : (D F : Type 0) → (D → State) → Type 0
BreaksStaySound D F state = (print : Print) (base : Base) (who : ℕ) (answers : Option Op)
    (v v' : Volume D F) → v.parts.stopped ≡ false → Sound state print base v
    → ((d : Disk) → IsVolume d v.parts (state v.device) → Breaks state print who answers v v' d)
    → Sound state print base v'

-- nothing stands in the way of an operation in flight, and it has taken the pages that it needs
abbrev pub FlightsAreGranted : Type 0
FlightsAreGranted = (d : Disk) (who : ℕ) (f : Flight) (s : State) → IsFlight d who f s
    → IsGranted (files d) f.op × (length (taken_by f) ≡ needed d f.op)

-- Where nothing waits, a want of an inode or of room is one of the disk: what others have in flight
-- has taken no more
-- than it needs, and the daemon one page at most.
abbrev pub WantsAreShort : Type 0
WantsAreShort = (d : Disk) (b : Parts) (s : State) (who : ℕ) (op : Op) → 1 ≤ who → IsVolume d b s
    → flight_at b.flights.items (who - 1) ≡ None → b.reclaiming.waiting ≡ 0 → LacksSpace d b op
    → (scripts : List (List Op)) × AreFlying b who scripts × IsShortOfSpace d scripts op
    (needed d op) (length b.free.free)

abbrev pub InodesAreShort : Type 0
InodesAreShort = (d : Disk) (b : Parts) (s : State) (op : Op) → IsVolume d b s
    → b.reclaiming.waiting ≡ 0 → LacksInode d op → IsShortOfInodes d op

-- so does a begin
abbrev pub BeginsStaySound : (D F : Type 0) → (D → State) → Type 0
BeginsStaySound D F state = ((x : D) → Agree (state x).now (state x).past)
    → (print : Print) (base : Base) (who : ℕ) (op : Op) (v v' : Volume D F) (outcome : Outcome)
    → 1 ≤ who → v.parts.stopped ≡ false → Sound state print base v
    → ((d : Disk) → IsVolume d v.parts (state v.device) → Begins state who op v v' d outcome)
    → Sound state print base v'

-- what an advance tells of the history
abbrev pub AdvancesAreTold : Type 0
AdvancesAreTold = (print : Print) (who : ℕ) (op : Op) (left n : ℕ) (reply : Reply)
    (v v' : Volume (Unit {0}) (Unit {0})) (state : Unit {0} → State) (d : Disk)
    → (Advances state print who op left v v' d (Done reply) → Answers state print who op reply v v'
    d) × (Advances state print who op left v v' d (Running n)
    → v'.parts.history.items ≡ v.parts.history.items)
