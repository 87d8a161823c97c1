-- A repair: what is read after the rollback is that of the words of before.
use Rattle.std.proofs.Common.{◌≡◌, ◌*◌, length, sym, ◌∙◌, ap, subst}
use Rattle.std.specs.Prelude.{Result, Ok, Err, IfOk}
use Rattle.pm_device.specs.State.{State}
use Rattle.pm_device.specs.Settled.{LeavesOnly}
use Rattle.pm_device.specs.Reading.{Reads}
use Rattle.pm_device.proofs.Layers.{leaves_only-then}
use Rattle.pm_device.proofs.Moments.{leaves_only-weaken}
use Rattle.pm_layout.specs.declared.Geometry.{Geometry}
use Rattle.dn_model.specs.Disk.{Disk, DiskSays}
use Rattle.dn_model.specs.Image.{StandsFor, HasNoFault}
use Rattle.law_unique.proofs.RolledSame.{length-rolled}
use Rattle.law_unique.proofs.Stages.{stands_pointers}
use Rattle.dn_check.specs.declared.read.Halt.{Halt}
use Rattle.dn_check.specs.declared.read.Halt.TheVariants.{Fault, NoMemory as NoRoom}
use Rattle.dn_check.specs.Passing.{IsRolled, IsHalt}
use Rattle.table_repair.specs.Later.{HasLater}
use Rattle.table_repair.specs.Settling.{SettlesFrom}
use Rattle.table_repair.proofs.Changes.{settles_same}
use Rattle.dn_mount.specs.declared.parts.Scan.{Scan}
use Rattle.dn_mount.specs.declared.read.WholeRead.{WholeRead}
use Rattle.dn_mount.specs.Faults.{fault_of_halt}
use Rattle.dn_mount.specs.Mounted.{IsMountFault}
use Rattle.dn_mount.specs.Reading.{IsPrepared, IsReadWhole, IsReadyOf, HasReady}
use Rattle.dn_mount.proofs.Undone.{still_stands, later_fault}

module _ (s u : State) (g : Geometry) (prepared : IsPrepared s u g) where
  rolls : IsRolled s.now g u.now
  rolls = record { gate = prepared.gate; geometry = prepared.geometry; words = prepared.back.now }

  pub read_fault : (halt : Halt) → IsHalt g u.now halt → IsMountFault s u (fault_of_halt halt)
  read_fault (Fault fault) is = record {
    is = is s.now rolls;
    head = λ head. absurd (later_fault s.now prepared.gate fault (is s.now rolls) head);
    rest = λ rest. prepared.back;
  }
  read_fault NoRoom is = tt

  module _ (read : WholeRead) (is : IsReadWhole g u.now read) where
    pub ready_of : (d : Disk) → StandsFor s.now d → IsReadyOf d g u read
    ready_of d stood =
        let long : length u.now ≡ 512 * d.geometry.pages = ap length prepared.back.now ∙ length-rolled s.now ∙ stood.size in
        record {
          fast = record {
            geometry = (stands_pointers s.now d stood).table.links.logs.inodes.geometry ∙ sym prepared.geometry;
            long = long;
            valid = stood.valid;
            stands = still_stands d stood.valid u long (subst (Reads (DiskSays d)) (sym prepared.back.now) stood.reads) prepared.back.still;
          };
          still = prepared.back.still;
          read_of = is.each s.now d rolls stood;
        }

    pub no_fault : HasNoFault s.now
    no_fault = is.sound s.now rolls

    pub has_ready : HasReady g u read
    has_ready = let sound = is.sound s.now rolls in record { disk = sound.disk; is = ready_of sound.disk sound.stands_for }

pub first_images : (d : Disk) (s u : State) → LeavesOnly s u (λ c. StandsFor c d) → LeavesOnly s u (HasLater SettlesFrom d)
first_images d s u leaves = leaves_only-weaken s u (λ c. StandsFor c d) (HasLater SettlesFrom d)
    (λ c stood. record { disk = d; stands_for = stood; is = settles_same d }) leaves

pub then_images : (d : Disk) (s t u : State) → LeavesOnly s t (HasLater SettlesFrom d) → LeavesOnly t u (HasLater SettlesFrom d)
    → LeavesOnly s u (HasLater SettlesFrom d)
then_images d s t u first next = leaves_only-then s t u (HasLater SettlesFrom d) first next

pub on_ok_scan : {E : Type 0} (r : Result Scan E) (P Q : Scan → Type 0) → ((scan : Scan) → P scan → Q scan) → IfOk r P → IfOk r Q
on_ok_scan (Ok scan) P Q f p = f scan p
on_ok_scan (Err e) P Q f p = tt
