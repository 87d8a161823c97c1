-- What is read of words that were rolled back tells of each image that rolls back to them.
use Rattle.std.proofs.Common.{◌≡◌, ℕ, List, sym, ◌∙◌, subst}
use Rattle.pm_layout.specs.declared.Geometry.{Geometry}
use Rattle.dn_model.specs.Disk.{Disk}
use Rattle.dn_model.specs.Image.{StandsFor}
use Rattle.law_unique.proofs.OneImage.{disk_one}
use Rattle.law_unique.proofs.SameMeaning.{means_the_same}
use Rattle.law_unique.proofs.Stages.{stands_pointers}
use Rattle.image_logs.specs.declared.logs.LogsRead.{LogsRead}
use Rattle.image_logs.specs.Logs.{AreRead, AreCounted}
use Rattle.image_keep.specs.declared.keep.Kept.{Kept}
use Rattle.image_keep.specs.Keeping.{AreKeptTo}
use Rattle.dn_check.specs.declared.read.ImageRead.{ImageRead}
use Rattle.dn_check.specs.Passing.{IsRolled, IsWhole, IsReadOfEach}
use Rattle.dn_check.proofs.Reading.{along, said}
use Rattle.dn_mount.specs.Reading.{IsReadWhole, HasFreeOfEach}

module _ (g : Geometry) (r : List ℕ) (logs : LogsRead) (kept : Kept) (image : ImageRead) (logs_read : AreRead g r logs)
    (are_kept : AreKeptTo g r g.inodes kept)
    (of_logs : image.logs ≡ logs) (whole : IsWhole g image) (each : IsReadOfEach g r image) (free : HasFreeOfEach g image) where
  stands : (c : List ℕ) (is : IsRolled c g r) → StandsFor c (each c is).disk
  stands c is = (free.of_each c (each c is)).stands

  counted : (c : List ℕ) (d : Disk) → IsRolled c g r → StandsFor c d → AreCounted d image.logs
  counted c d is stood = subst (AreCounted d) (sym of_logs)
      ((along c g r is (λ h words. AreRead h words logs) logs_read).counted d (said c d (stands_pointers c d stood).table.links.logs))

  pub whole_read : IsReadWhole g r (record { image = image; kept = kept })
  whole_read = record {
    whole = whole;
    kept = are_kept;
    sound = λ c is. record { disk = (each c is).disk; stands_for = stands c is };
    each = λ c d is stood. record {
      counted = counted c d is stood;
      rows_are = (each c is).rows_are ∙ (means_the_same (each c is).disk d (stands c is).valid (disk_one c (each c is).disk d
          (stands c is) stood)).rows;
    };
  }
