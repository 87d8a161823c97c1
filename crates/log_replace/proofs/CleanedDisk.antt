-- What a disk has on which a cleaned log has replaced the old one.
use Rattle.std.proofs.Common.{◌*◌, sym, ◌∙◌, ap}
use Rattle.pm_device.specs.Past.{moment}
use Rattle.pm_device.proofs.Layers.{leaves_now-stands}
use Rattle.pm_layout.specs.declared.Geometry.{Geometry}
use Rattle.dn_model.specs.Disk.{DiskSays}
use Rattle.law_write.proofs.WriteEvent.{length-left, stands_for_read}
use Rattle.law_log_swap.proofs.KeptPlaces.{keeps_data}
use Rattle.law_log_swap.proofs.ReplacedLog.{may_relog, replaced_all_or_none, swaps_log, replaced_own, replaced_settled}
use Rattle.law_clean.specs.Cleaned.{cleaned_log}
use Rattle.law_clean.proofs.Cleaning.{may_replace}
use Rattle.log_replace.specs.CleanedLaws.{
  cleaned_disk,
  MayCleanReplaces,
  CleanedStaysValid,
  CleanedKeepsFiles,
  CleanedKeepsData,
  CleanedSwapsPages,
  CleanedStaysOwn,
  CleanedStaysSettled,
  CleanedIsLeft,
}

-- the cleaned log may replace the old one
pub clean_replaces : MayCleanReplaces
clean_replaces d ino pages may = may_replace d ino pages may.valid may.in_table may.live may.worth may.paged may.unused

pub cleaned_valid : CleanedStaysValid
cleaned_valid d ino pages may = (replaced_all_or_none d ino (cleaned_log ino (d.inode ino).log pages) (clean_replaces d ino pages may)).new_valid

pub cleaned_data : CleanedKeepsData
cleaned_data d ino pages may =
    let log = cleaned_log ino (d.inode ino).log pages in
    keeps_data d ino log (may_relog d ino log (clean_replaces d ino pages may))

pub cleaned_files : CleanedKeepsFiles
cleaned_files d ino pages may = (cleaned_data d ino pages may).files_same

pub cleaned_swaps : CleanedSwapsPages
cleaned_swaps d ino pages may = swaps_log d ino (cleaned_log ino (d.inode ino).log pages) (clean_replaces d ino pages may)

pub cleaned_own : CleanedStaysOwn
cleaned_own print d ino pages may = replaced_own d ino (cleaned_log ino (d.inode ino).log pages) (clean_replaces d ino pages may) print

pub cleaned_settled : CleanedStaysSettled
cleaned_settled d ino pages may = replaced_settled d ino (cleaned_log ino (d.inode ino).log pages) (clean_replaces d ino pages may)

pub cleaned_left : CleanedIsLeft
cleaned_left d ino pages may s agree long stands c left =
    let log = cleaned_log ino (d.inode ino).log pages in
    let is = replaced_all_or_none d ino log (clean_replaces d ino pages may) in
    stands_for_read (cleaned_disk d ino pages) c is.new_valid (leaves_now-stands s (DiskSays (cleaned_disk d ino pages)) agree stands c left)
    (length-left s.past s.now (moment s.past) c agree left ∙ long ∙ ap (λ (h : Geometry). 512 * h.pages) (sym is.geometry))
