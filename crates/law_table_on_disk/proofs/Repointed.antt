-- A page of a valid disk gets another pointer.
use Rattle.std.proofs.Common.{inr, ℕ, [], sym, subst}
use Rattle.pm_layout.specs.Geometry.{pointer_word}
use Rattle.dn_model.specs.Disk.{Disk, rows}
use Rattle.dn_model.specs.Counts.{Exact}
use Rattle.dn_model.specs.Valid.{IsValid}
use Rattle.dn_model.specs.Own.{Print, IsOwn}
use Rattle.law_table.specs.Changes.{repointed}
use Rattle.law_table.specs.Words.{IsOneTableWord}
use Rattle.law_table.specs.Rows.{MayPoint}
use Rattle.law_table.proofs.TableRows.{good_of}
use Rattle.law_table.proofs.Pointed.{rows_repointed, pointer_decides}
use Rattle.law_table_on_disk.specs.OneWord.{IsOneWord}
use Rattle.law_table_on_disk.specs.PointerLaws.{MayRepoint}
use Rattle.law_table_on_disk.specs.TableLaws.{FitsDisk}
use Rattle.law_table_on_disk.proofs.TableValid.{next_disk, valid_fits}
use Rattle.law_table_on_disk.proofs.NextDisk.{disk_word}
use Rattle.law_table_on_disk.proofs.TableOwn.{own_kept, exact_kept}

module _ (d : Disk) (page value : ℕ) where
  pub repoint_own : (print : Print) → IsOwn print d → IsOwn print (repointed d page value)
  unfolding rows
  repoint_own print own = own_kept d d.chain (repointed d page value).pointer print own own.prints (λ ino idx m place done row. inr row)

  pub repoint_exact : Exact d → Exact (repointed d page value)
  unfolding rows
  repoint_exact exact = exact_kept d d.chain (repointed d page value).pointer exact.counts exact.unshared

  -- what a table lets a page's pointer become, a valid disk does
  pub may_repoint : IsValid d → MayPoint d page value → MayRepoint d page value
  may_repoint valid may = record { valid = valid; in_image = may.in_image; small = may.small; leads = may.leads }

module _ (d : Disk) (page value : ℕ) (may : MayRepoint d page value) where
  decides : IsOneTableWord d (repointed d page value) 0 [] (pointer_word d.geometry page) value
  decides = pointer_decides d page value (record {
    accepted = may.valid.accepted;
    good = good_of d may.valid;
    in_image = may.in_image;
    small = may.small;
    leads = may.leads;
  })

  pub repoint_one_word : IsOneWord d (repointed d page value) 0 [] (pointer_word d.geometry page) value
  repoint_one_word = disk_word d (repointed d page value)
      (next_disk d d.chain (repointed d page value).pointer may.valid decides.good (subst (FitsDisk d) (sym (rows_repointed d page value))
      (valid_fits d may.valid)))
      may.valid 0 [] (pointer_word d.geometry page) value decides
