-- Pointers around the coming and going of a row.
use Rattle.std.proofs.Common.{ℕ, ◌+◌, ◌<◌}
use Rattle.std.specs.Prelude.{IsNone}
use Rattle.pm_layout.specs.Geometry.{slots}
use Rattle.dn_model.specs.Table.{Row, row_of}
use Rattle.dn_model.specs.Disk.{Disk, rows}
use Rattle.dn_model.specs.Valid.{IsValid}
use Rattle.law_table.specs.Changes.{repointed, removed}
use Rattle.law_table.specs.Rows.{MayPutRow}
use Rattle.law_table.proofs.Rows.{none_listed}
use Rattle.law_table.proofs.TableRows.{good_of}
use Rattle.law_table.proofs.Pointed.{stale_may_clear, fresh_may_point, pointed_may_put}
use Rattle.law_table.proofs.Gone.{taken_may_clear}
use Rattle.law_table_on_disk.specs.PointerLaws.{MayRepoint}
use Rattle.law_table_on_disk.specs.RowLaws.{IsNewRow, MayPut, MayRemove}
use Rattle.law_table_on_disk.proofs.Frame.{mapped_kept}
use Rattle.law_table_on_disk.proofs.Repointed.{may_repoint, repoint_one_word}
use Rattle.law_table_on_disk.proofs.PutRows.{fresh_row}
use Rattle.law_table_on_disk.proofs.Removed.{may_take, remove_next}

pub stale_clears : (d : Disk) (page : ℕ) → IsValid d → page < d.geometry.pages → IsNone (row_of (rows d) page) → MayRepoint d page 0
stale_clears d page valid in_image none = may_repoint d page 0 valid (stale_may_clear d page valid.accepted (good_of d valid) in_image
    (none_listed (rows d) page none))

module _ (d : Disk) (prefix : ℕ) (row : Row) (valid : IsValid d) (new_row : IsNewRow d prefix row) (small : row.slot < slots d.geometry) where
  pub may_point : MayRepoint d row.page (row.slot + 1)
  may_point = may_repoint d row.page (row.slot + 1) valid (fresh_may_point d prefix row valid.accepted (good_of d valid)
      (fresh_row d prefix row valid new_row) small)

  abbrev pointed : Disk
  pointed = repointed d row.page (row.slot + 1)

  may_put_row : MayPutRow pointed prefix row
  may_put_row = pointed_may_put d prefix row valid.accepted (good_of d valid) (fresh_row d prefix row valid new_row) small

  pub pointed_puts : MayPut pointed prefix row
  pointed_puts = record {
    valid = (repoint_one_word d row.page (row.slot + 1) may_point).new_valid;
    new_row = record {
      twenty = new_row.twenty;
      bytes = new_row.bytes;
      prefix_is = new_row.prefix_is;
      rfc_fits = new_row.rfc_fits;
      uc_fits = new_row.uc_fits;
      some = new_row.some;
      few = new_row.few;
      mapped = mapped_kept d d.chain pointed.pointer row.page new_row.mapped;
      new_slot = may_put_row.fresh.new_slot;
      new_print = may_put_row.fresh.new_print;
      new_page = may_put_row.fresh.new_page;
    };
    leads = may_put_row.leads;
  }

pub removed_clears : (d : Disk) (prefix : ℕ) (row : Row) → MayRemove d prefix row → MayRepoint (removed d row.slot) row.page 0
removed_clears d prefix row may = may_repoint (removed d row.slot) row.page 0 (remove_next d prefix row may).valid
    (taken_may_clear d prefix row (may_take d prefix row may))
