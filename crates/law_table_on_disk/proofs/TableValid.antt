-- A disk with another table is valid, if its rows make sense and fit the disk.
use Rattle.std.proofs.Common.{◌≡◌, inr, ℕ, ◌+◌, ◌≤◌, List, refl, sym, ◌∙◌, subst}
use Rattle.std.specs.Prelude.{IsSome}
use Rattle.std.proofs.lemmas.List.Elements.{All-weaker}
use Rattle.dn_model.specs.Table.{Row, row_of}
use Rattle.dn_model.specs.Disk.{Disk, Use, Free, Live, Dying, rows}
use Rattle.dn_model.specs.Counts.{IsNear}
use Rattle.dn_model.specs.Valid.{IsLinked, HasGoodRows, IsValid}
use Rattle.law_write.specs.Events.{IsReadPage}
use Rattle.law_table.specs.Changes.{with_table}
use Rattle.law_table.proofs.Rows.{row_listed, row_found}
use Rattle.law_table_on_disk.specs.TableLaws.{IsNextDisk, FitsDisk}
use Rattle.law_table_on_disk.proofs.Frame.{mappings_same, named_same, mapped_only, log_page_only, free_kept}

module _ (d : Disk) (chain : ℕ → List Row) (pointer : ℕ → ℕ) (valid : IsValid d) (good : HasGoodRows (with_table d chain pointer))
    (fits : FitsDisk d (rows (with_table d chain pointer))) where
  abbrev new : Disk
  new = with_table d chain pointer

  linked : (i : ℕ) (u : Use) → IsLinked d i u → IsLinked new i u
  linked i Live one = record {
    name = one.name;
    leads = named_same d chain pointer one.name ∙ one.leads;
    alone = λ other e. one.alone other
        (sym (named_same d chain pointer other) ∙ e);
  }
  linked i Free none = λ name e. none name (sym (named_same d chain pointer name) ∙ e)
  linked i (Dying c) none = λ name e. none name (sym (named_same d chain pointer name) ∙ e)

  near_same : (row : Row) → IsNear d row → IsNear new row
  near_same row near = subst (λ (n : ℕ). (n ≤ row.rfc + row.uc) × (row.rfc ≤ n + row.uc)) (sym (mappings_same d chain pointer row.page)) near

  table_valid : IsValid new
  table_valid = record {
    accepted = valid.accepted;
    root = valid.root;
    cuts = valid.cuts;
    logs = valid.logs;
    links = λ i some lt. linked i (d.inode i).use_of (valid.links i some lt);
    table = good.table;
    rows_apart = good.apart;
    pointers = good.pointers;
    leads = good.leads;
    single = record {
      one_log = valid.single.one_log;
      log_unmapped = λ page p m. valid.single.log_unmapped page (log_page_only d chain pointer page p) (mapped_only d chain pointer page m);
      log_no_row = λ page p. fits.log_no_row page (log_page_only d chain pointer page p);
      unshared = λ page none. subst (λ (n : ℕ). n ≤ 1) (sym (mappings_same d chain pointer page)) (fits.unshared page none);
    };
    near = All-weaker (IsNear d) (IsNear new) near_same (rows new) fits.near;
    roomy = let two = valid.roomy in (two.0, two.1, two.2, free_kept d chain pointer two.0 two.3, free_kept d chain pointer two.1 two.4);
  }

  read_before : (page : ℕ) → IsSome (row_of (rows new) page) → IsReadPage d page
  read_before page some = let found = row_listed (rows new) page some in subst (IsReadPage d) found.2 (fits.read found.0 found.1)

  pub next_disk : IsNextDisk d new
  next_disk = record { same = refl; valid = table_valid; read = read_before }

pub fitting_valid : (d e : Disk) → IsValid d → e ≡ with_table d e.chain e.pointer → HasGoodRows e → FitsDisk d (rows e) → IsNextDisk d e
fitting_valid d e valid same good fits =
    subst (λ (x : Disk). HasGoodRows x → FitsDisk d (rows x) → IsNextDisk d x) (sym same) (next_disk d e.chain e.pointer valid) good fits

pub valid_fits : (d : Disk) → IsValid d → FitsDisk d (rows d)
valid_fits d valid = record {
  read = λ row has. inr (row_found (rows d) row has);
  log_no_row = valid.single.log_no_row;
  unshared = valid.single.unshared;
  near = valid.near;
}
