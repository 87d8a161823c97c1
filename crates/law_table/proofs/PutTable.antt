-- The rows of a table with one row more make sense, whatever chain it comes into and wherever.
use Rattle.std.proofs.Common.{◌≡◌, ◌≢◌, ◌⊎◌, inl, inr, ⊎_elim, ℕ, ◌+◌, ◌<◌, ◌≤◌, List, sym, subst, arith}
use Rattle.std.specs.Prelude.{slice_get, Some, All, Contains}
use Rattle.std.proofs.lemmas.Bool.{cases_eq}
use Rattle.std.proofs.lemmas.List.Elements.{All-contains}
use Rattle.pm_layout.specs.Geometry.{directs, slots}
use Rattle.dn_model.specs.Table.{Row}
use Rattle.dn_model.specs.Disk.{Disk, rows}
use Rattle.dn_model.specs.Valid.{IsRow, HasGoodRows}
use Rattle.law_table.specs.Changes.{with_table}
use Rattle.law_table.specs.Rows.{MayPutRow, PutsRow}
use Rattle.law_table.proofs.Rows.{all_listed}
use Rattle.law_table.proofs.TableRows.{prefix_small}
use Rattle.law_table.proofs.Put.{IsPut, put_row, put_kept, put_listed, put_distinct, put_found, put_rows}

module _ (d : Disk) (prefix : ℕ) (row : Row) (may : MayPutRow d prefix row) where
  pub put_direct : prefix < directs d.geometry
  put_direct = subst (λ (p : ℕ). p < directs d.geometry) may.fresh.prefix_is (prefix_small d.geometry row.print may.fresh.twenty may.fresh.bytes)

  -- the row may stand at each place of its chain that fits its slot
  pub fits_at : (k : ℕ) → ((row.slot ≡ prefix) × (k ≡ 0)) ⊎ ((directs d.geometry ≤ row.slot) × (row.slot < slots d.geometry))
      → IsRow d.geometry prefix k row
  fits_at k place = record {
    place = place;
    data_page = may.fresh.data_page;
    twenty = may.fresh.twenty;
    bytes = may.fresh.bytes;
    prefix = may.fresh.prefix_is;
    rfc = may.fresh.rfc_fits;
    uc = may.fresh.uc_fits;
  }

module _ (d : Disk) (prefix : ℕ) (row : Row) (may : MayPutRow d prefix row) (chain : ℕ → List Row) (same : (p : ℕ) → p ≢ prefix → chain p ≡ d.chain p)
    (put : IsPut row (d.chain prefix) (chain prefix)) where
  abbrev news : List Row
  news = rows (with_table d chain d.pointer)

  rows_put : IsPut row (rows d) news
  unfolding rows
  rows_put = put_rows row d.chain chain prefix same put 0 (directs d.geometry) (omega arith) (omega (arith, put_direct d prefix row may))

  pub puts_row : PutsRow row (rows d) news
  puts_row = record {
    here = put_row row (rows d) news rows_put;
    kept = put_kept row (rows d) news rows_put;
    only = put_listed row (rows d) news rows_put;
    found = put_found row (rows d) news rows_put may.fresh.new_page;
  }

  each : (P : Row → Type 0) → P row → All P (rows d) → All P news
  each P here was = all_listed P news (λ r has. ⊎_elim (λ (e : r ≡ row). subst P (sym e) here) (λ (old : Contains (rows d) r). All-contains P (rows d)
      r was old) (put_listed row (rows d) news rows_put r has))

  pub put_good : ((k : ℕ) (r : Row) → slice_get (chain prefix) k ≡ Some r → IsRow d.geometry prefix k r) → HasGoodRows (with_table d chain d.pointer)
  put_good own = record {
    table = table;
    apart = record {
      slot = put_distinct (λ (r : Row). r.slot) row (rows d) news rows_put may.good.apart.slot may.fresh.new_slot;
      print = put_distinct (λ (r : Row). r.print) row (rows d) news rows_put may.good.apart.print may.fresh.new_print;
      page = put_distinct (λ (r : Row). r.page) row (rows d) news rows_put may.good.apart.page may.fresh.new_page;
    };
    pointers = may.good.pointers;
    leads = each (λ (r : Row). d.pointer r.page ≡ r.slot + 1) may.leads may.good.leads;
  }
    where
      table : (p k : ℕ) (r : Row) → p < directs d.geometry → slice_get (chain p) k ≡ Some r → IsRow d.geometry p k r
      table p k r lt is = elim (cases_eq p prefix) [
        | inl e ↦ subst (λ (q : ℕ). IsRow d.geometry q k r) (sym e) (own k r (subst (λ (q : ℕ). slice_get (chain q) k ≡ Some r) e is))
        | inr ne ↦ may.good.table p k r lt (subst (λ (rs : List Row). slice_get rs k ≡ Some r) (same p ne) is)
      ]
