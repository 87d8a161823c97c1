-- Counts and mappings while updates are under way.
use Rattle.std.proofs.Common.{◌≡◌, ℕ, ◌+◌, ◌-◌, ◌^◌, ◌<◌, ◌≤◌, Bool, true, refl, sym, ◌∙◌, ap, arith}
use Rattle.std.specs.Prelude.{if◌then◌else◌, ◌==◌, map, Contains}
use Rattle.dn_model.specs.Table.{Row}
use Rattle.dn_model.specs.Disk.{Disk, rows}
use Rattle.dn_model.specs.Counts.{mappings, IsNear}
use Rattle.dn_model.specs.Valid.{IsValid, IsRow}
use Rattle.law_table.specs.Changes.{recount}
use Rattle.law_table_on_disk.specs.RowLaws.{IsNewRow}
use Rattle.law_table_on_disk.specs.MappingLaws.{AddsMapping}
use Rattle.law_table_on_disk.specs.BalanceLaws.{IsBalanced, RecountsBalanced}
use Rattle.law_table.proofs.Rows.{same_test, none_found}
use Rattle.law_table.proofs.TableRows.{of_chain, is_row, good_of}
use Rattle.law_table_on_disk.proofs.Frame.{mappings_same}
use Rattle.law_table_on_disk.proofs.Mappings.{mapped_once}

pub balanced_near : (d : Disk) (row : Row) (raised added dropped : ℕ) → IsBalanced d row raised added dropped → IsNear d row
balanced_near d row raised added dropped is = (omega (arith, is.updates, is.references), omega (arith, is.updates, is.references))

pub balance_stays : (old new : Disk) (row : Row) (raised added dropped : ℕ) → mappings new row.page ≡ mappings old row.page
    → IsBalanced old row raised added dropped → IsBalanced new row raised added dropped
balance_stays old new row raised added dropped same is = record { updates = is.updates; references = omega (arith, same, is.references) }

pub added_balance : (old new : Disk) (row : Row) (raised added dropped : ℕ) → AddsMapping row.page old new → IsBalanced old row (raised + 1) added
    dropped → IsBalanced new row raised (added + 1) dropped
added_balance old new row raised added dropped adds is = record {
  updates = omega (arith, is.updates);
  references = omega
      (arith, adds.more, is.references);
}

pub dropped_balance : (old new : Disk) (row : Row) (raised added dropped : ℕ) → AddsMapping row.page new old → IsBalanced old row (raised + 1) added
    dropped → IsBalanced new row raised added (dropped + 1)
dropped_balance old new row raised added dropped drops is = record {
  updates = omega (arith, is.updates);
  references = omega
      (arith, drops.more, is.references);
}

module _ (d : Disk) (row : Row) (valid : IsValid d) (has : Contains (rows d) row) where
  stands : IsRow d.geometry (of_chain d row has).0 (of_chain d row has).2.0 row
  stands = let found = of_chain d row has in is_row d (good_of d valid) found.0 row found.1 found.2

  -- the counts that are balanced may be stored
  recounts : (rfc uc raised added dropped : ℕ) → rfc < 2 ^ 32 → uc < 2 ^ 32 → uc ≡ raised + added + dropped
      → mappings d row.page + dropped ≡ rfc + added → RecountsBalanced d row rfc uc raised added dropped
  recounts rfc uc raised added dropped rfc_fits uc_fits updates references = record {
    may = record {
      valid = valid;
      has = has;
      rfc_fits = rfc_fits;
      uc_fits = uc_fits;
      near_below = omega (arith, updates, references);
      near_above = omega (arith, updates, references);
    };
    balanced = record {
      updates = ap (λ (b : Bool). if b then uc else row.uc) here ∙ updates;
      references = ap (λ (n : ℕ). n + dropped) (mappings_same d (λ p. map (recount row.slot rfc uc) (d.chain p)) d.pointer row.page) ∙ references ∙ ap
          (λ (b : Bool). (if b then rfc else row.rfc) + added) (sym here);
    };
  }
    where
      here : (row.slot == row.slot) ≡ true
      here = same_test row.slot row.slot refl

  pub raise_balance : (raised added dropped : ℕ) → IsBalanced d row raised added dropped → row.uc + 1 < 2 ^ 32 → RecountsBalanced d row row.rfc
      (row.uc + 1) (raised + 1) added dropped
  raise_balance raised added dropped is fits = recounts row.rfc (row.uc + 1) (raised + 1) added dropped stands.rfc fits (omega (arith, is.updates))
      is.references

  pub settle_up_balance : (raised added dropped : ℕ) → IsBalanced d row raised (added + 1) dropped → row.rfc + 1 < 2 ^ 32
      → RecountsBalanced d row (row.rfc + 1) (row.uc - 1) raised added dropped
  settle_up_balance raised added dropped is fits = recounts (row.rfc + 1) (row.uc - 1) raised added dropped fits (less row.uc stands.uc)
      (omega (arith, is.updates)) (omega (arith, is.references))
    where
      less : (n : ℕ) → n < 2 ^ 32 → n - 1 < 2 ^ 32
      less n lt = omega arith

  pub settle_down_balance : (raised added dropped : ℕ) → IsBalanced d row raised added (dropped + 1) → 1 ≤ row.rfc
      → RecountsBalanced d row (row.rfc - 1) (row.uc - 1) raised added dropped
  settle_down_balance raised added dropped is some = recounts (row.rfc - 1) (row.uc - 1) raised added dropped (less row.rfc stands.rfc)
      (less row.uc stands.uc) (omega (arith, is.updates)) (omega (arith, is.references, some))
    where
      less : (n : ℕ) → n < 2 ^ 32 → n - 1 < 2 ^ 32
      less n lt = omega arith

  pub counted_balance : mappings d row.page < 2 ^ 32 → RecountsBalanced d row (mappings d row.page) 0 0 0 0
  counted_balance fits = recounts (mappings d row.page) 0 0 0 0 fits (omega arith) (omega arith) (omega arith)

pub new_row_balance : (d : Disk) (prefix : ℕ) (row : Row) → IsValid d → IsNewRow d prefix row → row.rfc ≡ 0 → row.uc ≡ 1 → IsBalanced d row 0 1 0
new_row_balance d prefix row valid is none one =
    let once = mapped_once d valid row.page (none_found (rows d) row.page is.new_page) is.mapped in
    record { updates = omega (arith, one); references = omega (arith, once, none) }
