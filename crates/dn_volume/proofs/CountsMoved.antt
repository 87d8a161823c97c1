-- The counts of all rows, where one row gets other counts and what is under way at its slot moves.
use Rattle.std.proofs.Common.{◌≡◌, ◌≢◌, inl, inr, ℕ, ◌+◌, ◌≤◌, sym, ◌∙◌, ap, subst, arith, length}
use Rattle.std.specs.Prelude.{Some, Contains}
use Rattle.std.proofs.lemmas.Bool.{cases_eq}
use Rattle.std.proofs.lemmas.List.Elements.{All-contains}
use Rattle.dn_model.specs.Table.{Row}
use Rattle.dn_model.specs.Disk.{Disk, rows}
use Rattle.dn_model.specs.Counts.{mappings}
use Rattle.law_table.specs.Changes.{recount, recounted}
use Rattle.law_table.specs.Rows.{RecountsRows}
use Rattle.law_table.proofs.Rows.{all_listed, distinct_same}
use Rattle.law_table.proofs.Counted.{recounts_rows}
use Rattle.law_table_on_disk.specs.BalanceLaws.{IsBalanced, RecountsBalanced}
use Rattle.law_table_on_disk.proofs.Frame.{mappings_same}
use Rattle.fact_table.specs.Table.{HasRow}
use Rattle.dn_volume.specs.declared.volume.Parts.{Parts}
use Rattle.dn_volume.specs.Reclaims.{one_if}
use Rattle.dn_volume.specs.Reserve.{owed_sum}
use Rattle.dn_volume.specs.Balance.{raised, added, dropped, AreCounted}

-- what is under way at a slot is what it was
pub record SameUnderWay (b b' : Parts) (slot : ℕ) : Type 0 where
  pub raised_same : raised b' slot ≡ raised b slot
  pub added_same : added b' slot ≡ added b slot
  pub dropped_same : dropped b' slot ≡ dropped b slot

-- The row gets these counts, which balance with what is then under way at its slot. At every other slot that is what
-- it was. If the counts are 0, the row is to be looked at.
pub record MovesCounts (d : Disk) (b b' : Parts) (row : Row) (rfc uc : ℕ) : Type 0 where
  pub here : RecountsBalanced d row rfc uc (raised b' row.slot) (added b' row.slot) (dropped b' row.slot)
  pub others : (slot : ℕ) → slot ≢ row.slot → SameUnderWay b b' slot
  pub zero : rfc ≡ 0 → uc ≡ 0 → b'.reclaiming.zero_check ≡ Some row.slot
  pub zero_kept : (slot : ℕ) → slot ≢ row.slot → b.reclaiming.zero_check ≡ Some slot → b'.reclaiming.zero_check ≡ Some slot
  pub few : length b'.reclaiming.releases.items + owed_sum b' (λ room. room.releases) + one_if b'.reclaiming.raised ≤ 1105920

row_kept : (d : Disk) (slot rfc uc s : ℕ) → HasRow d s → HasRow (recounted d slot rfc uc) s
row_kept d slot rfc uc s has = record {
  row = recount slot rfc uc has.row;
  is = record { there = (recounts_rows d slot rfc uc).kept has.row has.is.there; slot_is = has.is.slot_is };
}

module _ (d : Disk) (b b' : Parts) (row : Row) (rfc uc : ℕ) (moves : MovesCounts d b b' row rfc uc) (was : AreCounted d b) where
  abbrev e : Disk
  e = recounted d row.slot rfc uc

  abbrev set : Row → Row
  set = recount row.slot rfc uc

  moved : RecountsRows row.slot rfc uc (rows d) (rows e)
  moved = recounts_rows d row.slot rfc uc

  one : (r : Row) → Contains (rows d) r → r.slot ≡ row.slot → r ≡ row
  one r has same = distinct_same (λ (x : Row). x.slot) (rows d) moves.here.may.valid.rows_apart.slot r row has moves.here.may.has same

  abbrev IsRight : Row → Type 0
  IsRight r = IsBalanced e r (raised b' r.slot) (added b' r.slot) (dropped b' r.slot)

  right_other : (r : Row) → Contains (rows d) r → r.slot ≢ row.slot → IsRight r
  right_other r has ne =
      let old : IsBalanced d r (raised b r.slot) (added b r.slot) (dropped b r.slot) =
      All-contains (λ (x : Row). IsBalanced d x (raised b x.slot) (added b x.slot) (dropped b x.slot)) (rows d) r was.balanced has in
      let same = moves.others r.slot ne in
      let maps : mappings e r.page ≡ mappings d r.page = mappings_same d e.chain e.pointer r.page in
      record {
        updates = omega (arith, old.updates, same.raised_same, same.added_same, same.dropped_same);
        references = omega (arith, old.references, maps, same.added_same, same.dropped_same);
      }

  right_one : (r : Row) → Contains (rows d) r → IsRight (set r)
  right_one r has = elim (cases_eq r.slot row.slot) [
    | inl same ↦ subst (λ (x : Row). IsRight (set x)) (sym (one r has same)) moves.here.balanced
    | inr ne ↦ subst IsRight (sym (moved.others r ne)) (right_other r has ne)
  ]

  old_row : (slot : ℕ) → 1 ≤ raised b' slot + added b' slot + dropped b' slot → HasRow d slot
  old_row slot some = elim (cases_eq slot row.slot) [
    | inl same ↦ record { row = row; is = record { there = moves.here.may.has; slot_is = sym same } }
    | inr ne ↦ let kept = moves.others slot ne in was.there slot (omega (arith, some, kept.raised_same, kept.added_same, kept.dropped_same))
  ]

  zero_one : (r : Row) → Contains (rows d) r → (set r).rfc ≡ 0 → (set r).uc ≡ 0 → b'.reclaiming.zero_check ≡ Some r.slot
  zero_one r has none no_update = elim (cases_eq r.slot row.slot) [
    | inl same ↦
        let now = moved.this r same in
        moves.zero (sym (ap (λ (x : Row). x.rfc) now) ∙ none) (sym (ap (λ (x : Row). x.uc) now) ∙ no_update) ∙ ap (λ (n : ℕ). Some n) (sym same)
    | inr ne ↦
        let now = moved.others r ne in
        moves.zero_kept r.slot ne (was.zero_checked r has (sym (ap (λ (x : Row). x.rfc) now) ∙ none) (sym (ap (λ (x : Row). x.uc) now) ∙ no_update))
  ]

  pub counts_move : AreCounted e b'
  counts_move = record {
    balanced = all_listed IsRight (rows e) (λ r has. let old = moved.only r has in subst IsRight old.2 (right_one old.0 old.1));
    there = λ slot some. row_kept d row.slot rfc uc slot (old_row slot some);
    zero_checked = λ r has none no_update.
        let old = moved.only r has in
        zero_one old.0 old.1 (ap (λ (x : Row). x.rfc) old.2 ∙ none) (ap (λ (x : Row). x.uc) old.2 ∙ no_update) ∙ ap (λ (x : Row). Some x.slot) old.2;
    few = moves.few;
  }
