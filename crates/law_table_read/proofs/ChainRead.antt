-- A walk to its end reads a chain.
use Rattle.std.proofs.Common.{◌≡◌, ◌≢◌, inl, inr, ℕ, suc, ◌+◌, ◌<◌, List, [], ◌∷◌, length, refl, sym, ◌∙◌, ap, arith}
use Rattle.std.specs.Prelude.{slice_index, slice_get, Some}
use Rattle.std.proofs.lemmas.Bool.{cases_eq}
use Rattle.pm_device.specs.Reading.{Reads}
use Rattle.pm_layout.specs.declared.Geometry.{Geometry}
use Rattle.pm_layout.specs.Geometry.{directs, slot_word}
use Rattle.dn_model.specs.Table.{
  Row,
  RowsSay,
  at_field,
  at_next,
  at_later,
  ChainSays,
  at_direct_page,
  at_direct_next,
  at_row,
  first_slot,
  chained,
  direct_page_word,
}
use Rattle.dn_model.specs.Faults.{RowStands, StartsAt, starts_direct, starts_chained}
use Rattle.law_unique.proofs.SameChain.{page_direct, page_indirect, chained_direct, chained_indirect}
use Rattle.law_unique.proofs.TableWalks.{Walk, IsFull}

module _ (g : Geometry) (c : List ℕ) where
  abbrev next_word : Row → ℕ
  next_word row = slice_index c (slot_word g row.slot 5)

  -- rows whose words stand, each leading to the next, the last to none
  record Linked (rows : List Row) : Type 0 where
    stand : (k : ℕ) (row : Row) → slice_get rows k ≡ Some row → RowStands g c row.slot row
    linked : (k : ℕ) (row next : Row) → slice_get rows k ≡ Some row → slice_get rows (k + 1) ≡ Some next → next_word row ≡ next.slot
    last : (k : ℕ) (row : Row) → slice_get rows k ≡ Some row → length rows ≡ k + 1 → next_word row ≡ 0

  linked_rest : (row : Row) (rows : List Row) → Linked (row ∷ rows) → Linked rows
  linked_rest row rows l = record {
    stand = λ k r at. l.stand (suc k) r at;
    linked = λ k r next at after. let one : suc k + 1 ≡ suc (k + 1) = omega arith in l.linked (suc k) r next at
        (ap (slice_get (row ∷ rows)) one ∙ after);
    last = λ k r at long. l.last (suc k) r at (omega (arith, long));
  }

  next_first : (row : Row) (rows : List Row) → Linked (row ∷ rows) → next_word row ≡ first_slot rows
  next_first row [] l = l.last 0 row refl refl
  next_first row (next ∷ rows) l = l.linked 0 row next refl refl

  rows_read : (rows : List Row) → Linked rows → (a v : ℕ) → RowsSay g rows a v → slice_index c a ≡ v
  rows_read [] l a v says = elim says [ ]
  rows_read (row ∷ rows) l a v (at_field j lt at is) = ap (slice_index c) at ∙ (l.stand 0 row refl).1 j lt ∙ sym is
  rows_read (row ∷ rows) l a v (at_next at is) = ap (slice_index c) at ∙ next_first row rows l ∙ sym is
  rows_read (row ∷ rows) l a v (at_later says) = rows_read rows (linked_rest row rows l) a v says

  module _ (prefix : ℕ) (direct : prefix < directs g) where
    linked_from : (rows : List Row) → Walk g c prefix direct rows → IsFull g c prefix direct rows → Linked rows
    linked_from rows walk full = record { stand = walk.stand; linked = walk.linked; last = full.last }

    page_read : (rows : List Row) → Walk g c prefix direct rows → IsFull g c prefix direct rows
        → slice_index c (slot_word g prefix 0) ≡ direct_page_word prefix rows
    page_read [] walk full = (full.none refl).0
    page_read (row ∷ rows) walk full = elim (cases_eq row.slot prefix) [
      | inl e ↦ ap (λ (s : ℕ). slice_index c (slot_word g s 0)) (sym e) ∙ (walk.stand 0 row refl).1 0 (omega arith) ∙ sym
          (page_direct prefix row rows e)
      | inr ne ↦ by_start ne (walk.first row refl) ∙ sym (page_indirect prefix row rows ne)
    ]
      where
        by_start : row.slot ≢ prefix → StartsAt g c prefix row.slot → slice_index c (slot_word g prefix 0) ≡ 0
        by_start ne (starts_direct some e) = absurd (ne e)
        by_start ne (starts_chained none e) = none

    next_read : (rows : List Row) → Walk g c prefix direct rows → IsFull g c prefix direct rows → slice_index c (slot_word g prefix 5) ≡ first_slot
        (chained prefix rows)
    next_read [] walk full = (full.none refl).1
    next_read (row ∷ rows) walk full = elim (cases_eq row.slot prefix) [
      | inl e ↦ ap (λ (s : ℕ). slice_index c (slot_word g s 5)) (sym e) ∙ next_first row rows (linked_from (row ∷ rows) walk full) ∙ ap first_slot
          (sym (chained_direct prefix row rows e))
      | inr ne ↦ by_start ne (walk.first row refl) ∙ ap first_slot (sym (chained_indirect prefix row rows ne))
    ]
      where
        by_start : row.slot ≢ prefix → StartsAt g c prefix row.slot → slice_index c (slot_word g prefix 5) ≡ row.slot
        by_start ne (starts_direct some e) = absurd (ne e)
        by_start ne (starts_chained none e) = sym e

    pub walk_reads : (rows : List Row) → Walk g c prefix direct rows → IsFull g c prefix direct rows → Reads (ChainSays g prefix rows) c
    walk_reads rows walk full a v (at_direct_page at is) = ap (slice_index c) at ∙ page_read rows walk full ∙ sym is
    walk_reads rows walk full a v (at_direct_next at is) = ap (slice_index c) at ∙ next_read rows walk full ∙ sym is
    walk_reads rows walk full a v (at_row says) = rows_read rows (linked_from rows walk full) a v says
