-- A chain is searched for a fingerprint.
use Rattle.std.proofs.Common.{◌≡◌, ◌≢◌, inl, inr, ℕ, suc, ◌+◌, ◌<◌, ◌≤◌, List, length, sym, ◌∙◌, ap, subst, arith}
use Rattle.std.specs.Prelude.{slice_index, slice_get, Some, Contains}
use Rattle.std.proofs.lemmas.Bool.{cases_lt}
use Rattle.std.proofs.lemmas.Option.{slice_get_within}
use Rattle.pm_layout.specs.declared.Geometry.{Geometry}
use Rattle.pm_layout.specs.Geometry.{directs, slots, slot_word}
use Rattle.fingerprint.specs.Slot.{IsSlot, IsReadFrom}
use Rattle.fingerprint.specs.declared.slot.FactSlot.{FactSlot}
use Rattle.dn_model.specs.Table.{Row}
use Rattle.fact_slot.specs.Words.{words_of}
use Rattle.fact_table.specs.Seen.{as_row}
use Rattle.fact_table.specs.Chained.{IsChainFrom, IsFound, HasNoRow, slot_from, IsWalked}
use Rattle.fact_scan.proofs.Listed.{place_of, listed}
use Rattle.fact_scan.proofs.Held.{HoldsRow, answer, held_print, answer_is}
use Rattle.fact_table.proofs.Chains.{first_from, says_field, says_next, row_from, walked_all, rows_fit}

-- i slots were read, in any chain that begins there
pub record IsSearched (g : Geometry) (words : List ℕ) (first : ℕ) (print : List ℕ) (before i slot steps : ℕ) : Type 0 where
  pub steps_are : steps ≡ before + i
  pub walked : (rows : List Row) → IsChainFrom g words first rows → IsWalked rows print i slot

pub walk_begins : (g : Geometry) (words : List ℕ) (first : ℕ) (print : List ℕ) (rows : List Row) → IsChainFrom g words first rows
    → IsWalked rows print 0 first
walk_begins g words first print rows is = record {
  slot_is = is.first_is ∙ sym (first_from rows);
  within = omega arith;
  passed = λ k row lt got.
      absurd (omega arith);
}

module _ (g : Geometry) (words : List ℕ) (first : ℕ) (print : List ℕ) (rows : List Row) (is : IsChainFrom g words first rows)
    (i slot : ℕ) (walked : IsWalked rows print i slot) where
  -- where the next slot is 0, or as many were read as there are indirect slots, all rows were looked at
  pub walk_ends : slot ≡ 0 → HasNoRow rows print
  walk_ends ends = walked_all g words rows is.chained print i slot walked ends

  pub walk_over : g.pages ≤ i → HasNoRow rows print
  walk_over all row there same =
      let at = place_of rows row there in
      let long = slice_get_within rows at.0 row at.1 in
      let few = rows_fit g words rows is.chained in
      walked.passed at.0 row (omega arith) at.1 same

  -- else a row has the slot
  module _ (some : slot ≢ 0) where
    here : (row : Row) × (slice_get rows i ≡ Some row) × (row.slot ≡ slot_from rows i)
    here = row_from rows i (λ none. some (walked.slot_is ∙ none))

    at : here.0.slot ≡ slot
    at = here.2 ∙ sym walked.slot_is

    pub slot_low : directs g ≤ slot
    slot_low = let low = (is.chained.indirect i here.0 here.1).low in omega (arith, at, low)

    pub slot_high : slot < slots g
    slot_high = let high = (is.chained.indirect i here.0 here.1).high in omega (arith, at, high)

    pub more : i < length rows
    more = slice_get_within rows i here.0 here.1

    module _ (held : FactSlot) (read : IsReadFrom (words_of g words slot) held) (fits : IsSlot held) where
      stands : HoldsRow g words slot here.0
      stands = subst (λ (s : ℕ). HoldsRow g words s here.0) at (λ j lt. is.chained.reads _ _ (says_field g rows i here.0 j lt here.1))

      print_here : held.print ≡ here.0.print
      print_here = let valid = is.chained.indirect i here.0 here.1 in held_print g words slot here.0 held valid.print valid.uc stands read fits

      next_here : held.next ≡ slot_from rows (i + 1)
      next_here =
          let next = subst (λ (s : ℕ). slice_index words (slot_word g s 5) ≡ slot_from rows (suc i)) at
          (is.chained.reads _ _ (says_next g rows i here.0 here.1)) in
          let place : suc i ≡ i + 1 = omega arith in
          read.next ∙ next ∙ ap (slot_from rows) place

      pub walk_found : held.print ≡ print → IsFound rows print (as_row (answer slot held))
      walk_found same =
          let valid = is.chained.indirect i here.0 here.1 in
          let row = answer_is g words slot here.0 held valid.print valid.uc stands read fits at in
          record { there = subst (Contains rows) (sym row) (listed rows i here.0 here.1); print_is = same }

      pub walk_on : (held.print ≡ print → ⊥) → IsWalked rows print (i + 1) held.next
      walk_on other = record {
        slot_is = next_here;
        within = let long = more in omega arith;
        passed = λ k row lt got same. elim (cases_lt k i) [
          | inl before ↦ walked.passed k row before got same
          | inr from ↦
              let last : i ≡ k = omega arith in
              let one : here.0 ≡ row = some_one here.0 row (sym here.1 ∙ ap (slice_get rows) last ∙ got) in
              other (print_here ∙ ap (λ (r : Row). r.print) one ∙ same)
        ];
      }
        where
          some_one : (r s : Row) → Some r ≡ Some s → r ≡ s
          some_one r s e = cc
