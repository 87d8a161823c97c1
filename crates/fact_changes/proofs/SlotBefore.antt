-- The slot before a row is looked for along its chain.
use Rattle.std.proofs.Common.{◌≡◌, ◌≢◌, inl, inr, ⊎_elim, ℕ, ◌+◌, ◌<◌, ◌≤◌, Bool, List, [], ◌∷◌, length, refl, sym, ◌∙◌, ap, subst, arith}
use Rattle.std.specs.Prelude.{slice_index, Contains, if◌then◌else◌}
use Rattle.std.proofs.lemmas.Bool.{cases_eq}
use Rattle.pm_device.specs.Reading.{Reads}
use Rattle.pm_layout.specs.declared.Geometry.{Geometry}
use Rattle.pm_layout.specs.Geometry.{directs, slots, slot_word}
use Rattle.dn_model.specs.Table.{Row, RowsSay, at_next, at_later, first_slot, chained}
use Rattle.law_table.specs.Changes.{slot_before}
use Rattle.law_table.proofs.Rows.{same_test, other_test, listed_here, listed_later, listed_cases, at_listed}
use Rattle.law_table.proofs.Taken.{before_here, before_other}
use Rattle.fact_table.proofs.Chains.{rows_fit}
use Rattle.fact_changes.specs.Removal.{IsChainTo}

-- From slot `before` the rows that are left go on, and one of them has the slot. The slot before it is the one that
-- is looked for. Slot number i of at most so many was read.
pub record IsLeft (g : Geometry) (words : List ℕ) (slot target total i before : ℕ) (rest : List Row) : Type 0 where
  pub before_small : before < slots g
  pub next_is : slice_index words (slot_word g before 5) ≡ first_slot rest
  pub reads : Reads (RowsSay g rest) words
  pub small : (r : Row) → Contains rest r → r.slot < slots g
  pub row : Row
  pub there : Contains rest row
  pub slot_is : row.slot ≡ slot
  pub target_is : slot_before before rest slot ≡ target
  pub few : i + length rest ≤ total

pub record Left (g : Geometry) (words : List ℕ) (slot target total i before : ℕ) : Type 0 where
  pub rest : List Row
  pub is : IsLeft g words slot target total i before rest

-- so in any chain that goes on from the direct slot
pub record IsSought (g : Geometry) (words : List ℕ) (direct slot old i before steps : ℕ) : Type 0 where
  pub steps_are : steps ≡ old + i
  pub left : (rows : List Row) → IsChainTo g words direct slot rows → Left g words slot (slot_before direct rows slot) (length rows) i before

pub sought_begins : (g : Geometry) (words : List ℕ) (direct slot : ℕ) → direct < directs g → (rows : List Row) → IsChainTo g words direct slot rows
    → Left g words slot (slot_before direct rows slot) (length rows) 0 direct
sought_begins g words direct slot lt rows is = record {
  rest = rows;
  is = record {
    before_small = omega (arith, lt);
    next_is = is.from.first_is;
    reads = is.from.chained.reads;
    small = λ r has. (is.from.chained.indirect has.0 r (at_listed rows r has)).high;
    row = is.row;
    there = is.there;
    slot_is = is.slot_is;
    target_is = refl;
    few = omega arith;
  };
}

module _ (g : Geometry) (words : List ℕ) (slot target total i before next : ℕ) (next_is : next ≡ slice_index words (slot_word g before 5)) where
  -- the next word leads to the slot: it is found
  pub sought_found : Left g words slot target total i before → next ≡ slot → (before ≡ target) × (i + 1 ≤ total)
  sought_found left here = by_rest left.rest left.is
    where
      by_rest : (rest : List Row) → IsLeft g words slot target total i before rest → (before ≡ target) × (i + 1 ≤ total)
      by_rest [] is = absurd (omega (arith, is.there.1))
      by_rest (x ∷ xs) is = (sym (before_here slot before x xs (sym (next_is ∙ is.next_is) ∙ here)) ∙ is.target_is, omega (arith, is.few))

  -- or to another: the walk goes on there
  pub sought_on : Left g words slot target total i before → next ≢ slot → Left g words slot target total (i + 1) next
  sought_on left other = by_rest left.rest left.is
    where
      by_rest : (rest : List Row) → IsLeft g words slot target total i before rest → Left g words slot target total (i + 1) next
      by_rest [] is = absurd (omega (arith, is.there.1))
      by_rest (x ∷ xs) is =
          let at : next ≡ x.slot = next_is ∙ is.next_is in
          let ne : x.slot ≢ slot = λ e. other (at ∙ e) in
          subst (Left g words slot target total (i + 1)) (sym at) (record {
            rest = xs;
            is = record {
              before_small = is.small x (listed_here x xs);
              next_is = is.reads (slot_word g x.slot 5) (first_slot xs) (at_next refl refl);
              reads = λ a v says. is.reads a v (at_later says);
              small = λ r has. is.small r (listed_later x xs r has);
              row = is.row;
              there = ⊎_elim (λ (e : x ≡ is.row). absurd (ne (ap (λ (r : Row). r.slot) e ∙ is.slot_is))) (λ (later : Contains xs is.row). later)
                  (listed_cases x xs is.row is.there);
              slot_is = is.slot_is;
              target_is = sym (before_other slot before x xs ne) ∙ is.target_is;
              few = omega (arith, is.few);
            };
          })

-- as many steps as there are indirect slots find it
pub sought_ends : (g : Geometry) (words : List ℕ) (direct slot i before : ℕ) (rows : List Row) → IsChainTo g words direct slot rows
    → Left g words slot (slot_before direct rows slot) (length rows) i before
    → g.pages ≤ i → ⊥
sought_ends g words direct slot i before rows is left all =
    let fit = rows_fit g words rows is.from.chained in
    omega (arith, left.is.few, left.is.there.1, fit, all)

-- the slot before a row of another slot is the same, whether or not the direct slot has a row
pub before_behind : (direct slot : ℕ) → slot ≢ direct → (rs : List Row) → slot_before direct (chained direct rs) slot ≡ slot_before direct rs slot
before_behind direct slot ne [] = refl
before_behind direct slot ne (x ∷ rs) = elim (cases_eq x.slot direct) [
  | inl e ↦
      ap (λ (b : Bool). slot_before direct (if b then rs else x ∷ rs) slot) (same_test x.slot direct e)
      ∙ ap (λ (b : ℕ). slot_before b rs slot) (sym e) ∙ sym (before_other slot direct x rs (λ same. ne (sym same ∙ e)))
  | inr other ↦ ap (λ (b : Bool). slot_before direct (if b then rs else x ∷ rs) slot) (other_test x.slot direct other)
]
