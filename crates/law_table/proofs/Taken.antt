-- Rows without the one at a slot: which there are then, and at which places.
use Rattle.std.proofs.Common.{
  ◌≡◌,
  ◌≢◌,
  ◌⊎◌,
  inl,
  inr,
  ⊎_elim,
  ℕ,
  zero,
  suc,
  ◌+◌,
  ◌≤◌,
  Bool,
  true,
  false,
  List,
  [],
  ◌∷◌,
  ◌++◌,
  refl,
  sym,
  ◌∙◌,
  ap,
  subst,
  arith,
}
use Rattle.std.specs.Prelude.{slice_get, if◌then◌else◌, ◌==◌, Option, Some, None, IsNone, Contains}
use Rattle.std.proofs.lemmas.Bool.{cases_eq}
use Rattle.std.proofs.lemmas.List.Elements.{All-head, All-tail}
use Rattle.pm_layout.specs.Geometry.{directs}
use Rattle.dn_model.specs.Table.{Row, row_of, rows_from, first_slot}
use Rattle.dn_model.specs.Disk.{Disk, rows}
use Rattle.law_table.specs.Changes.{without, removed, slot_before, slot_after}
use Rattle.law_table.proofs.Rows.{
  same_test,
  other_test,
  all_listed,
  listed_here,
  listed_later,
  listed_cases,
  none_found,
  IsDistinct,
  distinct_tail,
  distinct_head,
}
use Rattle.law_table.proofs.Slots.{AreElsewhere, HasSlot}
use Rattle.law_table.proofs.Put.{IsPut, put_here, put_later, put_found}

module _ (slot : ℕ) where
  pub without_here : (x : Row) (rs : List Row) → x.slot ≡ slot → without slot (x ∷ rs) ≡ without slot rs
  without_here x rs e = ap (λ (b : Bool). if b then without slot rs else x ∷ without slot rs) (same_test x.slot slot e)

  pub without_other : (x : Row) (rs : List Row) → x.slot ≢ slot → without slot (x ∷ rs) ≡ x ∷ without slot rs
  without_other x rs ne = ap (λ (b : Bool). if b then without slot rs else x ∷ without slot rs) (other_test x.slot slot ne)

  pub without_none : (rs : List Row) → AreElsewhere slot rs → without slot rs ≡ rs
  without_none [] others = refl
  without_none (x ∷ rs) others =
      without_other x rs (All-head (λ (r : Row). r.slot ≢ slot) x rs others) ∙ ap (λ (ys : List Row). x ∷ ys)
      (without_none rs (All-tail (λ (r : Row). r.slot ≢ slot) x rs others))

  pub without_append : (xs ys : List Row) → without slot (xs ++ ys) ≡ without slot xs ++ without slot ys
  without_append [] ys = refl
  without_append (x ∷ xs) ys = by_test (x.slot == slot) (without_append xs ys)
    where
      by_test : (b : Bool) → without slot (xs ++ ys) ≡ without slot xs ++ without slot ys
          → (if b then without slot (xs ++ ys) else x ∷ without slot (xs ++ ys)) ≡ (if b then without slot xs else x ∷ without slot xs) ++ without
          slot ys
      by_test true e = e
      by_test false e = ap (λ (zs : List Row). x ∷ zs) e

  -- a row that is left stood at its place or later
  pub without_at : (rs : List Row) (k : ℕ) (r : Row) → slice_get (without slot rs) k ≡ Some r → (j : ℕ) × (slice_get rs j ≡ Some r) × (k ≤ j)
  without_at [] k r is = cc
  without_at (x ∷ rs) k r is = by_test (x.slot == slot) k (λ j at. without_at rs j r at) is
    where
      by_test : (b : Bool) (k : ℕ) → ((j : ℕ) → slice_get (without slot rs) j ≡ Some r → (i : ℕ) × (slice_get rs i ≡ Some r) × (j ≤ i))
          → slice_get (if b then without slot rs else x ∷ without slot rs) k ≡ Some r → (j : ℕ) × (slice_get (x ∷ rs) j ≡ Some r) × (k ≤ j)
      by_test true k later at = let found = later k at in (suc found.0, found.1, omega (arith, found.2))
      by_test false zero later at = (0, at, omega arith)
      by_test false (suc k) later at = let found = later k at in (suc found.0, found.1, omega (arith, found.2))

  -- the row of that slot is the one that is gone
  pub without_put : (rs : List Row) (row : Row) → IsDistinct (λ (r : Row). r.slot) rs → Contains rs row → row.slot ≡ slot
      → IsPut row (without slot rs) rs
  without_put [] row apart has e = absurd (omega (arith, has.1))
  without_put (x ∷ rs) row apart has e = ⊎_elim
      (λ (here : x ≡ row).
      let at_slot : x.slot ≡ slot = ap (λ (r : Row). r.slot) here ∙ e in
      let none : without slot (x ∷ rs) ≡ rs = without_here x rs at_slot
      ∙ without_none rs (all_listed (λ (r : Row). r.slot ≢ slot) rs (λ r listed same. distinct_head (λ (y : Row). y.slot) x rs apart r listed
      (same ∙ sym at_slot))) in
      subst (λ (ys : List Row). IsPut row ys (x ∷ rs)) (sym none) (subst (λ (y : Row). IsPut row rs (y ∷ rs)) (sym here) put_here))
      (λ (later : Contains rs row).
      let other : x.slot ≢ slot = λ same. distinct_head (λ (y : Row). y.slot) x rs apart row later (e ∙ sym same) in
      subst (λ (ys : List Row). IsPut row ys (x ∷ rs)) (sym (without_other x rs other))
      (put_later (without_put rs row (distinct_tail (λ (y : Row). y.slot) x rs apart) later e)))
      (listed_cases x rs row has)

  rows_without : (chain : ℕ → List Row) (s n : ℕ) → rows_from (λ p. without slot (chain p)) s n ≡ without slot (rows_from chain s n)
  rows_without chain s zero = refl
  rows_without chain s (suc n) = ap (λ (rs : List Row). without slot (chain s) ++ rs) (rows_without chain (s + 1) n) ∙ sym
      (without_append (chain s) (rows_from chain (s + 1) n))

  pub rows_removed : (d : Disk) → rows (removed d slot) ≡ without slot (rows d)
  unfolding rows
  rows_removed d = rows_without d.chain 0 (directs d.geometry)

  -- the slot before is the one that the chain comes from, or a row's
  pub before_owned : (b : ℕ) (rs : List Row) → (slot_before b rs slot ≡ b) ⊎ HasSlot rs (slot_before b rs slot)
  before_owned b [] = inl refl
  before_owned b (x ∷ rs) = by_test (x.slot == slot) (before_owned x.slot rs)
    where
      by_test : (t : Bool) → (slot_before x.slot rs slot ≡ x.slot) ⊎ HasSlot rs (slot_before x.slot rs slot)
          → ((if t then b else slot_before x.slot rs slot) ≡ b) ⊎ HasSlot (x ∷ rs) (if t then b else slot_before x.slot rs slot)
      by_test true later = inl refl
      by_test false (inl same) = inr (x, listed_here x rs, sym same)
      by_test false (inr has) = inr (has.0, listed_later x rs has.0 has.1, has.2)

  pub before_here : (b : ℕ) (x : Row) (rs : List Row) → x.slot ≡ slot → slot_before b (x ∷ rs) slot ≡ b
  before_here b x rs e = ap (λ (t : Bool). if t then b else slot_before x.slot rs slot) (same_test x.slot slot e)

  pub before_other : (b : ℕ) (x : Row) (rs : List Row) → x.slot ≢ slot → slot_before b (x ∷ rs) slot ≡ slot_before x.slot rs slot
  before_other b x rs ne = ap (λ (t : Bool). if t then b else slot_before x.slot rs slot) (other_test x.slot slot ne)

  pub after_here : (x : Row) (rs : List Row) → x.slot ≡ slot → slot_after (x ∷ rs) slot ≡ first_slot rs
  after_here x rs e = ap (λ (t : Bool). if t then first_slot rs else slot_after rs slot) (same_test x.slot slot e)

  pub after_other : (x : Row) (rs : List Row) → x.slot ≢ slot → slot_after (x ∷ rs) slot ≡ slot_after rs slot
  after_other x rs ne = ap (λ (t : Bool). if t then first_slot rs else slot_after rs slot) (other_test x.slot slot ne)

-- the row of a page, once a row is gone
pub taken_found : (row : Row) (olds news : List Row) → IsPut row news olds → ((r : Row) → Contains news r → r.page ≢ row.page) → (page : ℕ)
    → row_of news page ≡ (if row.page == page then None else row_of olds page)
taken_found row olds news put other page = elim (cases_eq row.page page) [
  | inl e ↦ none_is (row_of news page) (none_found news page (λ r has at. other r has (at ∙ sym e))) ∙ ap
      (λ (b : Bool). if b then None else row_of olds page) (sym (same_test row.page page e))
  | inr ne ↦
      let off : (row.page == page) ≡ false = other_test row.page page ne in
      ap (λ (b : Bool). if b then Some row else row_of news page) (sym off) ∙ sym (put_found row news olds put other page) ∙ ap
      (λ (b : Bool). if b then None else row_of olds page) (sym off)
]
  where
    none_is : (r : Option Row) → IsNone r → r ≡ None
    none_is None none = refl
    none_is (Some x) none = cc
