-- What is kept in ordinary memory while a table is loaded.
use Rattle.std.proofs.Common.{
  ◌≡◌,
  ◌≢◌,
  inl,
  inr,
  ℕ,
  ◌+◌,
  ◌-◌,
  ◌^◌,
  ◌<◌,
  ◌≤◌,
  Bool,
  true,
  false,
  List,
  [],
  ◌∷◌,
  ◌++◌,
  length,
  map,
  take,
  get_or,
  refl,
  sym,
  ◌∙◌,
  ap,
  subst,
  arith,
}
use Rattle.std.specs.Prelude.{slice_index, slice_index_or, slice_set, Contains, Result, Ok, Err, IfOk, ◌↔◌}
use Rattle.std.proofs.lemmas.Bool.{cases_eq, false≢true}
use Rattle.std.proofs.lemmas.List.{get_or-set_same, get_or-set_other, length-set, take_more, map-append}
use Rattle.std.proofs.Math.Pow.{pow_mono}
use Rattle.pm_layout.specs.declared.Geometry.{Geometry}
use Rattle.pm_layout.specs.Geometry.{IsAccepted, directs, slots, prefix_bits}
use Rattle.pm_layout.proofs.Bits.{bits_of_within}
use Rattle.page_alloc.specs.Free.{FreePages, GivesBack}
use Rattle.dn_model.specs.Table.{Row}
use Rattle.fact_scan.specs.declared.row.Row.{Row as FoundRow}
use Rattle.fact_scan.specs.Seen.{as_row}
use Rattle.fact_scan.proofs.Pushed.{in-push_cases, in-push_old, in-push_new}
use Rattle.fact_table.specs.Loaded.{ArePointers, AreUsed, AreUnused}

-- the first n numbers that aren't marked are in the set
pub record HasUnmarked (used : List Bool) (n : ℕ) (set : FreePages) : Type 0 where
  pub all : set.pages ≡ length used
  pub unmarked : (k : ℕ) → Contains set.free k → (k < n) × (slice_index_or used k false ≡ false)
  pub there : (k : ℕ) → k < n → slice_index_or used k false ≡ false → Contains set.free k

pub unmarked_none : (used : List Bool) (set : FreePages) → set ≡ record { pages = length used; free = [] } → HasUnmarked used 0 set
unmarked_none used set is = record {
  all = ap (λ (s : FreePages). s.pages) is;
  unmarked = λ k has. let none = subst (λ (s : FreePages). Contains s.free k) is has in absurd (omega (arith, none.1));
  there = λ k lt. absurd (omega (arith, lt));
}

module _ (used : List Bool) (n : ℕ) (set : FreePages) (has : HasUnmarked used n set) where
  pub unmarked-past : slice_index_or used n false ≡ true → HasUnmarked used (n + 1) set
  unmarked-past marked = record {
    all = has.all;
    unmarked = λ k in_set. let old = has.unmarked k in_set in (omega (arith, old.0), old.1);
    there = λ k lt free. elim (cases_eq k n) [
      | inl e ↦ absurd (false≢true (sym free ∙ ap (λ (j : ℕ). slice_index_or used j false) e ∙ marked))
      | inr ne ↦ has.there k (omega (arith, lt, ne)) free
    ];
  }

  pub unmarked-more : slice_index_or used n false ≡ false → (set' : FreePages) → GivesBack n set set' → HasUnmarked used (n + 1) set'
  unmarked-more free set' gives = record {
    all = gives.pages ∙ has.all;
    unmarked = λ k in_set. elim (cases_eq k n) [
      | inl e ↦ (omega (arith, e), ap (λ (j : ℕ). slice_index_or used j false) e ∙ free)
      | inr ne ↦ let old = has.unmarked k ((gives.others k ne).0 in_set) in (omega (arith, old.0), old.1)
    ];
    there = λ k lt is_free. elim (cases_eq k n) [
      | inl e ↦ subst (Contains set'.free) (sym e) gives.there
      | inr ne ↦ (gives.others k ne).1 (has.there k (omega (arith, lt, ne)) is_free)
    ];
  }

  pub unmarked_new : ¬ Contains set.free n
  unmarked_new in_set = let old = has.unmarked n in_set in omega (arith, old.0)

-- the pointer of one row more
module _ (g : Geometry) (rs : List Row) (wanted : List ℕ) (is : ArePointers g rs wanted) (row : Row) (small : row.page < g.pages) where
  at_page : (page : ℕ) → page ≡ row.page → slice_index (slice_set wanted row.page (row.slot + 1)) page ≡ row.slot + 1
  at_page page e = let lt : row.page < length wanted = omega (arith, small, is.all) in ap (slice_index (slice_set wanted row.page (row.slot + 1)))
      e ∙ get_or-set_same wanted row.page (row.slot + 1) 0 lt

  elsewhere : (page : ℕ) → page ≢ row.page → slice_index (slice_set wanted row.page (row.slot + 1)) page ≡ slice_index wanted page
  elsewhere page ne = get_or-set_other wanted row.page page (row.slot + 1) 0 ne

  pub pointers-more : ArePointers g (rs ++ row ∷ []) (slice_set wanted row.page (row.slot + 1))
  pointers-more = record {
    all = length-set wanted row.page (row.slot + 1) ∙ is.all;
    some = λ r there none. elim (cases_eq r.page row.page) [
      | inl e ↦ omega (arith, none, at_page r.page e)
      | inr ne ↦ elim (in-push_cases rs row r there) [
        | inl old ↦ is.some r old (sym (elsewhere r.page ne) ∙ none)
        | inr same ↦ ne (ap (λ (x : Row). x.page) (sym same))
      ]
    ];
    leads = λ page some. elim (cases_eq page row.page) [
      | inl e ↦ (row, in-push_new rs row, sym e, at_page page e)
      | inr ne ↦ let old = is.leads page (λ none. some (elsewhere page ne ∙ none)) in (
        old.0,
        in-push_old rs row old.0 old.1,
        old.2,
        elsewhere page ne ∙ old.3,
      )
    ];
  }

-- the slot of one row more
module _ (g : Geometry) (rs : List Row) (used : List Bool) (is : AreUsed g rs used) (row : Row) where
  pub used-direct : row.slot < directs g → AreUsed g (rs ++ row ∷ []) used
  used-direct direct = record {
    all = is.all;
    some = λ r there far. elim (in-push_cases rs row r there) [
      | inl old ↦ is.some r old far
      | inr same ↦ absurd (omega (arith, direct, far, ap (λ (x : Row). x.slot) same))
    ];
    taken = λ k marked. let old = is.taken k marked in (old.0, in-push_old rs row old.0 old.1, old.2);
  }

  module _ (far : directs g ≤ row.slot) (small : row.slot < slots g) where
    abbrev place : ℕ
    place = row.slot - directs g

    at_place : (k : ℕ) → k ≡ place → slice_index_or (slice_set used place true) k false ≡ true
    at_place k e = let lt : place < length used = omega (arith, far, small, is.all) in
        ap (λ (j : ℕ). slice_index_or (slice_set used place true) j false) e ∙ get_or-set_same used place true false lt

    apart : (k : ℕ) → k ≢ place → slice_index_or (slice_set used place true) k false ≡ slice_index_or used k false
    apart k ne = get_or-set_other used place k true false ne

    pub used-more : AreUsed g (rs ++ row ∷ []) (slice_set used place true)
    used-more = record {
      all = length-set used place true ∙ is.all;
      some = λ r there r_far. elim (cases_eq (r.slot - directs g) place) [
        | inl e ↦ at_place (r.slot - directs g) e
        | inr ne ↦ elim (in-push_cases rs row r there) [
          | inl old ↦ apart (r.slot - directs g) ne ∙ is.some r old r_far
          | inr same ↦ absurd (ne (ap (λ (x : Row). x.slot - directs g) (sym same)))
        ]
      ];
      taken = λ k marked. elim (cases_eq k place) [
        | inl e ↦ (row, in-push_new rs row, omega (arith, e, far))
        | inr ne ↦ let old = is.taken k (sym (apart k ne) ∙ marked) in (old.0, in-push_old rs row old.0 old.1, old.2)
      ];
    }

-- one row more is seen
pub rows-more : (found : List FoundRow) (k : ℕ) (default : FoundRow) → k < length found → map as_row (take (k + 1) found) ≡ map as_row (take k found)
    ++ as_row (get_or found k default) ∷ []
rows-more found k default lt = ap (map as_row) (take_more found k default lt) ∙ map-append as_row (take k found) (get_or found k default ∷ [])

-- there are few slots
pub slots-few : (g : Geometry) → IsAccepted g → slots g ≤ 131072
slots-few g accepted =
    let bits = bits_of_within g.pages in
    let most : 2 ^ prefix_bits g ≤ 65536 = pow_mono {i = prefix_bits g} {j = 16} bits.1 in omega (arith, most, accepted.few_pages)

-- no pointers and no slots, where there are no rows
pub pointers_none : (g : Geometry) (wanted : List ℕ) → length wanted ≡ g.pages → ((k : ℕ) → slice_index wanted k ≡ 0) → ArePointers g [] wanted
pointers_none g wanted all none = record {
  all = all;
  some = λ row there. absurd (omega (arith, there.1));
  leads = λ page some. absurd
      (some (none page));
}

pub used_none : (g : Geometry) (used : List Bool) → length used ≡ g.pages → ((k : ℕ) → slice_index_or used k false ≡ false) → AreUsed g [] used
used_none g used all none = record {
  all = all;
  some = λ row there far. absurd (omega (arith, there.1));
  taken = λ k marked. absurd
      (false≢true (sym (none k) ∙ marked));
}

-- the numbers that aren't marked are the slots without a row
pub unused_from : (g : Geometry) (rs : List Row) (used : List Bool) (set : FreePages) → AreUsed g rs used → HasUnmarked used (length used) set
    → AreUnused g rs set
unused_from g rs used set is has = record {
  all = has.all ∙ is.all;
  free = λ k in_set row there at.
      let e : row.slot - directs g ≡ k = omega (arith, at) in
      false≢true (sym (has.unmarked k in_set).1 ∙ ap (λ (j : ℕ). slice_index_or used j false) (sym e) ∙ is.some row there (omega (arith, at)));
  taken = λ k lt not_in. by_mark k lt not_in (slice_index_or used k false) refl;
}
  where
    by_mark : (k : ℕ) → k < g.pages → ¬ Contains set.free k → (b : Bool) → slice_index_or used k false ≡ b
        → (row : Row) × Contains rs row × (row.slot ≡ directs g + k)
    by_mark k lt not_in true e = is.taken k e
    by_mark k lt not_in false e = absurd (not_in (has.there k (omega (arith, lt, is.all)) e))

pub unused_ok : {E : Type 0} (g : Geometry) (rs : List Row) (used : List Bool) → AreUsed g rs used → (r : Result FreePages E)
    → IfOk r (λ set. set.pages ≡ length used)
    → IfOk r (λ set. (k : ℕ) → Contains set.free k ↔ ((k < length used) × (slice_index_or used k false ≡ false))) → IfOk r (λ set. AreUnused g rs set)
unused_ok g rs used is (Ok set) all free = unused_from g rs used set is
    (record { all = all; unmarked = λ k in_set. (free k).0 in_set; there = λ k lt is_free. (free k).1 (lt, is_free) })
unused_ok g rs used is (Err e) all free = tt
