-- A walk along the pages of a log.
use Rattle.std.proofs.Common.{
  ◌≡◌,
  ◌≢◌,
  ◌⊎◌,
  inl,
  inr,
  ⊎_elim,
  ℕ,
  ◌+◌,
  ◌-◌,
  ◌*◌,
  ◌<◌,
  ◌≤◌,
  true,
  false,
  eqb,
  get_or,
  List,
  [],
  ◌∷◌,
  ◌++◌,
  length,
  refl,
  sym,
  ◌∙◌,
  ap,
  subst,
  arith,
  length-append,
}
use Rattle.std.specs.Prelude.{slice_index, Contains}
use Rattle.std.proofs.lemmas.Bool.{cases_lt, cases_eq}
use Rattle.std.proofs.lemmas.List.{get_or_append_left, get_or_at, get_or_default}
use Rattle.std.specs.List.{list_any}
use Rattle.std.proofs.lemmas.List.Folds.{list_any_none}
use Rattle.std.proofs.lemmas.Map.Keys.{IsDistinct-from_apart}
use Rattle.std.proofs.lemmas.Map.Steps.{length-le_from_distinct_below}
use Rattle.std.proofs.lemmas.Bool.{false≢true}
use Rattle.std.proofs.lemmas.Bool.Decides.{nat_tests}
use Rattle.pm_layout.specs.declared.Geometry.{Geometry}
use Rattle.pm_layout.specs.Geometry.{InData}
use Rattle.page_alloc.specs.Free.{FreePages, GivesBack}
use Rattle.dn_model.specs.Log.{footer_word}
use Rattle.log_walk.specs.Way.{IsPart, IsWay, next_page}

-- these pages are read, none of them the last, and this page is next; the set has just these
pub record OnWay (g : Geometry) (c : List ℕ) (head last : ℕ) (pages : List ℕ) (page : ℕ) (met : FreePages) : Type 0 where
  pub part : IsPart g c head last pages
  pub ahead : (k : ℕ) → k < length pages → slice_index pages k ≢ last
  pub next_first : length pages ≡ 0 → head ≡ page
  pub next : (k : ℕ) → k + 1 ≡ length pages → slice_index c (footer_word pages k) ≡ page
  pub all : met.pages ≡ g.pages
  pub met_there : (q : ℕ) → Contains met.free q → Contains pages q
  pub there_met : (q : ℕ) → Contains pages q → Contains met.free q

pub starts_way : (g : Geometry) (c : List ℕ) (head last : ℕ) (met : FreePages) → met ≡ record { pages = g.pages; free = [] }
    → OnWay g c head last [] head met
starts_way g c head last met is = record {
  part = record {
    in_data = λ k lt. absurd (omega arith);
    apart = λ j k jl. absurd (omega arith);
    starts = λ some. absurd (omega arith);
    chained = λ k lt. absurd (omega arith);
    not_last = λ k lt. absurd (omega arith);
  };
  ahead = λ k lt. absurd (omega arith);
  next_first = λ none. refl;
  next = λ k e. absurd (omega arith);
  all = ap (λ (m : FreePages). m.pages) is;
  met_there = λ q there. subst (λ (m : FreePages). Contains m.free q) is there;
  there_met = λ q there. subst (λ (m : FreePages). Contains m.free q) (sym is) there;
}

-- pages that are different and below a number aren't more than it
pub few_pages : (g : Geometry) (c : List ℕ) (head last : ℕ) (all : List ℕ) → IsPart g c head last all → length all ≤ g.pages
few_pages g c head last all part = length-le_from_distinct_below all g.pages (IsDistinct-from_apart eqb all differ) within
  where
    value : (k : ℕ) (d : ℕ) → k < length all → get_or all k d ≡ slice_index all k
    value k d lt = get_or_default all k d 0 lt

    unequal : (a b : ℕ) → a ≢ b → eqb a b ≡ false
    unequal a b ne = grind (arith, nat_tests)

    differ : (i j d : ℕ) → i < j → j < length all → eqb (get_or all i d) (get_or all j d) ≡ false
    differ i j d lt jl = unequal _ _ (λ e. let same : i ≡ j = part.apart i j (omega arith) jl (sym (value i d (omega arith)) ∙ e ∙ value j d jl) in
        omega arith)

    within : (q : ℕ) → list_any (eqb q) all ≡ true → q < g.pages
    within q any = elim (cases_lt q g.pages) [
      | inl low ↦ low
      | inr high ↦ absurd (false≢true
          (sym (list_any_none (eqb q) all (λ k d lt. unequal q _ (λ e. omega (arith, high, e, value k d lt, (part.in_data k lt).high)))) ∙ any))
    ]

module _ (g : Geometry) (c : List ℕ) (head last page : ℕ) (pages : List ℕ) (met : FreePages) (way : OnWay g c head last pages page met) where
  abbrev grown : List ℕ
  grown = pages ++ page ∷ []

  long_grown : length grown ≡ length pages + 1
  long_grown = length-append pages (page ∷ [])

  old_at : (k : ℕ) → k < length pages → slice_index grown k ≡ slice_index pages k
  old_at k lt = get_or_append_left pages (page ∷ []) 0 k lt

  new_at : (k : ℕ) → length pages ≡ k → slice_index grown k ≡ page
  new_at k e = get_or_at pages page [] 0 k e

  old_there : (q : ℕ) → Contains pages q → Contains grown q
  old_there q at = (
    at.0,
    omega (arith, long_grown, at.1),
    get_or_default grown at.0 q 0 (omega (arith, long_grown, at.1)) ∙ old_at at.0 at.1 ∙ sym
        (get_or_default pages at.0 q 0 at.1) ∙ at.2,
  )

  new_there : (q : ℕ) → q ≡ page → Contains grown q
  new_there q e = (
    length pages,
    omega (arith, long_grown),
    get_or_default grown (length pages) q 0 (omega (arith, long_grown)) ∙ new_at
        (length pages) refl ∙ sym e,
  )

  only_there : (q : ℕ) → q ≢ page → Contains grown q → Contains pages q
  only_there q ne at = elim (cases_lt at.0 (length pages)) [
    | inl low ↦ (at.0, low, get_or_default pages at.0 q 0 low ∙ sym (old_at at.0 low) ∙ sym (get_or_default grown at.0 q 0 at.1) ∙ at.2)
    | inr high ↦ absurd (ne (sym at.2 ∙ get_or_default grown at.0 q 0 at.1 ∙ new_at at.0 (omega (arith, long_grown, at.1))))
  ]

  -- one page more
  part_grown : InData g page → (Contains met.free page → ⊥) → IsPart g c head last grown
  part_grown in_data fresh = record {
    in_data = λ k lt. elim (cases_lt k (length pages)) [
      | inl low ↦ subst (InData g) (sym (old_at k low)) (way.part.in_data k low)
      | inr high ↦ subst (InData g) (sym (new_at k (omega (arith, long_grown)))) in_data
    ];
    apart = apart;
    starts = λ some. elim (cases_lt 0 (length pages)) [
      | inl low ↦ way.part.starts low ∙ sym (old_at 0 low)
      | inr high ↦ way.next_first (omega arith) ∙ sym (new_at 0 (omega arith))
    ];
    chained = λ k lt. elim (cases_lt (k + 1) (length pages)) [
      | inl low ↦ ap (λ (p : ℕ). slice_index c (512 * p + 504)) (old_at k (omega arith)) ∙ way.part.chained k low ∙ sym (old_at (k + 1) low)
      | inr high ↦ ap (λ (p : ℕ). slice_index c (512 * p + 504)) (old_at k (omega (arith, long_grown))) ∙ way.next k (omega (arith, long_grown)) ∙ sym
          (new_at (k + 1) (omega (arith, long_grown)))
    ];
    not_last = λ k lt e. way.ahead k (omega (arith, long_grown)) (sym (old_at k (omega (arith, long_grown))) ∙ e);
  }
    where
      met_at : (j : ℕ) → j < length pages → slice_index pages j ≡ page → Contains met.free page
      met_at j lt e = way.there_met page (j, lt, get_or_default pages j page 0 lt ∙ e)

      apart : (j k : ℕ) → j < length grown → k < length grown → slice_index grown j ≡ slice_index grown k → j ≡ k
      apart j k jl kl e = elim (cases_lt j (length pages)) [
        | inl jlow ↦ elim (cases_lt k (length pages)) [
          | inl klow ↦ way.part.apart j k jlow klow (sym (old_at j jlow) ∙ e ∙ old_at k klow)
          | inr khigh ↦ absurd (fresh (met_at j jlow (sym (old_at j jlow) ∙ e ∙ new_at k (omega (arith, long_grown)))))
        ]
        | inr jhigh ↦ elim (cases_lt k (length pages)) [
          | inl klow ↦ absurd (fresh (met_at k klow (sym (old_at k klow) ∙ sym e ∙ new_at j (omega (arith, long_grown)))))
          | inr khigh ↦ omega (arith, long_grown)
        ]
      ]

  pub way_on : InData g page → (Contains met.free page → ⊥) → page ≢ last → (met' : FreePages) → GivesBack page met met'
      → OnWay g c head last grown (slice_index c (512 * page + 504)) met'
  way_on in_data fresh ne met' gives = record {
    part = part_grown in_data fresh;
    ahead = λ k lt. elim (cases_lt k (length pages)) [
      | inl low ↦ λ e. way.ahead k low (sym (old_at k low) ∙ e)
      | inr high ↦ λ e. ne (sym (new_at k (omega (arith, long_grown))) ∙ e)
    ];
    next_first = λ none. absurd (omega (arith, long_grown));
    next = λ k e. ap (λ (p : ℕ). slice_index c (512 * p + 504)) (new_at k (omega (arith, long_grown)));
    all = gives.pages ∙ way.all;
    met_there = λ q there. elim (cases_eq q page) [
      | inl e ↦ new_there q e
      | inr other ↦ old_there q (way.met_there q ((gives.others q other).0 there))
    ];
    there_met = λ q there. elim (cases_eq q page) [
      | inl e ↦ subst (Contains met'.free) (sym e) gives.there
      | inr other ↦ (gives.others q other).1 (way.there_met q (only_there q other there))
    ];
  }

  -- there is room for it
  pub way_few : InData g page → (Contains met.free page → ⊥) → length pages < g.pages
  way_few in_data fresh = omega (arith, few_pages g c head last grown (part_grown in_data fresh), long_grown)

  pub way_whole : InData g page → (Contains met.free page → ⊥) → page ≡ last → IsWay g c head last grown true
  way_whole in_data fresh e = record {
    part = part_grown in_data fresh;
    few = few_pages g c head last grown (part_grown in_data fresh);
    ends = record { some = omega (arith, long_grown); ends = new_at (length grown - 1) (omega (arith, long_grown)) ∙ e };
  }

  pub way_stopped : (InData g page → ⊥) ⊎ Contains met.free page → IsWay g c head last pages false
  way_stopped why = record {
    part = way.part;
    few = few_pages g c head last pages way.part;
    ends = record { not_met = way.ahead; stops = λ in_data. by_next (next_page c head pages) (is_next pages way.next_first way.next) in_data };
  }
    where
      is_next : (ps : List ℕ) → (length ps ≡ 0 → head ≡ page) → ((k : ℕ) → k + 1 ≡ length ps → slice_index c (footer_word ps k) ≡ page)
          → next_page c head ps ≡ page
      is_next [] first later = first refl
      is_next (p ∷ ps) first later = later (length ps) (omega arith)

      by_next : (next : ℕ) → next ≡ page → InData g next → Contains pages next
      by_next next e in_data = subst (Contains pages) (sym e) (⊎_elim
          (λ (out : InData g page → ⊥). absurd (out (subst (InData g) e in_data)))
          (λ (there : Contains met.free page). way.met_there page there) why)
