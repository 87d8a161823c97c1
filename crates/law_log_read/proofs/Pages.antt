-- The pages of a log, from its head on, up to the last or to where they end.
use Rattle.std.proofs.Common.{
  ◌≡◌,
  ◌≢◌,
  ◌⊎◌,
  inl,
  inr,
  ⊎_elim,
  ℕ,
  zero,
  suc,
  ◌+◌,
  ◌*◌,
  ◌<◌,
  ◌≤◌,
  Bool,
  true,
  false,
  List,
  [],
  ◌∷◌,
  ◌++◌,
  length,
  refl,
  sym,
  arith,
  length-append,
}
use Rattle.std.specs.Prelude.{slice_index, Contains}
use Rattle.std.proofs.lemmas.Bool.{cases_eq}
use Rattle.pm_layout.specs.declared.Geometry.{Geometry}
use Rattle.pm_layout.specs.Geometry.{InData, first_data}
use Rattle.page_alloc.specs.Free.{FreePages, GivesBack, with_page}
use Rattle.page_alloc.proofs.FreeLaws.{length-with_page, Contains-with_page}
use Rattle.log_walk.specs.Way.{IsWay}
use Rattle.log_walk.proofs.Paged.{OnWay, starts_way, way_on, way_few, way_whole, way_stopped}
use Rattle.law_log_read.proofs.Decided.{Decided, le_decided, lt_decided, same_decided, both_decided, contains_decided}

pub data_decided : (g : Geometry) (page : ℕ) → Decided (InData g page)
data_decided g page =
    same_decided ((first_data g ≤ page) × (page < g.pages)) (InData g page) (λ both. record { low = both.0; high = both.1 }) (λ is. (is.low, is.high))
    (both_decided (first_data g ≤ page) (page < g.pages) (le_decided (first_data g) page) (lt_decided page g.pages))

-- a page more is met
met_with : FreePages → ℕ → FreePages
met_with met page = record { pages = met.pages; free = with_page page met.free }

gives_back : (met : FreePages) (page : ℕ) → GivesBack page met (met_with met page)
unfolding met_with
gives_back met page = record {
  pages = refl;
  free = refl;
  count = length-with_page page met.free;
  there = (Contains-with_page page met.free page).1 (inl refl);
  others = λ q other. (
    λ has. ⊎_elim (λ (e : page ≡ q). absurd (other (sym e))) (λ (old : Contains met.free q). old) ((Contains-with_page page met.free q).0 has),
    λ has. (Contains-with_page page met.free q).1 (inr has),
  );
}

module _ (g : Geometry) (c : List ℕ) (head last : ℕ) where
  pub record Way : Type 0 where
    pub pages : List ℕ
    pub whole : Bool
    pub is : IsWay g c head last pages whole

  -- the next page is one of the log, and not the last
  record GoesOn (page : ℕ) (met : FreePages) : Type 0 where
    pub in_data : InData g page
    pub fresh : Contains met.free page → ⊥
    pub not_last : page ≢ last

  step : (pages : List ℕ) (page : ℕ) (met : FreePages) → OnWay g c head last pages page met → Way ⊎ GoesOn page met
  step pages page met way = elim (data_decided g page) [
    | inl in_data ↦ elim (contains_decided met.free page) [
      | inl there ↦ inl (record { pages = pages; whole = false; is = way_stopped g c head last page pages met way (inr there) })
      | inr fresh ↦ elim (cases_eq page last) [
        | inl e ↦ inl (record { pages = pages ++ page ∷ []; whole = true; is = way_whole g c head last page pages met way in_data fresh e })
        | inr other ↦ inr (record { in_data = in_data; fresh = fresh; not_last = other })
      ]
    ]
    | inr out ↦ inl (record { pages = pages; whole = false; is = way_stopped g c head last page pages met way (inl out) })
  ]

  -- there are no more pages than the image has
  walk_on : (fuel : ℕ) (pages : List ℕ) (page : ℕ) (met : FreePages) → OnWay g c head last pages page met → g.pages ≤ length pages + fuel → Way
  walk_on zero pages page met way enough = elim (step pages page met way) [
    | inl done ↦ done
    | inr on ↦ absurd (omega (arith, enough, way_few g c head last page pages met way on.in_data on.fresh))
  ]
  walk_on (suc fuel) pages page met way enough = elim (step pages page met way) [
    | inl done ↦ done
    | inr on ↦ walk_on fuel (pages ++ page ∷ []) (slice_index c (512 * page + 504)) (met_with met page)
        (way_on g c head last page pages met way on.in_data on.fresh on.not_last (met_with met page) (gives_back met page))
        (omega (arith, enough, length-append pages (page ∷ [])))
  ]

  pub all_pages : Way
  all_pages =
      let none : FreePages = record { pages = g.pages; free = [] } in
      walk_on g.pages [] head none (starts_way g c head last none refl) (omega arith)
