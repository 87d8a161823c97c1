-- Pages come to be unused: the free pages, and those that are taken.
use Rattle.std.proofs.Common.{◌≡◌, ◌⊎◌, inl, inr, ⊎_elim, ℕ, List, length, sym, ◌∙◌, ap, subst, arith}
use Rattle.std.specs.Prelude.{Contains}
use Rattle.std.proofs.lemmas.Bool.{cases_eq}
use Rattle.page_alloc.specs.Free.{FreePages, IsInOrder, GivesBack}
use Rattle.pm_layout.specs.declared.Geometry.{Geometry}
use Rattle.dn_model.specs.Table.{Row}
use Rattle.dn_model.specs.Disk.{Disk, rows}
use Rattle.law_write.specs.Events.{IsUnused}
use Rattle.fact_table.specs.Table.{Table}
use Rattle.dn_volume.specs.declared.volume.Parts.{Parts}
use Rattle.dn_volume.specs.Space.{HasSpace, AreSlotsOf}
use Rattle.dn_volume.proofs.Lefts.{left_more}
use Rattle.reclaim.specs.Worked.{Gives, KeepsWork}
use Rattle.reclaim.proofs.WorkEvent.{takes_on, takes_back}

-- a page was given back
pub gives_one : (page : ℕ) (old new : FreePages) → GivesBack page old new → IsInOrder new → Gives (λ p. p ≡ page) old new
gives_one page old new gives order = record {
  pages = gives.pages;
  free = λ p. (to p, from p);
  no_less = omega (arith, gives.count);
  in_order = order;
}
  where
    to : (p : ℕ) → Contains new.free p → Contains old.free p ⊎ (p ≡ page)
    to p there = elim (cases_eq p page) [ inl e ↦ inr e | inr ne ↦ inl ((gives.others p ne).0 there) ]

    from : (p : ℕ) → Contains old.free p ⊎ (p ≡ page) → Contains new.free p
    from p (inl there) = elim (cases_eq p page) [ inl e ↦ subst (Contains new.free) (sym e) gives.there | inr ne ↦ (gives.others p ne).1 there ]
    from p (inr e) = subst (Contains new.free) (sym e) gives.there

-- none was
pub gives_none : (given : ℕ → Type 0) (s t : FreePages) → t ≡ s → IsInOrder s → ((p : ℕ) → given p → ⊥) → Gives given s t
gives_none given s t same order none = record {
  pages = ap (λ (x : FreePages). x.pages) same;
  free = λ p. (
    (λ there. inl (subst (λ (x : FreePages). Contains x.free p) same there)),
    (λ h. ⊎_elim (λ there. subst (λ (x : FreePages). Contains x.free p) (sym same) there) (λ given. absurd (none p given)) h),
  );
  no_less = let long = ap (λ (x : FreePages). length x.free) same in omega (arith, long);
  in_order = subst IsInOrder (sym same) order;
}

-- These pages were used, are unused now, and were given back.
module _ (d e : Disk) (b b' : Parts) (kept : KeepsWork b b') (given : ℕ → Type 0) (geometry : e.geometry ≡ d.geometry)
    (gives : Gives given b.free b'.free)
    (then : (page : ℕ) → IsUnused d page ⊎ given page → IsUnused e page) (before : (page : ℕ) → IsUnused e page → IsUnused d page ⊎ given page)
    (was_used : (page : ℕ) → given page → IsUnused d page → ⊥) (space : HasSpace d b) where
  no_taker : (page : ℕ) → given page → space.taker page ≡ 0
  no_taker page is = elim (cases_eq (space.taker page) 0) [ inl none ↦ none | inr some ↦ absurd (was_used page is (space.unused page some)) ]

  free_to : (page : ℕ) → Contains b'.free.free page → IsUnused e page × (space.taker page ≡ 0)
  free_to page there = ⊎_elim (λ was. let both = (space.free page).0 was in (then page (inl both.0), both.1))
      (λ is. (then page (inr is), no_taker page is)) ((gives.free page).0 there)

  free_from : (page : ℕ) → IsUnused e page × (space.taker page ≡ 0) → Contains b'.free.free page
  free_from page both = (gives.free page).1 (⊎_elim (λ was. inl ((space.free page).1 (was, both.1))) (λ is. inr is) (before page both.0))

  pub space_gained : HasSpace e b'
  space_gained = record {
    pages = gives.pages ∙ space.pages ∙ ap (λ (g : Geometry). g.pages) (sym geometry);
    in_order = gives.in_order;
    taker = space.taker;
    free = λ page. (free_to page, free_from page);
    takes = λ who page takes. space.takes who page (takes_back b b' kept who page takes);
    taken = λ page some. takes_on b b' kept (space.taker page) page (space.taken page some);
    unused = λ page some. then page (inl (space.unused page some));
    some = omega (arith, space.some, gives.no_less);
    left = left_more b b' (λ page has. (gives.free page).1 (inl has)) (takes_on b b' kept 16) space.left;
  }

-- the table that is kept in memory, where the rows stay
pub slots_stay : (d e : Disk) (t t' : Table) → e.geometry ≡ d.geometry → rows e ≡ rows d → t' ≡ t → AreSlotsOf d t → AreSlotsOf e t'
slots_stay d e t t' geometry same table is = subst (AreSlotsOf e) (sym table) (record {
  geometry = geometry ∙ is.geometry;
  set = is.set;
  free = λ k there row has. is.free k there row (subst (λ (rs : List Row). Contains rs row) same has);
  taken = λ k lt not.
      let found = is.taken k lt not in
      record {
        row = found.row;
        is = record {
          there = subst (λ (rs : List Row). Contains rs found.row) (sym same) found.is.there;
          slot_is = found.is.slot_is;
        };
      };
})
