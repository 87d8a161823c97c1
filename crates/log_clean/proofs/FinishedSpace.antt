-- A cleaned log has replaced the old one: the old log's pages are free, and the new one's are taken by nobody and in use.
use Rattle.std.proofs.Common.{◌≡◌, ◌≢◌, ◌⊎◌, inl, inr, ⊎_elim, ℕ, ◌≤◌, List, length, sym, ◌∙◌, ap, subst, arith}
use Rattle.std.specs.Prelude.{◌↔◌, if◌then◌else◌, ◌==◌, Contains}
use Rattle.std.proofs.lemmas.Bool.{cases_eq}
use Rattle.pm_layout.specs.declared.Geometry.{Geometry}
use Rattle.page_alloc.specs.Free.{IsInOrder}
use Rattle.dn_model.specs.Disk.{Disk}
use Rattle.law_write.specs.Events.{IsUnused}
use Rattle.dn_volume.specs.declared.volume.Parts.{Parts}
use Rattle.dn_volume.specs.Parties.{Takes}
use Rattle.dn_volume.specs.Space.{HasSpace}
use Rattle.dn_volume.specs.Cleans.{TwoLeft}

-- The cleaning has ended: these pages were its own, and these came free. Everybody else has taken what he had.
pub record SwapsSpace (d e : Disk) (b b' : Parts) (pages old : List ℕ) : Type 0 where
  pub geometry : e.geometry ≡ d.geometry
  pub free_pages : b'.free.pages ≡ b.free.pages
  pub in_order : IsInOrder b'.free
  pub free : (page : ℕ) → Contains b'.free.free page ↔ (Contains b.free.free page ⊎ Contains old page)
  pub takes : (who page : ℕ) → Takes b' who page → Takes b who page × (who ≢ 16)
  pub taken : (who page : ℕ) → who ≢ 16 → Takes b who page → Takes b' who page
  pub mine : (page : ℕ) → Takes b 16 page → Contains pages page
  pub unused : (page : ℕ) → IsUnused d page → (Contains pages page → ⊥) → IsUnused e page
  pub unused_old : (page : ℕ) → Contains old page → IsUnused e page
  pub before : (page : ℕ) → IsUnused e page → IsUnused d page ⊎ Contains old page
  pub new_used : (page : ℕ) → Contains pages page → IsUnused e page → ⊥
  pub old_used : (page : ℕ) → Contains old page → IsUnused d page → ⊥
  pub of_cleaning : (page : ℕ) → Contains pages page → Takes b 16 page
  pub some : 1 ≤ length b'.free.free
  pub left : TwoLeft b'

module _ (d e : Disk) (b b' : Parts) (pages old : List ℕ) (is : SwapsSpace d e b b' pages old) (was : HasSpace d b) where
  -- the taker of a page: that of before, and none where it was the cleaning
  abbrev taker : ℕ → ℕ
  taker page = if was.taker page == 16 then 0 else was.taker page

  taker_mine : (page : ℕ) → was.taker page ≡ 16 → taker page ≡ 0
  taker_mine page him = ap (λ (n : ℕ). if n == 16 then 0 else n) him

  taker_other : (page : ℕ) → was.taker page ≢ 16 → taker page ≡ was.taker page
  taker_other page other = by_it (was.taker page) other
    where
      by_it : (n : ℕ) → n ≢ 16 → (if n == 16 then 0 else n) ≡ n
      by_it n ne = grind (arith, ne)

  not_new : (page : ℕ) → was.taker page ≢ 16 → Contains pages page → ⊥
  not_new page other has = other (was.takes 16 page (is.of_cleaning page has))

  free_to : (page : ℕ) → Contains b'.free.free page → IsUnused e page × (taker page ≡ 0)
  free_to page there = ⊎_elim by_free by_old ((is.free page).0 there)
    where
      by_free : Contains b.free.free page → IsUnused e page × (taker page ≡ 0)
      by_free has =
          let both = (was.free page).0 has in
          let other : was.taker page ≢ 16 = λ him. omega (arith, him, both.1) in
          (is.unused page both.0 (not_new page other), taker_other page other ∙ both.1)

      by_old : Contains old page → IsUnused e page × (taker page ≡ 0)
      by_old has = (
        is.unused_old page has,
        elim (cases_eq (was.taker page) 0) [
          | inl none ↦ taker_other page (λ him. omega (arith, him, none)) ∙ none
          | inr some ↦ absurd (is.old_used page has (was.unused page some))
        ],
      )

  free_from : (page : ℕ) → IsUnused e page × (taker page ≡ 0) → Contains b'.free.free page
  free_from page both = elim (cases_eq (was.taker page) 16) [
    | inl him ↦ absurd (is.new_used page (is.mine page (subst (λ (n : ℕ). Takes b n page) him
        (was.taken page (λ none. omega (arith, none, him))))) both.0)
    | inr other ↦ (is.free page).1 (⊎_elim (λ unused. inl ((was.free page).1 (unused, sym (taker_other page other) ∙ both.1)))
        (λ has. inr has) (is.before page both.0))
  ]

  takes_same : (who page : ℕ) → Takes b' who page → taker page ≡ who
  takes_same who page takes =
      let found = is.takes who page takes in
      let his = was.takes who page found.0 in
      taker_other page (λ him. found.1 (sym his ∙ him)) ∙ his

  some_other : (page : ℕ) → taker page ≢ 0 → was.taker page ≢ 16
  some_other page some him = some (taker_mine page him)

  was_some : (page : ℕ) → taker page ≢ 0 → was.taker page ≢ 0
  was_some page some none = some (taker_other page (some_other page some) ∙ none)

  pub space_swapped : HasSpace e b'
  space_swapped = record {
    pages = is.free_pages ∙ was.pages ∙ ap (λ (g : Geometry). g.pages) (sym is.geometry);
    in_order = is.in_order;
    taker = taker;
    free = λ page. (free_to page, free_from page);
    takes = takes_same;
    taken = λ page some.
        let same = taker_other page (some_other page some) in
        subst (λ (n : ℕ). Takes b' n page) (sym same)
        (is.taken (was.taker page) page (some_other page some) (was.taken page (was_some page some)));
    unused = λ page some. is.unused page (was.unused page (was_some page some)) (not_new page (some_other page some));
    some = is.some;
    left = is.left;
  }
