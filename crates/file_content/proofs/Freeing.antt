-- The pages of places become free, one after another.
use Rattle.std.proofs.Common.{◌≡◌, ◌⊎◌, inl, inr, ℕ, ◌+◌, ◌<◌, refl, sym, ◌∙◌, subst, arith}
use Rattle.std.specs.Prelude.{Option, Some, None, IfSome, Contains}
use Rattle.std.specs.Ordering.{nat_cmp}
use Rattle.std.specs.FinMap.{FinMap, get}
use Rattle.std.proofs.lemmas.Bool.{cases_eq, cases_lt}
use Rattle.page_alloc.specs.Free.{FreePages, GivesBack}
use Rattle.file_index.specs.declared.page_map.Mapping.{Mapping}
use Rattle.file_content.specs.Overwritten.{IsBlockOf, IsBlockAmong, GivesBlock, GivesBlocks}

pub block_given : (m : Mapping) (old new : FreePages) → GivesBack m.block old new → GivesBlock (Some m) old new
block_given m old new gives = record { pages = gives.pages; free = λ page. (to page, from page) }
  where
    to : (page : ℕ) → Contains new.free page → Contains old.free page ⊎ (m.block ≡ page)
    to page there = elim (cases_eq page m.block) [ inl e ↦ inr (sym e) | inr ne ↦ inl ((gives.others page ne).0 there) ]

    from : (page : ℕ) → Contains old.free page ⊎ (m.block ≡ page) → Contains new.free page
    from page (inl there) = elim (cases_eq page m.block) [
      | inl e ↦ subst (Contains new.free) (sym e) gives.there
      | inr ne ↦ (gives.others page ne).1
          there
    ]
    from page (inr e) = subst (Contains new.free) e gives.there

module _ (map : FinMap nat_cmp Mapping) (first i : ℕ) (old now : FreePages) (so_far : GivesBlocks map first i old now) where
  -- the page of the next place isn't free yet
  pub next_taken : (places : ℕ) (mapping : Option Mapping) → mapping ≡ get map (first + i) → i < places → IfSome (get map (first + i))
      (λ m. ¬ Contains old.free m.block)
      → ((i j page : ℕ) → i < places → j < places → IsBlockOf (get map (first + i)) page → IsBlockOf (get map (first + j)) page → i ≡ j)
      → IfSome mapping (λ m. ¬ Contains now.free m.block)
  next_taken places None e lt taken apart = tt
  next_taken places (Some m) e lt taken apart = λ there. elim ((so_far.free m.block).0 there) [
    | inl before ↦ subst (λ (o : Option Mapping). IfSome o (λ x. ¬ Contains old.free x.block)) (sym e) taken before
    | inr among ↦ absurd (let same = apart among.i i m.block (omega (arith, among.below, lt)) lt among.block
        (subst (λ (o : Option Mapping). IsBlockOf o m.block) e refl) in omega (arith, same, among.below))
  ]

  -- the page of the next place is free too
  pub blocks-next : (mapping : Option Mapping) (new : FreePages) → mapping ≡ get map (first + i) → GivesBlock mapping now new
      → GivesBlocks map first (i + 1) old new
  blocks-next mapping new e gives = record { pages = gives.pages ∙ so_far.pages; free = λ page. (to page, from page) }
    where
      earlier : (page : ℕ) → Contains old.free page ⊎ IsBlockAmong map first i page → Contains old.free page ⊎ IsBlockAmong map first (i + 1) page
      earlier page (inl there) = inl there
      earlier page (inr among) = inr (record { i = among.i; below = omega (arith, among.below); block = among.block })

      to : (page : ℕ) → Contains new.free page → Contains old.free page ⊎ IsBlockAmong map first (i + 1) page
      to page there = elim ((gives.free page).0 there) [
        | inl before ↦ earlier page ((so_far.free page).0 before)
        | inr here ↦ inr (record { i = i; below = omega arith; block = subst (λ (o : Option Mapping). IsBlockOf o page) e here })
      ]

      from : (page : ℕ) → Contains old.free page ⊎ IsBlockAmong map first (i + 1) page → Contains new.free page
      from page (inl there) = (gives.free page).1 (inl ((so_far.free page).1 (inl there)))
      from page (inr among) = elim (cases_lt among.i i) [
        | inl low ↦ (gives.free page).1 (inl ((so_far.free page).1 (inr (record { i = among.i; below = low; block = among.block }))))
        | inr high ↦
            let same : among.i ≡ i = omega (arith, among.below, high) in
            (gives.free page).1
            (inr (subst (λ (o : Option Mapping). IsBlockOf o page) (sym e) (subst (λ (k : ℕ). IsBlockOf (get map (first + k)) page) same
            among.block)))
      ]
