-- The pages that a cleaning takes from the free ones.
use Rattle.std.proofs.Common.{◌≡◌, ◌≢◌, ◌⊎◌, inl, inr, ⊎_elim, ℕ, ◌<◌, ◌≤◌, List, [], ◌∷◌, ◌++◌, length, refl, sym, ◌∙◌, subst, arith}
use Rattle.std.specs.Prelude.{Contains, All, slice_index, Some, None}
use Rattle.std.specs.List.Sorted.{IsStrictlyIncreasing}
use Rattle.std.proofs.lemmas.List.Elements.{All-tail, Contains-append_cases, Contains-append_left, Contains-append_right}
use Rattle.page_alloc.specs.Free.{FreePages, IsInOrder}
use Rattle.file_write.specs.Take.{TakesFirst}
use Rattle.file_write.proofs.Taking.{left-apart, parts-apart, rising-behind, took-length}
use Rattle.law_write.specs.Events.{IsUnused}
use Rattle.dn_model.specs.Disk.{Disk}
use Rattle.dn_volume.specs.declared.background.Cleaning.{Cleaning}
use Rattle.dn_volume.specs.declared.volume.Parts.{Parts}
use Rattle.dn_volume.specs.Parties.{Takes, for_client, for_cleaning}
use Rattle.dn_volume.specs.Space.{HasSpace}
use Rattle.dn_volume.specs.Cleans.{IsLeft}
use Rattle.dn_volume.proofs.Lefts.{left_on}
use Rattle.dn_volume.proofs.Taken.{contains_or_not}

all_behind : (P : ℕ → Type 0) (xs ys : List ℕ) → All P (xs ++ ys) → All P ys
all_behind P [] ys all = all
all_behind P (x ∷ xs) ys all = all_behind P xs ys (All-tail P x (xs ++ ys) all)

-- what is left of free pages stands in order
pub left_in_order : (old new : FreePages) (pages : List ℕ) → TakesFirst old new pages → IsInOrder old → IsInOrder new
left_in_order old new pages takes is = record {
  rising = rising-behind pages new.free (subst IsStrictlyIncreasing takes.split is.rising);
  below = subst (λ (n : ℕ). All (λ page. page < n) new.free) (sym takes.same)
      (all_behind (λ page. page < old.pages) pages new.free (subst (All (λ page. page < old.pages)) takes.split is.below));
}

all_before : (P : ℕ → Type 0) (xs ys : List ℕ) → ((x : ℕ) → Contains (xs ++ ys) x → P x) → (x : ℕ) → Contains xs x → P x
all_before P xs ys all x has = all x (Contains-append_left xs ys x has)

module _ (old new : FreePages) (pages : List ℕ) (takes : TakesFirst old new pages) (in_order : IsInOrder old) where
  rising : IsStrictlyIncreasing (pages ++ new.free)
  rising = subst IsStrictlyIncreasing takes.split in_order.rising

  pub page_free : (p : ℕ) → Contains pages p → Contains old.free p
  page_free p has = subst (λ (xs : List ℕ). Contains xs p) (sym takes.split) (Contains-append_left pages new.free p has)

  pub left_free : (p : ℕ) → Contains new.free p → Contains old.free p
  left_free p has = subst (λ (xs : List ℕ). Contains xs p) (sym takes.split) (Contains-append_right pages new.free p has)

  pub taken_or_left : (p : ℕ) → Contains old.free p → Contains pages p ⊎ Contains new.free p
  taken_or_left p has = Contains-append_cases pages new.free p (subst (λ (xs : List ℕ). Contains xs p) takes.split has)

  pub not_both : (p : ℕ) → Contains pages p → Contains new.free p → ⊥
  not_both = parts-apart pages new.free rising

  pub pages_apart : (i j : ℕ) → i < length pages → j < length pages → slice_index pages i ≡ slice_index pages j → i ≡ j
  pages_apart = left-apart pages new.free rising

-- A volume in memory whose cleaning has taken them.
module _ (d : Disk) (c : Cleaning) (b n : Parts) (space : HasSpace d b) (none_begun : b.reclaiming.cleaning ≡ None)
    (takes : TakesFirst b.free n.free c.pages.items) (begun : n.reclaiming.cleaning ≡ Some c) (fits : length c.pages.items < length b.free.free)
    (takes_on : (q page : ℕ) → Takes b q page → Takes n q page)
    (takes_was : (q page : ℕ) → Takes n q page → ((q ≡ 16) × Contains c.pages.items page) ⊎ Takes b q page) where
  taker_by : (page : ℕ) → Contains c.pages.items page ⊎ (Contains c.pages.items page → ⊥) → ℕ
  taker_by page (inl has) = 16
  taker_by page (inr out) = space.taker page

  taker_then : ℕ → ℕ
  taker_then page = taker_by page (contains_or_not page c.pages.items)

  taker_new : (page : ℕ) → Contains c.pages.items page → taker_then page ≡ 16
  unfolding taker_then taker_by
  taker_new page has = by (contains_or_not page c.pages.items)
    where
      by : (x : Contains c.pages.items page ⊎ (Contains c.pages.items page → ⊥)) → taker_by page x ≡ 16
      by (inl is) = refl
      by (inr out) = absurd (out has)

  taker_kept : (page : ℕ) → (Contains c.pages.items page → ⊥) → taker_then page ≡ space.taker page
  unfolding taker_then taker_by
  taker_kept page none = by (contains_or_not page c.pages.items)
    where
      by : (x : Contains c.pages.items page ⊎ (Contains c.pages.items page → ⊥)) → taker_by page x ≡ space.taker page
      by (inl is) = absurd (none is)
      by (inr out) = refl

  was_free : (page : ℕ) → Contains c.pages.items page → Contains b.free.free page
  was_free = page_free b.free n.free c.pages.items takes space.in_order

  pub page_unused : (page : ℕ) → Contains c.pages.items page → IsUnused d page
  page_unused page has = ((space.free page).0 (was_free page has)).0

  page_loose : (page : ℕ) → Contains c.pages.items page → space.taker page ≡ 0
  page_loose page has = ((space.free page).0 (was_free page has)).1

  free_to : (page : ℕ) → Contains n.free.free page → IsUnused d page × (taker_then page ≡ 0)
  free_to page has =
      let was = (space.free page).0 (left_free b.free n.free c.pages.items takes space.in_order page has) in
      (was.0, taker_kept page (λ took. not_both b.free n.free c.pages.items takes space.in_order page took has) ∙ was.1)

  free_from : (page : ℕ) → IsUnused d page → taker_then page ≡ 0 → Contains n.free.free page
  free_from page unused none = ⊎_elim
      (λ has. absurd (let mine = taker_new page has in omega (arith, mine, none)))
      (λ out. ⊎_elim (λ took. absurd (out took)) (λ rest. rest)
      (taken_or_left b.free n.free c.pages.items takes space.in_order page ((space.free page).1 (unused, sym (taker_kept page out) ∙ none))))
      (contains_or_not page c.pages.items)

  some_taker : (q page : ℕ) → Takes b q page → 1 ≤ q
  some_taker q page (for_client g flies has) = flies.client
  some_taker q page (for_cleaning x him cleans has) = omega (arith, him)

  takes_then : (q page : ℕ) → Takes n q page → taker_then page ≡ q
  takes_then q page took = ⊎_elim
      (λ mine. taker_new page mine.1 ∙ sym mine.0)
      (λ other. let his = space.takes q page other in
      let some = some_taker q page other in
      taker_kept page (λ has. let loose = page_loose page has in omega (arith, his, some, loose)) ∙ his)
      (takes_was q page took)

  cleaning_takes : (page : ℕ) → Contains c.pages.items page → Takes n 16 page
  cleaning_takes page has = for_cleaning c refl begun has

  taken_now : (page : ℕ) → taker_then page ≢ 0 → Takes n (taker_then page) page
  taken_now page some = ⊎_elim
      (λ has. subst (λ (q : ℕ). Takes n q page) (sym (taker_new page has)) (cleaning_takes page has))
      (λ out. let same = taker_kept page out in
      subst (λ (q : ℕ). Takes n q page) (sym same)
      (takes_on (space.taker page) page (space.taken page (λ nobody. some (same ∙ nobody)))))
      (contains_or_not page c.pages.items)

  unused_now : (page : ℕ) → taker_then page ≢ 0 → IsUnused d page
  unused_now page some = ⊎_elim (page_unused page)
      (λ out. space.unused page (λ nobody. some (taker_kept page out ∙ nobody))) (contains_or_not page c.pages.items)

  left_now : (page : ℕ) → IsLeft b page → IsLeft n page
  left_now page (inl has) = ⊎_elim (λ took. inr (cleaning_takes page took)) (λ rest. inl rest)
      (taken_or_left b.free n.free c.pages.items takes space.in_order page has)
  left_now page (inr took) = inr (takes_on 16 page took)

  pub space_taken : HasSpace d n
  space_taken = record {
    pages = takes.same ∙ space.pages;
    in_order = left_in_order b.free n.free c.pages.items takes space.in_order;
    taker = taker_then;
    free = λ page. ((λ has. free_to page has), (λ is. free_from page is.0 is.1));
    takes = λ q page took. takes_then q page took;
    taken = λ page some. taken_now page some;
    unused = λ page some. unused_now page some;
    some = let all = took-length b.free n.free c.pages.items takes in omega (arith, all, fits);
    left = left_on b n left_now space.left;
  }
