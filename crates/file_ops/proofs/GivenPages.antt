-- Pages become free one after another, and items wait.
use Rattle.std.proofs.Common.{
  ◌≡◌,
  ◌⊎◌,
  inl,
  inr,
  ⊎_elim,
  ℕ,
  ◌+◌,
  ◌<◌,
  ◌≤◌,
  List,
  [],
  ◌∷◌,
  ◌++◌,
  length,
  refl,
  sym,
  ◌∙◌,
  ap,
  subst,
  arith,
  append_assoc,
}
use Rattle.std.specs.Prelude.{◌↔◌, slice_index, Option, Some, None, IfSome, Contains}
use Rattle.std.specs.Ordering.{nat_cmp}
use Rattle.std.specs.FinMap.{FinMap, get}
use Rattle.std.proofs.lemmas.Bool.{cases_eq, cases_lt}
use Rattle.std.proofs.lemmas.List.{get_or_default}
use Rattle.std.proofs.lemmas.List.Elements.{Contains-get_or, Contains-append_left, Contains-append_right}
use Rattle.page_alloc.specs.Free.{FreePages, IsInOrder, GivesBack}
use Rattle.dedupe_queue.specs.Queue.{Waiting, Pushes}
use Rattle.dedupe_queue.specs.declared.Work.{Work}
use Rattle.pm_layout.specs.declared.Geometry.{Geometry}
use Rattle.file_index.specs.declared.page_map.Mapping.{Mapping}
use Rattle.fact_table.specs.Table.{HasNoneOf, IsOfPage}
use Rattle.dn_model.specs.Table.{Row}
use Rattle.dn_model.specs.Log.{Log, IsPaged, count, tail_at, slot_name}
use Rattle.dn_model.specs.Disk.{Disk}
use Rattle.law_table.proofs.Rows.{listed_here}
use Rattle.file_content.specs.Pages.{AreApart}
use Rattle.file_ops.specs.Giving.{Gives, IsAmong, IsUnshared, IsUnsharedAmong, QueuesSlots}

some_is : (p q : ℕ) → Some p ≡ Some q → p ≡ q
some_is p q e = cc

-- one page
pub gives_one : (page : Option ℕ) (m : ℕ) (old new : FreePages) → page ≡ Some m → GivesBack m old new → IsInOrder new → Gives (λ p. page ≡ Some p) old
    new
gives_one page m old new is gives order = record {
  pages = gives.pages;
  free = λ p. (to p, from p);
  no_less = omega (arith, gives.count);
  in_order = order;
}
  where
    to : (p : ℕ) → Contains new.free p → Contains old.free p ⊎ (page ≡ Some p)
    to p there = elim (cases_eq p m) [ inl e ↦ inr (is ∙ ap (λ (q : ℕ). Some q) (sym e)) | inr ne ↦ inl ((gives.others p ne).0 there) ]

    from : (p : ℕ) → Contains old.free p ⊎ (page ≡ Some p) → Contains new.free p
    from p (inl there) = elim (cases_eq p m) [ inl e ↦ subst (Contains new.free) (sym e) gives.there | inr ne ↦ (gives.others p ne).1 there ]
    from p (inr e) = subst (Contains new.free) (some_is m p (sym is ∙ e)) gives.there

pub gives_none : (P : ℕ → Type 0) (s : FreePages) → IsInOrder s → ((p : ℕ) → P p → ⊥) → Gives P s s
gives_none P s order none = record {
  pages = refl;
  free = λ p. ((λ there. inl there), (λ h. ⊎_elim (λ there. there) (λ given. absurd (none p given)) h));
  no_less = omega arith;
  in_order = order;
}

pub gives_then : (P Q R : ℕ → Type 0) (old now new : FreePages) → Gives P old now → Gives Q now new → ((p : ℕ) → R p → P p ⊎ Q p)
    → ((p : ℕ) → P p ⊎ Q p → R p) → Gives R old new
gives_then P Q R old now new one two split join = record {
  pages = two.pages ∙ one.pages;
  free = λ p. (
    (λ there. ⊎_elim (λ before. ⊎_elim (λ was. inl was) (λ given. inr (join p (inl given))) ((one.free p).0 before))
        (λ given. inr (join p (inr given))) ((two.free p).0 there)),
    (λ h. ⊎_elim (λ was. (two.free p).1 (inl ((one.free p).1 (inl was))))
        (λ given. ⊎_elim (λ first. (two.free p).1 (inl ((one.free p).1 (inr first)))) (λ second. (two.free p).1 (inr second)) (split p given)) h),
  );
  no_less = omega (arith, one.no_less, two.no_less);
  in_order = two.in_order;
}

-- pages of a list
module _ (pages : List ℕ) (old now : FreePages) where
  pub among_next : (k : ℕ) (new : FreePages) → Gives (IsAmong pages k) old now → Gives (λ p. Some (slice_index pages k) ≡ Some p) now new
      → Gives (IsAmong pages (k + 1)) old new
  among_next k new so_far gives = gives_then (IsAmong pages k) (λ p. Some (slice_index pages k) ≡ Some p) (IsAmong pages (k + 1)) old now new so_far
      gives
      (λ p a. elim (cases_lt a.i k) [
        | inl low ↦ inl (record { i = a.i; below = low; is = a.is })
        | inr high ↦ let same : a.i ≡ k = omega (arith, a.below, high) in inr (ap (λ (i : ℕ). Some (slice_index pages i)) (sym same) ∙ ap
            (λ (q : ℕ). Some q) a.is)
      ])
      (λ p h. ⊎_elim (λ a. record { i = a.i; below = omega (arith, a.below); is = a.is })
      (λ e. record { i = k; below = omega arith; is = some_is (slice_index pages k) p e }) h)

  pub among_all : (k : ℕ) → length pages ≤ k → k ≤ length pages → Gives (IsAmong pages k) old now → Gives (Contains pages) old now
  among_all k most least gives = record {
    pages = gives.pages;
    free = λ p. (
      (λ there. ⊎_elim (λ was. inl was) (λ a. inr (subst (Contains pages) a.is (Contains-get_or pages a.i 0 (omega (arith, a.below, least)))))
          ((gives.free p).0 there)),
      (λ h. (gives.free p).1 (⊎_elim (λ was. inl was)
          (λ has. inr (record { i = has.0; below = omega (arith, has.1, most); is = get_or_default pages has.0 0 p has.1 ∙ has.2 })) h)),
    );
    no_less = gives.no_less;
    in_order = gives.in_order;
  }

  pub among_taken : (k : ℕ) → k < length pages → AreApart pages → ((p : ℕ) → Contains pages p → Contains old.free p → ⊥) → Gives (IsAmong pages k) old
      now → Contains now.free (slice_index pages k) → ⊥
  among_taken k lt apart taken gives there = ⊎_elim (taken (slice_index pages k) (Contains-get_or pages k 0 lt))
      (λ a. let same = apart a.i k (omega (arith, a.below, lt)) lt a.is in omega (arith, same, a.below)) ((gives.free (slice_index pages k)).0 there)

-- the page of a place, if no row has it
pub unshared_none : (o : Option Mapping) (d : Disk) (page : ℕ) → o ≡ None → IsUnshared d o page → ⊥
unshared_none None d page is h = h
unshared_none (Some m) d page is h = cc

pub unshared_at : (o : Option Mapping) (m : Mapping) (d : Disk) (page : ℕ) → o ≡ Some m → IsUnshared d o page → (m.block ≡ page) × HasNoneOf d page
unshared_at o m d page is h = subst (λ (x : Option Mapping). IsUnshared d x page) is h

pub at_unshared : (o : Option Mapping) (m : Mapping) (d : Disk) (page : ℕ) → o ≡ Some m → m.block ≡ page → HasNoneOf d page → IsUnshared d o page
at_unshared o m d page is block none = subst (λ (x : Option Mapping). IsUnshared d x page) (sym is) (block, none)

module _ (d : Disk) (map : FinMap nat_cmp Mapping) (first : ℕ) (old now : FreePages) where
  pub places_next : (k : ℕ) (page : Option ℕ) (new : FreePages) → ((p : ℕ) → (page ≡ Some p) ↔ IsUnshared d (get map (first + k)) p)
      → Gives (IsUnsharedAmong d map first k) old now → Gives (λ p. page ≡ Some p) now new
      → Gives (IsUnsharedAmong d map first (k + 1)) old new
  places_next k page new is so_far gives = gives_then (IsUnsharedAmong d map first k) (λ p. page ≡ Some p) (IsUnsharedAmong d map first (k + 1)) old
      now new so_far gives
      (λ p a. elim (cases_lt a.i k) [
        | inl low ↦ inl (record { i = a.i; below = low; is = a.is })
        | inr high ↦ let same : a.i ≡ k = omega (arith, a.below, high) in
            inr ((is p).1 (subst (λ (i : ℕ). IsUnshared d (get map (first + i)) p) same a.is))
      ])
      (λ p h. ⊎_elim (λ a. record { i = a.i; below = omega (arith, a.below); is = a.is })
      (λ e. record { i = k; below = omega arith; is = (is p).0 e }) h)

  pub places_taken : (k n p : ℕ) → k < n → IsUnshared d (get map (first + k)) p → ((i page : ℕ) → i < n → IsUnshared d (get map (first + i)) page
      → Contains old.free page → ⊥)
      → ((i j page : ℕ) → i < n → j < n → IsUnshared d (get map (first + i)) page → IsUnshared d (get map (first + j)) page → i ≡ j)
      → Gives (IsUnsharedAmong d map first k) old now → Contains now.free p → ⊥
  places_taken k n p lt is taken apart gives there = ⊎_elim (taken k p lt is)
      (λ a. let same = apart a.i k p (omega (arith, a.below, lt)) lt a.is is in omega (arith, same, a.below)) ((gives.free p).0 there)

pub if_page : (page : Option ℕ) (P : ℕ → Type 0) → ((p : ℕ) → page ≡ Some p → P p) → IfSome page P
if_page None P f = tt
if_page (Some p) P f = f p refl

pub if_inside : (o : Option Mapping) (m : Mapping) (n : ℕ) → o ≡ Some m → IfSome o (λ x. x.block < n) → m.block < n
if_inside o m n is h = subst (λ (x : Option Mapping). IfSome x (λ y. y.block < n)) is h

-- one item more waits
pub queues_none : (ino round tail : ℕ) (fresh : List ℕ) (q : Waiting) → QueuesSlots ino round tail fresh 0 q q
queues_none ino round tail fresh q = record {
  more = [];
  items = nothing q.items;
  each = λ g log paged is j lt. absurd (omega (arith, lt));
  room = omega arith;
}
  where
    nothing : (xs : List Work) → xs ≡ xs ++ []
    nothing [] = refl
    nothing (x ∷ xs) = ap (λ ys. x ∷ ys) (nothing xs)

pub queues_next : (ino round tail : ℕ) (fresh : List ℕ) (k slot : ℕ) (old now new : Waiting) → QueuesSlots ino round tail fresh k old now
    → ((g : Geometry) (log : Log) → IsPaged g log → tail ≡ tail_at log.pages (count log) → slot ≡ slot_name (log.pages ++ fresh) (count log + k))
    → Pushes (record { ino = ino; round = round; slot = slot }) now new → QueuesSlots ino round tail fresh (k + 1) old new
queues_next ino round tail fresh k slot old now new so_far slot_is pushes = record {
  more = so_far.more ++ record { ino = ino; round = round; slot = slot } ∷ [];
  items = pushes.items ∙ ap (λ (ws : List Work). ws ++ record { ino = ino; round = round; slot = slot } ∷ []) so_far.items ∙ append_assoc old.items
      so_far.more (record { ino = ino; round = round; slot = slot } ∷ []);
  each = λ g log paged is j lt. elim (cases_lt j k) [
    | inl low ↦ Contains-append_left so_far.more (record { ino = ino; round = round; slot = slot } ∷ []) _ (so_far.each g log paged is j low)
    | inr high ↦
        let same : j ≡ k = omega (arith, lt, high) in
        subst (λ (s : ℕ). Contains (so_far.more ++ record { ino = ino; round = round; slot = slot } ∷ [])
        (record { ino = ino; round = round; slot = s }))
        (slot_is g log paged is ∙ ap (λ (i : ℕ). slot_name (log.pages ++ fresh) (count log + i)) (sym same))
        (Contains-append_right so_far.more (record { ino = ino; round = round; slot = slot } ∷ []) (record { ino = ino; round = round; slot = slot })
        (listed_here (record { ino = ino; round = round; slot = slot }) []))
  ];
  room = omega (arith, so_far.room, pushes.room);
}

pub row_has : (d : Disk) (block page : ℕ) (row : Row) → IsOfPage d block row → block ≡ page → HasNoneOf d page → ⊥
row_has d block page row of e none = none row of.there (of.page_is ∙ e)

pub none_is : (page : ℕ) → None ≡ Some page → ⊥
none_is page e = cc

pub page_is : (p page : ℕ) → Some p ≡ Some page → p ≡ page
page_is p page e = cc

pub page_none : (d : Disk) (block page : ℕ) → block ≡ page → HasNoneOf d block → HasNoneOf d page
page_none d block page e none = subst (HasNoneOf d) e none
