-- A page is taken for an item where the page of the tail has no room.
use Rattle.std.proofs.Common.{
  ◌≡◌,
  ◌≢◌,
  ◌⊎◌,
  inl,
  inr,
  ⊎_elim,
  ℕ,
  zero,
  suc,
  ◌+◌,
  ◌*◌,
  ◌/◌,
  ◌%◌,
  ◌≤◌,
  List,
  [],
  ◌∷◌,
  ◌++◌,
  length,
  refl,
  sym,
  ◌∙◌,
  ap,
  subst,
  arith,
  length-append,
}
use Rattle.std.specs.Prelude.{Option, Some, None, Contains, slice_index}
use Rattle.std.proofs.lemmas.Bool.{cases_eq}
use Rattle.pm_layout.specs.declared.Geometry.{Geometry}
use Rattle.page_alloc.specs.Free.{FreePages, IsInOrder}
use Rattle.dn_model.specs.Log.{Log, IsPaged, count, tail_at}
use Rattle.inode_log.specs.Prepare.{IsFull}
use Rattle.dn_volume.specs.declared.volume.Parts.{Parts}
use Rattle.dn_volume.specs.Cleans.{IsLeft, TwoLeft}
use Rattle.law_table.proofs.Rows.{listed_here, listed_cases}
use Rattle.dedupe_daemon.specs.Remapped.{taken_pages, TakesFor}

-- these pages are taken from the free ones, one at most
pub record AreTaken (fresh : List ℕ) (old new : FreePages) : Type 0 where
  pub pages : new.pages ≡ old.pages
  pub in_order : IsInOrder new
  pub listed : (p : ℕ) → Contains fresh p → Contains old.free p
  pub gone : (p : ℕ) → Contains fresh p → Contains new.free p → ⊥
  pub kept : (p : ℕ) → Contains old.free p → (Contains fresh p → ⊥) → Contains new.free p
  pub back : (p : ℕ) → Contains new.free p → Contains old.free p
  pub long : length new.free + length fresh ≡ length old.free
  pub few : length fresh ≤ 1

pub one_listed : (page p : ℕ) → Contains (page ∷ []) p → page ≡ p
one_listed page p has = ⊎_elim (λ (first : page ≡ p). first) (λ (none : Contains [] p). absurd (omega (arith, none.1))) (listed_cases page [] p has)

pub are_taken : (tail : ℕ) (old new : FreePages) (fresh : Option ℕ) → IsInOrder old → TakesFor tail old new fresh → AreTaken (taken_pages fresh) old
    new
are_taken tail old new None order takes = record {
  pages = ap (λ (f : FreePages). f.pages) takes.1;
  in_order = subst IsInOrder (sym takes.1) order;
  listed = λ p has. absurd (omega (arith, has.1));
  gone = λ p has. absurd (omega (arith, has.1));
  kept = λ p has out. subst (λ (f : FreePages). Contains f.free p) (sym takes.1) has;
  back = λ p has. subst (λ (f : FreePages). Contains f.free p) takes.1 has;
  long = let same = ap (λ (f : FreePages). length f.free) takes.1 in omega (arith, same);
  few = omega arith;
}
are_taken tail old new (Some page) order takes = record {
  pages = takes.1.pages;
  in_order = takes.2;
  listed = λ p has. subst (λ (ps : List ℕ). Contains ps p) (sym takes.1.rest) (subst (Contains (page ∷ new.free)) (one_listed page p has)
      (listed_here page new.free));
  gone = λ p has there. takes.1.gone (subst (Contains new.free) (sym (one_listed page p has)) there);
  kept = λ p has out. (takes.1.others p (λ same. out (subst (Contains (page ∷ [])) (sym same) (listed_here page [])))).1 has;
  back = λ p has. elim (cases_eq p page) [
    | inl same ↦ absurd (takes.1.gone (subst (Contains new.free) same has))
    | inr ne ↦ (takes.1.others p ne).0 has
  ];
  long = let same = ap (λ (ps : List ℕ). length ps) takes.1.rest in omega (arith, same);
  few = omega arith;
}

-- of two pages that are left one is none of them
pub left_apart : (b : Parts) (fresh : Option ℕ) → TwoLeft b → (p : ℕ) × IsLeft b p × (Contains (taken_pages fresh) p → ⊥)
left_apart b None two = (two.one, two.one_left, λ has. absurd (omega (arith, has.1)))
left_apart b (Some page) two = elim (cases_eq two.one page) [
  | inl same ↦ (two.other, two.other_left, λ has. two.apart (same ∙ one_listed page two.other has))
  | inr ne ↦ (two.one, two.one_left, λ has. ne (sym (one_listed page two.one has)))
]

-- the log has room for one slot more then
full_end : (page n : ℕ) → ((page * 64 + n % 63 + 1 ≡ 0) ⊎ ((page * 64 + n % 63 + 1) % 64 ≡ 63)) → n % 63 ≡ 62
full_end page n (inl none) = omega (arith, none)
full_end page n (inr full) = omega (arith, full)

room_end : (page n : ℕ) → ((page * 64 + n % 63 + 1 ≡ 0) ⊎ ((page * 64 + n % 63 + 1) % 64 ≡ 63) → ⊥) → n % 63 ≢ 62
room_end page n room is = room (inr (omega (arith, is)))

grows_full : (pages : List ℕ) (n : ℕ) → length pages ≡ (n + 62) / 63 → IsFull (tail_at pages n) → length pages + 1 ≡ (n + 1 + 62) / 63
grows_full pages zero fits full = omega (arith, fits)
grows_full pages (suc n) fits full = let end = full_end (slice_index pages (n / 63)) n full in omega (arith, fits, end)

grows_room : (pages : List ℕ) (n : ℕ) → length pages ≡ (n + 62) / 63 → (IsFull (tail_at pages n) → ⊥) → length pages ≡ (n + 1 + 62) / 63
grows_room pages zero fits room = absurd (room (inl refl))
grows_room pages (suc n) fits room = let end = room_end (slice_index pages (n / 63)) n room in omega (arith, fits, end)

pub has_room : (g : Geometry) (log : Log) (tail : ℕ) (old new : FreePages) (fresh : Option ℕ) → IsPaged g log → tail_at log.pages (count log) ≡ tail
    → TakesFor tail old new fresh → length (log.pages ++ taken_pages fresh) ≡ (count log + 1 + 62) / 63
has_room g log tail old new None paged is takes =
    let room = grows_room log.pages (count log) paged.fits (λ full. takes.0 (subst IsFull is full)) in
    let long = length-append log.pages [] in
    omega (arith, room, long)
has_room g log tail old new (Some page) paged is takes =
    let room = grows_full log.pages (count log) paged.fits (subst IsFull (sym is) takes.0) in
    let long = length-append log.pages (page ∷ []) in
    omega (arith, room, long)
