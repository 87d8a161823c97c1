-- Who holds which inodes and has taken which pages, where one client's operation in flight is another afterwards.
use Rattle.std.proofs.Common.{◌≡◌, ◌≢◌, ◌⊎◌, inl, inr, ⊎_elim, ℕ, ◌-◌, ◌<◌, ◌≤◌, List, [], ◌∷◌, length, refl, sym, ◌∙◌, ap, subst, arith}
use Rattle.std.specs.Prelude.{◌↔◌, slice_get, Option, Some, None, Contains}
use Rattle.std.proofs.lemmas.Bool.{cases_eq}
use Rattle.page_alloc.specs.Free.{IsInOrder}
use Rattle.law_write.specs.Events.{IsUnused}
use Rattle.law_unique.proofs.Listings.{here, later, none_listed, cons_cases}
use Rattle.dn_model.specs.Disk.{Disk}
use Rattle.dn_volume.specs.declared.flight.Flight.{Flight}
use Rattle.dn_volume.specs.declared.volume.InodeState.{InodeState}
use Rattle.dn_volume.specs.declared.volume.Parts.{Parts}
use Rattle.dn_volume.specs.Parties.{Holds, Takes, for_client, for_cleaning}
use Rattle.dn_volume.specs.Inodes.{AreHolders}
use Rattle.dn_volume.specs.Space.{HasSpace}
use Rattle.dn_volume.specs.Cleans.{TwoLeft}
use Rattle.dn_volume.specs.Replaces.{Replaces, held_of, taken_of}
use Rattle.dn_volume.proofs.Replaced.{held_then, held_before, holds_new, holds_old, taken_then, taken_before, takes_new, takes_old}

pub contains_or_not : (x : ℕ) (xs : List ℕ) → Contains xs x ⊎ (Contains xs x → ⊥)
contains_or_not x [] = inr (λ has. none_listed x has)
contains_or_not x (y ∷ xs) = by (cases_eq y x) (contains_or_not x xs)
  where
    by : ((y ≡ x) ⊎ (y ≡ x → ⊥)) → (Contains xs x ⊎ (Contains xs x → ⊥)) → Contains (y ∷ xs) x ⊎ (Contains (y ∷ xs) x → ⊥)
    by (inl same) rest = inl (subst (Contains (y ∷ xs)) same (here y xs))
    by (inr other) (inl has) = inl (later y x xs has)
    by (inr other) (inr none) = inr (λ has. ⊎_elim other none (cons_cases y x xs has))

some_same : (h : Option ℕ) (p q : ℕ) → h ≡ Some p → h ≡ Some q → p ≡ q
some_same h p q one other = cc

none_some : (h : Option ℕ) (q : ℕ) → h ≡ None → h ≡ Some q → ⊥
none_some h q none some = cc

-- The new operation holds what nobody or the old one held; what only the old one held is held by nobody; the holders of other
-- inodes stay.
pub record MovesHolder (who : ℕ) (old new : Option Flight) (ino : ℕ) (n n' : InodeState) : Type 0 where
  pub loose : Contains (held_of new) ino → Contains (held_of old) ino ⊎ (n.holder ≡ None)
  pub mine : Contains (held_of new) ino → n'.holder ≡ Some who
  pub freed : Contains (held_of old) ino → (Contains (held_of new) ino → ⊥) → n'.holder ≡ None
  pub kept : (Contains (held_of old) ino → ⊥) → (Contains (held_of new) ino → ⊥) → n'.holder ≡ n.holder

module _ (who : ℕ) (client : 1 ≤ who) (old new : Option Flight) (b b' : Parts)
    (r : Replaces (who - 1) old new b b') where
  module _ (d e : Disk) (inodes_same : e.geometry.inodes ≡ d.geometry.inodes) (are : AreHolders d b)
      (moves : (ino : ℕ) (n' : InodeState) → slice_get b'.inodes.items ino ≡ Some n'
      → (n : InodeState) × (slice_get b.inodes.items ino ≡ Some n) × MovesHolder who old new ino n n')
      (in_table : (ino : ℕ) → Contains (held_of new) ino → ino < e.geometry.inodes) where
    -- what nobody else holds
    not_old : (q ino : ℕ) (n : InodeState) → slice_get b.inodes.items ino ≡ Some n → n.holder ≡ Some q → q ≢ who → Contains (held_of old) ino → ⊥
    not_old q ino n at told other has =
        other (some_same n.holder q who told ((are.told ino who n at).1 (holds_old who client old new b b' r ino has)))

    told_holds : (q ino : ℕ) (n n' : InodeState) → slice_get b.inodes.items ino ≡ Some n → MovesHolder who old new ino n n' → n'.holder ≡ Some q
        → Holds b' q ino
    told_holds q ino n n' at moved is = ⊎_elim
        (λ has. subst (λ (p : ℕ). Holds b' p ino) (some_same n'.holder who q (moved.mine has) is) (holds_new who client old new b b' r ino has))
        (λ out. ⊎_elim (λ had. absurd (none_some n'.holder q (moved.freed had out) is))
        (λ none. ⊎_elim (λ mine. absurd (none mine.1)) (λ other. other.1)
        (held_before who client old new b b' r q ino ((are.told ino q n at).0 (sym (moved.kept none out) ∙ is))))
        (contains_or_not ino (held_of old)))
        (contains_or_not ino (held_of new))

    holds_told : (q ino : ℕ) (n n' : InodeState) → slice_get b.inodes.items ino ≡ Some n → MovesHolder who old new ino n n' → Holds b' q ino
        → n'.holder ≡ Some q
    holds_told q ino n n' at moved holds = ⊎_elim
        (λ mine. moved.mine mine.1 ∙ ap (λ (k : ℕ). Some k) (sym mine.0))
        (λ other. let told = (are.told ino q n at).1 other.1 in
        let out = not_old q ino n at told other.0 in
        moved.kept out (λ has. ⊎_elim out (λ none. none_some n.holder q none told) (moved.loose has)) ∙ told)
        (held_then who client old new b b' r q ino holds)

    pub holders_moved : AreHolders e b'
    holders_moved = record {
      told = λ ino q n' at. let was = moves ino n' at in (
        (λ is. told_holds q ino was.0 n' was.1 was.2 is),
        (λ holds. holds_told q ino was.0 n' was.1 was.2 holds),
      );
      in_table = λ ino q holds. ⊎_elim (λ mine. in_table ino mine.1)
          (λ other. let lt = are.in_table ino q other.1 in omega (arith, lt, inodes_same)) (held_then who client old new b b' r q ino holds);
    }

  module _ (d : Disk) (space : HasSpace d b) where
    pub old_taker : (page : ℕ) → Contains (taken_of old) page → space.taker page ≡ who
    old_taker page has = space.takes who page (takes_old who client old new b b' r page has)

    some_taker : (q page : ℕ) → Takes b q page → 1 ≤ q
    some_taker q page (for_client g flies has) = flies.client
    some_taker q page (for_cleaning c him cleans has) = omega (arith, him)

    -- who has taken a page afterwards
    taker_by : (page : ℕ) → Contains (taken_of new) page ⊎ (Contains (taken_of new) page → ⊥)
        → Contains (taken_of old) page ⊎ (Contains (taken_of old) page → ⊥) → ℕ
    taker_by page (inl has) before = who
    taker_by page (inr out) (inl had) = 0
    taker_by page (inr out) (inr none) = space.taker page

    pub taker_then : ℕ → ℕ
    taker_then page = taker_by page (contains_or_not page (taken_of new)) (contains_or_not page (taken_of old))

    pub taker_new : (page : ℕ) → Contains (taken_of new) page → taker_then page ≡ who
    unfolding taker_then taker_by
    taker_new page has = by (contains_or_not page (taken_of new)) (contains_or_not page (taken_of old))
      where
        by : (x : Contains (taken_of new) page ⊎ (Contains (taken_of new) page → ⊥))
            (y : Contains (taken_of old) page ⊎ (Contains (taken_of old) page → ⊥)) → taker_by page x y ≡ who
        by (inl is) y = refl
        by (inr out) y = absurd (out has)

    pub taker_gone : (page : ℕ) → (Contains (taken_of new) page → ⊥) → Contains (taken_of old) page → taker_then page ≡ 0
    unfolding taker_then taker_by
    taker_gone page out had = by (contains_or_not page (taken_of new)) (contains_or_not page (taken_of old))
      where
        by : (x : Contains (taken_of new) page ⊎ (Contains (taken_of new) page → ⊥))
            (y : Contains (taken_of old) page ⊎ (Contains (taken_of old) page → ⊥)) → taker_by page x y ≡ 0
        by (inl is) y = absurd (out is)
        by (inr _) (inl is) = refl
        by (inr _) (inr none) = absurd (none had)

    pub taker_kept : (page : ℕ) → (Contains (taken_of new) page → ⊥) → (Contains (taken_of old) page → ⊥)
        → taker_then page ≡ space.taker page
    unfolding taker_then taker_by
    taker_kept page out none = by (contains_or_not page (taken_of new)) (contains_or_not page (taken_of old))
      where
        by : (x : Contains (taken_of new) page ⊎ (Contains (taken_of new) page → ⊥))
            (y : Contains (taken_of old) page ⊎ (Contains (taken_of old) page → ⊥)) → taker_by page x y ≡ space.taker page
        by (inl is) y = absurd (out is)
        by (inr _) (inl is) = absurd (none is)
        by (inr _) (inr _) = refl

    -- the new one took what nobody or the old one had taken
    module _ (loose : (page : ℕ) → Contains (taken_of new) page → Contains (taken_of old) page ⊎ (space.taker page ≡ 0)) where
      takes_then : (q page : ℕ) → Takes b' q page → taker_then page ≡ q
      takes_then q page takes = ⊎_elim
          (λ mine. taker_new page mine.1 ∙ sym mine.0)
          (λ other. let his = space.takes q page other.1 in
          let some = some_taker q page other.1 in
          let none : Contains (taken_of old) page → ⊥ = λ had. other.0 (sym his ∙ old_taker page had) in
          taker_kept page (λ has. ⊎_elim none (λ nobody. omega (arith, his, some, nobody)) (loose page has)) none ∙ his)
          (taken_then who client old new b b' r q page takes)

      kept_taker : (page : ℕ) → (Contains (taken_of new) page → ⊥) → taker_then page ≢ 0
          → (Contains (taken_of old) page → ⊥) × (space.taker page ≢ 0)
      kept_taker page out some =
          let none : Contains (taken_of old) page → ⊥ = λ had. some (taker_gone page out had) in
          (none, λ nobody. some (taker_kept page out none ∙ nobody))

      taken_now : (page : ℕ) → taker_then page ≢ 0 → Takes b' (taker_then page) page
      taken_now page some = ⊎_elim
          (λ has. subst (λ (q : ℕ). Takes b' q page) (sym (taker_new page has)) (takes_new who client old new b b' r page has))
          (λ out. let was = kept_taker page out some in
          subst (λ (q : ℕ). Takes b' q page) (sym (taker_kept page out was.0))
          (⊎_elim (λ mine. absurd (was.0 mine.1)) (λ other. other.1)
          (taken_before who client old new b b' r (space.taker page) page (space.taken page was.1))))
          (contains_or_not page (taken_of new))

      -- the free pages and those that are taken
      pub space_moved : (e : Disk) → b'.free.pages ≡ e.geometry.pages → IsInOrder b'.free → 1 ≤ length b'.free.free → TwoLeft b'
          → ((page : ℕ) → Contains b'.free.free page ↔ (IsUnused e page × (taker_then page ≡ 0)))
          → ((page : ℕ) → Contains (taken_of new) page → IsUnused e page)
          → ((page : ℕ) → (Contains (taken_of old) page → ⊥) → IsUnused d page → IsUnused e page)
          → HasSpace e b'
      space_moved e pages in_order some left free unused kept = record {
        pages = pages;
        in_order = in_order;
        taker = taker_then;
        free = free;
        takes = λ q page takes. takes_then q page takes;
        taken = λ page some. taken_now page some;
        unused = λ page some. ⊎_elim (unused page)
            (λ out. let was = kept_taker page out some in kept page was.0 (space.unused page was.1)) (contains_or_not page (taken_of new));
        some = some;
        left = left;
      }
