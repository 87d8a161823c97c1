-- The pages of a log are given back one after another.
use Rattle.std.proofs.Common.{
  ◌≡◌,
  ◌≢◌,
  ◌⊎◌,
  inl,
  inr,
  ⊎_elim,
  ℕ,
  zero,
  suc,
  ◌+◌,
  ◌-◌,
  ◌*◌,
  ◌/◌,
  ◌%◌,
  ◌<◌,
  ◌≤◌,
  true,
  false,
  eqb,
  get_or,
  List,
  length,
  refl,
  sym,
  ◌∙◌,
  ap,
  subst,
  arith,
}
use Rattle.std.specs.Prelude.{slice_index, Contains}
use Rattle.std.proofs.lemmas.Bool.{cases_eq, cases_lt, false≢true}
use Rattle.std.proofs.lemmas.Bool.Decides.{nat_tests}
use Rattle.std.specs.List.{list_any}
use Rattle.std.proofs.lemmas.List.Folds.{list_any_none}
use Rattle.std.proofs.lemmas.Map.Keys.{IsDistinct-from_apart}
use Rattle.std.proofs.lemmas.Map.Steps.{length-le_from_distinct_below}
use Rattle.std.proofs.lemmas.List.{get_or_default}
use Rattle.std.proofs.lemmas.List.Elements.{Contains-get_or}
use Rattle.pm_device.specs.State.{State}
use Rattle.pm_layout.specs.declared.Geometry.{Geometry}
use Rattle.pm_layout.specs.Geometry.{inode_word}
use Rattle.page_alloc.specs.Free.{FreePages, IsInOrder, GivesBack}
use Rattle.file_content.specs.Pages.{AreApart}
use Rattle.dn_model.specs.Log.{Log, IsPaged, count, tail_at, at_tail, at_head, at_footer}
use Rattle.dn_model.specs.Disk.{Disk, IsUsed, of_logs}
use Rattle.law_dying.specs.Dying.{MayEnd}
use Rattle.dn_volume.specs.declared.volume.Parts.{Parts}
use Rattle.dn_volume.specs.Agrees.{IsVolume}
use Rattle.reclaim.specs.Worked.{Gives}
use Rattle.reclaim.specs.Walked.{LeadsThrough, CanGiveLog, IsAmong, IsWalking}
use Rattle.reclaim.proofs.SpaceGained.{gives_one}
use Rattle.reclaim.proofs.EndedInode.{end_used}

-- one page more
pub among_next : (pages : List ℕ) (k : ℕ) (old now new : FreePages) → Gives (IsAmong pages k) old now → GivesBack (slice_index pages k) now new
    → IsInOrder new → Gives (IsAmong pages (k + 1)) old new
among_next pages k old now new so_far back order = record {
  pages = back.pages ∙ so_far.pages;
  free = λ p. (to p, from p);
  no_less = omega (arith, so_far.no_less, back.count);
  in_order = order;
}
  where
    one : Gives (λ p. p ≡ slice_index pages k) now new
    one = gives_one (slice_index pages k) now new back order

    to : (p : ℕ) → Contains new.free p → Contains old.free p ⊎ IsAmong pages (k + 1) p
    to p there = ⊎_elim
        (λ (before : Contains now.free p). ⊎_elim (λ (was : Contains old.free p). inl was)
        (λ (a : IsAmong pages k p). inr (record { i = a.i; below = omega (arith, a.below); is = a.is })) ((so_far.free p).0 before))
        (λ (e : p ≡ slice_index pages k). inr (record { i = k; below = omega arith; is = sym e })) ((one.free p).0 there)

    at_last : (p : ℕ) (a : IsAmong pages (k + 1) p) → k ≤ a.i → p ≡ slice_index pages k
    at_last p a high = let same : a.i ≡ k = omega (arith, a.below, high) in sym a.is ∙ ap (slice_index pages) same

    from : (p : ℕ) → Contains old.free p ⊎ IsAmong pages (k + 1) p → Contains new.free p
    from p (inl was) = (one.free p).1 (inl ((so_far.free p).1 (inl was)))
    from p (inr a) = elim (cases_lt a.i k) [
      | inl low ↦ (one.free p).1 (inl ((so_far.free p).1 (inr (record { i = a.i; below = low; is = a.is }))))
      | inr high ↦ (one.free p).1 (inr (at_last p a high))
    ]

-- none yet
pub among_none : (pages : List ℕ) (old : FreePages) → IsInOrder old → Gives (IsAmong pages 0) old old
among_none pages old order = record {
  pages = refl;
  free = λ p. ((λ there. inl there), (λ h. ⊎_elim (λ there. there) (λ (a : IsAmong pages 0 p). absurd (omega (arith, a.below))) h));
  no_less = omega arith;
  in_order = order;
}

-- all of them
pub among_all : (pages : List ℕ) (k : ℕ) (old now : FreePages) → k ≡ length pages → Gives (IsAmong pages k) old now → Gives (Contains pages) old now
among_all pages k old now all gives = record {
  pages = gives.pages;
  free = λ p. (
    (λ there. ⊎_elim (λ was. inl was) (λ a. inr (subst (Contains pages) a.is (Contains-get_or pages a.i 0 (omega (arith, a.below, all)))))
        ((gives.free p).0 there)),
    (λ h. (gives.free p).1 (⊎_elim (λ was. inl was)
        (λ has. inr (record { i = has.0; below = omega (arith, has.1, all); is = get_or_default pages has.0 0 p has.1 ∙ has.2 })) h)),
  );
  no_less = gives.no_less;
  in_order = gives.in_order;
}

-- the next one isn't free
pub among_taken : (pages : List ℕ) (k : ℕ) (old now : FreePages) → k < length pages → AreApart pages
    → ((p : ℕ) → Contains pages p → Contains old.free p → ⊥) → Gives (IsAmong pages k) old now
    → Contains now.free (slice_index pages k) → ⊥
among_taken pages k old now lt apart taken gives there = ⊎_elim (taken (slice_index pages k) (Contains-get_or pages k 0 lt))
    (λ a. let same = apart a.i k (omega (arith, a.below, lt)) lt a.is in omega (arith, same, a.below)) ((gives.free (slice_index pages k)).0 there)

-- the last page, and only that one, is the tail's
module _ (words : List ℕ) (g : Geometry) (ino : ℕ) (pages : List ℕ) (leads : LeadsThrough words g ino pages) where
  pub is_last : (k : ℕ) → k < length pages → slice_index pages k ≡ slice_index words (inode_word ino 2) / 64 → k + 1 ≡ length pages
  is_last k lt same = let at = leads.apart k (length pages - 1) lt (omega (arith, lt)) (same ∙ leads.last (omega (arith, lt))) in
      omega (arith, at, lt)

  pub not_last : (k : ℕ) → k < length pages → slice_index pages k ≢ slice_index words (inode_word ino 2) / 64 → k + 1 < length pages
  not_last k lt ne = elim (cases_eq (k + 1) (length pages)) [
    | inl e ↦ absurd (ne (ap (slice_index pages) (omega (arith, e)) ∙ sym (leads.last (omega (arith, lt)))))
    | inr other ↦ omega (arith, lt, other)
  ]

-- the words of a device that stands for a disk lead through the pages of each log
slots_some : (log : Log) (g : Geometry) → IsPaged g log → 0 < length log.pages → 0 < count log
slots_some log g paged some = omega (arith, paged.fits, some)

tail_none : (pages : List ℕ) (n : ℕ) → n ≡ 0 → tail_at pages n ≡ 0
tail_none pages n none = ap (tail_at pages) none

tail_some : (pages : List ℕ) (n : ℕ) → 0 < n → tail_at pages n ≢ 0
tail_some pages zero some is = omega (arith, some)
tail_some pages (suc n) some is = omega (arith, is)

tail_page : (pages : List ℕ) (n : ℕ) → 0 < n → tail_at pages n / 64 ≡ slice_index pages ((n - 1) / 63)
tail_page pages zero some = absurd (omega (arith, some))
tail_page pages (suc n) some = by_page (slice_index pages (n / 63)) ∙ ap (λ (k : ℕ). slice_index pages (k / 63)) n_is
  where
    by_page : (p : ℕ) → (p * 64 + n % 63 + 1) / 64 ≡ p
    by_page p = omega arith

    n_is : n ≡ suc n - 1
    n_is = omega arith

-- pages that are different and below a number aren't more than it
few_pages : (pages : List ℕ) (n : ℕ) → AreApart pages → ((k : ℕ) → k < length pages → slice_index pages k < n) → length pages ≤ n
few_pages pages n apart below = length-le_from_distinct_below pages n (IsDistinct-from_apart eqb pages differ) within
  where
    value : (k : ℕ) (d : ℕ) → k < length pages → get_or pages k d ≡ slice_index pages k
    value k d lt = get_or_default pages k d 0 lt

    unequal : (a b : ℕ) → a ≢ b → eqb a b ≡ false
    unequal a b ne = grind (arith, nat_tests)

    differ : (i j d : ℕ) → i < j → j < length pages → eqb (get_or pages i d) (get_or pages j d) ≡ false
    differ i j d lt jl = unequal _ _ (λ e. let same : i ≡ j = apart i j (omega arith) jl (sym (value i d (omega arith)) ∙ e ∙ value j d jl) in
        omega arith)

    within : (q : ℕ) → list_any (eqb q) pages ≡ true → q < n
    within q any = elim (cases_lt q n) [
      | inl low ↦ low
      | inr high ↦ absurd (false≢true
          (sym (list_any_none (eqb q) pages (λ k d lt. unequal q _ (λ e. omega (arith, high, e, value k d lt, below k lt)))) ∙ any))
    ]

-- so a log has no more pages than the image
pub log_few : (g : Geometry) (log : Log) → IsPaged g log → length log.pages ≤ g.pages
log_few g log paged = few_pages log.pages g.pages (λ i j il jl same. paged.apart i j il jl same) (λ k lt. (paged.in_data k lt).high)

module _ (d : Disk) (b : Parts) (s : State) (v : IsVolume d b s) (ino : ℕ) (may : MayEnd d ino) where
  abbrev log : Log
  log = (d.inode ino).log

  used : IsUsed (d.inode ino).use_of
  used = subst IsUsed (sym may.dying) tt

  paged : IsPaged d.geometry log
  paged = (v.fast.valid.logs ino may.in_table used).paged

  tail_reads : slice_index s.now (inode_word ino 2) ≡ tail_at log.pages (count log)
  tail_reads = v.fast.stands.reads _ _ (of_logs (record { ino = ino; in_table = may.in_table; used = used; says = at_tail refl refl }))

  many : 0 < length log.pages → 0 < count log
  many some = slots_some log d.geometry paged some

  none_of : length log.pages ≡ 0 → count log ≡ 0
  none_of none = omega (arith, paged.fits, none)

  last_of : 0 < length log.pages → (count log - 1) / 63 ≡ length log.pages - 1
  last_of some = omega (arith, paged.fits, many some)

  inside : (k : ℕ) → k < length log.pages → slice_index log.pages k < d.geometry.pages
  inside k lt = (paged.in_data k lt).high

  leads : LeadsThrough s.now d.geometry ino log.pages
  leads = record {
    none = λ none. tail_reads ∙ tail_none log.pages (count log) (none_of none);
    some = λ some zero. tail_some log.pages (count log) (many some) (sym tail_reads ∙ zero);
    last = λ some. ap (λ (t : ℕ). t / 64) tail_reads ∙ tail_page log.pages (count log) (many some) ∙ ap (slice_index log.pages) (last_of some);
    head = λ some. v.fast.stands.reads _ _
        (of_logs (record { ino = ino; in_table = may.in_table; used = used; says = at_head (many some) refl refl }));
    footer = λ k lt. v.fast.stands.reads _ _ (of_logs (record { ino = ino; in_table = may.in_table; used = used; says = at_footer k lt refl refl }));
    apart = λ i j il jl same. paged.apart i j il jl same;
    inside = inside;
    few = log_few d.geometry log paged;
  }

  pub log_leads : LeadsThrough s.now b.geometry ino log.pages
  log_leads = subst (λ (g : Geometry). LeadsThrough s.now g ino log.pages) v.fast.geometry leads

  pub can_give_log : CanGiveLog s.now b.geometry ino b.free
  can_give_log = record {
    pages = log.pages;
    leads = log_leads;
    taken = λ page listed free. end_used d ino may page listed ((v.space.free page).0 free).0;
    in_order = v.space.in_order;
    size = v.space.pages ∙ ap (λ (g : Geometry). g.pages) v.fast.geometry;
  }

-- the steps of the walk
module _ (words : List ℕ) (g : Geometry) (ino : ℕ) (tail : ℕ) (tail_is : tail ≡ slice_index words (inode_word ino 2)) (pages : List ℕ)
    (leads : LeadsThrough words g ino pages) (i page : ℕ) (old now : FreePages)
    (at : IsWalking pages i page old now) where
  pub walk_taken : ((p : ℕ) → Contains pages p → Contains old.free p → ⊥) → Contains now.free page → ⊥
  walk_taken taken there = among_taken pages i old now at.inside leads.apart taken at.given (subst (Contains now.free) at.at there)

  module _ (new : FreePages) (back : GivesBack page now new) (order : IsInOrder new) where
    gave : Gives (IsAmong pages (i + 1)) old new
    gave = among_next pages i old now new at.given (subst (λ (p : ℕ). GivesBack p now new) at.at back) order

    pub walk_last : page ≡ tail / 64 → Gives (Contains pages) old new
    walk_last same = among_all pages (i + 1) old new (is_last words g ino pages leads i at.inside (sym at.at ∙ same ∙ ap (λ (t : ℕ). t / 64) tail_is))
        gave

    pub walk_counted : page ≡ tail / 64 → length new.free ≡ length old.free + length pages
    walk_counted same =
        let last = is_last words g ino pages leads i at.inside (sym at.at ∙ same ∙ ap (λ (t : ℕ). t / 64) tail_is) in
        omega (arith, last, back.count, at.counted)

    pub walk_on : (next : ℕ) → (page ≡ tail / 64 → ⊥) → next ≡ slice_index words (512 * page + 504) → IsWalking pages (i + 1) next old new
    walk_on next other is =
        let more = not_last words g ino pages leads i at.inside (λ same. other (at.at ∙ same ∙ ap (λ (t : ℕ). t / 64) (sym tail_is))) in
        record {
          at = is ∙ ap (λ (p : ℕ). slice_index words (512 * p + 504)) at.at ∙ leads.footer i more;
          inside = more;
          given = gave;
          counted = omega (arith, back.count, at.counted);
        }
