-- What a change of one bit makes of the set that the words hold.
use Rattle.std.proofs.Common.{◌≡◌, ◌≢◌, inl, inr, ℕ, ◌*◌, ◌/◌, ◌%◌, ◌^◌, ◌<◌, ◌≤◌, true, false, eqb, List, [], length, get_or, replicate, refl, sym, ◌∙◌, ap, arith, bit_and}
use Rattle.std.specs.Prelude.{IsTrue, Contains, ◌↔◌, slice_index}
use Rattle.std.specs.Int.{bit_at}
use Rattle.std.proofs.lemmas.Bool.{cases_lt, true≢false}
use Rattle.std.proofs.lemmas.List.{get_or_default, get_or_past, length-replicate, get_or-replicate}
use Rattle.std.proofs.lemmas.Nat.Bits.{bit_at-zero, shr_and_one}
use Rattle.page_alloc.specs.Free.{FreePages, IsInOrder, with_page, Takes, GivesBack}
use Rattle.page_alloc.specs.Bitmap.{is_marked, marked, IsBitmap}
use Rattle.page_alloc.proofs.FreeLaws.{length-with_page}
use Rattle.page_alloc.proofs.Passing.{Contains-passing, passed, passing-none, passing-first, passing-with, length-passing-le, IsStrictlyIncreasing-passing}

-- the set of these words
abbrev pub set_of : List ℕ → ℕ → FreePages
set_of words pages = record { pages = pages; free = marked words pages }

pub in_order : (words : List ℕ) (pages : ℕ) → IsInOrder (set_of words pages)
unfolding marked
in_order words pages = record {
  rising = IsStrictlyIncreasing-passing (is_marked words) 0 pages;
  below = λ k d lt. let r = passed (is_marked words) 0 pages _ (k, lt, get_or_default (marked words pages) k _ d lt) in let b = r.below in omega arith;
}

pub Contains-marked : (words : List ℕ) (pages page : ℕ) → page < pages → is_marked words page ≡ true → Contains (marked words pages) page
unfolding marked
Contains-marked words pages page lt is = Contains-passing (is_marked words) 0 pages page (omega arith) (omega arith) is

pub is_marked-contains : (words : List ℕ) (pages page : ℕ) → Contains (marked words pages) page → (page < pages) × (is_marked words page ≡ true)
unfolding marked
is_marked-contains words pages page has = let r = passed (is_marked words) 0 pages page has in let b = r.below in (omega arith, r.passes)

pub length-marked-le : (words : List ℕ) (n : ℕ) → length (marked words n) ≤ n
unfolding marked
length-marked-le words n = length-passing-le (is_marked words) 0 n

pub marked-none : (words : List ℕ) (pages : ℕ) → ((k : ℕ) → slice_index words k ≡ 0) → marked words pages ≡ []
unfolding marked
marked-none words pages none = passing-none (is_marked words) 0 pages (λ x above below. unmarked x)
  where
    unmarked : (x : ℕ) → is_marked words x ≡ false
    unmarked x = rw (none (x / 64), bit_at-zero (x % 64)) refl

-- the words that differ in one page alone
module _ (words words' : List ℕ) (pages page : ℕ) (inside : page < pages) (same : (q : ℕ) → q ≢ page → is_marked words' q ≡ is_marked words q) where
  others : (q : ℕ) → q ≢ page → (Contains (marked words' pages) q ↔ Contains (marked words pages) q)
  others q ne = (
    λ has. let is = is_marked-contains words' pages q has in Contains-marked words pages q is.0 (sym (same q ne) ∙ is.1),
    λ has. let is = is_marked-contains words pages q has in Contains-marked words' pages q is.0 (same q ne ∙ is.1),
  )

  pub gives_back : is_marked words page ≡ false → is_marked words' page ≡ true → GivesBack page (set_of words pages) (set_of words' pages)
  unfolding marked
  gives_back before after =
      let list : marked words' pages ≡ with_page page (marked words pages) = passing-with (is_marked words) (is_marked words') 0 pages page (omega arith) (omega arith) before after (λ x ne lt. same x ne) in
      record {
        pages = refl;
        free = list;
        count = ap length list ∙ length-with_page page (marked words pages);
        there = Contains-marked words' pages page inside after;
        others = others;
      }

  pub takes : is_marked words page ≡ true → is_marked words' page ≡ false → ((q : ℕ) → q < page → is_marked words q ≡ false) → Takes page (set_of words pages) (set_of words' pages)
  unfolding marked
  takes before after first = record {
    pages = refl;
    rest = passing-first (is_marked words) (is_marked words') 0 pages page (omega arith) (omega arith) before after (λ x low lt. first x lt) (λ x ne lt. same x ne);
    least = λ k d lt. elim (cases_lt (get_or (marked words pages) k d) page) [
      | inl below ↦ absurd (true≢false (sym (is_marked-contains words pages _ (k, lt, get_or_default (marked words pages) k _ d lt)).1 ∙ first _ below))
      | inr le ↦ le
    ];
    gone = λ has. true≢false (sym (is_marked-contains words' pages page has).1 ∙ after);
    others = others;
  }

-- the bit of a page, as it is read from the word that holds it
pub bit-contains : (words : List ℕ) (pages page word : ℕ) → pages ≤ 64 * length words → page < pages → word ≡ get_or words (page / 64) word
    → (IsTrue (eqb (bit_and (word / 2 ^ (page % 64)) 1) 1) ↔ Contains (marked words pages) page)
bit-contains words pages page word covers below read =
    let at : word ≡ slice_index words (page / 64) = read ∙ get_or_default words (page / 64) word 0 (omega arith) in
    let bit : is_marked words page ≡ eqb (bit_and (word / 2 ^ (page % 64)) 1) 1 = ap (λ (w : ℕ). eqb (bit_at w (page % 64)) 1) (sym at) ∙ ap (λ (n : ℕ). eqb n 1) (sym (shr_and_one word (page % 64))) in
    (λ is. Contains-marked words pages page below (bit ∙ is), λ has. sym bit ∙ (is_marked-contains words pages page has).1)

-- words that are all 0
pub slice_index-zeros : (n k : ℕ) → slice_index (replicate n 0) k ≡ 0
slice_index-zeros n k = elim (cases_lt k n) [
  | inl lt ↦ get_or-replicate n k 0 0 lt
  | inr le ↦ get_or_past (replicate n 0) k 0 (rw length-replicate le)
]

pub empty-set : (n pages : ℕ) → set_of (replicate n 0) pages ≡ record { pages = pages; free = [] }
empty-set n pages = rw (marked-none (replicate n 0) pages (slice_index-zeros n)) refl

pub empty-bitmap : (n m pages : ℕ) → pages ≤ 64 * n → n ≤ 64 * m → IsBitmap (replicate n 0) (replicate m 0) pages 0
empty-bitmap n m pages covers summed = record {
  covers = rw length-replicate covers;
  exist = λ q is. absurd (true≢false (sym is ∙ rw (slice_index-zeros n (q / 64), bit_at-zero (q % 64)) refl));
  counted = rw (marked-none (replicate n 0) pages (slice_index-zeros n)) refl;
  summed = record {
    covers = rw (length-replicate, length-replicate) summed;
    tells = λ k. rw (slice_index-zeros m (k / 64), slice_index-zeros n k, bit_at-zero (k % 64)) refl;
  };
}
