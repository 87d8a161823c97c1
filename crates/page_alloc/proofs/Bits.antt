-- One bit of a word of a bitmap, and the set that the words then hold.
use Rattle.std.proofs.Common.{◌≡◌, ◌≢◌, inl, inr, ℕ, ◌+◌, ◌*◌, ◌/◌, ◌%◌, ◌^◌, ◌<◌, true, false, List, length, set, refl, length-set, arith, get_or-set_other, get_or-set_same, w64, bit_and, bit_or}
use Rattle.std.specs.Prelude.{slice_index, nat_eq}
use Rattle.std.specs.Int.{bit_at, bit_not}
use Rattle.std.proofs.lemmas.Bool.{cases_eq}
use Rattle.std.proofs.lemmas.Nat.Bits.{bit_at_set_same, bit_at_set_other, bit_at_clear_same, bit_at_clear_other}
use Rattle.page_alloc.specs.Bitmap.{is_marked, MarksAs}

module _ (words : List ℕ) (i b : ℕ) (inside : i < length words) (small : b < 64) where
  -- what a page's bit is in the word that was written, and in the others
  here_at : (v : ℕ) → is_marked (set words i v) (64 * i + b) ≡ nat_eq (bit_at v b) 1
  here_at v =
      let word : (64 * i + b) / 64 ≡ i = omega arith in
      let bit : (64 * i + b) % 64 ≡ b = omega arith in
      rw (word, bit, get_or-set_same words i v 0 inside) refl

  other_word : (v q : ℕ) → q / 64 ≢ i → is_marked (set words i v) q ≡ is_marked words q
  other_word v q ne = rw (get_or-set_other words i (q / 64) v 0 ne) refl

  same_word : (v q : ℕ) → q / 64 ≡ i → bit_at v (q % 64) ≡ bit_at (slice_index words i) (q % 64) → is_marked (set words i v) q ≡ is_marked words q
  same_word v q e bits = rw (e, get_or-set_same words i v 0 inside, bits) refl

  pub is_marked-set_same : is_marked (set words i (bit_or (slice_index words i) (1 * 2 ^ b % 2 ^ 64))) (64 * i + b) ≡ true
  is_marked-set_same = rw (here_at, bit_at_set_same w64 (slice_index words i) b small) refl

  pub is_marked-set_other : (q : ℕ) → q ≢ 64 * i + b → is_marked (set words i (bit_or (slice_index words i) (1 * 2 ^ b % 2 ^ 64))) q ≡ is_marked words q
  is_marked-set_other q ne = elim (cases_eq (q / 64) i) [
    | inl e ↦ same_word _ q e (bit_at_set_other w64 (slice_index words i) b small (q % 64) (λ e'. ne (omega arith)))
    | inr other ↦ other_word _ q other
  ]

  pub is_marked-clear_same : is_marked (set words i (bit_and (slice_index words i) (bit_not w64 (1 * 2 ^ b % 2 ^ 64)))) (64 * i + b) ≡ false
  is_marked-clear_same = rw (here_at, bit_at_clear_same w64 (slice_index words i) b small) refl

  pub is_marked-clear_other : (q : ℕ) → q ≢ 64 * i + b → is_marked (set words i (bit_and (slice_index words i) (bit_not w64 (1 * 2 ^ b % 2 ^ 64)))) q ≡ is_marked words q
  is_marked-clear_other q ne = elim (cases_eq (q / 64) i) [
    | inl e ↦ same_word _ q e (bit_at_clear_other w64 (slice_index words i) b small (q % 64) (omega arith) (λ e'. ne (omega arith)))
    | inr other ↦ other_word _ q other
  ]

-- the bit of a place is written to its word
module _ (words : List ℕ) (place : ℕ) (inside : place / 64 < length words) where
  parts : 64 * (place / 64) + place % 64 ≡ place
  parts = omega arith

  pub marks : MarksAs true place words (set words (place / 64) (bit_or (slice_index words (place / 64)) (1 * 2 ^ (place % 64) % 2 ^ 64)))
  marks = record {
    length = length-set words (place / 64) _;
    here = rw parts at (is_marked-set_same words (place / 64) (place % 64) inside (omega arith));
    others = rw parts at (is_marked-set_other words (place / 64) (place % 64) inside (omega arith));
    other_words = λ k ne. get_or-set_other words (place / 64) k _ 0 ne;
  }

  pub unmarks : MarksAs false place words (set words (place / 64) (bit_and (slice_index words (place / 64)) (bit_not w64 (1 * 2 ^ (place % 64) % 2 ^ 64))))
  unmarks = record {
    length = length-set words (place / 64) _;
    here = rw parts at (is_marked-clear_same words (place / 64) (place % 64) inside (omega arith));
    others = rw parts at (is_marked-clear_other words (place / 64) (place % 64) inside (omega arith));
    other_words = λ k ne. get_or-set_other words (place / 64) k _ 0 ne;
  }
