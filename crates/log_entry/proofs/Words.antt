-- Bytes as a number, the first the least significant.
use Rattle.std.proofs.Common.{
  ◌≡◌,
  ℕ,
  zero,
  suc,
  ◌+◌,
  ◌-◌,
  ◌*◌,
  ◌^◌,
  ◌<◌,
  ◌≤◌,
  List,
  [],
  ◌∷◌,
  length,
  get_or,
  refl,
  sym,
  ◌∙◌,
  ap,
  arith,
  add-one,
  lit<,
}
use Rattle.std.specs.Prelude.{slice_index}
use Rattle.std.proofs.Math.Nat.{pow-suc, pow-le-pow_right}
use Rattle.std.proofs.lemmas.Grind.{same_number_lists}
use Rattle.std.proofs.lemmas.List.FromFn.{get_or-map-range_with_len, length-map-range_with_len}
use Rattle.log_entry.specs.Spelling.{le_number, name_words, more_slots, more_count, name_slots}

-- a number of i bytes with one more byte below them
pub more_below : (i n b : ℕ) → n < 256 ^ i → b < 256 → 256 * n + b < 256 ^ (i + 1)
more_below i n b hn hb = let e : 256 ^ (i + 1) ≡ 256 ^ i * 256 = ap (λ j. 256 ^ j) (add-one i) ∙ pow-suc 256 i in omega arith

pub word_fits : (i n b : ℕ) → i < 8 → n < 256 ^ i → b < 256 → 256 * n + b < 2 ^ 64
word_fits i n b hi hn hb =
    let more = more_below i n b hn hb in
    let most : 256 ^ (i + 1) ≤ 256 ^ 8 = pow-le-pow_right (lit< tt) {j = 8} (omega arith) in
    omega arith

-- one more byte before a number
pub number_more : (name : List ℕ) (word i number b : ℕ) → i < 8 → number ≡ le_number name (8 * word + 8 - i) i
    → b ≡ slice_index name (8 * word + 7 - i) → 256 * number + b ≡ le_number name (8 * word + 8 - (i + 1)) (i + 1)
number_more name word i number b lt hn hb =
    let at : 8 * word + 8 - (i + 1) ≡ 8 * word + 7 - i = omega arith in
    let next : 8 * word + 7 - i + 1 ≡ 8 * word + 8 - i = omega arith in
    rw (at, add-one) (omega (arith, hn, hb, ap (λ j. le_number name j i) next))

-- how many slots go on with a name
pub length-more_slots : (name : List ℕ) (word n : ℕ) → length (more_slots name word n) ≡ n
length-more_slots name word zero = refl
length-more_slots name word (suc n) = ap suc (length-more_slots name (word + 7) n)

pub more_slots-at : (name : List ℕ) (word n i : ℕ) → i < n → get_or (more_slots name word n) i [] ≡ 5 ∷ name_words name (word + 7 * i) 7
more_slots-at name word zero i lt = absurd (omega arith)
more_slots-at name word (suc n) zero lt = let z : word + 7 * 0 ≡ word = omega arith in rw z refl
more_slots-at name word (suc n) (suc i) lt =
    let z : word + 7 + 7 * i ≡ word + 7 * suc i = omega arith in
    more_slots-at name (word + 7) n i (omega arith) ∙ ap (λ w. 5 ∷ name_words name w 7) z

pub length-name_slots : (kind ino : ℕ) (name : List ℕ) → length (name_slots kind ino name) ≡ 1 + more_count name
length-name_slots kind ino name = omega (arith, length-more_slots name 5 (more_count name))

pub ruleset slot_counts = (length-more_slots)

pub get_or-name_words : (name : List ℕ) (word n k : ℕ) → k < n → get_or (name_words name word n) k 0 ≡ le_number name (8 * (word + k)) 8
unfolding name_words
get_or-name_words name word n k lt = get_or-map-range_with_len (λ i. le_number name (8 * i) 8) word n k (word + k) 0 lt refl

pub length-name_words : (name : List ℕ) (word n : ℕ) → length (name_words name word n) ≡ n
unfolding name_words
length-name_words name word n = length-map-range_with_len (λ i. le_number name (8 * i) 8) word n

-- words are those of a name
pub filled_words : (name : List ℕ) (word n : ℕ) (words : List ℕ) → length words ≡ n
    → ((k : ℕ) → k < n → get_or words k 0 ≡ le_number name (8 * (word + k)) 8) → words ≡ name_words name word n
filled_words name word n words long at =
    same_number_lists words (name_words name word n) (long ∙ sym (length-name_words name word n))
    (λ k lt. let near : k < n = omega arith in at k near ∙ sym (get_or-name_words name word n k near))

pub name_slots-more : (kind ino : ℕ) (name : List ℕ) (slot : ℕ) → 0 < slot → slot < 1 + more_count name
    → get_or (name_slots kind ino name) slot [] ≡ 5 ∷ name_words name (7 * slot - 2) 7
name_slots-more kind ino name zero some lt = absurd (omega arith)
name_slots-more kind ino name (suc i) some lt =
    let z : 5 + 7 * i ≡ 7 * suc i - 2 = omega arith in
    more_slots-at name 5 (more_count name) i (omega arith) ∙ ap (λ w. 5 ∷ name_words name w 7) z
