-- The name that begins in slots is one that they may spell, if they may spell any.
use Rattle.std.proofs.Common.{
  ◌≡◌,
  inl,
  inr,
  ℕ,
  zero,
  suc,
  ◌+◌,
  ◌-◌,
  ◌*◌,
  ◌/◌,
  ◌%◌,
  ◌<◌,
  ◌≤◌,
  List,
  [],
  ◌∷◌,
  length,
  get_or,
  refl,
  sym,
  ◌∙◌,
  ap,
  subst,
  arith,
  lit<,
  lit≤,
}
use Rattle.std.specs.Prelude.{slice_index}
use Rattle.std.proofs.lemmas.Bool.{cases_lt}
use Rattle.std.proofs.lemmas.Bool.Decides.{nat_tests}
use Rattle.std.proofs.lemmas.List.{get_or_past, get_or_default}
use Rattle.std.proofs.lemmas.Grind.{same_number_lists}
use Rattle.std.proofs.lemmas.List.FromFn.{get_or-map-range_with_len, length-map-range_with_len}
use Rattle.log_entry.specs.Name.{IsLegal, IsNameByte}
use Rattle.log_entry.specs.Spelling.{le_number, name_words, more_count, name_slots}
use Rattle.log_entry.specs.Reading.{Agrees, byte_of, name_byte, name_bytes}
use Rattle.log_entry.proofs.Unique.{byte_below}
use Rattle.log_entry.proofs.Words.{name_slots-more, length-name_slots, get_or-name_words}
use Rattle.log_entry.proofs.Bytes.{byte_of-le_number, words_same}

byte_inside : (slots : List (List ℕ)) (k : ℕ) → (k + 16) / 56 < length slots
    → name_byte slots k ≡ byte_of (slice_index (get_or slots ((k + 16) / 56) []) (1 + (k + 16) % 56 / 8)) (k % 8)
byte_inside slots k lt = grind (arith, nat_tests)

byte_outside : (slots : List (List ℕ)) (k : ℕ) → length slots ≤ (k + 16) / 56 → name_byte slots k ≡ 97
byte_outside slots k past = grind (arith, nat_tests)

after_one : (a : ℕ) (ws : List ℕ) (j : ℕ) → get_or (a ∷ ws) (1 + j) 0 ≡ get_or ws j 0
after_one a ws j = let z : 1 + j ≡ suc j = omega arith in rw z refl

after_three : (a b d : ℕ) (ws : List ℕ) (i j : ℕ) → i ≡ 3 + j → get_or (a ∷ b ∷ d ∷ ws) i 0 ≡ get_or ws j 0
after_three a b d ws i j e = let z : i ≡ suc (suc (suc j)) = omega arith in rw z refl

-- the letter a
letter : IsNameByte 97
letter = record { high = lit≤ tt; byte = lit< tt; not_delete = λ e. omega arith; not_slash = λ e. omega arith }

-- a legal name is no longer than the first slot can say
pub legal_length : (slots : List (List ℕ)) → IsLegal (name_bytes slots) → slice_index (get_or slots 0 []) 2 ≤ 255
unfolding name_bytes
legal_length slots legal =
    omega (arith, legal.few, length-map-range_with_len (name_byte slots) 0 (slice_index (get_or slots 0 []) 2))

fits_more : (k l : ℕ) → k < l → 40 ≤ k → (k + 16) / 56 < 1 + (l - 40 + 55) / 56
fits_more k l lt high = omega arith

module _ (kind ino : ℕ) (n : List ℕ) (slots : List (List ℕ)) (legal : IsLegal n) (some : 0 < length slots)
    (same : Agrees slots (name_slots kind ino n)) where
  small : (j : ℕ) → slice_index n j < 256
  small j = byte_below n j legal.bytes

  head : get_or slots 0 [] ≡ kind ∷ ino ∷ length n ∷ name_words n 0 5
  head = same 0 some (omega (arith, length-name_slots kind ino n))

  pub head_length : slice_index (get_or slots 0 []) 2 ≡ length n
  head_length = ap (λ h. slice_index h 2) head

  -- the word of the slots that has byte k of the name
  word : (k : ℕ) → k < length n → (k + 16) / 56 < length slots
      → slice_index (get_or slots ((k + 16) / 56) []) (1 + (k + 16) % 56 / 8) ≡ le_number n (8 * (k / 8)) 8
  word k lt inside = elim (cases_lt k 40) [
    | inl low ↦
        let first : (k + 16) / 56 ≡ 0 = omega arith in
        let j : 1 + (k + 16) % 56 / 8 ≡ 3 + k / 8 = omega arith in
        ap (λ s. slice_index (get_or slots s []) (1 + (k + 16) % 56 / 8)) first
        ∙ ap (λ h. slice_index h (1 + (k + 16) % 56 / 8)) head
        ∙ after_three kind ino (length n) (name_words n 0 5) (1 + (k + 16) % 56 / 8) (k / 8) j
        ∙ get_or-name_words n 0 5 (k / 8) (omega arith)
        ∙ ap (λ w. le_number n (8 * w) 8) (let z : 0 + k / 8 ≡ k / 8 = omega arith in z)
    | inr high ↦
        let s = (k + 16) / 56 in
        let j = (k + 16) % 56 / 8 in
        let fits : s < 1 + more_count n = fits_more k (length n) lt high in
        let z : 7 * s - 2 + j ≡ k / 8 = omega arith in
        ap (λ h. slice_index h (1 + j)) (same s inside (omega (arith, length-name_slots kind ino n)) ∙ name_slots-more kind ino n s (omega arith)
        fits)
        ∙ after_one 5 (name_words n (7 * s - 2) 7) j
        ∙ get_or-name_words n (7 * s - 2) 7 j (omega arith)
        ∙ ap (λ w. le_number n (8 * w) 8) z
  ]

  byte : (k : ℕ) → k < length n → (k + 16) / 56 < length slots → name_byte slots k ≡ slice_index n k
  byte k lt inside =
      let z : 8 * (k / 8) + k % 8 ≡ k = omega arith in
      byte_inside slots k inside
      ∙ ap (λ w. byte_of w (k % 8)) (word k lt inside)
      ∙ byte_of-le_number n (8 * (k / 8)) 8 (k % 8) small (omega arith)
      ∙ ap (λ j. slice_index n j) z

  long : length (name_bytes slots) ≡ length n
  unfolding name_bytes
  long = length-map-range_with_len (name_byte slots) 0 (slice_index (get_or slots 0 []) 2) ∙ head_length

  read_at : (k : ℕ) → k < length n → slice_index (name_bytes slots) k ≡ name_byte slots k
  unfolding name_bytes
  read_at k lt = get_or-map-range_with_len (name_byte slots) 0 (slice_index (get_or slots 0 []) 2) k k 0 (omega (arith, head_length)) (omega arith)

  -- the bytes that stand in the slots are the name's
  read_same : (k : ℕ) → (k + 16) / 56 < length slots → slice_index n k ≡ slice_index (name_bytes slots) k
  read_same k inside = elim (cases_lt k (length n)) [
    | inl lt ↦ sym (read_at k lt ∙ byte k lt inside)
    | inr past ↦ get_or_past n k 0 past ∙ sym (get_or_past (name_bytes slots) k 0 (omega (arith, long)))
  ]

  read_byte : (k : ℕ) → k < length n → IsNameByte (slice_index (name_bytes slots) k)
  read_byte k lt = elim (cases_lt ((k + 16) / 56) (length slots)) [
    | inl inside ↦ subst IsNameByte (read_same k inside) (legal.bytes k 0 lt)
    | inr past ↦ subst IsNameByte (sym (read_at k lt ∙ byte_outside slots k past)) letter
  ]

  short_same : length n ≤ 40 → name_bytes slots ≡ n
  short_same short = same_number_lists (name_bytes slots) n long (λ k lt. sym (read_same k (omega (arith, long))))

  pub read_legal : IsLegal (name_bytes slots)
  read_legal = record {
    some = omega (arith, long, legal.some);
    few = omega (arith, long, legal.few);
    bytes = λ k d lt. subst IsNameByte (get_or_default (name_bytes slots) k 0 d lt) (read_byte k (omega (arith, long)));
    not_dot = λ e. legal.not_dot (sym (short_same (omega (arith, long, ap length e))) ∙ e);
    not_dots = λ e. legal.not_dots (sym (short_same (omega (arith, long, ap length e))) ∙ e);
  }

  slot_same : (k : ℕ) → k < length slots → k < 1 + more_count n → get_or (name_slots kind ino n) k [] ≡ get_or
      (name_slots kind ino (name_bytes slots)) k []
  slot_same zero inside lt =
      let words : name_words n 0 5 ≡ name_words (name_bytes slots) 0 5 = words_same n (name_bytes slots) 0 5
      (λ j lj. read_same (8 * 0 + j) (omega arith)) in
      ap (λ l. kind ∷ ino ∷ l ∷ name_words n 0 5) (sym long) ∙ ap (λ ws. kind ∷ ino ∷ length (name_bytes slots) ∷ ws) words
  slot_same (suc i) inside lt =
      name_slots-more kind ino n (suc i) (omega arith) lt
      ∙ ap (λ ws. 5 ∷ ws) (words_same n (name_bytes slots) (7 * suc i - 2) 7 (λ j lj. read_same (8 * (7 * suc i - 2) + j) (omega arith)))
      ∙ sym (name_slots-more kind ino (name_bytes slots) (suc i) (omega arith) (subst (λ (l : ℕ). suc i < 1 + (l - 40 + 55) / 56) (sym long) lt))

  pub read_agrees : Agrees slots (name_slots kind ino (name_bytes slots))
  read_agrees k inside lt =
      let count : length (name_slots kind ino (name_bytes slots)) ≡ 1 + (length n - 40 + 55) / 56 = length-name_slots kind ino (name_bytes slots) ∙ ap
      (λ l. 1 + (l - 40 + 55) / 56) long in
      same k inside (omega (arith, count, length-name_slots kind ino n)) ∙ slot_same k inside (omega (arith, count))
