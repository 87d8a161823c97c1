-- Bytes come back from their number, and a number depends on its bytes alone.
use Rattle.std.proofs.Common.{◌≡◌, ℕ, zero, suc, ◌+◌, ◌*◌, ◌/◌, ◌%◌, ◌^◌, ◌<◌, List, refl, sym, ◌∙◌, ap, subst, arith}
use Rattle.std.specs.Prelude.{slice_index}
use Rattle.std.proofs.Math.Nat.{pow-succ', div-div-eq-div-mul}
use Rattle.std.proofs.lemmas.Nat.{pow-add}
use Rattle.log_entry.specs.Spelling.{le_number, name_words}
use Rattle.log_entry.specs.Reading.{byte_of}
use Rattle.log_entry.proofs.Words.{filled_words, get_or-name_words, length-name_words}

low_byte : (b x : ℕ) → b < 256 → (b + 256 * x) / 256 ^ 0 % 256 ≡ b
low_byte b x lt = omega arith

drop_byte : (b x : ℕ) → b < 256 → (b + 256 * x) / 256 ≡ x
drop_byte b x lt = omega arith

high_byte : (b x i : ℕ) → b < 256 → (b + 256 * x) / 256 ^ suc i ≡ x / 256 ^ i
high_byte b x i lt =
    ap (λ p. (b + 256 * x) / p) (pow-succ' 256 i)
    ∙ sym (div-div-eq-div-mul (b + 256 * x) 256 (256 ^ i))
    ∙ ap (λ y. y / 256 ^ i) (drop_byte b x lt)

-- a byte of a name from the number of some of its bytes
pub byte_of-le_number : (name : List ℕ) (at c i : ℕ) → ((j : ℕ) → slice_index name j < 256) → i < c → byte_of (le_number name at c) i ≡ slice_index
    name (at + i)
byte_of-le_number name at zero i small lt = absurd (omega arith)
byte_of-le_number name at (suc c) zero small lt =
    let z : at + 0 ≡ at = omega arith in rw z (low_byte (slice_index name at) (le_number name (at + 1) c) (small at))
byte_of-le_number name at (suc c) (suc i) small lt =
    let z : at + 1 + i ≡ at + suc i = omega arith in
    ap (λ q. q % 256) (high_byte (slice_index name at) (le_number name (at + 1) c) i (small at))
    ∙ byte_of-le_number name (at + 1) c i small (omega arith)
    ∙ ap (λ j. slice_index name j) z

pub number_same : (n b : List ℕ) (at c : ℕ) → ((j : ℕ) → j < c → slice_index n (at + j) ≡ slice_index b (at + j)) → le_number n at c ≡ le_number b at
    c
number_same n b at zero same = refl
number_same n b at (suc c) same =
    let here : slice_index n at ≡ slice_index b at = subst (λ (j : ℕ). slice_index n j ≡ slice_index b j) (let z : at + 0 ≡ at = omega arith in z)
    (same 0 (omega arith)) in
    let after = number_same n b (at + 1) c
    (λ j lt. subst (λ (i : ℕ). slice_index n i ≡ slice_index b i) (let z : at + suc j ≡ at + 1 + j = omega arith in z) (same (suc j) (omega arith)))
    in
    omega (arith, here, after)

pub words_same : (n b : List ℕ) (word c : ℕ) → ((j : ℕ) → j < 8 * c → slice_index n (8 * word + j) ≡ slice_index b (8 * word + j))
    → name_words n word c ≡ name_words b word c
words_same n b word c same =
    filled_words b word c (name_words n word c) (length-name_words n word c)
    (λ k lt. get_or-name_words n word c k lt
    ∙ number_same n b (8 * (word + k)) 8 (λ j lj.
    subst (λ (i : ℕ). slice_index n i ≡ slice_index b i) (let z : 8 * word + (8 * k + j) ≡ 8 * (word + k) + j = omega arith in z)
    (same (8 * k + j) (omega arith))))

powers : (i : ℕ) → 2 ^ (8 * i) ≡ 256 ^ i
powers zero = refl
powers (suc i) =
    let z : 8 * suc i ≡ 8 + 8 * i = omega arith in
    ap (λ j. 2 ^ j) z ∙ pow-add 2 8 (8 * i) ∙ ap (λ p. 256 * p) (powers i) ∙ sym (pow-succ' 256 i)

pub shift_is_byte : (word i : ℕ) → word / 2 ^ (8 * i) % 256 ≡ byte_of word i
shift_is_byte word i = ap (λ p. word / p % 256) (powers i)
