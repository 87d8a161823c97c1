-- That bytes come back from their big-endian number.
use Rattle.std.proofs.Common.{◌≡◌, inl, inr, ℕ, zero, suc, ◌+◌, ◌*◌, ◌^◌, ◌<◌, ◌≤◌, List, ◌++◌, length, drop, refl, sym, ◌∙◌, ap, arith}
use Rattle.std.proofs.Math.Nat.{pow-succ', mul-le-mul_right}
use Rattle.std.specs.Prelude.{slice_index}
use Rattle.std.proofs.lemmas.Bool.{cases_order}
use Rattle.std.proofs.lemmas.List.{get_or-drop, drop_at}
use Rattle.byteorder.specs.Endian.{big_from}
use Rattle.byteorder.specs.Numbers.{big_from-lt}
use Rattle.fingerprint.specs.Bytes.{be_number}

-- the two ways to read a number of bytes
pub be_number-big_from : (xs : List ℕ) (s i n : ℕ) → be_number xs s i n ≡ s * 256 ^ n + big_from i n xs
unfolding be_number
be_number-big_from xs s i zero = omega arith
be_number-big_from xs s i (suc n) =
    let rest = be_number-big_from xs (256 * s + slice_index xs i) (i + 1) n in
    let place : big_from (i + 1) n xs ≡ big_from (suc i) n xs = ap (λ (j : ℕ). big_from j n xs) (omega arith) in
    rw (pow-succ' 256 n) (omega arith)

pub be_number-is_big_from : (xs : List ℕ) (i n : ℕ) → be_number xs 0 i n ≡ big_from i n xs
be_number-is_big_from xs i n = be_number-big_from xs 0 i n ∙ omega arith

-- digits below the base are those of the number
digit_one : (x y r s p : ℕ) → r < p → s < p → x * p + r ≡ y * p + s → x ≡ y
digit_one x y r s p r_lt s_lt same = elim (cases_order x y) [
  | inl e ↦ e
  | inr (inl lt) ↦ absurd (let le : (x + 1) * p ≤ y * p = mul-le-mul_right p (omega arith) in omega arith)
  | inr (inr lt) ↦ absurd (let le : (y + 1) * p ≤ x * p = mul-le-mul_right p (omega arith) in omega arith)
]

rest_one : (x y r s p : ℕ) → x ≡ y → x * p + r ≡ y * p + s → r ≡ s
rest_one x y r s p e same = let products : x * p ≡ y * p = ap (λ (v : ℕ). v * p) e in omega arith

-- bytes with one number are the same bytes
pub big_from-one : (xs ys : List ℕ) → ((k : ℕ) → slice_index xs k < 256) → ((k : ℕ) → slice_index ys k < 256)
    → (i j n : ℕ) → big_from i n xs ≡ big_from j n ys → (k : ℕ) → k < n → slice_index xs (i + k) ≡ slice_index ys (j + k)
big_from-one xs ys bx by i j zero same k lt = absurd (omega arith)
big_from-one xs ys bx by i j (suc n) same zero lt =
    let first = digit_one (slice_index xs i) (slice_index ys j) (big_from (suc i) n xs) (big_from (suc j) n ys) (256 ^ n)
    (big_from-lt (suc i) n xs bx) (big_from-lt (suc j) n ys by) same in
    let left : i + 0 ≡ i = omega arith in
    let right : j + 0 ≡ j = omega arith in
    rw (left, right) first
big_from-one xs ys bx by i j (suc n) same (suc k) lt =
    let first = digit_one (slice_index xs i) (slice_index ys j) (big_from (suc i) n xs) (big_from (suc j) n ys) (256 ^ n)
    (big_from-lt (suc i) n xs bx) (big_from-lt (suc j) n ys by) same in
    let rest = rest_one (slice_index xs i) (slice_index ys j) (big_from (suc i) n xs) (big_from (suc j) n ys) (256 ^ n) first same in
    let left : i + suc k ≡ suc i + k = omega arith in
    let right : j + suc k ≡ suc j + k = omega arith in
    rw (left, right) (big_from-one xs ys bx by (suc i) (suc j) n rest k (omega arith))

-- the same in the words of this crate
pub be_number-one : (xs ys : List ℕ) → ((k : ℕ) → slice_index xs k < 256) → ((k : ℕ) → slice_index ys k < 256)
    → (i n : ℕ) → be_number xs 0 i n ≡ be_number ys 0 i n → (k : ℕ) → k < n → slice_index xs (i + k) ≡ slice_index ys (i + k)
be_number-one xs ys bx by i n same = big_from-one xs ys bx by i i n (sym (be_number-is_big_from xs i n) ∙ same ∙ be_number-is_big_from ys i n)

-- a number in what is left of a list
pub big_from-drop : (i n m : ℕ) (xs : List ℕ) → big_from i n (drop m xs) ≡ big_from (m + i) n xs
big_from-drop i zero m xs = refl
big_from-drop i (suc n) m xs =
    let rest = big_from-drop (suc i) n m xs in
    let place : m + suc i ≡ suc (m + i) = omega arith in
    rw (get_or-drop, rest, place) refl

-- and behind other bytes
pub big_from-append_right : (i n m : ℕ) (xs ys : List ℕ) → length xs ≡ m → big_from (m + i) n (xs ++ ys) ≡ big_from i n ys
big_from-append_right i n m xs ys long = sym (big_from-drop i n m (xs ++ ys)) ∙ ap (big_from i n) (drop_at xs ys m long)
