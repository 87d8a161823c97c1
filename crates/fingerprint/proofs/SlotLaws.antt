-- What the words of a slot say of its print.
use Rattle.std.proofs.Common.{
  ◌≡◌,
  inl,
  inr,
  ℕ,
  ◌+◌,
  ◌-◌,
  ◌%◌,
  ◌^◌,
  ◌<◌,
  ◌≤◌,
  List,
  [],
  ◌++◌,
  length,
  get_or,
  drop,
  take,
  refl,
  sym,
  ◌∙◌,
  ap,
  subst,
  arith,
}
use Rattle.std.specs.Prelude.{slice_index}
use Rattle.std.proofs.lemmas.Bool.{cases_lt}
use Rattle.std.proofs.lemmas.List.{get_or_past}
use Rattle.std.proofs.lemmas.Grind.{same_number_lists}
use Rattle.byteorder.specs.Endian.{big_from, big_bytes}
use Rattle.byteorder.specs.Numbers.{big_from-lt, big_from-take, big_number-reads_back, length-bytes_high_first}
use Rattle.fingerprint.specs.Bytes.{be_number}
use Rattle.fingerprint.specs.Print.{IsPrint, print_word}
use Rattle.fingerprint.specs.Count.{count_word}
use Rattle.fingerprint.specs.Slot.{IsSlot, IsReadFrom, IsTheSlotOf, slot_words}
use Rattle.fingerprint.specs.declared.slot.FactSlot.{FactSlot}
use Rattle.fingerprint.proofs.BigEndian.{be_number-is_big_from, be_number-one, big_from-drop, big_from-append_right}

pub byte_of : (p : List ℕ) → IsPrint p → (k : ℕ) → slice_index p k < 256
byte_of p is k = elim (cases_lt k (length p)) [
  | inl lt ↦ is.bytes k 0 lt
  | inr past ↦ let none : slice_index p k ≡ 0 = get_or_past p k 0 past in omega arith
]

-- a print is known by its three words
pub print_word-one : (p q : List ℕ) → IsPrint p → IsPrint q → print_word p 0 ≡ print_word q 0 → print_word p 1 ≡ print_word q 1
    → print_word p 2 ≡ print_word q 2 → p ≡ q
print_word-one p q is_p is_q first second third = same_number_lists p q (is_p.twenty ∙ sym is_q.twenty)
    (λ k lt. at k (let long = is_p.twenty in omega arith))
  where
    at : (k : ℕ) → k < 20 → get_or p k 0 ≡ get_or q k 0
    at k lt = elim (cases_lt k 8) [
      | inl low ↦ subst (λ (j : ℕ). slice_index p j ≡ slice_index q j) (omega arith) (be_number-one p q (byte_of p is_p) (byte_of q is_q) 0 8 first k
          low)
      | inr past ↦ elim (cases_lt k 16) [
        | inl low ↦ subst (λ (j : ℕ). slice_index p j ≡ slice_index q j) (omega arith) (be_number-one p q (byte_of p is_p) (byte_of q is_q) 8 8 second
            (k - 8) (omega arith))
        | inr past ↦ subst (λ (j : ℕ). slice_index p j ≡ slice_index q j) (omega arith) (be_number-one p q (byte_of p is_p) (byte_of q is_q) 16 4
            third (k - 16) (omega arith))
      ]
    ]

-- a number of bytes that were cut out
pub be_number-cut : (p : List ℕ) (at n m : ℕ) → n ≤ m → big_from 0 n (take m (drop at p)) ≡ be_number p 0 at n
be_number-cut p at n m le =
    let place : at + 0 ≡ at = omega arith in
    big_from-take 0 n m (drop at p) (omega arith) ∙ big_from-drop 0 n at p ∙ ap (λ (j : ℕ). big_from j n p) place ∙ sym (be_number-is_big_from p at n)

-- the words of a print that was made of words
module _ (x y z : ℕ) (x_fits : x < 256 ^ 8) (y_fits : y < 256 ^ 8) (z_fits : z < 256 ^ 4) where
  abbrev made : List ℕ
  made = big_bytes 8 x ++ big_bytes 8 y ++ big_bytes 4 z

  pub made-first : print_word made 0 ≡ x
  made-first = be_number-is_big_from made 0 8 ∙ big_number-reads_back 8 x (big_bytes 8 y ++ big_bytes 4 z) x_fits

  pub made-second : print_word made 1 ≡ y
  made-second =
      be_number-is_big_from made 8 8
      ∙ big_from-append_right 0 8 8 (big_bytes 8 x) (big_bytes 8 y ++ big_bytes 4 z) (length-bytes_high_first 8 x) ∙ big_number-reads_back 8 y
      (big_bytes 4 z) y_fits

  pub made-third : print_word made 2 ≡ z
  made-third =
      be_number-is_big_from made 16 4 ∙ big_from-append_right 0 4 16 (big_bytes 8 x ++ big_bytes 8 y) (big_bytes 4 z) refl
      ∙ big_number-reads_back 4 z [] z_fits

-- a print's numbers fit their bytes
pub be_number-lt : (p : List ℕ) → IsPrint p → (at n : ℕ) → be_number p 0 at n < 256 ^ n
be_number-lt p is at n = rw (be_number-is_big_from p at n) (big_from-lt at n p (byte_of p is))

-- two counts in a word
pub count_word-one : (a b c d : ℕ) → b < 2 ^ 32 → d < 2 ^ 32 → count_word a b ≡ count_word c d → (a ≡ c) × (b ≡ d)
count_word-one a b c d b_fits d_fits same = (omega arith, omega arith)

-- words that are those of a slot are of one slot
pub read-one : (words : List ℕ) (slot : FactSlot) → IsSlot slot → IsReadFrom words slot → IsTheSlotOf words slot
read-one words slot fits read other is same = λ i. record {
  page = page i;
  print = print i;
  count = record { rfc = counts.0 i; uc = counts.1 i };
  next = next i;
}
  where
    word : (k : ℕ) → slice_index words k ≡ slice_index (slot_words other) k
    word k = ap (λ (ws : List ℕ). slice_index ws k) same

    page : slot.page ≡ other.page
    page = read.page ∙ word 0

    next : slot.next ≡ other.next
    next = read.next ∙ word 5

    counts : (slot.count.rfc ≡ other.count.rfc) × (slot.count.uc ≡ other.count.uc)
    counts = count_word-one slot.count.rfc slot.count.uc other.count.rfc other.count.uc fits.uc is.uc (read.count ∙ word 4)

    low : print_word other.print 2 % 2 ^ 32 ≡ print_word other.print 2
    low = let lt = be_number-lt other.print is.print 16 4 in omega arith

    print : slot.print ≡ other.print
    print = print_word-one slot.print other.print fits.print is.print (read.first ∙ word 1) (read.second ∙ word 2)
        (read.third ∙ ap (λ (w : ℕ). w % 2 ^ 32) (word 3) ∙ low)
