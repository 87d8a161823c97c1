-- No spelling begins with another, and one spelling stands for one item.
use Rattle.std.proofs.Common.{
  ◌≡◌,
  inl,
  inr,
  ℕ,
  zero,
  suc,
  ◌+◌,
  ◌-◌,
  ◌*◌,
  ◌/◌,
  ◌%◌,
  ◌<◌,
  List,
  [],
  ◌∷◌,
  ◌++◌,
  length,
  get_or,
  refl,
  sym,
  ◌∙◌,
  ap,
  subst,
  arith,
  zero-add,
}
use Rattle.std.specs.Prelude.{slice_index, All}
use Rattle.std.proofs.lemmas.Bool.{cases_lt}
use Rattle.std.proofs.lemmas.List.{get_or_past}
use Rattle.std.proofs.lemmas.Grind.{same_number_lists}
use Rattle.std.proofs.lemmas.List.FromFn.{get_or-map-range_with_len}
use Rattle.log_entry.specs.Name.{IsLegal, IsNameByte}
use Rattle.log_entry.specs.Spelling.{flag_number, le_number, name_words, more_slots, more_count, spelling, spelled, IsSpelled}
use Rattle.log_entry.proofs.Spelled.{length-spelled-cons, spelling_some}
use Rattle.log_entry.specs.declared.item.Flag.{Flag}
use Rattle.log_entry.specs.declared.item.Flag.TheVariants.{Needed, InProcess, Complete}
use Rattle.log_entry.specs.declared.item.LogItem.{LogItem}
use Rattle.log_entry.specs.declared.item.LogItem.TheVariants.{Write, Size, Add, Forget}

pub flag_one : (f g : Flag) → flag_number f ≡ flag_number g → f ≡ g
flag_one Needed Needed e = refl
flag_one InProcess InProcess e = refl
flag_one Complete Complete e = refl
flag_one Needed InProcess e = absurd (omega arith)
flag_one Needed Complete e = absurd (omega arith)
flag_one InProcess Needed e = absurd (omega arith)
flag_one InProcess Complete e = absurd (omega arith)
flag_one Complete Needed e = absurd (omega arith)
flag_one Complete InProcess e = absurd (omega arith)

pub byte_below : (name : List ℕ) (j : ℕ) → All IsNameByte name → slice_index name j < 256
byte_below name j all = elim (cases_lt j (length name)) [
  | inl lt ↦ (all j 0 lt).byte
  | inr past ↦ let none : slice_index name j ≡ 0 = get_or_past name j 0 past in omega arith
]

first_one : (b d x y : ℕ) → b < 256 → d < 256 → b + 256 * x ≡ d + 256 * y → b ≡ d
first_one b d x y bl dl e = omega arith

rest_one : (b d x y : ℕ) → b < 256 → d < 256 → b + 256 * x ≡ d + 256 * y → x ≡ y
rest_one b d x y bl dl e = omega arith

-- a number of bytes gives its bytes back
bytes_one : (n m : List ℕ) (at c i : ℕ) → All IsNameByte n → All IsNameByte m → le_number n at c ≡ le_number m at c → i < c
    → slice_index n (at + i) ≡ slice_index m (at + i)
bytes_one n m at zero i alln allm e lt = absurd (omega arith)
bytes_one n m at (suc c) zero alln allm e lt =
    let bn = byte_below n at alln in let bm = byte_below m at allm in
    let z : at + 0 ≡ at = omega arith in rw z (first_one _ _ _ _ bn bm e)
bytes_one n m at (suc c) (suc j) alln allm e lt =
    let bn = byte_below n at alln in let bm = byte_below m at allm in
    let z : at + suc j ≡ at + 1 + j = omega arith in rw z (bytes_one n m (at + 1) c j alln allm (rest_one _ _ _ _ bn bm e) (omega arith))

words_one : (n m : List ℕ) (k c i : ℕ) → name_words n k c ≡ name_words m k c → i < c → le_number n (8 * (k + i)) 8 ≡ le_number m (8 * (k + i)) 8
unfolding name_words
words_one n m k c i e lt =
    sym (get_or-map-range_with_len (λ j. le_number n (8 * j) 8) k c i (k + i) 0 lt refl)
    ∙ ap (λ ws. get_or ws i 0) e
    ∙ get_or-map-range_with_len (λ j. le_number m (8 * j) 8) k c i (k + i) 0 lt refl

-- the words of slots that go on with a name, and what follows them
pub record SameMore (n m : List ℕ) (w k : ℕ) (r s : List (List ℕ)) : Type 0 where
  pub words : (i : ℕ) → i < 7 * k → le_number n (8 * (w + i)) 8 ≡ le_number m (8 * (w + i)) 8
  pub rest : r ≡ s

more_one : (n m : List ℕ) (w k : ℕ) (r s : List (List ℕ)) → more_slots n w k ++ r ≡ more_slots m w k ++ s → SameMore n m w k r s
more_one n m w zero r s e = record { words = λ i lt. absurd (omega arith); rest = e }
more_one n m w (suc k) r s e =
    let here : name_words n w 7 ≡ name_words m w 7 = cc in
    let after : more_slots n (w + 7) k ++ r ≡ more_slots m (w + 7) k ++ s = cc in
    let more = more_one n m (w + 7) k r s after in
    record {
      words = λ i lt. elim (cases_lt i 7) [
        | inl low ↦ words_one n m w 7 i here low
        | inr high ↦ let z : w + 7 + (i - 7) ≡ w + i = omega arith in subst (λ (j : ℕ). le_number n (8 * j) 8 ≡ le_number m (8 * j) 8) z
            (more.words (i - 7) (omega arith))
      ];
      rest = more.rest;
    }

-- the name of an Add or a Forget
module _ (n m : List ℕ) (legal_n : IsLegal n) (legal_m : IsLegal m) (r s : List (List ℕ)) (long : length n ≡ length m)
    (head : name_words n 0 5 ≡ name_words m 0 5) (tail : more_slots n 5 (more_count n) ++ r ≡ more_slots m 5 (more_count m) ++ s) where
  same_count : more_count m ≡ more_count n
  same_count = ap (λ l. (l - 40 + 55) / 56) (sym long)

  more : SameMore n m 5 (more_count n) r s
  more = more_one n m 5 (more_count n) r s (tail ∙ ap (λ k. more_slots m 5 k ++ s) same_count)

  word_one : (w : ℕ) → w < 5 + 7 * more_count n → le_number n (8 * w) 8 ≡ le_number m (8 * w) 8
  word_one w lt = elim (cases_lt w 5) [
    | inl low ↦ let z : 0 + w ≡ w = zero-add w in subst (λ (j : ℕ). le_number n (8 * j) 8 ≡ le_number m (8 * j) 8) z (words_one n m 0 5 w head low)
    | inr high ↦ let z : 5 + (w - 5) ≡ w = omega arith in subst (λ (j : ℕ). le_number n (8 * j) 8 ≡ le_number m (8 * j) 8) z
        (more.words (w - 5) (omega arith))
  ]

  enough : (j l : ℕ) → j < l → j / 8 < 5 + 7 * ((l - 40 + 55) / 56)
  enough j l lt = omega arith

  pub name_one : n ≡ m
  name_one = same_number_lists n m long (λ j lt.
      let z : 8 * (j / 8) + j % 8 ≡ j = omega arith in
      subst (λ (i : ℕ). slice_index n i ≡ slice_index m i) z
      (bytes_one n m (8 * (j / 8)) 8 (j % 8) legal_n.bytes legal_m.bytes (word_one (j / 8) (enough j (length n) lt)) (omega arith)))

-- an item and what follows it
pub record SameFront (x y : LogItem) (r s : List (List ℕ)) : Type 0 where
  pub item : x ≡ y
  pub rest : r ≡ s

kind : List (List ℕ) → ℕ
kind [] = 0
kind (slot ∷ slots) = slice_index slot 0

pub spelling_one : (x y : LogItem) (r s : List (List ℕ)) → IsSpelled x → IsSpelled y → spelling x ++ r ≡ spelling y ++ s → SameFront x y r s
unfolding spelling kind
spelling_one (Write a b c d f m) (Write a' b' c' d' f' m') r s px py e =
    let flag : f ≡ f' = flag_one f f' cc in record { item = cc; rest = cc }
spelling_one (Size a) (Size a') r s px py e = record { item = cc; rest = cc }
spelling_one (Add i n) (Add j m) r s px py e =
    let long : length n ≡ length m = cc in
    let head : name_words n 0 5 ≡ name_words m 0 5 = cc in
    let tail : more_slots n 5 (more_count n) ++ r ≡ more_slots m 5 (more_count m) ++ s = cc in
    let name = name_one n m px py r s long head tail in
    let ino : i ≡ j = cc in
    record { item = cc; rest = (more n m px py r s long head tail).rest }
spelling_one (Forget n) (Forget m) r s px py e =
    let long : length n ≡ length m = cc in
    let head : name_words n 0 5 ≡ name_words m 0 5 = cc in
    let tail : more_slots n 5 (more_count n) ++ r ≡ more_slots m 5 (more_count m) ++ s = cc in
    let name = name_one n m px py r s long head tail in
    record { item = cc; rest = (more n m px py r s long head tail).rest }
spelling_one (Write a b c d f m) (Size a') r s px py e = let k = ap kind e in absurd (omega (arith, k))
spelling_one (Write a b c d f m) (Add j n) r s px py e = let k = ap kind e in absurd (omega (arith, k))
spelling_one (Write a b c d f m) (Forget n) r s px py e = let k = ap kind e in absurd (omega (arith, k))
spelling_one (Size a) (Write a' b c d f m) r s px py e = let k = ap kind e in absurd (omega (arith, k))
spelling_one (Size a) (Add j n) r s px py e = let k = ap kind e in absurd (omega (arith, k))
spelling_one (Size a) (Forget n) r s px py e = let k = ap kind e in absurd (omega (arith, k))
spelling_one (Add i n) (Write a b c d f m) r s px py e = let k = ap kind e in absurd (omega (arith, k))
spelling_one (Add i n) (Size a) r s px py e = let k = ap kind e in absurd (omega (arith, k))
spelling_one (Add i n) (Forget m) r s px py e = let k = ap kind e in absurd (omega (arith, k))
spelling_one (Forget n) (Write a b c d f m) r s px py e = let k = ap kind e in absurd (omega (arith, k))
spelling_one (Forget n) (Size a) r s px py e = let k = ap kind e in absurd (omega (arith, k))
spelling_one (Forget n) (Add j m) r s px py e = let k = ap kind e in absurd (omega (arith, k))

-- one list of slots spells one list of items
pub spelled_one : (xs ys : List LogItem) → All IsSpelled xs → All IsSpelled ys → spelled xs ≡ spelled ys → xs ≡ ys
spelled_one [] [] ax ay e = refl
spelled_one [] (y ∷ ys) ax ay e = absurd (omega (arith, ap length e, length-spelled-cons y ys, spelling_some y))
spelled_one (x ∷ xs) [] ax ay e = absurd (omega (arith, ap length e, length-spelled-cons x xs, spelling_some x))
spelled_one (x ∷ xs) (y ∷ ys) ax ay e =
    let front = spelling_one x y (spelled xs) (spelled ys) (ax 0 x (omega arith)) (ay 0 y (omega arith)) e in
    (λ i. front.item i ∷ spelled_one xs ys (λ k d lt. ax (suc k) d (omega arith)) (λ k d lt. ay (suc k) d (omega arith)) front.rest i)
