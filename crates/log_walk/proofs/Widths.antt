-- Each slot of an item has eight words.
use Rattle.std.proofs.Common.{◌≡◌, inl, inr, ℕ, zero, suc, ◌+◌, ◌-◌, ◌<◌, List, [], ◌∷◌, ◌++◌, length, get_or, refl, sym, ◌∙◌, ap, arith}
use Rattle.std.proofs.lemmas.Bool.{cases_lt}
use Rattle.std.proofs.lemmas.List.{get_or_append_left, get_or-append-add}
use Rattle.std.proofs.lemmas.List.FromFn.{length-map-range_with_len}
use Rattle.log_entry.specs.Spelling.{name_words, more_slots, more_count, spelling, spelled}
use Rattle.log_entry.proofs.Spelled.{length-spelled-cons}
use Rattle.log_entry.specs.declared.item.LogItem.{LogItem}
use Rattle.log_entry.specs.declared.item.LogItem.TheVariants.{Write, Size, Add, Forget}

words_length : (name : List ℕ) (k n : ℕ) → length (name_words name k n) ≡ n
unfolding name_words
words_length name k n = length-map-range_with_len _ k n

more_width : (name : List ℕ) (w n k : ℕ) → k < length (more_slots name w n) → length (get_or (more_slots name w n) k []) ≡ 8
more_width name w zero k lt = absurd (omega arith)
more_width name w (suc n) zero lt = omega (arith, words_length name w 7)
more_width name w (suc n) (suc k) lt = more_width name (w + 7) n k (omega arith)

slot_width : (item : LogItem) (k : ℕ) → k < length (spelling item) → length (get_or (spelling item) k []) ≡ 8
unfolding spelling
slot_width (Write first n block size flag mask) zero lt = refl
slot_width (Write first n block size flag mask) (suc k) lt = absurd (omega arith)
slot_width (Size size) zero lt = refl
slot_width (Size size) (suc k) lt = absurd (omega arith)
slot_width (Add ino name) zero lt = omega (arith, words_length name 0 5)
slot_width (Add ino name) (suc k) lt = more_width name 5 (more_count name) k (omega arith)
slot_width (Forget name) zero lt = omega (arith, words_length name 0 5)
slot_width (Forget name) (suc k) lt = more_width name 5 (more_count name) k (omega arith)

pub spelled_width : (items : List LogItem) (k : ℕ) → k < length (spelled items) → length (get_or (spelled items) k []) ≡ 8
spelled_width [] k lt = absurd (omega arith)
spelled_width (x ∷ xs) k lt = elim (cases_lt k (length (spelling x))) [
  | inl here ↦ ap length (get_or_append_left (spelling x) (spelled xs) [] k here) ∙ slot_width x k here
  | inr past ↦
      let e : length (spelling x) + (k - length (spelling x)) ≡ k = omega arith in
      ap (λ (j : ℕ). length (get_or (spelling x ++ spelled xs) j [])) (sym e)
      ∙ ap length (get_or-append-add (spelling x) (spelled xs) (k - length (spelling x)) [])
      ∙ spelled_width xs (k - length (spelling x)) (omega (arith, length-spelled-cons x xs))
]
