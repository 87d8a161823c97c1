-- The first line and the first word.
use Rattle.std.proofs.Common.{
  ◌≡◌,
  ◌≢◌,
  ℕ,
  zero,
  suc,
  ◌+◌,
  ◌-◌,
  ◌<◌,
  cond,
  eqb,
  List,
  [],
  ◌∷◌,
  length,
  get_or,
  take,
  drop,
  refl,
  ap,
  ◌∙◌,
  arith,
  add-one,
}
use Rattle.std.specs.List.{onto_first}
use Rattle.std.proofs.lemmas.Bool.{eq-eqb, ne_eqb}
use Rattle.std.proofs.lemmas.List.{take_rest, drop_all}
use Rattle.dn_script.specs.Text.{lines, words}

-- F cuts a list at each element that is this one
module _ (at : ℕ) (F : List ℕ → List (List ℕ)) (step : (b : ℕ) (bs : List ℕ) → F (b ∷ bs) ≡ cond (eqb b at) ([] ∷ F bs) (onto_first b (F bs))) where
  cut_here : (b : ℕ) (bs : List ℕ) → b ≡ at → F (b ∷ bs) ≡ [] ∷ F bs
  cut_here b bs e = step b bs ∙ ap (λ t. cond t ([] ∷ F bs) (onto_first b (F bs))) (eq-eqb b at e)

  cut_later : (b : ℕ) (bs : List ℕ) → b ≢ at → F (b ∷ bs) ≡ onto_first b (F bs)
  cut_later b bs ne = step b bs ∙ ap (λ t. cond t ([] ∷ F bs) (onto_first b (F bs))) (ne_eqb b at ne)

  -- the first part ends before the first such element
  cut_at : (n : ℕ) (xs : List ℕ) → n < length xs → get_or xs n 0 ≡ at → ((k : ℕ) → k < n → get_or xs k 0 ≢ at)
      → F xs ≡ take n xs ∷ F (drop (suc n) xs)
  cut_at n [] inside found first = absurd (omega arith)
  cut_at zero (x ∷ xs) inside found first = cut_here x xs found
  cut_at (suc n) (x ∷ xs) inside found first =
      let rest = cut_at n xs (omega arith) found (λ k lt. first (suc k) (omega arith)) in
      cut_later x xs (first zero (omega arith)) ∙ ap (onto_first x) rest

  -- without one a list is one part
  cut_nowhere : ((b : ℕ) → onto_first b (F []) ≡ (b ∷ []) ∷ []) → (x : ℕ) (xs : List ℕ) → ((k : ℕ) → k < suc (length xs) → get_or (x ∷ xs) k 0 ≢ at)
      → F (x ∷ xs) ≡ (x ∷ xs) ∷ []
  cut_nowhere last x [] none = cut_later x [] (none zero (omega arith)) ∙ last x
  cut_nowhere last x (y ∷ ys) none =
      let rest = cut_nowhere last y ys (λ k lt. none (suc k) (omega arith)) in
      cut_later x (y ∷ ys) (none zero (omega arith)) ∙ ap (onto_first x) rest

lines-cons : (b : ℕ) (bs : List ℕ) → lines (b ∷ bs) ≡ cond (eqb b 10) ([] ∷ lines bs) (onto_first b (lines bs))
unfolding lines
lines-cons b bs = refl

lines-nil : lines [] ≡ []
unfolding lines
lines-nil = refl

pub lines_empty : (xs : List ℕ) → length xs ≡ 0 → lines xs ≡ []
lines_empty [] none = lines-nil
lines_empty (x ∷ xs) none = absurd (omega arith)

pub lines_at : (xs : List ℕ) (n : ℕ) → n < length xs → get_or xs n 0 ≡ 10 → ((k : ℕ) → k < n → get_or xs k 0 ≢ 10) → lines xs ≡ take n xs ∷ lines
    (take (length xs - (n + 1)) (drop (n + 1) xs))
lines_at xs n inside found first = rw (take_rest xs (n + 1), add-one) (cut_at 10 lines lines-cons n xs inside found first)

pub lines_only : (xs : List ℕ) → 0 < length xs → ((k : ℕ) → k < length xs → get_or xs k 0 ≢ 10)
    → lines xs ≡ xs ∷ lines (take (length xs - length xs) (drop (length xs) xs))
lines_only [] some none = absurd (omega arith)
lines_only (x ∷ xs) some none =
    rw (take_rest (x ∷ xs) (length (x ∷ xs)), drop_all (length (x ∷ xs)) (x ∷ xs) (omega arith), lines-nil)
    (cut_nowhere 10 lines lines-cons (λ b. rw lines-nil refl) x xs none)

pub words_at : (xs : List ℕ) (n : ℕ) → n < length xs → get_or xs n 0 ≡ 32 → ((k : ℕ) → k < n → get_or xs k 0 ≢ 32) → words xs ≡ take n xs ∷ words
    (take (length xs - (n + 1)) (drop (n + 1) xs))
words_at xs n inside found first = rw (take_rest xs (n + 1), add-one) (cut_at 32 words (λ b bs. refl) n xs inside found first)

pub words_only : (xs : List ℕ) → ((k : ℕ) → k < length xs → get_or xs k 0 ≢ 32) → words xs ≡ xs ∷ []
words_only [] none = refl
words_only (x ∷ xs) none = cut_nowhere 32 words (λ b bs. refl) (λ b. refl) x xs none
