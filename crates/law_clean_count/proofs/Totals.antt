-- Sums over places, and over the elements of a list.
use Rattle.std.proofs.Common.{◌≡◌, ℕ, zero, suc, ◌+◌, ◌<◌, ◌≤◌, Bool, true, false, cond, List, [], ◌∷◌, length, refl, sym, ◌∙◌, ap, inl, inr, arith, length-append}
use Rattle.std.specs.Prelude.{filter}
use Rattle.std.specs.List.{range_with_len, flat_map}
use Rattle.std.proofs.lemmas.Bool.{cases_lt}
use Rattle.law_clean.proofs.Among.{Among}

-- the sum of a number at each place below one
unfoldable pub total : (ℕ → ℕ) → ℕ → ℕ
total h zero = 0
total h (suc n) = total h n + h n

pub total-none : (h : ℕ → ℕ) → total h zero ≡ 0
unfolding total
total-none h = refl

pub total-more : (h : ℕ → ℕ) (n : ℕ) → total h (suc n) ≡ total h n + h n
unfolding total
total-more h n = refl

no_more : (a b c : ℕ) → a ≡ c → b ≡ 0 → a + b ≡ c
no_more a b c same none = omega arith

pub total-zeros : (h : ℕ → ℕ) (a n : ℕ) → a ≤ n → ((k : ℕ) → a ≤ k → k < n → h k ≡ 0) → total h n ≡ total h a
total-zeros h a zero le zeros = let e : zero ≡ a = omega arith in ap (total h) e
total-zeros h a (suc n) le zeros =
    elim (cases_lt n a) [
      | inl below ↦ let e : suc n ≡ a = omega arith in ap (total h) e
      | inr past ↦
          total-more h n ∙ no_more (total h n) (h n) (total h a) (total-zeros h a n past (λ k low high. zeros k low (omega arith))) (zeros n past (omega arith))
    ]

pub total-ends : (h : ℕ → ℕ) (a b : ℕ) → ((k : ℕ) → a ≤ k → h k ≡ 0) → ((k : ℕ) → b ≤ k → h k ≡ 0) → total h a ≡ total h b
total-ends h a b past_a past_b =
    elim (cases_lt a b) [
      | inl below ↦ sym (total-zeros h a b (omega arith) (λ k low high. past_a k low))
      | inr above ↦ total-zeros h b a above (λ k low high. past_b k low)
    ]

pub total-same : (g h : ℕ → ℕ) (n : ℕ) → ((k : ℕ) → g k ≡ h k) → total g n ≡ total h n
total-same g h zero same = total-none g ∙ sym (total-none h)
total-same g h (suc n) same =
    let rest : total g n ≡ total h n = total-same g h n same in
    let here : g n ≡ h n = same n in
    total-more g n ∙ (λ i. rest i + here i) ∙ sym (total-more h n)

-- the sum of a number for each element
abbrev pub over : {X : Type 0} → (X → ℕ) → List X → ℕ
over f [] = 0
over f (x ∷ xs) = f x + over f xs

pub over-none : {X : Type 0} (f : X → ℕ) (xs : List X) → ((x : X) → Among x xs → f x ≡ 0) → over f xs ≡ 0
over-none f [] none = refl
over-none f (x ∷ xs) none = no_more (f x) (over f xs) 0 (none x (inl refl)) (over-none f xs (λ y in'. none y (inr in')))

pub over-same : {X : Type 0} (f g : X → ℕ) (xs : List X) → ((x : X) → Among x xs → f x ≡ g x) → over f xs ≡ over g xs
over-same f g [] same = refl
over-same f g (x ∷ xs) same =
    let here : f x ≡ g x = same x (inl refl) in
    let rest : over f xs ≡ over g xs = over-same f g xs (λ y in'. same y (inr in')) in
    λ i. here i + rest i

shuffle : (a b c d s : ℕ) → s ≡ c + d → a + b + s ≡ a + c + (b + d)
shuffle a b c d s sum = omega arith

pub over-sum : {X : Type 0} (f g h : X → ℕ) (xs : List X) → ((x : X) → h x ≡ f x + g x) → over h xs ≡ over f xs + over g xs
over-sum f g h [] each = refl
over-sum f g h (x ∷ xs) each =
    ap (λ n. n + over h xs) (each x) ∙ shuffle (f x) (g x) (over f xs) (over g xs) (over h xs) (over-sum f g h xs each)

pub length-flat_map : {X Y : Type 0} (f : X → List Y) (xs : List X) → length (flat_map f xs) ≡ over (λ x. length (f x)) xs
length-flat_map f [] = refl
length-flat_map f (x ∷ xs) = length-append (f x) (flat_map f xs) ∙ ap (λ n. length (f x) + n) (length-flat_map f xs)

-- a sum over elements of sums over places is one over places of sums over elements
pub turned : {X : Type 0} (h : X → ℕ → ℕ) (xs : List X) (n : ℕ) → over (λ x. total (h x) n) xs ≡ total (λ k. over (λ x. h x k) xs) n
turned h xs zero = over-none (λ x. total (h x) zero) xs (λ x in'. total-none (h x)) ∙ sym (total-none (λ k. over (λ x. h x k) xs))
turned h xs (suc n) =
    let rest = turned h xs n in
    over-sum (λ x. total (h x) n) (λ x. h x n) (λ x. total (h x) (suc n)) xs (λ x. total-more (h x) n)
    ∙ ap (λ m. m + over (λ x. h x n) xs) rest ∙ sym (total-more (λ k. over (λ x. h x k) xs) n)

-- how many places of a range pass a test
none_first : (t n : ℕ) → t ≡ n → 0 + t ≡ n
none_first t n same = omega arith

step_true : (a t h more all : ℕ) → more ≡ t + h → h ≡ 1 → a + more ≡ all → suc a + t ≡ all
step_true a t h more all is one sum = omega arith

step_false : (a t h more all : ℕ) → more ≡ t + h → h ≡ 0 → a + more ≡ all → a + t ≡ all
step_false a t h more all is none sum = omega arith

pub passing : (test : ℕ → Bool) (h : ℕ → ℕ) (first n : ℕ) → ((k : ℕ) → first ≤ k → k < first + n → h k ≡ cond (test k) 1 0)
    → length (filter test (range_with_len first n)) + total h first ≡ total h (first + n)
passing test h first zero each = let e : first ≡ first + zero = omega arith in none_first (total h first) (total h (first + zero)) (ap (total h) e)
passing test h first (suc n) each =
    let e : first + 1 ≡ suc first = omega arith in
    let more : total h (first + 1) ≡ total h first + h first = ap (total h) e ∙ total-more h first in
    let end : first + 1 + n ≡ first + suc n = omega arith in
    let rest = passing test h (first + 1) n (λ k low high. each k (omega arith) (omega arith)) ∙ ap (total h) end in
    by_test more rest (test first) (each first (omega arith) (omega arith))
  where
    by_test : total h (first + 1) ≡ total h first + h first
        → length (filter test (range_with_len (first + 1) n)) + total h (first + 1) ≡ total h (first + suc n)
        → (b : Bool) → h first ≡ cond b 1 0
        → length (cond b (first ∷ filter test (range_with_len (first + 1) n)) (filter test (range_with_len (first + 1) n))) + total h first
        ≡ total h (first + suc n)
    by_test more rest true here =
        step_true (length (filter test (range_with_len (first + 1) n))) (total h first) (h first) (total h (first + 1)) (total h (first + suc n)) more here rest
    by_test more rest false here =
        step_false (length (filter test (range_with_len (first + 1) n))) (total h first) (h first) (total h (first + 1)) (total h (first + suc n)) more here rest
