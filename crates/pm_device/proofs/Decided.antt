-- Whether a word is settled or flushed is told by its past.
use Rattle.std.proofs.Common.{◌≡◌, ◌⊎◌, inl, inr, ⊎_elim, ℕ, zero, suc, ◌<◌, ◌≤◌, length, subst, arith}
use Rattle.std.specs.Prelude.{slice_index, Option, Some, None}
use Rattle.std.proofs.lemmas.Bool.{cases_eq, cases_lt}
use Rattle.pm_device.specs.Past.{Past, Word}
use Rattle.pm_device.specs.State.{State}
use Rattle.pm_device.specs.Settled.{Each, EachOnceFenced, OfWord, IsRead, IsSettled, IsFlushed, word_now}

-- a fact, or its contrary
abbrev pub OrNot : Type 0 → Type 0
OrNot T = T ⊎ (T → ⊥)

below_or_not : (Q : ℕ → Type 0) → ((i : ℕ) → OrNot (Q i)) → (n : ℕ) → OrNot ((i : ℕ) → i < n → Q i)
below_or_not Q decide zero = inl (λ i lt. absurd (omega (arith, lt)))
below_or_not Q decide (suc n) = by (decide n) (below_or_not Q decide n)
  where
    by : OrNot (Q n) → OrNot ((i : ℕ) → i < n → Q i) → OrNot ((i : ℕ) → i < suc n → Q i)
    by (inl here) (inl below) = inl (λ i lt. ⊎_elim (λ small. below i small)
        (λ top. let e : n ≡ i = omega (arith, lt, top) in subst Q e here) (cases_lt i n))
    by (inr not) (inl below) = inr (λ all. not (all n (omega arith)))
    by (inl here) (inr none) = inr (λ all. none (λ i lt. all i (omega (arith, lt))))
    by (inr not) (inr none) = inr (λ all. none (λ i lt. all i (omega (arith, lt))))

from_or_not : (low v : ℕ) (w : Word) → OrNot ((i : ℕ) → low ≤ i → i < length w.values → slice_index w.values i ≡ v)
from_or_not low v w = ⊎_elim (λ all. inl (λ i late lt. all i lt late)) (λ none. inr (λ all. none (λ i lt late. all i late lt)))
    (below_or_not (λ i. low ≤ i → slice_index w.values i ≡ v) decide (length w.values))
  where
    decide : (i : ℕ) → OrNot (low ≤ i → slice_index w.values i ≡ v)
    decide i = ⊎_elim (λ is. inl (λ late. is))
        (λ not. ⊎_elim (λ early. inl (λ late. absurd (omega (arith, early, late)))) (λ late. inr (λ all. not (all late))) (cases_lt i low))
        (cases_eq (slice_index w.values i) v)

fenced_or_not : (who v : ℕ) (w : Word) → OrNot (EachOnceFenced who (λ x. x ≡ v) w)
fenced_or_not who v w = ⊎_elim
    (λ durable. ⊎_elim
    (λ all. inl (λ i late marked lt. all i marked lt)) (λ none. inr (λ all. none (λ i marked lt. all i (omega (arith, durable, marked)) marked lt)))
    (from_or_not (w.marks who) v w))
    (λ marks. ⊎_elim
    (λ all. inl (λ i late marked lt. all i late lt)) (λ none. inr (λ all. none (λ i late lt. all i late (omega (arith, marks, late)) lt)))
    (from_or_not w.durable v w))
    (cases_lt w.durable (w.marks who))

pub flushed_or_not : (who : ℕ) (s : State) (a : ℕ) → OrNot (IsFlushed who s a)
flushed_or_not who s a = of_word s.past
  where
    of_word : (p : Option Past) → OrNot (OfWord p a (EachOnceFenced who (IsRead s a)))
    of_word None = inl tt
    of_word (Some p) = fenced_or_not who (slice_index s.now a) (word_now p a)

pub settled_or_not : (s : State) (a : ℕ) → OrNot (IsSettled s a)
settled_or_not s a = of_word s.past
  where
    of_word : (p : Option Past) → OrNot (OfWord p a (Each (IsRead s a)))
    of_word None = inl tt
    of_word (Some p) = from_or_not (word_now p a).durable (slice_index s.now a) (word_now p a)
