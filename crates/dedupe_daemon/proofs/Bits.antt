-- One bit of a mask is set.
use Rattle.std.proofs.Common.{◌≡◌, ◌≢◌, ◌⊎◌, inl, inr, ℕ, ◌^◌, ◌<◌, sym, ◌∙◌, subst, arith}
use Rattle.std.specs.Prelude.{IsBitSet, bit_and, bit_or}
use Rattle.std.proofs.lemmas.Bool.{cases_eq}
use Rattle.std.proofs.lemmas.Nat.{and_or_self, and_or_apart, pow_apart, or_lt, pow_pos, pow_below}

pub bit_set : (mask k : ℕ) → IsBitSet (bit_or mask (2 ^ k)) k
bit_set mask k = λ none. let self = and_or_self (2 ^ k) mask in let some = pow_pos k in omega (arith, none, self, some)

other_bit : (mask k j : ℕ) → j ≢ k → bit_and (bit_or mask (2 ^ k)) (2 ^ j) ≡ bit_and mask (2 ^ j)
other_bit mask k j ne = and_or_apart (2 ^ j) mask (2 ^ k) (pow_apart k j (λ same. ne (sym same)))

pub bits_kept : (mask k j : ℕ) → IsBitSet mask j → IsBitSet (bit_or mask (2 ^ k)) j
bits_kept mask k j set = elim (cases_eq j k) [
  | inl same ↦ subst (IsBitSet (bit_or mask (2 ^ k))) (sym same) (bit_set mask k)
  | inr ne ↦ λ none. set (sym (other_bit mask k j ne) ∙ none)
]

pub bits_only : (mask k j : ℕ) → IsBitSet (bit_or mask (2 ^ k)) j → (j ≡ k) ⊎ IsBitSet mask j
bits_only mask k j set = elim (cases_eq j k) [
  | inl same ↦ inl same
  | inr ne ↦ inr (λ none. set (other_bit mask k j ne ∙ none))
]

pub bits_below : (mask k n : ℕ) → k < n → mask < 2 ^ n → bit_or mask (2 ^ k) < 2 ^ n
bits_below mask k n lt small = or_lt n mask (2 ^ k) small (pow_below k n lt)
