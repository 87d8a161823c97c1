-- The pairs of the journal are stored and read.
use Rattle.std.proofs.Common.{
  ◌≡◌,
  inl,
  inr,
  ℕ,
  zero,
  suc,
  ◌+◌,
  ◌*◌,
  ◌<◌,
  ◌≤◌,
  List,
  [],
  ◌∷◌,
  length,
  set,
  take,
  refl,
  sym,
  ◌∙◌,
  subst,
  arith,
  length-set,
  length-take,
  get_or-set_same,
  get_or-set_other,
  get_or-take,
}
use Rattle.std.specs.Prelude.{slice_index}
use Rattle.std.proofs.lemmas.Bool.{cases_eq}
use Rattle.pm_device.specs.State.{State}
use Rattle.pm_device.specs.Settled.{IsFlushed}
use Rattle.pm_device.specs.Reading.{IsReady}
use Rattle.pm_device.specs.Pages.{HoldsRun}
use Rattle.dn_model.specs.Rolled.{pair_address, pair_value}
use Rattle.name_journal.specs.declared.change.Change.{Change}
use Rattle.name_journal.specs.Changes.{address, new_value}
use Rattle.name_journal.specs.Pairs.{ArePairs, HavePairs, PairsOf, of_address, of_old}

pub four_pairs : (c : List ℕ) (p q r s : Change) → p.at ≡ pair_address c 0 → p.value ≡ pair_value c 0 → q.at ≡ pair_address c 1
    → q.value ≡ pair_value c 1
    → r.at ≡ pair_address c 2 → r.value ≡ pair_value c 2 → s.at ≡ pair_address c 3 → s.value ≡ pair_value c 3 → ArePairs c (p ∷ q ∷ r ∷ s ∷ [])
four_pairs c p q r s a0 v0 a1 v1 a2 v2 a3 v3 = record { four = refl; addresses = at; values = value }
  where
    at : (i : ℕ) → i < 4 → address (p ∷ q ∷ r ∷ s ∷ []) i ≡ pair_address c i
    at zero lt = a0
    at (suc zero) lt = a1
    at (suc (suc zero)) lt = a2
    at (suc (suc (suc zero))) lt = a3
    at (suc (suc (suc (suc i)))) lt = absurd (omega (arith, lt))

    value : (i : ℕ) → i < 4 → new_value (p ∷ q ∷ r ∷ s ∷ []) i ≡ pair_value c i
    value zero lt = v0
    value (suc zero) lt = v1
    value (suc (suc zero)) lt = v2
    value (suc (suc (suc zero))) lt = v3
    value (suc (suc (suc (suc i)))) lt = absurd (omega (arith, lt))

pub no_pairs : (changes : List Change) (c words : List ℕ) → length words ≡ 8 → HavePairs changes c 0 words
no_pairs changes c words long = record { long = long; addresses = λ i lt. absurd (omega arith); values = λ i lt. absurd (omega arith) }

-- one pair more
pub one_pair : (changes : List Change) (c words : List ℕ) (k at old : ℕ) → k < 4 → at ≡ address changes k → old ≡ slice_index c (address changes k)
    → HavePairs changes c k words → HavePairs changes c (k + 1) (set (set words (2 * k) at) (2 * k + 1) old)
one_pair changes c words k at old few at_is old_is have = record {
  long = length-set (set words (2 * k) at) (2 * k + 1) old ∙ length-set words (2 * k) at ∙ have.long;
  addresses = λ i lt. elim (cases_eq i k) [
    | inl e ↦ rw e (get_or-set_other (set words (2 * k) at) (2 * k + 1) (2 * k) old 0 (λ h. omega (arith, h)) ∙ get_or-set_same words (2 * k) at 0
        (omega (arith, have.long, few)) ∙ at_is)
    | inr ne ↦ get_or-set_other (set words (2 * k) at) (2 * k + 1) (2 * i) old 0 (λ h. omega (arith, h)) ∙ get_or-set_other words (2 * k) (2 * i) at 0
        (λ h. ne (omega (arith, h))) ∙ have.addresses i (omega arith)
  ];
  values = λ i lt. elim (cases_eq i k) [
    | inl e ↦ rw e (get_or-set_same (set words (2 * k) at) (2 * k + 1) old 0 (omega (arith, have.long, few, length-set words (2 * k) at)) ∙ old_is)
    | inr ne ↦ get_or-set_other (set words (2 * k) at) (2 * k + 1) (2 * i + 1) old 0 (λ h. ne (omega (arith, h))) ∙ get_or-set_other words (2 * k)
        (2 * i + 1) at 0 (λ h. omega (arith, h)) ∙ have.values i (omega arith)
  ];
}

-- a run of these words is ready to be made durable
pub pairs_ready : (who : ℕ) (changes : List Change) (c words : List ℕ) (t : State) → length changes ≤ 4 → 528 ≤ length t.now
    → HavePairs changes c (length changes) words
    → HoldsRun who 520 (take (2 * length changes) words) t → IsReady who (PairsOf changes c) t
pairs_ready who changes c words t few size have holds = record { within = within; reads = reads; flushed = flushed }
  where
    run : length (take (2 * length changes) words) ≡ 2 * length changes
    run = omega (arith, have.long, few, length-take (2 * length changes) words)

    word : (k : ℕ) → k < 2 * length changes → slice_index t.now (520 + k) ≡ slice_index words k
    word k lt = holds.reads k (omega (arith, lt, run)) ∙ get_or-take (2 * length changes) words k 0 lt

    within : (a v : ℕ) → PairsOf changes c a v → a < length t.now
    within a v (of_address i lt place value) = omega (arith, lt, place, few, size)
    within a v (of_old i lt place value) = omega (arith, lt, place, few, size)

    reads : (a v : ℕ) → PairsOf changes c a v → slice_index t.now a ≡ v
    reads a v (of_address i lt place value) =
        let e : a ≡ 520 + 2 * i = place in
        rw e (word (2 * i) (omega (arith, lt)) ∙ have.addresses i lt ∙ sym value)
    reads a v (of_old i lt place value) =
        let e : a ≡ 520 + (2 * i + 1) = omega (arith, place) in
        rw e (word (2 * i + 1) (omega (arith, lt)) ∙ have.values i lt ∙ sym value)

    flushed : (a v : ℕ) → PairsOf changes c a v → IsFlushed who t a
    flushed a v (of_address i lt place value) =
        let e : 520 + 2 * i ≡ a = sym place in subst (IsFlushed who t) e (holds.flushed (2 * i) (omega (arith, lt, run)))
    flushed a v (of_old i lt place value) =
        let e : 520 + (2 * i + 1) ≡ a = omega (arith, place) in subst (IsFlushed who t) e (holds.flushed (2 * i + 1) (omega (arith, lt, run)))
