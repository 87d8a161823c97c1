-- The bits of a prefix.
use Rattle.std.proofs.Common.{◌≡◌, ℕ, zero, suc, ◌+◌, ◌^◌, ◌<◌, ◌≤◌, Bool, true, false, refl, ◌∙◌, ap, arith}
use Rattle.std.specs.Prelude.{if◌then◌else◌, nat_le}
use Rattle.std.proofs.Math.Pow.{pow_mono}
use Rattle.std.proofs.lemmas.Bool.Decides.{nat_tests}
use Rattle.pm_layout.specs.declared.Geometry.{Geometry}
use Rattle.pm_layout.specs.Geometry.{IsAccepted, bits_from, bits_of, slots}

pub bits_from-found : (k b P : ℕ) → P ≤ 2 ^ b → bits_from k b P ≡ b
bits_from-found zero b P le = refl
bits_from-found (suc k) b P le = let t : nat_le P (2 ^ b) ≡ true = grind (arith, nat_tests) in
    ap (λ (c : Bool). if c then b else bits_from k (b + 1) P) t

pub bits_from-next : (k j b P : ℕ) → k ≡ j + 1 → 2 ^ b < P → bits_from k b P ≡ bits_from j (b + 1) P
bits_from-next zero j b P e lt = absurd (omega arith)
bits_from-next (suc k) j b P e lt =
    let t : nat_le P (2 ^ b) ≡ false = grind (arith, nat_tests) in
    let same : k ≡ j = omega arith in
    ap (λ (c : Bool). if c then b else bits_from k (b + 1) P) t ∙ ap (λ (n : ℕ). bits_from n (b + 1) P) same

pub bits_from_within : (k b P : ℕ) → (b ≤ bits_from k b P) × (bits_from k b P ≤ b + k)
bits_from_within zero b P = (omega arith, omega arith)
bits_from_within (suc k) b P = by_test (bits_from k (b + 1) P) (nat_le P (2 ^ b)) (bits_from_within k (b + 1) P)
  where
    by_test : (n : ℕ) (t : Bool) → (b + 1 ≤ n) × (n ≤ b + 1 + k) → (b ≤ (if t then b else n)) × ((if t then b else n) ≤ b + suc k)
    by_test n true r = (omega arith, omega arith)
    by_test n false r = (omega (arith, r.0), omega (arith, r.1))

pub bits_of_within : (pages : ℕ) → (6 ≤ bits_of pages) × (bits_of pages ≤ 16)
unfolding bits_of
bits_of_within pages = bits_from_within 10 6 pages

pub slots_small : (g : Geometry) → IsAccepted g → slots g ≤ 131072
slots_small g is = let few : 2 ^ bits_of g.pages ≤ 2 ^ 16 = pow_mono (bits_of_within g.pages).1 in omega (arith, few, is.few_pages)
