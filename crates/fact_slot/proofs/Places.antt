-- Where the slots lie.
use Rattle.std.proofs.Common.{◌≡◌, ℕ, ◌+◌, ◌-◌, ◌*◌, ◌^◌, ◌<◌, ◌≤◌, ◌∙◌, ap, arith}
use Rattle.std.proofs.lemmas.Nat.{pow-add}
use Rattle.std.proofs.Math.Pow.{pow_mono}
use Rattle.pm_layout.specs.declared.Geometry.{Geometry}
use Rattle.pm_layout.specs.Geometry.{IsAccepted, bits_of, prefix_bits, directs, slots, slot_word, first_data}
use Rattle.pm_layout.proofs.Bits.{bits_of_within}

-- 64 direct slots lie in a page
pub directs-pages : (g : Geometry) → directs g ≡ 64 * 2 ^ (bits_of g.pages - 6)
directs-pages g =
    let sixteen = bits_of_within g.pages in
    let parts : prefix_bits g ≡ 6 + (bits_of g.pages - 6) = omega (arith, sixteen.0) in
    ap (λ (b : ℕ). 2 ^ b) parts ∙ pow-add 2 6 (bits_of g.pages - 6)

pub directs-low : (g : Geometry) → 64 ≤ directs g
directs-low g = let some : 1 ≤ 2 ^ (bits_of g.pages - 6) = pow_mono {i = 0} {j = bits_of g.pages - 6} (omega arith) in omega (arith, directs-pages g)

-- the line of a slot ends before the data area
pub slot_word-below_data : (g : Geometry) (slot : ℕ) → IsAccepted g → slot < slots g → slot_word g slot 0 + 8 ≤ 512 * first_data g
unfolding first_data
slot_word-below_data g slot is lt = let whole = directs-pages g in omega arith
