-- The prefix of a fingerprint.
use Rattle.std.proofs.Common.{◌≡◌, ℕ, ◌+◌, ◌-◌, ◌*◌, ◌/◌, ◌^◌, ◌<◌, ◌≤◌, List, sym, ◌∙◌, ap, arith}
use Rattle.std.specs.Prelude.{slice_index}
use Rattle.std.proofs.Math.Nat.{div-lt_iff_lt-mul}
use Rattle.std.proofs.Math.Pow.{pow_mono}
use Rattle.std.proofs.lemmas.Nat.{pow-add}
use Rattle.fingerprint.specs.Bytes.{be_number}

pub first_two : (print : List ℕ) → be_number print 0 0 2 ≡ slice_index print 0 * 256 + slice_index print 1
unfolding be_number
first_two print = omega arith

-- so many bits number so many slots
pub prefix-lt : (x bits : ℕ) → x < 65536 → bits ≤ 16 → x / 2 ^ (16 - bits) < 2 ^ bits
prefix-lt x bits lt le =
    let whole : 2 ^ (bits + (16 - bits)) ≡ 2 ^ bits * 2 ^ (16 - bits) = pow-add 2 bits (16 - bits) in
    let sixteen : bits + (16 - bits) ≡ 16 = omega arith in
    let all : 65536 ≡ 2 ^ bits * 2 ^ (16 - bits) = ap (λ (n : ℕ). 2 ^ n) (sym sixteen) ∙ whole in
    let some : 1 ≤ 2 ^ (16 - bits) = pow_mono {i = 0} {j = 16 - bits} (omega arith) in
    (div-lt_iff_lt-mul {k = 2 ^ (16 - bits)} {x = x} {y = 2 ^ bits} (omega arith)).1 (omega arith)
