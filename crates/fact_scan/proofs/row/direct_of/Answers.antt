use Rattle.std.proofs.Common.{◌≡◌, ◌+◌, ◌*◌, ◌/◌, ◌^◌, ◌-◌, ◌<◌, ℕ, subst, refl, arith}
use Rattle.fingerprint.specs.Bytes.{be_number}
use Rattle.fact_scan.proofs.Prefix.{first_two, prefix-lt}
use Rattle.fact_scan.proofs.row.direct_of.Goals as goal

pub returns-clause-slot : goal.returns-clause-slot
returns-clause-slot c =
    let number : c.from.result * 256 + c.from-2.result ≡ be_number c.args.print.now 0 0 2 = omega (
      arith,
      c.from.ensures,
      c.from-2.ensures,
      first_two c.args.print.now,
    ) in
    rw (number, c.prefix_bits.ensures.value) refl

pub returns-clause-direct : goal.returns-clause-direct
returns-clause-direct c =
    let first = c.fits-print 0 in
    let second = c.fits-print 1 in
    subst (λ (b : ℕ). (c.from.result * 256 + c.from-2.result) / 2 ^ (16 - c.prefix_bits.result) < 2 ^ b) c.prefix_bits.ensures.value
    (prefix-lt (c.from.result * 256 + c.from-2.result) c.prefix_bits.result (omega (arith, c.from.ensures, c.from-2.ensures))
    c.prefix_bits.ensures.high)
