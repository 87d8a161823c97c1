use Rattle.std.proofs.Common.{◌+◌, ◌-◌, ◌*◌, ◌^◌, ◌<◌, sym, ◌∙◌, ap, arith, refl, add-one}
use Rattle.std.proofs.Math.Nat.{pow-suc}
use Rattle.pm_layout.specs.Geometry.{bits_of}
use Rattle.pm_layout.proofs.Bits.{bits_from-found, bits_from-next}
use Rattle.pm_layout.proofs.bits_for.Goals as goal

pub loop-i-init : goal.loop-i-init
unfolding bits_of
loop-i-init c = (omega arith, refl, refl)

pub loop-i-preserved : goal.loop-i-preserved
loop-i-preserved c =
    let kept = c.loop-i.invariant in
    let below : 2 ^ c.loop-i.bits < c.args.pages = omega (arith, kept.1, c.if-pages-numbered.false) in (
      omega (arith, kept.0),
      ap (λ n. n * 2) kept.1 ∙ sym (pow-suc 2 c.loop-i.bits) ∙ ap (λ n. 2 ^ n) (sym (add-one c.loop-i.bits)),
      sym (bits_from-next (10 - c.loop-i._i) (10 - (c.loop-i._i + 1)) c.loop-i.bits c.args.pages (omega (arith, c.loop-i-test.true)) below) ∙ kept.2,
    )

pub returns-then-pages-numbered-clause-value : goal.returns-then-pages-numbered-clause-value
returns-then-pages-numbered-clause-value c =
    let kept = c.loop-i.invariant in
    sym (bits_from-found (10 - c.loop-i._i) c.loop-i.bits c.args.pages (omega (arith, kept.1, c.if-pages-numbered.true))) ∙ kept.2
