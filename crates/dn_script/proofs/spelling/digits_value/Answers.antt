use Rattle.std.proofs.Common.{◌∙◌, sym, rules}
use Rattle.dn_script.proofs.Digits.{digits_stop, digits_go, digits_end}
use Rattle.dn_script.proofs.spelling.digits_value.Goals as goal

pub returns-in_err-value : goal.returns-in_err-value
returns-in_err-value c =
    let none = digits_stop c.loop-digit.value c.args.digits.now c.loop-digit.digit-index c.loop-digit-test.true
    (sym c.next_value.ensures ∙ c.in_err-value.was) in
    c.from_residual.ensures ∙ sym none ∙ c.loop-digit.invariant.same

pub loop-digit-preserved : goal.loop-digit-preserved
loop-digit-preserved c =
    let more = digits_go c.loop-digit.value _ c.args.digits.now c.loop-digit.digit-index c.loop-digit-test.true
    (sym c.next_value.ensures ∙ c.in_ok-value.was) in
    record { same = sym more ∙ c.loop-digit.invariant.same; fits = search rules }

pub returns : goal.returns
returns c =
    let all = digits_end c.loop-digit.value c.args.digits.now c.loop-digit.digit-index c.loop-digit-test.false c.loop-digit.invariant.fits in
    sym all ∙ c.loop-digit.invariant.same
