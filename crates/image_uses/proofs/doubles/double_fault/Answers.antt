use Rattle.std.proofs.Common.{refl}
use Rattle.image_uses.proofs.Twice.{first_twice, none_twice}
use Rattle.image_uses.proofs.doubles.double_fault.Goals as goal

pub returns-then-is_used_twice-clause-some : goal.returns-then-is_used_twice-clause-some
returns-then-is_used_twice-clause-some c = λ d counted rows. first_twice d c.args.in_logs.now c.args.mapped.now c.args.has_row.now counted rows
    c.loop-page.page c.loop-page-test.true c.loop-page.invariant
    (c.if-is_used_twice.ensures.0 refl)

pub returns-clause-none : goal.returns-clause-none
returns-clause-none c = λ d counted rows read. none_twice d c.args.in_logs.now c.args.mapped.now c.args.has_row.now counted rows read c.loop-page.page
    c.loop-page-test.false c.loop-page.invariant
