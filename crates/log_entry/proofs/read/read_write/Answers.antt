use Rattle.std.proofs.Common.{sym, ap, subst, Some, refl}
use Rattle.log_entry.specs.Spelling.{IsSpelled}
use Rattle.log_entry.proofs.Heads.{refused, write_head, write_is}
use Rattle.log_entry.proofs.read.read_write.Goals as goal
use Rattle.log_entry.specs.declared.item.LogItem.{LogItem}

pub returns-in_err-of_number-clause-only : goal.returns-in_err-of_number-clause-only
returns-in_err-of_number-clause-only c = λ item spelled head.
    let w = write_head item c.args.head.now head c.requires in
    absurd (c.in_err-of_number.ensures.none refl w.flag w.number)

pub returns-then-is_spelled-clause-only : goal.returns-then-is_spelled-clause-only
returns-then-is_spelled-clause-only c = λ item spelled head.
    ap (λ (i : LogItem). Some i) (sym (write_is item c.args.head.now head c.requires c.in_ok-of_number.field-0 c.in_ok-of_number.ensures.some))

pub returns-else-is_spelled-clause-only : goal.returns-else-is_spelled-clause-only
returns-else-is_spelled-clause-only c = λ item spelled head.
    let is = write_is item c.args.head.now head c.requires c.in_ok-of_number.field-0 c.in_ok-of_number.ensures.some in
    absurd (refused c.is_spelled.result (c.is_spelled.ensures.1 (subst IsSpelled is spelled)) c.if-is_spelled.false)
