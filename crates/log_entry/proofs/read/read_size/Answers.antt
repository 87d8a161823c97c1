use Rattle.std.proofs.Common.{sym, ap, subst, Some}
use Rattle.log_entry.specs.Spelling.{IsSpelled}
use Rattle.log_entry.proofs.Heads.{refused, size_head}
use Rattle.log_entry.proofs.read.read_size.Goals as goal
use Rattle.log_entry.specs.declared.item.LogItem.{LogItem}

pub returns-then-is_spelled-clause-only : goal.returns-then-is_spelled-clause-only
returns-then-is_spelled-clause-only c = λ item spelled head. ap (λ (i : LogItem). Some i) (sym (size_head item c.args.head.now head c.requires))

pub returns-else-is_spelled-clause-only : goal.returns-else-is_spelled-clause-only
returns-else-is_spelled-clause-only c = λ item spelled head.
    absurd (refused c.is_spelled.result (c.is_spelled.ensures.1 (subst IsSpelled (size_head item c.args.head.now head c.requires) spelled))
    c.if-is_spelled.false)
