use Rattle.std.proofs.Common.{sym, ◌∙◌}
use Rattle.recovery.proofs.Making.{table_word-out, table_word-root, table_word-zero}
use Rattle.recovery.proofs.tables.table_word.Goals as goal

pub returns-then-not-is_table_part : goal.returns-then-not-is_table_part
returns-then-not-is_table_part c = let h = c.if-not-is_table_part.true in
    sym (table_word-out c.args.g.now c.args.at c.args.old (sym c.is_table_part.ensures ∙ h))

pub returns-then-at-eq-INODES_AT : goal.returns-then-at-eq-INODES_AT
returns-then-at-eq-INODES_AT c = sym (table_word-root c.args.g.now c.args.at c.args.old (sym c.is_table_part.ensures ∙ c.if-not-is_table_part.false)
    c.if-at-eq-INODES_AT.true)

pub returns-else-at-eq-INODES_AT : goal.returns-else-at-eq-INODES_AT
returns-else-at-eq-INODES_AT c = sym (table_word-zero c.args.g.now c.args.at c.args.old (sym c.is_table_part.ensures ∙ c.if-not-is_table_part.false)
    c.if-at-eq-INODES_AT.false)
