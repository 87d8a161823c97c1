use Rattle.std.proofs.Common.{arith}
use Rattle.law_write.proofs.Unread.{pointer_word_low}
use Rattle.recovery.proofs.tables.is_pointer.Goals as goal

pub overflow_add-result : goal.overflow_add-result
overflow_add-result c = omega (
  arith,
  c.pointer_word-first.ensures,
  pointer_word_low c.args.g.now 0 (omega (arith, c.requires.pages)),
  c.requires.room,
  c.requires.few_pages,
)
