use Rattle.std.proofs.Common.{arith}
use Rattle.pm_layout.proofs.Bits.{slots_small}
use Rattle.pm_layout.proofs.Geometry.slot_word.Goals as goal

pub overflow_mul-result-2 : goal.overflow_mul-result-2
overflow_mul-result-2 c = let small = slots_small c.args.self.now c.requires.accepted in omega (arith, c.requires.slot)

pub overflow_add-result-2 : goal.overflow_add-result-2
overflow_add-result-2 c = let small = slots_small c.args.self.now c.requires.accepted in omega (
  arith,
  c.requires.slot,
  c.div_ceil.ensures,
  c.requires.accepted.few_inodes,
)

pub overflow_add-result-3 : goal.overflow_add-result-3
overflow_add-result-3 c = let small = slots_small c.args.self.now c.requires.accepted in omega (
  arith,
  c.requires.slot,
  c.div_ceil.ensures,
  c.requires.accepted.few_inodes,
  c.requires.field,
)
