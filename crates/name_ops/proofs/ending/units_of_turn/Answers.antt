use Rattle.std.proofs.Common.{arith}
use Rattle.name_ops.proofs.Counted.{few_places}
use Rattle.name_ops.proofs.ending.units_of_turn.Goals as goal

pub overflow_mul-result : goal.overflow_mul-result
overflow_mul-result c = let few = few_places c.args.node.now.map.map in omega (arith, few, c.count_places.ensures)

pub overflow_add-result : goal.overflow_add-result
overflow_add-result c = let few = few_places c.args.node.now.map.map in omega (arith, few, c.count_places.ensures)
