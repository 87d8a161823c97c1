use Rattle.std.proofs.Common.{◌∙◌, refl, arith}
use Rattle.std.specs.Prelude.{is_some}
use Rattle.std.specs.FinMap.{get}
use Rattle.name_ops.proofs.Counted.{none_counted, one_counted, few_counted, all_counted, one_at_most}
use Rattle.name_ops.proofs.ending.count_places.Goals as goal

pub loop-idx-init : goal.loop-idx-init
loop-idx-init c = none_counted c.args.map.now.map

pub overflow_add-places : goal.overflow_add-places
overflow_add-places c =
    let few = few_counted c.args.map.now.map c.loop-idx.idx in
    let one = one_at_most (is_some (get c.args.map.now.map c.loop-idx.idx)) in
    omega (arith, few, one, c.loop-idx.invariant, c.place_at-places.ensures, c.loop-idx-test.true)

pub loop-idx-preserved : goal.loop-idx-preserved
loop-idx-preserved c =
    let next = one_counted c.args.map.now.map c.loop-idx.idx (is_some (get c.args.map.now.map c.loop-idx.idx)) refl in
    omega (arith, next, c.loop-idx.invariant, c.place_at-places.ensures)

pub returns : goal.returns
returns c = c.loop-idx.invariant ∙ all_counted c.args.map.now.map c.loop-idx.idx (omega (arith, c.loop-idx-test.false, c.loop-idx.auto.idx-end))
