use Rattle.std.proofs.Common.{arith, refl}
use Rattle.std.specs.Prelude.{Some}
use Rattle.std.proofs.lemmas.List.Elements.{Contains-get_or}
use Rattle.name_ops.proofs.GivenPages.{gives_one, among_next, among_all, among_taken}
use Rattle.name_ops.proofs.ending.give_back_pages.Goals as goal

pub give_back-requires-clause-below : goal.give_back-requires-clause-below
give_back-requires-clause-below c = omega (
  arith,
  c.loop-i.invariant.pages,
  c.requires.below _ (Contains-get_or c.args.pages.now c.loop-i.i 0
      c.loop-i-test.true),
)

pub give_back-requires-clause-taken : goal.give_back-requires-clause-taken
give_back-requires-clause-taken c = among_taken c.args.pages.now c.args.free.now c.loop-i.free c.loop-i.i c.loop-i-test.true c.requires.apart
    c.requires.taken c.loop-i.invariant

pub loop-i-preserved : goal.loop-i-preserved
loop-i-preserved c = among_next c.args.pages.now c.args.free.now c.loop-i.free c.loop-i.i c.give_back.new.self c.loop-i.invariant
    (gives_one (Some _) _ c.loop-i.free c.give_back.new.self refl c.give_back.ensures.gives_back c.give_back.ensures.in_order)

pub returns : goal.returns
returns c = among_all c.args.pages.now c.args.free.now c.loop-i.free c.loop-i.i c.loop-i-test.false c.loop-i.auto.i-end c.loop-i.invariant
