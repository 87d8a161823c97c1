use Rattle.std.proofs.Common.{sym, ◌∙◌, subst, take_all, get_or, refl}
use Rattle.begin_steps.specs.Held.{AreLooseAmong}
use Rattle.begin_steps.proofs.Loose.{loose_none, loose_next, held_here}
use Rattle.begin_steps.proofs.holders.first_holder.Goals as goal

pub loop-i-init : goal.loop-i-init
loop-i-init c = loose_none c.args.inodes.now c.args.wanted.now

pub loop-i-preserved : goal.loop-i-preserved
loop-i-preserved c = loose_next c.args.inodes.now c.args.wanted.now c.loop-i.i c.loop-i-test.true c.requires
    (get_or c.args.wanted.now c.loop-i.i 0) 0 refl c.loop-i.invariant
    (λ n at. sym c.in_default.is ∙ c.holder_of.ensures n at)

pub returns-in-Some-clause-held : goal.returns-in-Some-clause-held
returns-in-Some-clause-held c = held_here c.args.inodes.now c.args.wanted.now c.loop-i.i c.loop-i-test.true c.requires
    (get_or c.args.wanted.now c.loop-i.i 0) 0 c.in-Some.who refl c.loop-i.invariant
    (λ n at. sym c.in-Some.is ∙ c.holder_of.ensures n at)

pub returns-clause-loose : goal.returns-clause-loose
returns-clause-loose c = subst (AreLooseAmong c.args.inodes.now) (take_all c.loop-i.i c.args.wanted.now c.loop-i-test.false) c.loop-i.invariant
