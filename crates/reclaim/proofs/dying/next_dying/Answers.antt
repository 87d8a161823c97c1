use Rattle.std.proofs.Common.{ℕ, subst}
use Rattle.reclaim.specs.Dying.{IsDying}
use Rattle.reclaim.proofs.Machine.{untouched, rests_now}
use Rattle.reclaim.proofs.dying.next_dying.Goals as goal

pub returns-in-None-clause-event : goal.returns-in-None-clause-event
returns-in-None-clause-event g c = λ d v. (
  untouched g.D.Pm.state c.args.v.now d v,
  rests_now d c.args.v.now.parts (g.D.Pm.state c.args.v.now.device) v c.requires.unchecked c.requires.none_wait
      (subst (λ nodes. (i : ℕ) → IsDying nodes i → ⊥) c.deref.ensures.value c.in-None.ensures.none),
)
