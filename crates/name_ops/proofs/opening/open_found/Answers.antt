use Rattle.std.proofs.Common.{◌∙◌, sym}
use Rattle.begin_steps.proofs.Answered.{untouched, has_all_last}
use Rattle.name_ops.proofs.Aimed.{needs_extra}
use Rattle.name_ops.proofs.opening.open_found.Goals as goal

pub returns-in_default-clause-event : goal.returns-in_default-clause-event
returns-in_default-clause-event g c = λ d volume. (
  untouched g.D.Pm.state c.args.v.now d volume,
  has_all_last d c.args.v.now.parts c.args.op (c.requires.roomy d volume).has,
)

pub open_names-requires-clause-can : goal.open_names-requires-clause-can
open_names-requires-clause-can g c = λ d volume. record {
  ino = c.args.ino;
  other = c.args.other;
  roomy = c.requires.roomy d volume;
  planned = c.in-Ok.ensures;
  needs = c.requires.needs d volume ∙ sym (needs_extra d c.args.v.now.parts c.args.op c.args.ino c.args.other (c.requires.roomy d volume).aims);
}
