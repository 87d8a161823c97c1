use Rattle.std.proofs.Common.{refl, sym, ◌∙◌}
use Rattle.dn_model.specs.Log.{Log}
use Rattle.log_clean.proofs.begin.plan_on.Goals as goal

pub returns-in-Ok-clause-plan : goal.returns-in-Ok-clause-plan
returns-in-Ok-clause-plan c = record {
  ino_is = refl;
  slots_are = refl;
  pages_are = refl;
  none_written = refl;
  laid = λ (log : Log) pages items. c.in-Ok.ensures log (pages ∙ sym c.deref.ensures.value) items;
}
