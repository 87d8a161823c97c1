use Rattle.std.proofs.Common.{◌≡◌, refl}
use Rattle.dn_script.specs.declared.job.Command.TheVariants.{Do, Count}
use Rattle.job_texts.proofs.Planned.{op_more, number_more, op_none, number_none}
use Rattle.job_texts.proofs.plan.split_lines.Goals as goal

pub loop-number-preserved-in-Continue-branch-2 : goal.loop-number-preserved-in-Continue-branch-2
loop-number-preserved-in-Continue-branch-2 c =
    let line = c.in-Some.field-0 in
    let said : line.command ≡ Do c.in-Do.op = cc (c.in-Do.is) in
    record {
      ops = op_more c.loop-number.yielded line c.in-Do.op c.loop-number.ops.items _ c.loop-number.invariant.ops said c.in_ok-push.ensures.items;
      numbers = number_more c.loop-number.yielded line c.in-Do.op line.number c.loop-number.numbers.items _ c.loop-number.invariant.numbers said
          refl c.in_ok-push-2.ensures.items;
    }

pub loop-number-preserved : goal.loop-number-preserved
loop-number-preserved c =
    let line = c.in-Some.field-0 in
    let said : line.command ≡ Count c.in_default.field-0 = cc (c.in_default.is) in
    record {
      ops = op_none c.loop-number.yielded line c.in_default.field-0 c.loop-number.ops.items c.loop-number.invariant.ops said;
      numbers = number_none c.loop-number.yielded line c.in_default.field-0 c.loop-number.numbers.items c.loop-number.invariant.numbers said;
    }
