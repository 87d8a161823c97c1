use Rattle.std.proofs.Common.{rules}
use Rattle.dn_script.specs.Work.{work_ops}
use Rattle.dn_script.proofs.WorkLaws.{is_picked, made_more, made_all}
use Rattle.dn_script.proofs.work.generated.Goals as goal

pub loop-made-preserved : goal.loop-made-preserved
loop-made-preserved c =
    let choice = c.choice_of.ensures in
    let picked = is_picked _ _ _ _ _ c.in_ok-op_of.field-0 c.in_ok-op_of.ensures choice.kind choice.file choice.page choice.value in
    made_more c.loop-made.ops.items c.push.new.self.items (work_ops c.args.number) c.args.number c.loop-made._made c.loop-made.state c.next_state-state.result
    c.in_ok-op_of.field-0 (search rules) c.next_state-state.ensures picked c.in_ok-push.ensures.items c.loop-made.invariant

pub returns : goal.returns
returns c = made_all c.loop-made.ops.items (work_ops c.args.number) c.args.number c.loop-made._made c.loop-made.state (search rules) c.loop-made.invariant
