use Rattle.std.proofs.Common.{◌+◌, sym, subst, arith}
use Rattle.data_begins.specs.Asked.{IsAsked, IsAsk}
use Rattle.dn_volume.proofs.Tables.{running_disk}
use Rattle.size_ops.proofs.Flown.{is_ask, sound, from_few, own_plan}
use Rattle.size_ops.proofs.begin.try_cut.Goals as goal

pub ask_of-ask-requires-clause-few : goal.ask_of-ask-requires-clause-few
ask_of-ask-requires-clause-few g c =
    let found = running_disk g.D.Pm.state c.args.v.now c.requires.running c.requires.agrees in
    let ok = sound found.0 c.args.op c.args.ino c.plan_cut-cut.result (c.plan_cut-cut.ensures found.0 found.1) in
    omega (arith, ok.few, ok.few_more)

pub ask_of-ask-requires-clause-from : goal.ask_of-ask-requires-clause-from
ask_of-ask-requires-clause-from g c =
    let found = running_disk g.D.Pm.state c.args.v.now c.requires.running c.requires.agrees in
    from_few found.0 c.args.op c.args.ino c.plan_cut-cut.result (c.plan_cut-cut.ensures found.0 found.1)

pub in_the_way-requires-clause-asks : goal.in_the_way-requires-clause-asks
in_the_way-requires-clause-asks g c = λ d v.
    let plan = c.plan_cut-cut.ensures d v in
    subst (IsAsked d) (sym c.ask_of-ask.ensures) (record {
      op = c.args.op;
      is = is_ask d c.args.op c.args.ino c.plan_cut-cut.result plan c.args.v.now.parts (g.D.Pm.state c.args.v.now.device) v;
    })

pub open_cut-requires-clause-plan : goal.open_cut-requires-clause-plan
open_cut-requires-clause-plan g c = λ d v. own_plan d c.args.op c.args.ino c.plan_cut-cut.result (c.plan_cut-cut.ensures d v)

pub open_cut-requires-clause-has : goal.open_cut-requires-clause-has
open_cut-requires-clause-has g c = λ d v.
    let plan = c.plan_cut-cut.ensures d v in
    let asks = is_ask d c.args.op c.args.ino c.plan_cut-cut.result plan c.args.v.now.parts (g.D.Pm.state c.args.v.now.device) v in
    c.in-None.ensures d c.args.op v (subst (IsAsk d c.args.op) (sym c.ask_of-ask.ensures) asks)

pub hinder-requires-clause-hindered : goal.hinder-requires-clause-hindered
hinder-requires-clause-hindered g c = λ d v.
    let plan = c.plan_cut-cut.ensures d v in
    let asks = is_ask d c.args.op c.args.ino c.plan_cut-cut.result plan c.args.v.now.parts (g.D.Pm.state c.args.v.now.device) v in
    c.in-Some.ensures d c.args.op v (subst (IsAsk d c.args.op) (sym c.ask_of-ask.ensures) asks)
