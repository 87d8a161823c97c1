use Rattle.std.proofs.Common.{take, arith}
use Rattle.pm_device.specs.Settled.{Others}
use Rattle.name_journal.proofs.Opened.{open_pairs, open_inside, open_only, open_others, shut_is_rolled, still_leaves, still_gates}
use Rattle.name_journal.proofs.undo.roll_back.Goals as goal

pub returns-then-gate-eq0-clause-rolled : goal.returns-then-gate-eq0-clause-rolled
returns-then-gate-eq0-clause-rolled g c =
    shut_is_rolled (g.D.Pm.state c.args.device.now).now (omega (arith, c.requires.size, c.requires.accepted.pages))
    (omega (arith, c.load-gate.ensures, c.if-gate-eq0.true))

pub returns-then-gate-eq0-clause-any_moment : goal.returns-then-gate-eq0-clause-any_moment
returns-then-gate-eq0-clause-any_moment g c = still_leaves (g.D.Pm.state c.args.device.now) (g.met.D.Pm.agree c.args.device.now)

pub returns-then-not-is_gate-clause-any_moment : goal.returns-then-not-is_gate-clause-any_moment
returns-then-not-is_gate-clause-any_moment g c = still_leaves (g.D.Pm.state c.args.device.now) (g.met.D.Pm.agree c.args.device.now)

pub put_back-requires-clause-pairs : goal.put_back-requires-clause-pairs
put_back-requires-clause-pairs g c =
    open_pairs c.args.g.now (g.D.Pm.state c.args.device.now).now c.requires.accepted c.requires.size (c.is_gate.ensures.0 c.if-not-is_gate.false)
    c.load-gate.result c.read_pairs-pairs.result c.load-gate.ensures c.read_pairs-pairs.ensures

pub put_back-requires-clause-inside : goal.put_back-requires-clause-inside
put_back-requires-clause-inside g c =
    let now = (g.D.Pm.state c.args.device.now).now in
    let is = c.is_gate.ensures.0 c.if-not-is_gate.false in
    open_inside c.args.g.now now c.requires.accepted c.requires.size is (take c.load-gate.result c.read_pairs-pairs.result)
    (open_pairs c.args.g.now now c.requires.accepted c.requires.size is c.load-gate.result c.read_pairs-pairs.result c.load-gate.ensures
    c.read_pairs-pairs.ensures)

pub returns-in-Ok-clause-only : goal.returns-in-Ok-clause-only
returns-in-Ok-clause-only g c =
    let S = g.D.Pm.state in
    open_only c.args.g.now (S c.args.device.now).now c.requires.accepted c.requires.size (c.is_gate.ensures.0 c.if-not-is_gate.false)
    c.load-gate.result c.read_pairs-pairs.result c.load-gate.ensures c.read_pairs-pairs.ensures
    (S c.args.device.now) (S c.put_back.new.device) c.put_back.ensures.only

pub returns-in-Ok-clause-others : goal.returns-in-Ok-clause-others
returns-in-Ok-clause-others g c =
    let S = g.D.Pm.state in
    open_others c.args.g.now (S c.args.device.now).now c.requires.accepted c.requires.size (c.is_gate.ensures.0 c.if-not-is_gate.false)
    c.load-gate.result c.read_pairs-pairs.result c.load-gate.ensures c.read_pairs-pairs.ensures
    (S c.args.device.now) (S c.put_back.new.device) (Others c.args.who) c.put_back.ensures.others

pub returns-in-Err-clause-only : goal.returns-in-Err-clause-only
returns-in-Err-clause-only g c =
    let S = g.D.Pm.state in
    open_only c.args.g.now (S c.args.device.now).now c.requires.accepted c.requires.size (c.is_gate.ensures.0 c.if-not-is_gate.false)
    c.load-gate.result c.read_pairs-pairs.result c.load-gate.ensures c.read_pairs-pairs.ensures
    (S c.args.device.now) (S c.put_back.new.device) c.put_back.ensures.only

pub returns-in-Err-clause-others : goal.returns-in-Err-clause-others
returns-in-Err-clause-others g c =
    let S = g.D.Pm.state in
    open_others c.args.g.now (S c.args.device.now).now c.requires.accepted c.requires.size (c.is_gate.ensures.0 c.if-not-is_gate.false)
    c.load-gate.result c.read_pairs-pairs.result c.load-gate.ensures c.read_pairs-pairs.ensures
    (S c.args.device.now) (S c.put_back.new.device) (Others c.args.who) c.put_back.ensures.others

pub returns-then-gate-eq0-clause-gates : goal.returns-then-gate-eq0-clause-gates
returns-then-gate-eq0-clause-gates g c = λ still. still_gates (g.D.Pm.state c.args.device.now) (g.met.D.Pm.agree c.args.device.now) still

pub returns-then-not-is_gate-clause-gates : goal.returns-then-not-is_gate-clause-gates
returns-then-not-is_gate-clause-gates g c = λ still. still_gates (g.D.Pm.state c.args.device.now) (g.met.D.Pm.agree c.args.device.now) still
