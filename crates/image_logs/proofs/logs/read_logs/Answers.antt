use Rattle.std.proofs.Common.{rules, arith}
use Rattle.image_logs.proofs.Steps.{counted-none, counted-next, first-fault, fault-of_each, all-read}
use Rattle.image_logs.proofs.logs.read_logs.Goals as goal

pub loop-ino-init : goal.loop-ino-init
loop-ino-init g c = counted-none c.args.g.now (g.D.Pm.state c.args.device.now).now c.in_ok-read.read c.in_ok-read.ensures.read

pub loop-ino-preserved : goal.loop-ino-preserved
loop-ino-preserved g c = counted-next c.args.g.now (g.D.Pm.state c.args.device.now).now c.loop-ino.ino c.loop-ino.read c.loop-ino.invariant
    c.loop-ino-test.true c.add_inode.new.read c.in_ok-add_inode.ensures.adds

pub returns-in_err-add_inode-clause-fault : goal.returns-in_err-add_inode-clause-fault
returns-in_err-add_inode-clause-fault g c =
    let first = first-fault c.args.g.now (g.D.Pm.state c.args.device.now).now c.loop-ino.ino c.loop-ino.read c.loop-ino.invariant c.loop-ino-test.true
    c.in_err-add_inode.field-0.0 c.in_err-add_inode.ensures.fault c.in_err-add_inode.ensures.used in
    search rules

pub returns-in_err-add_inode-clause-state : goal.returns-in_err-add_inode-clause-state
returns-in_err-add_inode-clause-state g c =
    let first = first-fault c.args.g.now (g.D.Pm.state c.args.device.now).now c.loop-ino.ino c.loop-ino.read c.loop-ino.invariant c.loop-ino-test.true
    c.in_err-add_inode.field-0.0 c.in_err-add_inode.ensures.fault c.in_err-add_inode.ensures.used in
    let each = fault-of_each c.args.g.now (g.D.Pm.state c.args.device.now).now c.in_err-add_inode.field-0.0 first in
    search rules

pub returns-clause-read : goal.returns-clause-read
returns-clause-read g c = all-read c.args.g.now (g.D.Pm.state c.args.device.now).now c.loop-ino.ino c.loop-ino.read
    (omega (arith, c.loop-ino-test.false, c.loop-ino.auto.ino-end)) c.loop-ino.invariant c.requires.accepted.inodes
