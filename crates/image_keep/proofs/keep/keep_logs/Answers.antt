use Rattle.std.proofs.Common.{rules, arith, subst, refl, ℕ}
use Rattle.image_logs.proofs.Steps.{counted-none, counted-next, first-fault, fault-of_each, all-read}
use Rattle.image_keep.specs.Keeping.{AreKeptTo}
use Rattle.image_keep.proofs.KeptInodes.{kept_none, kept_next}
use Rattle.image_keep.proofs.keep.keep_logs.Goals as goal

pub loop-ino-init : goal.loop-ino-init
loop-ino-init g c = (
  counted-none c.args.g.now (g.D.Pm.state c.args.device.now).now c.in_ok-read.read c.in_ok-read.ensures.read,
  kept_none c.args.g.now (g.D.Pm.state c.args.device.now).now _ c.new.ensures.items c.new-2.ensures refl,
)

pub loop-ino-preserved : goal.loop-ino-preserved
loop-ino-preserved g c = (
  counted-next c.args.g.now (g.D.Pm.state c.args.device.now).now c.loop-ino.ino c.loop-ino.read c.loop-ino.invariant.0 c.loop-ino-test.true
      c.add_inode.new.read c.in_ok-found.ensures.adds,
  kept_next c.args.g.now (g.D.Pm.state c.args.device.now).now c.loop-ino.ino c.loop-ino.kept c.keep_inode.new.kept c.in_ok-found.found
      c.loop-ino.invariant.1 c.in_ok-keep_inode.ensures.keeps c.loop-ino-test.true c.in_ok-found.ensures.found,
)

pub returns-in_err-found-clause-fault : goal.returns-in_err-found-clause-fault
returns-in_err-found-clause-fault g c =
    let first = first-fault c.args.g.now (g.D.Pm.state c.args.device.now).now c.loop-ino.ino c.loop-ino.read c.loop-ino.invariant.0
    c.loop-ino-test.true c.in_err-found.field-0.0 c.in_err-found.ensures.fault c.in_err-found.ensures.used in
    search rules

pub returns-in_err-found-clause-state : goal.returns-in_err-found-clause-state
returns-in_err-found-clause-state g c =
    let first = first-fault c.args.g.now (g.D.Pm.state c.args.device.now).now c.loop-ino.ino c.loop-ino.read c.loop-ino.invariant.0
    c.loop-ino-test.true c.in_err-found.field-0.0 c.in_err-found.ensures.fault c.in_err-found.ensures.used in
    let each = fault-of_each c.args.g.now (g.D.Pm.state c.args.device.now).now c.in_err-found.field-0.0 first in
    search rules

pub returns-clause-read : goal.returns-clause-read
returns-clause-read g c = all-read c.args.g.now (g.D.Pm.state c.args.device.now).now c.loop-ino.ino c.loop-ino.read
    (omega (arith, c.loop-ino-test.false, c.loop-ino.auto.ino-end)) c.loop-ino.invariant.0 c.requires.accepted.inodes

pub returns-clause-kept : goal.returns-clause-kept
returns-clause-kept g c = subst (λ (k : ℕ). AreKeptTo c.args.g.now (g.D.Pm.state c.args.device.now).now k c.loop-ino.kept)
    (omega (arith, c.loop-ino-test.false, c.loop-ino.auto.ino-end)) c.loop-ino.invariant.1
