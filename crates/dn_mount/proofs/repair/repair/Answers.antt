use Rattle.std.proofs.lemmas.Result.{err_from_is_err_and}
use Rattle.pm_device.specs.Settled.{Nowhere}
use Rattle.pm_device.proofs.Only.{stores_only-same, stores_only-then}
use Rattle.dn_mount.proofs.Repaired.{ready_of, has_ready, no_fault, read_fault, first_images, then_images, on_ok_scan}
use Rattle.dn_mount.proofs.repair.repair.Goals as goal

pub returns-in_err-read-clause-fault : goal.returns-in_err-read-clause-fault
returns-in_err-read-clause-fault g c =
    let S = g.D.Pm.state in
    let p = err_from_is_err_and c.from_residual-in_err-read.result c.from_residual-in_err-read.ensures.1 in
    rw (p.1, p.2) (read_fault (S c.args.device.now) (S c.prepare.new.device) c.in_ok-g.g c.in_ok-g.ensures.ready c.in_err-read.field-0.0
    c.in_err-read.ensures.halt)

pub settle_read-requires-clause-ready : goal.settle_read-requires-clause-ready
settle_read-requires-clause-ready g c =
    let S = g.D.Pm.state in
    has_ready (S c.args.device.now) (S c.prepare.new.device) c.in_ok-g.g c.in_ok-g.ensures.ready c.in_ok-read.read c.in_ok-read.ensures.read

pub returns-clause-scan : goal.returns-clause-scan
returns-clause-scan g c =
    let S = g.D.Pm.state in
    on_ok_scan c.settle_read.result _ _ (λ scan done d stood. done d
    (ready_of (S c.args.device.now) (S c.prepare.new.device) c.in_ok-g.g c.in_ok-g.ensures.ready c.in_ok-read.read c.in_ok-read.ensures.read d stood))
    c.settle_read.ensures.done

pub returns-clause-sound : goal.returns-clause-sound
returns-clause-sound g c =
    let S = g.D.Pm.state in
    let sound = no_fault (S c.args.device.now) (S c.prepare.new.device) c.in_ok-g.g c.in_ok-g.ensures.ready c.in_ok-read.read
    c.in_ok-read.ensures.read in
    on_ok_scan c.settle_read.result _ _ (λ scan done. sound) c.settle_read.ensures.done

pub returns-clause-images : goal.returns-clause-images
returns-clause-images g c =
    let S = g.D.Pm.state in
    λ d stood. then_images d (S c.args.device.now) (S c.prepare.new.device) (S c.settle_read.new.device)
    (first_images d (S c.args.device.now) (S c.prepare.new.device) (c.prepare.ensures.images d stood))
    (c.settle_read.ensures.images d
    (ready_of (S c.args.device.now) (S c.prepare.new.device) c.in_ok-g.g c.in_ok-g.ensures.ready c.in_ok-read.read c.in_ok-read.ensures.read d stood))

pub returns-in_err-g-clause-quiet : goal.returns-in_err-g-clause-quiet
returns-in_err-g-clause-quiet g c = λ d stood clean. stores_only-same Nowhere (g.D.Pm.state c.args.device.now) (g.D.Pm.state c.prepare.new.device)
    (g.met.D.Pm.agree c.args.device.now) (c.prepare.ensures.closed clean.closed)

pub returns-in_err-read-clause-quiet : goal.returns-in_err-read-clause-quiet
returns-in_err-read-clause-quiet g c = λ d stood clean. stores_only-same Nowhere (g.D.Pm.state c.args.device.now) (g.D.Pm.state c.prepare.new.device)
    (g.met.D.Pm.agree c.args.device.now) (c.prepare.ensures.closed clean.closed)

pub returns-clause-quiet : goal.returns-clause-quiet
returns-clause-quiet g c =
    let S = g.D.Pm.state in
    λ d stood clean. stores_only-then Nowhere (S c.args.device.now) (S c.prepare.new.device) (S c.settle_read.new.device)
    (stores_only-same Nowhere (S c.args.device.now) (S c.prepare.new.device) (g.met.D.Pm.agree c.args.device.now)
    (c.prepare.ensures.closed clean.closed))
    (c.settle_read.ensures.quiet d
    (ready_of (S c.args.device.now) (S c.prepare.new.device) c.in_ok-g.g c.in_ok-g.ensures.ready c.in_ok-read.read c.in_ok-read.ensures.read d stood)
    clean.exact clean.pointers)
