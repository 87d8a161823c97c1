use Rattle.std.proofs.Common.{◌<◌, ◌-◌, ◌+◌, length, arith, subst, sym}
use Rattle.pm_layout.specs.Geometry.{slots}
use Rattle.count_board.specs.Boards.{base_of}
use Rattle.thread_runs.specs.Parts.{IsStart, IsRun}
use Rattle.thread_runs.proofs.running.run_all.Goals as goal

pub returns-clause-ran : goal.returns-clause-ran
returns-clause-ran g c i d lt =
    let long = c.for_each_mut.auto.s in
    let lt' : i < length c.args.tasks.now = omega (arith, lt, long) in
    let one = (c.for_each_mut.ensures i d lt').1 in
    let k = c.args.last + 2 - i in
    subst (λ t. IsRun c.args.shared.now.board (slots (base_of c.args.shared.now.board).volume.parts.geometry) c.args.last c.args.clients.now k t)
    one.left (one.call k (subst (λ t. IsStart c.args.shared.now.board (c.args.last + 2) k t) (sym one.argument_is) (c.requires.start i d lt')))
