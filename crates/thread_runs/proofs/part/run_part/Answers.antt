use Rattle.std.proofs.Common.{arith}
use Rattle.pm_layout.specs.Geometry.{slots}
use Rattle.count_board.specs.Boards.{base_of}
use Rattle.count_board.specs.Passes.{account}
use Rattle.thread_runs.proofs.Works.{part_client, part_daemon, part_reclaim}
use Rattle.thread_runs.proofs.part.run_part.Goals as goal

pub returns-then-number-last-clause-ran : goal.returns-then-number-last-clause-ran
returns-then-number-last-clause-ran g c =
    let is = c.number-number.ensures in
    let low = c.if-number-last.true in
    part_client (slots (base_of c.args.shared.now.board).volume.parts.geometry) c.args.last c.args.clients.now (account c.args.pass.now).number
    (account c.args.pass.now) (account c.run_client.new.pass) c.run_client.new.readings.items c.run_client.result
    (omega (arith, is, low)) c.run_client.ensures.ops c.run_client.ensures.reads

pub returns-then-number-last-2-clause-ran : goal.returns-then-number-last-2-clause-ran
returns-then-number-last-2-clause-ran g c =
    let is = c.number-number.ensures in
    let at = c.if-number-last-2.true in
    part_daemon (slots (base_of c.args.shared.now.board).volume.parts.geometry) c.args.last c.args.clients.now (account c.args.pass.now).number
    (account c.args.pass.now) (account c.daemon_loop.new.pass) c.args.readings.now.items c.daemon_loop.result c.requires.rises c.requires.new
    (omega (arith, is, at)) c.daemon_loop.ensures.loops

pub returns-else-number-last-2-clause-ran : goal.returns-else-number-last-2-clause-ran
returns-else-number-last-2-clause-ran g c =
    let is = c.number-number.ensures in
    let high = c.if-number-last.false in
    let not = c.if-number-last-2.false in
    part_reclaim (slots (base_of c.args.shared.now.board).volume.parts.geometry) c.args.last c.args.clients.now (account c.args.pass.now).number
    (account c.args.pass.now) (account c.reclaim_loop.new.pass) c.args.readings.now.items c.reclaim_loop.result c.requires.rises c.requires.new
    (omega (arith, is, high)) (λ e. omega (arith, is, not, e)) c.reclaim_loop.ensures.loops
