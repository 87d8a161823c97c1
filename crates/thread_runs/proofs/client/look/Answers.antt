use Rattle.std.proofs.Common.{◌<◌, arith}
use Rattle.pm_layout.specs.Geometry.{slots}
use Rattle.count_board.specs.Boards.{base_of}
use Rattle.thread_runs.proofs.Lines.{looked}
use Rattle.thread_runs.proofs.client.look.Goals as goal

pub returns-clause-looks : goal.returns-clause-looks
returns-clause-looks g c =
    let is = c.slots.ensures in
    let not = c.if-slots-slot.false in
    let lt : c.args.slot < slots (base_of c.args.shared.now.board).volume.parts.geometry = omega (arith, is, not) in
    looked c.args.pass.now c.read_count-count.new.pass (slots (base_of c.args.shared.now.board).volume.parts.geometry) c.args.line c.args.slot
    c.read_count-count.result lt c.read_count-count.ensures
