use Rattle.std.proofs.Common.{◌≡◌, ◌∷◌, ◌+◌, drop, arith}
use Rattle.std.proofs.lemmas.Result.{err_from_is_err_and}
use Rattle.pm_layout.specs.Geometry.{slots}
use Rattle.count_board.specs.Boards.{base_of}
use Rattle.count_board.specs.Passes.{account}
use Rattle.thread_runs.proofs.Lists.{rest_here}
use Rattle.thread_runs.proofs.Lines.{back_on, runs_on, runs_failed, reads_all}
use Rattle.thread_runs.proofs.client.run_lines.Goals as goal

pub returns-in_err-run_line-clause-ops : goal.returns-in_err-run_line-clause-ops
returns-in_err-run_line-clause-ops g c =
    let lines = c.args.lines.now in
    let i = c.loop-line.line-index in
    let line = c.line-item.result in
    let here : drop i lines ≡ line ∷ drop (i + 1) lines = rest_here lines i line c.loop-line-test.true c.line-item.is in
    let p = err_from_is_err_and c.from_residual.result c.from_residual.ensures.1 in
    rw (p.1, p.2) (runs_failed (slots (base_of c.args.shared.now.board).volume.parts.geometry) lines i line here (account c.loop-line.pass)
    (account c.run_line.new.pass) c.loop-line.readings.items c.run_line.new.readings.items c.loop-line.invariant.so c.run_line.result _
    c.in_err-run_line.was c.run_line.ensures.ran)

pub loop-line-preserved : goal.loop-line-preserved
loop-line-preserved g c =
    let lines = c.args.lines.now in
    let i = c.loop-line.line-index in
    let line = c.line-item.result in
    let here : drop i lines ≡ line ∷ drop (i + 1) lines = rest_here lines i line c.loop-line-test.true c.line-item.is in record {
      back = back_on c.args.shared.now.board c.args.pass.now c.loop-line.pass c.run_line.new.pass c.loop-line.invariant.back c.run_line.ensures.back;
      so = runs_on (slots (base_of c.args.shared.now.board).volume.parts.geometry) lines i line here (account c.loop-line.pass)
          (account c.run_line.new.pass) c.loop-line.readings.items c.run_line.new.readings.items c.loop-line.invariant.so c.run_line.result
          c.in_ok-run_line.field-0 c.in_ok-run_line.was c.run_line.ensures.ran;
    }

pub returns-clause-reads : goal.returns-clause-reads
returns-clause-reads g c = reads_all (slots (base_of c.args.shared.now.board).volume.parts.geometry) c.args.lines.now c.loop-line.line-index
    (omega (arith, c.loop-line-test.false)) (account c.loop-line.pass) c.loop-line.readings.items c.loop-line.invariant.so
