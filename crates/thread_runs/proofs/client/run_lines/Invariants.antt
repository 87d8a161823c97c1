use Rattle.pm_layout.specs.Geometry.{slots}
use Rattle.count_board.specs.Boards.{base_of}
use Rattle.count_board.specs.Passes.{account}
use Rattle.thread_runs.specs.Parts.{IsBack}
use Rattle.thread_runs.proofs.Lines.{RunsSo}
use Rattle.thread_runs.proofs.client.run_lines.Given as goal

abbrev pub invariant-loop-line : goal.invariant-loop-line
invariant-loop-line g l = record {
  back : IsBack l.shared.board l.initial.pass l.pass;
  so : RunsSo (slots (base_of l.shared.board).volume.parts.geometry) l.lines l.line-index (account l.pass) l.readings.items;
}
