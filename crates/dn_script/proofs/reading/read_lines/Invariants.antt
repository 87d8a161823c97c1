use Rattle.std.proofs.Common.{◌≡◌, ◌+◌, ◌≤◌, length}
use Rattle.dn_script.specs.Text.{lines}
use Rattle.dn_script.specs.Job.{after_lines, start}
use Rattle.dn_script.proofs.reading.read_lines.Given as goal

abbrev pub invariant-loop-rest : goal.invariant-loop-rest
invariant-loop-rest l = record {
  same : after_lines l.form l.number (lines l.rest) l.draft ≡ after_lines l.form 1 (lines l.text) start;
  fits : l.number + length l.rest ≤ length l.text + 1;
}

abbrev pub decreases-loop-rest : goal.decreases-loop-rest
decreases-loop-rest l = length l.rest
