use Rattle.image_logs.specs.LogsLoop.{IsCountedTo}
use Rattle.image_logs.proofs.logs.read_logs.Given as goal

abbrev pub invariant-loop-ino : goal.invariant-loop-ino
invariant-loop-ino g l = IsCountedTo l.g (g.D.Pm.state l.device).now l.ino l.read
