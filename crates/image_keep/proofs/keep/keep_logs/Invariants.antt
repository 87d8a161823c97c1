use Rattle.image_logs.specs.LogsLoop.{IsCountedTo}
use Rattle.image_keep.specs.Keeping.{AreKeptTo}
use Rattle.image_keep.proofs.keep.keep_logs.Given as goal

abbrev pub invariant-loop-ino : goal.invariant-loop-ino
invariant-loop-ino g l = IsCountedTo l.g (g.D.Pm.state l.device).now l.ino l.read × AreKeptTo l.g (g.D.Pm.state l.device).now l.ino l.kept
