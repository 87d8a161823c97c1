use Rattle.std.proofs.Common.{◌≡◌, take}
use Rattle.denova_calls.proofs.words.words_of.Given as goal

abbrev pub invariant-loop-at : goal.invariant-loop-at
invariant-loop-at g l = l.words.items ≡ take l.at (g.D.Pm.state l.device).now
