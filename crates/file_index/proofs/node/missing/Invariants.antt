use Rattle.std.proofs.Common.{◌≡◌, ◌+◌, take}
use Rattle.file_index.specs.Radix.{cells, filled}
use Rattle.file_index.proofs.node.missing.Given as goal

abbrev pub invariant-loop-node : goal.invariant-loop-node
invariant-loop-node l = l.missing + filled (take l.node-index (cells l.nodes)) ≡ 64
