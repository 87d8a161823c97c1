use Rattle.file_index.specs.Radix.{cells}
use Rattle.file_index.proofs.RunCounts.{runs_of_map}
use Rattle.file_index.proofs.page_map.PageMap.runs.Goals as goal

pub returns : goal.returns
returns c = rw (← c.self.view_is) (runs_of_map (cells c.self.inside.nodes.items) (cells c.self.inside.spare.items) c.self.inside.runs c.self.invariant)
