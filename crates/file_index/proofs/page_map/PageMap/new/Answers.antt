use Rattle.file_index.proofs.PageMaps.{new_empty}
use Rattle.file_index.proofs.RunCounts.{new_counted}
use Rattle.file_index.proofs.page_map.PageMap.new.Goals as goal

pub invariant_of-result : goal.invariant_of-result
invariant_of-result c = rw (c.new.ensures.items, c.new-2.ensures.items) new_counted

pub returns : goal.returns
returns c = rw c.new.ensures.items new_empty
