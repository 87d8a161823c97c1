use Rattle.law_image_fault.proofs.Frees.{free_pages_are_counted}
use Rattle.law_image_fault.proofs.free_pages_counted.Goals as goal

pub returns : goal.returns
returns c = free_pages_are_counted
