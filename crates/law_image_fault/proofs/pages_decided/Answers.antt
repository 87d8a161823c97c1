use Rattle.law_image_fault.proofs.Pages.{pages_are_decided}
use Rattle.law_image_fault.proofs.pages_decided.Goals as goal

pub returns : goal.returns
returns c = pages_are_decided
