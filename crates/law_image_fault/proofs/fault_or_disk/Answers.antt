use Rattle.law_image_fault.proofs.Judged.{linked_images_are_judged}
use Rattle.law_image_fault.proofs.fault_or_disk.Goals as goal

pub returns : goal.returns
returns c = linked_images_are_judged
