use Rattle.law_image_fault.proofs.Images.{images_are_judged, no_fault_is_state}
use Rattle.law_image_fault.proofs.fault_or_state.Goals as goal

pub returns-clause-judged : goal.returns-clause-judged
returns-clause-judged c = images_are_judged

pub returns-clause-no_fault : goal.returns-clause-no_fault
returns-clause-no_fault c = no_fault_is_state
