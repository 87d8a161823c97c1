-- Any words have a first fault, or stand for a valid disk.
use Rattle.std.proofs.Common.{inl, ⊎_elim}
use Rattle.law_unique.proofs.OneFault.{fault_none}
use Rattle.law_image_read.proofs.ImageRead.{read_to_links}
use Rattle.law_image_fault.specs.Rules.{ImagesAreJudged, NoFaultIsState}
use Rattle.law_image_fault.proofs.Judged.{linked_images_are_judged}

pub images_are_judged : ImagesAreJudged
images_are_judged c = ⊎_elim (λ fault. inl fault) (λ read. linked_images_are_judged c read.0 read.1) (read_to_links c)

pub no_fault_is_state : NoFaultIsState
no_fault_is_state c = (
  λ none. ⊎_elim (λ fault. absurd (none fault.0 fault.1)) (λ stands. stands) (images_are_judged c),
  λ stands fault has. fault_none c fault has stands,
)
