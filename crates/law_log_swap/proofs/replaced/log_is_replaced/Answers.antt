use Rattle.law_log_swap.proofs.ReplacedLog.{replaced_all_or_none, body_suffices, replaced_images, replaced_stands}
use Rattle.law_log_swap.proofs.replaced.log_is_replaced.Goals as goal

pub returns-clause-decide : goal.returns-clause-decide
returns-clause-decide c = replaced_all_or_none

pub returns-clause-suffice : goal.returns-clause-suffice
returns-clause-suffice c = body_suffices

pub returns-clause-images : goal.returns-clause-images
returns-clause-images c = replaced_images

pub returns-clause-stands : goal.returns-clause-stands
returns-clause-stands c = replaced_stands
