-- An opened image has no store that is undecided.
use Rattle.std.proofs.Common.{sym, subst, Option}
use Rattle.pm_device.specs.Past.{Past}
use Rattle.pm_device.specs.State.{State}
use Rattle.pm_device.specs.Settled.{Still, OfWord, Each, IsRead}
use Rattle.pm_file.specs.Image.{IsOpened}

-- a file doesn't tell its past
pub opened_still : (s : State) → IsOpened s → Still s
opened_still s opened = λ a inside. subst (λ (p : Option Past). OfWord p a (Each (IsRead s a))) (sym opened.past) tt
