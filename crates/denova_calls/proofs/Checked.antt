-- Lemmas on an image that is checked.
use Rattle.std.proofs.Common.{ℕ, List}
use Rattle.dn_check.specs.Finding.{Tells}
use Rattle.dn_check.specs.declared.finding.Finding.{Finding}
use Rattle.dn_check.specs.declared.finding.Finding.TheVariants.{Fault, Sound}
use Rattle.denova_calls.specs.Ends.{CheckEnds}
use Rattle.denova_calls.specs.Steps.{FindingEnds}
use Rattle.call_endings.specs.declared.ending.Ending.{Ending}
use Rattle.call_endings.specs.declared.ending.Ending.TheVariants.{Done, Faulty, NoMemory}

pub check_ends : (w : List ℕ) (finding : Finding) (e : Ending) → Tells w finding → FindingEnds finding e → CheckEnds w e
check_ends w (Fault f) (Faulty text) tells told = (f, tells, told)
check_ends w (Fault f) NoMemory tells told = tt
check_ends w (Fault f) e tells told = absurd told
check_ends w (Sound files dying rows mapped free exact) (Done text) tells told = record {
  disk = tells.0;
  stands_for = tells.1;
  files = files;
  dying = dying;
  rows = rows;
  mapped = mapped;
  free = free;
  exact = exact;
  numbers = tells.2;
  text_is = told;
}
check_ends w (Sound files dying rows mapped free exact) NoMemory tells told = tt
check_ends w (Sound files dying rows mapped free exact) e tells told = absurd told
