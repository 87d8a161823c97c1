-- What the steps of a call hand on.
use Rattle.std.specs.Prelude.{◌≡◌, ℕ, List}
use Rattle.pm_layout.specs.declared.GeometryFault.{GeometryFault}
use Rattle.pm_layout.specs.declared.GeometryFault.TheVariants as few
use Rattle.dn_check.specs.declared.finding.Finding.{Finding}
use Rattle.dn_check.specs.declared.finding.Finding.TheVariants as finding
use Rattle.dn_report.specs.Report.{refused_text}
use Rattle.dn_report.specs.Found.{faulty_text, found_text}
use Rattle.dn_report.specs.declared.report.Cause.{Cause}
use Rattle.dn_report.specs.declared.report.Cause.TheVariants.{TooFewPages, TooManyPages, BadInodes}
use Rattle.call_endings.specs.declared.ending.Ending.{Ending}
use Rattle.call_endings.specs.declared.ending.Ending.TheVariants.{Done, Faulty, NoMemory, Refused}

-- the text of a finding, and its ending
abbrev pub finding_text : Finding → List ℕ
finding_text (finding.Fault f) = faulty_text f
finding_text (finding.Sound files dying rows mapped free exact) =
    found_text files dying rows mapped free exact

abbrev pub FindingEnds : Finding → Ending → Type 0
FindingEnds (finding.Fault f) (Faulty text) = text.items ≡ faulty_text f
FindingEnds (finding.Fault f) NoMemory = Unit {0}
FindingEnds (finding.Fault f) e = ⊥
FindingEnds (finding.Sound files dying rows mapped free exact) (Done text) =
    text.items ≡ found_text files dying rows mapped free exact
FindingEnds (finding.Sound files dying rows mapped free exact) NoMemory = Unit {0}
FindingEnds (finding.Sound files dying rows mapped free exact) e = ⊥

-- the cause that a geometry's numbers are refused for
abbrev pub cause_of : GeometryFault → Cause
cause_of few.TooFewPages = TooFewPages
cause_of few.TooManyPages = TooManyPages
cause_of few.BadInodes = BadInodes

-- the ending of a refusal
abbrev pub RefusalEnds : Cause → Ending → Type 0
RefusalEnds cause (Refused text) = text.items ≡ refused_text cause
RefusalEnds cause NoMemory = Unit {0}
RefusalEnds cause e = ⊥
