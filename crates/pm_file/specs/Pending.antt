-- The flushes that await a fence.
use Rattle.std.specs.Prelude.{List, filter, not, ◌==◌, ℕ}
use Rattle.pm_file.specs.declared.device.Flushed.{Flushed}
use Rattle.pm_file.specs.declared.device.FilePm.{FilePm}

abbrev pub pending : {F : Type 0} → FilePm F → List Flushed
pending d = d.flushed.items

-- those of the other actors
abbrev pub without : ℕ → List Flushed → List Flushed
without who flushes = filter (λ f. not (f.who == who)) flushes
