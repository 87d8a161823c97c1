-- Which fences a device in memory fails.
use Rattle.std.specs.Prelude.{ℕ, List}
use Rattle.pm_device.specs.declared.memory.MemPm.{MemPm}

-- the numbers of the fences that fail, counted from 1
abbrev pub failing_fences : MemPm → List ℕ
failing_fences m = m.fail_at.items
