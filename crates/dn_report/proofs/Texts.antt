-- Lemmas on the texts that are written.
use Rattle.std.proofs.Common.{◌≡◌, ◌<◌, ◌∷◌, [], ℕ, List, length, refl, arith}
use Rattle.hex.specs.Hex.{encode_lower}
use Rattle.dn_report.specs.Report.{spaced, spaced_digits, usage_text, stopped_text, read_fault_text, no_memory_text, too_long_text}
use Rattle.dn_report.specs.declared.report.TheConstants.{USAGE, STOPPED, READ_FAULT, NO_MEMORY, TOO_LONG}

-- no bytes have no digits
pub digits_of_none : (bytes : List ℕ) → length bytes ≡ 0 → spaced_digits bytes ≡ []
unfolding spaced_digits
digits_of_none [] none = refl
digits_of_none (b ∷ bs) none = absurd (omega arith)

-- some bytes have them behind a space
pub digits_of_some : (bytes : List ℕ) → 0 < length bytes → spaced_digits bytes ≡ spaced (encode_lower bytes)
unfolding spaced_digits
digits_of_some [] some = absurd (omega arith)
digits_of_some (b ∷ bs) some = refl

-- the texts of the program are those of the statuses
pub usage_is : USAGE.now ≡ usage_text
usage_is = refl

pub stopped_is : STOPPED.now ≡ stopped_text
stopped_is = refl

pub read_fault_is : READ_FAULT.now ≡ read_fault_text
read_fault_is = refl

pub no_memory_is : NO_MEMORY.now ≡ no_memory_text
no_memory_is = refl

pub too_long_is : TOO_LONG.now ≡ too_long_text
too_long_is = refl
