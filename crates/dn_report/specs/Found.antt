-- The texts of what is found of an image.
use Rattle.std.specs.Prelude.{ℕ, Bool, if◌then◌else◌, List, ◌++◌, length, codes}
use Rattle.std.specs.List.{flat_map}
use Rattle.dn_model.specs.declared.fault.ImageFault.{ImageFault}
use Rattle.dn_model.specs.declared.fault.ImageFault.TheVariants.{
  NotAnImage,
  WrongVersion,
  BadGeometry,
  BadJournal,
  BadInode,
  BadLog,
  BadLink,
  BadTable,
  BadPointer,
  DoubleMapped,
  BadCount,
  Crowded,
}
use Rattle.fact_scan.specs.declared.row.Row.{Row}
use Rattle.dn_report.specs.Report.{spaced, spaced_number, line_end}

-- the name of a fault, with its numbers
abbrev pub fault_text : ImageFault → List ℕ
fault_text NotAnImage = codes "not-an-image"
fault_text (WrongVersion found) = codes "wrong-version" ++ spaced_number found
fault_text BadGeometry = codes "bad-geometry"
fault_text BadJournal = codes "bad-journal"
fault_text (BadInode ino) = codes "bad-inode" ++ spaced_number ino
fault_text (BadLog ino place) = codes "bad-log" ++ spaced_number ino ++ spaced_number place
fault_text (BadLink ino) = codes "bad-link" ++ spaced_number ino
fault_text (BadTable slot) = codes "bad-table" ++ spaced_number slot
fault_text (BadPointer page) = codes "bad-pointer" ++ spaced_number page
fault_text (DoubleMapped page) = codes "double-mapped" ++ spaced_number page
fault_text (BadCount slot) = codes "bad-count" ++ spaced_number slot
fault_text (Crowded free) = codes "crowded" ++ spaced_number free

-- the text of an image with a fault
abbrev pub faulty_text : ImageFault → List ℕ
faulty_text fault = codes "refused" ++ spaced (fault_text fault) ++ line_end

-- the line of a row: its slot, its page and its counts
abbrev pub row_line : Row → List ℕ
row_line row = codes "row" ++ spaced_number row.slot ++ spaced_number row.page ++ spaced_number
    row.count.rfc ++ spaced_number row.count.uc ++ line_end

abbrev pub exact_text : Bool → List ℕ
exact_text exact = if exact then codes " exact" else codes " near"

-- the first line of an image without a fault: its numbers
abbrev pub numbers_line : ℕ → ℕ → ℕ → ℕ → ℕ → Bool → List ℕ
numbers_line files dying rows mapped free exact =
    codes "ok files" ++ spaced_number files ++ codes " dying" ++ spaced_number dying ++ codes
    " rows" ++ spaced_number rows ++ codes " mapped" ++ spaced_number mapped
    ++ codes " free" ++ spaced_number free ++ exact_text exact ++ line_end

-- the text of an image without a fault
abbrev pub found_text : ℕ → ℕ → List Row → ℕ → ℕ → Bool → List ℕ
found_text files dying rows mapped free exact = numbers_line files dying (length rows) mapped free
    exact ++ flat_map row_line rows
