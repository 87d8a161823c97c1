-- The texts of files that are listed, and of generated work.
use Rattle.std.specs.Prelude.{
  ◌≡◌,
  ℕ,
  ◌-◌,
  Bool,
  true,
  false,
  List,
  [],
  ◌++◌,
  length,
  codes,
  decimal,
  Option,
  Some,
  None,
  count_by,
}
use Rattle.std.specs.List.{flat_map}
use Rattle.sha1.specs.Sha1.{sha1}
use Rattle.hex.specs.Hex.{encode_lower}
use Rattle.dn_model.specs.Apply.{IsListing}
use Rattle.dn_model.specs.Disk.{Disk, rows}
use Rattle.dn_model.specs.Files.{Files}
use Rattle.dn_model.specs.Numbers.{files_in, mapped_in}
use Rattle.dn_model.specs.declared.op.Entry.{Entry}
use Rattle.dn_model.specs.declared.op.Reply.{Reply}
use Rattle.dn_model.specs.declared.op.Reply.TheVariants.{Done}
use Rattle.dn_report.specs.Report.{spaced, spaced_number, line_end}

-- the line of a file: its size, the digits of its digest, and its name
abbrev pub digest_line : ℕ → List ℕ → List ℕ → List ℕ
digest_line size digest name = decimal size ++ spaced (encode_lower digest) ++ spaced name ++
    line_end

-- the line of a file of these bytes, whose digest is their SHA-1
abbrev pub line_of_file : List ℕ → Option (List ℕ) → List ℕ
line_of_file name None = []
line_of_file name (Some bytes) = digest_line (length bytes) (sha1 bytes) name

-- the line of a name among files
abbrev pub file_line : Files → List ℕ → List ℕ
file_line files name = line_of_file name (files name)

-- the last line of a list: how many files there are
abbrev pub files_line : ℕ → List ℕ
files_line count = codes "files" ++ spaced_number count ++ line_end

-- the text of the files of these names
abbrev pub list_text : Files → List (List ℕ) → List ℕ
list_text files names = flat_map (file_line files) names ++ files_line (length names)

-- a text lists all files, in the order of their names' bytes
pub record ListsFiles (files : Files) (text : List ℕ) : Type 0 where
  pub names : List (List ℕ)
  pub listing : IsListing files names
  pub text_is : text ≡ list_text files names

-- whether an operation was done
abbrev pub is_done : Reply → Bool
is_done Done = true
is_done reply = false

-- how many operations of a history were done
abbrev pub count_done : List Entry → ℕ
count_done history = count_by (λ (e : Entry). is_done e.reply) history

-- the text of generated work: its number, the operations that were done and that were refused, and
-- the files, rows, mapped pages and free pages in the end
abbrev pub work_line : (n done refused files rows mapped free : ℕ) → List ℕ
work_line n done refused files rows mapped free =
    codes "work" ++ spaced_number n ++ codes " done" ++ spaced_number done ++ codes " refused" ++
    spaced_number refused ++ codes " files" ++ spaced_number files ++ codes " rows" ++ spaced_number
    rows ++ codes " mapped" ++ spaced_number mapped ++ codes " free" ++ spaced_number free ++
    line_end

-- the text of work with this history, after which the words stand for this disk
abbrev pub work_text : ℕ → List Entry → Disk → ℕ → List ℕ
work_text n history d free =
    work_line n (count_done history) (length history - count_done history) (files_in d)
    (length (rows d)) (mapped_in d) free
