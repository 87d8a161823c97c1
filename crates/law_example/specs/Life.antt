-- The life of one file on an empty disk: it is created, written, written over, and removed.
use Rattle.std.specs.Prelude.{
  ◌≡◌,
  ◌≢◌,
  ℕ,
  ◌/◌,
  ◌%◌,
  ◌^◌,
  ◌<◌,
  ◌≤◌,
  max,
  List,
  [],
  ◌∷◌,
  length,
  slice_index,
  None,
}
use Rattle.pm_layout.specs.declared.Geometry.{Geometry}
use Rattle.pm_layout.specs.Geometry.{InData, IsAccepted}
use Rattle.log_entry.specs.Name.{IsLegal}
use Rattle.dn_model.specs.Disk.{Disk}
use Rattle.dn_model.specs.Counts.{IsFree}
use Rattle.dn_model.specs.Files.{files, IsSameFiles}
use Rattle.dn_model.specs.Apply.{written, after_op}
use Rattle.dn_model.specs.Valid.{IsValid}
use Rattle.dn_model.specs.Own.{Print, IsOwn}
use Rattle.dn_model.specs.declared.op.Op.{Op}
use Rattle.dn_model.specs.declared.op.Op.TheVariants.{Create, Write, Remove}
use Rattle.law_write.specs.Runs.{Run}
use Rattle.law_write.specs.MayWrite.{written_disk}
use Rattle.law_names.specs.Operations.{created_disk, unnamed_disk}
use Rattle.dn_model.specs.Empty.{empty_disk}

-- The file's name and inode, the texts that are written at its start, the pages that are taken, and
-- the words that pages
-- have after the first write and after the second.
pub record Life : Type 0 where
  pub geometry : Geometry
  pub name : List ℕ
  pub ino : ℕ
  pub first_byte : ℕ
  pub first_rest : List ℕ
  pub second_byte : ℕ
  pub second_rest : List ℕ
  pub root_page : ℕ
  pub log_page : ℕ
  pub first_page : ℕ
  pub second_page : ℕ
  pub first_word : ℕ → ℕ → ℕ
  pub second_word : ℕ → ℕ → ℕ

abbrev pub first_text : Life → List ℕ
first_text life = life.first_byte ∷ life.first_rest

abbrev pub second_text : Life → List ℕ
second_text life = life.second_byte ∷ life.second_rest

-- the file after each of the writes
abbrev pub first_file : Life → List ℕ
first_file life = written [] 0 (first_text life)

abbrev pub second_file : Life → List ℕ
second_file life = written (first_file life) 0 (second_text life)

-- the first page of a file on this page
abbrev pub on_page : ℕ → List Run
on_page page = record { first = 0; count = 1; block = page } ∷ []

-- the disks, one after the other
abbrev pub empty : Life → Disk
empty life = empty_disk life.geometry

abbrev pub created : Life → Disk
created life = created_disk (empty life) life.name life.ino (life.root_page ∷ [])

abbrev pub appended : Life → Disk
appended life = written_disk (created life) life.ino (life.log_page ∷ []) (length (first_text life))
    (on_page life.first_page) life.first_word

abbrev pub overwritten : Life → Disk
overwritten life = written_disk (appended life) life.ino []
    (max (length (first_text life)) (length (second_text life))) (on_page life.second_page)
    life.second_word

abbrev pub removed : Life → Disk
removed life = unnamed_disk (overwritten life) life.name life.ino []

-- the page has these bytes, and zeros behind them
abbrev pub HoldsBytes : (ℕ → ℕ → ℕ) → ℕ → List ℕ → Type 0
HoldsBytes word page bytes = (k : ℕ) → k < 4096 → word page (k / 8) / 256 ^ (k % 8) %
    256 ≡ slice_index bytes k

-- the pages that are taken, and two that stay
abbrev pub pages_of_life : Life → ℕ → ℕ → List ℕ
pages_of_life life spare other = life.root_page ∷ life.log_page ∷ life.first_page ∷ life.second_page
    ∷ spare ∷ other ∷ []

pub record IsLife (life : Life) : Type 0 where
  pub accepted : IsAccepted life.geometry
  pub legal : IsLegal life.name
  pub file : 1 ≤ life.ino
  pub in_table : life.ino < life.geometry.inodes
  pub first_short : length (first_text life) ≤ 4096
  pub second_short : length (second_text life) ≤ 4096
  pub spare : ℕ
  pub other : ℕ
  pub in_data : (k : ℕ) → k < 6
      → InData life.geometry (slice_index (pages_of_life life spare other) k)
  pub apart : (j k : ℕ) → j < 6 → k < 6 → slice_index (pages_of_life life spare other)
      j ≡ slice_index (pages_of_life life spare other) k → j ≡ k
  pub first_holds : HoldsBytes life.first_word life.first_page (first_file life)
  pub first_elsewhere : (page k : ℕ) → page ≢ life.first_page → life.first_word page k ≡ 0
  pub second_holds : HoldsBytes life.second_word life.second_page (second_file life)
  pub second_elsewhere : (page k : ℕ) → page ≢ life.second_page
      → life.second_word page k ≡ life.first_word page k

-- one step: the disk is valid and this program's, and its files are those after the operation
pub record IsStep (print : Print) (old new : Disk) (op : Op) : Type 0 where
  pub valid : IsValid new
  pub own : IsOwn print new
  pub files_are : IsSameFiles (files new) (after_op (files old) op)

pub record Lives (print : Print) (life : Life) : Type 0 where
  pub creates : IsStep print (empty life) (created life) (Create life.name)
  pub appends : IsStep print (created life) (appended life) (Write life.name 0 (first_text life))
  pub overwrites : IsStep print (appended life) (overwritten life)
      (Write life.name 0 (second_text life))
  pub removes : IsStep print (overwritten life) (removed life) (Remove life.name)
  -- the page of the first write came free with the second
  pub first_freed : IsFree (overwritten life) life.first_page
  -- there are no files at the beginning, and none at the end
  pub none_before : (name : List ℕ) → files (empty life) name ≡ None
  pub none_after : (name : List ℕ) → files (removed life) name ≡ None

abbrev pub FilesLive : Type 0
FilesLive = (print : Print) (life : Life) → IsLife life → Lives print life
