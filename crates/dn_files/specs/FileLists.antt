-- Files as a list, by name.
use Rattle.std.specs.Prelude.{
  ◌≡◌,
  ℕ,
  ◌<◌,
  ◌≤◌,
  if◌then◌else◌,
  List,
  [],
  ◌∷◌,
  length,
  Some,
  None,
  AllPairs,
}
use Rattle.std.specs.List.{AllWithin, HoldsAt}
use Rattle.std.specs.Ordering.{nat_cmp}
use Rattle.std.specs.Cmp.Lexicographic.{slice_cmp}
use Rattle.std.specs.declared.cmp.Ordering.TheVariants.{Less}
use Rattle.log_entry.specs.Name.{same_name}
use Rattle.dn_model.specs.Files.{Files, IsSameFiles}
use Rattle.dn_model.specs.Apply.{Replies, IsGranted, after_op}
use Rattle.dn_model.specs.declared.op.Op.{Op}
use Rattle.dn_model.specs.declared.op.Reply.{Reply}
use Rattle.dn_files.specs.declared.files.FileText.{FileText}

-- the map from names to bytes that a list of files is
abbrev pub files_of : List FileText → Files
files_of [] name = None
files_of (file ∷ rest) name = if same_name file.name name then Some file.bytes else files_of rest
    name

-- the names rise in the order of their bytes
abbrev pub AreRising : List FileText → Type 0
AreRising list = AllPairs (λ a b. slice_cmp nat_cmp a.name b.name ≡ Less) list

-- the file at a place has the name
pub record IsFileAt (list : List FileText) (name : List ℕ) (at : ℕ) : Type 0 where
  pub within : at < length list
  pub name_is : HoldsAt (λ file. file.name ≡ name) list at

-- no file has the name, and one that had it would go to this place
pub record IsPlaceFor (list : List FileText) (name : List ℕ) (at : ℕ) : Type 0 where
  pub within : at ≤ length list
  pub lower : AllWithin (λ file. slice_cmp nat_cmp file.name name ≡ Less) list 0 at
  pub higher : AllWithin (λ file. slice_cmp nat_cmp name file.name ≡ Less) list at (length list)

-- What an operation answers, without want of room, and what it makes of the files: a refusal leaves
-- them.
pub record Applies (old new : List FileText) (op : Op) (reply : Reply) : Type 0 where
  pub replies : Replies (files_of old) op reply
  pub granted : IsGranted (files_of old) op
      → IsSameFiles (files_of new) (after_op (files_of old) op)
  pub refused : (IsGranted (files_of old) op → ⊥) → new ≡ old
