-- The operations on names: what each stands on, and the change that it makes.
use Rattle.std.specs.Prelude.{
  ◌≡◌,
  ◌≢◌,
  ℕ,
  ◌<◌,
  ◌≤◌,
  if◌then◌else◌,
  List,
  [],
  ◌∷◌,
  Option,
  Some,
  None,
}
use Rattle.log_entry.specs.Name.{IsLegal, same_name}
use Rattle.log_entry.specs.declared.item.LogItem.TheVariants.{Add, Forget}
use Rattle.dn_model.specs.Disk.{Disk, Free}
use Rattle.dn_model.specs.Files.{named}
use Rattle.law_names.specs.NameChange.{NameChange, Stays, Comes, Goes, MayGrowRoot, names_changed}

-- a name gets a new file
abbrev pub creation : List ℕ → ℕ → List ℕ → NameChange
creation name ino fresh = record {
  fresh = fresh;
  more = Add ino name ∷ [];
  ino = ino;
  turn = Comes;
}

abbrev pub created_disk : Disk → List ℕ → ℕ → List ℕ → Disk
created_disk d name ino fresh = names_changed d (creation name ino fresh)

pub record MayCreate (d : Disk) (name : List ℕ) (ino : ℕ) (fresh : List ℕ) : Type 0 where
  pub root : MayGrowRoot d fresh (Add ino name ∷ [])
  pub legal : IsLegal name
  pub unnamed : named d name ≡ None
  pub file : 1 ≤ ino
  pub in_table : ino < d.geometry.inodes
  pub free : (d.inode ino).use_of ≡ Free

-- the file that a name leads to is dying
abbrev pub removal : List ℕ → ℕ → List ℕ → NameChange
removal name ino fresh = record { fresh = fresh; more = Forget name ∷ []; ino = ino; turn = Goes }

abbrev pub unnamed_disk : Disk → List ℕ → ℕ → List ℕ → Disk
unnamed_disk d name ino fresh = names_changed d (removal name ino fresh)

pub record MayRemove (d : Disk) (name : List ℕ) (ino : ℕ) (fresh : List ℕ) : Type 0 where
  pub root : MayGrowRoot d fresh (Forget name ∷ [])
  pub legal : IsLegal name
  pub leads : named d name ≡ Some ino

-- a file gets another name; the file that had that name, if there is one, is dying
abbrev pub renaming : List ℕ → List ℕ → ℕ → Option ℕ → List ℕ → NameChange
renaming from to ino None fresh = record {
  fresh = fresh;
  more = Forget from ∷ Add ino to ∷ [];
  ino = ino;
  turn = Stays;
}
renaming from to ino (Some other) fresh = record {
  fresh = fresh;
  more = Forget from ∷ Add ino to
      ∷ [];
  ino = other;
  turn = Goes;
}

abbrev pub renamed_disk : Disk → List ℕ → List ℕ → ℕ → Option ℕ → List ℕ → Disk
renamed_disk d from to ino replaced fresh = names_changed d (renaming from to ino replaced fresh)

pub record MayRename (d : Disk) (from to : List ℕ) (ino : ℕ) (replaced : Option ℕ) (fresh : List ℕ)
    : Type 0 where
  pub root : MayGrowRoot d fresh (Forget from ∷ Add ino to ∷ [])
  pub legal_from : IsLegal from
  pub legal_to : IsLegal to
  pub apart : from ≢ to
  pub leads : named d from ≡ Some ino
  pub replaces : named d to ≡ replaced

-- names with this one leading there
abbrev pub with_name : (List ℕ → Option ℕ) → List ℕ → Option ℕ → List ℕ → Option ℕ
with_name f name found other = if same_name name other then found else f other
