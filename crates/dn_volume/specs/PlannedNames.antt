-- What a creation, a removal or a renaming in flight was planned to do, as the disk has it.
use Rattle.std.specs.Prelude.{◌≡◌, ◌≢◌, ℕ, List, [], ◌∷◌, Option, Some, None}
use Rattle.log_entry.specs.Name.{IsLegal}
use Rattle.dn_model.specs.Disk.{Disk, Free}
use Rattle.dn_model.specs.Files.{named}
use Rattle.dn_model.specs.declared.op.Op.{Op}
use Rattle.dn_model.specs.declared.op.Op.TheVariants.{
  Create,
  Write,
  Read,
  Cut,
  Remove,
  Rename,
  Size,
  List as ListAll,
}
use Rattle.law_names.specs.NameChange.{NameChange as DiskChange}
use Rattle.law_names.specs.Operations.{creation, removal, renaming}
use Rattle.dn_volume.specs.declared.flight.Flight.{Flight}

-- the inode that a name leads to, if it leads anywhere
abbrev pub inode_list : Option ℕ → List ℕ
inode_list None = []
inode_list (Some ino) = ino ∷ []

-- a new file, a file that goes, and a file that gets another name
pub record PlansCreate (d : Disk) (f : Flight) (name : List ℕ) (change : DiskChange) : Type 0 where
  pub legal : IsLegal name
  pub unnamed : named d name ≡ None
  pub free : (d.inode change.ino).use_of ≡ Free
  pub held : f.held.items ≡ 0 ∷ change.ino ∷ []
  pub is : change ≡ creation name change.ino f.fresh.items

pub record PlansRemove (d : Disk) (f : Flight) (name : List ℕ) (change : DiskChange) : Type 0 where
  pub held : f.held.items ≡ 0 ∷ change.ino ∷ []
  pub legal : IsLegal name
  pub leads : named d name ≡ Some change.ino
  pub is : change ≡ removal name change.ino f.fresh.items

pub record PlansRename (d : Disk) (f : Flight) (from to : List ℕ) (change : DiskChange) : Type 0
  where
    pub legal_from : IsLegal from
    pub legal_to : IsLegal to
    pub apart : from ≢ to
    pub ino : ℕ
    pub leads : named d from ≡ Some ino
    pub replaced : Option ℕ
    pub replaces : named d to ≡ replaced
    pub held : f.held.items ≡ 0 ∷ ino ∷ inode_list replaced
    pub is : change ≡ renaming from to ino replaced f.fresh.items

abbrev pub PlansNames : Disk → Flight → DiskChange → Op → Type 0
PlansNames d f change (Create name) = PlansCreate d f name change
PlansNames d f change (Write name at text) = ⊥
PlansNames d f change (Read name at count) = ⊥
PlansNames d f change (Cut name to) = ⊥
PlansNames d f change (Remove name) = PlansRemove d f name change
PlansNames d f change (Rename from to) = PlansRename d f from to change
PlansNames d f change (Size name) = ⊥
PlansNames d f change ListAll = ⊥

-- the name that the index of names gets by an operation
abbrev pub name_put : Op → Option (List ℕ)
name_put (Create name) = Some name
name_put (Write name at text) = None
name_put (Read name at count) = None
name_put (Cut name to) = None
name_put (Remove name) = None
name_put (Rename from to) = Some to
name_put (Size name) = None
name_put ListAll = None
