-- The files after an operation on names are those of the map after it.
use Rattle.std.proofs.Common.{◌≡◌, ℕ, Bool, true, false, List, [], refl, sym, ◌∙◌, ap, subst}
use Rattle.std.specs.Prelude.{if◌then◌else◌, Option, Some, None}
use Rattle.std.specs.Option.{option_map}
use Rattle.log_entry.specs.Name.{same_name}
use Rattle.dn_model.specs.Disk.{Disk, IsUsed}
use Rattle.dn_model.specs.Files.{bytes, named, files, IsSameFiles}
use Rattle.dn_model.specs.Apply.{after_op}
use Rattle.dn_model.specs.declared.op.Op.TheVariants.{Create, Remove, Rename}
use Rattle.law_names.specs.NameChange.{NameChange, names_changed, MayChange}
use Rattle.law_names.specs.Operations.{creation, removal, renaming, MayCreate, MayRemove, MayRename}
use Rattle.law_names.proofs.ChangedFiles.{bytes_same, no_bytes}
use Rattle.law_names.proofs.Operating.{named_file, named_live, named_created, named_removed, named_renamed, may_create, may_remove, may_rename}

module _ (d : Disk) (change : NameChange) (may : MayChange d change) where
  -- the files that there were have their bytes
  pub files_named : (name : List ℕ) → option_map (bytes (names_changed d change)) (named d name) ≡ files d name
  files_named name = by_found (named d name) refl
    where
      by_found : (r : Option ℕ) → named d name ≡ r → option_map (bytes (names_changed d change)) r ≡ option_map (bytes d) r
      by_found None e = refl
      by_found (Some i) e = ap Some (bytes_same d change may i (named_file d may.root.valid name i e).0
          (subst IsUsed (sym (named_live d may.root.valid name i e)) tt))

pub files_created : (d : Disk) (name : List ℕ) (ino : ℕ) (fresh : List ℕ) → MayCreate d name ino fresh
    → IsSameFiles (files (names_changed d (creation name ino fresh))) (after_op (files d) (Create name))
files_created d name ino fresh may other = ap (option_map (bytes (names_changed d (creation name ino fresh))))
    (named_created d name ino fresh may other) ∙ by_test (same_name name other)
  where
    by_test : (b : Bool) → option_map (bytes (names_changed d (creation name ino fresh))) (if b then Some ino else named d other) ≡
        (if b then Some [] else files d other)
    by_test true = ap Some (no_bytes d (creation name ino fresh) (may_create d name ino fresh may) refl)
    by_test false = files_named d (creation name ino fresh) (may_create d name ino fresh may) other

pub files_removed : (d : Disk) (name : List ℕ) (ino : ℕ) (fresh : List ℕ) → MayRemove d name ino fresh
    → IsSameFiles (files (names_changed d (removal name ino fresh))) (after_op (files d) (Remove name))
files_removed d name ino fresh may other = ap (option_map (bytes (names_changed d (removal name ino fresh))))
    (named_removed d name ino fresh may other) ∙ by_test (same_name name other)
  where
    by_test : (b : Bool) → option_map (bytes (names_changed d (removal name ino fresh))) (if b then None else named d other) ≡
        (if b then None else files d other)
    by_test true = refl
    by_test false = files_named d (removal name ino fresh) (may_remove d name ino fresh may) other

pub files_renamed : (d : Disk) (from to : List ℕ) (ino : ℕ) (replaced : Option ℕ) (fresh : List ℕ) → MayRename d from to ino replaced fresh
    → IsSameFiles (files (names_changed d (renaming from to ino replaced fresh))) (after_op (files d) (Rename from to))
files_renamed d from to ino replaced fresh may other =
    ap (option_map (bytes (names_changed d (renaming from to ino replaced fresh)))) (named_renamed d from to ino replaced fresh other) ∙ by_test
    (same_name to other) (same_name from other)
  where
    stays : (name : List ℕ) → option_map (bytes (names_changed d (renaming from to ino replaced fresh))) (named d name) ≡ files d name
    stays = files_named d (renaming from to ino replaced fresh) (may_rename d from to ino replaced fresh may)

    by_test : (b c : Bool) → option_map (bytes (names_changed d (renaming from to ino replaced fresh))) (if b then Some ino else if c then None else
        named d other) ≡ (if b then files d from else if c then None else files d other)
    by_test true c = ap (option_map (bytes (names_changed d (renaming from to ino replaced fresh)))) (sym may.leads) ∙ stays from
    by_test false true = refl
    by_test false false = stays other
