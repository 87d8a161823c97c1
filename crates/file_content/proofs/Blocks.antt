-- The pages to which places of a file are mapped lie in the image.
use Rattle.std.proofs.Common.{◌≡◌, inl, inr, ℕ, ◌<◌, refl, sym, ◌∙◌, ap, subst}
use Rattle.std.specs.Prelude.{Option, Some, None, IfSome}
use Rattle.std.specs.Option.{option_map}
use Rattle.std.specs.Ordering.{nat_cmp}
use Rattle.std.specs.FinMap.{FinMap, get, empty, get-empty}
use Rattle.std.proofs.lemmas.Bool.{cases_eq}
use Rattle.pm_layout.specs.declared.Geometry.{Geometry}
use Rattle.file_index.specs.declared.page_map.Mapping.{Mapping}
use Rattle.file_index.specs.Index.{Index, Puts}
use Rattle.dn_model.specs.Maps.{Mapping as DiskMapping}
use Rattle.dn_model.specs.Disk.{Disk, IsMapped, maps}
use Rattle.dn_model.specs.Valid.{IsValid}
use Rattle.law_write.proofs.MappedPlaces.{maps-in_file}
use Rattle.law_write.proofs.Unread.{read_in_data}
use Rattle.file_content.specs.Content.{IsFileOf, AreBlocksIn, kept}

abbrev IsIn : Geometry → Mapping → Type 0
IsIn g m = m.block < g.pages

pub blocks_in-empty : (g : Geometry) → AreBlocksIn g empty
blocks_in-empty g = record { inside = λ idx. subst (λ (o : Option Mapping). IfSome o (IsIn g)) (sym (get-empty nat_cmp idx)) tt }

-- one place more is mapped, to a page of the image
pub blocks_in-put : (g : Geometry) (old new : Index nat_cmp Mapping) (idx : ℕ) (m : Mapping) → Puts idx m old new → m.block < g.pages
    → AreBlocksIn g old.map → AreBlocksIn g new.map
blocks_in-put g old new idx m puts lt all = record {
  inside = λ q. elim (cases_eq q idx) [
    | inl e ↦ subst (λ (o : Option Mapping). IfSome o (IsIn g)) (sym (ap (get new.map) e ∙ puts.there)) lt
    | inr ne ↦ subst (λ (o : Option Mapping). IfSome o (IsIn g)) (sym (puts.others q ne)) (all.inside q)
  ];
}

-- so it is with a file of a disk
pub blocks_in-file : (d : Disk) (ino size : ℕ) (map : FinMap nat_cmp Mapping) (g : Geometry) → IsFileOf d ino size map → IsValid d → d.geometry ≡ g
    → AreBlocksIn g map
blocks_in-file d ino size map g is valid same = record { inside = λ idx. by_map idx (maps d ino idx) refl }
  where
    mapped : (idx : ℕ) (m : DiskMapping) → maps d ino idx ≡ Some m → IsMapped d m.block
    mapped idx m e = record {
      ino = ino;
      idx = idx;
      maps_to = record {
        in_table = is.in_table;
        in_file = maps-in_file d valid ino idx m is.in_table e;
        by = m;
        is = e;
        block = refl;
      };
    }

    by_map : (idx : ℕ) (m : Option DiskMapping) → maps d ino idx ≡ m → IfSome (get map idx) (λ m. m.block < g.pages)
    by_map idx None e = subst (λ (o : Option Mapping). IfSome o (IsIn g)) (sym (is.places idx ∙ ap (option_map kept) e)) tt
    by_map idx (Some m) e =
        subst (λ (o : Option Mapping). IfSome o (IsIn g)) (sym (is.places idx ∙ ap (option_map kept) e))
        (subst (λ (h : Geometry). m.block < h.pages) same (read_in_data d valid m.block (inl (mapped idx m e))).high)
