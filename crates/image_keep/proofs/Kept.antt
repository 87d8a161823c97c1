-- What is kept of an inode is the disk's.
use Rattle.std.proofs.Common.{◌≡◌, ℕ, Bool, true, false, refl, sym, ◌∙◌, ap, arith}
use Rattle.std.specs.Prelude.{None, nat_lt, if◌then◌else◌}
use Rattle.std.specs.Option.{option_map}
use Rattle.std.specs.Ordering.{nat_cmp}
use Rattle.std.specs.FinMap.{FinMap, get, empty, get-empty}
use Rattle.std.proofs.lemmas.Bool.Decides.{nat_tests}
use Rattle.file_index.specs.declared.page_map.Mapping.{Mapping}
use Rattle.file_content.specs.Content.{kept}
use Rattle.dn_model.specs.Log.{Log}
use Rattle.dn_model.specs.Maps.{mapping}
use Rattle.dn_model.specs.Disk.{Disk, Free, IsUsed, maps, maps_by_use}
use Rattle.dn_volume.specs.declared.volume.InodeUse.{InodeUse}
use Rattle.dn_volume.specs.declared.volume.InodeUse.TheVariants as used
use Rattle.dn_volume.specs.Inodes.{as_use}
use Rattle.image_keep.specs.Needed.{KeepsPlaces}

module _ (log : Log) (old new : FinMap nat_cmp Mapping) (was : (idx : ℕ) → get old idx ≡ option_map kept (mapping log idx)) where
  below_cut : (cut idx : ℕ) (b : Bool) → nat_lt idx cut ≡ b → KeepsPlaces (used.Dying cut) old new → get new idx ≡ option_map kept
      (if b then mapping log idx else None)
  below_cut cut idx true t keeps = keeps.1 idx (grind (arith, nat_tests)) ∙ was idx
  below_cut cut idx false t keeps = keeps.0 idx (grind (arith, nat_tests))

  by_use : (u : InodeUse) → IsUsed (as_use u) → KeepsPlaces u old new → (idx : ℕ) → get new idx ≡ option_map kept (maps_by_use (as_use u) log idx)
  by_use used.Free live keeps idx = absurd live
  by_use used.Live live keeps idx = ap (λ (m : FinMap nat_cmp Mapping). get m idx) keeps ∙ was idx
  by_use (used.Dying cut) live keeps idx = below_cut cut idx (nat_lt idx cut) refl keeps

maps_is : (d : Disk) (ino : ℕ) (u : InodeUse) → (d.inode ino).use_of ≡ as_use u → (idx : ℕ) → maps d ino idx ≡ maps_by_use (as_use u)
    (d.inode ino).log idx
unfolding maps
maps_is d ino u is idx = ap (λ x. maps_by_use x (d.inode ino).log idx) is

pub places_kept : (d : Disk) (ino : ℕ) (u : InodeUse) (old new : FinMap nat_cmp Mapping) → (d.inode ino).use_of ≡ as_use u → IsUsed (as_use u)
    → ((idx : ℕ) → get old idx ≡ option_map kept (mapping (d.inode ino).log idx))
    → KeepsPlaces u old new → (idx : ℕ) → get new idx ≡ option_map kept (maps d ino idx)
places_kept d ino u old new is live was keeps idx = by_use (d.inode ino).log old new was u live keeps idx ∙ ap (option_map kept)
    (sym (maps_is d ino u is idx))

pub places_none : (d : Disk) (ino : ℕ) (new : FinMap nat_cmp Mapping) → (d.inode ino).use_of ≡ Free → new ≡ empty → (idx : ℕ)
    → get new idx ≡ option_map kept (maps d ino idx)
places_none d ino new is none idx = ap (λ (m : FinMap nat_cmp Mapping). get m idx) none ∙ get-empty nat_cmp idx ∙ ap (option_map kept)
    (sym (maps_is d ino used.Free is idx))
