-- A cleaned log has replaced the old one: what is kept of inodes and of who holds them.
use Rattle.std.proofs.Common.{◌≡◌, ◌≢◌, inl, inr, ℕ, ◌<◌, ◌≤◌, List, length, sym, ◌∙◌, ap, subst, arith}
use Rattle.std.specs.Prelude.{Some, None, slice_get}
use Rattle.std.specs.Option.{option_map}
use Rattle.std.specs.FinMap.{get}
use Rattle.std.proofs.lemmas.Bool.{cases_eq}
use Rattle.pm_layout.specs.declared.Geometry.{Geometry}
use Rattle.file_content.specs.Content.{kept}
use Rattle.dn_model.specs.Maps.{mapping, size_of}
use Rattle.dn_model.specs.Disk.{Disk, Inode, IsUsed, maps}
use Rattle.law_log_swap.proofs.Relogged.{at_ino, at_other, use_same, same_geometry, maps_others, maps_here}
use Rattle.law_clean.specs.Cleaned.{cleaned_log}
use Rattle.log_replace.specs.CleanedLaws.{MayClean, cleaned_disk}
use Rattle.dn_volume.specs.declared.background.Cleaning.{Cleaning}
use Rattle.dn_volume.specs.declared.volume.InodeState.{InodeState}
use Rattle.dn_volume.specs.declared.volume.Parts.{Parts}
use Rattle.dn_volume.specs.Parties.{Holds}
use Rattle.dn_volume.specs.Inodes.{as_use, IsInodeOf, AreInodesOf, AreHolders}
use Rattle.dn_volume.specs.Cleans.{new_log, IsCleaning}
use Rattle.log_clean.specs.Finishing.{HasNewLog, RelogsOne}
use Rattle.log_clean.proofs.FinishedDisk.{keeps}
use Rattle.log_clean.proofs.Begun.{here_at}
use Rattle.pm_device.specs.State.{State}

module _ (d : Disk) (s : State) (c : Cleaning) (may : MayClean d c.ino c.pages.items) (is : IsCleaning d c s) where
  abbrev e : Disk
  e = cleaned_disk d c.ino c.pages.items

  new_here : (idx : ℕ) → maps e c.ino idx ≡ mapping (new_log d c) idx
  new_here idx = maps_here d c.ino (cleaned_log c.ino (d.inode c.ino).log c.pages.items) may.live idx

  here : (x y : InodeState) → IsInodeOf d c.ino x → HasNewLog (length c.pages.items) c.map x y → IsInodeOf e c.ino y
  here x y was new = record {
    use_is = use_now ∙ was.use_is ∙ ap as_use (sym new.used);
    size_is = λ used. (keeps d c.ino c.pages.items may).sizes c.ino ∙ was.size_is (subst IsUsed use_now used) ∙ sym new.size;
    small = subst (λ (n : ℕ). n ≤ 16777216) (sym new.size) was.small;
    log_pages = λ used.
        ap (λ (n : Inode). length n.log.pages) (at_ino d c.ino (cleaned_log c.ino (d.inode c.ino).log c.pages.items)) ∙ sym new.log_pages;
    places = λ idx. ap (λ (m : _). get m.map idx) new.map_is ∙ is.places idx ∙ ap (option_map kept) (sym (new_here idx));
  }
    where
      use_now : (e.inode c.ino).use_of ≡ (d.inode c.ino).use_of
      use_now = use_same d c.ino (cleaned_log c.ino (d.inode c.ino).log c.pages.items) c.ino

  other : (i : ℕ) (x : InodeState) → i ≢ c.ino → IsInodeOf d i x → IsInodeOf e i x
  other i x ne was = record {
    use_is = ap (λ (n : Inode). n.use_of) same ∙ was.use_is;
    size_is = λ used. ap (λ (n : Inode). size_of n.log) same ∙ was.size_is (subst (λ (n : Inode). IsUsed n.use_of) same used);
    small = was.small;
    log_pages = λ used. ap (λ (n : Inode). length n.log.pages) same ∙ was.log_pages (subst (λ (n : Inode). IsUsed n.use_of) same used);
    places = λ idx. was.places idx ∙ ap (option_map kept)
        (sym (maps_others d c.ino (cleaned_log c.ino (d.inode c.ino).log c.pages.items) i idx ne));
  }
    where
      same : e.inode i ≡ d.inode i
      same = at_other d c.ino (cleaned_log c.ino (d.inode c.ino).log c.pages.items) i ne

  pub inodes_then : (old new : List InodeState) → RelogsOne c old new → AreInodesOf d old → AreInodesOf e new
  inodes_then old new change are = record {
    all = change.all ∙ are.all ∙ ap (λ (g : Geometry). g.inodes) (sym (same_geometry d c.ino (cleaned_log c.ino (d.inode c.ino).log c.pages.items)));
    each = λ i y at. elim (cases_eq i c.ino) [
      | inl same ↦ subst (λ (j : ℕ). IsInodeOf e j y) (sym same)
          (here was.0 y (are.each c.ino was.0 was.1) (change.here was.0 y was.1 (ap (slice_get new) (sym same) ∙ at)))
      | inr ne ↦ other i y ne (are.each i y (sym (change.others i ne) ∙ at))
    ];
  }
    where
      was : (x : InodeState) × (slice_get old c.ino ≡ Some x)
      was = here_at old c.ino (omega (arith, may.in_table, are.all))

-- The inode is held by nobody, and every other one by whom it was. 16 held nothing else.
module _ (d e : Disk) (b b' : Parts) (c : Cleaning) (geometry : e.geometry ≡ d.geometry) (change : RelogsOne c b.inodes.items b'.inodes.items)
    (held : (who ino : ℕ) → Holds b' who ino → Holds b who ino × (ino ≢ c.ino))
    (holds : (who ino : ℕ) → ino ≢ c.ino → Holds b who ino → Holds b' who ino)
    (in_table : c.ino < d.geometry.inodes) (all : length b.inodes.items ≡ d.geometry.inodes) where
  pub holders_then : AreHolders d b → AreHolders e b'
  holders_then was = record {
    told = λ ino who n at. elim (cases_eq ino c.ino) [
      | inl same ↦ (
        (λ holder. absurd (no_holder who n holder (free_now n (ap (slice_get b'.inodes.items) (sym same) ∙ at)))),
        (λ is. absurd ((held who ino is).1 same)),
      )
      | inr ne ↦
          let told = was.told ino who n (sym (change.others ino ne) ∙ at) in
          ((λ holder. holds who ino ne (told.0 holder)), (λ is. told.1 (held who ino is).0))
    ];
    in_table = λ ino who is. subst (λ (g : Geometry). ino < g.inodes) (sym geometry) (was.in_table ino who (held who ino is).0);
  }
    where
      old_here : (x : InodeState) × (slice_get b.inodes.items c.ino ≡ Some x)
      old_here = here_at b.inodes.items c.ino (omega (arith, in_table, all))

      free_now : (n : InodeState) → slice_get b'.inodes.items c.ino ≡ Some n → n.holder ≡ None
      free_now n at = (change.here old_here.0 n old_here.1 at).holder

      no_holder : (who : ℕ) (n : InodeState) → n.holder ≡ Some who → n.holder ≡ None → ⊥
      no_holder who n some none = cc
