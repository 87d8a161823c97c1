-- The cut of a dying inode fell to its last place: the volume of after.
use Rattle.std.proofs.Common.{◌≡◌, ◌⊎◌, inl, inr, ⊎_elim, ℕ, ◌+◌, ◌≤◌, List, [], length, sym, ◌∙◌, ap, subst, arith}
use Rattle.std.specs.Prelude.{None, IsNone}
use Rattle.std.specs.Option.{option_map}
use Rattle.std.specs.FinMap.{get}
use Rattle.std.proofs.lemmas.Bool.{cases_eq, cases_lt}
use Rattle.pm_layout.specs.Geometry.{inode_word}
use Rattle.file_content.specs.Content.{kept}
use Rattle.dn_model.specs.Maps.{size_of}
use Rattle.dn_model.specs.Table.{Row, row_of}
use Rattle.dn_model.specs.Disk.{Disk, Inode, IsUsed, maps, rows}
use Rattle.dn_model.specs.Counts.{total, IsFree}
use Rattle.law_write.specs.Events.{IsUnused}
use Rattle.law_write.proofs.WriteValid.{not_mapped}
use Rattle.law_table_on_disk.specs.MappingLaws.{LowersCut, UnmapsPlace}
use Rattle.law_table_on_disk.proofs.Remaps.{lowered_cut_unmaps}
use Rattle.law_table_on_disk.specs.OneWord.{IsOneWord}
use Rattle.law_dying.specs.Dying.{Falls, stepped, MayFall, KeepsLiving, DropsPlace as DropsMapping}
use Rattle.law_dying.proofs.Stepped.{at_other, same_geometry}
use Rattle.law_dying.proofs.SteppedDiffers.{stepped_one_word}
use Rattle.law_dying.proofs.SteppedFiles.{living_kept}
use Rattle.law_dying.proofs.Steps.{fall_lowers, fall_steps, fall_drops}
use Rattle.dn_volume.specs.declared.volume.InodeState.{InodeState}
use Rattle.dn_volume.specs.Inodes.{as_use, IsInodeOf, AreInodesOf}
use Rattle.dn_volume.specs.Reclaims.{dying_units}
use Rattle.reclaim.specs.Worked.{FallsTo, ChangesOne}
use Rattle.reclaim.proofs.NodesChanged.{nodes_are}
use Rattle.reclaim.proofs.UnitsLost.{places_less, units_dying, units_move}

-- the disk of after
module _ (d : Disk) (ino cut : ℕ) (may : MayFall d ino cut) where
  abbrev e : Disk
  e = stepped d ino (Falls cut)

  pub fall_one : IsOneWord d e 0 [] (inode_word ino 3) cut
  fall_one = stepped_one_word d ino (Falls cut) (fall_steps d ino cut may)

  pub fall_living : KeepsLiving d e ino
  fall_living = living_kept d ino (Falls cut) (fall_steps d ino cut may)

  abbrev lowers : LowersCut ino cut may.before d e
  lowers = fall_lowers d ino cut may

  unmaps : UnmapsPlace ino cut d e
  unmaps = lowered_cut_unmaps ino cut may.before d e lowers

  abbrev drops : DropsMapping d e may.by.block
  drops = fall_drops d ino cut may

  -- its places
  pub place_here : (idx : ℕ) (x y : InodeState) → IsInodeOf d ino x → FallsTo cut x y → get y.map.map idx ≡ option_map kept (maps e ino idx)
  place_here idx x y is falls = elim (cases_lt idx cut) [
    | inl low ↦ falls.map.below idx low ∙ is.places idx ∙ ap (option_map kept)
        (sym (unmaps.remaps.other_places idx (λ same. omega (arith, low, same))))
    | inr high ↦ falls.map.gone idx high ∙ ap (option_map kept) (sym (past idx high))
  ]
    where
      past : (j : ℕ) → cut ≤ j → maps e ino j ≡ None
      past j high = elim (cases_eq j cut) [
        | inl same ↦ ap (maps e ino) same ∙ unmaps.gone
        | inr ne ↦ unmaps.remaps.other_places j ne ∙ lowers.greatest j (omega (arith, high, ne))
      ]

  here : (x y : InodeState) → IsInodeOf d ino x → FallsTo cut x y → IsInodeOf e ino y
  here x y is falls = record {
    use_is = lowers.now ∙ sym (ap as_use falls.used_is);
    size_is = λ used. ap (λ (n : _). size_of n) lowers.same_log ∙ is.size_is (subst IsUsed (sym may.dying) tt) ∙ sym falls.size;
    small = subst (λ (n : ℕ). n ≤ 16777216) (sym falls.size) is.small;
    log_pages = λ used. ap (λ (n : _). length n.pages) lowers.same_log ∙ is.log_pages (subst IsUsed (sym may.dying) tt) ∙ sym falls.log_pages;
    places = λ idx. place_here idx x y is falls;
  }

  pub fall_nodes : (old new : List InodeState) → ChangesOne (FallsTo cut) ino old new → AreInodesOf d old → AreInodesOf e new
  fall_nodes old new change are = nodes_are (FallsTo cut) ino old new change (omega (arith, may.in_table, are.all)) d e are
      (same_geometry d ino (Falls cut))
      (at_other d ino (Falls cut)) fall_living.maps_others here

  -- four units of work less
  pub fall_units : total e.geometry.inodes (dying_units e) + 4 ≡ total d.geometry.inodes (dying_units d)
  fall_units =
      let less = places_less d e ino cut may.by lowers.in_file may.mapped unmaps.gone unmaps.remaps.other_places in
      let moved = units_move d e ino may.in_table lowers.inodes (λ i ne. ap (λ (n : Inode). n.use_of) (at_other d ino (Falls cut) i ne))
      fall_living.maps_others in
      let before = units_dying d ino may.before may.dying in
      let after = units_dying e ino cut lowers.now in
      omega (arith, less, moved, before, after)

  -- the page, once it has no row
  pub fall_freed : IsNone (row_of (rows d) may.by.block) → (page : ℕ) → IsUnused d page ⊎ (page ≡ may.by.block) → IsUnused e page
  fall_freed none page is = record {
    free = ⊎_elim (λ (was : IsUnused d page). fall_living.free_kept page was.free) (λ (same : page ≡ may.by.block). subst (IsFree e) (sym same)
        (drops.freed none)) is;
    no_row = subst (λ (rs : List Row). IsNone (row_of rs page)) (sym fall_living.rows_same)
        (⊎_elim (λ (was : IsUnused d page). was.no_row) (λ (same : page ≡ may.by.block). subst (λ (p : ℕ). IsNone (row_of (rows d) p)) (sym same)
        none) is);
  }

  pub fall_before : (page : ℕ) → IsUnused e page → IsUnused d page ⊎ (page ≡ may.by.block)
  fall_before page is = ⊎_elim
      (λ free. inl (record { free = free; no_row = subst (λ (rs : List Row). IsNone (row_of rs page)) fall_living.rows_same is.no_row }))
      (λ same. inr same) (drops.free_only page is.free)

  pub fall_used : (page : ℕ) → page ≡ may.by.block → IsUnused d page → ⊥
  fall_used page same unused = not_mapped d page unused
      (record {
        ino = ino;
        idx = cut;
        maps_to = record {
          in_table = may.in_table;
          in_file = lowers.in_file;
          by = may.by;
          is = may.mapped;
          block = sym same;
        };
      })
