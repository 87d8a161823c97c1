-- What is kept in memory of a dying inode is the disk's: its last place, or that it has none.
use Rattle.std.proofs.Common.{◌≡◌, inl, inr, ⊎_elim, ℕ, ◌<◌, ◌≤◌, Bool, false, List, length, refl, sym, ◌∙◌, ap, arith}
use Rattle.std.specs.Prelude.{slice_get, Option, Some, None, nat_lt, if◌then◌else◌, Contains}
use Rattle.std.specs.Option.{option_map}
use Rattle.std.specs.FinMap.{get}
use Rattle.std.proofs.lemmas.Bool.{cases_lt}
use Rattle.std.proofs.lemmas.Bool.Decides.{nat_tests}
use Rattle.std.proofs.lemmas.Option.{slice_get_cases}
use Rattle.pm_device.specs.State.{State}
use Rattle.file_content.specs.Content.{kept}
use Rattle.file_index.specs.declared.page_map.Mapping.{Mapping as KeptMapping}
use Rattle.dn_model.specs.Maps.{Mapping, mapping}
use Rattle.dn_model.specs.Table.{Row}
use Rattle.dn_model.specs.Disk.{Disk, Use, Dying, maps, maps_by_use}
use Rattle.dn_model.specs.Counts.{total}
use Rattle.law_write.proofs.Counting.{total-zero}
use Rattle.law_write.proofs.MappedPlaces.{maps-in_file}
use Rattle.law_write.proofs.Unread.{read_in_data}
use Rattle.law_write.proofs.WriteValid.{not_mapped}
use Rattle.law_dying.specs.Dying.{MayFall, MayEnd}
use Rattle.fact_table.specs.Table.{HasNoneOf, IsOfPage}
use Rattle.dn_volume.specs.declared.volume.InodeState.{InodeState}
use Rattle.dn_volume.specs.declared.volume.InodeUse.{InodeUse}
use Rattle.dn_volume.specs.declared.volume.InodeUse.TheVariants as used
use Rattle.dn_volume.specs.declared.volume.Parts.{Parts}
use Rattle.dn_volume.specs.Inodes.{as_use}
use Rattle.dn_volume.specs.Reclaims.{units_by_use, mapped_places, dying_units, IsRaised}
use Rattle.dn_volume.specs.Agrees.{IsVolume}
use Rattle.reclaim.specs.Dying.{IsLastOf, IsUnmapped, IsAt, IsDying}
use Rattle.reclaim.proofs.NodesChanged.{there_at}
use Rattle.reclaim.proofs.UnitsLost.{units_dying, units_some, places_some}

-- a place that is kept is mapped on the disk, and one that isn't isn't
some_kept : (o : Option Mapping) (k : KeptMapping) → option_map kept o ≡ Some k → (m : Mapping) × (o ≡ Some m) × (m.block ≡ k.block)
some_kept None k is = cc
some_kept (Some m) k is = (m, refl, ap block_of is)
  where
    block_of : Option KeptMapping → ℕ
    block_of None = 0
    block_of (Some x) = x.block

none_kept : (o : Option Mapping) → option_map kept o ≡ None → o ≡ None
none_kept None is = refl
none_kept (Some m) is = cc

no_node : (x : InodeState) (r : Option InodeState) → r ≡ None → r ≡ Some x → ⊥
no_node x r none some = cc

pub inside_list : (xs : List InodeState) (k : ℕ) (x : InodeState) → slice_get xs k ≡ Some x → k < length xs
inside_list xs k x is = ⊎_elim (λ found. found.1) (λ past. absurd (no_node x (slice_get xs k) past.1 is)) (slice_get_cases xs k).1

-- from the cut on nothing is mapped
past_cut : (d : Disk) (ino cut idx : ℕ) → (d.inode ino).use_of ≡ Dying cut → cut ≤ idx → maps d ino idx ≡ None
unfolding maps
past_cut d ino cut idx dying le = ap (λ (u : Use). maps_by_use u (d.inode ino).log idx) dying ∙ ap (λ (b : Bool). if b then mapping (d.inode ino).log
    idx else None) (test idx cut le)
  where
    test : (a b : ℕ) → b ≤ a → nat_lt a b ≡ false
    test a b le = grind (arith, nat_tests)

-- the last place of a dying inode, on the disk
pub record IsLastPlace (d : Disk) (ino place page : ℕ) : Type 0 where
  pub in_table : ino < d.geometry.inodes
  pub before : ℕ
  pub dying : (d.inode ino).use_of ≡ Dying before
  pub by : Mapping
  pub mapped : maps d ino place ≡ Some by
  pub greatest : (idx : ℕ) → place < idx → idx < before → maps d ino idx ≡ None
  pub block : by.block ≡ page

module _ (d : Disk) (b : Parts) (s : State) (v : IsVolume d b s) (ino : ℕ) where
  in_table_of : (x : InodeState) → slice_get b.inodes.items ino ≡ Some x → ino < d.geometry.inodes
  in_table_of x there = let lt = inside_list b.inodes.items ino x there in omega (arith, lt, v.inodes.all)

  dying_of : (x : InodeState) (cut : ℕ) → slice_get b.inodes.items ino ≡ Some x → x.used ≡ used.Dying cut → (d.inode ino).use_of ≡ Dying cut
  dying_of x cut there dying = (v.inodes.each ino x there).use_is ∙ ap as_use dying

  unmapped_of : (x : InodeState) (idx : ℕ) → slice_get b.inodes.items ino ≡ Some x → get x.map.map idx ≡ None → maps d ino idx ≡ None
  unmapped_of x idx there none = none_kept (maps d ino idx) (sym ((v.inodes.each ino x there).places idx) ∙ none)

  pub last_place : (place page : ℕ) → IsAt (λ n. IsLastOf n place page) b.inodes.items ino → IsLastPlace d ino place page
  last_place place page at =
      let found = some_kept (maps d ino place) at.has.mapping (sym ((v.inodes.each ino at.node at.there).places place) ∙ at.has.mapped) in
      record {
        in_table = in_table_of at.node at.there;
        before = at.has.cut;
        dying = dying_of at.node at.has.cut at.there at.has.dying;
        by = found.0;
        mapped = found.1;
        greatest = λ idx low high. unmapped_of at.node idx at.there (at.has.last.between idx low high);
        block = found.2 ∙ at.has.block;
      }

  pub may_end : IsAt IsUnmapped b.inodes.items ino → MayEnd d ino
  may_end at = record {
    valid = v.fast.valid;
    in_table = in_table_of at.node at.there;
    before = at.has.cut;
    dying = dying_of at.node at.has.cut at.there at.has.dying;
    unmapped = λ j. elim (cases_lt j at.has.cut) [
      | inl low ↦ unmapped_of at.node j at.there (at.has.none j low)
      | inr high ↦ past_cut d ino at.has.cut j (dying_of at.node at.has.cut at.there at.has.dying) high
    ];
  }

  module _ (place page : ℕ) (last : IsLastPlace d ino place page) where
    pub in_file : place < 4096
    in_file = maps-in_file d v.fast.valid ino place last.by last.in_table last.mapped

    -- its page lies in the image, and isn't free
    pub page_inside : page < d.geometry.pages
    page_inside = (read_in_data d v.fast.valid page
        (inl (record {
          ino = ino;
          idx = place;
          maps_to = record {
            in_table = last.in_table;
            in_file = in_file;
            by = last.by;
            is = last.mapped;
            block = last.block;
          };
        }))).high

    pub page_used : Contains b.free.free page → ⊥
    page_used free = not_mapped d page ((v.space.free page).0 free).0
        (record {
          ino = ino;
          idx = place;
          maps_to = record {
            in_table = last.in_table;
            in_file = in_file;
            by = last.by;
            is = last.mapped;
            block = last.block;
          };
        })

    -- five units of work are for it
    pub five_wait : 5 ≤ total d.geometry.inodes (dying_units d)
    five_wait = let some = places_some d ino place last.by in_file last.mapped in omega (
      arith,
      units_some d ino last.in_table,
      units_dying d ino
          last.before last.dying,
      some,
    )

    abbrev pub may_fall : HasNoneOf d page → MayFall d ino place
    may_fall none = record {
      valid = v.fast.valid;
      in_table = last.in_table;
      before = last.before;
      dying = last.dying;
      by = last.by;
      mapped = last.mapped;
      greatest = last.greatest;
      counted = λ row has page_is. absurd (none row has (page_is ∙ last.block));
    }

    pub is_raised : (row : Row) → IsOfPage d page row → IsRaised d (record { ino = ino; place = place; slot = row.slot })
    is_raised row is = record {
      in_table = last.in_table;
      before = last.before;
      dying = last.dying;
      by = last.by;
      mapped = last.mapped;
      greatest = last.greatest;
      row = row;
      at_slot = record { there = is.there; slot_is = refl };
      page = last.block ∙ sym is.page_is;
    }

-- where no inode is dying, no work is for any
module _ (d : Disk) (b : Parts) (s : State) (v : IsVolume d b s) (none : (i : ℕ) → IsDying b.inodes.items i → ⊥) where
  by_use : (i : ℕ) (x : InodeState) → slice_get b.inodes.items i ≡ Some x → (u : InodeUse) → x.used ≡ u → units_by_use (as_use u) (mapped_places d i)
      ≡ 0
  by_use i x there used.Free is = refl
  by_use i x there used.Live is = refl
  by_use i x there (used.Dying cut) is = absurd (none i (record { node = x; there = there; has = record { cut = cut; dying = is } }))

  no_units : (i : ℕ) → i < d.geometry.inodes → dying_units d i ≡ 0
  no_units i lt =
      let at = there_at b.inodes.items i (omega (arith, lt, v.inodes.all)) in
      ap (λ (u : Use). units_by_use u (mapped_places d i)) (v.inodes.each i at.0 at.1).use_is ∙ by_use i at.0 at.1 at.0.used refl

  pub none_wait : total d.geometry.inodes (dying_units d) ≡ 0
  none_wait = total-zero (dying_units d) d.geometry.inodes no_units
