-- The place that is to be mapped to the page of the row that was raised for it.
use Rattle.std.proofs.Common.{◌≡◌, ◌≢◌, inl, inr, ℕ, ◌+◌, ◌-◌, ◌*◌, ◌<◌, ◌≤◌, List, [], ◌∷◌, length, refl, sym, ◌∙◌, ap, subst, arith}
use Rattle.std.specs.Prelude.{Option, Some, None, IsNone, Contains, slice_get, slice_index}
use Rattle.std.specs.Option.{option_map}
use Rattle.std.specs.FinMap.{get}
use Rattle.pm_device.specs.State.{State}
use Rattle.pm_layout.specs.declared.Geometry.{Geometry}
use Rattle.pm_layout.specs.Geometry.{inode_word, slots}
use Rattle.file_index.specs.declared.page_map.Mapping.{Mapping as KeptMapping}
use Rattle.file_content.specs.Content.{kept}
use Rattle.page_alloc.specs.Free.{FreePages}
use Rattle.dn_model.specs.Log.{count, tail_at, at_tail}
use Rattle.dn_model.specs.Maps.{Mapping}
use Rattle.dn_model.specs.Table.{Row, row_of}
use Rattle.dn_model.specs.Disk.{Disk, IsMapped, Live, IsUsed, maps, rows, of_logs}
use Rattle.dn_model.specs.Counts.{mappings, IsFree}
use Rattle.dn_model.specs.Own.{page_bytes}
use Rattle.law_write.specs.Events.{IsUnused}
use Rattle.law_write.proofs.MappedPlaces.{maps-in_file}
use Rattle.law_write.proofs.WriteValid.{mapped_counts}
use Rattle.law_table.proofs.Rows.{distinct_same, none_listed}
use Rattle.law_share.specs.Sharing.{MayShare, was_free, was_place}
use Rattle.fact_table.specs.Table.{IsAtSlot}
use Rattle.fact_counts.proofs.Counting.{row_small}
use Rattle.dn_volume.specs.declared.units.TheConstants.{END_UNITS, PLACE_UNITS, LOOK_UNITS, REMAP_UNITS}
use Rattle.dn_volume.specs.declared.background.Sharing.{Sharing}
use Rattle.dn_volume.specs.declared.background.SharingStep.{SharingStep}
use Rattle.dn_volume.specs.declared.background.SharingStep.TheVariants.{Remap}
use Rattle.dn_volume.specs.declared.volume.InodeState.{InodeState}
use Rattle.dn_volume.specs.declared.volume.Parts.{Parts}
use Rattle.dn_volume.specs.Balance.{times, raised_at, raised_to_share, raised}
use Rattle.dn_volume.specs.Shares.{IsAtStep, IsBegun, IsToRemap}
use Rattle.dn_volume.specs.Reserve.{units_to_share, units_spent}
use Rattle.dn_volume.specs.Cleans.{IsLeft}
use Rattle.dn_volume.specs.Agrees.{IsVolume}
use Rattle.dn_volume.proofs.RowSlots.{balance_at}
use Rattle.dn_volume.proofs.Tables.{is_table}
use Rattle.dn_volume.proofs.Times.{times_first}
use Rattle.reclaim.proofs.NodesChanged.{same_some}
use Rattle.dedupe_daemon.specs.declared.remap.NewPlace.{NewPlace}
use Rattle.dedupe_daemon.specs.Remapped.{IsNewPlace, taken_pages, TakesFor}
use Rattle.dedupe_daemon.proofs.ShareTaken.{AreTaken, are_taken, left_apart, has_room}

-- a page that is left is unused
left_unused : (d : Disk) (b : Parts) (s : State) → IsVolume d b s → (p : ℕ) → IsLeft b p → IsUnused d p
left_unused d b s v p (inl has) = ((v.space.free p).0 has).0
left_unused d b s v p (inr took) = v.space.unused p (λ none. let his = v.space.takes 16 p took in omega (arith, his, none))

pub no_mapping : (o : Option KeptMapping) (m : KeptMapping) → o ≡ None → o ≡ Some m → ⊥
no_mapping o m none some = cc

module _ (d : Disk) (b : Parts) (s : State) (v : IsVolume d b s) (sharing : Sharing) (begun : b.sharing ≡ Some sharing) (slot : ℕ)
    (step : sharing.step ≡ Remap slot) where
  pub to_remap : IsToRemap d sharing slot
  to_remap = subst (IsAtStep d sharing) step (v.sharing sharing begun).step

  pub remap_begun : IsBegun d sharing
  remap_begun = (v.sharing sharing begun).begun

  abbrev ino : ℕ
  ino = sharing.work.ino

  abbrev idx : ℕ
  idx = sharing.first + sharing.done

  pub idx_small : idx < 4096
  idx_small = maps-in_file d v.fast.valid ino idx to_remap.by remap_begun.in_table to_remap.mapped

  pub row_slot_small : slot < slots b.fact.geometry
  row_slot_small = row_small d s.now b.fact (is_table d b s v) slot to_remap.row to_remap.at_slot

  pub node_there : ino < length b.inodes.items
  node_there = omega (arith, remap_begun.in_table, v.inodes.all)

  pub ino_in : ino < b.geometry.inodes
  ino_in = subst (λ (g : Geometry). ino < g.inodes) v.fast.geometry remap_begun.in_table

  -- what is kept of the place
  pub kept_at : (n : InodeState) → slice_get b.inodes.items ino ≡ Some n → get n.map.map idx ≡ Some (kept to_remap.by)
  kept_at n at = (v.inodes.each ino n at).places idx ∙ ap (option_map kept) to_remap.mapped

  pub one_row : (r : Row) → IsAtSlot d slot r → r ≡ to_remap.row
  one_row r at = distinct_same (λ (x : Row). x.slot) (rows d) v.fast.valid.rows_apart.slot r to_remap.row at.there to_remap.at_slot.there
      (at.slot_is ∙ sym to_remap.at_slot.slot_is)

  used : IsUsed (d.inode ino).use_of
  used = subst IsUsed (sym remap_begun.live) tt

  pub place_found : (n : InodeState) → slice_get b.inodes.items ino ≡ Some n → (m : KeptMapping) → get n.map.map idx ≡ Some m → (r : Row)
      → IsAtSlot d slot r → (tail : ℕ) → tail ≡ slice_index s.now (inode_word ino 2)
      → IsNewPlace d sharing slot (record { ino = ino; idx = idx; was = m.block; page = r.page; size = n.size; tail = tail })
  place_found n at m is r at_slot tail read = record {
    ino = refl;
    idx = refl;
    by = to_remap.by;
    mapped = to_remap.mapped;
    was = ap (λ (x : KeptMapping). x.block) (same_some (get n.map.map idx) (kept to_remap.by) m (kept_at n at) is);
    row = r;
    at_slot = at_slot;
    page = refl;
    size = (v.inodes.each ino n at).size_is used;
    tail = sym (v.fast.stands.reads (inode_word ino 2) (tail_at (d.inode ino).log.pages (count (d.inode ino).log))
        (of_logs (record { ino = ino; in_table = remap_begun.in_table; used = used; says = at_tail refl refl }))) ∙ sym read;
  }

  -- what it is owed is there
  units_was : units_to_share b.sharing ≡ END_UNITS + PLACE_UNITS * (sharing.count - sharing.done) - LOOK_UNITS
  units_was = ap (λ (r : Option Sharing). units_to_share r) begun ∙ ap (λ (st : SharingStep). END_UNITS + PLACE_UNITS
      * (sharing.count - sharing.done) - units_spent st) step

  pub remap_owes : REMAP_UNITS ≤ b.owed.units
  remap_owes = omega (arith, v.room.owes.units, units_was, to_remap.some)

  pub remap_spare : REMAP_UNITS ≤ s.spare
  remap_spare = omega (arith, remap_owes, v.room.units)

  pub some_free : b.free.free ≢ []
  some_free none = let long = ap (λ (ps : List ℕ). length ps) none in omega (arith, long, v.space.some)

  raised_one : 1 ≤ raised b slot
  raised_one =
      let shared : times slot (raised_to_share b.sharing) ≡ times slot (slot ∷ []) = ap (λ (r : Option Sharing). times slot (raised_to_share r))
      begun
      ∙ ap (λ (st : SharingStep). times slot (raised_at st)) step in
      omega (arith, shared, times_first slot [])

  module _ (n : NewPlace) (is : IsNewPlace d sharing slot n) where
    pub was_mapped : IsMapped d n.was
    was_mapped = record {
      ino = ino;
      idx = idx;
      maps_to = record {
        in_table = remap_begun.in_table;
        in_file = idx_small;
        by = is.by;
        is = subst (λ (i : ℕ). maps d i idx ≡ Some is.by) is.ino (subst (λ (j : ℕ). maps d n.ino j ≡ Some is.by) is.idx is.mapped);
        block = is.was;
      };
    }

    by_is : is.by ≡ to_remap.by
    by_is = same_some (maps d ino idx) is.by to_remap.by (subst (λ (i : ℕ). maps d i idx ≡ Some is.by) is.ino
        (subst (λ (j : ℕ). maps d n.ino j ≡ Some is.by) is.idx is.mapped)) to_remap.mapped

    pub by_no_row : IsNone (row_of (rows d) is.by.block)
    by_no_row = subst (λ (m : Mapping). IsNone (row_of (rows d) m.block)) (sym by_is) to_remap.no_row

    equal : page_bytes d is.row.page ≡ page_bytes d is.by.block
    equal = ap (λ (r : Row). page_bytes d r.page) (one_row is.row is.at_slot) ∙ to_remap.equal ∙ ap (λ (m : Mapping). page_bytes d m.block) (sym
        by_is)

    raised_there : mappings d is.row.page + 1 ≤ is.row.rfc + is.row.uc
    raised_there = let balance = balance_at d b s v slot is.row is.at_slot in omega (arith, balance.updates, balance.references, raised_one)

    -- an unused page isn't the row's, nor the place's
    pub not_row : (p : ℕ) → IsUnused d p → p ≢ is.row.page
    not_row p unused same = none_listed (rows d) p unused.no_row is.row is.at_slot.there (sym same)

    pub not_was : (p : ℕ) → IsFree d p → p ≢ is.by.block
    not_was p free same = absurd (no_count (mappings d p) (subst (λ (q : ℕ). 1 ≤ mappings d q) (sym (same ∙ is.was)) (mapped_counts d n.was
        was_mapped))
        free.unmapped)
      where
        no_count : (k : ℕ) → 1 ≤ k → k ≡ 0 → ⊥
        no_count k some none = omega arith

    module _ (free' : FreePages) (fresh : Option ℕ) (takes : TakesFor n.tail b.free free' fresh) where
      pub taken : AreTaken (taken_pages fresh) b.free free'
      taken = are_taken n.tail b.free free' fresh v.space.in_order takes

      pub fresh_unused : (p : ℕ) → Contains (taken_pages fresh) p → IsUnused d p
      fresh_unused p has = ((v.space.free p).0 (taken.listed p has)).0

      -- a page is left still, by which the row's page isn't the only free one
      abbrev pub other : (q : ℕ) × IsLeft b q × (Contains (taken_pages fresh) q → ⊥)
      other = left_apart b fresh v.space.left

      pub other_unused : IsUnused d other.0
      other_unused = left_unused d b s v other.0 other.1

      pub may_share : MayShare d n.ino n.idx is.row (taken_pages fresh)
      may_share = record {
        valid = v.fast.valid;
        file = subst (λ (i : ℕ). 1 ≤ i) (sym is.ino) remap_begun.file;
        in_table = subst (λ (i : ℕ). i < d.geometry.inodes) (sym is.ino) remap_begun.in_table;
        live = subst (λ (i : ℕ). (d.inode i).use_of ≡ Live) (sym is.ino) remap_begun.live;
        by = is.by;
        mapped = is.mapped;
        no_row = by_no_row;
        has = is.at_slot.there;
        equal = equal;
        raised = raised_there;
        fresh_unused = fresh_unused;
        fresh_apart = λ j k jl kl same. omega (arith, jl, kl, taken.few);
        room = has_room d.geometry (d.inode n.ino).log n.tail b.free free' fresh
            (v.fast.valid.logs n.ino (subst (λ (i : ℕ). i < d.geometry.inodes) (sym is.ino) remap_begun.in_table)
            (subst (λ (i : ℕ). IsUsed (d.inode i).use_of) (sym is.ino) used)).paged is.tail takes;
        left = (
          other.0,
          is.by.block,
          not_was other.0 other_unused.free,
          was_free other_unused.free other.2 (not_row other.0 other_unused),
          was_place refl,
        );
      }

      pub may_by : may_share.by ≡ is.by
      unfolding may_share
      may_by = refl
