-- A dying inode without places is free, and so are the pages of its log: the volume of after.
use Rattle.std.proofs.Common.{◌≡◌, ◌⊎◌, inl, inr, ⊎_elim, ℕ, ◌+◌, ◌≤◌, List, [], ◌∷◌, length, sym, ◌∙◌, ap, subst, arith}
use Rattle.std.specs.Prelude.{Option, None, IsNone, Contains}
use Rattle.std.specs.Option.{option_map}
use Rattle.std.specs.FinMap.{get}
use Rattle.std.specs.VecDeque.{deque_len, deque_capacity}
use Rattle.pm_device.specs.State.{State}
use Rattle.pm_device.specs.Settled.{StoresOnly, KeepsFlushed, Others, SettlesAll}
use Rattle.pm_device.specs.Commit.{IsDone}
use Rattle.pm_layout.specs.Geometry.{inode_word}
use Rattle.page_alloc.specs.Free.{FreePages}
use Rattle.file_content.specs.Content.{kept}
use Rattle.dn_model.specs.Table.{Row, row_of}
use Rattle.dn_model.specs.Disk.{Disk, Inode, Free, Dying, IsUsed}
use Rattle.dn_model.specs.Counts.{total}
use Rattle.law_write.specs.Events.{IsUnused}
use Rattle.law_table.proofs.Rows.{listed_cases}
use Rattle.law_table_on_disk.specs.OneWord.{IsOneWord}
use Rattle.law_dying.specs.Dying.{Ends, stepped, MayEnd, KeepsLiving, DropsLog}
use Rattle.law_dying.proofs.Stepped.{at_ino, at_other, same_geometry}
use Rattle.law_dying.proofs.SteppedDiffers.{stepped_one_word}
use Rattle.law_dying.proofs.SteppedFiles.{living_kept}
use Rattle.law_dying.proofs.Steps.{end_steps, end_drops}
use Rattle.dn_volume.specs.declared.background.DyingPlace.{DyingPlace}
use Rattle.dn_volume.specs.declared.volume.InodeState.{InodeState}
use Rattle.dn_volume.specs.declared.volume.Parts.{Parts}
use Rattle.dn_volume.specs.Inodes.{as_use, IsInodeOf, AreInodesOf}
use Rattle.dn_volume.specs.Reclaims.{one_if, dying_units, IsReclaiming}
use Rattle.dn_volume.specs.Reserve.{units_to_clean}
use Rattle.dn_volume.specs.Agrees.{IsVolume}
use Rattle.dn_volume.proofs.Stills.{still_settles}
use Rattle.reclaim.specs.Worked.{Gives, EndsState, EndsInode, ChangesOne}
use Rattle.reclaim.proofs.WorkEvent.{WorkEvent, others_same}
use Rattle.reclaim.proofs.NodesChanged.{nodes_are, nodes_kept}
use Rattle.reclaim.proofs.SpaceGained.{space_gained, slots_stay}
use Rattle.reclaim.proofs.RoomWorked.{MovesRoom, room_worked}
use Rattle.reclaim.proofs.SteppedDisk.{step_pointers, step_leaves, step_fast}
use Rattle.reclaim.proofs.UnitsLost.{no_places, units_dying, units_free, units_move}
use Rattle.reclaim.proofs.FallEvent.{same_rows, other_room}
use Rattle.reclaim.proofs.FreedPlace.{counts_stay}
use Rattle.reclaim.proofs.Dropped.{no_raised}

module _ (d : Disk) (ino : ℕ) (may : MayEnd d ino) where
  abbrev e : Disk
  e = stepped d ino Ends

  pub end_one : IsOneWord d e 0 [] (inode_word ino 0) 0
  end_one = stepped_one_word d ino Ends (end_steps d ino may)

  pub end_living : KeepsLiving d e ino
  end_living = living_kept d ino Ends (end_steps d ino may)

  abbrev drops : DropsLog d e ino
  drops = end_drops d ino may

  free_now : (e.inode ino).use_of ≡ Free
  free_now = ap (λ (n : Inode). n.use_of) (at_ino d ino Ends)

  here : (x y : InodeState) → IsInodeOf d ino x → EndsState x y → IsInodeOf e ino y
  here x y is ends = record {
    use_is = free_now ∙ sym (ap as_use ends.used_is);
    size_is = λ used. absurd (subst IsUsed free_now used);
    small = subst (λ (n : ℕ). n ≤ 16777216) (sym ends.size) is.small;
    log_pages = λ used. absurd (subst IsUsed free_now used);
    places = λ idx. ap (λ (m : _). get m.map idx) ends.map ∙ is.places idx ∙ ap (option_map kept) (sym (drops.maps_same ino idx));
  }

  pub end_nodes : (old new : List InodeState) → ChangesOne EndsState ino old new → AreInodesOf d old → AreInodesOf e new
  end_nodes old new change are = nodes_are EndsState ino old new change (omega (arith, may.in_table, are.all)) d e are (same_geometry d ino Ends)
      (at_other d ino Ends) (λ i idx ne. drops.maps_same i idx) here

  -- one unit of work less
  pub end_units : total e.geometry.inodes (dying_units e) + 1 ≡ total d.geometry.inodes (dying_units d)
  end_units =
      let moved = units_move d e ino may.in_table (ap (λ g. g.inodes) (same_geometry d ino Ends))
      (λ i ne. ap (λ (n : Inode). n.use_of) (at_other d ino Ends i ne)) (λ i idx ne. drops.maps_same i idx) in
      let before = units_dying d ino may.before may.dying in
      let after = units_free e ino free_now in
      let none = no_places d ino may.unmapped in
      omega (arith, moved, before, after, none)

  end_then : (page : ℕ) → IsUnused d page ⊎ Contains (d.inode ino).log.pages page → IsUnused e page
  end_then page is = record {
    free = ⊎_elim (λ (was : IsUnused d page). end_living.free_kept page was.free) (λ listed. drops.freed page listed) is;
    no_row = subst (λ (rs : List Row). IsNone (row_of rs page)) (sym end_living.rows_same)
        (⊎_elim (λ (was : IsUnused d page). was.no_row)
        (λ (listed : Contains (d.inode ino).log.pages page). may.valid.single.log_no_row page
        (record { ino = ino; in_table = may.in_table; used = subst IsUsed (sym may.dying) tt; listed = listed })) is);
  }

  end_before : (page : ℕ) → IsUnused e page → IsUnused d page ⊎ Contains (d.inode ino).log.pages page
  end_before page is = ⊎_elim
      (λ free. inl (record { free = free; no_row = subst (λ (rs : List Row). IsNone (row_of rs page)) end_living.rows_same is.no_row }))
      (λ listed. inr listed) (drops.free_only page is.free)

  pub end_used : (page : ℕ) → Contains (d.inode ino).log.pages page → IsUnused d page → ⊥
  end_used page listed unused = unused.free.in_no_log (record {
    ino = ino;
    in_table = may.in_table;
    used = subst IsUsed (sym may.dying) tt;
    listed = listed;
  })

-- what is kept of the rest, where only free pages came in between
pub ends_since : (ino : ℕ) (b : Parts) (f : FreePages) (b' : Parts) → EndsInode ino (record b { free = f }) b' → EndsInode ino b b'
ends_since ino b f b' is = record {
  kept = record {
    geometry = is.kept.geometry;
    names = is.kept.names;
    queue = is.kept.queue;
    flights = is.kept.flights;
    sharing = is.kept.sharing;
    history = is.kept.history;
    trace = is.kept.trace;
    stopped = is.kept.stopped;
    owed_trace = is.kept.owed_trace;
    owed_history = is.kept.owed_history;
    owed_queue = is.kept.owed_queue;
    cleaning = is.kept.cleaning;
    made = is.kept.made;
  };
  fact = is.fact;
  inodes = is.inodes;
  zero_check = is.zero_check;
  raised = is.raised;
  releases = is.releases;
  waiting = is.waiting;
  units = is.units;
  owed_releases = is.owed_releases;
}

module _ (d : Disk) (b b' : Parts) (s u : State) (v : IsVolume d b s) (ino : ℕ) (may : MayEnd d ino) (unraised : b.reclaiming.raised ≡ None)
    (change : EndsInode ino b b')
    (gives : Gives (Contains (d.inode ino).log.pages) b.free b'.free) where
  abbrev after : Disk
  after = stepped d ino Ends

  none_then : one_if b.reclaiming.raised ≡ 0
  none_then = ap (λ (r : Option DyingPlace). one_if r) unraised

  none_now : one_if b'.reclaiming.raised ≡ 0
  none_now = ap (λ (r : Option DyingPlace). one_if r) (change.raised ∙ unraised)

  zero_same : one_if b'.reclaiming.zero_check ≡ one_if b.reclaiming.zero_check
  zero_same = ap (λ (r : Option ℕ). one_if r) change.zero_check

  reclaiming : IsReclaiming after b'
  reclaiming = record {
    waiting = let units = end_units d ino may in let long = ap (λ (r : _). length r.items) change.releases in
        omega (arith, v.reclaiming.waiting, units, change.waiting, long, none_then, none_now, zero_same);
    zero_check = λ slot is. same_rows d after (end_living d ino may).rows_same slot (v.reclaiming.zero_check slot (sym change.zero_check ∙ is));
    raised = λ q is. absurd (no_raised q b'.reclaiming.raised (change.raised ∙ unraised) is);
  }

  ended : (i : ℕ) → Contains (ino ∷ []) i → (c : ℕ) × ((d.inode i).use_of ≡ Dying c)
  ended i has = (
    may.before,
    subst (λ (j : ℕ). (d.inode j).use_of ≡ Dying may.before)
        (⊎_elim (λ same. same) (λ later. absurd (omega (arith, later.1))) (listed_cases ino [] i has)) may.dying,
  )

  module _ (units : b.owed.units + 3 ≤ s.spare) (spare : s.spare ≤ u.spare + 3) (only : StoresOnly (λ a. a ≡ inode_word ino 0) s u)
      (others : KeepsFlushed (Others 16) (λ a. a ≡ inode_word ino 0) s u)
      (done : IsDone 16 (inode_word ino 0) 0 s u) (settles : SettlesAll 16 s u) where
    moves : MovesRoom b b' s u
    moves = record {
      units = let clean = ap (λ (x : _). units_to_clean x) change.kept.cleaning in omega (arith, change.units, none_then, none_now, zero_same, clean);
      spare = omega (arith, change.units, units, spare);
      releases = omega (arith, change.owed_releases, none_then, none_now);
      room = let len = ap (λ (r : _). deque_len r) change.releases in omega (arith, len, change.owed_releases);
      capacity = let same = ap (λ (r : _). deque_capacity r) change.releases in omega (arith, same);
    }

    pub end_event : WorkEvent (ino ∷ []) d after b b' s u
    end_event = record {
      fast = step_fast d ino Ends 0 0 (omega arith) (end_one d ino may) (end_living d ino may) may.in_table s u b.geometry v.fast only done;
      dying = ended;
      leaves = step_leaves d ino Ends 0 0 (omega arith) (end_one d ino may) (end_living d ino may) may.in_table s u b.geometry v.fast only others;
      names = (end_living d ino may).names;
      live = (end_living d ino may).live_only;
      kept = change.kept;
      nodes = nodes_kept EndsState ino b.inodes.items b'.inodes.items change.inodes (omega (arith, may.in_table, v.inodes.all))
          (λ x y ends. ends.holder) (λ x y ends. ends.round);
      inodes_are = end_nodes d ino may b.inodes.items b'.inodes.items change.inodes v.inodes;
      space = space_gained d after b b' change.kept (Contains (d.inode ino).log.pages) (same_geometry d ino Ends) gives (end_then d ino may)
          (end_before d ino may) (end_used d ino may) v.space;
      table = slots_stay d after b.fact b'.fact (same_geometry d ino Ends) (end_living d ino may).rows_same change.fact v.table;
      counts = counts_stay d after b b' change.kept change.zero_check change.raised change.releases (end_living d ino may).rows_same
          (λ row has. (end_drops d ino may).mappings_same row.page) v.counts;
      reclaiming = reclaiming;
      pointers = step_pointers d ino Ends 0 0 (omega arith) (end_one d ino may) (end_living d ino may) may.in_table v.pointers;
      room = room_worked b b' s u change.kept moves v.room (other_room d b b' s v EndsState ino may.before may.dying change.inodes);
      still = still_settles 16 b b' s u settles (others_same b b' change.kept 16) v.still;
    }
