-- The events of dying files and the zero check, from what their calls give.
use Rattle.std.proofs.Common.{◌≡◌, ℕ, ◌+◌, ◌*◌, ◌/◌, ◌<◌, ◌≤◌, false, List, [], ◌∷◌, length, sym, ap, subst, arith}
use Rattle.std.specs.Prelude.{Option, Some, None, Contains}
use Rattle.std.specs.VecDeque.{deque_len, deque_capacity}
use Rattle.pm_device.specs.State.{State, Agree, Rose}
use Rattle.pm_device.specs.Settled.{IsSettled, LeavesOnly, StoresOnly, KeepsFlushed, Others, SettlesAll}
use Rattle.pm_device.specs.Commit.{IsDone, LeavesOneWord}
use Rattle.pm_layout.specs.declared.Geometry.{Geometry}
use Rattle.pm_layout.specs.Geometry.{inode_word}
use Rattle.page_alloc.specs.Free.{FreePages}
use Rattle.dn_model.specs.Disk.{Disk}
use Rattle.dn_model.specs.Own.{Print}
use Rattle.law_write.proofs.MappedPlaces.{maps-in_file}
use Rattle.law_table_on_disk.proofs.OneWord.{one_word_may_commit}
use Rattle.law_dying.specs.Dying.{Falls, Ends, stepped, MayEnd}
use Rattle.law_dying.proofs.SteppedFiles.{own_kept}
use Rattle.law_dying.proofs.Steps.{fall_steps, end_steps}
use Rattle.fact_table.specs.Table.{IsTable, HasNoneOf}
use Rattle.dn_volume.specs.declared.units.TheConstants.{FALL_UNITS}
use Rattle.dn_volume.specs.declared.background.DyingPlace.{DyingPlace}
use Rattle.dn_volume.specs.declared.volume.Parts.{Parts}
use Rattle.dn_volume.specs.declared.volume.Volume.{Volume}
use Rattle.dn_volume.specs.Reclaims.{one_if}
use Rattle.dn_volume.specs.Agrees.{IsVolume, Agrees, agrees_with}
use Rattle.dn_volume.specs.Events.{MovesOn, Breaks}
use Rattle.dn_volume.specs.Works.{MayWork, ReleaseLowers, release_stand, cleaning_events, used_pages}
use Rattle.dn_volume.proofs.Tables.{is_table, running_disk}
use Rattle.count_events.specs.Released.{Stops}
use Rattle.count_events.proofs.UsedPages.{used_less}
use Rattle.reclaim.specs.Worked.{KeepsWork, Gives, DropsPlace, FreesPlace, EndsInode}
use Rattle.reclaim.specs.Walked.{LeadsThrough}
use Rattle.reclaim.specs.Dying.{IsAt, IsLastOf, IsUnmapped}
use Rattle.reclaim.proofs.WorkEvent.{WorkShown, work_moves, work_breaks}
use Rattle.reclaim.proofs.SteppedDisk.{step_shown}
use Rattle.reclaim.proofs.NextPlace.{IsLastPlace, last_place, may_end, may_fall, five_wait, page_inside, page_used}
use Rattle.reclaim.proofs.LogWalk.{log_leads}
use Rattle.reclaim.proofs.UnitsLost.{units_dying, units_some, places_some}
use Rattle.reclaim.proofs.Fallen.{fall_one, fall_living}
use Rattle.reclaim.proofs.Dropped.{may_drop, drop_event}
use Rattle.reclaim.proofs.FreedPlace.{free_event}
use Rattle.reclaim.proofs.EndedInode.{end_one, end_living, end_event}

-- a word was stored, flushed and fenced by reclaim, or tried so
pub record SetsWord (at value : ℕ) (s u : State) : Type 0 where
  pub any_moment : IsSettled s at → LeavesOnly s u (LeavesOneWord at value s)
  pub only : StoresOnly (λ a. a ≡ at) s u
  pub others : KeepsFlushed (Others 16) (λ a. a ≡ at) s u
  pub spare : s.spare ≤ u.spare + 3
  pub faults : s.faults ≤ u.faults

pub sets_at : (at word value : ℕ) (s u : State) → at ≡ word → SetsWord at value s u → SetsWord word value s u
sets_at at word value s u same = subst (λ (a : ℕ). SetsWord a value s u) same

-- there is work
pub some_work : (b : Parts) → 1 ≤ b.reclaiming.waiting → MayWork (release_stand b)
some_work b some = record { some = λ rests. omega (arith, some, rests); loose = λ holder none. none }

-- and less of it afterwards
pub less_work : (b b' : Parts) (left : ℕ) → KeepsWork b b' → b'.reclaiming.waiting < b.reclaiming.waiting → used_pages b' ≤ used_pages b
    → left ≡ b'.reclaiming.waiting + cleaning_events b'.reclaiming.cleaning → ReleaseLowers b b' left
less_work b b' left kept less used told = record {
  left_is = told;
  less = less;
  cleaning = kept.cleaning;
  sharing = kept.sharing;
  queue = ap (λ (q : _). q.items) kept.queue;
  pages = used;
}

pub gives_used : (given : ℕ → Type 0) (b b' : Parts) → Gives given b.free b'.free → b'.reclaiming.cleaning ≡ b.reclaiming.cleaning
    → used_pages b' ≤ used_pages b
gives_used given b b' gives cleaning = used_less b b' gives.pages gives.no_less cleaning

pub done_at : (at word value : ℕ) (s u : State) → at ≡ word → IsDone 16 at value s u → IsDone 16 word value s u
done_at at word value s u same = subst (λ (a : ℕ). IsDone 16 a value s u) same

module _ {D F : Type 0} (state : D → State) (w : Volume D F) where
  pub moved_agrees : (print : Print) (w' : Volume D F) (d : Disk) → MovesOn state print 16 w w' d → Agrees state w'
  moved_agrees print w' d moves = agrees_with moves.after moves.moves.volume

  -- a raised place
  module _ (p : DyingPlace) (raised_is : w.parts.reclaiming.raised ≡ Some p) where
    pub drop_ino : Agrees state w → w.parts.stopped ≡ false → p.ino < w.parts.geometry.inodes
    drop_ino agrees running =
        let found = running_disk state w running agrees in
        subst (λ (g : Geometry). p.ino < g.inodes) found.1.fast.geometry (found.1.reclaiming.raised p raised_is).in_table

    pub drop_there : Agrees state w → w.parts.stopped ≡ false → p.ino < length w.parts.inodes.items
    drop_there agrees running =
        let found = running_disk state w running agrees in
        omega (arith, (found.1.reclaiming.raised p raised_is).in_table, found.1.inodes.all)

    pub drop_line : Agrees state w → w.parts.stopped ≡ false → inode_word p.ino 3 / 8 * 8 + 8 ≤ length (state w.device).now
    drop_line agrees running =
        let found = running_disk state w running agrees in
        let may = may_drop found.0 w.parts (state w.device) found.1 p raised_is in
        (one_word_may_commit found.0 (stepped found.0 p.ino (Falls p.place)) 0 [] (inode_word p.ino 3) p.place (fall_one found.0 p.ino p.place may)
        (state w.device) found.1.fast.long found.1.fast.stands).line

    pub drop_waits : Agrees state w → w.parts.stopped ≡ false → 1 ≤ w.parts.reclaiming.waiting
    drop_waits agrees running =
        let found = running_disk state w running agrees in
        let at = found.1.reclaiming.raised p raised_is in
        let may = may_drop found.0 w.parts (state w.device) found.1 p raised_is in
        let some = places_some found.0 p.ino p.place at.by (in_file_of found.0 found.1) at.mapped in
        let one : one_if w.parts.reclaiming.raised ≡ 1 = ap (λ (r : Option DyingPlace). one_if r) raised_is in
        omega (arith, found.1.reclaiming.waiting, one, some, units_some found.0 p.ino at.in_table, units_dying found.0 p.ino at.before at.dying)
      where
        in_file_of : (d : Disk) (v : IsVolume d w.parts (state w.device)) → p.place < 4096
        in_file_of d v = maps-in_file d v.fast.valid p.ino p.place (v.reclaiming.raised p raised_is).by (v.reclaiming.raised p raised_is).in_table
            (v.reclaiming.raised p raised_is).mapped

    pub drop_units : Agrees state w → w.parts.stopped ≡ false → FALL_UNITS ≤ w.parts.owed.units
    drop_units agrees running =
        let found = running_disk state w running agrees in
        let one : one_if w.parts.reclaiming.raised ≡ 1 = ap (λ (r : Option DyingPlace). one_if r) raised_is in
        omega (arith, found.1.room.owes.units, one)

    pub drop_spare : Agrees state w → w.parts.stopped ≡ false → 3 ≤ (state w.device).spare
    drop_spare agrees running =
        let found = running_disk state w running agrees in
        omega (arith, drop_units agrees running, found.1.room.units)

    pub drop_release : Agrees state w → w.parts.stopped ≡ false → 1 ≤ w.parts.owed.releases
    drop_release agrees running =
        let found = running_disk state w running agrees in
        let one : one_if w.parts.reclaiming.raised ≡ 1 = ap (λ (r : Option DyingPlace). one_if r) raised_is in
        omega (arith, found.1.room.owes.releases, one)

    pub drop_room : Agrees state w → w.parts.stopped ≡ false → deque_len w.parts.reclaiming.releases < deque_capacity w.parts.reclaiming.releases
    drop_room agrees running =
        let found = running_disk state w running agrees in
        omega (arith, drop_release agrees running, found.1.room.releases)

    module _ (print : Print) (w' : Volume D F) (sets : SetsWord (inode_word p.ino 3) p.place (state w.device) (state w'.device))
        (agree : Agree (state w'.device).now (state w'.device).past) (d : Disk)
        (v : IsVolume d w.parts (state w.device)) where
      drop_shown : WorkShown print d (stepped d p.ino (Falls p.place)) (state w.device) (state w'.device)
      drop_shown =
          let may = may_drop d w.parts (state w.device) v p raised_is in
          step_shown d p.ino (Falls p.place) 3 p.place (omega arith) (fall_one d p.ino p.place may) (fall_living d p.ino p.place may) may.in_table
          (state w.device) (state w'.device) w.parts.geometry v.fast sets.only print
          (own_kept d p.ino (Falls p.place) (fall_steps d p.ino p.place may) print) agree sets.faults sets.any_moment

      pub drop_moves : IsDone 16 (inode_word p.ino 3) p.place (state w.device) (state w'.device) → SettlesAll 16 (state w.device) (state w'.device)
          → DropsPlace p w.parts w'.parts → MovesOn state print 16 w w' d
      drop_moves done settles change = work_moves state print w w' d (stepped d p.ino (Falls p.place)) v drop_shown (p.ino ∷ [])
          (drop_event d w.parts w'.parts (state w.device) (state w'.device) v p raised_is change sets.spare sets.only sets.others done settles)

      pub drop_breaks : Stops w.parts w'.parts → Rose (state w.device).faults (state w'.device).faults → Breaks state print 16 None w w' d
      drop_breaks stops rose = work_breaks state print w w' d (stepped d p.ino (Falls p.place)) v drop_shown stops (λ a. a ≡ inode_word p.ino 3)
          sets.only (λ a low is. omega (arith, low, is)) rose

  -- the last place, on a page without a row
  module _ (ino place page : ℕ) (last : IsAt (λ n. IsLastOf n place page) w.parts.inodes.items ino) (none : (d : Disk)
      → IsTable d (state w.device).now w.parts.fact → HasNoneOf d page)
      (unraised : w.parts.reclaiming.raised ≡ None) where
    abbrev last_of : (d : Disk) → IsVolume d w.parts (state w.device) → IsLastPlace d ino place page
    last_of d v = last_place d w.parts (state w.device) v ino place page last

    none_of : (d : Disk) → IsVolume d w.parts (state w.device) → HasNoneOf d page
    none_of d v = none d (is_table d w.parts (state w.device) v)

    pub free_ino : Agrees state w → w.parts.stopped ≡ false → ino < w.parts.geometry.inodes
    free_ino agrees running =
        let found = running_disk state w running agrees in
        subst (λ (g : Geometry). ino < g.inodes) found.1.fast.geometry (last_of found.0 found.1).in_table

    pub free_there : Agrees state w → w.parts.stopped ≡ false → ino < length w.parts.inodes.items
    free_there agrees running = let found = running_disk state w running agrees in omega (
      arith,
      (last_of found.0 found.1).in_table,
      found.1.inodes.all,
    )

    pub free_line : Agrees state w → w.parts.stopped ≡ false → inode_word ino 3 / 8 * 8 + 8 ≤ length (state w.device).now
    free_line agrees running =
        let found = running_disk state w running agrees in
        let may = may_fall found.0 w.parts (state w.device) found.1 ino place page (last_of found.0 found.1) (none_of found.0 found.1) in
        (one_word_may_commit found.0 (stepped found.0 ino (Falls place)) 0 [] (inode_word ino 3) place (fall_one found.0 ino place may)
        (state w.device) found.1.fast.long found.1.fast.stands).line

    pub free_waits : Agrees state w → w.parts.stopped ≡ false → 4 ≤ w.parts.reclaiming.waiting
    free_waits agrees running =
        let found = running_disk state w running agrees in
        let five = five_wait found.0 w.parts (state w.device) found.1 ino place page (last_of found.0 found.1) in
        let zero : one_if w.parts.reclaiming.raised ≡ 0 = ap (λ (r : Option DyingPlace). one_if r) unraised in
        omega (arith, found.1.reclaiming.waiting, five, zero)

    pub free_below : Agrees state w → w.parts.stopped ≡ false → page < w.parts.free.pages
    free_below agrees running =
        let found = running_disk state w running agrees in
        omega (arith, page_inside found.0 w.parts (state w.device) found.1 ino place page (last_of found.0 found.1), found.1.space.pages)

    pub free_taken : Agrees state w → w.parts.stopped ≡ false → Contains w.parts.free.free page → ⊥
    free_taken agrees running = let found = running_disk state w running agrees in page_used found.0 w.parts (state w.device) found.1 ino place page
        (last_of found.0 found.1)

    module _ (print : Print) (w' : Volume D F) (sets : SetsWord (inode_word ino 3) place (state w.device) (state w'.device))
        (agree : Agree (state w'.device).now (state w'.device).past) (d : Disk)
        (v : IsVolume d w.parts (state w.device)) where
      free_shown : WorkShown print d (stepped d ino (Falls place)) (state w.device) (state w'.device)
      free_shown =
          let may = may_fall d w.parts (state w.device) v ino place page (last_of d v) (none_of d v) in
          step_shown d ino (Falls place) 3 place (omega arith) (fall_one d ino place may) (fall_living d ino place may) may.in_table (state w.device)
          (state w'.device) w.parts.geometry v.fast sets.only print
          (own_kept d ino (Falls place) (fall_steps d ino place may) print) agree sets.faults sets.any_moment

      pub free_moves : IsDone 16 (inode_word ino 3) place (state w.device) (state w'.device) → SettlesAll 16 (state w.device) (state w'.device)
          → w.parts.owed.units + 3 ≤ (state w.device).spare → FreesPlace ino place page w.parts w'.parts → MovesOn state print 16 w w' d
      free_moves done settles units change = work_moves state print w w' d (stepped d ino (Falls place)) v free_shown (ino ∷ [])
          (free_event d w.parts w'.parts (state w.device) (state w'.device) v ino place page (last_of d v) (none_of d v) unraised change units
          sets.spare sets.only sets.others done settles)

      pub free_breaks : Stops w.parts w'.parts → Rose (state w.device).faults (state w'.device).faults → Breaks state print 16 None w w' d
      free_breaks stops rose = work_breaks state print w w' d (stepped d ino (Falls place)) v free_shown stops (λ a. a ≡ inode_word ino 3) sets.only
          (λ a low is. omega (arith, low, is)) rose

  -- no place is left
  module _ (ino : ℕ) (none : IsAt IsUnmapped w.parts.inodes.items ino) (unraised : w.parts.reclaiming.raised ≡ None) where
    abbrev ends_of : (d : Disk) → IsVolume d w.parts (state w.device) → MayEnd d ino
    ends_of d v = may_end d w.parts (state w.device) v ino none

    pub end_ino : Agrees state w → w.parts.stopped ≡ false → ino < w.parts.geometry.inodes
    end_ino agrees running =
        let found = running_disk state w running agrees in
        subst (λ (g : Geometry). ino < g.inodes) found.1.fast.geometry (ends_of found.0 found.1).in_table

    pub end_there : Agrees state w → w.parts.stopped ≡ false → ino < length w.parts.inodes.items
    end_there agrees running = let found = running_disk state w running agrees in omega (
      arith,
      (ends_of found.0 found.1).in_table,
      found.1.inodes.all,
    )

    pub end_line : Agrees state w → w.parts.stopped ≡ false → inode_word ino 0 / 8 * 8 + 8 ≤ length (state w.device).now
    end_line agrees running =
        let found = running_disk state w running agrees in
        (one_word_may_commit found.0 (stepped found.0 ino Ends) 0 [] (inode_word ino 0) 0 (end_one found.0 ino (ends_of found.0 found.1))
        (state w.device) found.1.fast.long found.1.fast.stands).line

    pub end_waits : Agrees state w → w.parts.stopped ≡ false → 1 ≤ w.parts.reclaiming.waiting
    end_waits agrees running =
        let found = running_disk state w running agrees in
        let may = ends_of found.0 found.1 in
        let zero : one_if w.parts.reclaiming.raised ≡ 0 = ap (λ (r : Option DyingPlace). one_if r) unraised in
        omega (arith, found.1.reclaiming.waiting, zero, units_some found.0 ino may.in_table, units_dying found.0 ino may.before may.dying)

    module _ (print : Print) (w' : Volume D F) (sets : SetsWord (inode_word ino 0) 0 (state w.device) (state w'.device))
        (agree : Agree (state w'.device).now (state w'.device).past) (d : Disk)
        (v : IsVolume d w.parts (state w.device)) where
      end_shown : WorkShown print d (stepped d ino Ends) (state w.device) (state w'.device)
      end_shown =
          let may = ends_of d v in
          step_shown d ino Ends 0 0 (omega arith) (end_one d ino may) (end_living d ino may) may.in_table (state w.device) (state w'.device)
          w.parts.geometry v.fast sets.only print
          (own_kept d ino Ends (end_steps d ino may) print) agree sets.faults sets.any_moment

      pub end_moves : IsDone 16 (inode_word ino 0) 0 (state w.device) (state w'.device) → SettlesAll 16 (state w.device) (state w'.device)
          → w.parts.owed.units + 3 ≤ (state w.device).spare → EndsInode ino w.parts w'.parts
          → Gives (Contains (d.inode ino).log.pages) w.parts.free w'.parts.free → MovesOn state print 16 w w' d
      end_moves done settles units change gives = work_moves state print w w' d (stepped d ino Ends) v end_shown (ino ∷ [])
          (end_event d w.parts w'.parts (state w.device) (state w'.device) v ino (ends_of d v) unraised change gives units sets.spare sets.only
          sets.others done settles)

      pub end_breaks : Stops w.parts w'.parts → Rose (state w.device).faults (state w'.device).faults → Breaks state print 16 None w w' d
      end_breaks stops rose = work_breaks state print w w' d (stepped d ino Ends) v end_shown stops (λ a. a ≡ inode_word ino 0) sets.only
          (λ a low is. omega (arith, low, is)) rose

-- the pages of its log came free
pub end_gives : (b : Parts) (s : State) (d : Disk) (v : IsVolume d b s) (ino : ℕ) (none : IsAt IsUnmapped b.inodes.items ino) (mid after : FreePages)
    → ((pages : List ℕ) → LeadsThrough s.now b.geometry ino pages → Gives (Contains pages) b.free mid) → after ≡ mid
    → Gives (Contains (d.inode ino).log.pages) b.free after
end_gives b s d v ino none mid after gives same = subst (Gives (Contains (d.inode ino).log.pages) b.free) (sym same)
    (gives (d.inode ino).log.pages (log_leads d b s v ino (may_end d b s v ino none)))
