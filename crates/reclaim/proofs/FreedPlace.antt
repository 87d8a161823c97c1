-- The last place of a dying inode is gone, and its page is free.
use Rattle.std.proofs.Common.{◌≡◌, inl, inr, ⊎_elim, ℕ, ◌+◌, ◌≤◌, [], ◌∷◌, length, sym, ◌∙◌, ap, arith}
use Rattle.std.specs.Prelude.{Option, None, IsNone, Contains}
use Rattle.std.specs.VecDeque.{deque_len, deque_capacity}
use Rattle.pm_device.specs.State.{State}
use Rattle.pm_device.specs.Settled.{StoresOnly, KeepsFlushed, Others, SettlesAll}
use Rattle.pm_device.specs.Commit.{IsDone}
use Rattle.pm_layout.specs.Geometry.{inode_word}
use Rattle.dn_model.specs.Table.{Row, row_of}
use Rattle.dn_model.specs.Disk.{Disk, rows}
use Rattle.dn_model.specs.Counts.{mappings}
use Rattle.law_table.proofs.Rows.{none_found}
use Rattle.law_dying.specs.Dying.{Falls, stepped, MayFall}
use Rattle.law_dying.proofs.Steps.{fall_drops}
use Rattle.fact_table.specs.Table.{HasNoneOf}
use Rattle.dn_volume.specs.declared.background.DyingPlace.{DyingPlace}
use Rattle.dn_volume.specs.declared.volume.Parts.{Parts}
use Rattle.dn_volume.specs.Balance.{times, added_to_share, added, dropped, AreCounted}
use Rattle.dn_volume.specs.Reclaims.{one_if, IsReclaiming}
use Rattle.dn_volume.specs.Reserve.{units_to_clean}
use Rattle.dn_volume.specs.Agrees.{IsVolume}
use Rattle.dn_volume.proofs.HandsKept.{owed_same, raised_same}
use Rattle.dn_volume.proofs.MappingsMoved.{mappings_counted}
use Rattle.reclaim.specs.Worked.{FreesPlace, KeepsWork}
use Rattle.reclaim.proofs.WorkEvent.{WorkEvent}
use Rattle.reclaim.proofs.RoomWorked.{MovesRoom}
use Rattle.reclaim.proofs.NextPlace.{IsLastPlace, may_fall}
use Rattle.reclaim.proofs.Fallen.{fall_living, fall_units, fall_before, fall_freed, fall_used}
use Rattle.reclaim.proofs.FallEvent.{fall_event, same_rows}
use Rattle.reclaim.proofs.Dropped.{no_raised}

-- Where the rows, the raised place and the releases stay, and mappings of rows' pages too, the counts stay.
module _ (d e : Disk) (b b' : Parts) (kept : KeepsWork b b') (zero_same : b'.reclaiming.zero_check ≡ b.reclaiming.zero_check)
    (raised_still : b'.reclaiming.raised ≡ b.reclaiming.raised)
    (releases : b'.reclaiming.releases ≡ b.reclaiming.releases) (rows_same : rows e ≡ rows d) (mappings_same : (row : Row) → Contains (rows d) row
    → mappings e row.page ≡ mappings d row.page) where
  pub counts_stay : AreCounted d b → AreCounted e b'
  counts_stay was = mappings_counted d e b b' (λ slot. 0) (λ slot. 0) (record {
    rows_same = rows_same;
    mappings_move = λ row has. let same = mappings_same row has in omega (arith, same);
    raised_move = λ slot. let same = raised_same b b' (ap (λ (fs : _). fs.items) kept.flights) kept.sharing raised_still slot in omega (arith, same);
    added_move = λ slot. let same : added b' slot ≡ added b slot = ap (λ (x : _). times slot (added_to_share x)) kept.sharing in omega (arith, same);
    dropped_move = λ slot. let same : dropped b' slot ≡ dropped b slot = ap (λ (r : _). times slot r.items) releases in omega (arith, same);
    zero_same = zero_same;
    few = let sum = owed_same b b' (ap (λ (fs : _). fs.items) kept.flights) (λ room. room.releases) in
        let long = ap (λ (r : _). length r.items) releases in
        let one = ap (λ (r : Option DyingPlace). one_if r) raised_still in
        omega (arith, was.few, sum, long, one);
  }) was

module _ (d : Disk) (b b' : Parts) (s u : State) (v : IsVolume d b s) (ino place page : ℕ) (last : IsLastPlace d ino place page)
    (none : HasNoneOf d page) (unraised : b.reclaiming.raised ≡ None)
    (change : FreesPlace ino place page b b') where
  abbrev e : Disk
  e = stepped d ino (Falls place)

  abbrev may : MayFall d ino place
  may = may_fall d b s v ino place page last none

  no_row : IsNone (row_of (rows d) may.by.block)
  no_row = none_found (rows d) may.by.block (λ row has same. none row has (same ∙ last.block))

  none_then : one_if b.reclaiming.raised ≡ 0
  none_then = ap (λ (r : Option DyingPlace). one_if r) unraised

  none_now : one_if b'.reclaiming.raised ≡ 0
  none_now = ap (λ (r : Option DyingPlace). one_if r) (change.raised ∙ unraised)

  zero_same : one_if b'.reclaiming.zero_check ≡ one_if b.reclaiming.zero_check
  zero_same = ap (λ (r : Option ℕ). one_if r) change.zero_check

  reclaiming : IsReclaiming e b'
  reclaiming = record {
    waiting = let units = fall_units d ino place may in let long = ap (λ (r : _). length r.items) change.releases in
        omega (arith, v.reclaiming.waiting, units, change.waiting, long, none_then, none_now, zero_same);
    zero_check = λ slot is. same_rows d e (fall_living d ino place may).rows_same slot (v.reclaiming.zero_check slot (sym change.zero_check ∙ is));
    raised = λ q is. absurd (no_raised q b'.reclaiming.raised (change.raised ∙ unraised) is);
  }

  module _ (units : b.owed.units + 3 ≤ s.spare) (spare : s.spare ≤ u.spare + 3) (only : StoresOnly (λ a. a ≡ inode_word ino 3) s u)
      (others : KeepsFlushed (Others 16) (λ a. a ≡ inode_word ino 3) s u)
      (done : IsDone 16 (inode_word ino 3) place s u) (settles : SettlesAll 16 s u) where
    moves : MovesRoom b b' s u
    moves = record {
      units = let clean = ap (λ (x : _). units_to_clean x) change.kept.cleaning in omega (arith, change.units, none_then, none_now, zero_same, clean);
      spare = omega (arith, change.units, units, spare);
      releases = omega (arith, change.owed_releases, none_then, none_now);
      room = let len = ap (λ (r : _). deque_len r) change.releases in omega (arith, len, change.owed_releases);
      capacity = let same = ap (λ (r : _). deque_capacity r) change.releases in omega (arith, same);
    }

    pub free_event : WorkEvent (ino ∷ []) d e b b' s u
    free_event = fall_event d b b' s u v ino place may change.kept change.inodes change.fact (λ p. p ≡ page) change.free
        (λ p is. fall_freed d ino place may no_row p (⊎_elim (λ was. inl was) (λ same. inr (same ∙ sym last.block)) is))
        (λ p is. ⊎_elim (λ was. inl was) (λ same. inr (same ∙ last.block)) (fall_before d ino place may p is))
        (λ p same. fall_used d ino place may p (same ∙ sym last.block))
        (counts_stay d e b b' change.kept change.zero_check change.raised change.releases (fall_living d ino place may).rows_same
        (λ row has. (fall_drops d ino place may).others row.page (λ same. none row has (same ∙ last.block))) v.counts)
        reclaiming moves only others done settles
