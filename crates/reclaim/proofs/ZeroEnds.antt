-- The zero check, from what its calls give.
use Rattle.std.proofs.Common.{◌≡◌, ℕ, ◌+◌, ◌<◌, ◌≤◌, false, [], refl, sym, ap, subst, arith}
use Rattle.std.specs.Prelude.{Option, Some, None, Contains}
use Rattle.pm_device.specs.State.{State, Agree, Rose}
use Rattle.pm_device.specs.Settled.{SettlesAll}
use Rattle.pm_device.specs.Reading.{Stands}
use Rattle.pm_layout.specs.Geometry.{slots}
use Rattle.dn_model.specs.Table.{Row}
use Rattle.dn_model.specs.Disk.{Disk, TableSays}
use Rattle.dn_model.specs.Counts.{total}
use Rattle.dn_model.specs.Own.{Print}
use Rattle.law_table_on_disk.proofs.NextDisk.{table_said}
use Rattle.fact_table.specs.Table.{HasTable, IsAtSlot, HasRow}
use Rattle.fact_counts.proofs.Counting.{row_small}
use Rattle.fact_changes.specs.Removal.{IsRemoveWord, HasZero, MayRemoveAt, MakesRemoved, SettlesRemoved, LeavesRemoved, RemovesOnly, KeepsThrough}
use Rattle.fact_rows.specs.Gone.{cleared}
use Rattle.dn_volume.specs.declared.units.TheConstants.{ZERO_CHECK_UNITS}
use Rattle.dn_volume.specs.declared.background.DyingPlace.{DyingPlace}
use Rattle.dn_volume.specs.declared.volume.Volume.{Volume}
use Rattle.dn_volume.specs.Reclaims.{one_if, dying_units, IsRaised}
use Rattle.dn_volume.specs.Agrees.{IsVolume, Agrees}
use Rattle.dn_volume.specs.Events.{MovesOn, Breaks}
use Rattle.dn_volume.proofs.Tables.{is_table, running_disk}
use Rattle.count_events.specs.Released.{Stops}
use Rattle.reclaim.specs.Worked.{Gives, Checks}
use Rattle.reclaim.specs.Zero.{IsZero, IsZeroRow, IsCountedRow}
use Rattle.reclaim.proofs.WorkEvent.{WorkEvent, WorkShown, work_moves, work_breaks}
use Rattle.reclaim.proofs.UnitsLost.{units_dying, units_some}
use Rattle.reclaim.proofs.ZeroEvent.{remove_high, stays_event, stays_shown, may_remove, page_in, page_taken, gone_shown, gone_event}

module _ {D F : Type 0} (state : D → State) (w : Volume D F) (slot : ℕ) (pending : w.parts.reclaiming.zero_check ≡ Some slot) where
  pub zero_table : Agrees state w → w.parts.stopped ≡ false → HasTable (state w.device).now w.parts.fact
  zero_table agrees running = let found = running_disk state w running agrees in
      record { disk = found.0; is = is_table found.0 w.parts (state w.device) found.1 }

  pub zero_slot : Agrees state w → w.parts.stopped ≡ false → slot < slots w.parts.fact.geometry
  zero_slot agrees running =
      let found = running_disk state w running agrees in
      let has = found.1.reclaiming.zero_check slot pending in
      row_small found.0 (state w.device).now w.parts.fact (is_table found.0 w.parts (state w.device) found.1) slot has.row has.is

  one_raised : (d : Disk) (v : IsVolume d w.parts (state w.device)) (r : Option DyingPlace) → w.parts.reclaiming.raised ≡ r
      → one_if w.parts.reclaiming.raised ≤ total d.geometry.inodes (dying_units d)
  one_raised d v None is = let none : one_if w.parts.reclaiming.raised ≡ 0 = ap (λ (x : Option DyingPlace). one_if x) is in omega (arith, none)
  one_raised d v (Some p) is =
      let one : one_if w.parts.reclaiming.raised ≡ 1 = ap (λ (x : Option DyingPlace). one_if x) is in
      let at : IsRaised d p = v.reclaiming.raised p is in
      omega (arith, one, units_some d p.ino at.in_table, units_dying d p.ino at.before at.dying)

  pub zero_waits : Agrees state w → w.parts.stopped ≡ false → 1 ≤ w.parts.reclaiming.waiting
  zero_waits agrees running =
      let found = running_disk state w running agrees in
      let one : one_if w.parts.reclaiming.zero_check ≡ 1 = ap (λ (x : Option ℕ). one_if x) pending in
      omega (arith, found.1.reclaiming.waiting, one, one_raised found.0 found.1 w.parts.reclaiming.raised refl)

  pub zero_units : Agrees state w → w.parts.stopped ≡ false → ZERO_CHECK_UNITS ≤ w.parts.owed.units
  zero_units agrees running =
      let found = running_disk state w running agrees in
      let one : one_if w.parts.reclaiming.zero_check ≡ 1 = ap (λ (x : Option ℕ). one_if x) pending in
      omega (arith, found.1.room.owes.units, one)

  pub zero_spare : Agrees state w → w.parts.stopped ≡ false → ZERO_CHECK_UNITS ≤ (state w.device).spare
  zero_spare agrees running = let found = running_disk state w running agrees in omega (arith, zero_units agrees running, found.1.room.units)

  -- its row is counted again
  pub stays_moves : (w' : Volume D F) → state w'.device ≡ state w.device → Checks w.parts w'.parts → w'.parts.free ≡ w.parts.free
      → w'.parts.fact ≡ w.parts.fact → IsCountedRow (state w.device).now w.parts.fact slot
      → Agree (state w.device).now (state w.device).past → (print : Print) (d : Disk) → IsVolume d w.parts (state w.device)
      → MovesOn state print 16 w w' d
  stays_moves w' same checks free fact counted agree print d v =
      let none : (row : Row) → IsAtSlot d slot row → row.rfc ≡ 0 → row.uc ≡ 0 → ⊥ = λ row at. counted d row (is_table d w.parts (state w.device) v) at
      in
      work_moves state print w w' d d v
      (subst (λ (u : State). WorkShown print d d (state w.device) u) (sym same) (stays_shown d w.parts w'.parts (state w.device) v slot pending checks
      agree free fact none print)) []
      (subst (λ (u : State). WorkEvent [] d d w.parts w'.parts (state w.device) u) (sym same) (stays_event d w.parts w'.parts (state w.device) v slot
      pending checks agree free fact none))

  -- it goes
  module _ (page : ℕ) (zero : IsZeroRow (state w.device).now w.parts.fact slot page) where
    module _ (d : Disk) (v : IsVolume d w.parts (state w.device)) where
      abbrev has : HasRow d slot
      has = v.reclaiming.zero_check slot pending

      zero_is : IsZero has.row page
      zero_is = zero d has.row (is_table d w.parts (state w.device) v) has.is

      pub zero_here : HasZero (state w.device).now w.parts.fact slot
      zero_here = record {
        disk = d;
        row = has.row;
        may = may_remove d w.parts (state w.device) (state w.device) v slot has.row has.is
            zero_is.no_reference zero_is.no_update;
      }

      pub zero_below : page < w.parts.free.pages
      zero_below = subst (λ (p : ℕ). p < w.parts.free.pages) zero_is.page_is (page_in d w.parts (state w.device) (state w.device) v slot has.row
          has.is zero_is.no_reference zero_is.no_update)

      pub zero_taken : Contains w.parts.free.free page → ⊥
      zero_taken there = page_taken d w.parts (state w.device) (state w.device) v slot has.row has.is zero_is.no_reference zero_is.no_update
          (subst (Contains w.parts.free.free) (sym zero_is.page_is) there)

      module _ (w' : Volume D F) (only : RemovesOnly w.parts.fact slot (state w.device) (state w'.device))
          (leaves : LeavesRemoved w.parts.fact slot (state w.device) (state w'.device))
          (agree : Agree (state w'.device).now (state w'.device).past) (faults : (state w.device).faults ≤ (state w'.device).faults) (print : Print)
        where
          abbrev may : MayRemoveAt d has.row (state w.device).now w.parts.fact slot
          may = may_remove d w.parts (state w.device) (state w'.device) v slot has.row has.is zero_is.no_reference zero_is.no_update

          table_stands : Stands (TableSays d) (state w.device)
          table_stands = record {
            within = λ a x told. v.fast.stands.within a x (table_said d a x told);
            reads = λ a x told. v.fast.stands.reads a x (table_said d a x told);
            settled = λ a x told. v.fast.stands.settled a x (table_said d a x told);
          }

          shown : WorkShown print d (cleared d has.row) (state w.device) (state w'.device)
          shown = gone_shown d w.parts (state w.device) (state w'.device) v slot has.row has.is zero_is.no_reference zero_is.no_update
              (only d has.row may) print agree faults (leaves d has.row may table_stands)

          pub gone_breaks : Stops w.parts w'.parts → Rose (state w.device).faults (state w'.device).faults → Breaks state print 16 None w w' d
          gone_breaks stops rose = work_breaks state print w w' d (cleared d has.row) v shown stops (IsRemoveWord d has.row) (only d has.row may)
              (remove_high d w.parts (state w.device) (state w'.device) v slot has.row has.is zero_is.no_reference zero_is.no_update) rose

          pub gone_moves : Checks w.parts w'.parts → KeepsThrough 16 w.parts.fact slot (state w.device) (state w'.device)
              → MakesRemoved w.parts.fact w'.parts.fact slot (state w.device) (state w'.device)
              → SettlesRemoved w.parts.fact slot (state w.device) (state w'.device) → Gives (λ p. p ≡ page) w.parts.free w'.parts.free
              → (state w.device).spare ≤ (state w'.device).spare + 6 → SettlesAll 16 (state w.device) (state w'.device)
              → MovesOn state print 16 w w' d
          gone_moves checks others makes settles gives spare own =
              work_moves state print w w' d (cleared d has.row) v shown []
              (gone_event d w.parts (state w.device) (state w'.device) v slot has.row has.is zero_is.no_reference zero_is.no_update (only d has.row may)
              w'.parts pending checks (others d has.row may)
              (settles d has.row may table_stands) (makes d has.row may) (subst (λ (q : ℕ). Gives (λ p. p ≡ q) w.parts.free w'.parts.free)
              (sym zero_is.page_is) gives) spare own)
