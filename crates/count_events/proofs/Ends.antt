-- The event of a release, from what its calls give.
use Rattle.std.proofs.Common.{◌≡◌, ◌⊎◌, ⊎_elim, ℕ, ◌+◌, ◌^◌, ◌<◌, ◌≤◌, Bool, true, false, List, [], ◌∷◌, length, refl, sym, ◌∙◌, ap, arith}
use Rattle.std.specs.Prelude.{if◌then◌else◌, ◌==◌, Option, Some, None, IsSome, Result, Ok, Err, IsErr, slice_index_or, vec_len, vec_capacity}
use Rattle.std.specs.VecDeque.{deque_len}
use Rattle.pm_device.specs.State.{State, Agree, Rose}
use Rattle.pm_device.specs.Settled.{StoresOnly, KeepsFlushed, Others, SettlesAll}
use Rattle.pm_layout.specs.Geometry.{slot_word}
use Rattle.dn_model.specs.Disk.{Disk}
use Rattle.dn_model.specs.Own.{Print}
use Rattle.fact_counts.specs.Standing.{HasRowWith}
use Rattle.fact_counts.specs.Counted.{down, MaySettleDown, LeavesTables, SettlesTable}
use Rattle.dn_volume.specs.declared.background.DyingPlace.{DyingPlace}
use Rattle.dn_volume.specs.declared.volume.Parts.{Parts}
use Rattle.dn_volume.specs.declared.volume.Volume.{Volume}
use Rattle.count_events.specs.declared.release.TheConstants.{RELEASE_UNITS}
use Rattle.dn_volume.specs.Reclaims.{one_if}
use Rattle.dn_volume.specs.Agrees.{IsVolume, Agrees, agrees_with, is_stopped}
use Rattle.dn_volume.specs.Events.{MovesOn, Breaks}
use Rattle.dn_volume.specs.Works.{MayWork, ReleaseLowers, release_stand, cleaning_events}
use Rattle.dn_volume.proofs.Tables.{running_disk}
use Rattle.count_events.specs.Released.{SettlesRelease, Stops, IsWordAfter}
use Rattle.count_events.proofs.EventsLeft.{left_falls}
use Rattle.count_events.proofs.UsedPages.{used_same}
use Rattle.count_events.proofs.Event.{event_moves, event_stopped, event_breaks}
use Rattle.count_events.proofs.Front.{front_row, front_with}
use Rattle.count_events.proofs.Settled.{front_down, release_event}

pub err_is : {T E : Type 0} (r : Result T E) (x : E) → r ≡ Err x → IsErr r
err_is (Ok y) x is = cc
err_is (Err e) x is = refl

abbrev behind : List ℕ → List ℕ
behind [] = []
behind (x ∷ xs) = xs

pub first_and_rest : (xs : List ℕ) (x : ℕ) → 0 < length xs → x ≡ slice_index_or xs 0 x → xs ≡ x ∷ behind xs
first_and_rest [] x some is = absurd (omega (arith, some))
first_and_rest (y ∷ ys) x some is = ap (λ (z : ℕ). z ∷ ys) (sym is)

-- a release that waits is work, and nothing is begun
pub release_work : (d : Disk) (b : Parts) (s : State) → IsVolume d b s → 0 < deque_len b.reclaiming.releases
    → b.reclaiming.raised ≡ None → MayWork (release_stand b)
release_work d b s v some unraised = record {
  some = λ rests.
      let waits = v.reclaiming.waiting in
      let none : one_if b.reclaiming.raised ≡ 0 = ap (λ (x : Option DyingPlace). one_if x) unraised in
      omega (arith, waits, none, rests, some, b.reclaiming.releases.ok.0);
  loose = λ holder none. none;
}

pub not_begun : (b : Parts) → b.reclaiming.zero_check ≡ None → b.reclaiming.raised ≡ None
    → IsSome b.reclaiming.zero_check ⊎ IsSome b.reclaiming.raised → ⊥
not_begun b unchecked unraised begun = ⊎_elim (λ some. clash b.reclaiming.zero_check unchecked some) (λ some. clash b.reclaiming.raised unraised some)
    begun
  where
    clash : {X : Type 0} (o : Option X) → o ≡ None → IsSome o → ⊥
    clash None none some = cc some
    clash (Some x) none some = cc none

module _ {D F : Type 0} (state : D → State) (w : Volume D F) (slot : ℕ) (some : 0 < deque_len w.parts.reclaiming.releases)
    (front : slot ≡ slice_index_or w.parts.reclaiming.releases.items 0 slot) where
  abbrev rest : List ℕ
  rest = behind w.parts.reclaiming.releases.items

  split : w.parts.reclaiming.releases.items ≡ slot ∷ rest
  split = first_and_rest w.parts.reclaiming.releases.items slot (omega (arith, some, w.parts.reclaiming.releases.ok.0)) front

  pub may_settle : Agrees state w → w.parts.stopped ≡ false → HasRowWith (state w.device).now w.parts.fact slot MaySettleDown
  may_settle agrees running = let found = running_disk state w running agrees in front_with found.0 w.parts (state w.device) found.1 slot rest split

  pub two_wait : Agrees state w → w.parts.stopped ≡ false → w.parts.reclaiming.raised ≡ None → 2 ≤ w.parts.reclaiming.waiting
  two_wait agrees running unraised =
      let found = running_disk state w running agrees in
      let waits = found.1.reclaiming.waiting in
      let none : one_if w.parts.reclaiming.raised ≡ 0 = ap (λ (x : Option DyingPlace). one_if x) unraised in
      let long : length w.parts.reclaiming.releases.items ≡ 1 + length rest = ap (λ (xs : List ℕ). length xs) split ∙ omega arith in
      omega (arith, waits, none, long)

  -- there is work, and less of it afterwards
  pub may_work : Agrees state w → w.parts.stopped ≡ false → w.parts.reclaiming.raised ≡ None
      → MayWork (release_stand w.parts)
  may_work agrees running unraised = record {
    some = λ rests. let two = two_wait agrees running unraised in omega (arith, two, rests);
    loose = λ holder none. none;
  }

  pub waits_less : (b' : Parts) (word : ℕ) → SettlesRelease slot word w.parts b'
      → b'.reclaiming.waiting < w.parts.reclaiming.waiting
  waits_less b' word change = falls (word == 0) change.waiting
    where
      falls : (t : Bool) → b'.reclaiming.waiting + (if t then 1 else 2) ≡ w.parts.reclaiming.waiting
          → b'.reclaiming.waiting < w.parts.reclaiming.waiting
      falls true is = omega (arith, is)
      falls false is = omega (arith, is)

  pub lowers : (b' : Parts) (word left : ℕ) → SettlesRelease slot word w.parts b'
      → left ≡ b'.reclaiming.waiting + cleaning_events b'.reclaiming.cleaning → ReleaseLowers w.parts b' left
  lowers b' word left change told = record {
    left_is = told;
    less = waits_less b' word change;
    cleaning = change.kept.cleaning;
    sharing = change.sharing;
    queue = change.kept.queue;
    pages = used_same w.parts b' change.kept.free change.kept.cleaning;
  }

  pub left_small : (b' : Parts) (word : ℕ) → SettlesRelease slot word w.parts b' → Agrees state w → w.parts.stopped ≡ false
      → b'.reclaiming.waiting + cleaning_events b'.reclaiming.cleaning < 2 ^ 64
  left_small b' word change agrees running =
      let less = waits_less b' word change in
      left_falls state w agrees running b' (omega (arith, less)) change.kept.cleaning

  module _ (w' : Volume D F) (only : StoresOnly (λ a. a ≡ slot_word w.parts.fact.geometry slot 4) (state w.device) (state w'.device))
      (agree : Agree (state w'.device).now (state w'.device).past) (leaves : LeavesTables down w.parts.fact slot (state w.device) (state w'.device))
      (faults : (state w.device).faults ≤ (state w'.device).faults) where
    -- it failed
    module _ (stops : Stops w.parts w'.parts) where
      pub fails : (print : Print) (d : Disk) → IsVolume d w.parts (state w.device) → Rose (state w.device).faults (state w'.device).faults
          → Breaks state print 16 None w w' d
      fails print d v rose =
          let row = front_row d w.parts (state w.device) v slot rest split in
          event_breaks state print down 16 w w' d slot 0 row.row v row.is (front_down d w.parts (state w.device) v slot rest split).may stops only
          agree leaves faults rose

      pub stopped_agrees : (print : Print) → Agrees state w → w.parts.stopped ≡ false → Agrees state w'
      stopped_agrees print agrees running =
          let found = running_disk state w running agrees in
          let row = front_row found.0 w.parts (state w.device) found.1 slot rest split in
          is_stopped (event_stopped state print down 16 w w' found.0 slot 0 row.row found.1 row.is (front_down found.0 w.parts (state w.device)
          found.1 slot rest split).may stops only)

    -- it succeeded
    module _ (word : ℕ) (change : SettlesRelease slot word w.parts w'.parts) (unchecked : w.parts.reclaiming.zero_check ≡ None)
        (unraised : w.parts.reclaiming.raised ≡ None)
        (settles : SettlesTable down w.parts.fact slot (state w.device) (state w'.device)) (own : SettlesAll 16 (state w.device) (state w'.device))
        (others : KeepsFlushed (Others 16) (λ a. a ≡ slot_word w.parts.fact.geometry slot 4) (state w.device) (state w'.device))
        (is_word : IsWordAfter down (state w.device).now w.parts.fact slot word) (units : w.parts.owed.units + RELEASE_UNITS ≤ (state w.device).spare)
        (spare : (state w.device).spare ≤ (state w'.device).spare + 3)
        (trace_room : vec_len w.parts.trace + w.parts.owed.trace + 1 ≤ vec_capacity w.parts.trace) where
      pub succeeds : (print : Print) (d : Disk) → IsVolume d w.parts (state w.device) → MovesOn state print 16 w w' d
      succeeds print d v =
          let row = front_row d w.parts (state w.device) v slot w'.parts.reclaiming.releases.items change.releases in
          event_moves state print down 16 w w' d slot word row.row v agree
          (release_event d w.parts w'.parts (state w.device) (state w'.device) v slot word change unchecked unraised
          (record { at_slot = row.is; only = only; leaves = leaves; settles = settles; own = own; others = others; faults = faults }) is_word units
          spare trace_room)

      pub agrees_after : (print : Print) → Agrees state w → w.parts.stopped ≡ false → Agrees state w'
      agrees_after print agrees running =
          let found = running_disk state w running agrees in
          let moves = succeeds print found.0 found.1 in
          agrees_with moves.after moves.moves.volume
