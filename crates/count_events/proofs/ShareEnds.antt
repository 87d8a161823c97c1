-- The event of a settling, from what its calls give.
use Rattle.std.proofs.Common.{◌≡◌, ℕ, ◌+◌, ◌-◌, ◌*◌, ◌<◌, ◌≤◌, Bool, true, false, List, length, refl, ◌∙◌, ap, subst, arith}
use Rattle.std.specs.Prelude.{Option, None, Some, if◌then◌else◌, nat_lt, vec_len, vec_capacity}
use Rattle.pm_device.specs.State.{State, Agree, Rose}
use Rattle.pm_device.specs.Settled.{StoresOnly, KeepsFlushed, Others, SettlesAll}
use Rattle.pm_layout.specs.Geometry.{slot_word}
use Rattle.dn_model.specs.Disk.{Disk}
use Rattle.dn_model.specs.Own.{Print}
use Rattle.fact_counts.specs.Standing.{HasRowWith}
use Rattle.fact_counts.specs.Counted.{up, MaySettleUp, LeavesTables, SettlesTable}
use Rattle.dn_volume.specs.declared.background.Sharing.{Sharing}
use Rattle.dn_volume.specs.declared.volume.Volume.{Volume}
use Rattle.dn_volume.specs.Agrees.{IsVolume, Agrees, agrees_with, is_stopped}
use Rattle.dn_volume.specs.Events.{MovesOn, Breaks}
use Rattle.dn_volume.specs.Works.{MayWork, DaemonLowers, daemon_stand, sharing_events, step_events}
use Rattle.dn_volume.specs.declared.background.SharingStep.{SharingStep}
use Rattle.dn_volume.specs.declared.background.SharingStep.TheVariants.{Look, Settle}
use Rattle.dn_volume.specs.declared.volume.Parts.{Parts}
use Rattle.dedupe_queue.specs.declared.Work.{Work}
use Rattle.std.proofs.lemmas.Bool.Decides.{nat_tests}
use Rattle.dn_volume.proofs.Tables.{running_disk}
use Rattle.count_events.specs.Released.{Stops, IsWordAfter}
use Rattle.count_events.specs.Shared.{IsAtSettle, SettlesShare}
use Rattle.count_events.proofs.UsedPages.{used_same}
use Rattle.count_events.proofs.Event.{event_moves, event_stopped, event_breaks}
use Rattle.count_events.proofs.ShareParts.{
  same_sharing,
  to_settle,
  settle_some,
  settle_with,
  settle_recounts,
  share_owes_units,
  share_owes_change,
  share_has_trace,
  share_has_units,
  share_event,
}

less_test : (a b : ℕ) → a < b → nat_lt a b ≡ true
less_test a b lt = grind (arith, nat_tests, lt)

is_less : (a b : ℕ) → nat_lt a b ≡ true → a < b
is_less a b is = grind (arith, nat_tests, is)

-- an item that is begun is work, and nobody holds it up
pub share_work : (d : Disk) (b : Parts) (slot : ℕ) → IsAtSettle b slot → MayWork (daemon_stand d b)
share_work d b slot to = record {
  some = λ rests. clash b.sharing rests.none_begun to.begun;
  loose = λ holder held. clash b.sharing held.none_begun to.begun;
}
  where
    clash : (o : Option Sharing) → o ≡ None → o ≡ Some to.sharing → ⊥
    clash o none some = cc

module _ {D F : Type 0} (state : D → State) (w : Volume D F) (slot : ℕ) (to : IsAtSettle w.parts slot) where
  module _ (agrees : Agrees state w) (running : w.parts.stopped ≡ false) where
    pub row_may_settle : HasRowWith (state w.device).now w.parts.fact slot MaySettleUp
    row_may_settle = let found = running_disk state w running agrees in settle_with found.0 w.parts (state w.device) found.1 slot to

    pub share_units_there : 3 ≤ (state w.device).spare
    share_units_there = let found = running_disk state w running agrees in share_has_units found.0 w.parts (state w.device) found.1 slot to

    pub share_trace_there : vec_len w.parts.trace < vec_capacity w.parts.trace
    share_trace_there = let found = running_disk state w running agrees in share_has_trace found.0 w.parts (state w.device) found.1 slot to

    pub share_units_owed : 3 ≤ w.parts.owed.units
    share_units_owed = let found = running_disk state w running agrees in share_owes_units found.0 w.parts (state w.device) found.1 slot to

    pub share_change_owed : 1 ≤ w.parts.owed.trace
    share_change_owed = let found = running_disk state w running agrees in share_owes_change found.0 w.parts (state w.device) found.1 slot to

    pub share_some : (sharing : Sharing) → w.parts.sharing ≡ Some sharing → sharing.done < sharing.count
    share_some sharing is =
        let found = running_disk state w running agrees in
        subst (λ (x : Sharing). x.done < x.count) (same_sharing w.parts to.sharing sharing to.begun is) (settle_some found.0 w.parts (state w.device)
        found.1 slot to)

  pub share_lowers : (b' : Parts) (word : ℕ) → SettlesShare slot word w.parts b'
      → Agrees state w → w.parts.stopped ≡ false → DaemonLowers w.parts b' (sharing_events b'.sharing)
  share_lowers b' word change agrees running = record {
    left_is = refl;
    less =
        let queued = ap (λ (ws : List Work). length ws) change.kept.queue in
        let before = ap (λ (o : Option Sharing). sharing_events o) to.begun in
        let after = ap (λ (o : Option Sharing). sharing_events o) (change.sharing to.sharing to.begun) in
        let one = falls to.sharing to.inserted to.step (share_some agrees running to.sharing to.begun) in
        omega (arith, queued, before, after, one);
    waiting = change.waiting;
    pages = used_same w.parts b' change.kept.free change.kept.cleaning;
  }
    where
      some_left : (inserted : Bool) → 1 ≤ step_events (Settle slot inserted)
      some_left true = omega arith
      some_left false = omega arith

      falls : (x : Sharing) (inserted : Bool) → x.step ≡ Settle slot inserted → x.done < x.count
          → sharing_events (Some (record x { done = x.done + 1; step = Look })) < sharing_events (Some x)
      falls x inserted step some =
          let test = less_test x.done x.count some in
          let left = some_left inserted in
          let was : sharing_events (Some x) ≡ 3 * (x.count - x.done - 1) + step_events (Settle slot inserted) + 1 =
          ap (λ (t : Bool). if t then 3 * (x.count - x.done - 1) + step_events x.step + 1 else 1) test
          ∙ ap (λ (st : SharingStep). 3 * (x.count - x.done - 1) + step_events st + 1) step in
          by (nat_lt (x.done + 1) x.count) refl (omega (arith, was, left))
        where
          by : (t : Bool) → nat_lt (x.done + 1) x.count ≡ t → 3 * (x.count - x.done - 1) + 1 + 1 ≤ sharing_events (Some x)
              → sharing_events (Some (record x { done = x.done + 1; step = Look })) < sharing_events (Some x)
          by true is was =
              let now = ap (λ (t : Bool). if t then 3 * (x.count - (x.done + 1) - 1) + 3 + 1 else 1) is in
              let lt = is_less (x.done + 1) x.count is in
              omega (arith, now, was, lt)
          by false is was =
              let now = ap (λ (t : Bool). if t then 3 * (x.count - (x.done + 1) - 1) + 3 + 1 else 1) is in
              omega (arith, now, was)

  module _ (w' : Volume D F) (only : StoresOnly (λ a. a ≡ slot_word w.parts.fact.geometry slot 4) (state w.device) (state w'.device))
      (agree : Agree (state w'.device).now (state w'.device).past) (leaves : LeavesTables up w.parts.fact slot (state w.device) (state w'.device))
      (faults : (state w.device).faults ≤ (state w'.device).faults) where
    module _ (stops : Stops w.parts w'.parts) (print : Print) (d : Disk) (v : IsVolume d w.parts (state w.device)) where
      pub share_stops : Agrees state w'
      share_stops =
          let has = to_settle d w.parts (state w.device) v slot to in
          is_stopped (event_stopped state print up 15 w w' d slot 0 has.row v has.at_slot (settle_recounts d w.parts (state w.device) v slot to) stops
          only)

      pub share_fails : Rose (state w.device).faults (state w'.device).faults → Breaks state print 15 None w w' d
      share_fails rose =
          let has = to_settle d w.parts (state w.device) v slot to in
          event_breaks state print up 15 w w' d slot 0 has.row v has.at_slot (settle_recounts d w.parts (state w.device) v slot to) stops only agree
          leaves faults rose

    module _ (word : ℕ) (change : SettlesShare slot word w.parts w'.parts) (settles : SettlesTable up w.parts.fact slot (state w.device)
        (state w'.device)) (own : SettlesAll 15 (state w.device) (state w'.device))
        (others : KeepsFlushed (Others 15) (λ a. a ≡ slot_word w.parts.fact.geometry slot 4) (state w.device) (state w'.device))
        (is_word : IsWordAfter up (state w.device).now w.parts.fact slot word) (spare : (state w.device).spare ≤ (state w'.device).spare + 3) where
      pub share_moves : (print : Print) (d : Disk) → IsVolume d w.parts (state w.device) → MovesOn state print 15 w w' d
      share_moves print d v =
          let has = to_settle d w.parts (state w.device) v slot to in
          event_moves state print up 15 w w' d slot word has.row v agree
          (share_event d w.parts (state w.device) v slot to w'.parts (state w'.device) word change spare
          (record { at_slot = has.at_slot; only = only; leaves = leaves; settles = settles; own = own; others = others; faults = faults }) is_word)

      pub share_agrees : (print : Print) → Agrees state w → w.parts.stopped ≡ false → Agrees state w'
      share_agrees print agrees running = let found = running_disk state w running agrees in let moves = share_moves print found.0 found.1 in
          agrees_with moves.after moves.moves.volume
