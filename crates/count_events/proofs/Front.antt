-- The row of the first release may be settled down.
use Rattle.std.proofs.Common.{◌≡◌, inl, inr, ℕ, ◌+◌, ◌≤◌, Bool, List, [], ◌∷◌, refl, sym, ◌∙◌, ap, subst, arith}
use Rattle.std.specs.Prelude.{Option, Some, None, if◌then◌else◌}
use Rattle.std.proofs.lemmas.Bool.{cases_eq}
use Rattle.pm_device.specs.State.{State}
use Rattle.dn_model.specs.Table.{Row}
use Rattle.dn_model.specs.Disk.{Disk, rows}
use Rattle.dn_model.specs.Counts.{mappings}
use Rattle.law_write.proofs.MappedPlaces.{maps-in_file}
use Rattle.law_write.proofs.WriteValid.{mapped_counts}
use Rattle.law_table.proofs.Rows.{same_test, other_test, distinct_same}
use Rattle.fact_table.specs.Table.{IsAtSlot, HasRow}
use Rattle.fact_counts.specs.Standing.{HasRowWith}
use Rattle.fact_counts.specs.Counted.{MaySettleDown}
use Rattle.dn_volume.specs.declared.background.Sharing.{Sharing}
use Rattle.dn_volume.specs.declared.background.SharingStep.{SharingStep}
use Rattle.dn_volume.specs.declared.background.SharingStep.TheVariants.{Look, Remap, Settle}
use Rattle.dn_volume.specs.declared.volume.Parts.{Parts}
use Rattle.dn_volume.specs.Balance.{times, added_at, added_to_share, added, dropped}
use Rattle.dn_volume.specs.Shares.{IsAtStep, IsToSettle}
use Rattle.dn_volume.specs.Agrees.{IsVolume}
use Rattle.dn_volume.proofs.Tables.{is_table}
use Rattle.dn_volume.proofs.Times.{times_first}
use Rattle.dn_volume.proofs.RowSlots.{balance_at}

module _ (d : Disk) (b : Parts) (s : State) (v : IsVolume d b s) where
  -- a mapping that the daemon has added there is one of the row's page
  module _ (slot : ℕ) (row : Row) (is : IsAtSlot d slot row) where
    settle_maps : (sharing : Sharing) → b.sharing ≡ Some sharing → IsToSettle d sharing slot → 1 ≤ mappings d row.page
    settle_maps sharing begun to =
        let same : to.row ≡ row = distinct_same (λ (x : Row). x.slot) (rows d) v.fast.valid.rows_apart.slot to.row row to.at_slot.there is.there
        (to.at_slot.slot_is ∙ sym is.slot_is) in
        let item = (v.sharing sharing begun).begun in
        mapped_counts d row.page (record {
          ino = sharing.work.ino;
          idx = sharing.first + sharing.done;
          maps_to = record {
            in_table = item.in_table;
            in_file = maps-in_file d v.fast.valid sharing.work.ino (sharing.first + sharing.done) to.by item.in_table to.mapped;
            by = to.by;
            is = to.mapped;
            block = to.on_page ∙ ap (λ (x : Row). x.page) same;
          };
        })

    pub added_maps : added b slot ≤ mappings d row.page
    added_maps = by_sharing b.sharing refl
      where
        by_step : (sharing : Sharing) → b.sharing ≡ Some sharing → (step : SharingStep) → IsAtStep d sharing step
            → times slot (added_at step) ≤ mappings d row.page
        by_step sharing begun Look at = omega arith
        by_step sharing begun (Remap other) at = omega arith
        by_step sharing begun (Settle other inserted) at = elim (cases_eq other slot) [
          | inl here ↦
              let some = settle_maps sharing begun (subst (IsToSettle d sharing) here at) in
              let one : times slot (other ∷ []) ≡ 1 = ap (λ (t : Bool). (if t then 1 else 0) + 0) (same_test other slot here) in
              omega (arith, one, some)
          | inr there ↦ let none : times slot (other ∷ []) ≡ 0 = ap (λ (t : Bool). (if t then 1 else 0) + 0) (other_test other slot there) in
              omega (arith, none)
        ]

        by_sharing : (x : Option Sharing) → b.sharing ≡ x → times slot (added_to_share b.sharing) ≤ mappings d row.page
        by_sharing None none = let zero : times slot (added_to_share b.sharing) ≡ 0 = ap (λ (x : Option Sharing). times slot (added_to_share x))
            none in omega (arith, zero)
        by_sharing (Some sharing) begun =
            let there : times slot (added_to_share b.sharing) ≡ times slot (added_at sharing.step) = ap
            (λ (x : Option Sharing). times slot (added_to_share x)) begun in
            omega (arith, there, by_step sharing begun sharing.step (v.sharing sharing begun).step)

  -- the first release
  module _ (slot : ℕ) (rest : List ℕ) (front : b.reclaiming.releases.items ≡ slot ∷ rest) where
    pub dropped_here : dropped b slot ≡ 1 + times slot rest
    dropped_here = ap (times slot) front ∙ times_first slot rest

    pub front_row : HasRow d slot
    front_row = v.counts.there slot (omega (arith, dropped_here))

    pub front_may : MaySettleDown front_row.row
    front_may =
        let balance = balance_at d b s v slot front_row.row front_row.is in
        let most = added_maps slot front_row.row front_row.is in
        (omega (arith, balance.updates, dropped_here), omega (arith, balance.references, dropped_here, most))

    pub front_with : HasRowWith s.now b.fact slot MaySettleDown
    front_with = record { disk = d; table = is_table d b s v; row = front_row.row; at_slot = front_row.is; has = front_may }
