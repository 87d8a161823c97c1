-- The rows that an operation in flight raises are there, and their counts have room.
use Rattle.std.proofs.Common.{◌≡◌, ℕ, ◌+◌, ◌^◌, ◌<◌, ◌≤◌, [], ◌∷◌, length, sym, subst, arith}
use Rattle.std.specs.Prelude.{slice_index, Option, Some, None, All}
use Rattle.std.proofs.lemmas.List.Elements.{All-get_or}
use Rattle.pm_device.specs.State.{State}
use Rattle.dn_model.specs.Table.{Row}
use Rattle.dn_model.specs.Disk.{Disk}
use Rattle.dn_model.specs.Counts.{total}
use Rattle.dn_model.specs.declared.op.Op.{Op}
use Rattle.dn_model.specs.declared.op.Op.TheVariants.{Create, Write, Read, Cut, Remove, Rename, Size, List as ListAll}
use Rattle.law_write.proofs.Counting.{total-le}
use Rattle.fact_table.specs.Table.{IsAtSlot, HasRow}
use Rattle.fact_counts.specs.Counted.{MayRaise}
use Rattle.dn_volume.specs.declared.flight.Flight.{Flight}
use Rattle.dn_volume.specs.declared.flight.Change.{Change}
use Rattle.dn_volume.specs.declared.flight.Change.TheVariants.{Data}
use Rattle.dn_volume.specs.declared.flight.DataChange.{DataChange}
use Rattle.dn_volume.specs.declared.background.Sharing.{Sharing}
use Rattle.dn_volume.specs.declared.background.SharingStep.{SharingStep}
use Rattle.dn_volume.specs.declared.background.SharingStep.TheVariants.{Look, Remap, Settle}
use Rattle.dn_volume.specs.declared.background.DyingPlace.{DyingPlace}
use Rattle.dn_volume.specs.declared.volume.Parts.{Parts}
use Rattle.dn_volume.specs.Parties.{Flies, flight_at}
use Rattle.dn_volume.specs.Planned.{PlansData}
use Rattle.dn_volume.specs.Flights.{IsFlightOf}
use Rattle.dn_volume.specs.Reclaims.{one_if}
use Rattle.dn_volume.specs.Reserve.{owed_to, owed_sum}
use Rattle.dn_volume.specs.Balance.{times, raised_by, raised_at, added_at, raised_to_share, added_to_share, raised_to_die}
use Rattle.dn_volume.specs.Agrees.{IsVolume}
use Rattle.dn_volume.proofs.Times.{times-le, times-take}
use Rattle.dn_volume.proofs.RowSlots.{balance_at, row_slots_there}

raised_few : (slot : ℕ) (r : Option Flight) → times slot (raised_by r) ≤ (owed_to r).releases
raised_few slot None = omega arith
raised_few slot (Some f) = times-take slot f.raised f.rows.items

shared_few : (slot : ℕ) (r : Option Sharing) → times slot (raised_to_share r) + times slot (added_to_share r) ≤ 1
shared_few slot None = omega arith
shared_few slot (Some sharing) = by_step sharing.step
  where
    by_step : (step : SharingStep) → times slot (raised_at step) + times slot (added_at step) ≤ 1
    by_step Look = omega arith
    by_step (Remap x) = let most = times-le slot (x ∷ []) in omega (arith, most)
    by_step (Settle x inserted) = let most = times-le slot (x ∷ []) in omega (arith, most)

died_few : (slot : ℕ) (r : Option DyingPlace) → times slot (raised_to_die r) ≤ one_if r
died_few slot None = omega arith
died_few slot (Some p) = times-le slot (p.slot ∷ [])

-- a row's update count has room for one more
module _ (d : Disk) (b : Parts) (s : State) (v : IsVolume d b s) where
  pub may_raise : (slot : ℕ) (row : Row) → IsAtSlot d slot row → MayRaise row
  may_raise slot row is =
      let balance = balance_at d b s v slot row is in
      let flown : total 14 (λ k. times slot (raised_by (flight_at b.flights.items k))) ≤ owed_sum b (λ room. room.releases) =
      total-le (λ k. (owed_to (flight_at b.flights.items k)).releases) (λ k. times slot (raised_by (flight_at b.flights.items k))) 14
      (λ k lt. raised_few slot (flight_at b.flights.items k)) in
      let shared = shared_few slot b.sharing in
      let died = died_few slot b.reclaiming.raised in
      let fell = times-le slot b.reclaiming.releases.items in
      few row.uc (total 14 (λ k. times slot (raised_by (flight_at b.flights.items k)))) (times slot (raised_to_share b.sharing))
      (times slot (raised_to_die b.reclaiming.raised)) (times slot (added_to_share b.sharing))
      (times slot b.reclaiming.releases.items) (owed_sum b (λ room. room.releases)) (one_if b.reclaiming.raised) (length b.reclaiming.releases.items)
      balance.updates flown shared died fell v.counts.few
    where
      few : (uc p q r a z sum one len : ℕ) → uc ≡ p + q + r + a + z → p ≤ sum → q + a ≤ 1 → r ≤ one → z ≤ len → len + sum + one ≤ 1105920
          → uc + 1 < 2 ^ 32
      few uc p q r a z sum one len is first second third fourth most = omega (arith, is, first, second, third, fourth, most)

  -- the next row of an operation is there
  pub next_row : (who : ℕ) (f : Flight) (c : DataChange) → Flies b who f → f.change ≡ Data c → f.raised < length f.rows.items
      → HasRow d (slice_index f.rows.items f.raised)
  next_row who f c flies data_is some =
      let is = subst (λ (x : Change). IsFlightOf d who f s x) data_is (v.flights.each who f flies) in
      All-get_or (HasRow d) f.rows.items f.raised 0 some (planned f.op is.plans)
    where
      planned : (op : Op) → PlansData d f c op → All (HasRow d) f.rows.items
      planned (Create name) is = absurd is
      planned (Write name at text) is = subst (All (HasRow d)) (sym is.rows) (row_slots_there d _ _ _)
      planned (Read name at count) is = absurd is
      planned (Cut name to) is = subst (All (HasRow d)) (sym is.rows) (row_slots_there d _ _ _)
      planned (Remove name) is = absurd is
      planned (Rename from to) is = absurd is
      planned (Size name) is = absurd is
      planned ListAll is = absurd is
