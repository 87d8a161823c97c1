-- How many releases may come of what is in flight: each operation has at most 4,096 rows, so that where one begins beside
-- 13 others the releases stay within their bound.
use Rattle.std.proofs.Common.{◌≡◌, ℕ, zero, suc, ◌+◌, ◌*◌, ◌-◌, ◌<◌, ◌≤◌, Bool, true, false, List, [], length, length-append, refl, ◌∙◌, ap, arith}
use Rattle.std.specs.Prelude.{Option, Some, None, if◌then◌else◌, ◌==◌}
use Rattle.pm_device.specs.State.{State}
use Rattle.dn_model.specs.Maps.{Mapping}
use Rattle.dn_model.specs.Table.{Row, row_of}
use Rattle.dn_model.specs.Disk.{Disk, maps, rows}
use Rattle.dn_model.specs.declared.op.Op.{Op}
use Rattle.dn_model.specs.declared.op.Op.TheVariants.{Create, Write, Read, Cut, Remove, Rename, Size, List as ListAll}
use Rattle.law_write.proofs.Counting.{total-change}
use Rattle.law_table.proofs.Rows.{same_test, other_test}
use Rattle.dn_volume.specs.declared.flight.Flight.{Flight}
use Rattle.dn_volume.specs.declared.flight.Change.{Change}
use Rattle.dn_volume.specs.declared.flight.Change.TheVariants.{Data, Names}
use Rattle.dn_volume.specs.declared.flight.DataChange.{DataChange}
use Rattle.dn_volume.specs.declared.volume.Parts.{Parts}
use Rattle.dn_volume.specs.Parties.{Flies, flight_at}
use Rattle.dn_volume.specs.Planned.{PlansData, gone_from, slot_of, slot_of_row, row_slots}
use Rattle.dn_volume.specs.Flights.{IsFlightOf}
use Rattle.dn_volume.specs.Reclaims.{one_if}
use Rattle.dn_volume.specs.Reserve.{owed_to, owed_sum}
use Rattle.dn_volume.specs.Agrees.{IsVolume}
use Rattle.dn_volume.proofs.FewMappings.{total_of}

slot_few : (d : Disk) (m : Option Mapping) → length (slot_of d m) ≤ 1
slot_few d None = omega arith
slot_few d (Some m) = by_row (row_of (rows d) m.block)
  where
    by_row : (r : Option Row) → length (slot_of_row r) ≤ 1
    by_row None = omega arith
    by_row (Some row) = omega arith

pub row_slots_few : (d : Disk) (ino from n : ℕ) → length (row_slots d ino from n) ≤ n
unfolding row_slots
row_slots_few d ino from zero = omega arith
row_slots_few d ino from (suc n) =
    let both = length-append (slot_of d (maps d ino from)) (row_slots d ino (from + 1) n) in
    omega (arith, both, slot_few d (maps d ino from), row_slots_few d ino (from + 1) n)

module _ (d : Disk) (b : Parts) (s : State) (v : IsVolume d b s) where
  pub flight_few : (who : ℕ) (f : Flight) → Flies b who f → length f.rows.items ≤ 4096
  flight_few who f flies = by_change f.change (v.flights.each who f flies)
    where
      planned : (c : DataChange) → length c.blocks.items ≤ 17 → (op : Op) → PlansData d f c op → length f.rows.items ≤ 4096
      planned c few (Create name) is = absurd is
      planned c few (Write name at text) is = let long : length f.rows.items ≡ length (row_slots d f.ino c.first (length c.blocks.items)) = ap
          (λ (xs : List ℕ). length xs) is.rows in omega (arith, long, row_slots_few d f.ino c.first (length c.blocks.items), few)
      planned c few (Read name at count) is = absurd is
      planned c few (Cut name to) is = let long = ap (λ (xs : List ℕ). length xs) is.rows in let most = row_slots_few d f.ino
          (gone_from to c.blocks.items) (4096 - gone_from to c.blocks.items) in omega (arith, long, most)
      planned c few (Remove name) is = absurd is
      planned c few (Rename from to) is = absurd is
      planned c few (Size name) is = absurd is
      planned c few ListAll is = absurd is

      by_change : (x : Change) → IsFlightOf d who f s x → length f.rows.items ≤ 4096
      by_change (Data c) is = planned c is.few f.op is.plans
      by_change (Names c) is = let none = ap (λ (xs : List ℕ). length xs) is.no_rows in omega (arith, none)

  owed_few : (k : ℕ) (r : Option Flight) → flight_at b.flights.items k ≡ r → (owed_to r).releases ≤ 4096
  owed_few k None is = omega arith
  owed_few k (Some f) is = flight_few (suc k) f (record { client = omega arith; is = ap (flight_at b.flights.items) (omega arith) ∙ is })

  abbrev owed_at : ℕ → ℕ
  owed_at k = (owed_to (flight_at b.flights.items k)).releases

  pub flights_few : owed_sum b (λ room. room.releases) ≤ 14 * 4096
  flights_few = total_of owed_at 14 (λ k. owed_few k (flight_at b.flights.items k) refl)

  -- where a client has none in flight, the others have at most so many
  pub others_few : (k : ℕ) → k < 14 → flight_at b.flights.items k ≡ None → owed_sum b (λ room. room.releases) ≤ 13 * 4096
  others_few k lt none =
      let moved = total-change owed_at (λ j. if j == k then 4096 else owed_at j) 14 k lt (λ j ne. ap (λ (t : Bool). if t then 4096 else owed_at j)
      (other_test j k ne)) in
      let here : (if k == k then 4096 else owed_at k) ≡ 4096 = ap (λ (t : Bool). if t then 4096 else owed_at k) (same_test k k refl) in
      let was : owed_at k ≡ 0 = ap (λ (r : Option Flight). (owed_to r).releases) none in
      let most = total_of (λ j. if j == k then 4096 else owed_at j) 14 each in
      omega (arith, moved, here, was, most)
    where
      each : (j : ℕ) → (if j == k then 4096 else owed_at j) ≤ 4096
      each j = by_test (j == k)
        where
          by_test : (t : Bool) → (if t then 4096 else owed_at j) ≤ 4096
          by_test true = omega arith
          by_test false = owed_few j (flight_at b.flights.items j) refl

  -- so a begin keeps to the bound, and so does a raise of a dying place where no release waits
  pub begin_few : (k more : ℕ) → k < 14 → flight_at b.flights.items k ≡ None → length b.reclaiming.releases.items + more ≤ 1048576
      → length b.reclaiming.releases.items + (owed_sum b (λ room. room.releases) + more) + one_if b.reclaiming.raised ≤ 1105920
  begin_few k more lt none fits = let most = others_few k lt none in let one = at_most_one b.reclaiming.raised in omega (arith, fits, most, one)
    where
      at_most_one : {X : Type 0} (x : Option X) → one_if x ≤ 1
      at_most_one None = omega arith
      at_most_one (Some x) = omega arith

  pub dying_few : b.reclaiming.releases.items ≡ [] → length b.reclaiming.releases.items + owed_sum b (λ room. room.releases) + 1 ≤ 1105920
  dying_few none = let zero_long = ap (λ (xs : List ℕ). length xs) none in omega (arith, zero_long, flights_few)
