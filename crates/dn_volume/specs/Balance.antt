-- The counts of rows, with what is under way.
use Rattle.std.specs.Prelude.{
  ◌≡◌,
  ℕ,
  ◌+◌,
  ◌≤◌,
  if◌then◌else◌,
  ◌==◌,
  List,
  [],
  ◌∷◌,
  length,
  take,
  Option,
  Some,
  None,
  Contains,
  All,
}
use Rattle.dn_model.specs.Table.{Row}
use Rattle.dn_model.specs.Disk.{Disk, rows}
use Rattle.dn_model.specs.Counts.{total}
use Rattle.law_table_on_disk.specs.BalanceLaws.{IsBalanced}
use Rattle.fact_table.specs.Table.{HasRow}
use Rattle.dn_volume.specs.declared.flight.Flight.{Flight}
use Rattle.dn_volume.specs.declared.background.Sharing.{Sharing}
use Rattle.dn_volume.specs.declared.background.SharingStep.{SharingStep}
use Rattle.dn_volume.specs.declared.background.SharingStep.TheVariants.{Look, Remap, Settle}
use Rattle.dn_volume.specs.declared.background.DyingPlace.{DyingPlace}
use Rattle.dn_volume.specs.declared.volume.Parts.{Parts}
use Rattle.dn_volume.specs.Parties.{flight_at}
use Rattle.dn_volume.specs.Reclaims.{one_if}
use Rattle.dn_volume.specs.Reserve.{owed_sum}

-- how often a slot stands in a list
abbrev pub times : ℕ → List ℕ → ℕ
times slot [] = 0
times slot (other ∷ slots) = (if other == slot then 1 else 0) + times slot slots

-- the slots of the rows that an operation has raised, one for each time
abbrev pub raised_by : Option Flight → List ℕ
raised_by None = []
raised_by (Some f) = take f.raised f.rows.items

-- the row that the daemon has raised, and the one whose new mapping it hasn't settled
abbrev pub raised_at : SharingStep → List ℕ
raised_at Look = []
raised_at (Remap slot) = slot ∷ []
raised_at (Settle slot inserted) = []

abbrev pub added_at : SharingStep → List ℕ
added_at Look = []
added_at (Remap slot) = []
added_at (Settle slot inserted) = slot ∷ []

abbrev pub raised_to_share : Option Sharing → List ℕ
raised_to_share None = []
raised_to_share (Some sharing) = raised_at sharing.step

abbrev pub added_to_share : Option Sharing → List ℕ
added_to_share None = []
added_to_share (Some sharing) = added_at sharing.step

-- the row that reclaim has raised
abbrev pub raised_to_die : Option DyingPlace → List ℕ
raised_to_die None = []
raised_to_die (Some place) = place.slot ∷ []

-- how many updates of a row are raised and not committed, have added a mapping, or have dropped one
abbrev pub raised : Parts → ℕ → ℕ
raised b slot = total 14 (λ k. times slot (raised_by (flight_at b.flights.items k))) + times slot
    (raised_to_share b.sharing) + times slot (raised_to_die b.reclaiming.raised)

abbrev pub added : Parts → ℕ → ℕ
added b slot = times slot (added_to_share b.sharing)

abbrev pub dropped : Parts → ℕ → ℕ
dropped b slot = times slot b.reclaiming.releases.items

-- Each row's counts tell its page's mappings and what is under way; what is under way is a row's;
-- and a row whose counts
-- are 0 is to be looked at. The waiting releases and those to come are few: an operation begins
-- only where its own come to
-- at most 1,048,576 with those that wait, and each other in flight has at most 4,096.
pub record AreCounted (d : Disk) (b : Parts) : Type 0 where
  pub balanced : All (λ (row : Row). IsBalanced d row (raised b row.slot) (added b row.slot)
      (dropped b row.slot)) (rows d)
  pub there : (slot : ℕ) → 1 ≤ raised b slot + added b slot + dropped b slot → HasRow d slot
  pub zero_checked : (row : Row) → Contains (rows d) row → row.rfc ≡ 0 → row.uc ≡ 0
      → b.reclaiming.zero_check ≡ Some row.slot
  pub few : length b.reclaiming.releases.items + owed_sum b (λ room. room.releases) + one_if
      b.reclaiming.raised ≤ 1105920
