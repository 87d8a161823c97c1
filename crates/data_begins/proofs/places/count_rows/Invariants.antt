use Rattle.std.proofs.Common.{◌≡◌, ◌≤◌, ℕ, length}
use Rattle.fact_table.specs.Table.{IsTable}
use Rattle.dn_model.specs.Disk.{Disk}
use Rattle.dn_volume.specs.Planned.{row_slots}
use Rattle.data_begins.specs.Places.{ArePlacesOf}
use Rattle.data_begins.proofs.places.count_rows.Given as goal

abbrev pub invariant-loop-i : goal.invariant-loop-i
invariant-loop-i g l = (l.count ≤ l.i) × ((d : Disk) (ino : ℕ) → IsTable d (g.D.Pm.state l.device).now l.fact → ArePlacesOf d ino l.map.map
    → l.count ≡ length (row_slots d ino l.first l.i))
