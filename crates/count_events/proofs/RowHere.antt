-- Two rows at one slot are one.
use Rattle.std.proofs.Common.{◌≡◌, ℕ, List, sym, ◌∙◌}
use Rattle.dn_model.specs.Table.{Row}
use Rattle.dn_model.specs.Disk.{Disk, rows}
use Rattle.law_table.proofs.Rows.{distinct_same}
use Rattle.fact_table.specs.Table.{Table, IsTable, IsAtSlot}

pub same_row : (d : Disk) (words : List ℕ) (t : Table) → IsTable d words t → (slot : ℕ) (one other : Row) → IsAtSlot d slot one
    → IsAtSlot d slot other → one ≡ other
same_row d words t table slot one other here there =
    distinct_same (λ (x : Row). x.slot) (rows d) table.good.apart.slot one other here.there there.there (here.slot_is ∙ sym there.slot_is)
