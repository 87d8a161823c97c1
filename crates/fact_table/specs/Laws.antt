-- Words hold a table, or have one fault.
use Rattle.std.specs.Prelude.{◌≡◌, ◌≢◌, ℕ, List}
use Rattle.pm_layout.specs.declared.Geometry.{Geometry}
use Rattle.fact_table.specs.Table.{Table, HasTable}
use Rattle.fact_table.specs.Loaded.{IsFaultOf}
use Rattle.fact_table.specs.declared.load.FactFault.{FactFault}
use Rattle.fact_table.specs.declared.load.FactFault.TheVariants.{NoMemory}

-- one fault at most, of the words alone
abbrev pub HasOneFault : Type 0
HasOneFault = (g : Geometry) (words : List ℕ) (x y : FactFault) → x ≢ NoMemory → y ≢ NoMemory
    → IsFaultOf g words x → IsFaultOf g words y → x ≡ y

-- and none where there is a table
abbrev pub HasTableOrFault : Type 0
HasTableOrFault = (words : List ℕ) (t : Table) (x : FactFault) → HasTable words t → x ≢ NoMemory
    → IsFaultOf t.geometry words x → ⊥
