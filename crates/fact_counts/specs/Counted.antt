-- The counts of a row become others.
use Rattle.std.specs.Prelude.{◌≡◌, ◌⊎◌, ℕ, ◌+◌, ◌-◌, ◌^◌, ◌<◌, ◌≤◌, List}
use Rattle.pm_device.specs.State.{State}
use Rattle.pm_device.specs.Settled.{LeavesOnly}
use Rattle.fingerprint.specs.declared.count.CountWord.{CountWord}
use Rattle.dn_model.specs.Table.{Row}
use Rattle.dn_model.specs.Disk.{Disk}
use Rattle.law_table.specs.Changes.{recounted}
use Rattle.law_table.specs.Words.{HoldsTable}
use Rattle.fact_table.specs.Table.{Table, IsTable, IsSettledTable, IsAtSlot}

-- what the counts of a row become: with one update more under way
abbrev pub raised : Row → CountWord
raised row = record { rfc = row.rfc; uc = row.uc + 1 }

-- with an update made that adds a reference, or takes one away
abbrev pub up : Row → CountWord
up row = record { rfc = row.rfc + 1; uc = row.uc - 1 }

abbrev pub down : Row → CountWord
down row = record { rfc = row.rfc - 1; uc = row.uc - 1 }

-- so many references, and no update under way
abbrev pub counted : ℕ → Row → CountWord
counted rfc row = record { rfc = rfc; uc = 0 }

-- when they fit
abbrev pub MayRaise : Row → Type 0
MayRaise row = row.uc + 1 < 2 ^ 32

abbrev pub MaySettleUp : Row → Type 0
MaySettleUp row = (1 ≤ row.uc) × (row.rfc + 1 < 2 ^ 32)

abbrev pub MaySettleDown : Row → Type 0
MaySettleDown row = (1 ≤ row.uc) × (1 ≤ row.rfc)

-- any row
abbrev pub AnyRow : Row → Type 0
AnyRow row = Unit {0}

-- the disk, where the row at this slot has the counts that f makes of it
abbrev pub count_changed : (Row → CountWord) → Disk → ℕ → Row → Disk
count_changed f d slot row = recounted d slot (f row).rfc (f row).uc

-- in the end the words hold the table of after; what is kept in memory stays
abbrev pub MakesTable : (Row → CountWord) → Table → ℕ → State → State → Type 0
MakesTable f t slot old new = (d : Disk) (row : Row) → IsTable d old.now t → IsAtSlot d slot row
    → IsTable (count_changed f d slot row) new.now t

-- it is settled, if the table of before was
abbrev pub SettlesTable : (Row → CountWord) → Table → ℕ → State → State → Type 0
SettlesTable f t slot old new = (d : Disk) (row : Row) → IsSettledTable d old t
    → IsAtSlot d slot row → IsSettledTable (count_changed f d slot row) new t

-- and then on the way each image has the table of before or that of after
abbrev pub LeavesTables : (Row → CountWord) → Table → ℕ → State → State → Type 0
LeavesTables f t slot old new = (d : Disk) (row : Row) → IsSettledTable d old t
    → IsAtSlot d slot row
    → LeavesOnly old new (λ c. HoldsTable c d ⊎ HoldsTable c (count_changed f d slot row))

-- these are the counts of the row at this slot
abbrev pub CountsAre : List ℕ → Table → ℕ → CountWord → Type 0
CountsAre words t slot counts = (d : Disk) (row : Row) → IsTable d words t → IsAtSlot d slot row
    → counts ≡ record { rfc = row.rfc; uc = row.uc }
