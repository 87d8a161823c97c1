-- Counts and mappings while updates are under way: what each step of an update keeps.
use Rattle.std.specs.Prelude.{◌≡◌, ℕ, ◌+◌, ◌-◌, ◌^◌, ◌<◌, ◌≤◌, Contains}
use Rattle.dn_model.specs.Table.{Row}
use Rattle.dn_model.specs.Disk.{Disk, rows}
use Rattle.dn_model.specs.Counts.{mappings, IsNear}
use Rattle.dn_model.specs.Valid.{IsValid}
use Rattle.law_table.specs.Changes.{recount, recounted}
use Rattle.law_table_on_disk.specs.CountLaws.{MayRecount}
use Rattle.law_table_on_disk.specs.RowLaws.{IsNewRow}
use Rattle.law_table_on_disk.specs.MappingLaws.{AddsMapping}

-- Of the row's updates so many are raised and not committed, so many have added a mapping, and so
-- many have dropped
-- one, both not settled: its update count is their number, and its page's mappings are its
-- references with those
-- added and without those dropped.
pub record IsBalanced (d : Disk) (row : Row) (raised added dropped : ℕ) : Type 0 where
  pub updates : row.uc ≡ raised + added + dropped
  pub references : mappings d row.page + dropped ≡ row.rfc + added

-- then its counts are off by at most what is under way
abbrev pub BalancedIsNear : Type 0
BalancedIsNear = (d : Disk) (row : Row) (raised added dropped : ℕ) → IsBalanced d row raised added
    dropped → IsNear d row

-- where its page's mappings stay, it stays balanced
abbrev pub BalanceStays : Type 0
BalanceStays = (old new : Disk) (row : Row) (raised added dropped : ℕ)
    → mappings new row.page ≡ mappings old row.page → IsBalanced old row raised added dropped
    → IsBalanced new row raised added dropped

-- the row may get these counts, and is balanced so
pub record RecountsBalanced (d : Disk) (row : Row) (rfc uc raised added dropped : ℕ) : Type 0 where
  pub may : MayRecount d row rfc uc
  pub balanced : IsBalanced (recounted d row.slot rfc uc) (recount row.slot rfc uc row) raised added
      dropped

-- an update is raised
abbrev pub RaiseKeepsBalance : Type 0
RaiseKeepsBalance = (d : Disk) (row : Row) (raised added dropped : ℕ) → IsValid d
    → Contains (rows d) row → IsBalanced d row raised added dropped → row.uc + 1 < 2 ^ 32
    → RecountsBalanced d row row.rfc (row.uc + 1) (raised + 1) added dropped

-- a raised update adds a mapping of the row's page, or drops one
abbrev pub AddedMappingKeepsBalance : Type 0
AddedMappingKeepsBalance = (old new : Disk) (row : Row) (raised added dropped : ℕ)
    → AddsMapping row.page old new → IsBalanced old row (raised + 1) added dropped
    → IsBalanced new row raised (added + 1) dropped

abbrev pub DroppedMappingKeepsBalance : Type 0
DroppedMappingKeepsBalance = (old new : Disk) (row : Row) (raised added dropped : ℕ)
    → AddsMapping row.page new old → IsBalanced old row (raised + 1) added dropped
    → IsBalanced new row raised added (dropped + 1)

-- an added mapping is settled up, a dropped one down
abbrev pub SettleUpKeepsBalance : Type 0
SettleUpKeepsBalance = (d : Disk) (row : Row) (raised added dropped : ℕ) → IsValid d
    → Contains (rows d) row → IsBalanced d row raised (added + 1) dropped → row.rfc + 1 < 2 ^ 32
    → RecountsBalanced d row (row.rfc + 1) (row.uc - 1) raised added dropped

abbrev pub SettleDownKeepsBalance : Type 0
SettleDownKeepsBalance = (d : Disk) (row : Row) (raised added dropped : ℕ) → IsValid d
    → Contains (rows d) row → IsBalanced d row raised added (dropped + 1) → 1 ≤ row.rfc
    → RecountsBalanced d row (row.rfc - 1) (row.uc - 1) raised added dropped

-- a count is made that of the mappings, with nothing under way
abbrev pub CountedIsBalanced : Type 0
CountedIsBalanced = (d : Disk) (row : Row) → IsValid d → Contains (rows d) row
    → mappings d row.page < 2 ^ 32 → RecountsBalanced d row (mappings d row.page) 0 0 0 0

-- a new row comes in with its page's mapping added and not settled
abbrev pub NewRowIsBalanced : Type 0
NewRowIsBalanced = (d : Disk) (prefix : ℕ) (row : Row) → IsValid d → IsNewRow d prefix row
    → row.rfc ≡ 0 → row.uc ≡ 1 → IsBalanced d row 0 1 0
