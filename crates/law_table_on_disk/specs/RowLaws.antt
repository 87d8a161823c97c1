-- Laws of rows that come into the table and go: one word of it each.
use Rattle.std.specs.Prelude.{◌≡◌, ◌≢◌, ℕ, ◌+◌, ◌^◌, ◌<◌, ◌≤◌, [], length, All, Contains, IsNone}
use Rattle.pm_layout.specs.Geometry.{directs, slots, slot_word}
use Rattle.dn_model.specs.Maps.{Mapping}
use Rattle.dn_model.specs.Table.{Row, row_of, first_slot, chained, prefix_of}
use Rattle.dn_model.specs.Disk.{Disk, IsMapped, rows}
use Rattle.dn_model.specs.Counts.{mappings, Exact}
use Rattle.dn_model.specs.Valid.{IsValid}
use Rattle.dn_model.specs.Own.{Print, page_bytes, LivePlace, IsAlone, IsOwn}
use Rattle.log_entry.specs.declared.item.Flag.TheVariants.{Complete}
use Rattle.law_table.specs.Changes.{repointed, opened, linked, removed, slot_before, slot_after}
use Rattle.law_table.specs.Rows.{PutsRow, TakesRow, StandsInChain, opened_words, linked_words}
use Rattle.law_table_on_disk.specs.OneWord.{IsOneWord, IsUnread}
use Rattle.law_table_on_disk.specs.PointerLaws.{MayRepoint}
use Rattle.law_table_on_disk.specs.CountLaws.{OthersAreExact}

-- A row that may come into the table: its slot, print and page are no other row's, a file maps its
-- page, and its
-- counts tell that one mapping.
pub record IsNewRow (d : Disk) (prefix : ℕ) (row : Row) : Type 0 where
  pub twenty : length row.print ≡ 20
  pub bytes : All (λ b. b < 256) row.print
  pub prefix_is : prefix_of d.geometry row.print ≡ prefix
  pub rfc_fits : row.rfc < 2 ^ 32
  pub uc_fits : row.uc < 2 ^ 32
  pub some : 1 ≤ row.rfc + row.uc
  pub few : row.rfc ≤ 1 + row.uc
  pub mapped : IsMapped d row.page
  pub new_slot : (r : Row) → Contains (rows d) r → r.slot ≢ row.slot
  pub new_print : (r : Row) → Contains (rows d) r → r.print ≢ row.print
  pub new_page : (r : Row) → Contains (rows d) r → r.page ≢ row.page

-- it comes in once the page's pointer leads to it
pub record MayPut (d : Disk) (prefix : ℕ) (row : Row) : Type 0 where
  pub valid : IsValid d
  pub new_row : IsNewRow d prefix row
  pub leads : d.pointer row.page ≡ row.slot + 1

-- the pointer may lead to the slot of a row that isn't there yet, and then the row may come in
abbrev pub NewRowMayPoint : Type 0
NewRowMayPoint = (d : Disk) (prefix : ℕ) (row : Row) → IsValid d → IsNewRow d prefix row
    → row.slot < slots d.geometry → MayRepoint d row.page (row.slot + 1)

abbrev pub PointedRowMayPut : Type 0
PointedRowMayPut = (d : Disk) (prefix : ℕ) (row : Row) → IsValid d → IsNewRow d prefix row
    → row.slot < slots d.geometry
    → MayPut (repointed d row.page (row.slot + 1)) prefix row

-- the page word of the direct slot decides
abbrev pub OpenIsOneWord : Type 0
OpenIsOneWord = (d : Disk) (prefix : ℕ) (row : Row) → MayPut d prefix row → row.slot ≡ prefix
    → IsOneWord d (opened d prefix row) (slot_word d.geometry prefix 1) (opened_words row)
    (slot_word d.geometry prefix 0) row.page

-- the next word of the direct slot decides; the new slot's own next word is what that was
abbrev pub LinkIsOneWord : Type 0
LinkIsOneWord = (d : Disk) (prefix : ℕ) (row : Row) → MayPut d prefix row
    → directs d.geometry ≤ row.slot → row.slot < slots d.geometry
    → IsOneWord d (linked d prefix row) (slot_word d.geometry row.slot 0)
    (linked_words row (first_slot (chained prefix (d.chain prefix))))
    (slot_word d.geometry prefix 5) row.slot

-- the rows are those of before and this one
abbrev pub OpenPutsRow : Type 0
OpenPutsRow = (d : Disk) (prefix : ℕ) (row : Row) → MayPut d prefix row
    → PutsRow row (rows d) (rows (opened d prefix row))

abbrev pub LinkPutsRow : Type 0
LinkPutsRow = (d : Disk) (prefix : ℕ) (row : Row) → MayPut d prefix row
    → PutsRow row (rows d) (rows (linked d prefix row))

-- exact counts stay exact, if the row has one reference and no update is under way
abbrev pub OpenStaysExact : Type 0
OpenStaysExact = (d : Disk) (prefix : ℕ) (row : Row) → MayPut d prefix row → row.rfc ≡ 1
    → row.uc ≡ 0 → Exact d → Exact (opened d prefix row)

abbrev pub LinkStaysExact : Type 0
LinkStaysExact = (d : Disk) (prefix : ℕ) (row : Row) → MayPut d prefix row → row.rfc ≡ 1
    → row.uc ≡ 0 → Exact d → Exact (linked d prefix row)

-- prints stay right, if the row's is that of its page
abbrev pub OpenStaysOwn : Type 0
OpenStaysOwn = (print : Print) (d : Disk) (prefix : ℕ) (row : Row) → MayPut d prefix row
    → row.print ≡ print (page_bytes d row.page) → IsOwn print d → IsOwn print (opened d prefix row)

abbrev pub LinkStaysOwn : Type 0
LinkStaysOwn = (print : Print) (d : Disk) (prefix : ℕ) (row : Row) → MayPut d prefix row
    → row.print ≡ print (page_bytes d row.page) → IsOwn print d → IsOwn print (linked d prefix row)

-- nothing is said of the words of an indirect slot that no row has
abbrev pub UnusedSlotsAreUnread : Type 0
UnusedSlotsAreUnread = (d : Disk) → IsValid d → (slot : ℕ) → directs d.geometry ≤ slot
    → slot < slots d.geometry → ((r : Row) → Contains (rows d) r → r.slot ≢ slot)
    → IsUnread d (slot_word d.geometry slot 0) 8

-- of a direct slot that no row has, nothing is said of words 1 to 4
abbrev pub ClosedSlotsAreUnread : Type 0
ClosedSlotsAreUnread = (d : Disk) → IsValid d → (slot : ℕ) → slot < directs d.geometry
    → ((r : Row) → Contains (rows d) r → r.slot ≢ slot)
    → IsUnread d (slot_word d.geometry slot 1) 4

-- a row stands in the chain of its prefix, in the direct slot or an indirect one
abbrev pub RowsStandInChains : Type 0
RowsStandInChains = (d : Disk) → IsValid d → (row : Row) → Contains (rows d) row
    → StandsInChain d (prefix_of d.geometry row.print) row

-- and all that stand there are rows
abbrev pub ChainsHoldRows : Type 0
ChainsHoldRows = (d : Disk) → IsValid d → (prefix : ℕ) (row : Row) → prefix < directs d.geometry
    → Contains (d.chain prefix) row
    → Contains (rows d) row × (prefix_of d.geometry row.print ≡ prefix)

-- the row of this chain may go: its page is mapped once at most
pub record MayRemove (d : Disk) (prefix : ℕ) (row : Row) : Type 0 where
  pub valid : IsValid d
  pub direct : prefix < directs d.geometry
  pub has : Contains (d.chain prefix) row
  pub few : mappings d row.page ≤ 1

-- in the direct slot its page word decides
abbrev pub CloseIsOneWord : Type 0
CloseIsOneWord = (d : Disk) (prefix : ℕ) (row : Row) → MayRemove d prefix row → row.slot ≡ prefix
    → IsOneWord d (removed d row.slot) 0 [] (slot_word d.geometry prefix 0) 0

-- behind it, the next word of the slot before
abbrev pub UnlinkIsOneWord : Type 0
UnlinkIsOneWord = (d : Disk) (prefix : ℕ) (row : Row) → MayRemove d prefix row → row.slot ≢ prefix
    → IsOneWord d (removed d row.slot) 0 []
    (slot_word d.geometry (slot_before prefix (d.chain prefix) row.slot) 5)
    (slot_after (d.chain prefix) row.slot)

-- the pointer of its page may be cleared then, as that of each page without a row
abbrev pub RemovedRowMayClear : Type 0
RemovedRowMayClear = (d : Disk) (prefix : ℕ) (row : Row) → MayRemove d prefix row
    → MayRepoint (removed d row.slot) row.page 0

abbrev pub StalePointersMayClear : Type 0
StalePointersMayClear = (d : Disk) (page : ℕ) → IsValid d → page < d.geometry.pages
    → IsNone (row_of (rows d) page) → MayRepoint d page 0

-- the rows are those of before without this one
abbrev pub RemoveTakesRow : Type 0
RemoveTakesRow = (d : Disk) (row : Row) → IsValid d → Contains (rows d) row
    → TakesRow row (rows d) (rows (removed d row.slot))

-- the counts are exact afterwards, if those of the other rows were
abbrev pub RemoveMakesExact : Type 0
RemoveMakesExact = (d : Disk) (prefix : ℕ) (row : Row) → MayRemove d prefix row
    → OthersAreExact d row.slot → Exact (removed d row.slot)

-- no place that is complete and not left alone is on its page
abbrev pub IsUnshared : Disk → ℕ → Type 0
IsUnshared d page = (ino idx : ℕ) (m : Mapping) → LivePlace d ino idx m → m.flag ≡ Complete
    → m.block ≡ page → IsAlone m

abbrev pub RemoveStaysOwn : Type 0
RemoveStaysOwn = (print : Print) (d : Disk) (row : Row) → IsValid d → Contains (rows d) row
    → IsUnshared d row.page → IsOwn print d → IsOwn print (removed d row.slot)
