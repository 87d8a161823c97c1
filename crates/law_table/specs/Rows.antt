-- Rows of a table that come in, go, or get other counts, and pointers that become others: one word
-- of the table each.
use Rattle.std.specs.Prelude.{
  ◌≡◌,
  ◌≢◌,
  ◌⊎◌,
  ℕ,
  ◌+◌,
  ◌^◌,
  ◌<◌,
  ◌≤◌,
  if◌then◌else◌,
  ◌==◌,
  List,
  [],
  ◌∷◌,
  length,
  map,
  All,
  Contains,
  Some,
  None,
  option_map,
}
use Rattle.pm_layout.specs.declared.Geometry.{Geometry}
use Rattle.pm_layout.specs.Geometry.{InData, IsAccepted, directs, slots, slot_word, pointer_word}
use Rattle.fingerprint.specs.Count.{count_word}
use Rattle.dn_model.specs.Table.{Row, row_of, row_word, first_slot, chained, prefix_of}
use Rattle.dn_model.specs.Disk.{Disk, rows}
use Rattle.dn_model.specs.Valid.{HasGoodRows}
use Rattle.law_table.specs.Changes.{
  recount,
  recounted,
  repointed,
  opened,
  linked,
  removed,
  slot_before,
  slot_after,
}
use Rattle.law_table.specs.Words.{IsOneTableWord, IsUntold}

-- the row may get these counts: they fit
pub record MayCount (d : Disk) (row : Row) (rfc uc : ℕ) : Type 0 where
  pub accepted : IsAccepted d.geometry
  pub good : HasGoodRows d
  pub has : Contains (rows d) row
  pub rfc_fits : rfc < 2 ^ 32
  pub uc_fits : uc < 2 ^ 32

-- the count word of its slot decides
abbrev pub CountWordDecides : Type 0
CountWordDecides = (d : Disk) (row : Row) (rfc uc : ℕ) → MayCount d row rfc uc
    → IsOneTableWord d (recounted d row.slot rfc uc) 0 [] (slot_word d.geometry row.slot 4)
    (count_word rfc uc)

-- the rows are those of before, but for the counts of the one at this slot
pub record RecountsRows (slot rfc uc : ℕ) (olds news : List Row) : Type 0 where
  pub are : news ≡ map (recount slot rfc uc) olds
  pub kept : (row : Row) → Contains olds row → Contains news (recount slot rfc uc row)
  pub only : (row : Row) → Contains news row → (was : Row) × Contains olds
      was × (recount slot rfc uc was ≡ row)
  pub found : (page : ℕ) → row_of news page ≡ option_map (recount slot rfc uc) (row_of olds page)
  pub this : (row : Row) → row.slot ≡ slot → recount slot rfc uc row ≡ record
      { slot = row.slot; print = row.print; page = row.page; rfc = rfc; uc = uc }
  pub others : (row : Row) → row.slot ≢ slot → recount slot rfc uc row ≡ row

abbrev pub RecountChangesOneRow : Type 0
RecountChangesOneRow = (d : Disk) (slot rfc uc : ℕ) → RecountsRows slot rfc uc (rows d)
    (rows (recounted d slot rfc uc))

-- the page may get this pointer: 0 or a slot's number and 1, and that of its row where it has one
pub record MayPoint (d : Disk) (page value : ℕ) : Type 0 where
  pub accepted : IsAccepted d.geometry
  pub good : HasGoodRows d
  pub in_image : page < d.geometry.pages
  pub small : value ≤ slots d.geometry
  pub leads : (row : Row) → Contains (rows d) row → row.page ≡ page → value ≡ row.slot + 1

-- its word decides
abbrev pub PointerDecides : Type 0
PointerDecides = (d : Disk) (page value : ℕ) → MayPoint d page value
    → IsOneTableWord d (repointed d page value) 0 [] (pointer_word d.geometry page) value

-- the rows are those of before
abbrev pub RepointKeepsRows : Type 0
RepointKeepsRows = (d : Disk) (page value : ℕ) → rows (repointed d page value) ≡ rows d

-- a row that may come into the table: its slot, print and page are no other row's
pub record IsFreshRow (d : Disk) (prefix : ℕ) (row : Row) : Type 0 where
  pub data_page : InData d.geometry row.page
  pub twenty : length row.print ≡ 20
  pub bytes : All (λ b. b < 256) row.print
  pub prefix_is : prefix_of d.geometry row.print ≡ prefix
  pub rfc_fits : row.rfc < 2 ^ 32
  pub uc_fits : row.uc < 2 ^ 32
  pub new_slot : (r : Row) → Contains (rows d) r → r.slot ≢ row.slot
  pub new_print : (r : Row) → Contains (rows d) r → r.print ≢ row.print
  pub new_page : (r : Row) → Contains (rows d) r → r.page ≢ row.page

-- it comes in once the page's pointer leads to it
pub record MayPutRow (d : Disk) (prefix : ℕ) (row : Row) : Type 0 where
  pub accepted : IsAccepted d.geometry
  pub good : HasGoodRows d
  pub fresh : IsFreshRow d prefix row
  pub leads : d.pointer row.page ≡ row.slot + 1

-- the pointer may lead to the slot of a row that isn't there yet, and then the row may come in
abbrev pub FreshRowMayPoint : Type 0
FreshRowMayPoint = (d : Disk) (prefix : ℕ) (row : Row) → IsAccepted d.geometry → HasGoodRows d
    → IsFreshRow d prefix row → row.slot < slots d.geometry
    → MayPoint d row.page (row.slot + 1)

abbrev pub PointedRowMayPut : Type 0
PointedRowMayPut = (d : Disk) (prefix : ℕ) (row : Row) → IsAccepted d.geometry → HasGoodRows d
    → IsFreshRow d prefix row → row.slot < slots d.geometry
    → MayPutRow (repointed d row.page (row.slot + 1)) prefix row

-- words 1 to 4 of a slot, which stand before the page word opens it
abbrev pub opened_words : Row → List ℕ
opened_words row = row_word row 1 ∷ row_word row 2 ∷ row_word row 3 ∷ row_word row 4 ∷ []

-- words 0 to 5, which stand before the slot is linked
abbrev pub linked_words : Row → ℕ → List ℕ
linked_words row next = row_word row 0 ∷ row_word row 1 ∷ row_word row 2 ∷ row_word row 3 ∷ row_word
    row 4 ∷ next ∷ []

-- the page word of the direct slot decides
abbrev pub OpeningDecides : Type 0
OpeningDecides = (d : Disk) (prefix : ℕ) (row : Row) → MayPutRow d prefix row → row.slot ≡ prefix
    → IsOneTableWord d (opened d prefix row) (slot_word d.geometry prefix 1) (opened_words row)
    (slot_word d.geometry prefix 0) row.page

-- the next word of the direct slot decides; the new slot's own next word is what that was
abbrev pub LinkDecides : Type 0
LinkDecides = (d : Disk) (prefix : ℕ) (row : Row) → MayPutRow d prefix row
    → directs d.geometry ≤ row.slot → row.slot < slots d.geometry
    → IsOneTableWord d (linked d prefix row) (slot_word d.geometry row.slot 0)
    (linked_words row (first_slot (chained prefix (d.chain prefix))))
    (slot_word d.geometry prefix 5) row.slot

-- the rows are those of before and this one
pub record PutsRow (row : Row) (olds news : List Row) : Type 0 where
  pub here : Contains news row
  pub kept : (r : Row) → Contains olds r → Contains news r
  pub only : (r : Row) → Contains news r → (r ≡ row) ⊎ Contains olds r
  pub found : (page : ℕ) → row_of news page ≡ (if row.page == page then Some row else row_of olds
      page)

abbrev pub OpeningPutsRow : Type 0
OpeningPutsRow = (d : Disk) (prefix : ℕ) (row : Row) → MayPutRow d prefix row
    → PutsRow row (rows d) (rows (opened d prefix row))

abbrev pub LinkPutsRow : Type 0
LinkPutsRow = (d : Disk) (prefix : ℕ) (row : Row) → MayPutRow d prefix row
    → PutsRow row (rows d) (rows (linked d prefix row))

-- nothing is said of the words of an indirect slot that no row has
abbrev pub UnusedSlotsAreUntold : Type 0
UnusedSlotsAreUntold = (d : Disk) → HasGoodRows d → (slot : ℕ) → directs d.geometry ≤ slot
    → slot < slots d.geometry → ((r : Row) → Contains (rows d) r → r.slot ≢ slot)
    → IsUntold d (slot_word d.geometry slot 0) 8

-- of a direct slot that no row has, nothing is said of words 1 to 4
abbrev pub ClosedSlotsAreUntold : Type 0
ClosedSlotsAreUntold = (d : Disk) → HasGoodRows d → (slot : ℕ) → slot < directs d.geometry
    → ((r : Row) → Contains (rows d) r → r.slot ≢ slot)
    → IsUntold d (slot_word d.geometry slot 1) 4

-- the row of this chain may go
pub record MayTakeRow (d : Disk) (prefix : ℕ) (row : Row) : Type 0 where
  pub accepted : IsAccepted d.geometry
  pub good : HasGoodRows d
  pub direct : prefix < directs d.geometry
  pub has : Contains (d.chain prefix) row

-- in the direct slot its page word decides
abbrev pub ClosingDecides : Type 0
ClosingDecides = (d : Disk) (prefix : ℕ) (row : Row) → MayTakeRow d prefix row → row.slot ≡ prefix
    → IsOneTableWord d (removed d row.slot) 0 [] (slot_word d.geometry prefix 0) 0

-- behind it, the next word of the slot before
abbrev pub UnlinkDecides : Type 0
UnlinkDecides = (d : Disk) (prefix : ℕ) (row : Row) → MayTakeRow d prefix row → row.slot ≢ prefix
    → IsOneTableWord d (removed d row.slot) 0 []
    (slot_word d.geometry (slot_before prefix (d.chain prefix) row.slot) 5)
    (slot_after (d.chain prefix) row.slot)

-- the pointer of its page may be cleared then, as that of each page without a row
abbrev pub TakenRowMayClear : Type 0
TakenRowMayClear = (d : Disk) (prefix : ℕ) (row : Row) → MayTakeRow d prefix row
    → MayPoint (removed d row.slot) row.page 0

abbrev pub StalePointersMayClear : Type 0
StalePointersMayClear = (d : Disk) (page : ℕ) → IsAccepted d.geometry → HasGoodRows d
    → page < d.geometry.pages → ((r : Row) → Contains (rows d) r → r.page ≢ page)
    → MayPoint d page 0

-- the rows are those of before without this one
pub record TakesRow (row : Row) (olds news : List Row) : Type 0 where
  pub kept : (r : Row) → Contains olds r → (r ≡ row) ⊎ Contains news r
  pub only : (r : Row) → Contains news r → Contains olds r × (r.slot ≢ row.slot) ×
      (r.print ≢ row.print) × (r.page ≢ row.page)
  pub found : (page : ℕ) → row_of news page ≡ (if row.page == page then None else row_of olds page)

abbrev pub RemovalTakesRow : Type 0
RemovalTakesRow = (d : Disk) (row : Row) → HasGoodRows d → Contains (rows d) row
    → TakesRow row (rows d) (rows (removed d row.slot))

-- a prefix is the number of a direct slot
abbrev pub PrefixesAreDirect : Type 0
PrefixesAreDirect = (g : Geometry) (print : List ℕ) → length print ≡ 20 → All (λ b. b < 256) print
    → prefix_of g print < directs g

-- a row stands in the chain of its prefix, in the direct slot or an indirect one
pub record StandsInChain (d : Disk) (prefix : ℕ) (row : Row) : Type 0 where
  pub direct : prefix < directs d.geometry
  pub prefix_is : prefix_of d.geometry row.print ≡ prefix
  pub listed : Contains (d.chain prefix) row
  pub slot : (row.slot ≡ prefix) ⊎ ((directs d.geometry ≤ row.slot) × (row.slot < slots d.geometry))

abbrev pub RowsStandInChains : Type 0
RowsStandInChains = (d : Disk) → HasGoodRows d → (row : Row) → Contains (rows d) row
    → StandsInChain d (prefix_of d.geometry row.print) row

-- and all that stand there are rows
abbrev pub ChainsHoldRows : Type 0
ChainsHoldRows = (d : Disk) → HasGoodRows d → (prefix : ℕ) (row : Row) → prefix < directs d.geometry
    → Contains (d.chain prefix) row
    → Contains (rows d) row × (prefix_of d.geometry row.print ≡ prefix)
