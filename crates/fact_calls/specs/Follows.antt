-- What calls of a table make of its rows. Only lists of rows are spoken of.
use Rattle.std.specs.Prelude.{◌≡◌, ◌≢◌, ℕ, suc, ◌<◌, ◌≤◌, List, slice_get, Some, Contains}
use Rattle.pm_layout.specs.declared.Geometry.{Geometry}
use Rattle.pm_layout.specs.Geometry.{InData, directs, slots}
use Rattle.fingerprint.specs.Print.{IsPrint}
use Rattle.fingerprint.specs.declared.count.CountWord.{CountWord}
use Rattle.dn_model.specs.Table.{Row, prefix_of}
use Rattle.law_table.specs.Rows.{RecountsRows, PutsRow, TakesRow}
use Rattle.fact_table.specs.Chained.{HasNoRow}
use Rattle.fact_counts.specs.Counted.{
  raised,
  up,
  down,
  counted,
  MayRaise,
  MaySettleUp,
  MaySettleDown,
  AnyRow,
}
use Rattle.fact_rows.specs.Put.{new_row}
use Rattle.fact_calls.specs.declared.call.TableCall.{TableCall}
use Rattle.fact_calls.specs.declared.call.TableCall.TheVariants.{
  Insert,
  Raise,
  SettleUp,
  SettleDown,
  Recount,
  RemoveZero,
  ClearStale,
}

-- a row with this slot has P
pub record HasRowAt (rs : List Row) (slot : ℕ) (P : Row → Type 0) : Type 0 where
  pub row : Row
  pub there : Contains rs row
  pub slot_is : row.slot ≡ slot
  pub has : P row

-- no row has it
abbrev pub NoneAt : List Row → ℕ → Type 0
NoneAt rs slot = (row : Row) → Contains rs row → row.slot ≢ slot

-- a row of this print and page may come in: the page is one of the data area, and no row has either
pub record MayComeIn (g : Geometry) (rs : List Row) (print : List ℕ) (page : ℕ) : Type 0 where
  pub twenty_bytes : IsPrint print
  pub data_page : InData g page
  pub new_print : HasNoRow rs print
  pub new_page : (row : Row) → Contains rs row → row.page ≢ page

-- the call's condition
abbrev pub MayMake : Geometry → List Row → TableCall → Type 0
MayMake g rs (Insert print page) = MayComeIn g rs print page
MayMake g rs (Raise slot) = HasRowAt rs slot MayRaise
MayMake g rs (SettleUp slot) = HasRowAt rs slot MaySettleUp
MayMake g rs (SettleDown slot) = HasRowAt rs slot MaySettleDown
MayMake g rs (Recount slot rfc) = HasRowAt rs slot AnyRow
MayMake g rs (RemoveZero slot) = HasRowAt rs slot (λ row. (row.rfc ≡ 0) × (row.uc ≡ 0))
MayMake g rs ClearStale = Unit {0}

-- the least indirect slot that no row has
pub record IsLeastUnused (g : Geometry) (rs : List Row) (slot : ℕ) : Type 0 where
  pub low : directs g ≤ slot
  pub high : slot < slots g
  pub unused : NoneAt rs slot
  pub least : (other : ℕ) → directs g ≤ other → other < slot → HasRowAt rs other AnyRow

-- a new row's slot: the direct slot of its prefix where no row has that, and else the least
-- indirect one
pub data IsSlotFor (g : Geometry) (rs : List Row) (print : List ℕ) (slot : ℕ) : Type 0 where
  at_direct : slot ≡ prefix_of g print → NoneAt rs slot → IsSlotFor g rs print slot
  at_indirect : HasRowAt rs (prefix_of g print) AnyRow → IsLeastUnused g rs slot
      → IsSlotFor g rs print slot

-- this row came in, and nothing else changed
pub record InsertsRow (g : Geometry) (print : List ℕ) (page : ℕ) (olds news : List Row) : Type 0
  where
    pub slot : ℕ
    pub slot_for : IsSlotFor g olds print slot
    pub puts : PutsRow (new_row slot print page) olds news

-- the row at this slot has the counts that f makes of it
pub record CountsRow (f : Row → CountWord) (slot : ℕ) (olds news : List Row) : Type 0 where
  pub row : Row
  pub there : Contains olds row
  pub slot_is : row.slot ≡ slot
  pub recounts : RecountsRows slot (f row).rfc (f row).uc olds news

-- the row at this slot went
pub record RemovesRow (slot : ℕ) (olds news : List Row) : Type 0 where
  pub row : Row
  pub there : Contains olds row
  pub slot_is : row.slot ≡ slot
  pub takes : TakesRow row olds news

-- the rows after the call
abbrev pub Follows : Geometry → List Row → TableCall → List Row → Type 0
Follows g olds (Insert print page) news = InsertsRow g print page olds news
Follows g olds (Raise slot) news = CountsRow raised slot olds news
Follows g olds (SettleUp slot) news = CountsRow up slot olds news
Follows g olds (SettleDown slot) news = CountsRow down slot olds news
Follows g olds (Recount slot rfc) news = CountsRow (counted rfc) slot olds news
Follows g olds (RemoveZero slot) news = RemovesRow slot olds news
Follows g olds ClearStale news = news ≡ olds

-- the rows after the first k calls
pub data After (g : Geometry) (calls : List TableCall) (olds : List Row) : ℕ → List Row
    → Type 0 where
  none_made : After g calls olds 0 olds
  one_more : {k : ℕ} {mids news : List Row} {call : TableCall} → After g calls olds k mids
      → slice_get calls k ≡ Some call → Follows g mids call news → After g calls olds (suc k) news

-- each call's condition holds of the rows after those before it
abbrev pub Allows : Geometry → List TableCall → List Row → Type 0
Allows g calls olds = (k : ℕ) (rs : List Row) (call : TableCall) → After g calls olds k rs
    → slice_get calls k ≡ Some call → MayMake g rs call
