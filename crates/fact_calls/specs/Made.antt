-- Which table the words hold while calls of it are made.
use Rattle.std.specs.Prelude.{◌≡◌, ◌⊎◌, ℕ, ◌+◌, ◌<◌, ◌≤◌, List, length, slice_index}
use Rattle.pm_device.specs.Past.{Left, moment}
use Rattle.pm_device.specs.State.{State}
use Rattle.pm_device.specs.Settled.{Extends, LeavesOnly}
use Rattle.pm_device.specs.Reading.{Stands}
use Rattle.dn_model.specs.Table.{Row}
use Rattle.dn_model.specs.Disk.{Disk, TableSays, rows}
use Rattle.dn_model.specs.Valid.{HasGoodRows}
use Rattle.dn_model.specs.Course.{IsCountAt}
use Rattle.law_table.specs.Changes.{with_table}
use Rattle.law_table.specs.Words.{HoldsTable}
use Rattle.fact_table.specs.Table.{Table, IsTable}
use Rattle.fact_calls.specs.declared.call.TableCall.{TableCall}
use Rattle.fact_calls.specs.Follows.{MayMake, Follows, After, Allows}

-- nothing of the disk differs but its table
abbrev pub IsSameBut : Disk → Disk → Type 0
IsSameBut d e = e ≡ with_table d e.chain e.pointer

-- the words hold this disk's table, in which the call may be made
pub record MayCall (d : Disk) (words : List ℕ) (t : Table) (call : TableCall) : Type 0 where
  pub table : IsTable d words t
  pub may : MayMake t.geometry (rows d) call

pub record CanCall (words : List ℕ) (t : Table) (call : TableCall) : Type 0 where
  pub disk : Disk
  pub may : MayCall disk words t call

-- in the end the words hold a table with the rows of after, which stands if that of before stood
pub record HasCalled (d : Disk) (call : TableCall) (t' : Table) (old new : State) : Type 0 where
  pub disk : Disk
  pub same : IsSameBut d disk
  pub follows : Follows d.geometry (rows d) call (rows disk)
  pub table : IsTable disk new.now t'
  pub settled : Stands (TableSays d) old → Stands (TableSays disk) new

abbrev pub MakesCall : Table → Table → TableCall → State → State → Type 0
MakesCall t t' call old new = (d : Disk) → MayCall d old.now t call → HasCalled d call t' old new

-- an image with a table whose rows are these
pub record HoldsRows (d : Disk) (c : List ℕ) (Are : List Row → Type 0) : Type 0 where
  pub disk : Disk
  pub same : IsSameBut d disk
  pub good : HasGoodRows disk
  pub are : Are (rows disk)
  pub holds : HoldsTable c disk

-- where the table stood, on the way each image has the rows of before or those of after
abbrev pub LeavesCall : Table → TableCall → State → State → Type 0
LeavesCall t call old new = (d : Disk) → MayCall d old.now t call → Stands (TableSays d) old
    → LeavesOnly old new (λ c. HoldsRows d c (λ rs. (rs ≡ rows d) ⊎ Follows d.geometry (rows d) call
    rs))

-- the words hold this disk's table, in which the calls may be made one after another
pub record MayCallAll (d : Disk) (words : List ℕ) (t : Table) (calls : List TableCall) : Type 0
  where
    pub table : IsTable d words t
    pub allows : Allows t.geometry calls (rows d)

pub record CanCallAll (words : List ℕ) (t : Table) (calls : List TableCall) : Type 0 where
  pub disk : Disk
  pub may : MayCallAll disk words t calls

-- in the end the words hold a table with the rows after the first k calls
pub record HasCalledSome (d : Disk) (calls : List TableCall) (k : ℕ) (t' : Table) (old new : State)
    : Type 0 where
  pub disk : Disk
  pub same : IsSameBut d disk
  pub after : After d.geometry calls (rows d) k (rows disk)
  pub table : IsTable disk new.now t'
  pub settled : Stands (TableSays d) old → Stands (TableSays disk) new

abbrev pub MakesAll : Table → Table → List TableCall → State → State → Type 0
MakesAll t t' calls old new = (d : Disk) → MayCallAll d old.now t calls
    → HasCalledSome d calls (length calls) t' old new

-- Each of n calls has a moment, in order. At each moment since the start, each image has H of the
-- number of calls whose moments are not later.
pub record HasMoments (start n : ℕ) (s : State) (H : ℕ → List ℕ → Type 0) : Type 0 where
  pub moments : List ℕ
  pub one_each : length moments ≡ n
  pub rising : (i j : ℕ) → i ≤ j → j < length moments
      → slice_index moments i ≤ slice_index moments j
  pub bounds : (i : ℕ) → i < length moments
      → (start ≤ slice_index moments i) × (slice_index moments i ≤ moment s.past)
  pub images : (m k : ℕ) (c : List ℕ) → start ≤ m → Left s.past m c → IsCountAt moments m k → H k c

-- the image has the rows after the first k calls, or after one more
abbrev pub HasRowsAfter : Disk → List TableCall → ℕ → List ℕ → Type 0
HasRowsAfter d calls k c = HoldsRows d c (λ rs. After d.geometry calls (rows d) k rs
    ⊎ After d.geometry calls (rows d) (k + 1) rs)

-- the first n calls were made, each at its moment
pub record LeavesAfter (d : Disk) (calls : List TableCall) (n : ℕ) (old new : State) : Type 0 where
  pub extends : Extends old.past new.past
  pub told : HasMoments (moment old.past) n new (HasRowsAfter d calls)

-- some of the calls were made, from the first on
pub record LeavesSome (d : Disk) (calls : List TableCall) (old new : State) : Type 0 where
  pub made : ℕ
  pub few : made ≤ length calls
  pub leaves : LeavesAfter d calls made old new

-- where the table stood, some of the calls were made
abbrev pub LeavesAll : Table → List TableCall → State → State → Type 0
LeavesAll t calls old new = (d : Disk) → MayCallAll d old.now t calls → Stands (TableSays d) old
    → LeavesSome d calls old new

-- or all of them
abbrev pub LeavesEach : Table → List TableCall → State → State → Type 0
LeavesEach t calls old new = (d : Disk) → MayCallAll d old.now t calls → Stands (TableSays d) old
    → LeavesAfter d calls (length calls) old new
