-- Calls of the table where the device stands for a valid disk. No call changes which places of
-- files are mapped.
use Rattle.std.specs.Prelude.{
  ◌≡◌,
  ◌⊎◌,
  ℕ,
  ◌+◌,
  ◌≤◌,
  List,
  length,
  slice_get,
  Some,
  Contains,
}
use Rattle.pm_device.specs.Past.{moment}
use Rattle.pm_device.specs.State.{State, Agree}
use Rattle.pm_device.specs.Settled.{Extends, LeavesOnly, StoresOnly}
use Rattle.pm_device.specs.Reading.{Stands}
use Rattle.dn_model.specs.Table.{Row}
use Rattle.dn_model.specs.Disk.{Disk, DiskSays, IsMapped, rows}
use Rattle.dn_model.specs.Counts.{mappings}
use Rattle.dn_model.specs.Valid.{IsValid}
use Rattle.dn_model.specs.Image.{StandsFor}
use Rattle.fact_table.specs.Table.{Table, IsTable}
use Rattle.fact_calls.specs.declared.call.TableCall.{TableCall}
use Rattle.fact_calls.specs.declared.call.TableCall.TheVariants.{
  Insert,
  Raise,
  SettleUp,
  SettleDown,
  Recount,
  RemoveZero,
  ClearStale,
}
use Rattle.fact_calls.specs.Follows.{Follows, After}
use Rattle.law_table.specs.Words.{IsTableWord}
use Rattle.fact_calls.specs.Made.{
  IsSameBut,
  MayCall,
  LeavesCall,
  MakesCall,
  MayCallAll,
  HasMoments,
  LeavesAll,
  LeavesEach,
  MakesAll,
}

-- Of these rows the call may be made on this disk: what comes in is mapped, and counts stay off the
-- mappings by at most
-- the updates under way.
abbrev pub MayMakeOn : Disk → List Row → TableCall → Type 0
MayMakeOn d rs (Insert print page) = IsMapped d page
MayMakeOn d rs (Raise slot) = Unit {0}
MayMakeOn d rs (SettleUp slot) = (row : Row) → Contains rs row → row.slot ≡ slot
    → row.rfc + 2 ≤ mappings d row.page + row.uc
MayMakeOn d rs (SettleDown slot) = (row : Row) → Contains rs row → row.slot ≡ slot
    → mappings d row.page + 2 ≤ row.rfc + row.uc
MayMakeOn d rs (Recount slot rfc) = (row : Row) → Contains rs row → row.slot ≡ slot
    → rfc ≡ mappings d row.page
MayMakeOn d rs (RemoveZero slot) = Unit {0}
MayMakeOn d rs ClearStale = Unit {0}

-- so may each call of the rows after those before it
abbrev pub AllowsOn : Disk → List TableCall → Type 0
AllowsOn d calls = (k : ℕ) (rs : List Row) (call : TableCall) → After d.geometry calls (rows d) k rs
    → slice_get calls k ≡ Some call → MayMakeOn d rs call

-- the image stands for a valid disk that differs in its table alone, and whose rows are these
pub record HasRows (d : Disk) (c : List ℕ) (Are : List Row → Type 0) : Type 0 where
  pub disk : Disk
  pub same : IsSameBut d disk
  pub are : Are (rows disk)
  pub stands_for : StandsFor c disk

-- the device stands for such a disk, whose table the words hold
pub record IsOnDisk (d : Disk) (t' : Table) (s : State) (Are : List Row → Type 0) : Type 0 where
  pub disk : Disk
  pub same : IsSameBut d disk
  pub are : Are (rows disk)
  pub valid : IsValid disk
  pub stands : Stands (DiskSays disk) s
  pub table : IsTable disk s.now t'

-- while one call is made each image has the rows of before or those of after
abbrev pub CallLeavesDisks : Type 0
CallLeavesDisks = (d : Disk) (t : Table) (call : TableCall) (s u : State) → IsValid d
    → Stands (DiskSays d) s → MayCall d s.now t call → MayMakeOn d (rows d) call
    → Agree u.now u.past → StoresOnly (IsTableWord t.geometry) s u → LeavesCall t call s u
    → LeavesOnly s u (λ c. HasRows d c (λ rs. (rs ≡ rows d) ⊎ Follows d.geometry (rows d) call rs))

-- in the end the device has those of after
abbrev pub CallMakesDisk : Type 0
CallMakesDisk = (d : Disk) (t t' : Table) (call : TableCall) (s u : State) → IsValid d
    → Stands (DiskSays d) s → MayCall d s.now t call → MayMakeOn d (rows d) call
    → StoresOnly (IsTableWord t.geometry) s u → MakesCall t t' call s u
    → IsOnDisk d t' u (Follows d.geometry (rows d) call)

-- the image has the rows after the first k calls, or after one more
abbrev pub HasDiskAfter : Disk → List TableCall → ℕ → List ℕ → Type 0
HasDiskAfter d calls k c = HasRows d c (λ rs. After d.geometry calls (rows d) k rs
    ⊎ After d.geometry calls (rows d) (k + 1) rs)

-- the first n calls were made, each at its moment
pub record LeavesDisksAfter (d : Disk) (calls : List TableCall) (n : ℕ) (old new : State) : Type 0
  where
    pub extends : Extends old.past new.past
    pub told : HasMoments (moment old.past) n new (HasDiskAfter d calls)

-- some of the calls were made, from the first on
pub record LeavesDisksSome (d : Disk) (calls : List TableCall) (old new : State) : Type 0 where
  pub made : ℕ
  pub few : made ≤ length calls
  pub leaves : LeavesDisksAfter d calls made old new

-- while calls are made
abbrev pub CallsLeaveDisks : Type 0
CallsLeaveDisks = (d : Disk) (t : Table) (calls : List TableCall) (s u : State) → IsValid d
    → Stands (DiskSays d) s → MayCallAll d s.now t calls → AllowsOn d calls
    → Agree u.now u.past → StoresOnly (IsTableWord t.geometry) s u → LeavesAll t calls s u
    → LeavesDisksSome d calls s u

-- and where all of them were made
abbrev pub CallsLeaveEach : Type 0
CallsLeaveEach = (d : Disk) (t : Table) (calls : List TableCall) (s u : State) → IsValid d
    → Stands (DiskSays d) s → MayCallAll d s.now t calls → AllowsOn d calls
    → Agree u.now u.past → StoresOnly (IsTableWord t.geometry) s u → LeavesEach t calls s u
    → LeavesDisksAfter d calls (length calls) s u

-- in the end the device has the rows after all of them
abbrev pub CallsMakeDisk : Type 0
CallsMakeDisk = (d : Disk) (t t' : Table) (calls : List TableCall) (s u : State) → IsValid d
    → Stands (DiskSays d) s → MayCallAll d s.now t calls → AllowsOn d calls
    → StoresOnly (IsTableWord t.geometry) s u → MakesAll t t' calls s u
    → IsOnDisk d t' u (After d.geometry calls (rows d) (length calls))
