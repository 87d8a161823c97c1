-- Tables with rows that fit a valid disk are tables of valid disks, in images and on the device.
use Rattle.std.proofs.Common.{◌≡◌, ◌⊎◌, inl, inr, ℕ, ◌+◌, ◌*◌, ◌≤◌, List, length, sym, ◌∙◌, ap, subst}
use Rattle.pm_device.specs.Past.{Left, moment}
use Rattle.pm_device.specs.State.{State, Agree}
use Rattle.pm_device.specs.Settled.{LeavesOnly, StoresOnly}
use Rattle.pm_device.specs.Reading.{Stands}
use Rattle.pm_layout.specs.declared.Geometry.{Geometry}
use Rattle.dn_model.specs.Table.{Row}
use Rattle.dn_model.specs.Disk.{Disk, DiskSays, TableSays, rows}
use Rattle.dn_model.specs.Valid.{HasGoodRows, IsValid}
use Rattle.law_table_on_disk.specs.TableLaws.{IsNextDisk}
use Rattle.law_table_on_disk.proofs.TableValid.{fitting_valid}
use Rattle.law_table_on_disk.proofs.NextDisk.{table_said, standing_table, image_of_table}
use Rattle.fact_table.specs.Table.{Table, IsTable}
use Rattle.fact_calls.specs.declared.call.TableCall.{TableCall}
use Rattle.fact_calls.specs.Follows.{MayMake, Follows, After, Allows}
use Rattle.law_table.specs.Words.{IsTableWord}
use Rattle.fact_calls.specs.Made.{
  IsSameBut,
  MayCall,
  HasCalled,
  HoldsRows,
  LeavesCall,
  MakesCall,
  MayCallAll,
  HasCalledSome,
  HasRowsAfter,
  LeavesAfter,
}
use Rattle.fact_calls.specs.Made.{LeavesAll, LeavesEach, MakesAll}
use Rattle.fact_calls.proofs.Moments.{moments_weaken}
use Rattle.law_table_calls.specs.Calls.{MayMakeOn, AllowsOn, HasRows, IsOnDisk, HasDiskAfter, LeavesDisksAfter, LeavesDisksSome}
use Rattle.law_table_calls.proofs.Fitting.{IsFitting, valid_fitting, call_fitting, after_fitting}

module _ (d : Disk) (valid : IsValid d) (s u : State) (stands : Stands (DiskSays d) s) where
  table_stands : Stands (TableSays d) s
  table_stands = record {
    within = λ a v told. stands.within a v (table_said d a v told);
    reads = λ a v told. stands.reads a v (table_said d a v told);
    settled = λ a v told. stands.settled a v (table_said d a v told);
  }

  module _ (t : Table) (table : IsTable d s.now t) (stores : StoresOnly (IsTableWord t.geometry) s u) where
    only : StoresOnly (IsTableWord d.geometry) s u
    only = subst (λ (g : Geometry). StoresOnly (IsTableWord g) s u) (sym table.geometry) stores

    size : length u.now ≡ 512 * d.geometry.pages
    size = stores.words ∙ table.size ∙ ap (λ (g : Geometry). 512 * g.pages) (sym table.geometry)

    -- rows that fit
    module _ (Are : List Row → Type 0) (fitting : (rs : List Row) → Are rs → IsFitting d rs) where
      next_of : (e : Disk) → IsSameBut d e → HasGoodRows e → Are (rows e) → IsNextDisk d e
      next_of e same good are = fitting_valid d e valid same good (fitting (rows e) are).fits

      image_disk : Agree u.now u.past → (m : ℕ) (c : List ℕ) → moment s.past ≤ m → Left u.past m c → HoldsRows d c Are → HasRows d c Are
      image_disk agree m c late left is = record {
        disk = is.disk;
        same = is.same;
        are = is.are;
        stands_for = image_of_table d valid s u stands only is.disk (next_of is.disk is.same is.good is.are) agree size m c late left is.holds;
      }

      end_disk : (t' : Table) (e : Disk) → IsSameBut d e → Are (rows e) → IsTable e u.now t' → Stands (TableSays e) u → IsOnDisk d t' u Are
      end_disk t' e same are holds settled =
          let next = next_of e same holds.good are in
          record {
            disk = e;
            same = same;
            are = are;
            valid = next.valid;
            stands = standing_table d valid s u stands only e next settled;
            table = holds;
          }

  -- one call
  module _ (t : Table) (call : TableCall) (may : MayCall d s.now t call) (on : MayMakeOn d (rows d) call)
      (stores : StoresOnly (IsTableWord t.geometry) s u) where
    new_fitting : (rs : List Row) → Follows d.geometry (rows d) call rs → IsFitting d rs
    new_fitting rs follows =
        let may_here = subst (λ (g : Geometry). MayMake g (rows d) call) (sym may.table.geometry) may.may in
        call_fitting d valid (rows d) rs (valid_fitting d valid) d.geometry call may_here on follows

    one_fitting : (rs : List Row) → (rs ≡ rows d) ⊎ Follows d.geometry (rows d) call rs → IsFitting d rs
    one_fitting rs (inl same) = subst (IsFitting d) (sym same) (valid_fitting d valid)
    one_fitting rs (inr follows) = new_fitting rs follows

    pub call_images : Agree u.now u.past → LeavesCall t call s u
        → LeavesOnly s u (λ c. HasRows d c (λ rs. (rs ≡ rows d) ⊎ Follows d.geometry (rows d) call rs))
    call_images agree leaves =
        let held = leaves d may table_stands in
        record {
          extends = held.extends;
          each = λ m c late left. image_disk t may.table stores _ one_fitting agree m c late left
              (held.each m c late left);
        }

    pub call_made : (t' : Table) → MakesCall t t' call s u → IsOnDisk d t' u (Follows d.geometry (rows d) call)
    call_made t' makes =
        let is : HasCalled d call t' s u = makes d may in
        end_disk t may.table stores _ new_fitting t' is.disk is.same is.follows is.table (is.settled table_stands)

  -- calls, one after another
  module _ (t : Table) (calls : List TableCall) (may : MayCallAll d s.now t calls) (on : AllowsOn d calls)
      (stores : StoresOnly (IsTableWord t.geometry) s u) where
    made_fitting : (k : ℕ) (rs : List Row) → After d.geometry calls (rows d) k rs → IsFitting d rs
    made_fitting = after_fitting d valid calls (subst (λ (g : Geometry). Allows g calls (rows d)) (sym may.table.geometry) may.allows) on

    either_fitting : (k : ℕ) (rs : List Row) → After d.geometry calls (rows d) k rs ⊎ After d.geometry calls (rows d) (k + 1) rs → IsFitting d rs
    either_fitting k rs (inl now) = made_fitting k rs now
    either_fitting k rs (inr next) = made_fitting (k + 1) rs next

    images_after : Agree u.now u.past → (n : ℕ) → LeavesAfter d calls n s u → LeavesDisksAfter d calls n s u
    images_after agree n leaves = record {
      extends = leaves.extends;
      told = moments_weaken (moment s.past) n u (HasRowsAfter d calls) (HasDiskAfter d calls)
          (λ m k c late left is. image_disk t may.table stores _ (either_fitting k) agree m c late left is) leaves.told;
    }

    pub calls_images : Agree u.now u.past → LeavesAll t calls s u → LeavesDisksSome d calls s u
    calls_images agree leaves =
        let held = leaves d may table_stands in
        record { made = held.made; few = held.few; leaves = images_after agree held.made held.leaves }

    pub each_images : Agree u.now u.past → LeavesEach t calls s u → LeavesDisksAfter d calls (length calls) s u
    each_images agree leaves = images_after agree (length calls) (leaves d may table_stands)

    pub calls_made : (t' : Table) → MakesAll t t' calls s u → IsOnDisk d t' u (After d.geometry calls (rows d) (length calls))
    calls_made t' makes =
        let is : HasCalledSome d calls (length calls) t' s u = makes d may in
        end_disk t may.table stores _ (made_fitting (length calls)) t' is.disk is.same is.after is.table (is.settled table_stands)
