-- Calls of the table, one after another.
use Rattle.std.proofs.Common.{◌≡◌, ◌⊎◌, inl, inr, ⊎_elim, ℕ, suc, ◌+◌, ◌*◌, ◌<◌, ◌≤◌, List, refl, sym, ◌∙◌, ap, subst, arith}
use Rattle.std.specs.Prelude.{slice_get, Some}
use Rattle.std.proofs.Math.Nat.{mul-le-mul_left}
use Rattle.pm_device.specs.Past.{moment}
use Rattle.pm_device.specs.State.{State, Agree}
use Rattle.pm_device.specs.Settled.{LeavesOnly, StoresOnly, KeepsFlushed, Others, FlushesAll}
use Rattle.pm_device.specs.Reading.{Stands}
use Rattle.pm_device.proofs.Only.{extends_then, stores_only-none, stores_only-then}
use Rattle.pm_device.proofs.Flushed.{keeps-none, keeps-then}
use Rattle.pm_device.proofs.AllFlushed.{flushes-none}
use Rattle.pm_layout.specs.declared.Geometry.{Geometry}
use Rattle.dn_model.specs.Table.{Row}
use Rattle.dn_model.specs.Disk.{Disk, TableSays, rows}
use Rattle.law_table.specs.Changes.{with_table}
use Rattle.fact_table.specs.Table.{Table}
use Rattle.fact_changes.proofs.Staled.{still_images}
use Rattle.law_course.proofs.Course.{moment-extends}
use Rattle.fact_calls.proofs.Moments.{moments_begin, moments_stay, moments_on}
use Rattle.fact_calls.specs.declared.call.TableCall.{TableCall}
use Rattle.fact_calls.specs.Follows.{MayMake, Follows, After, none_made, one_more}
use Rattle.law_table.specs.Words.{IsTableWord}
use Rattle.fact_calls.specs.Made.{
  IsSameBut,
  MayCall,
  HasCalled,
  HoldsRows,
  LeavesCall,
  MakesCall,
  MayCallAll,
  HasCalledSome,
  HasRowsAfter,
  LeavesAfter,
}

module _ (d e : Disk) (same : IsSameBut d e) where
  geometry_same : e.geometry ≡ d.geometry
  geometry_same = ap (λ (x : Disk). x.geometry) same

  -- another disk that differs from this one in its table does so from the first
  same_then : (x : Disk) → IsSameBut e x → IsSameBut d x
  same_then x more = more ∙ ap (λ (y : Disk). with_table y x.chain x.pointer) same

-- one call's units of those of all
pub units-one : (q i n : ℕ) → i < n → q * i + q ≤ q * n
units-one q i n lt = let more : q * (i + 1) ≤ q * n = mul-le-mul_left q (omega arith) in omega (arith, more)

-- the calls below i were made
pub record IsMade (who : ℕ) (calls : List TableCall) (i : ℕ) (t0 t : Table) (s0 s : State) : Type 0 where
  pub spare : s0.spare ≤ s.spare + 3 * t0.geometry.pages * i
  pub faults : s0.faults ≤ s.faults
  pub pages : t.geometry ≡ t0.geometry
  pub flushes : FlushesAll who s0 s
  pub only : StoresOnly (IsTableWord t0.geometry) s0 s
  pub others : KeepsFlushed (Others who) (IsTableWord t0.geometry) s0 s
  pub images : (d : Disk) → MayCallAll d s0.now t0 calls → Stands (TableSays d) s0 → LeavesAfter d calls i s0 s
  pub made : (d : Disk) → MayCallAll d s0.now t0 calls → HasCalledSome d calls i t s0 s

pub made_none : (who : ℕ) (calls : List TableCall) (t : Table) (s : State) → Agree s.now s.past → IsMade who calls 0 t t s s
made_none who calls t s agree = record {
  spare = omega arith;
  faults = omega arith;
  pages = refl;
  flushes = flushes-none who s;
  only = stores_only-none _ s agree;
  others = keeps-none _ _ s;
  images = λ d may stands.
      let still = still_images d s agree stands in
      record {
        extends = still.extends;
        told = moments_begin s (HasRowsAfter d calls) (λ c left. record {
          disk = d;
          same = refl;
          good = may.table.good;
          are = inl none_made;
          holds = still.each (moment s.past) c (omega arith) left;
        });
      };
  made = λ d may. record { disk = d; same = refl; after = none_made; table = may.table; settled = λ stands. stands };
}

-- one call more stores to words of the table
pub next_only : (who : ℕ) (calls : List TableCall) (i : ℕ) (t0 t : Table) (s0 s : State) → IsMade who calls i t0 t s0 s → (u : State)
    → StoresOnly (IsTableWord t.geometry) s u → StoresOnly (IsTableWord t0.geometry) s0 u
next_only who calls i t0 t s0 s made u only = stores_only-then (IsTableWord t0.geometry) s0 s u made.only
    (subst (λ (g : Geometry). StoresOnly (IsTableWord g) s u) made.pages only)

pub next_others : (who : ℕ) (calls : List TableCall) (i : ℕ) (t0 t : Table) (s0 s : State) → IsMade who calls i t0 t s0 s → (u : State)
    → KeepsFlushed (Others who) (IsTableWord t.geometry) s u → KeepsFlushed (Others who) (IsTableWord t0.geometry) s0 u
next_others who calls i t0 t s0 s made u keeps = keeps-then (Others who) (IsTableWord t0.geometry) s0 s u made.others
    (subst (λ (g : Geometry). KeepsFlushed (Others who) (IsTableWord g) s u) made.pages keeps)

module _ (who : ℕ) (calls : List TableCall) (i : ℕ) (t0 t : Table) (s0 s : State) (made : IsMade who calls i t0 t s0 s) (call : TableCall)
    (here : slice_get calls i ≡ Some call) where
  module _ (d : Disk) (may : MayCallAll d s0.now t0 calls) where
    abbrev e : Disk
    e = (made.made d may).disk

    same : IsSameBut d e
    same = (made.made d may).same

    after : After d.geometry calls (rows d) i (rows e)
    after = (made.made d may).after

    -- the call's condition holds
    pub next_may : MayCall e s.now t call
    next_may =
        let may_here = may.allows i (rows e) call (subst (λ (g : Geometry). After g calls (rows d) i (rows e)) may.table.geometry after) here in
        record { table = (made.made d may).table; may = subst (λ (g : Geometry). MayMake g (rows e) call) (sym made.pages) may_here }

    follows_here : (news : List Row) → Follows e.geometry (rows e) call news → After d.geometry calls (rows d) (i + 1) news
    follows_here news follows =
        let one : suc i ≡ i + 1 = omega arith in
        subst (λ (k : ℕ). After d.geometry calls (rows d) k news) one
        (one_more after here (subst (λ (g : Geometry). Follows g (rows e) call news) (geometry_same d e same) follows))

    abbrev IsOneOf : List Row → Type 0
    IsOneOf rs = (rs ≡ rows e) ⊎ Follows e.geometry (rows e) call rs

    abbrev IsNext : List Row → Type 0
    IsNext rs = After d.geometry calls (rows d) i rs ⊎ After d.geometry calls (rows d) (i + 1) rs

    next_rows : (rs : List Row) → IsOneOf rs → IsNext rs
    next_rows rs = ⊎_elim (λ (old : rs ≡ rows e). inl (subst (After d.geometry calls (rows d) i) (sym old) after))
        (λ (new : Follows e.geometry (rows e) call rs). inr (follows_here rs new))

    has_next : (c : List ℕ) → HoldsRows e c IsOneOf → HoldsRows d c IsNext
    has_next c is = record {
      disk = is.disk;
      same = same_then d e same is.disk is.same;
      good = is.good;
      are = next_rows (rows is.disk) is.are;
      holds = is.holds;
    }

    module _ (u : State) (leaves : LeavesCall t call s u) (stands : Stands (TableSays d) s0) where
      abbrev before : LeavesAfter d calls i s0 s
      before = made.images d may stands

      begun : moment s0.past ≤ moment s.past
      begun = moment-extends s0.past s.past before.extends

      more : LeavesOnly s u (HasRowsAfter d calls i)
      more =
          let on = leaves e next_may ((made.made d may).settled stands) in
          record { extends = on.extends; each = λ m c past left. has_next c (on.each m c past left) }

      -- up to a call that fails
      pub next_images : LeavesAfter d calls i s0 u
      next_images = record {
        extends = extends_then s0.past s.past u.past before.extends more.extends;
        told = moments_stay (moment s0.past) i s u (HasRowsAfter d calls) before.told begun more.extends more.each;
      }

      -- with a call that is made
      pub next_moment : (t' : Table) → MakesCall t t' call s u → Agree u.now u.past → LeavesAfter d calls (i + 1) s0 u
      next_moment t' makes agree =
          let is : HasCalled e call t' s u = makes e next_may in
          let still = still_images is.disk u agree (is.settled ((made.made d may).settled stands)) in
          record {
            extends = extends_then s0.past s.past u.past before.extends more.extends;
            told = moments_on (moment s0.past) i s u (HasRowsAfter d calls) before.told begun more.extends more.each (λ c left. record {
              disk = is.disk;
              same = same_then d e same is.disk is.same;
              good = is.table.good;
              are = inl (follows_here (rows is.disk) is.follows);
              holds = still.each (moment u.past) c (omega arith) left;
            });
          }

    module _ (u : State) (t' : Table) (makes : MakesCall t t' call s u) where
      is : HasCalled e call t' s u
      is = makes e next_may

      pub next_made : HasCalledSome d calls (i + 1) t' s0 u
      next_made = record {
        disk = is.disk;
        same = same_then d e same is.disk is.same;
        after = follows_here (rows is.disk) is.follows;
        table = is.table;
        settled = λ stands. is.settled ((made.made d may).settled stands);
      }

      -- the table in memory has the geometry of before
      pub next_geometry : t'.geometry ≡ t0.geometry
      next_geometry = sym is.table.geometry ∙ ap (λ (x : Disk). x.geometry) is.same ∙ geometry_same d e same ∙ may.table.geometry
