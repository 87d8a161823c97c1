-- What each call of the table leaves on the way, and makes in the end.
use Rattle.std.proofs.Common.{◌≡◌, ◌⊎◌, inl, inr, ⊎_elim, ℕ, ◌+◌, ◌-◌, ◌^◌, ◌<◌, ◌≤◌, List, refl, sym, ◌∙◌, ap, subst, arith}
use Rattle.std.specs.Prelude.{Contains, Result, Ok, Err, OnOk}
use Rattle.std.proofs.lemmas.List.Elements.{All-contains}
use Rattle.pm_device.specs.State.{State}
use Rattle.pm_device.specs.Settled.{LeavesOnly}
use Rattle.pm_device.specs.Reading.{Stands}
use Rattle.pm_device.proofs.Moments.{leaves_only-weaken}
use Rattle.pm_layout.specs.declared.Geometry.{Geometry}
use Rattle.pm_layout.specs.Geometry.{directs, slots}
use Rattle.fingerprint.specs.declared.count.CountWord.{CountWord}
use Rattle.dn_model.specs.Table.{Row, prefix_of}
use Rattle.dn_model.specs.Disk.{Disk, TableSays, rows}
use Rattle.dn_model.specs.Valid.{HasGoodRows}
use Rattle.law_table.specs.Changes.{with_table, removed}
use Rattle.law_table.specs.Words.{HoldsTable}
use Rattle.law_table.specs.Rows.{TakesRow}
use Rattle.law_table.proofs.Rows.{all_listed}
use Rattle.law_table.proofs.TableRows.{of_chain, is_row}
use Rattle.law_table.proofs.Counted.{counted_good, recounts_rows}
use Rattle.law_table.proofs.Pointed.{rows_repointed}
use Rattle.law_table.proofs.Opened.{opening_decides}
use Rattle.law_table.proofs.Linked.{link_decides}
use Rattle.law_table.proofs.Gone.{takes_row, taken_good}
use Rattle.fact_table.specs.Table.{Table, IsTable, IsAtSlot, HasRow, TakesSlot}
use Rattle.fact_counts.specs.Standing.{HasRowWith}
use Rattle.fact_counts.specs.Counted.{
  raised,
  up,
  down,
  counted,
  MayRaise,
  MaySettleUp,
  MaySettleDown,
  AnyRow,
  count_changed,
  MakesTable,
  SettlesTable,
  LeavesTables,
}
use Rattle.fact_rows.specs.Put.{new_row, pointed}
use Rattle.fact_rows.specs.Gone.{cleared}
use Rattle.fact_changes.specs.Insertion.{MayInsert, Inserts, opens, links, IsInserting, HasInserted}
use Rattle.fact_changes.specs.Removal.{MayRemoveAt, LeavesRemoved, MakesRemoved, SettlesRemoved}
use Rattle.fact_changes.specs.Stale.{IsStale, Clears, HasCleared, IsTidied}
use Rattle.fact_changes.proofs.Slotted.{put_direct, rows_direct, put_chained, rows_chained, none_taken}
use Rattle.fact_changes.proofs.Emptied.{rows_left, good_left}
use Rattle.fact_calls.specs.declared.call.TableCall.{TableCall}
use Rattle.fact_calls.specs.declared.call.TableCall.TheVariants.{Insert, Raise, SettleUp, SettleDown, Recount, RemoveZero, ClearStale}
use Rattle.fact_calls.specs.Follows.{HasRowAt, MayComeIn, MayMake, at_direct, at_indirect, InsertsRow, CountsRow, RemovesRow, Follows}
use Rattle.fact_calls.specs.Made.{IsSameBut, MayCall, HasCalled, HoldsRows, LeavesCall, MakesCall}

-- two facts of what succeeds
pub both_done : {T E : Type 0} (r : Result T E) (P Q R : Type 0) → (P → Q → R) → OnOk r P → OnOk r Q → OnOk r R
both_done (Ok x) P Q R gives p q = gives p q
both_done (Err e) P Q R gives p q = tt

-- an image with the rows of before, or with those of after
abbrev HasOneOf : Disk → TableCall → List ℕ → Type 0
HasOneOf d call c = HoldsRows d c (λ rs. (rs ≡ rows d) ⊎ Follows d.geometry (rows d) call rs)

has_old : (d e : Disk) → IsSameBut d e → HasGoodRows e → rows e ≡ rows d → (call : TableCall) (c : List ℕ) → HoldsTable c e → HasOneOf d call c
has_old d e same good are call c holds = record { disk = e; same = same; good = good; are = inl are; holds = holds }

has_new : (d e : Disk) → IsSameBut d e → HasGoodRows e → (call : TableCall) → Follows d.geometry (rows d) call (rows e) → (c : List ℕ)
    → HoldsTable c e → HasOneOf d call c
has_new d e same good call follows c holds = record { disk = e; same = same; good = good; are = inr follows; holds = holds }

-- counts that fit into a slot
abbrev Fits : (Row → CountWord) → Row → Type 0
Fits f row = ((f row).rfc < 2 ^ 32) × ((f row).uc < 2 ^ 32)

module _ (d : Disk) (good : HasGoodRows d) (row : Row) (there : Contains (rows d) row) where
  rfc_fits : row.rfc < 2 ^ 32
  rfc_fits = let found = of_chain d row there in (is_row d good found.0 row found.1 found.2).rfc

  uc_fits : row.uc < 2 ^ 32
  uc_fits = let found = of_chain d row there in (is_row d good found.0 row found.1 found.2).uc

  raise_fits : MayRaise row → Fits raised row
  raise_fits may = (rfc_fits, may)

  up_fits : MaySettleUp row → Fits up row
  up_fits may = (may.1, omega (arith, uc_fits))

  down_fits : MaySettleDown row → Fits down row
  down_fits may = (omega (arith, rfc_fits), omega (arith, uc_fits))

-- a row at a slot of the table in the device's words
at_of : (d : Disk) (slot : ℕ) (P : Row → Type 0) → (has : HasRowAt (rows d) slot P) → IsAtSlot d slot has.row
at_of d slot P has = record { there = has.there; slot_is = has.slot_is }

pub row_with : (d : Disk) (words : List ℕ) (t : Table) (slot : ℕ) (P : Row → Type 0) → IsTable d words t → HasRowAt (rows d) slot P
    → HasRowWith words t slot P
row_with d words t slot P table has = record { disk = d; table = table; row = has.row; at_slot = at_of d slot P has; has = has.has }

-- the counts of a row
module _ (f : Row → CountWord) (P : Row → Type 0) (fits : (d : Disk) → HasGoodRows d → (row : Row) → Contains (rows d) row → P row → Fits f row)
    (call : TableCall) (slot : ℕ)
    (may_is : (g : Geometry) (rs : List Row) → MayMake g rs call → HasRowAt rs slot P) (is : (g : Geometry) (olds news : List Row)
    → CountsRow f slot olds news → Follows g olds call news)
    (t : Table) (s u : State) (d : Disk) (may : MayCall d s.now t call) where
  has : HasRowAt (rows d) slot P
  has = may_is t.geometry (rows d) may.may

  abbrev new : Disk
  new = count_changed f d slot has.row

  fit : Fits f has.row
  fit = fits d may.table.good has.row has.there has.has

  follows : Follows d.geometry (rows d) call (rows new)
  follows = is d.geometry (rows d) (rows new) (record {
    row = has.row;
    there = has.there;
    slot_is = has.slot_is;
    recounts = recounts_rows d slot
        (f has.row).rfc (f has.row).uc;
  })

  new_good : HasGoodRows new
  new_good = counted_good d slot (f has.row).rfc (f has.row).uc may.table.good fit.0 fit.1

  count_leaves : LeavesTables f t slot s u → Stands (TableSays d) s → LeavesOnly s u (HasOneOf d call)
  count_leaves leaves stands = leaves_only-weaken s u _ _ (λ c. ⊎_elim (has_old d d refl may.table.good refl call c)
      (has_new d new refl new_good call follows c))
      (leaves d has.row (record { table = may.table; stands = stands }) (at_of d slot P has))

  count_makes : MakesTable f t slot s u → SettlesTable f t slot s u → HasCalled d call t s u
  count_makes makes settles = record {
    disk = new;
    same = refl;
    follows = follows;
    table = makes d has.row may.table (at_of d slot P has);
    settled = λ stands. (settles d has.row (record { table = may.table; stands = stands }) (at_of d slot P has)).stands;
  }

-- a row comes in
module _ (d : Disk) (s : State) (t : Table) (print : List ℕ) (page : ℕ) (table : IsTable d s.now t) (may : MayComeIn t.geometry (rows d) print page)
  where
    pub insert_may : MayInsert d s.now t print page
    insert_may = record {
      table = table;
      twenty_bytes = may.twenty_bytes;
      data_page = may.data_page;
      new_print = may.new_print;
      new_page = may.new_page;
    }

    -- the disk with the row, and that with the pointer alone
    record IsInserted (slot : ℕ) (disk : Disk) : Type 0 where
      same : disk ≡ with_table d disk.chain disk.pointer
      row : InsertsRow d.geometry print page (rows d) (rows disk)
      good : HasGoodRows disk
      middle : HasGoodRows (pointed d (new_row slot print page))

    inserted : (slot : ℕ) (disk : Disk) (t' : Table) → Inserts d t print page slot disk t' → IsInserted slot disk
    inserted slot disk t' (opens none) =
        let here = put_direct d s.now t print page insert_may none in
        record {
          same = refl;
          row = record {
            slot = prefix_of t.geometry print;
            slot_for = at_direct (ap (λ (g : Geometry). prefix_of g print) (sym table.geometry)) none;
            puts = rows_direct d s.now t print page insert_may none;
          };
          good = (opening_decides _ _ _ here refl).good;
          middle = here.good;
        }
    inserted slot disk t' (links first takes) =
        let same = table.geometry in
        let here = put_chained d s.now t print page insert_may slot t' takes in
        let low : directs d.geometry ≤ slot = subst (λ (g : Geometry). directs g ≤ slot) (sym same) takes.indirect in
        let high : slot < slots d.geometry = subst (λ (g : Geometry). slot < slots g) (sym same) takes.small in
        record {
          same = refl;
          row = record {
            slot = slot;
            slot_for = at_indirect
                (subst (λ (g : Geometry). HasRowAt (rows d) (prefix_of g print) AnyRow) (sym same)
                (record { row = first.row; there = first.is.there; slot_is = first.is.slot_is; has = tt }))
                (record {
                  low = low;
                  high = high;
                  unused = none_taken d s.now t print page insert_may slot t' takes;
                  least = λ other above below. below_least slot t' takes other (subst (λ (g : Geometry). directs g ≤ other) same above) below;
                });
            puts = rows_chained d s.now t print page insert_may slot t' takes;
          };
          good = (link_decides _ _ _ here low high).good;
          middle = here.good;
        }
      where
        below_least : (slot : ℕ) (t' : Table) → TakesSlot slot t t' → (other : ℕ) → directs t.geometry ≤ other → other < slot
            → HasRowAt (rows d) other AnyRow
        below_least slot t' takes other above below =
            let place : directs t.geometry + (other - directs t.geometry) ≡ other = omega (arith, above) in
            let has : HasRow d (directs t.geometry + (other - directs t.geometry)) = table.taken (other - directs t.geometry)
            (omega (arith, takes.small, above, below))
            (λ c. let least = All-contains (λ (q : ℕ). slot - directs t.geometry ≤ q) t.free.free (other - directs t.geometry) takes.takes.least c in
            omega (arith, least, above, below, takes.indirect)) in
            record { row = has.row; there = has.is.there; slot_is = has.is.slot_is ∙ place; has = tt }

    module _ (t' : Table) (u : State) where
      pub insert_images : IsInserting d t t' print page s u → LeavesOnly s u (HasOneOf d (Insert print page))
      insert_images is =
          let after = inserted is.slot is.disk t' is.inserts in
          let middle : Disk = pointed d (new_row is.slot print page) in
          leaves_only-weaken s u _ _ (λ c. ⊎_elim (has_old d d refl table.good refl (Insert print page) c)
          (⊎_elim (has_old d middle refl after.middle (rows_repointed d page (is.slot + 1)) (Insert print page) c)
          (has_new d is.disk after.same after.good (Insert print page) after.row c))) is.leaves

      pub insert_made : (slot : ℕ) → HasInserted d t t' print page slot s u → HasCalled d (Insert print page) t' s u
      insert_made slot is = let after = inserted slot is.disk t' is.inserts in record {
        disk = is.disk;
        same = after.same;
        follows = after.row;
        table = is.table;
        settled = is.settled;
      }

-- a row goes
module _ (d : Disk) (s : State) (t : Table) (slot : ℕ) (table : IsTable d s.now t)
    (has : HasRowAt (rows d) slot (λ row. (row.rfc ≡ 0) × (row.uc ≡ 0))) where
  pub zero_may : MayRemoveAt d has.row s.now t slot
  zero_may = record { table = table; at_slot = record { there = has.there; slot_is = has.slot_is }; no_reference = has.has.0; no_update = has.has.1 }

  zero_row : (news : List Row) → TakesRow has.row (rows d) news → RemovesRow slot (rows d) news
  zero_row news takes = record { row = has.row; there = has.there; slot_is = has.slot_is; takes = takes }

  zero_follows : RemovesRow slot (rows d) (rows (cleared d has.row))
  zero_follows = zero_row _ (rows_left d has.row s t slot zero_may)

  module _ (u : State) where
    pub zero_images : LeavesRemoved t slot s u → Stands (TableSays d) s → LeavesOnly s u (HasOneOf d (RemoveZero slot))
    zero_images leaves stands = leaves_only-weaken s u _ _ (λ c. ⊎_elim (has_old d d refl table.good refl (RemoveZero slot) c)
        (⊎_elim (has_new d (removed d has.row.slot) refl (taken_good d has.row table.good has.there) (RemoveZero slot)
        (zero_row _ (takes_row d has.row table.good has.there)) c)
        (has_new d (cleared d has.row) refl (good_left d has.row s t slot zero_may) (RemoveZero slot) zero_follows c)))
        (leaves d has.row zero_may stands)

    pub zero_made : (t' : Table) → MakesRemoved t t' slot s u → SettlesRemoved t slot s u → HasCalled d (RemoveZero slot) t' s u
    zero_made t' makes settles = record {
      disk = cleared d has.row;
      same = refl;
      follows = zero_follows;
      table = makes d has.row zero_may;
      settled = settles d has.row zero_may;
    }

-- a disk with some stale pointers cleared
module _ (d : Disk) (good : HasGoodRows d) (pointer : ℕ → ℕ) (each : (page : ℕ) → (pointer page ≡ d.pointer page)
    ⊎ (IsStale d page × (pointer page ≡ 0))) where
  leads_still : (row : Row) → Contains (rows d) row → pointer row.page ≡ row.slot + 1
  leads_still row has = ⊎_elim (λ (same : pointer row.page ≡ d.pointer row.page). same ∙ All-contains (λ (r : Row). d.pointer r.page ≡ r.slot + 1)
      (rows d) row good.leads has)
      (λ (gone : IsStale d row.page × (pointer row.page ≡ 0)). absurd (gone.0.no_row row has refl)) (each row.page)

  pointed_small : (page : ℕ) → page < d.geometry.pages → pointer page ≤ slots d.geometry
  pointed_small page lt =
      let was = good.pointers page lt in
      ⊎_elim (λ (same : pointer page ≡ d.pointer page). omega (arith, same, was)) (λ (gone : IsStale d page × (pointer page ≡ 0)). omega
      (arith, gone.1)) (each page)

  tidied_good : HasGoodRows (with_table d d.chain pointer)
  unfolding rows
  tidied_good = record {
    table = good.table;
    apart = good.apart;
    pointers = pointed_small;
    leads = all_listed (λ (row : Row). pointer row.page ≡ row.slot + 1) (rows d) leads_still;
  }

module _ (d e : Disk) (is : Clears d e) where
  cleared_same : IsSameBut d e
  cleared_same = is.same ∙ ap (λ (chain : ℕ → List Row). with_table d chain e.pointer) (sym (ap (λ (x : Disk). x.chain) is.same))

  cleared_good : HasGoodRows d → HasGoodRows e
  cleared_good good = subst HasGoodRows (sym is.same) (tidied_good d good e.pointer is.pointers)

-- stale pointers are cleared
pub clear_images : (d : Disk) (s u : State) → HasGoodRows d → LeavesOnly s u (HasCleared d) → LeavesOnly s u (HasOneOf d ClearStale)
clear_images d s u good leaves = leaves_only-weaken s u _ _
    (λ c (is : HasCleared d c). has_old d is.disk (cleared_same d is.disk is.clears) (cleared_good d is.disk is.clears good) is.clears.rows_same
    ClearStale c is.holds) leaves

pub clear_made : (d : Disk) (t : Table) (s u : State) → IsTidied d t s u → HasCalled d ClearStale t s u
clear_made d t s u is = record {
  disk = is.disk;
  same = cleared_same d is.disk is.clears;
  follows = is.clears.rows_same;
  table = is.table;
  settled = is.settled;
}

-- The clauses, call by call.
module _ (t : Table) (slot : ℕ) (s u : State) where
  pub raise_leaves : LeavesTables raised t slot s u → LeavesCall t (Raise slot) s u
  raise_leaves leaves d may = count_leaves raised MayRaise raise_fits (Raise slot) slot (λ g rs has. has) (λ g olds news is. is) t s u d may leaves

  pub raise_makes : MakesTable raised t slot s u → SettlesTable raised t slot s u → MakesCall t t (Raise slot) s u
  raise_makes makes settles d may = count_makes raised MayRaise raise_fits (Raise slot) slot (λ g rs has. has) (λ g olds news is. is) t s u d may
      makes settles

  pub up_leaves : LeavesTables up t slot s u → LeavesCall t (SettleUp slot) s u
  up_leaves leaves d may = count_leaves up MaySettleUp up_fits (SettleUp slot) slot (λ g rs has. has) (λ g olds news is. is) t s u d may leaves

  pub up_makes : MakesTable up t slot s u → SettlesTable up t slot s u → MakesCall t t (SettleUp slot) s u
  up_makes makes settles d may = count_makes up MaySettleUp up_fits (SettleUp slot) slot (λ g rs has. has) (λ g olds news is. is) t s u d may makes
      settles

  pub down_leaves : LeavesTables down t slot s u → LeavesCall t (SettleDown slot) s u
  down_leaves leaves d may = count_leaves down MaySettleDown down_fits (SettleDown slot) slot (λ g rs has. has) (λ g olds news is. is) t s u d may
      leaves

  pub down_makes : MakesTable down t slot s u → SettlesTable down t slot s u → MakesCall t t (SettleDown slot) s u
  down_makes makes settles d may = count_makes down MaySettleDown down_fits (SettleDown slot) slot (λ g rs has. has) (λ g olds news is. is) t s u d
      may makes settles

  module _ (rfc : ℕ) where
    rfc_is : rfc < 2 ^ 32 → (g : Geometry) (rs : List Row) → MayMake g rs (Recount slot rfc) → HasRowAt rs slot (λ row. rfc < 2 ^ 32)
    rfc_is fits g rs may = record { row = may.row; there = may.there; slot_is = may.slot_is; has = fits }

    counted_fits : (d : Disk) → HasGoodRows d → (row : Row) → Contains (rows d) row → rfc < 2 ^ 32 → Fits (counted rfc) row
    counted_fits d good row there fits = (fits, omega arith)

    pub counted_leaves : rfc < 2 ^ 32 → LeavesTables (counted rfc) t slot s u → LeavesCall t (Recount slot rfc) s u
    counted_leaves fits leaves d may = count_leaves (counted rfc) (λ row. rfc < 2 ^ 32) counted_fits (Recount slot rfc) slot (rfc_is fits)
        (λ g olds news is. is) t s u d may leaves

    pub counted_makes : rfc < 2 ^ 32 → MakesTable (counted rfc) t slot s u → SettlesTable (counted rfc) t slot s u → MakesCall t t (Recount slot rfc)
        s u
    counted_makes fits makes settles d may = count_makes (counted rfc) (λ row. rfc < 2 ^ 32) counted_fits (Recount slot rfc) slot (rfc_is fits)
        (λ g olds news is. is) t s u d may makes settles

-- a call that is known
pub of_call-leaves : (t : Table) (call known : TableCall) (s u : State) → call ≡ known → LeavesCall t known s u → LeavesCall t call s u
of_call-leaves t call known s u is = subst (λ (x : TableCall). LeavesCall t x s u) (sym is)

pub of_call-makes : (t t' : Table) (call known : TableCall) (s u : State) → call ≡ known → MakesCall t t' known s u → MakesCall t t' call s u
of_call-makes t t' call known s u is = subst (λ (x : TableCall). MakesCall t t' x s u) (sym is)

pub of_call-may : (d : Disk) (words : List ℕ) (t : Table) (call known : TableCall) → call ≡ known → MayCall d words t call → MayCall d words t known
of_call-may d words t call known is = subst (MayCall d words t) is
