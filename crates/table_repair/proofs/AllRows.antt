-- The rows of a table are settled, one after another.
use Rattle.std.proofs.Common.{◌≡◌, ◌≢◌, ◌⊎◌, inl, inr, ⊎_elim, ℕ, ◌+◌, ◌*◌, ◌≤◌, List, length, sym, ◌∙◌, ap, subst, arith}
use Rattle.std.specs.Prelude.{Contains, slice_get, slice_index, Some, option_map}
use Rattle.std.proofs.lemmas.Bool.{cases_eq}
use Rattle.std.proofs.lemmas.List.{length-map}
use Rattle.std.proofs.lemmas.List.Elements.{All-contains}
use Rattle.std.proofs.lemmas.Option.{slice_get_within, slice_get-map}
use Rattle.pm_device.specs.State.{State, Agree}
use Rattle.pm_device.specs.Settled.{Still, LeavesOnly, StoresOnly, Nowhere}
use Rattle.pm_device.proofs.Only.{stores_only-none, stores_only-then}
use Rattle.pm_layout.specs.declared.Geometry.{Geometry}
use Rattle.dn_model.specs.Table.{Row}
use Rattle.dn_model.specs.Disk.{Disk, rows}
use Rattle.dn_model.specs.Counts.{mappings, Exact}
use Rattle.law_table.specs.Words.{IsTableWord}
use Rattle.law_table.proofs.Rows.{all_listed, listed_at, at_listed}
use Rattle.law_table_on_disk.specs.CountLaws.{IsExact}
use Rattle.fact_scan.specs.Seen.{as_row}
use Rattle.fact_scan.specs.declared.row.Row.{Row as RowValue}
use Rattle.fact_table.specs.Table.{Table}
use Rattle.fact_calls.specs.Made.{IsSameBut}
use Rattle.table_repair.specs.Settling.{SettlesFrom, HasSettling, StandsWith, IsRowToSettle, HasRowToSettle, RowIsSettled, IsTableToSettle, HasTableToSettle, CountsAreSettled, LeavesRow, SettlesRow, KeepsExact}
use Rattle.table_repair.proofs.Later.{leaves_none, leaves_then}
use Rattle.table_repair.proofs.Changes.{settles_same, settles_then, same_mappings}

-- row k of the table, which isn't settled yet
pub record IsAhead (d : Disk) (i : ℕ) (row : Row) : Type 0 where
  pub k : ℕ
  pub late : i ≤ k
  pub at : slice_get (rows d) k ≡ Some row

-- the rows below i are settled, and the others stand there as they were
pub record IsFront (d : Disk) (i : ℕ) (t : Table) (s0 s : State) : Type 0 where
  pub disk : Disk
  pub settles : SettlesFrom d disk
  pub stands : StandsWith disk t s
  pub images : LeavesOnly s0 s (HasSettling d)
  pub ahead : (row : Row) → IsAhead d i row → Contains (rows disk) row
  pub behind : (row : Row) → Contains (rows disk) row → IsExact disk row ⊎ IsAhead d i row

pub record IsPartSettled (found : List RowValue) (mapped : List ℕ) (i : ℕ) (t0 t : Table) (s0 s : State) : Type 0 where
  pub spare : s0.spare ≤ s.spare + 9 * i
  pub faults : s0.faults ≤ s.faults
  pub only : StoresOnly (IsTableWord t0.geometry) s0 s
  pub still : Still s0 → Still s
  pub quiet : KeepsExact t0 found mapped s0 s
  pub front : (d : Disk) → IsTableToSettle d t0 found mapped s0 → IsFront d i t s0 s

geometry_same : (d e : Disk) → IsSameBut d e → e.geometry ≡ d.geometry
geometry_same d e same = ap (λ (x : Disk). x.geometry) same

pub front_begins : (found : List RowValue) (mapped : List ℕ) (t : Table) (s : State) → Agree s.now s.past → IsPartSettled found mapped 0 t t s s
front_begins found mapped t s agree = record {
  spare = omega arith;
  faults = omega arith;
  only = stores_only-none _ s agree;
  still = λ still. still;
  quiet = λ d is exact. stores_only-none _ s agree;
  front = λ d is. record {
    disk = d;
    settles = settles_same d;
    stands = is.stands;
    images = leaves_none SettlesFrom d s (settles_same d) is.stands.valid is.stands.stands agree
        (is.stands.table.size ∙ ap (λ (g : Geometry). 512 * g.pages) (sym is.stands.table.geometry));
    ahead = λ row at. listed_at (rows d) at.k row at.at;
    behind = λ row has. inr (record { k = has.0; late = omega arith; at = at_listed (rows d) row has });
  };
}

module _ (found : List RowValue) (mapped : List ℕ) (i : ℕ) (t0 t : Table) (s0 s : State) (part : IsPartSettled found mapped i t0 t s0 s)
    (here : RowValue) (at : slice_get found i ≡ Some here) where
  module _ (d : Disk) (is : IsTableToSettle d t0 found mapped s0) where
    abbrev front : IsFront d i t s0 s
    front = part.front d is

    abbrev row : Row
    row = as_row here

    row_at : slice_get (rows d) i ≡ Some row
    row_at = subst (λ (rs : List Row). slice_get rs i ≡ Some row) is.rows_are (slice_get-map as_row found i ∙ ap (option_map as_row) at)

    has_row : Contains (rows d) row
    has_row = listed_at (rows d) i row row_at

    same : (page : ℕ) → mappings front.disk page ≡ mappings d page
    same = same_mappings d front.disk front.settles.same

    -- the next row is exact, if all are
    row_exact : Exact d → IsExact d row
    row_exact exact = All-contains (IsExact d) (rows d) row exact.counts has_row

    pub next_quiet : (u : State) → (here.count.uc ≡ 0 → slice_index mapped here.page ≢ 0 → StoresOnly Nowhere s u) → Exact d
        → StoresOnly Nowhere s0 u
    next_quiet u quiet exact =
        let one = row_exact exact in
        stores_only-then Nowhere s0 s u (part.quiet d is exact)
        (quiet one.0 (λ none. one.2 (one.1 ∙ sym (is.counted row has_row) ∙ none)))

    -- the next row may be settled
    pub next_row : IsRowToSettle front.disk t row (slice_index mapped here.page) s
    next_row = record {
      stands = front.stands;
      there = front.ahead row (record { k = i; late = omega arith; at = row_at });
      counted = is.counted row has_row ∙ sym (same here.page);
    }

    pub next_geometry : t.geometry ≡ t0.geometry
    next_geometry = sym front.stands.table.geometry ∙ geometry_same d front.disk front.settles.same ∙ is.stands.table.geometry

    module _ (u : State) where
      pub next_images : LeavesRow t row (slice_index mapped here.page) s u → LeavesOnly s0 u (HasSettling d)
      next_images leaves = leaves_then SettlesFrom settles_then d front.disk front.settles s0 s u front.images (leaves front.disk next_row)

      module _ (t' : Table) (leaves : LeavesRow t row (slice_index mapped here.page) s u)
          (settled : SettlesRow t t' row (slice_index mapped here.page) s u) where
        abbrev next : RowIsSettled front.disk t' row.slot u
        next = settled front.disk next_row

        -- rows at different places have different slots
        one_place : (k : ℕ) (r : Row) → slice_get (rows d) k ≡ Some r → r.slot ≡ row.slot → k ≡ i
        one_place k r there e = is.stands.valid.rows_apart.slot k i r row there row_at e

        still_ahead : (r : Row) → IsAhead d (i + 1) r → Contains (rows next.disk) r
        still_ahead r far = next.others.kept r (front.ahead r (record { k = far.k; late = omega (arith, far.late); at = far.at }))
            (λ e. let k : far.k ≡ i = one_place far.k r far.at e in omega (arith, k, far.late))

        exact_still : (r : Row) → IsExact front.disk r → IsExact next.disk r
        exact_still r exact = (exact.0, exact.1 ∙ sym (same_mappings front.disk next.disk next.settles.same r.page), exact.2)

        farther : (r : Row) → r.slot ≢ row.slot → IsAhead d i r → IsAhead d (i + 1) r
        farther r ne far = record {
          k = far.k;
          late = elim (cases_eq far.k i) [
            | inl e ↦ absurd (ne (slot_at e))
            | inr other ↦ omega
                (arith, far.late, other)
          ];
          at = far.at;
        }
          where
            some_same : (x y : Row) → Some x ≡ Some y → x.slot ≡ y.slot
            some_same x y e = cc

            slot_at : far.k ≡ i → r.slot ≡ row.slot
            slot_at e = some_same r row (sym far.at ∙ ap (slice_get (rows d)) e ∙ row_at)

        still_behind : (r : Row) → Contains (rows next.disk) r → IsExact next.disk r ⊎ IsAhead d (i + 1) r
        still_behind r has = elim (cases_eq r.slot row.slot) [
          | inl e ↦ inl (next.exact r has e)
          | inr ne ↦ ⊎_elim (λ (exact : IsExact front.disk r). inl (exact_still r exact)) (λ (far : IsAhead d i r). inr (farther r ne far))
              (front.behind r (next.others.only r has ne))
        ]

        pub next_front : IsFront d (i + 1) t' s0 u
        next_front = record {
          disk = next.disk;
          settles = settles_then d front.disk next.disk front.settles next.settles;
          stands = next.stands;
          images = next_images leaves;
          ahead = still_ahead;
          behind = still_behind;
        }

  pub has_next : HasTableToSettle t0 found mapped s0 → HasRowToSettle t (as_row here) (slice_index mapped here.page) s
  has_next has = record { disk = (part.front has.disk has.is).disk; is = next_row has.disk has.is }

  pub next_only : HasTableToSettle t0 found mapped s0 → (u : State) → StoresOnly (IsTableWord t.geometry) s u → StoresOnly (IsTableWord t0.geometry)
      s0 u
  next_only has u only = stores_only-then (IsTableWord t0.geometry) s0 s u part.only (subst (λ (g : Geometry). StoresOnly (IsTableWord g) s u)
      (next_geometry has.disk has.is) only)

-- all of them are settled
module _ (found : List RowValue) (mapped : List ℕ) (i : ℕ) (t0 t : Table) (s0 s : State) (part : IsPartSettled found mapped i t0 t s0 s)
    (end : length found ≤ i) where
  module _ (d : Disk) (is : IsTableToSettle d t0 found mapped s0) where
    abbrev last : IsFront d i t s0 s
    last = part.front d is

    count : length (rows d) ≡ length found
    count = sym (ap length is.rows_are) ∙ length-map found as_row

    all_exact : (row : Row) → Contains (rows last.disk) row → IsExact last.disk row
    all_exact row has = ⊎_elim (λ (exact : IsExact last.disk row). exact)
        (λ (far : IsAhead d i row). absurd (let lt = slice_get_within (rows d) far.k row far.at in omega (arith, lt, count, far.late, end)))
        (last.behind row has)

    pub front_ends : CountsAreSettled d t s
    front_ends = record {
      disk = last.disk;
      settles = last.settles;
      stands = last.stands;
      exact = record { counts = all_listed (IsExact last.disk) (rows last.disk) all_exact; unshared = last.stands.valid.single.unshared };
    }
