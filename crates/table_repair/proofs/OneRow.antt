-- A row is counted, and goes where it isn't used: the calls of the table where the device stands for a valid disk.
use Rattle.std.proofs.Common.{◌≡◌, ◌≢◌, ◌⊎◌, ⊎_elim, ℕ, ◌*◌, ◌^◌, ◌<◌, List, refl, sym, ◌∙◌, ap, subst, arith}
use Rattle.std.specs.Prelude.{Contains}
use Rattle.std.proofs.lemmas.List.Elements.{All-contains}
use Rattle.pm_device.specs.State.{State, Agree}
use Rattle.pm_device.specs.Settled.{LeavesOnly, StoresOnly}
use Rattle.pm_device.proofs.Moments.{leaves_only-weaken}
use Rattle.pm_layout.specs.declared.Geometry.{Geometry}
use Rattle.dn_model.specs.Table.{Row}
use Rattle.dn_model.specs.Disk.{Disk, rows}
use Rattle.dn_model.specs.Counts.{mappings, IsNear}
use Rattle.dn_model.specs.Valid.{IsValid}
use Rattle.law_table.specs.Words.{IsTableWord}
use Rattle.law_table.specs.Rows.{TakesRow}
use Rattle.law_table.proofs.Rows.{distinct_same}
use Rattle.law_table_on_disk.specs.CountLaws.{IsExact}
use Rattle.fact_table.specs.Table.{Table}
use Rattle.fact_counts.specs.Standing.{HasRowWith}
use Rattle.fact_counts.specs.Counted.{counted, AnyRow, LeavesTables, MakesTable, SettlesTable}
use Rattle.fact_changes.specs.Removal.{HasZero, MakesRemoved, SettlesRemoved, LeavesRemoved}
use Rattle.fact_calls.specs.declared.call.TableCall.TheVariants.{Recount, RemoveZero}
use Rattle.fact_calls.specs.Follows.{HasRowAt, CountsRow as CountsOne, RemovesRow, Follows}
use Rattle.fact_calls.specs.Made.{IsSameBut, MayCall}
use Rattle.fact_calls.proofs.Called.{zero_may, zero_images, zero_made, counted_leaves, counted_makes}
use Rattle.law_table_calls.specs.Calls.{HasRows, IsOnDisk, MayMakeOn}
use Rattle.law_table_calls.proofs.Disks.{call_images, call_made}
use Rattle.table_repair.specs.Settling.{SettlesFrom, HasSettling, IsRowToSettle, RowIsCounted, RowIsSettled, with_count, AreSameElsewhere}
use Rattle.table_repair.proofs.Later.{leaves_none, leaves_then}
use Rattle.table_repair.proofs.Changes.{
  settles_same,
  settles_then,
  same_mappings,
  settles_rows,
  settles_count,
  counted_there,
  counted_others,
  settles_gone,
  gone_here,
  gone_others,
}

-- a row's counts are near
near_at : (d : Disk) → IsValid d → (row : Row) → Contains (rows d) row → IsNear d row
near_at d valid row has = All-contains (IsNear d) (rows d) row valid.near has

-- a row without updates is counted already
pub same_count : (row : Row) (n : ℕ) → n ≡ row.rfc → 0 ≡ row.uc → with_count row n ≡ row
same_count row n rfc uc =
    ap (λ (a : ℕ). record { slot = row.slot; print = row.print; page = row.page; rfc = a; uc = 0 }) rfc ∙ ap
    (λ (b : ℕ). record { slot = row.slot; print = row.print; page = row.page; rfc = row.rfc; uc = b }) uc

pub same_elsewhere : (slot : ℕ) (rs : List Row) → AreSameElsewhere slot rs rs
same_elsewhere slot rs = record { kept = λ r has ne. has; only = λ r has ne. has }

module _ (d : Disk) (t : Table) (row : Row) (n : ℕ) (s : State) (is : IsRowToSettle d t row n s) where
  abbrev valid : IsValid d
  valid = is.stands.valid

  -- what a call on its slot asks
  pub row_with : HasRowWith s.now t row.slot AnyRow
  row_with = record { disk = d; table = is.stands.table; row = row; at_slot = record { there = is.there; slot_is = refl }; has = tt }

  count_may : MayCall d s.now t (Recount row.slot n)
  count_may = record { table = is.stands.table; may = record { row = row; there = is.there; slot_is = refl; has = tt } }

  this_one : (r : Row) → Contains (rows d) r → r.slot ≡ row.slot → r ≡ row
  this_one r has at = distinct_same (λ (x : Row). x.slot) (rows d) valid.rows_apart.slot r row has is.there at

  count_on : MayMakeOn d (rows d) (Recount row.slot n)
  count_on r has at = is.counted ∙ ap (λ (x : Row). mappings d x.page) (sym (this_one r has at))

  -- it is counted
  module _ (u : State) (only : StoresOnly (IsTableWord t.geometry) s u) (busy : row.uc ≢ 0) (fits : n < 2 ^ 32) where
    counts_settle : (e : Disk) → IsSameBut d e → CountsOne (counted n) row.slot (rows d) (rows e) → SettlesFrom d e
    counts_settle e same follows = settles_count d e valid same row.slot n row is.there refl follows.recounts busy

    image_settles : (c : List ℕ) → HasRows d c (λ rs. (rs ≡ rows d) ⊎ CountsOne (counted n) row.slot (rows d) rs) → HasSettling d c
    image_settles c has = record {
      disk = has.disk;
      stands_for = has.stands_for;
      is = ⊎_elim (λ (old : rows has.disk ≡ rows d). settles_rows d has.disk valid has.same old)
          (λ (new : CountsOne (counted n) row.slot (rows d) (rows has.disk)). counts_settle has.disk has.same new) has.are;
    }

    pub count_images : Agree u.now u.past → LeavesTables (counted n) t row.slot s u → LeavesOnly s u (HasSettling d)
    count_images agree leaves = leaves_only-weaken s u _ (HasSettling d) image_settles
        (call_images d valid s u is.stands.stands t (Recount row.slot n) count_may count_on only agree (counted_leaves t row.slot s u n fits leaves))

    pub count_made : MakesTable (counted n) t row.slot s u → SettlesTable (counted n) t row.slot s u → RowIsCounted d t row n u
    count_made makes settles =
        let made : IsOnDisk d t u (Follows d.geometry (rows d) (Recount row.slot n)) =
        call_made d valid s u is.stands.stands t (Recount row.slot n) count_may count_on only t (counted_makes t row.slot s u n fits makes settles) in
        record {
          disk = made.disk;
          settles = counts_settle made.disk made.same made.are;
          stands = record { valid = made.valid; stands = made.stands; table = made.table };
          there = counted_there d made.disk valid made.same row.slot n row is.there refl made.are.recounts;
          others = counted_others d made.disk valid made.same row.slot n row is.there refl made.are.recounts;
        }

  pub no_images : Agree s.now s.past → LeavesOnly s s (HasSettling d)
  no_images agree = leaves_none SettlesFrom d s (settles_same d) valid is.stands.stands agree
      (is.stands.table.size ∙ ap (λ (g : Geometry). 512 * g.pages) (sym is.stands.table.geometry))

  pub count_none : row.uc ≡ 0 → RowIsCounted d t row n s
  count_none still =
      let near = near_at d valid row is.there in
      record {
        disk = d;
        settles = settles_same d;
        stands = is.stands;
        there = subst (Contains (rows d)) (sym (same_count row n (omega (arith, near.0, near.1, still, is.counted)) (sym still))) is.there;
        others = same_elsewhere row.slot (rows d);
      }

  -- it has no reference and no update, and goes
  module _ (no_reference : row.rfc ≡ 0) (no_update : row.uc ≡ 0) (unmapped : mappings d row.page ≡ 0) where
    abbrev zero : HasRowAt (rows d) row.slot (λ r. (r.rfc ≡ 0) × (r.uc ≡ 0))
    zero = record { row = row; there = is.there; slot_is = refl; has = (no_reference, no_update) }

    pub has_zero : HasZero s.now t row.slot
    has_zero = record { disk = d; row = row; may = zero_may d s t row.slot is.stands.table zero }

    gone_may : MayCall d s.now t (RemoveZero row.slot)
    gone_may = record { table = is.stands.table; may = zero }

    module _ (u : State) (only : StoresOnly (IsTableWord t.geometry) s u) where
      goes : (rs : List Row) → RemovesRow row.slot (rows d) rs → TakesRow row (rows d) rs
      goes rs removes = subst (λ (r : Row). TakesRow r (rows d) rs) (this_one removes.row removes.there removes.slot_is) removes.takes

      gone_settles : (e : Disk) → IsSameBut d e → RemovesRow row.slot (rows d) (rows e) → SettlesFrom d e
      gone_settles e same removes = settles_gone d e valid same row is.there (goes (rows e) removes) no_reference unmapped

      gone_image : (c : List ℕ) → HasRows d c (λ rs. (rs ≡ rows d) ⊎ RemovesRow row.slot (rows d) rs) → HasSettling d c
      gone_image c has = record {
        disk = has.disk;
        stands_for = has.stands_for;
        is = ⊎_elim (λ (old : rows has.disk ≡ rows d). settles_rows d has.disk valid has.same old)
            (λ (new : RemovesRow row.slot (rows d) (rows has.disk)). gone_settles has.disk has.same new) has.are;
      }

      pub gone_images : Agree u.now u.past → LeavesRemoved t row.slot s u → LeavesOnly s u (HasSettling d)
      gone_images agree leaves = leaves_only-weaken s u _ (HasSettling d) gone_image
          (call_images d valid s u is.stands.stands t (RemoveZero row.slot) gone_may tt only agree
          (λ e may stands. zero_images e s t row.slot may.table may.may u leaves stands))

      pub gone_made : (t' : Table) → MakesRemoved t t' row.slot s u → SettlesRemoved t row.slot s u → RowIsSettled d t' row.slot u
      gone_made t' makes settles =
          let made : IsOnDisk d t' u (Follows d.geometry (rows d) (RemoveZero row.slot)) =
          call_made d valid s u is.stands.stands t (RemoveZero row.slot) gone_may tt only t' (λ e may. zero_made e s t row.slot may.table may.may u t'
          makes settles) in
          let takes = goes (rows made.disk) made.are in
          record {
            disk = made.disk;
            settles = gone_settles made.disk made.same made.are;
            stands = record { valid = made.valid; stands = made.stands; table = made.table };
            exact = λ r has at. absurd (gone_here d made.disk valid made.same row is.there takes r has at);
            others = gone_others d made.disk valid made.same row is.there takes;
          }

  -- it has references, and stays
  pub gone_none : row.rfc ≡ n → row.uc ≡ 0 → n ≢ 0 → RowIsSettled d t row.slot s
  gone_none rfc still some = record {
    disk = d;
    settles = settles_same d;
    stands = is.stands;
    exact = λ r has at. subst (IsExact d) (sym (this_one r has at)) (still, rfc ∙ is.counted, λ none. some (sym rfc ∙ none));
    others = same_elsewhere row.slot (rows d);
  }

-- a row that was counted goes on
module _ (d : Disk) (t : Table) (row : Row) (n : ℕ) (s : State) (is : IsRowToSettle d t row n s) (u : State) (made : RowIsCounted d t row n u) where
  pub then_settle : IsRowToSettle made.disk t (with_count row n) n u
  then_settle = record { stands = made.stands; there = made.there; counted = is.counted ∙ sym (same_mappings d made.disk made.settles.same row.page) }

  pub then_images : (w : State) → LeavesOnly s u (HasSettling d) → LeavesOnly u w (HasSettling made.disk) → LeavesOnly s w (HasSettling d)
  then_images w first next = leaves_then SettlesFrom settles_then d made.disk made.settles s u w first next

  pub then_settled : (t' : Table) (w : State) → RowIsSettled made.disk t' row.slot w → RowIsSettled d t' row.slot w
  then_settled t' w next = record {
    disk = next.disk;
    settles = settles_then d made.disk next.disk made.settles next.settles;
    stands = next.stands;
    exact = next.exact;
    others = record {
      kept = λ r has ne. next.others.kept r (made.others.kept r has ne) ne;
      only = λ r has ne. made.others.only r (next.others.only r has ne) ne;
    };
  }
