-- Rows that fit a valid disk, at different slots: a call that may be made of them keeps them so.
use Rattle.std.proofs.Common.{◌≡◌, ◌⊎◌, inl, inr, ⊎_elim, ℕ, zero, suc, ◌+◌, ◌≤◌, List, sym, ◌∙◌, ap, subst, arith}
use Rattle.std.specs.Prelude.{IsNone, Contains}
use Rattle.std.proofs.lemmas.Bool.{cases_eq}
use Rattle.std.proofs.lemmas.List.Elements.{All-contains}
use Rattle.pm_layout.specs.declared.Geometry.{Geometry}
use Rattle.fingerprint.specs.declared.count.CountWord.{CountWord}
use Rattle.dn_model.specs.Table.{Row, row_of}
use Rattle.dn_model.specs.Disk.{Disk, IsMapped, rows}
use Rattle.dn_model.specs.Counts.{mappings, IsNear}
use Rattle.dn_model.specs.Valid.{IsValid}
use Rattle.law_write.specs.Events.{IsReadPage}
use Rattle.law_table.specs.Changes.{recount}
use Rattle.law_table.specs.Rows.{PutsRow}
use Rattle.law_table.proofs.Rows.{all_listed, none_listed, none_found, distinct_same}
use Rattle.law_table_on_disk.specs.TableLaws.{FitsDisk}
use Rattle.law_table_on_disk.proofs.TableValid.{valid_fits}
use Rattle.law_table_on_disk.proofs.Fits.{put_none, taken_none}
use Rattle.fact_counts.specs.Counted.{raised, up, down, counted, MaySettleUp, MaySettleDown}
use Rattle.fact_rows.specs.Put.{new_row}
use Rattle.fact_calls.specs.declared.call.TableCall.{TableCall}
use Rattle.fact_calls.specs.declared.call.TableCall.TheVariants.{Insert, Raise, SettleUp, SettleDown, Recount, RemoveZero, ClearStale}
use Rattle.fact_calls.specs.Follows.{
  HasRowAt,
  NoneAt,
  MayComeIn,
  MayMake,
  IsSlotFor,
  at_direct,
  at_indirect,
  InsertsRow,
  CountsRow,
  RemovesRow,
  Follows,
  After,
  none_made,
  one_more,
  Allows,
}
use Rattle.law_table_calls.specs.Calls.{MayMakeOn, AllowsOn}

-- rows that fit the disk, and of which no two are at one slot
pub record IsFitting (d : Disk) (rs : List Row) : Type 0 where
  pub fits : FitsDisk d rs
  pub one : (r s : Row) → Contains rs r → Contains rs s → r.slot ≡ s.slot → r ≡ s

pub valid_fitting : (d : Disk) → IsValid d → IsFitting d (rows d)
valid_fitting d valid = record { fits = valid_fits d valid; one = distinct_same (λ (x : Row). x.slot) (rows d) valid.rows_apart.slot }

-- no row is at the slot that a new one gets
slot_unused : (g : Geometry) (rs : List Row) (print : List ℕ) (slot : ℕ) → IsSlotFor g rs print slot → NoneAt rs slot
slot_unused g rs print slot (at_direct is none) = none
slot_unused g rs print slot (at_indirect taken least) = least.unused

module _ (d : Disk) (valid : IsValid d) (olds news : List Row) (old : IsFitting d olds) where
  near_of : (row : Row) → Contains olds row → IsNear d row
  near_of row has = All-contains (IsNear d) olds row old.fits.near has

  -- a row comes in, of a page that is mapped
  module _ (row : Row) (puts : PutsRow row olds news) (mapped : IsMapped d row.page) (near : IsNear d row) (unused : NoneAt olds row.slot) where
    at_page : (r : Row) → r ≡ row → IsMapped d r.page
    at_page r here = subst (IsMapped d) (sym (ap (λ (x : Row). x.page) here)) mapped

    put_fits : FitsDisk d news
    put_fits = record {
      read = λ r has. ⊎_elim (λ (here : r ≡ row). inl (at_page r here)) (λ (was : Contains olds r). old.fits.read r was) (puts.only r has);
      log_no_row = λ page p. none_found news page
          (λ r has e. ⊎_elim (λ (here : r ≡ row). valid.single.log_unmapped page p (subst (IsMapped d) e (at_page r here)))
          (λ (was : Contains olds r). none_listed olds page (old.fits.log_no_row page p) r was e) (puts.only r has));
      unshared = λ page none. old.fits.unshared page (put_none row olds news puts page none);
      near = all_listed (IsNear d) news (λ r has. ⊎_elim (λ (here : r ≡ row). subst (IsNear d) (sym here) near)
          (λ (was : Contains olds r). near_of r was) (puts.only r has));
    }

    put_one : (r s : Row) → (r ≡ row) ⊎ Contains olds r → (s ≡ row) ⊎ Contains olds s → r.slot ≡ s.slot → r ≡ s
    put_one r s (inl here) (inl there) e = here ∙ sym there
    put_one r s (inl here) (inr was) e = absurd (unused s was (sym e ∙ ap (λ (x : Row). x.slot) here))
    put_one r s (inr was) (inl there) e = absurd (unused r was (e ∙ ap (λ (x : Row). x.slot) there))
    put_one r s (inr was) (inr too) e = old.one r s was too e

    put_fitting : IsFitting d news
    put_fitting = record { fits = put_fits; one = λ r s has_r has_s e. put_one r s (puts.only r has_r) (puts.only s has_s) e }

  -- a row gets other counts, which are near
  module _ (f : Row → CountWord) (slot : ℕ) (counts : CountsRow f slot olds news) where
    abbrev set : Row → Row
    set = recount slot (f counts.row).rfc (f counts.row).uc

    abbrev IsNearSo : Type 0
    IsNearSo = (mappings d counts.row.page ≤ (f counts.row).rfc + (f counts.row).uc) × ((f counts.row).rfc ≤ mappings d counts.row.page +
        (f counts.row).uc)

    module _ (near : IsNearSo) where
      near_at : (r : Row) → Contains olds r → IsNear d (set r)
      near_at r was = elim (cases_eq r.slot slot) [
        | inl e ↦
            let same : counts.row ≡ r = old.one counts.row r counts.there was (counts.slot_is ∙ sym e) in
            let moved = subst (λ (p : ℕ). (mappings d p ≤ (f counts.row).rfc + (f counts.row).uc) × ((f counts.row).rfc ≤ mappings d
            p + (f counts.row).uc)) (ap (λ (x : Row). x.page) same) near in
            subst (IsNear d) (sym (counts.recounts.this r e)) moved
        | inr ne ↦ subst (IsNear d) (sym (counts.recounts.others r ne)) (near_of r was)
      ]

      count_fits : FitsDisk d news
      count_fits = record {
        read = λ r has. let was = counts.recounts.only r has in subst (IsReadPage d) (ap (λ (x : Row). x.page) was.2) (old.fits.read was.0 was.1);
        log_no_row = λ page p. none_found news page (λ r has e. let was = counts.recounts.only r has in
            none_listed olds page (old.fits.log_no_row page p) was.0 was.1 (ap (λ (x : Row). x.page) was.2 ∙ e));
        unshared = λ page none. old.fits.unshared page
            (none_found olds page (λ r has. none_listed news page none (set r) (counts.recounts.kept r has)));
        near = all_listed (IsNear d) news (λ r has. let was = counts.recounts.only r has in subst (IsNear d) was.2 (near_at was.0 was.1));
      }

      count_one : (r s : Row) → Contains news r → Contains news s → r.slot ≡ s.slot → r ≡ s
      count_one r s has_r has_s e =
          let one = counts.recounts.only r has_r in
          let two = counts.recounts.only s has_s in
          let same : one.0 ≡ two.0 = old.one one.0 two.0 one.1 two.1 (ap (λ (x : Row). x.slot) one.2 ∙ e ∙ sym (ap (λ (x : Row). x.slot) two.2)) in
          sym one.2 ∙ ap set same ∙ two.2

      count_fitting : IsFitting d news
      count_fitting = record { fits = count_fits; one = count_one }

    -- the row that the call's condition speaks of
    counts_have : (P : Row → Type 0) → HasRowAt olds slot P → P counts.row
    counts_have P has = subst P (old.one has.row counts.row has.there counts.there (has.slot_is ∙ sym counts.slot_is)) has.has

  -- a row without references and updates goes
  module _ (slot : ℕ) (removes : RemovesRow slot olds news) (may : HasRowAt olds slot (λ row. (row.rfc ≡ 0) × (row.uc ≡ 0))) where
    counts_none : (removes.row.rfc ≡ 0) × (removes.row.uc ≡ 0)
    counts_none = subst (λ (row : Row). (row.rfc ≡ 0) × (row.uc ≡ 0)) (old.one may.row removes.row may.there removes.there
        (may.slot_is ∙ sym removes.slot_is)) may.has

    few : mappings d removes.row.page ≤ 1
    few = omega (arith, counts_none.0, counts_none.1, (near_of removes.row removes.there).0)

    take_fits : FitsDisk d news
    take_fits = record {
      read = λ r has. old.fits.read r (removes.takes.only r has).0;
      log_no_row = λ page p. none_found news page (λ r has. none_listed olds page (old.fits.log_no_row page p) r (removes.takes.only r has).0);
      unshared = λ page none. ⊎_elim (λ (e : page ≡ removes.row.page). subst (λ (p : ℕ). mappings d p ≤ 1) (sym e) few)
          (λ (before : IsNone (row_of olds page)). old.fits.unshared page before) (taken_none removes.row olds news removes.takes page none);
      near = all_listed (IsNear d) news (λ r has. near_of r (removes.takes.only r has).0);
    }

    take_fitting : IsFitting d news
    take_fitting = record { fits = take_fits; one = λ r s has_r has_s e. old.one r s (removes.takes.only r has_r).0 (removes.takes.only s has_s).0 e }

  -- each call
  module _ (g : Geometry) where
    insert_fitting : (print : List ℕ) (page : ℕ) → MayComeIn g olds print page → IsMapped d page → InsertsRow g print page olds news
        → IsFitting d news
    insert_fitting print page may mapped is =
        let alone : mappings d page ≤ 1 = old.fits.unshared page (none_found olds page may.new_page) in
        put_fitting (new_row is.slot print page) is.puts mapped (omega (arith, alone), omega arith) (slot_unused g olds print is.slot is.slot_for)

    raise_fitting : (slot : ℕ) → CountsRow raised slot olds news → IsFitting d news
    raise_fitting slot is = let near = near_of is.row is.there in count_fitting raised slot is (omega (arith, near.0), omega (arith, near.1))

    up_fitting : (slot : ℕ) → HasRowAt olds slot MaySettleUp → MayMakeOn d olds (SettleUp slot) → CountsRow up slot olds news → IsFitting d news
    up_fitting slot may on is =
        let near = near_of is.row is.there in
        let can : MaySettleUp is.row = counts_have up slot is MaySettleUp may in
        let most : is.row.rfc + 2 ≤ mappings d is.row.page + is.row.uc = on is.row is.there is.slot_is in
        count_fitting up slot is (omega (arith, near.0, can.0), omega (arith, most, can.0))

    down_fitting : (slot : ℕ) → HasRowAt olds slot MaySettleDown → MayMakeOn d olds (SettleDown slot) → CountsRow down slot olds news
        → IsFitting d news
    down_fitting slot may on is =
        let near = near_of is.row is.there in
        let can : MaySettleDown is.row = counts_have down slot is MaySettleDown may in
        let least : mappings d is.row.page + 2 ≤ is.row.rfc + is.row.uc = on is.row is.there is.slot_is in
        count_fitting down slot is (omega (arith, least, can.0, can.1), omega (arith, near.1, can.0, can.1))

    recount_fitting : (slot rfc : ℕ) → MayMakeOn d olds (Recount slot rfc) → CountsRow (counted rfc) slot olds news → IsFitting d news
    recount_fitting slot rfc on is =
        let exact : rfc ≡ mappings d is.row.page = on is.row is.there is.slot_is in
        count_fitting (counted rfc) slot is (omega (arith, exact), omega (arith, exact))

    pub call_fitting : (call : TableCall) → MayMake g olds call → MayMakeOn d olds call → Follows g olds call news → IsFitting d news
    call_fitting (Insert print page) may on is = insert_fitting print page may on is
    call_fitting (Raise slot) may on is = raise_fitting slot is
    call_fitting (SettleUp slot) may on is = up_fitting slot may on is
    call_fitting (SettleDown slot) may on is = down_fitting slot may on is
    call_fitting (Recount slot rfc) may on is = recount_fitting slot rfc on is
    call_fitting (RemoveZero slot) may on is = take_fitting slot is may
    call_fitting ClearStale may on is = subst (IsFitting d) (sym is) old

-- so are the rows after any number of calls
module _ (d : Disk) (valid : IsValid d) (calls : List TableCall) (allows : Allows d.geometry calls (rows d)) (on : AllowsOn d calls) where
  pub after_fitting : (k : ℕ) (rs : List Row) → After d.geometry calls (rows d) k rs → IsFitting d rs
  after_fitting zero rs none_made = valid_fitting d valid
  after_fitting (suc k) rs (one_more {mids = mids} {call = call} before here follows) =
      call_fitting d valid mids rs (after_fitting k mids before) d.geometry call (allows k mids call before here) (on k mids call before here) follows
