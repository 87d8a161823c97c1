-- Rows that fit a valid disk, where one comes in, goes or gets other counts.
use Rattle.std.proofs.Common.{◌≡◌, ◌⊎◌, inl, inr, ⊎_elim, ℕ, ◌≤◌, List, sym, ◌∙◌, ap, subst}
use Rattle.std.specs.Prelude.{IsNone, Contains}
use Rattle.std.proofs.lemmas.Bool.{cases_eq}
use Rattle.std.proofs.lemmas.List.Elements.{All-contains}
use Rattle.dn_model.specs.Table.{Row, row_of}
use Rattle.dn_model.specs.Disk.{Disk, IsMapped, rows}
use Rattle.dn_model.specs.Counts.{mappings, IsNear}
use Rattle.dn_model.specs.Valid.{IsValid}
use Rattle.law_write.specs.Events.{IsReadPage}
use Rattle.law_table.specs.Changes.{recount}
use Rattle.law_table.specs.Rows.{PutsRow, TakesRow, RecountsRows}
use Rattle.law_table.proofs.Rows.{all_listed, none_listed, none_found, row_found}
use Rattle.law_table_on_disk.specs.TableLaws.{FitsDisk}

-- a page without a row had none, where one comes in, or had the one that went
pub put_none : (row : Row) (olds news : List Row) → PutsRow row olds news → (page : ℕ) → IsNone (row_of news page) → IsNone (row_of olds page)
put_none row olds news puts page none = none_found olds page (λ r has. none_listed news page none r (puts.kept r has))

pub taken_none : (row : Row) (olds news : List Row) → TakesRow row olds news → (page : ℕ) → IsNone (row_of news page)
    → (page ≡ row.page) ⊎ IsNone (row_of olds page)
taken_none row olds news takes page none = elim (cases_eq page row.page) [
  | inl e ↦ inl e
  | inr ne ↦ inr (none_found olds page (λ r has. ⊎_elim (λ (e : r ≡ row). λ at. ne (sym at ∙ ap (λ (x : Row). x.page) e))
      (λ (still : Contains news r). none_listed news page none r still) (takes.kept r has)))
]

module _ (d : Disk) (valid : IsValid d) (news : List Row) where
  -- one comes in, of a page that is mapped
  module _ (row : Row) (puts : PutsRow row (rows d) news) (mapped : IsMapped d row.page) (near : IsNear d row) where
    at_page : (r : Row) (page : ℕ) → r ≡ row → r.page ≡ page → IsMapped d page
    at_page r page here e = subst (IsMapped d) (sym (ap (λ (x : Row). x.page) here) ∙ e) mapped

    pub put_fits : FitsDisk d news
    put_fits = record {
      read = λ r has. ⊎_elim (λ (here : r ≡ row). inl (subst (IsMapped d) (sym (ap (λ (x : Row). x.page) here)) mapped))
          (λ (old : Contains (rows d) r). inr (row_found (rows d) r old)) (puts.only r has);
      log_no_row = λ page p. none_found news page (λ r has e. ⊎_elim (λ (here : r ≡ row). valid.single.log_unmapped page p (at_page r page here e))
          (λ (old : Contains (rows d) r). none_listed (rows d) page (valid.single.log_no_row page p) r old e) (puts.only r has));
      unshared = λ page none. valid.single.unshared page (put_none row (rows d) news puts page none);
      near = all_listed (IsNear d) news (λ r has. ⊎_elim (λ (here : r ≡ row). subst (IsNear d) (sym here) near)
          (λ (old : Contains (rows d) r). All-contains (IsNear d) (rows d) r valid.near old) (puts.only r has));
    }

  -- one goes, of a page that is mapped once at most
  pub take_fits : (row : Row) → TakesRow row (rows d) news → mappings d row.page ≤ 1 → FitsDisk d news
  take_fits row takes few = record {
    read = λ r has. inr (row_found (rows d) r (takes.only r has).0);
    log_no_row = λ page p. none_found news page (λ r has. none_listed (rows d) page (valid.single.log_no_row page p) r (takes.only r has).0);
    unshared = λ page none. ⊎_elim (λ (e : page ≡ row.page). subst (λ (p : ℕ). mappings d p ≤ 1) (sym e) few)
        (λ (before : IsNone (row_of (rows d) page)). valid.single.unshared page before) (taken_none row (rows d) news takes page none);
    near = all_listed (IsNear d) news (λ r has. All-contains (IsNear d) (rows d) r valid.near (takes.only r has).0);
  }

  -- one gets other counts, which are near
  module _ (slot rfc uc : ℕ) (counts : RecountsRows slot rfc uc (rows d) news) where
    pub count_none : (page : ℕ) → IsNone (row_of news page) → IsNone (row_of (rows d) page)
    count_none page none = none_found (rows d) page (λ r has. none_listed news page none (recount slot rfc uc r) (counts.kept r has))

    pub count_fits : ((r : Row) → Contains (rows d) r → IsNear d (recount slot rfc uc r)) → FitsDisk d news
    count_fits near = record {
      read = λ r has. let was = counts.only r has in subst (IsReadPage d) (ap (λ (x : Row). x.page) was.2) (inr (row_found (rows d) was.0 was.1));
      log_no_row = λ page p. none_found news page (λ r has e. let was = counts.only r has in
          none_listed (rows d) page (valid.single.log_no_row page p) was.0 was.1 (ap (λ (x : Row). x.page) was.2 ∙ e));
      unshared = λ page none. valid.single.unshared page (count_none page none);
      near = all_listed (IsNear d) news (λ r has. let was = counts.only r has in subst (IsNear d) was.2 (near was.0 was.1));
    }
