-- The free pages are gathered, one after another.
use Rattle.std.proofs.Common.{◌≡◌, inl, inr, ℕ, ◌+◌, ◌<◌, ◌≤◌, Bool, true, false, List, [], length, refl, sym, ◌∙◌, ap, subst, arith}
use Rattle.std.specs.Prelude.{◌↔◌, Contains, slice_index, IsTrue, IsFalse}
use Rattle.std.proofs.lemmas.Bool.{cases_eq}
use Rattle.pm_layout.specs.declared.Geometry.{Geometry}
use Rattle.pm_layout.specs.Geometry.{first_data}
use Rattle.page_alloc.specs.Free.{FreePages, GivesBack, IsInOrder}
use Rattle.dn_model.specs.Disk.{Disk}
use Rattle.dn_model.specs.Counts.{IsFree}
use Rattle.image_uses.specs.Uses.{IsCounted}
use Rattle.image_uses.proofs.Twice.{log_counts, counted_log}
use Rattle.image_keep.specs.Free.{AreFreePages}

-- a page of the data area that isn't used
pub record IsSpare (in_logs mapped : List ℕ) (first page : ℕ) : Type 0 where
  pub low : first ≤ page
  pub no_log : slice_index in_logs page ≡ 0
  pub no_place : slice_index mapped page ≡ 0

-- the set has those below the end
pub record IsFreeTo (in_logs mapped : List ℕ) (first pages end : ℕ) (set : FreePages) : Type 0 where
  pub pages_are : set.pages ≡ pages
  pub in_order : IsInOrder set
  pub to : (q : ℕ) → Contains set.free q → (q < end) × IsSpare in_logs mapped first q
  pub from : (q : ℕ) → q < end → IsSpare in_logs mapped first q → Contains set.free q

module _ (in_logs mapped : List ℕ) (first pages : ℕ) where
  pub free_begins : (end : ℕ) → end ≡ first → (set : FreePages) → set ≡ record { pages = pages; free = [] } → IsInOrder set
      → IsFreeTo in_logs mapped first pages end set
  free_begins end is set none order = record {
    pages_are = ap (λ (s : FreePages). s.pages) none;
    in_order = order;
    to = λ q has. absurd (omega (arith, has.1, ap (λ (s : FreePages). length s.free) none));
    from = λ q lt spare. absurd (omega (arith, lt, is, spare.low));
  }

  module _ (end : ℕ) (low : first ≤ end) (old new : FreePages) (so : IsFreeTo in_logs mapped first pages end old) where
    pub not_there : Contains old.free end → ⊥
    not_there has = omega (arith, (so.to end has).0)

    module _ (test : Bool) (is : IsTrue test ↔ ((slice_index in_logs end ≡ 0) × (slice_index mapped end ≡ 0))) (given : IsTrue test
        → GivesBack end old new) (kept : IsFalse test → new ≡ old) (order : IsInOrder new) where
      with_it : IsTrue test → IsFreeTo in_logs mapped first pages (end + 1) new
      with_it t =
          let gives = given t in
          let both = is.0 t in
          record {
            pages_are = gives.pages ∙ so.pages_are;
            in_order = order;
            to = λ q has. elim (cases_eq q end) [
              | inl e ↦ (omega (arith, e), subst (IsSpare in_logs mapped first) (sym e) (record { low = low; no_log = both.0; no_place = both.1 }))
              | inr ne ↦ let was = so.to q ((gives.others q ne).0 has) in (omega (arith, was.0), was.1)
            ];
            from = λ q lt spare. elim (cases_eq q end) [
              | inl e ↦ subst (Contains new.free) (sym e) gives.there
              | inr ne ↦ (gives.others q ne).1 (so.from q (omega (arith, lt, ne)) spare)
            ];
          }

      without_it : (IsTrue test → ⊥) → new ≡ old → IsFreeTo in_logs mapped first pages (end + 1) new
      without_it f same = record {
        pages_are = ap (λ (s : FreePages). s.pages) same ∙ so.pages_are;
        in_order = order;
        to = λ q has. let was = so.to q (subst (λ (s : FreePages). Contains s.free q) same has) in (omega (arith, was.0), was.1);
        from = λ q lt spare. elim (cases_eq q end) [
          | inl e ↦ absurd (f (is.1 (ap (slice_index in_logs) (sym e) ∙ spare.no_log, ap (slice_index mapped) (sym e) ∙ spare.no_place)))
          | inr ne ↦ subst (λ (s : FreePages). Contains s.free q) (sym same) (so.from q (omega (arith, lt, ne)) spare)
        ];
      }

  -- by the test
  pub free_more : (end : ℕ) → first ≤ end → (old new : FreePages) → IsFreeTo in_logs mapped first pages end old → (test : Bool)
      → (IsTrue test ↔ ((slice_index in_logs end ≡ 0) × (slice_index mapped end ≡ 0)))
      → (IsTrue test → GivesBack end old new) → (IsFalse test → new ≡ old) → IsInOrder new → IsFreeTo in_logs mapped first pages (end + 1) new
  free_more end low old new so true is given kept order = with_it end low old new so true is given kept order refl
  free_more end low old new so false is given kept order = without_it end low old new so false is given kept order (λ t. cc) (kept refl)

pub free_ends : (g : Geometry) (in_logs mapped : List ℕ) (end : ℕ) (set : FreePages) → IsFreeTo in_logs mapped (first_data g) g.pages end set
    → end ≡ g.pages
    → (d : Disk) → d.geometry ≡ g → IsCounted d in_logs mapped → AreFreePages d set
free_ends g in_logs mapped end set so all d same counted = record {
  pages = so.pages_are ∙ pages_same;
  in_order = so.in_order;
  free = λ page. (λ has. let was = so.to page has in to page was.0 was.1, λ free. from page free);
}
  where
    pages_same : g.pages ≡ d.geometry.pages
    pages_same = sym (ap (λ (h : Geometry). h.pages) same)

    first : first_data g ≡ first_data d.geometry
    first = ap first_data (sym same)

    to : (page : ℕ) → page < end → IsSpare in_logs mapped (first_data g) page → IsFree d page
    to page lt spare =
        let inside : page < d.geometry.pages = omega (arith, lt, all, pages_same) in
        record {
          data_page = record { low = omega (arith, spare.low, first); high = inside };
          in_no_log = λ is. omega (arith, log_counts d page is, counted.logs page inside, spare.no_log);
          unmapped = sym (counted.places page inside) ∙ spare.no_place;
        }

    from : (page : ℕ) → IsFree d page → Contains set.free page
    from page free =
        let inside = free.data_page.high in
        so.from page (omega (arith, inside, all, pages_same)) (record {
          low = omega (arith, free.data_page.low, first);
          no_log = elim (cases_eq (slice_index in_logs page) 0) [
            | inl e ↦ e
            | inr ne ↦ absurd (free.in_no_log (counted_log d page (omega (arith, ne, counted.logs page inside))))
          ];
          no_place = counted.places page inside ∙ free.unmapped;
        })
