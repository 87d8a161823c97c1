-- The free pages and the mapped pages of a state, as they are counted.
use Rattle.std.proofs.Common.{◌≡◌, inl, inr, ℕ, ◌<◌, ◌≤◌, List, length, sym, ◌∙◌, ap, arith}
use Rattle.std.specs.Prelude.{slice_index}
use Rattle.std.proofs.lemmas.Bool.{cases_eq}
use Rattle.pm_layout.specs.declared.Geometry.{Geometry}
use Rattle.pm_layout.specs.Geometry.{first_data}
use Rattle.dn_model.specs.Disk.{Disk, IsMapped}
use Rattle.dn_model.specs.Counts.{IsFree}
use Rattle.dn_model.specs.Faults.{HasFree}
use Rattle.law_unique.proofs.Counted.{counts_mappings}
use Rattle.image_uses.specs.Uses.{IsCounted, HasReadLogs, HasSo}
use Rattle.image_uses.specs.UsesLoop.{IsUnused, IsBelow, CountsTo}
use Rattle.image_uses.proofs.Numbers.{counts-all}
use Rattle.image_uses.proofs.Twice.{log_counts, counted_log, mapped_inside}

pub all_free : (d : Disk) (g : Geometry) (in_logs mapped : List ℕ) → d.geometry ≡ g → IsCounted d in_logs mapped → (end n : ℕ) → end ≡ g.pages
    → CountsTo (IsUnused in_logs mapped (first_data g)) end n → HasFree d n
all_free d g in_logs mapped same counted end n all so_far = counts-all (IsUnused in_logs mapped (first_data g)) (IsFree d) end n so_far to from
  where
    pages : end ≡ d.geometry.pages
    pages = all ∙ sym (ap (λ (h : Geometry). h.pages) same)

    first : first_data g ≡ first_data d.geometry
    first = ap first_data (sym same)

    to : (x : ℕ) → x < end → IsUnused in_logs mapped (first_data g) x → IsFree d x
    to x lt u =
        let inside : x < d.geometry.pages = omega (arith, lt, pages) in
        record {
          data_page = record { low = omega (arith, u.low, first); high = inside };
          in_no_log = λ is. omega (arith, log_counts d x is, counted.logs x inside, u.no_log);
          unmapped = sym (counted.places x inside) ∙ u.no_place;
        }

    from : (x : ℕ) → IsFree d x → IsBelow (IsUnused in_logs mapped (first_data g)) end x
    from x free =
        let inside = free.data_page.high in
        record {
          below = omega (arith, inside, pages);
          has = record {
            low = omega (arith, free.data_page.low, first);
            no_log = elim (cases_eq (slice_index in_logs x) 0) [
              | inl e ↦ e
              | inr ne ↦ absurd (free.in_no_log (counted_log d x (omega (arith, ne, counted.logs x inside))))
            ];
            no_place = counted.places x inside ∙ free.unmapped;
          };
        }

pub all_mapped : (d : Disk) (in_logs mapped : List ℕ) → IsCounted d in_logs mapped → HasReadLogs d → (end n : ℕ) → end ≡ length mapped
    → CountsTo (λ page. 1 ≤ slice_index mapped page) end n → HasSo (IsMapped d) n
all_mapped d in_logs mapped counted read end n all so_far = counts-all (λ page. 1 ≤ slice_index mapped page) (IsMapped d) end n so_far
    (λ x lt some. (counts_mappings d x).0 (omega (arith, some, counted.places x (omega (arith, lt, all, counted.long_mapped)))))
    (λ x is. let inside = mapped_inside d read x is in record {
      below = omega (arith, inside, all, counted.long_mapped);
      has = omega (arith, (counts_mappings d x).1 is, counted.places x inside);
    })
