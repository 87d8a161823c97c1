-- A disk with other chains and pointers: prints, marks and exact counts.
use Rattle.std.proofs.Common.{◌≡◌, ◌⊎◌, inl, ⊎_elim, ℕ, ◌≤◌, List, refl, sym, ◌∙◌, ap, subst}
use Rattle.std.specs.Prelude.{IsNone, All}
use Rattle.std.proofs.lemmas.List.Elements.{All-weaker}
use Rattle.dn_model.specs.Maps.{Mapping}
use Rattle.dn_model.specs.Table.{Row, row_of}
use Rattle.dn_model.specs.Disk.{Disk, rows}
use Rattle.dn_model.specs.Counts.{mappings, Exact}
use Rattle.dn_model.specs.Own.{Print, page_bytes, LivePlace, IsAlone, HasRow, IsOwn}
use Rattle.log_entry.specs.declared.item.Flag.TheVariants.{Complete}
use Rattle.law_table.specs.Changes.{with_table}
use Rattle.law_table_on_disk.specs.CountLaws.{IsExact}
use Rattle.law_table_on_disk.proofs.Frame.{maps_same, mappings_same}

module _ (d : Disk) (chain : ℕ → List Row) (pointer : ℕ → ℕ) where
  abbrev new : Disk
  new = with_table d chain pointer

  live_only : (ino idx : ℕ) (m : Mapping) → LivePlace new ino idx m → LivePlace d ino idx m
  live_only ino idx m place = record { in_table = place.in_table; live = place.live; maps = sym (maps_same d chain pointer ino idx) ∙ place.maps }

  page_bytes_same : (page : ℕ) → page_bytes new page ≡ page_bytes d page
  unfolding page_bytes
  page_bytes_same page = refl

  -- prints that are right, and rows for all that is complete and not left alone
  pub own_kept : (print : Print) → IsOwn print d → All (λ row. row.print ≡ print (page_bytes d row.page)) (rows new)
      → ((ino idx : ℕ) (m : Mapping) → LivePlace d ino idx m → m.flag ≡ Complete → HasRow d m.block → IsAlone m ⊎ HasRow new m.block)
      → IsOwn print new
  own_kept print own prints has = record {
    zeros = λ ino idx k m place past small. own.zeros ino idx k m (live_only ino idx m place) past small;
    prints = All-weaker (λ (row : Row). row.print ≡ print (page_bytes d row.page)) (λ (row : Row). row.print ≡ print (page_bytes new row.page))
        (λ row is. is ∙ ap print (sym (page_bytes_same row.page))) (rows new) prints;
    complete = λ ino idx m place done. ⊎_elim (λ alone. inl alone) (λ (row : HasRow d m.block). has ino idx m (live_only ino idx m place) done row)
        (own.complete ino idx m (live_only ino idx m place) done);
  }

  exact_same : (row : Row) → IsExact d row → IsExact new row
  exact_same row is = (is.0, is.1 ∙ sym (mappings_same d chain pointer row.page), is.2)

  pub exact_kept : All (IsExact d) (rows new) → ((page : ℕ) → IsNone (row_of (rows new) page) → mappings d page ≤ 1) → Exact new
  exact_kept counts unshared = record {
    counts = All-weaker (IsExact d) (IsExact new) exact_same (rows new) counts;
    unshared = λ page none. subst (λ (n : ℕ). n ≤ 1) (sym (mappings_same d chain pointer page)) (unshared page none);
  }
