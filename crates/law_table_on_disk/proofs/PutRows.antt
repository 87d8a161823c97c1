-- A row comes into the table of a valid disk, in its direct slot or behind it.
use Rattle.std.proofs.Common.{◌≡◌, inl, inr, ⊎_elim, ℕ, ◌<◌, ◌≤◌, List, sym, ◌∙◌, subst, arith}
use Rattle.std.specs.Prelude.{IsSome, All, Contains}
use Rattle.std.proofs.lemmas.List.Elements.{All-contains}
use Rattle.pm_layout.specs.Geometry.{slot_word, directs, slots}
use Rattle.dn_model.specs.Table.{Row, row_of, first_slot, chained}
use Rattle.dn_model.specs.Disk.{Disk, rows}
use Rattle.dn_model.specs.Counts.{mappings, IsNear, Exact}
use Rattle.dn_model.specs.Valid.{IsValid}
use Rattle.dn_model.specs.Own.{Print, page_bytes, HasRow, IsOwn}
use Rattle.law_write.proofs.Unread.{read_in_data}
use Rattle.law_table.specs.Changes.{with_table, opened, linked}
use Rattle.law_table.specs.Words.{IsOneTableWord}
use Rattle.law_table.specs.Rows.{IsFreshRow, MayPutRow, PutsRow, opened_words, linked_words}
use Rattle.law_table.proofs.Rows.{all_listed, none_found, row_listed, row_found}
use Rattle.law_table.proofs.TableRows.{good_of}
use Rattle.law_table.proofs.Opened.{opening_puts_row, opening_decides}
use Rattle.law_table.proofs.Linked.{link_puts_row, link_decides}
use Rattle.law_table_on_disk.specs.OneWord.{IsOneWord}
use Rattle.law_table_on_disk.specs.CountLaws.{IsExact}
use Rattle.law_table_on_disk.specs.RowLaws.{IsNewRow, MayPut}
use Rattle.law_table_on_disk.proofs.Mappings.{mapped_once}
use Rattle.law_table_on_disk.proofs.Fits.{put_none, put_fits}
use Rattle.law_table_on_disk.proofs.TableValid.{next_disk}
use Rattle.law_table_on_disk.proofs.NextDisk.{disk_word}
use Rattle.law_table_on_disk.proofs.TableOwn.{own_kept, exact_kept}

-- a new row is fresh in the table
pub fresh_row : (d : Disk) (prefix : ℕ) (row : Row) → IsValid d → IsNewRow d prefix row → IsFreshRow d prefix row
fresh_row d prefix row valid is = record {
  data_page = read_in_data d valid row.page (inl is.mapped);
  twenty = is.twenty;
  bytes = is.bytes;
  prefix_is = is.prefix_is;
  rfc_fits = is.rfc_fits;
  uc_fits = is.uc_fits;
  new_slot = is.new_slot;
  new_print = is.new_print;
  new_page = is.new_page;
}

module _ (d : Disk) (prefix : ℕ) (row : Row) (may : MayPut d prefix row) where
  may_put_row : MayPutRow d prefix row
  may_put_row = record {
    accepted = may.valid.accepted;
    good = good_of d may.valid;
    fresh = fresh_row d prefix row may.valid may.new_row;
    leads = may.leads;
  }

  -- the page has one mapping
  once : mappings d row.page ≡ 1
  once = mapped_once d may.valid row.page (none_found (rows d) row.page may.new_row.new_page) may.new_row.mapped

  near : IsNear d row
  near = (omega (arith, once, may.new_row.some), omega (arith, once, may.new_row.few))

  -- whatever chain it comes into
  module _ (chain : ℕ → List Row) (puts : PutsRow row (rows d) (rows (with_table d chain d.pointer))) where
    abbrev news : List Row
    news = rows (with_table d chain d.pointer)

    each : (P : Row → Type 0) → P row → All P (rows d) → All P news
    each P here was = all_listed P news (λ r has. ⊎_elim (λ (e : r ≡ row). subst P (sym e) here) (λ (old : Contains (rows d) r). All-contains P
        (rows d) r was old) (puts.only r has))

    put_word : (first : ℕ) (fresh : List ℕ) (at value : ℕ) → IsOneTableWord d (with_table d chain d.pointer) first fresh at value
        → IsOneWord d (with_table d chain d.pointer) first fresh at value
    put_word first fresh at value is = disk_word d (with_table d chain d.pointer)
        (next_disk d chain d.pointer may.valid is.good (put_fits d may.valid news row puts may.new_row.mapped near)) may.valid first fresh at value is

    put_exact : row.rfc ≡ 1 → row.uc ≡ 0 → Exact d → Exact (with_table d chain d.pointer)
    put_exact one none exact = exact_kept d chain d.pointer
        (each (IsExact d) (none, one ∙ sym once, λ zero. omega arith) exact.counts)
        (λ page free. exact.unshared page (put_none row (rows d) news puts page free))

    put_own : (print : Print) → row.print ≡ print (page_bytes d row.page) → IsOwn print d → IsOwn print (with_table d chain d.pointer)
    put_own print is own = own_kept d chain d.pointer print own (each (λ (r : Row). r.print ≡ print (page_bytes d r.page)) is own.prints)
        (λ ino idx m place done (has : HasRow d m.block). inr (still m.block has))
      where
        still : (page : ℕ) → IsSome (row_of (rows d) page) → IsSome (row_of news page)
        still page some = let found = row_listed (rows d) page some in subst (λ (p : ℕ). IsSome (row_of news p)) found.2
            (row_found news found.0 (puts.kept found.0 found.1))

  pub open_puts_row : PutsRow row (rows d) (rows (opened d prefix row))
  open_puts_row = opening_puts_row d prefix row may_put_row

  pub open_exact : row.rfc ≡ 1 → row.uc ≡ 0 → Exact d → Exact (opened d prefix row)
  open_exact = put_exact (opened d prefix row).chain open_puts_row

  pub open_own : (print : Print) → row.print ≡ print (page_bytes d row.page) → IsOwn print d → IsOwn print (opened d prefix row)
  open_own = put_own (opened d prefix row).chain open_puts_row

  pub open_one_word : row.slot ≡ prefix → IsOneWord d (opened d prefix row) (slot_word d.geometry prefix 1) (opened_words row)
      (slot_word d.geometry prefix 0) row.page
  open_one_word own = put_word (opened d prefix row).chain open_puts_row (slot_word d.geometry prefix 1) (opened_words row)
      (slot_word d.geometry prefix 0) row.page (opening_decides d prefix row may_put_row own)

  pub link_puts : PutsRow row (rows d) (rows (linked d prefix row))
  link_puts = link_puts_row d prefix row may_put_row

  pub link_exact : row.rfc ≡ 1 → row.uc ≡ 0 → Exact d → Exact (linked d prefix row)
  link_exact = put_exact (linked d prefix row).chain link_puts

  pub link_own : (print : Print) → row.print ≡ print (page_bytes d row.page) → IsOwn print d → IsOwn print (linked d prefix row)
  link_own = put_own (linked d prefix row).chain link_puts

  abbrev next : ℕ
  next = first_slot (chained prefix (d.chain prefix))

  pub link_one_word : directs d.geometry ≤ row.slot → row.slot < slots d.geometry → IsOneWord d (linked d prefix row)
      (slot_word d.geometry row.slot 0) (linked_words row next) (slot_word d.geometry prefix 5) row.slot
  link_one_word above small = put_word (linked d prefix row).chain link_puts (slot_word d.geometry row.slot 0) (linked_words row next)
      (slot_word d.geometry prefix 5) row.slot (link_decides d prefix row may_put_row above small)
