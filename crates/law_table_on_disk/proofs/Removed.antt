-- A row of a valid disk goes.
use Rattle.std.proofs.Common.{◌≡◌, ◌≢◌, ◌⊎◌, inl, inr, ⊎_elim, ℕ, ◌≤◌, List, [], sym, ◌∙◌, ap, subst}
use Rattle.std.specs.Prelude.{IsSome, IsNone, Contains}
use Rattle.std.proofs.lemmas.Bool.{cases_eq}
use Rattle.std.proofs.lemmas.List.Elements.{All-contains}
use Rattle.pm_layout.specs.Geometry.{slot_word}
use Rattle.dn_model.specs.Table.{Row, row_of}
use Rattle.dn_model.specs.Disk.{Disk, rows}
use Rattle.dn_model.specs.Counts.{mappings, Exact}
use Rattle.dn_model.specs.Valid.{IsValid}
use Rattle.dn_model.specs.Own.{Print, page_bytes, HasRow, IsOwn}
use Rattle.law_table.specs.Changes.{removed, slot_before, slot_after}
use Rattle.law_table.specs.Rows.{MayTakeRow, TakesRow}
use Rattle.law_table.proofs.Rows.{all_listed, row_listed, row_found}
use Rattle.law_table.proofs.TableRows.{in_table, good_of}
use Rattle.law_table.proofs.Gone.{takes_row, taken_good, closing_decides, unlink_decides}
use Rattle.law_table_on_disk.specs.OneWord.{IsOneWord}
use Rattle.law_table_on_disk.specs.CountLaws.{IsExact, OthersAreExact}
use Rattle.law_table_on_disk.specs.RowLaws.{MayRemove, IsUnshared}
use Rattle.law_table_on_disk.specs.TableLaws.{IsNextDisk}
use Rattle.law_table_on_disk.proofs.Fits.{take_fits}
use Rattle.law_table_on_disk.proofs.TableValid.{next_disk}
use Rattle.law_table_on_disk.proofs.NextDisk.{disk_word}
use Rattle.law_table_on_disk.proofs.TableOwn.{own_kept, exact_kept}

module _ (d : Disk) (row : Row) (valid : IsValid d) (has : Contains (rows d) row) where
  abbrev news : List Row
  news = rows (removed d row.slot)

  pub takes : TakesRow row (rows d) news
  takes = takes_row d row (good_of d valid) has

  -- a page that has a row still has it, if it isn't the page of the row that went
  still_found : (page : ℕ) → page ≢ row.page → IsSome (row_of (rows d) page) → IsSome (row_of news page)
  still_found page ne some =
      let found = row_listed (rows d) page some in
      ⊎_elim (λ (e : found.0 ≡ row). absurd (ne (sym found.2 ∙ ap (λ (x : Row). x.page) e)))
      (λ (still : Contains news found.0). subst (λ (p : ℕ). IsSome (row_of news p)) found.2 (row_found news found.0 still))
      (takes.kept found.0 found.1)

  pub remove_own : (print : Print) → IsUnshared d row.page → IsOwn print d → IsOwn print (removed d row.slot)
  remove_own print unshared own = own_kept d (removed d row.slot).chain d.pointer print own
      (all_listed (λ (r : Row). r.print ≡ print (page_bytes d r.page)) news
      (λ r listed. All-contains (λ (x : Row). x.print ≡ print (page_bytes d x.page)) (rows d) r own.prints (takes.only r listed).0))
      (λ ino idx m place done (some : HasRow d m.block). elim (cases_eq m.block row.page) [
        | inl e ↦ inl (unshared ino idx m place done e)
        | inr ne ↦
            inr (still_found m.block ne some)
      ])

module _ (d : Disk) (prefix : ℕ) (row : Row) (may : MayRemove d prefix row) where
  listed : Contains (rows d) row
  listed = in_table d prefix row may.direct may.has

  pub may_take : MayTakeRow d prefix row
  may_take = record { accepted = may.valid.accepted; good = good_of d may.valid; direct = may.direct; has = may.has }

  pub remove_next : IsNextDisk d (removed d row.slot)
  remove_next = next_disk d (removed d row.slot).chain d.pointer may.valid (taken_good d row (good_of d may.valid) listed)
      (take_fits d may.valid (rows (removed d row.slot)) row (takes d row may.valid listed) may.few)

  unshared : (page : ℕ) → IsNone (row_of (rows (removed d row.slot)) page) → mappings d page ≤ 1
  unshared = (take_fits d may.valid (rows (removed d row.slot)) row (takes d row may.valid listed) may.few).unshared

  pub remove_exact : OthersAreExact d row.slot → Exact (removed d row.slot)
  remove_exact others = exact_kept d (removed d row.slot).chain d.pointer (all_listed (IsExact d) (rows (removed d row.slot)) exact_one) unshared
    where
      exact_one : (r : Row) → Contains (rows (removed d row.slot)) r → IsExact d r
      exact_one r has =
          let only = (takes d row may.valid listed).only r has in
          ⊎_elim (λ (e : r.slot ≡ row.slot). absurd (only.1 e)) (λ exact. exact) (All-contains (λ (x : Row). (x.slot ≡ row.slot) ⊎ IsExact d x)
          (rows d) r others only.0)

  pub close_one_word : row.slot ≡ prefix → IsOneWord d (removed d row.slot) 0 [] (slot_word d.geometry prefix 0) 0
  close_one_word own = disk_word d (removed d row.slot) remove_next may.valid 0 [] (slot_word d.geometry prefix 0) 0
      (closing_decides d prefix row may_take own)

  pub unlink_one_word : row.slot ≢ prefix → IsOneWord d (removed d row.slot) 0 [] (slot_word d.geometry (slot_before prefix (d.chain prefix) row.slot)
      5) (slot_after (d.chain prefix) row.slot)
  unlink_one_word other = disk_word d (removed d row.slot) remove_next may.valid 0 []
      (slot_word d.geometry (slot_before prefix (d.chain prefix) row.slot) 5) (slot_after (d.chain prefix) row.slot)
      (unlink_decides d prefix row may_take other)
