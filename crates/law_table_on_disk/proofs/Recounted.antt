-- The row at one slot of a valid disk gets other counts.
use Rattle.std.proofs.Common.{◌≡◌, ◌≢◌, ◌⊎◌, inl, inr, ⊎_elim, ℕ, ◌+◌, ◌≤◌, Bool, true, false, [], map, refl, sym, ◌∙◌, ap, subst, List}
use Rattle.std.specs.Prelude.{if◌then◌else◌, ◌==◌, is_some, All, Contains}
use Rattle.std.proofs.lemmas.Bool.{cases_eq}
use Rattle.std.proofs.lemmas.List.Elements.{All-contains, All-map}
use Rattle.pm_layout.specs.Geometry.{slot_word}
use Rattle.fingerprint.specs.Count.{count_word}
use Rattle.dn_model.specs.Table.{Row, row_of}
use Rattle.dn_model.specs.Disk.{Disk, rows}
use Rattle.dn_model.specs.Counts.{mappings, IsNear, Exact}
use Rattle.dn_model.specs.Valid.{IsValid}
use Rattle.dn_model.specs.Own.{Print, page_bytes, IsOwn}
use Rattle.law_table.specs.Changes.{recount, recounted}
use Rattle.law_table.specs.Words.{IsOneTableWord}
use Rattle.law_table.proofs.Rows.{same_test, other_test, all_listed, distinct_same}
use Rattle.law_table.proofs.TableRows.{good_of}
use Rattle.law_table.proofs.Counted.{has_same, rows_recounted, recounts_rows, count_word_decides}
use Rattle.law_table_on_disk.specs.OneWord.{IsOneWord}
use Rattle.law_table_on_disk.specs.CountLaws.{MayRecount, IsExact, OthersAreExact}
use Rattle.law_table_on_disk.proofs.Fits.{count_fits}
use Rattle.law_table_on_disk.proofs.TableValid.{next_disk}
use Rattle.law_table_on_disk.proofs.NextDisk.{disk_word}
use Rattle.law_table_on_disk.proofs.TableOwn.{own_kept, exact_kept}

module _ (d : Disk) (row : Row) (rfc uc : ℕ) (may : MayRecount d row rfc uc) where
  near_one : (r : Row) → Contains (rows d) r → IsNear d (recount row.slot rfc uc r)
  near_one r has = elim (cases_eq r.slot row.slot) [
    | inl e ↦
        let this : r ≡ row = distinct_same (λ (x : Row). x.slot) (rows d) may.valid.rows_apart.slot r row has may.has e in
        near_at (r.slot == row.slot) (same_test r.slot row.slot e) (mappings d r.page) (ap (λ (x : Row). mappings d x.page) this)
    | inr ne ↦ near_other (r.slot == row.slot) (other_test r.slot row.slot ne) (All-contains (IsNear d) (rows d) r may.valid.near has)
  ]
    where
      near_at : (b : Bool) → b ≡ true → (n : ℕ) → n ≡ mappings d row.page → (n ≤ (if b then rfc else r.rfc) + (if b then uc else r.uc)) ×
          ((if b then rfc else r.rfc) ≤ n + (if b then uc else r.uc))
      near_at true t n e = (subst (λ (m : ℕ). m ≤ rfc + uc) (sym e) may.near_below, subst (λ (m : ℕ). rfc ≤ m + uc) (sym e) may.near_above)
      near_at false t n e = cc

      near_other : (b : Bool) → b ≡ false → IsNear d r → (mappings d r.page ≤ (if b then rfc else r.rfc) + (if b then uc else r.uc)) ×
          ((if b then rfc else r.rfc) ≤ mappings d r.page + (if b then uc else r.uc))
      near_other true t near = cc
      near_other false t near = near

  decides : IsOneTableWord d (recounted d row.slot rfc uc) 0 [] (slot_word d.geometry row.slot 4) (count_word rfc uc)
  decides = count_word_decides d row rfc uc (record {
    accepted = may.valid.accepted;
    good = good_of d may.valid;
    has = may.has;
    rfc_fits = may.rfc_fits;
    uc_fits = may.uc_fits;
  })

  pub recount_one_word : IsOneWord d (recounted d row.slot rfc uc) 0 [] (slot_word d.geometry row.slot 4) (count_word rfc uc)
  recount_one_word = disk_word d (recounted d row.slot rfc uc)
      (next_disk d (recounted d row.slot rfc uc).chain d.pointer may.valid decides.good (count_fits d may.valid (rows (recounted d row.slot rfc uc))
      row.slot rfc uc (recounts_rows d row.slot rfc uc) near_one))
      may.valid 0 [] (slot_word d.geometry row.slot 4) (count_word rfc uc) decides

module _ (d : Disk) (slot rfc uc : ℕ) where
  pub recount_own : (print : Print) → IsOwn print d → IsOwn print (recounted d slot rfc uc)
  recount_own print own = own_kept d (λ p. map (recount slot rfc uc) (d.chain p)) d.pointer print own
      (subst (All (λ row. row.print ≡ print (page_bytes d row.page))) (sym (rows_recounted slot rfc uc d))
      (All-map (λ (row : Row). row.print ≡ print (page_bytes d row.page)) (recount slot rfc uc) (rows d) own.prints))
      (λ ino idx m place done row. inr (ap (λ (rs : List Row). is_some (row_of rs m.block)) (rows_recounted slot rfc uc d) ∙ has_same slot rfc uc
      (rows d) m.block ∙ row))

module _ (d : Disk) (row : Row) (rfc : ℕ) (valid : IsValid d) (has : Contains (rows d) row) (others : OthersAreExact d row.slot)
    (is : rfc ≡ mappings d row.page) (some : rfc ≢ 0) where
  exact_one : (r : Row) → Contains (rows d) r → IsExact d (recount row.slot rfc 0 r)
  exact_one r listed = ⊎_elim here (λ (exact : IsExact d r). elim (cases_eq r.slot row.slot) [
    | inl e ↦ here e
    | inr ne ↦ there (r.slot == row.slot)
        (other_test r.slot row.slot ne) exact
  ])
      (All-contains (λ (x : Row). (x.slot ≡ row.slot) ⊎ IsExact d x) (rows d) r others listed)
    where
      at_row : (b : Bool) → b ≡ true → (n : ℕ) → n ≡ mappings d row.page → ((if b then 0 else r.uc) ≡ 0) × ((if b then rfc else r.rfc) ≡ n) ×
          ((if b then rfc else r.rfc) ≢ 0)
      at_row true t n e = (refl, is ∙ sym e, some)
      at_row false t n e = cc

      here : r.slot ≡ row.slot → IsExact d (recount row.slot rfc 0 r)
      here e = at_row (r.slot == row.slot) (same_test r.slot row.slot e) (mappings d r.page)
          (ap (λ (x : Row). mappings d x.page) (distinct_same (λ (x : Row). x.slot) (rows d) valid.rows_apart.slot r row listed has e))

      there : (b : Bool) → b ≡ false → IsExact d r → ((if b then 0 else r.uc) ≡ 0) × ((if b then rfc else r.rfc) ≡ mappings d r.page) ×
          ((if b then rfc else r.rfc) ≢ 0)
      there true t exact = cc
      there false t exact = exact

  pub recount_exact : Exact (recounted d row.slot rfc 0)
  recount_exact = exact_kept d (λ p. map (recount row.slot rfc 0) (d.chain p)) d.pointer
      (subst (All (IsExact d)) (sym (rows_recounted row.slot rfc 0 d)) (All-map (IsExact d) (recount row.slot rfc 0) (rows d)
      (all_listed (λ (r : Row). IsExact d (recount row.slot rfc 0 r)) (rows d) exact_one)))
      (λ page none. valid.single.unshared page (sym (has_same row.slot rfc 0 (rows d) page) ∙ ap (λ (rs : List Row). is_some (row_of rs page))
      (sym (rows_recounted row.slot rfc 0 d)) ∙ none))
