-- The counts of a row are committed: what images have on the way, and what stands in the end.
use Rattle.std.proofs.Common.{◌≡◌, ◌⊎◌, ℕ, ◌+◌, ◌*◌, ◌^◌, ◌<◌, List, [], length, inl, sym, ◌∙◌, ap, subst, arith, get_or-set_same}
use Rattle.std.specs.Prelude.{slice_index, Result, Ok, Err, OnOk}
use Rattle.pm_device.specs.State.{State}
use Rattle.pm_device.specs.Settled.{IsSettled, LeavesOnly, StoresOnly}
use Rattle.pm_device.specs.Pages.{SaysRun}
use Rattle.pm_device.specs.Reading.{Reads}
use Rattle.pm_device.specs.Commit.{IsDone, LeavesOneWord}
use Rattle.pm_layout.specs.declared.Geometry.{Geometry}
use Rattle.pm_layout.specs.Geometry.{IsAccepted, slot_word, directs, slots}
use Rattle.fingerprint.specs.Count.{count_word}
use Rattle.fingerprint.specs.declared.count.CountWord.{CountWord}
use Rattle.fingerprint.proofs.SlotLaws.{count_word-one}
use Rattle.dn_model.specs.Table.{Row, at_row}
use Rattle.dn_model.specs.Disk.{Disk, ChainsSay, TableSays}
use Rattle.law_table.specs.Changes.{recount, recounted}
use Rattle.law_table.specs.Rows.{MayCount}
use Rattle.law_table.specs.Words.{HoldsTable, IsOneTableWord}
use Rattle.law_table.proofs.Counted.{count_word_decides, recounts_rows}
use Rattle.law_table.proofs.Rows.{at_listed}
use Rattle.law_table.proofs.Slots.{field_said}
use Rattle.law_table.proofs.TableRows.{of_chain, row_slot_small}
use Rattle.law_table.proofs.Words.{word_settled, word_any_order, word_stands, word_reads, nothing_ready, nothing_stands}
use Rattle.fact_table.specs.Table.{Table, IsTable, IsSettledTable, IsAtSlot, HasRow, HasNoneAt}
use Rattle.fact_counts.specs.Standing.{HasRowWith}
use Rattle.fact_counts.specs.Counted.{LeavesTables, MakesTable, SettlesTable, CountsAre, AnyRow}

-- the slots with rows are those of before
module _ (d : Disk) (slot rfc uc : ℕ) where
  pub none_kept : (s : ℕ) → HasNoneAt d s → HasNoneAt (recounted d slot rfc uc) s
  none_kept s none row has e = let was = (recounts_rows d slot rfc uc).only row has in none was.0 was.1 (ap (λ (r : Row). r.slot) was.2 ∙ e)

  pub row_kept : (s : ℕ) → HasRow d s → HasRow (recounted d slot rfc uc) s
  row_kept s has = record {
    row = recount slot rfc uc has.row;
    is = record { there = (recounts_rows d slot rfc uc).kept has.row has.is.there; slot_is = has.is.slot_is };
  }

-- the row at a slot
module _ (d : Disk) (words : List ℕ) (t : Table) (is : IsTable d words t) (slot : ℕ) (row : Row) (at_slot : IsAtSlot d slot row) where
  pub row_small : slot < slots t.geometry
  row_small = subst (λ (g : Geometry). slot < slots g) is.geometry (subst (λ (s : ℕ). s < slots d.geometry) at_slot.slot_is
      (row_slot_small d is.good row at_slot.there))

  pub row_uc : row.uc < 2 ^ 32
  row_uc = let in_chain = of_chain d row at_slot.there in
      (is.good.table in_chain.0 in_chain.2.0 row in_chain.1 (at_listed (d.chain in_chain.0) row in_chain.2)).uc

  -- its count word is told
  pub count_told : TableSays d (slot_word t.geometry slot 4) (count_word row.rfc row.uc)
  count_told =
      let in_chain = of_chain d row at_slot.there in
      let here : ChainsSay d (slot_word d.geometry row.slot 4) (count_word row.rfc row.uc) =
      record { prefix = in_chain.0; direct = in_chain.1; says = at_row (field_said d.geometry row (d.chain in_chain.0) 4 (omega arith) in_chain.2) }
      in
      subst (λ (g : Geometry). TableSays d (slot_word g slot 4) (count_word row.rfc row.uc)) is.geometry
      (subst (λ (s : ℕ). TableSays d (slot_word d.geometry s 4) (count_word row.rfc row.uc)) at_slot.slot_is (inl here))

  pub count_read : slice_index words (slot_word t.geometry slot 4) ≡ count_word row.rfc row.uc
  count_read = is.says _ _ count_told

  module _ (rfc uc : ℕ) (rfc_fits : rfc < 2 ^ 32) (uc_fits : uc < 2 ^ 32) where
    -- one word decides
    pub count_decides : IsOneTableWord d (recounted d slot rfc uc) 0 [] (slot_word t.geometry slot 4) (count_word rfc uc)
    count_decides =
        let may : MayCount d row rfc uc = record {
          accepted = subst IsAccepted (sym is.geometry) is.accepted;
          good = is.good;
          has = at_slot.there;
          rfc_fits = rfc_fits;
          uc_fits = uc_fits;
        } in
        subst (λ (g : Geometry). IsOneTableWord d (recounted d slot rfc uc) 0 [] (slot_word g slot 4) (count_word rfc uc)) is.geometry
        (subst (λ (s : ℕ). IsOneTableWord d (recounted d s rfc uc) 0 [] (slot_word d.geometry s 4) (count_word rfc uc)) at_slot.slot_is
        (count_word_decides d row rfc uc may))

    -- words that read as the table of after hold it, with the same slots unused
    pub recounted_table : (after : List ℕ) → length after ≡ length words → HoldsTable after (recounted d slot rfc uc)
        → IsTable (recounted d slot rfc uc) after t
    recounted_table after long holds = record {
      geometry = is.geometry;
      accepted = is.accepted;
      size = long ∙ is.size;
      says = holds;
      good = count_decides.good;
      set = is.set;
      free = λ k has. none_kept d slot rfc uc (directs t.geometry + k) (is.free k has);
      taken = λ k lt not. row_kept d slot rfc uc (directs t.geometry + k) (is.taken k lt not);
    }

-- the counts that were read are those of the row
pub counts_read : (t : Table) (slot word : ℕ) (words : List ℕ) (counts : CountWord) → word ≡ slice_index words (slot_word t.geometry slot 4)
    → count_word counts.rfc counts.uc ≡ word → counts.uc < 2 ^ 32
    → CountsAre words t slot counts
counts_read t slot word words counts read is fits d row table at_slot =
    let same = count_word-one counts.rfc counts.uc row.rfc row.uc fits (row_uc d words t table slot row at_slot)
    (is ∙ read ∙ count_read d words t table slot row at_slot) in
    λ i. record { rfc = same.0 i; uc = same.1 i }

-- where the new counts are those that f makes of the row, the clauses of the one are those of the other
module _ (f : Row → CountWord) (counts : CountWord) (t : Table) (slot : ℕ) (s u : State)
    (same : (d : Disk) (row : Row) → IsTable d s.now t → IsAtSlot d slot row → counts ≡ f row) where
  pub same_images : LeavesTables (λ row. counts) t slot s u → LeavesTables f t slot s u
  same_images leaves d row settled at_slot =
      subst (λ (x : CountWord). LeavesOnly s u (λ c. HoldsTable c d ⊎ HoldsTable c (recounted d slot x.rfc x.uc))) (same d row settled.table at_slot)
      (leaves d row settled at_slot)

  pub same_table : MakesTable (λ row. counts) t slot s u → MakesTable f t slot s u
  same_table makes d row is at_slot = subst (λ (x : CountWord). IsTable (recounted d slot x.rfc x.uc) u.now t) (same d row is at_slot)
      (makes d row is at_slot)

  pub same_settled : SettlesTable (λ row. counts) t slot s u → SettlesTable f t slot s u
  same_settled settles d row settled at_slot = subst (λ (x : CountWord). IsSettledTable (recounted d slot x.rfc x.uc) u t)
      (same d row settled.table at_slot) (settles d row settled at_slot)

-- The clauses, where the code holds the geometry and the word.
module _ (t : Table) (slot who : ℕ) (counts : CountWord) (s u : State) (k : Geometry) (same : k ≡ t.geometry) (w : ℕ)
    (is : w ≡ count_word counts.rfc counts.uc)
    (rfc_fits : counts.rfc < 2 ^ 32) (uc_fits : counts.uc < 2 ^ 32) where
  abbrev place : ℕ
  place = slot_word t.geometry slot 4

  abbrev value : ℕ
  value = count_word counts.rfc counts.uc

  abbrev SetWord : Type 0
  SetWord = IsSettled s (slot_word k slot 4) → LeavesOnly s u (LeavesOneWord (slot_word k slot 4) w s)

  abbrev Done : Type 0
  Done = IsDone who (slot_word k slot 4) w s u

  abbrev Only : Type 0
  Only = StoresOnly (λ a. a ≡ slot_word k slot 4) s u

  set_here : SetWord → IsSettled s place → LeavesOnly s u (LeavesOneWord place value s)
  set_here leaves = subst (λ (x : ℕ). IsSettled s place → LeavesOnly s u (LeavesOneWord place x s)) is
      (subst (λ (g : Geometry). IsSettled s (slot_word g slot 4) → LeavesOnly s u (LeavesOneWord (slot_word g slot 4) w s)) same leaves)

  done_here : Done → IsDone who place value s u
  done_here done = subst (λ (x : ℕ). IsDone who place x s u) is (subst (λ (g : Geometry). IsDone who (slot_word g slot 4) w s u) same done)

  only_here : Only → StoresOnly (λ a. a ≡ place) s u
  only_here only = subst (λ (g : Geometry). StoresOnly (λ a. a ≡ slot_word g slot 4) s u) same only

  module _ (d : Disk) (row : Row) (table : IsTable d s.now t) (at_slot : IsAtSlot d slot row) where
    abbrev new : Disk
    new = recounted d slot counts.rfc counts.uc

    decides : IsOneTableWord d new 0 [] place value
    decides = count_decides d s.now t table slot row at_slot counts.rfc counts.uc rfc_fits uc_fits

    size_is : length s.now ≡ 512 * d.geometry.pages
    size_is = table.size ∙ ap (λ (g : Geometry). 512 * g.pages) (sym table.geometry)

    moved : Done → slice_index u.now place ≡ value
    moved done = ap (λ (c : List ℕ). slice_index c place) (done_here done).now ∙ get_or-set_same s.now place value 0
        (omega (arith, decides.inside, size_is))

    nothing_read : Reads (SaysRun 0 []) s.now
    nothing_read = (nothing_ready who 0 s).reads

    table_after : Only → Done → IsTable new u.now t
    table_after only done = recounted_table d s.now t table slot row at_slot counts.rfc counts.uc rfc_fits uc_fits u.now only.words
        (word_reads d new 0 [] place value decides s u table.says nothing_read (moved done) (only_here only))

  pub set_images : SetWord → LeavesTables (λ row. counts) t slot s u
  set_images leaves d row settled at_slot =
      let one = decides d row settled.table at_slot in
      word_any_order d (new d row settled.table at_slot) 0 [] place value one s u settled.stands (nothing_stands 0 s)
      (set_here leaves (word_settled d (new d row settled.table at_slot) 0 [] place value one s settled.stands))

  pub set_table : Only → Done → MakesTable (λ row. counts) t slot s u
  set_table only done d row table at_slot = table_after d row table at_slot only done

  pub set_settled : Only → Done → SettlesTable (λ row. counts) t slot s u
  set_settled only done d row settled at_slot = record {
    table = table_after d row settled.table at_slot only done;
    stands = word_stands d (new d row settled.table at_slot) 0 [] place value (decides d row settled.table at_slot) who s u
        (size_is d row settled.table at_slot) settled.stands (nothing_ready who 0 s) (done_here done) (only_here only);
  }

pub slot_small : (t : Table) (slot : ℕ) (words : List ℕ) (k : Geometry) → k ≡ t.geometry → HasRowWith words t slot AnyRow → slot < slots k
slot_small t slot words k same has = subst (λ (g : Geometry). slot < slots g) (sym same) (row_small has.disk words t has.table slot has.row
    has.at_slot)

pub on_ok_map : {T E : Type 0} (r : Result T E) (P Q : Type 0) → (P → Q) → OnOk r P → OnOk r Q
on_ok_map (Ok x) P Q gives holds = gives holds
on_ok_map (Err e) P Q gives holds = tt
