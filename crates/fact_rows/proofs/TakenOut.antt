-- A row goes out of the table: what the words hold in the end, what images have on the way, and what is settled.
use Rattle.std.proofs.Common.{◌≡◌, ◌≢◌, inl, inr, ⊎_elim, ℕ, ◌*◌, ◌<◌, ◌≤◌, List, [], ◌∷◌, length, sym, ◌∙◌, ap, subst, arith}
use Rattle.std.specs.Prelude.{slice_index, Contains}
use Rattle.std.proofs.lemmas.Bool.{cases_eq}
use Rattle.pm_device.specs.State.{State}
use Rattle.pm_device.specs.Settled.{IsSettled, LeavesOnly, StoresOnly, KeepsFlushed, Others}
use Rattle.pm_device.specs.Reading.{Stands}
use Rattle.pm_device.specs.Commit.{IsDone, LeavesOneWord}
use Rattle.pm_device.proofs.Layers.{leaves_only-then}
use Rattle.pm_device.proofs.Moments.{leaves_only-weaken}
use Rattle.pm_device.proofs.Only.{stores_only-then, stores_only-weaken}
use Rattle.pm_device.proofs.Flushed.{keeps-then, keeps-weaken}
use Rattle.pm_layout.specs.declared.Geometry.{Geometry}
use Rattle.pm_layout.specs.Geometry.{slot_word, pointer_word, directs, slots}
use Rattle.dn_model.specs.Table.{Row, RowsSay, at_next, at_later, at_row}
use Rattle.dn_model.specs.Disk.{Disk, TableSays}
use Rattle.law_table.specs.Changes.{removed, slot_before, slot_after}
use Rattle.law_table.specs.Words.{HoldsTable, IsOneTableWord}
use Rattle.law_table.proofs.Words.{word_settled, word_any_order, word_stands, word_reads, nothing_ready, nothing_stands}
use Rattle.law_table.proofs.Pointed.{pointer_decides}
use Rattle.law_table.proofs.Gone.{taken_may_clear, closing_decides, unlink_decides}
use Rattle.law_table.proofs.Rows.{listed_cases}
use Rattle.law_table.proofs.Slots.{HasSlot}
use Rattle.law_table.proofs.TableRows.{in_table, is_row, row_slot_small}
use Rattle.law_table.proofs.Taken.{before_owned, after_here, after_other}
use Rattle.fact_rows.specs.Put.{HoldsOneOf}
use Rattle.fact_rows.specs.Gone.{MayTakeOut, MayUnlink, cleared, IsGoneWord}
use Rattle.pm_device.proofs.SetWord.{done_value}

-- One word is set.
pub record Went (g : Geometry) (who gate value : ℕ) (s0 s1 : State) : Type 0 where
  pub size : length s0.now ≡ 512 * g.pages
  pub leaves : IsSettled s0 gate → LeavesOnly s0 s1 (LeavesOneWord gate value s0)
  pub only : StoresOnly (λ a. a ≡ gate) s0 s1

-- Then a pointer is cleared.
pub record Cleared (g : Geometry) (page : ℕ) (s1 s2 : State) : Type 0 where
  pub leaves : IsSettled s1 (pointer_word g page) → LeavesOnly s1 s2 (LeavesOneWord (pointer_word g page) 0 s1)
  pub only : StoresOnly (λ a. a ≡ pointer_word g page) s1 s2

-- where a row may be taken out
module _ (g : Geometry) (prefix slot page : ℕ) (words : List ℕ) (d : Disk) (row : Row) (take : MayTakeOut d row words g prefix slot page) where
  pub gone_direct_lt : prefix < directs g
  gone_direct_lt = subst (λ (k : Geometry). prefix < directs k) take.geometry take.may.direct

  pub gone_page_lt : page < g.pages
  gone_page_lt = subst (λ (p : ℕ). p < g.pages) take.page_is
      (subst (λ (k : Geometry). row.page < k.pages) take.geometry (is_row d take.may.good prefix row take.may.direct take.may.has).data_page.high)

module _ (g : Geometry) (prefix slot page : ℕ) (s0 : State) (d : Disk) (row : Row) (take : MayTakeOut d row s0.now g prefix slot page)
    (who gate value : ℕ)
    (one : IsOneTableWord d (removed d row.slot) 0 [] gate value) (s1 : State) (went : Went g who gate value s0 s1) where
  abbrev middle : Disk
  middle = removed d row.slot

  at_is : pointer_word d.geometry row.page ≡ pointer_word g page
  at_is = ap (λ (k : Geometry). pointer_word k row.page) take.geometry ∙ ap (pointer_word g) take.page_is

  two : IsOneTableWord middle (cleared d row) 0 [] (pointer_word g page) 0
  two = subst (λ (a : ℕ). IsOneTableWord middle (cleared d row) 0 [] a 0) at_is
      (pointer_decides middle row.page 0 (taken_may_clear d prefix row take.may))

  long0 : length s0.now ≡ 512 * d.geometry.pages
  long0 = went.size ∙ ap (λ (k : Geometry). 512 * k.pages) (sym take.geometry)

  long1 : length s1.now ≡ 512 * d.geometry.pages
  long1 = went.only.words ∙ long0

  pub gone_failed : Stands (TableSays d) s0 → LeavesOnly s0 s1 (λ c. HoldsOneOf c d middle (cleared d row))
  gone_failed stands =
      let still = word_settled d middle 0 [] gate value one s0 stands in
      leaves_only-weaken s0 s1 _ _ (λ c. ⊎_elim (λ old. inl old) (λ mid. inr (inl mid))) (word_any_order d middle 0 [] gate value one s0 s1 stands
      (nothing_stands 0 s0) (went.leaves still))

  module _ (done : IsDone who gate value s0 s1) (s2 : State) (clear : Cleared g page s1 s2) where
    holds1 : HoldsTable s1.now middle
    holds1 = word_reads d middle 0 [] gate value one s0 s1 take.holds (nothing_ready who 0 s0).reads
        (done_value who gate value s0 s1 (omega (arith, one.inside, long0)) done) went.only

    stands1 : Stands (TableSays d) s0 → Stands (TableSays middle) s1
    stands1 stands = word_stands d middle 0 [] gate value one who s0 s1 long0 stands (nothing_ready who 0 s0) done went.only

    pub gone_images : Stands (TableSays d) s0 → LeavesOnly s0 s2 (λ c. HoldsOneOf c d middle (cleared d row))
    gone_images stands =
        let still = word_settled middle (cleared d row) 0 [] (pointer_word g page) 0 two s1 (stands1 stands) in
        leaves_only-then s0 s1 s2 _ (gone_failed stands)
        (leaves_only-weaken s1 s2 _ _ (λ c both. inr both) (word_any_order middle (cleared d row) 0 [] (pointer_word g page) 0 two s1 s2
        (stands1 stands) (nothing_stands 0 s1) (clear.leaves still)))

    module _ (last : IsDone who (pointer_word g page) 0 s1 s2) where
      pub gone_holds : HoldsTable s2.now (cleared d row)
      gone_holds = word_reads middle (cleared d row) 0 [] (pointer_word g page) 0 two s1 s2 holds1 (nothing_ready who 0 s1).reads
          (done_value who (pointer_word g page) 0 s1 s2 (omega (arith, two.inside, long1)) last) clear.only

      pub gone_stands : Stands (TableSays d) s0 → Stands (TableSays (cleared d row)) s2
      gone_stands stands = word_stands middle (cleared d row) 0 [] (pointer_word g page) 0 two who s1 s2 long1 (stands1 stands)
          (nothing_ready who 0 s1) last clear.only

-- out of a direct slot
pub closes : (g : Geometry) (direct page : ℕ) (words : List ℕ) (d : Disk) (row : Row) (take : MayTakeOut d row words g direct direct page)
    → IsOneTableWord d (removed d row.slot) 0 [] (slot_word g direct 0) 0
closes g direct page words d row take =
    subst (λ (k : Geometry). IsOneTableWord d (removed d row.slot) 0 [] (slot_word k direct 0) 0) take.geometry
    (closing_decides d direct row take.may take.slot_is)

-- the next word of a row's slot tells of the slot that follows
pub next_told : (g : Geometry) (row : Row) (rs : List Row) → Contains rs row → RowsSay g rs (slot_word g row.slot 5) (slot_after rs row.slot)
next_told g row [] has = absurd (omega (arith, has.1))
next_told g row (x ∷ rs) has = elim (cases_eq x.slot row.slot) [
  | inl e ↦ at_next (ap (λ (s : ℕ). slot_word g s 5) (sym e)) (after_here row.slot x rs e)
  | inr ne ↦ ⊎_elim (λ (same : x ≡ row). absurd (ne (ap (λ (r : Row). r.slot) same)))
      (λ (later : Contains rs row). at_later (subst (RowsSay g rs (slot_word g row.slot 5)) (sym (after_other row.slot x rs ne))
      (next_told g row rs later)))
      (listed_cases x rs row has)
]

-- from behind a slot
module _ (g : Geometry) (before slot page : ℕ) (words : List ℕ) (d : Disk) (row : Row) (prefix : ℕ) (may : MayUnlink d row prefix words g before slot
    page) where
  pub before_small : before < slots g
  before_small = subst (λ (k : Geometry). before < slots k) may.take.geometry
      (⊎_elim (λ (own : slot_before prefix (d.chain prefix) row.slot ≡ prefix). omega (arith, may.before_is, own, may.take.may.direct))
      (λ (has : HasSlot (d.chain prefix) (slot_before prefix (d.chain prefix) row.slot)).
      omega (arith, may.before_is, has.2, row_slot_small d may.take.may.good has.0 (in_table d prefix has.0 may.take.may.direct has.1)))
      (before_owned row.slot prefix (d.chain prefix)))

  follows : slice_index words (slot_word g slot 5) ≡ slot_after (d.chain prefix) row.slot
  follows =
      let told : TableSays d (slot_word d.geometry row.slot 5) (slot_after (d.chain prefix) row.slot) =
      inl (record { prefix = prefix; direct = may.take.may.direct; says = at_row (next_told d.geometry row (d.chain prefix) may.take.may.has) }) in
      subst (λ (k : Geometry). slice_index words (slot_word k slot 5) ≡ slot_after (d.chain prefix) row.slot) may.take.geometry
      (subst (λ (s : ℕ). slice_index words (slot_word d.geometry s 5) ≡ slot_after (d.chain prefix) row.slot) may.take.slot_is
      (may.take.holds _ _ told))

  pub unlinks : directs g ≤ slot → IsOneTableWord d (removed d row.slot) 0 [] (slot_word g before 5) (slice_index words (slot_word g slot 5))
  unlinks indirect =
      let lt = gone_direct_lt g prefix slot page words d row may.take in
      let other : row.slot ≢ prefix = λ e. omega (arith, e, may.take.slot_is, indirect, lt) in
      let one : IsOneTableWord d (removed d row.slot) 0 [] (slot_word d.geometry before 5) (slot_after (d.chain prefix) row.slot) =
      subst (λ (b : ℕ). IsOneTableWord d (removed d row.slot) 0 [] (slot_word d.geometry b 5) (slot_after (d.chain prefix) row.slot))
      (sym may.before_is) (unlink_decides d prefix row may.take.may other) in
      subst (λ (v : ℕ). IsOneTableWord d (removed d row.slot) 0 [] (slot_word g before 5) v) (sym follows)
      (subst (λ (k : Geometry). IsOneTableWord d (removed d row.slot) 0 [] (slot_word k before 5) (slot_after (d.chain prefix) row.slot))
      may.take.geometry one)

-- which words are stored to, and what others had flushed
module _ (g : Geometry) (who gate page : ℕ) (s0 s1 : State) (only1 : StoresOnly (λ a. a ≡ gate) s0 s1)
    (keeps1 : KeepsFlushed (Others who) (λ a. a ≡ gate) s0 s1) where
  abbrev W : ℕ → Type 0
  W = IsGoneWord g gate page

  pub gone_only_front : StoresOnly W s0 s1
  gone_only_front = stores_only-weaken _ W s0 s1 (λ a e. inl e) only1

  pub gone_keeps_front : KeepsFlushed (Others who) W s0 s1
  gone_keeps_front = keeps-weaken (Others who) (Others who) _ W s0 s1 (λ q other. other) (λ a e. inl e) keeps1

  module _ (s2 : State) (only2 : StoresOnly (λ a. a ≡ pointer_word g page) s1 s2) (keeps2 : KeepsFlushed (Others who) (λ a. a ≡ pointer_word g page)
      s1 s2) where
    pub gone_only : StoresOnly W s0 s2
    gone_only = stores_only-then W s0 s1 s2 gone_only_front (stores_only-weaken _ W s1 s2 (λ a e. inr e) only2)

    pub gone_keeps : KeepsFlushed (Others who) W s0 s2
    gone_keeps = keeps-then (Others who) W s0 s1 s2 gone_keeps_front (keeps-weaken (Others who) (Others who) _ W s1 s2 (λ q other. other)
        (λ a e. inr e) keeps2)
