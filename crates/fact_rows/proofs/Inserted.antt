-- A row comes into the table: what the words hold in the end, what images have on the way, and what is settled.
use Rattle.std.proofs.Common.{◌≡◌, ◌⊎◌, inl, inr, ⊎_elim, ℕ, ◌+◌, ◌*◌, ◌<◌, ◌≤◌, List, [], ◌∷◌, ◌++◌, length, refl, sym, ◌∙◌, subst, arith}
use Rattle.std.specs.Prelude.{slice_index}
use Rattle.pm_device.specs.State.{State}
use Rattle.pm_device.specs.Settled.{IsSettled, LeavesOnly, StoresOnly, KeepsFlushed, Anyone, Others}
use Rattle.pm_device.specs.Reading.{Stands}
use Rattle.pm_device.specs.Words.{IsIn}
use Rattle.pm_device.specs.Pages.{SaysRun}
use Rattle.pm_device.specs.Lines.{StoresRun}
use Rattle.pm_device.specs.Commit.{IsDone, LeavesOneWord}
use Rattle.pm_device.proofs.Layers.{leaves_only-then, stands_is_ready}
use Rattle.pm_device.proofs.Moments.{leaves_only-weaken}
use Rattle.pm_device.proofs.Only.{stores_only-then, stores_only-weaken}
use Rattle.pm_device.proofs.Flushed.{keeps-then, keeps-weaken}
use Rattle.pm_layout.specs.declared.Geometry.{Geometry}
use Rattle.pm_layout.specs.Geometry.{IsAccepted, slot_word, pointer_word, directs, slots}
use Rattle.dn_model.specs.Table.{Row, first_slot, chained, at_direct_next}
use Rattle.dn_model.specs.Disk.{Disk, TableSays}
use Rattle.law_table.specs.Changes.{repointed}
use Rattle.law_table.specs.Words.{HoldsTable, IsOneTableWord, IsUntold}
use Rattle.law_table.specs.Rows.{MayPoint, opened_words, linked_words}
use Rattle.law_table.proofs.Words.{
  word_settled,
  word_any_order,
  word_stands,
  word_reads,
  stored_run_ready,
  front_stands,
  stands_through,
  nothing_ready,
  nothing_stands,
  untold_reads,
  untold_stands,
  untold_images,
}
use Rattle.law_table.proofs.Pointed.{pointer_decides, fresh_may_point, pointed_may_put}
use Rattle.law_table.proofs.Unused.{indirect_untold, closed_untold}
use Rattle.law_table.proofs.Opened.{opening_decides}
use Rattle.law_table.proofs.Linked.{link_decides}
use Rattle.law_table.proofs.TableRows.{prefix_small}
use Rattle.law_table.proofs.Slots.{pointer_above}
use Rattle.fact_rows.specs.Put.{new_row, pointed, opened_with, linked_with, MayPutAt, HoldsOneOf, IsPutWord}
use Rattle.pm_device.proofs.SetWord.{done_value}

-- Values are stored to words of a slot, and then a page's pointer is made to lead to it.
pub record Filled (g : Geometry) (who slot from page : ℕ) (values : List ℕ) (s0 s1 s2 : State) : Type 0 where
  pub size : length s0.now ≡ 512 * g.pages
  pub fill : StoresRun who (slot_word g slot from) values s0 s1
  pub leaves : IsSettled s1 (pointer_word g page) → LeavesOnly s1 s2 (LeavesOneWord (pointer_word g page) (slot + 1) s1)
  pub only : StoresOnly (λ a. a ≡ pointer_word g page) s1 s2

-- Then one word of a direct slot is set.
pub record Decided (g : Geometry) (who direct field value : ℕ) (s2 s3 : State) : Type 0 where
  pub leaves : IsSettled s2 (slot_word g direct field) → LeavesOnly s2 s3 (LeavesOneWord (slot_word g direct field) value s2)
  pub only : StoresOnly (λ a. a ≡ slot_word g direct field) s2 s3

-- a stage: words of which the table says nothing are filled, and the pointer follows
module _ (d : Disk) (who slot from page : ℕ) (values : List ℕ) (s0 s1 s2 : State) (point : MayPoint d page (slot + 1))
    (small : slot < slots d.geometry) (count : from + length values ≤ 8)
    (untold : IsUntold d (slot_word d.geometry slot from) (length values)) (is : Filled d.geometry who slot from page values s0 s1 s2) where
  abbrev at : ℕ
  at = pointer_word d.geometry page

  abbrev first : ℕ
  first = slot_word d.geometry slot from

  abbrev middle : Disk
  middle = repointed d page (slot + 1)

  one : IsOneTableWord d middle 0 [] at (slot + 1)
  one = pointer_decides d page (slot + 1) point

  before : first + length values ≤ at
  before = let above = pointer_above d.geometry page slot 7 small (omega arith) in omega (arith, above, count)

  long1 : length s1.now ≡ 512 * d.geometry.pages
  long1 = is.fill.only.words ∙ is.size

  long2 : length s2.now ≡ 512 * d.geometry.pages
  long2 = is.only.words ∙ long1

  module _ (stands : Stands (TableSays d) s0) where
    stands1 : Stands (TableSays d) s1
    stands1 = untold_stands d first (length values) untold s0 s1 is.fill.only stands

    pub images2 : LeavesOnly s0 s2 (λ c. HoldsTable c d ⊎ HoldsTable c middle)
    images2 =
        let filled = untold_images d first (length values) untold s0 s1 is.fill.only stands in
        let still = word_settled d middle 0 [] at (slot + 1) one s1 stands1 in
        leaves_only-then s0 s1 s2 _ (leaves_only-weaken s0 s1 _ _ (λ c here. inl here) filled) (word_any_order d middle 0 [] at (slot + 1) one s1 s2
        stands1 (nothing_stands 0 s1) (is.leaves still))

  module _ (done : IsDone who at (slot + 1) s1 s2) where
    holds2 : HoldsTable s0.now d → HoldsTable s2.now middle
    holds2 holds = word_reads d middle 0 [] at (slot + 1) one s1 s2 (untold_reads d first (length values) untold s0 s1 is.fill.only holds)
        (nothing_ready who 0 s1).reads
        (done_value who at (slot + 1) s1 s2 (omega (arith, one.inside, long1)) done) is.only

    stands2 : Stands (TableSays d) s0 → Stands (TableSays middle) s2
    stands2 stands = word_stands d middle 0 [] at (slot + 1) one who s1 s2 long1 (stands1 stands) (nothing_ready who 0 s1) done is.only

    pub filled2 : Stands (SaysRun first values) s2
    filled2 = stands_through who first values at (slot + 1) s1 s2
        (stored_run_ready who first values s0 s1 (omega (arith, one.inside, before, is.size)) is.fill) (λ h. omega (arith, h.1, before)) done is.only

    -- and one word decides
    module _ (e : Disk) (fresh : List ℕ) (gate value : ℕ) (deciding : IsOneTableWord middle e first fresh gate value)
        (filled : Stands (SaysRun first fresh) s2) (s3 : State) (only3 : StoresOnly (λ a. a ≡ gate) s2 s3) where
      pub images3 : Stands (TableSays d) s0 → (IsSettled s2 gate → LeavesOnly s2 s3 (LeavesOneWord gate value s2))
          → LeavesOnly s0 s3 (λ c. HoldsOneOf c d middle e)
      images3 stands leaves =
          let still = word_settled middle e first fresh gate value deciding s2 (stands2 stands) in
          let last = word_any_order middle e first fresh gate value deciding s2 s3 (stands2 stands) filled (leaves still) in
          leaves_only-then s0 s2 s3 _ (leaves_only-weaken s0 s2 _ _ (λ c. ⊎_elim (λ old. inl old) (λ mid. inr (inl mid))) (images2 stands))
          (leaves_only-weaken s2 s3 _ _ (λ c both. inr both) last)

      module _ (last : IsDone who gate value s2 s3) where
        pub holds3 : HoldsTable s0.now d → HoldsTable s3.now e
        holds3 holds = word_reads middle e first fresh gate value deciding s2 s3 (holds2 holds) filled.reads
            (done_value who gate value s2 s3 (omega (arith, deciding.inside, long2)) last) only3

        pub stands3 : Stands (TableSays d) s0 → Stands (TableSays e) s3
        stands3 stands = word_stands middle e first fresh gate value deciding who s2 s3 long2 (stands2 stands)
            (stands_is_ready who s2 (SaysRun first fresh) filled) last only3

-- where a row may be put
module _ (g : Geometry) (prefix slot page : ℕ) (print words : List ℕ) (d : Disk) (may : MayPutAt d words g prefix slot print page) where
  pub put_direct_lt : prefix < directs g
  put_direct_lt = subst (λ (k : Geometry). prefix < directs k) may.geometry
      (subst (λ (p : ℕ). p < directs d.geometry) may.fresh.prefix_is (prefix_small d.geometry print may.fresh.twenty may.fresh.bytes))

  pub put_page_lt : page < g.pages
  put_page_lt = subst (λ (k : Geometry). page < k.pages) may.geometry may.fresh.data_page.high

-- into a direct slot
module _ (g : Geometry) (accepted : IsAccepted g) (who direct page : ℕ) (print : List ℕ) (s0 s1 s2 : State)
    (filled : Filled g who direct 1 page (opened_words (new_row direct print page)) s0 s1 s2)
    (d : Disk) (may : MayPutAt d s0.now g direct direct print page) where
  abbrev row : Row
  row = new_row direct print page

  abbrev opened_disk : Disk
  opened_disk = opened_with d direct print page

  accepted_here : IsAccepted d.geometry
  accepted_here = subst IsAccepted (sym may.geometry) accepted

  direct_lt : direct < directs d.geometry
  direct_lt = subst (λ (k : Geometry). direct < directs k) (sym may.geometry) (put_direct_lt g direct direct page print s0.now d may)

  direct_small : direct < slots d.geometry
  direct_small = omega (arith, direct_lt)

  here : Filled d.geometry who direct 1 page (opened_words row) s0 s1 s2
  here = subst (λ (k : Geometry). Filled k who direct 1 page (opened_words row) s0 s1 s2) (sym may.geometry) filled

  leads : MayPoint d page (direct + 1)
  leads = fresh_may_point d direct row accepted_here may.good may.fresh direct_small

  untold : IsUntold d (slot_word d.geometry direct 1) 4
  untold = closed_untold d may.good direct direct_lt may.fresh.new_slot

  deciding : IsOneTableWord (pointed d row) opened_disk (slot_word d.geometry direct 1) (opened_words row) (slot_word d.geometry direct 0) page
  deciding = opening_decides (pointed d row) direct row (pointed_may_put d direct row accepted_here may.good may.fresh direct_small) refl

  pub open_failed : Stands (TableSays d) s0 → LeavesOnly s0 s2 (λ c. HoldsOneOf c d (pointed d row) opened_disk)
  open_failed stands = leaves_only-weaken s0 s2 _ _ (λ c. ⊎_elim (λ old. inl old) (λ mid. inr (inl mid)))
      (images2 d who direct 1 page (opened_words row) s0 s1 s2 leads direct_small (omega arith) untold here stands)

  module _ (led : IsDone who (pointer_word g page) (direct + 1) s1 s2) (s3 : State) (decided : Decided g who direct 0 page s2 s3) where
    led_here : IsDone who (pointer_word d.geometry page) (direct + 1) s1 s2
    led_here = subst (λ (k : Geometry). IsDone who (pointer_word k page) (direct + 1) s1 s2) (sym may.geometry) led

    decided_here : Decided d.geometry who direct 0 page s2 s3
    decided_here = subst (λ (k : Geometry). Decided k who direct 0 page s2 s3) (sym may.geometry) decided

    filled_row : Stands (SaysRun (slot_word d.geometry direct 1) (opened_words row)) s2
    filled_row = filled2 d who direct 1 page (opened_words row) s0 s1 s2 leads direct_small (omega arith) untold here led_here

    pub open_images : Stands (TableSays d) s0 → LeavesOnly s0 s3 (λ c. HoldsOneOf c d (pointed d row) opened_disk)
    open_images stands = images3 d who direct 1 page (opened_words row) s0 s1 s2 leads direct_small (omega arith) untold here led_here opened_disk
        (opened_words row)
        (slot_word d.geometry direct 0) page deciding filled_row s3 decided_here.only stands decided_here.leaves

    module _ (done : IsDone who (slot_word g direct 0) page s2 s3) where
      done_here : IsDone who (slot_word d.geometry direct 0) page s2 s3
      done_here = subst (λ (k : Geometry). IsDone who (slot_word k direct 0) page s2 s3) (sym may.geometry) done

      pub open_holds : HoldsTable s3.now opened_disk
      open_holds = holds3 d who direct 1 page (opened_words row) s0 s1 s2 leads direct_small (omega arith) untold here led_here opened_disk
          (opened_words row)
          (slot_word d.geometry direct 0) page deciding filled_row s3 decided_here.only done_here may.holds

      pub open_stands : Stands (TableSays d) s0 → Stands (TableSays opened_disk) s3
      open_stands = stands3 d who direct 1 page (opened_words row) s0 s1 s2 leads direct_small (omega arith) untold here led_here opened_disk
          (opened_words row)
          (slot_word d.geometry direct 0) page deciding filled_row s3 decided_here.only done_here

-- behind a direct slot, whose next word was this
module _ (g : Geometry) (accepted : IsAccepted g) (who direct slot page : ℕ) (print : List ℕ) (next : ℕ) (s0 s1 s2 : State)
    (indirect : directs g ≤ slot) (in_slots : slot < slots g)
    (next_is : next ≡ slice_index s0.now (slot_word g direct 5))
    (filled : Filled g who slot 0 page (linked_words (new_row slot print page) next ++ 0 ∷ 0 ∷ []) s0 s1 s2)
    (d : Disk) (may : MayPutAt d s0.now g direct slot print page) where
  abbrev chained_row : Row
  chained_row = new_row slot print page

  abbrev values : List ℕ
  values = linked_words chained_row next ++ 0 ∷ 0 ∷ []

  abbrev linked_disk : Disk
  linked_disk = linked_with d direct slot print page

  holder_accepted : IsAccepted d.geometry
  holder_accepted = subst IsAccepted (sym may.geometry) accepted

  holder_lt : direct < directs d.geometry
  holder_lt = subst (λ (k : Geometry). direct < directs k) (sym may.geometry) (put_direct_lt g direct slot page print s0.now d may)

  slot_lt : slot < slots d.geometry
  slot_lt = subst (λ (k : Geometry). slot < slots k) (sym may.geometry) in_slots

  above : directs d.geometry ≤ slot
  above = subst (λ (k : Geometry). directs k ≤ slot) (sym may.geometry) indirect

  filled_here : Filled d.geometry who slot 0 page values s0 s1 s2
  filled_here = subst (λ (k : Geometry). Filled k who slot 0 page values s0 s1 s2) (sym may.geometry) filled

  follows : next ≡ first_slot (chained direct (d.chain direct))
  follows = subst (λ (k : Geometry). next ≡ slice_index s0.now (slot_word k direct 5)) (sym may.geometry) next_is
      ∙ may.holds _ _ (inl (record { prefix = direct; direct = holder_lt; says = at_direct_next refl refl }))

  row_leads : MayPoint d page (slot + 1)
  row_leads = fresh_may_point d direct chained_row holder_accepted may.good may.fresh slot_lt

  slot_untold : IsUntold d (slot_word d.geometry slot 0) 8
  slot_untold = indirect_untold d may.good slot above slot_lt may.fresh.new_slot

  linking : IsOneTableWord (pointed d chained_row) linked_disk (slot_word d.geometry slot 0) (linked_words chained_row next)
      (slot_word d.geometry direct 5) slot
  linking = subst (λ (n : ℕ). IsOneTableWord (pointed d chained_row) linked_disk (slot_word d.geometry slot 0) (linked_words chained_row n)
      (slot_word d.geometry direct 5) slot) (sym follows)
      (link_decides (pointed d chained_row) direct chained_row (pointed_may_put d direct chained_row holder_accepted may.good may.fresh slot_lt) above
      slot_lt)

  pub link_failed : Stands (TableSays d) s0 → LeavesOnly s0 s2 (λ c. HoldsOneOf c d (pointed d chained_row) linked_disk)
  link_failed stands = leaves_only-weaken s0 s2 _ _ (λ c. ⊎_elim (λ old. inl old) (λ mid. inr (inl mid)))
      (images2 d who slot 0 page values s0 s1 s2 row_leads slot_lt (omega arith) slot_untold filled_here stands)

  module _ (led : IsDone who (pointer_word g page) (slot + 1) s1 s2) (s3 : State) (decided : Decided g who direct 5 slot s2 s3) where
    row_led : IsDone who (pointer_word d.geometry page) (slot + 1) s1 s2
    row_led = subst (λ (k : Geometry). IsDone who (pointer_word k page) (slot + 1) s1 s2) (sym may.geometry) led

    link_decided : Decided d.geometry who direct 5 slot s2 s3
    link_decided = subst (λ (k : Geometry). Decided k who direct 5 slot s2 s3) (sym may.geometry) decided

    filled_slot : Stands (SaysRun (slot_word d.geometry slot 0) (linked_words chained_row next)) s2
    filled_slot = front_stands (slot_word d.geometry slot 0) (linked_words chained_row next) (0 ∷ 0 ∷ []) s2
        (filled2 d who slot 0 page values s0 s1 s2 row_leads slot_lt (omega arith) slot_untold filled_here row_led)

    pub link_images : Stands (TableSays d) s0 → LeavesOnly s0 s3 (λ c. HoldsOneOf c d (pointed d chained_row) linked_disk)
    link_images stands = images3 d who slot 0 page values s0 s1 s2 row_leads slot_lt (omega arith) slot_untold filled_here row_led linked_disk
        (linked_words chained_row next)
        (slot_word d.geometry direct 5) slot linking filled_slot s3 link_decided.only stands link_decided.leaves

    module _ (done : IsDone who (slot_word g direct 5) slot s2 s3) where
      link_done : IsDone who (slot_word d.geometry direct 5) slot s2 s3
      link_done = subst (λ (k : Geometry). IsDone who (slot_word k direct 5) slot s2 s3) (sym may.geometry) done

      pub link_holds : HoldsTable s3.now linked_disk
      link_holds = holds3 d who slot 0 page values s0 s1 s2 row_leads slot_lt (omega arith) slot_untold filled_here row_led linked_disk
          (linked_words chained_row next)
          (slot_word d.geometry direct 5) slot linking filled_slot s3 link_decided.only link_done may.holds

      pub link_stands : Stands (TableSays d) s0 → Stands (TableSays linked_disk) s3
      link_stands = stands3 d who slot 0 page values s0 s1 s2 row_leads slot_lt (omega arith) slot_untold filled_here row_led linked_disk
          (linked_words chained_row next)
          (slot_word d.geometry direct 5) slot linking filled_slot s3 link_decided.only link_done

-- which words are stored to, and what others had flushed
module _ (g : Geometry) (who slot from page gate : ℕ) (values : List ℕ) (count : from + length values ≤ 8) (s0 s1 s2 : State)
    (fill : StoresRun who (slot_word g slot from) values s0 s1)
    (only2 : StoresOnly (λ a. a ≡ pointer_word g page) s1 s2) (keeps2 : KeepsFlushed (Others who) (λ a. a ≡ pointer_word g page) s1 s2) where
  abbrev W : ℕ → Type 0
  W = IsPutWord g slot page gate

  of_fill : (a : ℕ) → IsIn (slot_word g slot from) (length values) a → W a
  of_fill a h = inl (omega (arith, h.0), omega (arith, h.1, count))

  pub put_only_front : StoresOnly W s0 s2
  put_only_front = stores_only-then W s0 s1 s2 (stores_only-weaken _ W s0 s1 of_fill fill.only) (stores_only-weaken _ W s1 s2 (λ a e. inr (inl e))
      only2)

  pub put_keeps_front : KeepsFlushed (Others who) W s0 s2
  put_keeps_front = keeps-then (Others who) W s0 s1 s2
      (keeps-weaken Anyone (Others who) (IsIn (slot_word g slot from) (length values)) W s0 s1 (λ q other. tt) of_fill fill.keeps)
      (keeps-weaken (Others who) (Others who) _ W s1 s2 (λ q other. other) (λ a e. inr (inl e)) keeps2)

  module _ (s3 : State) (only3 : StoresOnly (λ a. a ≡ gate) s2 s3) (keeps3 : KeepsFlushed (Others who) (λ a. a ≡ gate) s2 s3) where
    pub put_only : StoresOnly W s0 s3
    put_only = stores_only-then W s0 s2 s3 put_only_front (stores_only-weaken _ W s2 s3 (λ a e. inr (inr e)) only3)

    pub put_keeps : KeepsFlushed (Others who) W s0 s3
    put_keeps = keeps-then (Others who) W s0 s2 s3 put_keeps_front
        (keeps-weaken (Others who) (Others who) _ W s2 s3 (λ q other. other) (λ a e. inr (inr e)) keeps3)
