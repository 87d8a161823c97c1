-- The words to which calls of the table store are words of the table.
use Rattle.std.proofs.Common.{◌≡◌, inl, inr, ⊎_elim, ℕ, ◌<◌, Bool, List, sym, subst, arith}
use Rattle.std.specs.Prelude.{if◌then◌else◌}
use Rattle.std.proofs.lemmas.Bool.{cases_eq}
use Rattle.pm_device.specs.State.{State}
use Rattle.pm_device.specs.Settled.{StoresOnly, KeepsFlushed, Others}
use Rattle.pm_device.specs.Words.{IsIn}
use Rattle.pm_device.proofs.Only.{stores_only-weaken}
use Rattle.pm_device.proofs.Flushed.{keeps-weaken}
use Rattle.pm_layout.specs.declared.Geometry.{Geometry}
use Rattle.pm_layout.specs.Geometry.{slots, slot_word, pointer_word}
use Rattle.dn_model.specs.Table.{Row, prefix_of}
use Rattle.dn_model.specs.Disk.{Disk}
use Rattle.dn_model.specs.Valid.{HasGoodRows}
use Rattle.law_write.proofs.Unread.{slot_word_low, pointer_word_low}
use Rattle.law_table.specs.Changes.{slot_before}
use Rattle.law_table.proofs.Rows.{same_test, other_test}
use Rattle.law_table.proofs.Slots.{HasSlot}
use Rattle.law_table.proofs.TableRows.{of_chain, in_table, is_row, row_slot_small, stands_in_chain}
use Rattle.law_table.proofs.Taken.{before_owned}
use Rattle.fact_table.specs.Table.{Table, IsTable, IsAtSlot}
use Rattle.fact_counts.proofs.Counting.{row_small}
use Rattle.fact_changes.specs.Insertion.{MayInsert, IsInsertWord, IsTakenWord}
use Rattle.fact_changes.specs.Removal.{MayRemoveAt, deciding_word, IsRemoveWord}
use Rattle.fact_changes.specs.Stale.{IsStaleWord}
use Rattle.fact_changes.proofs.Slotted.{prefix_lt}
use Rattle.law_table.specs.Words.{IsTableWord}

module _ (g : Geometry) where
  slot_in : (slot i : ℕ) → slot < slots g → i < 8 → IsTableWord g (slot_word g slot i)
  slot_in slot i small lt = (omega arith, slot_word_low g slot i small lt)

  run_in : (slot a : ℕ) → slot < slots g → IsIn (slot_word g slot 0) 8 a → IsTableWord g a
  run_in slot a small inside = let high = slot_word_low g slot 7 small (omega arith) in (omega (arith, inside.0), omega (arith, inside.1, high))

  pointer_in : (page : ℕ) → page < g.pages → IsTableWord g (pointer_word g page)
  unfolding pointer_word
  pointer_in page lt = (omega arith, pointer_word_low g page lt)

-- where only these words of the table are stored to, only words of the table are, and what others had flushed elsewhere is flushed still
module _ (g : Geometry) (W : ℕ → Type 0) (within : (a : ℕ) → W a → IsTableWord g a) (s u : State) where
  pub only_table : StoresOnly W s u → StoresOnly (IsTableWord g) s u
  only_table only = stores_only-weaken W (IsTableWord g) s u within only

  pub keeps_table : (who : ℕ) → KeepsFlushed (Others who) W s u → KeepsFlushed (Others who) (IsTableWord g) s u
  keeps_table who keeps = keeps-weaken (Others who) (Others who) W (IsTableWord g) s u (λ q other. other) within keeps

-- a row's counts
pub counts_in : (d : Disk) (words : List ℕ) (t : Table) (is : IsTable d words t) (slot : ℕ) (row : Row) → IsAtSlot d slot row → (a : ℕ)
    → a ≡ slot_word t.geometry slot 4 → IsTableWord t.geometry a
counts_in d words t is slot row at a e = subst (IsTableWord t.geometry) (sym e) (slot_in t.geometry slot 4 (row_small d words t is slot row at)
    (omega arith))

-- a row that comes in
pub insert_in : (d : Disk) (words : List ℕ) (t t' : Table) (print : List ℕ) (page : ℕ) → MayInsert d words t print page → (a : ℕ)
    → IsInsertWord t t' print page a → IsTableWord t.geometry a
insert_in d words t t' print page may a =
    ⊎_elim (λ (direct : IsIn (slot_word t.geometry (prefix_of t.geometry print) 0) 8 a). run_in t.geometry (prefix_of t.geometry print) a
    (omega (arith, prefix_lt d words t print page may)) direct)
    (⊎_elim (λ (e : a ≡ pointer_word t.geometry page). subst (IsTableWord t.geometry) (sym e) (pointer_in t.geometry page may.data_page.high))
    (λ (taken : IsTakenWord t t' a). run_in t.geometry taken.slot a taken.takes.small taken.inside))

-- a row that goes
module _ (d : Disk) (row : Row) (words : List ℕ) (t : Table) (slot : ℕ) (may : MayRemoveAt d row words t slot) where
  abbrev good : HasGoodRows d
  good = may.table.good

  abbrev prefix : ℕ
  prefix = prefix_of d.geometry row.print

  abbrev before : ℕ
  before = slot_before prefix (d.chain prefix) row.slot

  before_in : before < slots d.geometry
  before_in =
      let stands = stands_in_chain d good row may.at_slot.there in
      ⊎_elim (λ (own : before ≡ prefix). omega (arith, own, stands.direct))
      (λ (has : HasSlot (d.chain prefix) before). omega (arith, has.2, row_slot_small d good has.0 (in_table d prefix has.0 stands.direct has.1)))
      (before_owned row.slot prefix (d.chain prefix))

  deciding_in : IsTableWord d.geometry (deciding_word d row)
  deciding_in = elim (cases_eq row.slot prefix) [
    | inl e ↦
        subst (λ (b : Bool). IsTableWord d.geometry (if b then slot_word d.geometry row.slot 0 else slot_word d.geometry before 5))
        (sym (same_test row.slot prefix e))
        (slot_in d.geometry row.slot 0 (row_slot_small d good row may.at_slot.there) (omega arith))
    | inr ne ↦
        subst (λ (b : Bool). IsTableWord d.geometry (if b then slot_word d.geometry row.slot 0 else slot_word d.geometry before 5))
        (sym (other_test row.slot prefix ne))
        (slot_in d.geometry before 5 before_in (omega arith))
  ]

  page_in : row.page < d.geometry.pages
  page_in = let found = of_chain d row may.at_slot.there in (is_row d good found.0 row found.1 found.2).data_page.high

  pub zero_in : (a : ℕ) → IsRemoveWord d row a → IsTableWord t.geometry a
  zero_in a word = subst (λ (g : Geometry). IsTableWord g a) may.table.geometry
      (⊎_elim (λ (e : a ≡ deciding_word d row). subst (IsTableWord d.geometry) (sym e) deciding_in)
      (λ (e : a ≡ pointer_word d.geometry row.page). subst (IsTableWord d.geometry) (sym e) (pointer_in d.geometry row.page page_in)) word)

-- pointers that are cleared
pub stale_in : (d : Disk) (g : Geometry) → d.geometry ≡ g → (a : ℕ) → IsStaleWord d a → IsTableWord g a
stale_in d g same a word = subst (λ (k : Geometry). IsTableWord k a) same
    (subst (IsTableWord d.geometry) (sym word.place) (pointer_in d.geometry word.page word.stale.in_image))
