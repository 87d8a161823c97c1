-- A row without references goes out of the table by its slot, and the table that is kept in memory with it.
use Rattle.std.proofs.Common.{◌≡◌, ◌≢◌, inl, inr, ⊎_elim, ℕ, ◌+◌, ◌-◌, ◌*◌, ◌<◌, ◌≤◌, Bool, List, length, refl, sym, ◌∙◌, ap, subst, arith}
use Rattle.std.specs.Prelude.{Contains, if◌then◌else◌}
use Rattle.std.proofs.lemmas.Bool.{cases_eq}
use Rattle.pm_device.specs.State.{State}
use Rattle.pm_device.specs.Settled.{LeavesOnly, StoresOnly, KeepsFlushed, Others}
use Rattle.pm_device.specs.Reading.{Stands}
use Rattle.pm_device.proofs.Only.{stores_only-weaken}
use Rattle.pm_device.proofs.Flushed.{keeps-weaken}
use Rattle.pm_layout.specs.declared.Geometry.{Geometry}
use Rattle.pm_layout.specs.Geometry.{IsAccepted, slot_word, pointer_word, directs, slots}
use Rattle.dn_model.specs.Table.{Row, prefix_of, chained, direct_page_word}
use Rattle.dn_model.specs.Disk.{Disk, TableSays, rows}
use Rattle.dn_model.specs.Valid.{HasGoodRows}
use Rattle.law_table.specs.Changes.{removed, slot_before}
use Rattle.law_table.specs.Words.{HoldsTable}
use Rattle.law_table.specs.Rows.{StandsInChain, MayTakeRow, TakesRow}
use Rattle.law_table.proofs.Rows.{same_test, other_test, at_listed}
use Rattle.law_table.proofs.TableRows.{stands_in_chain, row_slot_small}
use Rattle.law_table.proofs.Pointed.{rows_repointed, pointed_good}
use Rattle.law_table.proofs.Gone.{takes_row, taken_may_clear}
use Rattle.fact_table.specs.Table.{Table, IsTable, HasRow, HasNoneAt, GivesBackSlot}
use Rattle.fact_table.proofs.Tables.{head_or_behind, chain_behind, next_word}
use Rattle.fact_rows.specs.Put.{HoldsOneOf}
use Rattle.fact_rows.specs.Gone.{
  MayTakeOut,
  CanTakeOut,
  MayUnlink,
  CanUnlink,
  cleared,
  IsGoneWord,
  MakesClosed,
  LeavesUnlinked,
  MakesUnlinked,
  SettlesUnlinked,
}
use Rattle.fact_changes.specs.Removal.{IsChainTo, HasChainTo, IsBefore, MayRemoveAt, deciding_word, IsRemoveWord}
use Rattle.fact_changes.proofs.SlotBefore.{before_behind}
use Rattle.fact_changes.proofs.Slotted.{table_of, accepted_disk}

module _ (d : Disk) (row : Row) (s : State) (t : Table) (slot : ℕ) (may : MayRemoveAt d row s.now t slot) where
  abbrev is : IsTable d s.now t
  is = may.table

  abbrev prefix : ℕ
  prefix = prefix_of d.geometry row.print

  stands_there : StandsInChain d prefix row
  stands_there = stands_in_chain d is.good row may.at_slot.there

  may_take : MayTakeRow d prefix row
  may_take = record { accepted = accepted_disk d s.now t is; good = is.good; direct = stands_there.direct; has = stands_there.listed }

  pub zero_small : slot < slots t.geometry
  zero_small = subst (λ (n : ℕ). n < slots t.geometry) may.at_slot.slot_is (subst (λ (g : Geometry). row.slot < slots g) is.geometry
      (row_slot_small d is.good row may.at_slot.there))

  -- the rows that are left
  pub rows_left : TakesRow row (rows d) (rows (cleared d row))
  rows_left = subst (λ (rs : List Row). TakesRow row (rows d) rs) (sym (rows_repointed (removed d row.slot) row.page 0))
      (takes_row d row is.good may.at_slot.there)

  pub good_left : HasGoodRows (cleared d row)
  good_left = pointed_good (removed d row.slot) row.page 0 (taken_may_clear d prefix row may_take)

  still : (other : ℕ) → other ≢ slot → HasRow d other → HasRow (cleared d row) other
  still other ne has = ⊎_elim (λ (e : has.row ≡ row). absurd (ne (sym has.is.slot_is ∙ ap (λ (r : Row). r.slot) e ∙ may.at_slot.slot_is)))
      (λ (left : Contains (rows (cleared d row)) has.row). record { row = has.row; is = record { there = left; slot_is = has.is.slot_is } })
      (rows_left.kept has.row has.is.there)

  none_left : (other : ℕ) → HasNoneAt d other → HasNoneAt (cleared d row) other
  none_left other none r has at = none r (rows_left.only r has).0 at

  -- its slot isn't kept as one without a row
  pub zero_taken : (k : ℕ) → directs t.geometry + k ≡ slot → ¬ Contains t.free.free k
  zero_taken k place has = is.free k has row may.at_slot.there (may.at_slot.slot_is ∙ sym place)

  module _ (news : List ℕ) (size : length news ≡ 512 * t.geometry.pages) (holds : HoldsTable news (cleared d row)) where
    pub direct_table : slot < directs t.geometry → IsTable (cleared d row) news t
    direct_table low = table_of (cleared d row) news t is.geometry is.accepted size holds good_left is.set
        (λ k has. none_left (directs t.geometry + k) (is.free k has)) (λ k lt not. still (directs t.geometry + k) (λ e. omega (arith, e, low))
        (is.taken k lt not))

    pub indirect_table : directs t.geometry ≤ slot → (t' : Table) → GivesBackSlot slot t t' → IsTable (cleared d row) news t'
    indirect_table high t' gives =
        let same = gives.geometry in
        table_of (cleared d row) news t' (is.geometry ∙ sym same) (subst IsAccepted (sym same) is.accepted)
        (size ∙ ap (λ (g : Geometry). 512 * g.pages) (sym same)) holds good_left
        (gives.gives_back.pages ∙ is.set ∙ ap (λ (g : Geometry). g.pages) (sym same))
        (λ k. subst (λ (g : Geometry). Contains t'.free.free k → HasNoneAt (cleared d row) (directs g + k)) (sym same) (free_now k))
        (λ k. subst (λ (g : Geometry). k < g.pages → ¬ Contains t'.free.free k → HasRow (cleared d row) (directs g + k)) (sym same) (taken_now k))
      where
        place : directs t.geometry + (slot - directs t.geometry) ≡ slot
        place = omega (arith, high)

        free_now : (k : ℕ) → Contains t'.free.free k → HasNoneAt (cleared d row) (directs t.geometry + k)
        free_now k has = elim (cases_eq k (slot - directs t.geometry)) [
          | inl e ↦ λ r there at. (rows_left.only r there).1 (at ∙ ap (λ (q : ℕ). directs t.geometry + q) e ∙ place ∙ sym may.at_slot.slot_is)
          | inr ne ↦ none_left (directs t.geometry + k) (is.free k ((gives.gives_back.others k ne).0 has))
        ]

        taken_now : (k : ℕ) → k < t.geometry.pages → ¬ Contains t'.free.free k → HasRow (cleared d row) (directs t.geometry + k)
        taken_now k lt not = elim (cases_eq k (slot - directs t.geometry)) [
          | inl e ↦ absurd (not (subst (Contains t'.free.free) (sym e) gives.gives_back.there))
          | inr ne ↦ still (directs t.geometry + k) (λ e. ne (omega (arith, e, place)))
              (is.taken k lt (λ c. not ((gives.gives_back.others k ne).1 c)))
        ]

  -- where the code holds the geometry and the page
  module _ (k : Geometry) (same : k ≡ t.geometry) (page : ℕ) (page_is : row.page ≡ page) where
    there : d.geometry ≡ k
    there = is.geometry ∙ sym same

    pub zero_pointer : pointer_word k page ≡ pointer_word d.geometry row.page
    zero_pointer = ap (λ (p : ℕ). pointer_word k p) (sym page_is) ∙ ap (λ (g : Geometry). pointer_word g row.page) (sym there)

    take_at : (p : ℕ) → p ≡ prefix → MayTakeOut d row s.now k p slot page
    take_at p e = record {
      geometry = there;
      holds = is.says;
      may = subst (λ (q : ℕ). MayTakeRow d q row) (sym e) may_take;
      slot_is = may.at_slot.slot_is;
      page_is = page_is;
    }

    -- stores to its words are stores to those of the removal
    module _ (gate : ℕ) (gate_is : gate ≡ deciding_word d row) where
      of_gone : (a : ℕ) → IsGoneWord k gate page a → IsRemoveWord d row a
      of_gone a = ⊎_elim (λ (e : a ≡ gate). inl (e ∙ gate_is)) (λ (e : a ≡ pointer_word k page). inr (e ∙ zero_pointer))

      pub zero_only : (u : State) → StoresOnly (IsGoneWord k gate page) s u → StoresOnly (IsRemoveWord d row) s u
      zero_only u only = stores_only-weaken _ _ s u of_gone only

      pub zero_keeps : (who : ℕ) (u : State) → KeepsFlushed (Others who) (IsGoneWord k gate page) s u → KeepsFlushed (Others who) (IsRemoveWord d row)
          s u
      zero_keeps who u keeps = keeps-weaken (Others who) (Others who) _ _ s u (λ q other. other) of_gone keeps

    -- in the direct slot
    module _ (low : slot < directs k) where
      slot_prefix : slot ≡ prefix
      slot_prefix = ⊎_elim (λ (own : row.slot ≡ prefix). sym may.at_slot.slot_is ∙ own)
          (λ (high : (directs d.geometry ≤ row.slot) × (row.slot < slots d.geometry)).
          let far : directs k ≤ row.slot = subst (λ (g : Geometry). directs g ≤ row.slot) there high.0 in
          absurd (omega (arith, far, may.at_slot.slot_is, low))) stands_there.slot

      pub direct_take : MayTakeOut d row s.now k slot slot page
      direct_take = take_at slot slot_prefix

      pub direct_can : CanTakeOut s.now k slot slot page
      direct_can = record { disk = d; row = row; may = direct_take }

      pub direct_gate : slot_word k slot 0 ≡ deciding_word d row
      direct_gate =
          ap (λ (q : ℕ). slot_word k q 0) (sym may.at_slot.slot_is) ∙ ap (λ (g : Geometry). slot_word g row.slot 0) (sym there)
          ∙ ap (λ (b : Bool). if b then slot_word d.geometry row.slot 0 else slot_word d.geometry (slot_before prefix (d.chain prefix) row.slot) 5)
          (sym (same_test row.slot prefix (may.at_slot.slot_is ∙ slot_prefix)))

      pub direct_made : (u : State) → length u.now ≡ length s.now → MakesClosed k slot page s u → IsTable (cleared d row) u.now t
      direct_made u long makes = direct_table u.now (long ∙ is.size) (makes d row direct_take) (subst (λ (g : Geometry). slot < directs g) same low)

    -- behind it
    module _ (high : directs k ≤ slot) (direct : ℕ) (direct_is : direct ≡ prefix) where
      direct_lt : direct < directs t.geometry
      direct_lt = subst (λ (g : Geometry). direct < directs g) is.geometry (subst (λ (p : ℕ). p < directs d.geometry) (sym direct_is)
          stands_there.direct)

      other : slot ≢ direct
      other e = omega (arith, e, direct_lt, subst (λ (g : Geometry). directs g ≤ slot) same high)

      chained_here : IsChainTo t.geometry s.now direct slot (chained direct (d.chain direct))
      chained_here =
          let listed : Contains (d.chain direct) row = subst (λ (p : ℕ). Contains (d.chain p) row) (sym direct_is) stands_there.listed in
          record {
            from = record { chained = chain_behind d s.now t is direct direct_lt; first_is = next_word d s.now t is direct direct_lt };
            row = row;
            there = ⊎_elim (λ (head : (row.slot ≡ direct) × (direct_page_word direct (d.chain direct) ≡ row.page)). absurd
                (other (sym may.at_slot.slot_is ∙ head.0)))
                (λ (later : Contains (chained direct (d.chain direct)) row). later) (head_or_behind direct (d.chain direct) listed.0 row
                (at_listed (d.chain direct) row listed));
            slot_is = may.at_slot.slot_is;
          }

      pub behind_chain : IsChainTo k s.now direct slot (chained direct (d.chain direct))
      behind_chain = subst (λ (g : Geometry). IsChainTo g s.now direct slot (chained direct (d.chain direct))) (sym same) chained_here

      pub behind_has : HasChainTo k s.now direct slot
      behind_has = record { rows = chained direct (d.chain direct); is = behind_chain }

      module _ (before : ℕ) (is_before : IsBefore k s.now direct slot before) where
        before_at : before ≡ slot_before prefix (d.chain prefix) row.slot
        before_at =
            is_before (chained direct (d.chain direct)) behind_chain ∙ before_behind direct slot other (d.chain direct)
            ∙ ap (λ (q : ℕ). slot_before direct (d.chain direct) q) (sym may.at_slot.slot_is) ∙ ap (λ (p : ℕ). slot_before p (d.chain p) row.slot)
            direct_is

        pub behind_may : MayUnlink d row prefix s.now k before slot page
        behind_may = record { take = take_at prefix refl; before_is = before_at }

        pub behind_can : CanUnlink s.now k before slot page
        behind_can = record { disk = d; row = row; prefix = prefix; may = behind_may }

        pub behind_gate : slot_word k before 5 ≡ deciding_word d row
        behind_gate =
            ap (λ (q : ℕ). slot_word k q 5) before_at ∙ ap (λ (g : Geometry). slot_word g (slot_before prefix (d.chain prefix) row.slot) 5)
            (sym there)
            ∙ ap (λ (b : Bool). if b then slot_word d.geometry row.slot 0 else slot_word d.geometry (slot_before prefix (d.chain prefix) row.slot) 5)
            (sym (other_test row.slot prefix (λ e. other (sym may.at_slot.slot_is ∙ e ∙ sym direct_is))))

        pub behind_images : (u : State) → LeavesUnlinked k before slot page s u → Stands (TableSays d) s
            → LeavesOnly s u (λ c. HoldsOneOf c d (removed d row.slot) (cleared d row))
        behind_images u leaves = leaves d row prefix behind_may

        pub behind_settles : (u : State) → SettlesUnlinked k before slot page s u → Stands (TableSays d) s → Stands (TableSays (cleared d row)) u
        behind_settles u settles = settles d row prefix behind_may

        pub behind_made : (u : State) → length u.now ≡ length s.now → MakesUnlinked k before slot page s u → (t' : Table) → GivesBackSlot slot t t'
            → IsTable (cleared d row) u.now t'
        behind_made u long makes t' gives = indirect_table u.now (long ∙ is.size) (makes d row prefix behind_may)
            (subst (λ (g : Geometry). directs g ≤ slot) same high) t' gives
