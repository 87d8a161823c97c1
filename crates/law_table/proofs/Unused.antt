-- A table says nothing of a slot that no row has.
use Rattle.std.proofs.Common.{◌≡◌, ◌≢◌, ◌⊎◌, inl, inr, ⊎_elim, ℕ, ◌-◌, ◌<◌, ◌≤◌, sym, ◌∙◌, arith}
use Rattle.std.specs.Prelude.{Contains}
use Rattle.pm_layout.specs.Geometry.{slot_word, directs, slots}
use Rattle.dn_model.specs.Table.{Row, ChainSays, at_direct_page, at_direct_next, at_row}
use Rattle.dn_model.specs.Disk.{Disk, TableSays, rows}
use Rattle.dn_model.specs.Valid.{HasGoodRows}
use Rattle.law_table.specs.Words.{IsUntold}
use Rattle.law_table.proofs.Rows.{all_listed}
use Rattle.law_table.proofs.TableRows.{in_table}
use Rattle.law_table.proofs.Slots.{AreElsewhere, slot_word_one, rows_elsewhere, pointer_above}

-- a word of a slot that no row has is no row's; a chain can tell it as its direct slot's alone
module _ (d : Disk) (slot : ℕ) (in_slots : slot < slots d.geometry) (none : (r : Row) → Contains (rows d) r → r.slot ≢ slot) (field a v : ℕ)
    (small : field < 8)
    (at_word : a ≡ slot_word d.geometry slot field) where
  no_row_has : (p : ℕ) → p < directs d.geometry → AreElsewhere slot (d.chain p)
  no_row_has p lt = all_listed (λ (r : Row). r.slot ≢ slot) (d.chain p) (λ r has. none r (in_table d p r lt has))

  said_of_chain : (p : ℕ) → p < directs d.geometry → ChainSays d.geometry p (d.chain p) a v
      → (slot < directs d.geometry) × ((field ≡ 0) ⊎ (field ≡ 5))
  said_of_chain p lt (at_direct_page place value) = let one = slot_word_one d.geometry slot p field 0 small (omega arith) (sym at_word ∙ place) in
      (omega (arith, one.0, lt), inl one.1)
  said_of_chain p lt (at_direct_next place value) = let one = slot_word_one d.geometry slot p field 5 small (omega arith) (sym at_word ∙ place) in
      (omega (arith, one.0, lt), inr one.1)
  said_of_chain p lt (at_row row) = absurd (rows_elsewhere d.geometry slot field (d.chain p) a v small (no_row_has p lt) row at_word)

  -- it is word 0 or 5 of the direct slot of a chain
  said_of_direct : TableSays d a v → (slot < directs d.geometry) × ((field ≡ 0) ⊎ (field ≡ 5))
  said_of_direct (inl told) = said_of_chain told.prefix told.direct told.says
  said_of_direct (inr told) = absurd (omega (arith, pointer_above d.geometry told.page slot field in_slots small, told.place, at_word))

module _ (d : Disk) (good : HasGoodRows d) (slot : ℕ) where
  pub indirect_untold : directs d.geometry ≤ slot → slot < slots d.geometry → ((r : Row) → Contains (rows d) r → r.slot ≢ slot)
      → IsUntold d (slot_word d.geometry slot 0) 8
  indirect_untold above in_slots none a v says inside =
      let field : ℕ = a - slot_word d.geometry slot 0 in
      let direct = said_of_direct d slot in_slots none field a v (omega (arith, inside.0, inside.1)) (omega (arith, inside.0, inside.1)) says in
      omega (arith, direct.0, above)

  pub closed_untold : slot < directs d.geometry → ((r : Row) → Contains (rows d) r → r.slot ≢ slot) → IsUntold d (slot_word d.geometry slot 1) 4
  closed_untold in_directs none a v says inside =
      let field : ℕ = a - slot_word d.geometry slot 0 in
      let direct = said_of_direct d slot (omega (arith, in_directs)) none field a v (omega (arith, inside.0, inside.1))
      (omega (arith, inside.0, inside.1)) says in
      ⊎_elim (λ (page : field ≡ 0). omega (arith, page, inside.0)) (λ (next : field ≡ 5). omega (arith, next, inside.1)) direct.1
