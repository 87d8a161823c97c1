-- Where the rows of a table stand.
use Rattle.std.proofs.Common.{
  ◌≡◌,
  ◌≢◌,
  ◌⊎◌,
  inl,
  inr,
  ℕ,
  zero,
  suc,
  ◌+◌,
  ◌-◌,
  ◌<◌,
  ◌≤◌,
  Bool,
  true,
  false,
  List,
  [],
  ◌∷◌,
  length,
  refl,
  sym,
  ◌∙◌,
  ap,
  subst,
  arith,
}
use Rattle.std.specs.Prelude.{slice_index, slice_get, Some, Contains, if◌then◌else◌, ◌==◌}
use Rattle.std.proofs.lemmas.Bool.{cases_lt}
use Rattle.std.proofs.lemmas.Bool.Decides.{nat_tests}
use Rattle.std.proofs.lemmas.List.Elements.{All-contains}
use Rattle.pm_device.specs.Reading.{Reads}
use Rattle.pm_layout.specs.declared.Geometry.{Geometry}
use Rattle.pm_layout.specs.Geometry.{directs, slots, slot_word, pointer_word, first_data}
use Rattle.fingerprint.specs.Slot.{IsSlot, IsReadFrom}
use Rattle.fingerprint.specs.declared.slot.FactSlot.{FactSlot}
use Rattle.dn_model.specs.Table.{Row, ChainSays, at_direct_page, at_direct_next, at_row, first_slot, chained, direct_page_word, prefix_of}
use Rattle.dn_model.specs.Disk.{Disk, rows}
use Rattle.dn_model.specs.Valid.{IsRow}
use Rattle.fact_slot.specs.Words.{words_of}
use Rattle.fact_table.specs.Seen.{as_row}
use Rattle.fact_table.specs.Chained.{IsChained, IsChainFrom, IsFound, HasNoRow}
use Rattle.fact_table.specs.Table.{Table, IsTable, IsUnused, HasRow, IsAtSlot, HasNoneAt}
use Rattle.fact_scan.proofs.Listed.{place_of, listed, row_in_all, rows_before, IsInChain, chain_of}
use Rattle.fact_table.proofs.Chains.{says_field, behind}
use Rattle.fact_scan.proofs.Held.{HoldsRow, answer, held_page, held_print, answer_is}

-- a row stands in the direct slot, or behind it
pub head_or_behind : (p : ℕ) (rs : List Row) (k : ℕ) (row : Row) → slice_get rs k ≡ Some row → ((row.slot ≡ p) × (direct_page_word p rs ≡ row.page))
    ⊎ Contains (chained p rs) row
head_or_behind p [] k row got = cc
head_or_behind p (r ∷ rs) zero row got = by_test (r.slot == p) refl
  where
    same : r ≡ row
    same = cc

    by_test : (b : Bool) → (r.slot == p) ≡ b → ((row.slot ≡ p) × ((if b then r.page else 0) ≡ row.page)) ⊎ Contains (if b then rs else r ∷ rs) row
    by_test true t = let slot : r.slot ≡ row.slot = ap (λ (x : Row). x.slot) same in inl (grind (arith, nat_tests), ap (λ (x : Row). x.page) same)
    by_test false t = inr (0, omega arith, same)
head_or_behind p (r ∷ rs) (suc k) row got = by_test (r.slot == p)
  where
    by_test : (b : Bool) → ((row.slot ≡ p) × ((if b then r.page else 0) ≡ row.page)) ⊎ Contains (if b then rs else r ∷ rs) row
    by_test true = inr (listed rs k row got)
    by_test false = inr (listed (r ∷ rs) (suc k) row got)

-- the rows behind it are rows of the chain
pub behind_in : (p : ℕ) (rs : List Row) (row : Row) → Contains (chained p rs) row → (k : ℕ) × (slice_get rs k ≡ Some row)
behind_in p [] row there = absurd (omega (arith, there.1))
behind_in p (r ∷ rs) row there = by_test (r.slot == p) there
  where
    by_test : (b : Bool) → Contains (if b then rs else r ∷ rs) row → (k : ℕ) × (slice_get (r ∷ rs) k ≡ Some row)
    by_test true there = let at = place_of rs row there in (suc at.0, at.1)
    by_test false there = place_of (r ∷ rs) row there

-- a page word that isn't 0 is that of the direct slot's row
pub head_of : (p : ℕ) (rs : List Row) → direct_page_word p rs ≢ 0 → (row : Row) × (slice_get rs 0 ≡ Some row) × (row.slot ≡ p)
head_of p [] some = absurd (some refl)
head_of p (r ∷ rs) some = by_test (r.slot == p) refl some
  where
    by_test : (b : Bool) → (r.slot == p) ≡ b → (if b then r.page else 0) ≢ 0 → (row : Row) × (slice_get (r ∷ rs) 0 ≡ Some row) × (row.slot ≡ p)
    by_test true t some = (r, refl, grind (arith, nat_tests))
    by_test false t some = absurd (some refl)

first_data-some : (g : Geometry) → 0 < first_data g
unfolding first_data
first_data-some g = omega arith

module _ (d : Disk) (words : List ℕ) (t : Table) (is : IsTable d words t) where
  chain_reads : (p : ℕ) → p < directs t.geometry → Reads (ChainSays t.geometry p (d.chain p)) words
  chain_reads p = subst (λ (g : Geometry). p < directs g → Reads (ChainSays g p (d.chain p)) words) is.geometry
      (λ lt a v says. is.says a v (inl (record { prefix = p; direct = lt; says = says })))

  pub pointer_read : (page : ℕ) → page < t.geometry.pages → slice_index words (pointer_word t.geometry page) ≡ d.pointer page
  pointer_read page = subst (λ (g : Geometry). page < g.pages → slice_index words (pointer_word g page) ≡ d.pointer page) is.geometry
      (λ lt. is.says (pointer_word d.geometry page) (d.pointer page) (inr (record { page = page; in_image = lt; place = refl; value = refl })))

  pub pointer_small : (page : ℕ) → page < t.geometry.pages → d.pointer page ≤ slots t.geometry
  pointer_small page = subst (λ (g : Geometry). page < g.pages → d.pointer page ≤ slots g) is.geometry (is.good.pointers page)

  pub row_valid : (p : ℕ) → p < directs t.geometry → (k : ℕ) (row : Row) → slice_get (d.chain p) k ≡ Some row → IsRow t.geometry p k row
  row_valid p = subst (λ (g : Geometry). p < directs g → (k : ℕ) (row : Row) → slice_get (d.chain p) k ≡ Some row → IsRow g p k row) is.geometry
      (λ lt k row got. is.good.table p k row lt got)

  same_directs : directs d.geometry ≡ directs t.geometry
  same_directs = ap (λ (g : Geometry). directs g) is.geometry

  got_in_rows : (p : ℕ) → p < directs t.geometry → (k : ℕ) (row : Row) → slice_get (d.chain p) k ≡ Some row
      → slice_get (rows d) (rows_before d.chain 0 p + k) ≡ Some row
  unfolding rows
  got_in_rows p lt k row got =
      let here : 0 + p ≡ p = omega arith in
      row_in_all d.chain 0 (directs d.geometry) p k row (omega (arith, lt, same_directs)) (ap (λ (q : ℕ). slice_get (d.chain q) k) here ∙ got)

  pub in_rows : (p : ℕ) → p < directs t.geometry → (k : ℕ) (row : Row) → slice_get (d.chain p) k ≡ Some row → Contains (rows d) row
  in_rows p lt k row got = listed (rows d) (rows_before d.chain 0 p + k) row (got_in_rows p lt k row got)

  pub of_rows : (row : Row) → Contains (rows d) row → IsInChain d.chain (directs t.geometry) row
  unfolding rows
  of_rows row there =
      let found = chain_of d.chain 0 (directs d.geometry) row there in
      record { prefix = found.prefix; place = found.place; lt = omega (arith, found.lt, same_directs); got = found.got }

  chain_apart : (p : ℕ) → p < directs t.geometry → (j k : ℕ) (r s : Row) → slice_get (d.chain p) j ≡ Some r → slice_get (d.chain p) k ≡ Some s
      → r.slot ≡ s.slot → j ≡ k
  chain_apart p lt j k r s is_r is_s same =
      let both = is.good.apart.slot (rows_before d.chain 0 p + j) (rows_before d.chain 0 p + k) r s (got_in_rows p lt j r is_r)
      (got_in_rows p lt k s is_s) same in omega (arith, both)

  pub chain_behind : (p : ℕ) → p < directs t.geometry → IsChained t.geometry words (chained p (d.chain p))
  chain_behind p lt = behind t.geometry p lt words (d.chain p) (chain_reads p lt) (row_valid p lt) (chain_apart p lt)

  pub page_word : (p : ℕ) → p < directs t.geometry → slice_index words (slot_word t.geometry p 0) ≡ direct_page_word p (d.chain p)
  page_word p lt = chain_reads p lt _ _ (at_direct_page refl refl)

  pub next_word : (p : ℕ) → p < directs t.geometry → slice_index words (slot_word t.geometry p 5) ≡ first_slot (chained p (d.chain p))
  next_word p lt = chain_reads p lt _ _ (at_direct_next refl refl)

  holds : (p : ℕ) → p < directs t.geometry → (k : ℕ) (row : Row) → slice_get (d.chain p) k ≡ Some row → HoldsRow t.geometry words row.slot row
  holds p lt k row got j small = chain_reads p lt _ _ (at_row (says_field t.geometry (d.chain p) k row j small got))

  -- what is read of a row's slot
  module _ (slot : ℕ) (held : FactSlot) (read : IsReadFrom (words_of t.geometry words slot) held) (fits : IsSlot held) where
    pub row_page : (row : Row) → Contains (rows d) row → row.slot ≡ slot → (held.page ≡ row.page) × (0 < row.page)
    row_page row there at =
        let found = of_rows row there in
        let valid = row_valid found.prefix found.lt found.place row found.got in
        let stands = subst (λ (s : ℕ). HoldsRow t.geometry words s row) at (holds found.prefix found.lt found.place row found.got) in
        let some = first_data-some t.geometry in (
          held_page t.geometry words slot row held (record { twenty = valid.twenty; bytes = valid.bytes }) valid.uc stands read fits,
          omega (arith, some, valid.data_page.low),
        )

    pub row_print : (row : Row) → Contains (rows d) row → row.slot ≡ slot → held.print ≡ row.print
    row_print row there at =
        let found = of_rows row there in
        let valid = row_valid found.prefix found.lt found.place row found.got in
        let stands = subst (λ (s : ℕ). HoldsRow t.geometry words s row) at (holds found.prefix found.lt found.place row found.got) in
        held_print t.geometry words slot row held (record { twenty = valid.twenty; bytes = valid.bytes }) valid.uc stands read fits

    pub row_answered : (row : Row) → Contains (rows d) row → row.slot ≡ slot → as_row (answer slot held) ≡ row
    row_answered row there at =
        let found = of_rows row there in
        let valid = row_valid found.prefix found.lt found.place row found.got in
        let stands = subst (λ (s : ℕ). HoldsRow t.geometry words s row) at (holds found.prefix found.lt found.place row found.got) in
        answer_is t.geometry words slot row held (record { twenty = valid.twenty; bytes = valid.bytes }) valid.uc stands read fits at

    pub is_at_slot : (row : Row) → Contains (rows d) row → row.slot ≡ slot → IsAtSlot d slot (as_row (answer slot held))
    is_at_slot row there at = record { there = subst (Contains (rows d)) (sym (row_answered row there at)) there; slot_is = refl }

    -- the direct slot has a row where its page isn't 0
    pub direct_row : slot < directs t.geometry → held.page ≢ 0 → HasRow d slot
    direct_row lt some =
        let head = head_of slot (d.chain slot) (λ none. some (read.page ∙ page_word slot lt ∙ none)) in
        record { row = head.0; is = record { there = in_rows slot lt 0 head.0 head.1; slot_is = head.2 } }

    -- a slot that isn't free has one
    pub slot_row : slot < slots t.geometry → (IsUnused t slot → ⊥) → held.page ≢ 0 → HasRow d slot
    slot_row lt used some = elim (cases_lt slot (directs t.geometry)) [
      | inl direct ↦ direct_row direct some
      | inr indirect ↦
          let place : directs t.geometry + (slot - directs t.geometry) ≡ slot = omega arith in
          subst (HasRow d) place (is.taken (slot - directs t.geometry) (omega (arith, lt)) (λ free. used (indirect, free)))
    ]

    pub found_at : slot < slots t.geometry → (IsUnused t slot → ⊥) → held.page ≢ 0 → IsAtSlot d slot (as_row (answer slot held))
    found_at lt used some = let row = slot_row lt used some in is_at_slot row.row row.is.there row.is.slot_is

    pub none_at : held.page ≡ 0 → HasNoneAt d slot
    none_at none row there at = let page = row_page row there at in omega (arith, page.0, page.1)

  pub none_free : (slot : ℕ) → IsUnused t slot → HasNoneAt d slot
  none_free slot unused =
      let place : directs t.geometry + (slot - directs t.geometry) ≡ slot = omega (arith, unused.0) in
      subst (HasNoneAt d) place (is.free (slot - directs t.geometry) unused.1)

  -- a page's row stands where its pointer leads
  pub leads_to : (page : ℕ) → page < t.geometry.pages → (row : Row) → Contains (rows d) row → row.page ≡ page
      → slice_index words (pointer_word t.geometry page) ≡ row.slot + 1
  leads_to page lt row there same = pointer_read page lt ∙ ap d.pointer (sym same) ∙ All-contains (λ (r : Row). d.pointer r.page ≡ r.slot + 1)
      (rows d) row is.good.leads there

  -- two rows in one slot are one
  pub one_row : (r s : Row) → Contains (rows d) r → Contains (rows d) s → r.slot ≡ s.slot → r ≡ s
  one_row r s there_r there_s same =
      let at_r = place_of (rows d) r there_r in
      let at_s = place_of (rows d) s there_s in
      let here = is.good.apart.slot at_r.0 at_s.0 r s at_r.1 at_s.1 same in
      some_one r s (sym at_r.1 ∙ ap (slice_get (rows d)) here ∙ at_s.1)
    where
      some_one : (r s : Row) → Some r ≡ Some s → r ≡ s
      some_one r s e = cc

  -- the look-up of a fingerprint, whose prefix is p
  module _ (print : List ℕ) (p : ℕ) (prefix_is : p ≡ prefix_of t.geometry print) (direct : p < directs t.geometry)
      (held : FactSlot) (read : IsReadFrom (words_of t.geometry words p) held) (fits : IsSlot held) where
    pub chain_from : IsChainFrom t.geometry words held.next (chained p (d.chain p))
    chain_from = record { chained = chain_behind p direct; first_is = read.next ∙ next_word p direct }

    pub found_direct : held.page ≢ 0 → held.print ≡ print → IsFound (rows d) print (as_row (answer p held))
    found_direct some same = let row = direct_row p held read fits direct some in
        record { there = (is_at_slot p held read fits row.row row.is.there row.is.slot_is).there; print_is = same }

    pub found_behind : (row : Row) → IsFound (chained p (d.chain p)) print row → IsFound (rows d) print row
    found_behind row found = let at = behind_in p (d.chain p) row found.there in record {
      there = in_rows p direct at.0 row at.1;
      print_is = found.print_is;
    }

    pub none_found : (held.page ≢ 0 → held.print ≡ print → ⊥) → HasNoRow (chained p (d.chain p)) print → HasNoRow (rows d) print
    none_found not_direct not_behind row there same =
        let found = of_rows row there in
        let valid = row_valid found.prefix found.lt found.place row found.got in
        let here : found.prefix ≡ p = sym valid.prefix ∙ ap (prefix_of t.geometry) same ∙ sym prefix_is in
        let got : slice_get (d.chain p) found.place ≡ Some row = ap (λ (q : ℕ). slice_get (d.chain q) found.place) (sym here) ∙ found.got in
        elim (head_or_behind p (d.chain p) found.place row got) [
          | inl head ↦
              let page = row_page p held read fits row there head.0 in
              not_direct (λ none. omega (arith, page.0, page.1, none)) (row_print p held read fits row there head.0 ∙ same)
          | inr later ↦ not_behind row later same
        ]
