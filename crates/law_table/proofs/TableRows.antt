-- Where the rows of a table stand.
use Rattle.std.proofs.Common.{
  ◌≡◌,
  ◌⊎◌,
  inl,
  inr,
  ⊎_elim,
  ℕ,
  ◌+◌,
  ◌-◌,
  ◌*◌,
  ◌^◌,
  ◌<◌,
  ◌≤◌,
  List,
  length,
  sym,
  ◌∙◌,
  ap,
  subst,
  arith,
  div-lt_iff_lt-mul,
}
use Rattle.std.specs.Prelude.{slice_index, All, Contains}
use Rattle.std.proofs.lemmas.Nat.{pow-add, pow_pos}
use Rattle.pm_layout.specs.declared.Geometry.{Geometry}
use Rattle.pm_layout.specs.Geometry.{prefix_bits, directs, slots}
use Rattle.pm_layout.proofs.Bits.{bits_of_within}
use Rattle.fingerprint.specs.Bytes.{be_number}
use Rattle.dn_model.specs.Table.{Row, prefix_of}
use Rattle.dn_model.specs.Disk.{Disk, rows}
use Rattle.dn_model.specs.Valid.{IsRow, HasGoodRows, IsValid}
use Rattle.law_table.specs.Rows.{StandsInChain}
use Rattle.law_table.proofs.Rows.{at_listed, chain_listed, listed_chain, distinct_same}

module _ (d : Disk) where
  -- a row of a chain is one of the table, and the other way round
  pub of_chain : (row : Row) → Contains (rows d) row → (p : ℕ) × (p < directs d.geometry) × Contains (d.chain p) row
  unfolding rows
  of_chain row has = let found = chain_listed d.chain 0 (directs d.geometry) row has in (found.0, omega (arith, found.1), found.2)

  pub in_table : (p : ℕ) (row : Row) → p < directs d.geometry → Contains (d.chain p) row → Contains (rows d) row
  unfolding rows
  in_table p row lt has = listed_chain d.chain 0 (directs d.geometry) p row (omega arith) (omega arith) has

module _ (d : Disk) (good : HasGoodRows d) where
  pub is_row : (p : ℕ) (row : Row) → p < directs d.geometry → (has : Contains (d.chain p) row) → IsRow d.geometry p has.0 row
  is_row p row lt has = good.table p has.0 row lt (at_listed (d.chain p) row has)

  -- its slot is the direct one of its prefix, or an indirect one
  pub row_slot : (p : ℕ) (row : Row) → p < directs d.geometry → Contains (d.chain p) row
      → (row.slot ≡ p) ⊎ ((directs d.geometry ≤ row.slot) × (row.slot < slots d.geometry))
  row_slot p row lt has = ⊎_elim (λ (own : (row.slot ≡ p) × (has.0 ≡ 0)). inl own.0)
      (λ (indirect : (directs d.geometry ≤ row.slot) × (row.slot < slots d.geometry)). inr indirect) (is_row p row lt has).place

  pub row_slot_small : (row : Row) → Contains (rows d) row → row.slot < slots d.geometry
  row_slot_small row has =
      let found = of_chain d row has in
      ⊎_elim (λ (own : row.slot ≡ found.0). omega (arith, own, found.1))
      (λ (indirect : (directs d.geometry ≤ row.slot) × (row.slot < slots d.geometry)). indirect.1) (row_slot found.0 row found.1 found.2)

  -- two rows of one slot are one row, so that no two chains have one
  pub one_chain : (p q : ℕ) (r s : Row) → p < directs d.geometry → q < directs d.geometry → Contains (d.chain p) r → Contains (d.chain q) s
      → r.slot ≡ s.slot → p ≡ q
  one_chain p q r s pl ql has_r has_s e =
      let same : r ≡ s = distinct_same (λ (x : Row). x.slot) (rows d) good.apart.slot r s (in_table d p r pl has_r) (in_table d q s ql has_s) e in
      sym (is_row p r pl has_r).prefix ∙ ap (λ (x : Row). prefix_of d.geometry x.print) same ∙ (is_row q s ql has_s).prefix

-- the rows of a valid disk make sense
pub good_of : (d : Disk) → IsValid d → HasGoodRows d
good_of d valid = record { table = valid.table; apart = valid.rows_apart; pointers = valid.pointers; leads = valid.leads }

-- a prefix is the number of a direct slot
two_bytes : (xs : List ℕ) → be_number xs 0 0 2 ≡ 256 * slice_index xs 0 + slice_index xs 1
unfolding be_number
two_bytes xs = omega arith

pub prefix_small : (g : Geometry) (print : List ℕ) → length print ≡ 20 → All (λ b. b < 256) print → prefix_of g print < directs g
prefix_small g print twenty bytes =
    let first : slice_index print 0 < 256 = bytes 0 0 (omega arith) in
    let second : slice_index print 1 < 256 = bytes 1 0 (omega arith) in
    let bits = bits_of_within g.pages in
    let split : 16 ≡ prefix_bits g + (16 - prefix_bits g) = omega (arith, bits.1) in
    let whole : 2 ^ 16 ≡ directs g * 2 ^ (16 - prefix_bits g) = ap (λ (n : ℕ). 2 ^ n) split ∙ pow-add 2 (prefix_bits g) (16 - prefix_bits g) in
    let small : be_number print 0 0 2 < directs g * 2 ^ (16 - prefix_bits g) = omega (arith, two_bytes print, whole) in
    (div-lt_iff_lt-mul (pow_pos (16 - prefix_bits g))).1 small

module _ (d : Disk) (good : HasGoodRows d) where
  pub stands_in_chain : (row : Row) → Contains (rows d) row → StandsInChain d (prefix_of d.geometry row.print) row
  stands_in_chain row has =
      let found = of_chain d row has in
      let prefix : prefix_of d.geometry row.print ≡ found.0 = (is_row d good found.0 row found.1 found.2).prefix in
      subst (λ (p : ℕ). StandsInChain d p row) (sym prefix)
      (record { direct = found.1; prefix_is = prefix; listed = found.2; slot = row_slot d good found.0 row found.1 found.2 })

  pub chain_holds : (prefix : ℕ) (row : Row) → prefix < directs d.geometry → Contains (d.chain prefix) row
      → Contains (rows d) row × (prefix_of d.geometry row.print ≡ prefix)
  chain_holds prefix row lt has = (in_table d prefix row lt has, (is_row d good prefix row lt has).prefix)
