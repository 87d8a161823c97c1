-- The chains of all prefixes, one after another.
use Rattle.std.proofs.Common.{
  ◌≡◌,
  ◌≢◌,
  ◌⊎◌,
  inl,
  inr,
  ℕ,
  zero,
  suc,
  ◌+◌,
  ◌<◌,
  ◌≤◌,
  Bool,
  List,
  [],
  ◌++◌,
  refl,
  sym,
  ◌∙◌,
  ap,
  subst,
  arith,
  append-nil,
}
use Rattle.std.specs.Prelude.{slice_get, Some, if◌then◌else◌, ◌==◌}
use Rattle.std.proofs.lemmas.Bool.{cases_eq, eq-eqb, ne_eqb}
use Rattle.pm_device.specs.Reading.{Reads}
use Rattle.pm_layout.specs.declared.Geometry.{Geometry}
use Rattle.pm_layout.specs.Geometry.{directs}
use Rattle.dn_model.specs.Table.{Row, ChainSays, rows_from}
use Rattle.dn_model.specs.Valid.{IsRow, AreApart}
use Rattle.dn_model.specs.Faults.{IsReached, TableFault}
use Rattle.law_unique.proofs.SameParts.{rows_from-same}
use Rattle.law_unique.proofs.TableWalks.{rows_from-split}
use Rattle.law_table_read.specs.Tables.{TablesAreReadOrFaulty}
use Rattle.law_table_read.proofs.ChainRead.{walk_reads}
use Rattle.law_table_read.proofs.Walked.{Whole, walked, whole_walk}

-- these chains, but these rows for one prefix
abbrev put : (ℕ → List Row) → ℕ → List Row → ℕ → List Row
put chain n rows q = if q == n then rows else chain q

put_here : (chain : ℕ → List Row) (n : ℕ) (rows : List Row) → put chain n rows n ≡ rows
put_here chain n rows = ap (λ (b : Bool). if b then rows else chain n) (eq-eqb n n refl)

put_other : (chain : ℕ → List Row) (n : ℕ) (rows : List Row) (q : ℕ) → q ≢ n → put chain n rows q ≡ chain q
put_other chain n rows q ne = ap (λ (b : Bool). if b then rows else chain q) (ne_eqb q n ne)

module _ (g : Geometry) (c : List ℕ) where
  -- the chains of the prefixes before n are read
  record ReadBelow (n : ℕ) : Type 0 where
    chain : ℕ → List Row
    reads : (q : ℕ) → q < n → Reads (ChainSays g q (chain q)) c
    are_rows : (q k : ℕ) (row : Row) → q < n → slice_get (chain q) k ≡ Some row → IsRow g q k row
    apart : AreApart (rows_from chain 0 n)

  read_none : ReadBelow 0
  read_none = record {
    chain = λ q. [];
    reads = λ q lt. absurd (omega (arith, lt));
    are_rows = λ q k row lt at. absurd (omega (arith, lt));
    apart = record { slot = λ j k r s at. cc; print = λ j k r s at. cc; page = λ j k r s at. cc };
  }

  module _ (n : ℕ) (direct : n < directs g) (below : ReadBelow n) where
    starts : IsReached g c below.chain n []
    starts = record {
      front = record {
        direct = direct;
        before = λ q k row lt at. below.are_rows q k row lt at;
        read_before = below.reads;
        own = λ k row at. cc;
        apart = subst AreApart (sym (append-nil (rows_from below.chain 0 n))) below.apart;
        linked = λ k row next at after. cc;
      };
      first = λ row at. cc;
    }

    module _ (w : Whole g c below.chain n direct) where
      abbrev more : ℕ → List Row
      more = put below.chain n w.rows

      -- at each prefix so far the chain is the new one, or an old one
      by_prefix : (P : ℕ → List Row → Type 0) → P n w.rows → ((q : ℕ) → q < n → P q (below.chain q)) → (q : ℕ) → q < suc n → P q (more q)
      by_prefix P new old q lt = elim (cases_eq q n) [
        | inl e ↦ subst (λ (p : ℕ). P p (more p)) (sym e) (subst (P n) (sym (put_here below.chain n w.rows)) new)
        | inr ne ↦ subst (P q) (sym (put_other below.chain n w.rows q ne)) (old q (omega (arith, lt, ne)))
      ]

      rows_more : rows_from more 0 (suc n) ≡ rows_from below.chain 0 n ++ w.rows
      rows_more =
          let one : suc n ≡ n + 1 = omega arith in
          let z : 0 + n ≡ n = omega arith in
          let old : rows_from more 0 n ≡ rows_from below.chain 0 n = rows_from-same more below.chain 0 n (λ q low lt. put_other below.chain n w.rows q
          (λ e. omega (arith, lt, e))) in
          let new : rows_from more (0 + n) 1 ≡ w.rows = append-nil (more (0 + n)) ∙ ap more z ∙ put_here below.chain n w.rows in
          ap (rows_from more 0) one ∙ rows_from-split more 0 n 1 ∙ (λ i. old i ++ new i)

      read_more : ReadBelow (suc n)
      read_more = record {
        chain = more;
        reads = by_prefix (λ q rows. Reads (ChainSays g q rows) c) (walk_reads g c n direct w.rows (whole_walk g c below.chain n direct w) w.full)
            below.reads;
        are_rows = λ q k row lt at. by_prefix (λ p rows. (j : ℕ) (r : Row) → slice_get rows j ≡ Some r → IsRow g p j r)
            (λ j r here. (w.reached.front.own j r here).0) (λ p low j r here. below.are_rows p j r low here) q lt k row at;
        apart = subst AreApart (sym rows_more) w.reached.front.apart;
      }

  abbrev FaultOrBelow : ℕ → Type 0
  FaultOrBelow n = ((slot : ℕ) × TableFault g c slot) ⊎ ReadBelow n

  read_all : (n : ℕ) → n ≤ directs g → FaultOrBelow n
  read_all zero le = inr read_none
  read_all (suc n) le = by_below (read_all n (omega (arith, le)))
    where
      by_walk : (below : ReadBelow n) → ((slot : ℕ) × TableFault g c slot) ⊎ Whole g c below.chain n le → FaultOrBelow (suc n)
      by_walk below (inl fault) = inl fault
      by_walk below (inr w) = inr (read_more n le below w)

      by_below : FaultOrBelow n → FaultOrBelow (suc n)
      by_below (inl fault) = inl fault
      by_below (inr below) = by_walk below (walked g c below.chain n le (starts n le below))

pub tables_read_or_faulty : TablesAreReadOrFaulty
tables_read_or_faulty g c = elim (read_all g c (directs g) (omega arith)) [
  | inl fault ↦ inl fault
  | inr below ↦ inr (record {
    chain = below.chain;
    reads = below.reads;
    are_rows = λ q k row lt at. below.are_rows q k row lt at;
    apart = below.apart;
  })
]
