-- Words hold a table, or have one fault.
use Rattle.std.proofs.Common.{◌≡◌, inl, inr, ℕ, ◌+◌, ◌<◌, List, refl, sym, ◌∙◌, ap, subst, arith}
use Rattle.std.specs.Prelude.{slice_index, Contains}
use Rattle.std.proofs.lemmas.Bool.{cases_lt}
use Rattle.std.proofs.lemmas.List.Elements.{All-contains}
use Rattle.pm_device.specs.Reading.{Reads}
use Rattle.pm_layout.specs.declared.Geometry.{Geometry}
use Rattle.pm_layout.specs.Geometry.{directs, slots, pointer_word}
use Rattle.dn_model.specs.Table.{Row, ChainSays, rows_from}
use Rattle.dn_model.specs.Disk.{Disk, rows}
use Rattle.dn_model.specs.Valid.{AreApart}
use Rattle.dn_model.specs.Faults.{TableFault}
use Rattle.law_unique.specs.Images.{AreRows}
use Rattle.law_unique.proofs.SameChain.{chain_one}
use Rattle.law_unique.proofs.SameParts.{rows-same}
use Rattle.law_unique.proofs.TableStops.{table_fault_one, table_fault_none}
use Rattle.fact_table.specs.Table.{Table, IsTable}
use Rattle.fact_table.specs.Loaded.{ReadsAs, IsBadPointer, PointerFault}
use Rattle.fact_table.specs.Laws.{HasOneFault, HasTableOrFault}
use Rattle.fact_table.specs.declared.load.FactFault.TheVariants.{BadTable, BadPointer, NoMemory}

module _ (g : Geometry) (words : List ℕ) where
  module _ (d : Disk) (read : ReadsAs g words d) where
    are : (q : ℕ) → q < directs g → AreRows g q (d.chain q)
    are = subst (λ (k : Geometry). (q : ℕ) → q < directs k → AreRows k q (d.chain q)) read.geometry (λ q lt k row got. read.valid q k row lt got)

    reads : (q : ℕ) → q < directs g → Reads (ChainSays g q (d.chain q)) words
    reads = subst (λ (k : Geometry). (q : ℕ) → q < directs k → Reads (ChainSays k q (d.chain q)) words) read.geometry
        (λ q lt a v says. read.chains a v (record { prefix = q; direct = lt; says = says }))

    pointer_is : (page : ℕ) → page < g.pages → slice_index words (pointer_word g page) ≡ d.pointer page
    pointer_is = subst (λ (k : Geometry). (page : ℕ) → page < k.pages → slice_index words (pointer_word k page) ≡ d.pointer page) read.geometry
        (λ page lt. read.pointers (pointer_word d.geometry page) (d.pointer page) (record { page = page; in_image = lt; place = refl; value = refl }))

    apart : AreApart (rows_from d.chain 0 (directs g))
    unfolding rows
    apart = subst (λ (k : Geometry). AreApart (rows_from d.chain 0 (directs k))) read.geometry read.apart

    -- rows that can be read have no fault
    no_table_fault : (slot : ℕ) → TableFault g words slot → ⊥
    no_table_fault = table_fault_none g words d.chain are reads apart

  -- two disks of these words have the same bad pointers
  bad_same : (d e : Disk) → ReadsAs g words d → ReadsAs g words e → (page : ℕ) → page < g.pages → IsBadPointer d page → IsBadPointer e page
  bad_same d e rd re page lt bad = by_bad bad
    where
      same_geometry : d.geometry ≡ e.geometry
      same_geometry = rd.geometry ∙ sym re.geometry

      same_pointer : d.pointer page ≡ e.pointer page
      same_pointer = sym (pointer_is d rd page lt) ∙ pointer_is e re page lt

      same_slots : slots d.geometry ≡ slots e.geometry
      same_slots = ap (λ (k : Geometry). slots k) same_geometry

      same_rows : rows d ≡ rows e
      same_rows = rows-same d e same_geometry (λ prefix small.
          let direct : prefix < directs g = subst (λ (k : Geometry). prefix < directs k) rd.geometry small in
          chain_one g prefix words (d.chain prefix) (e.chain prefix) direct (are d rd prefix direct) (are e re prefix direct)
          (reads d rd prefix direct) (reads e re prefix direct))

      by_bad : IsBadPointer d page → IsBadPointer e page
      by_bad (inl past) = inl (omega (arith, past, same_pointer, same_slots))
      by_bad (inr row) = inr (row.0, subst (λ (rs : List Row). Contains rs row.0) same_rows row.1, row.2, λ leads. row.3 (same_pointer ∙ leads))

  pointer_fault_one : (p q : ℕ) → PointerFault g words p → PointerFault g words q → p ≡ q
  pointer_fault_one p q x y = elim (cases_lt p q) [
    | inl lt ↦ absurd (y.least.least p lt (bad_same x.disk y.disk x.read y.read p x.least.below x.least.has))
    | inr ge ↦ elim (cases_lt q p) [
      | inl lt ↦ absurd (x.least.least q lt (bad_same y.disk x.disk y.read x.read q y.least.below y.least.has))
      | inr le ↦ omega arith
    ]
  ]

pub one_fault : HasOneFault
one_fault g words (BadTable s) (BadTable t) some other x y = ap BadTable (table_fault_one g words s t x y)
one_fault g words (BadTable s) (BadPointer q) some other x y = absurd (no_table_fault g words y.disk y.read s x)
one_fault g words (BadPointer p) (BadTable t) some other x y = absurd (no_table_fault g words x.disk x.read t y)
one_fault g words (BadPointer p) (BadPointer q) some other x y = ap BadPointer (pointer_fault_one g words p q x y)
one_fault g words NoMemory y some other x_is y_is = absurd (some refl)
one_fault g words (BadTable s) NoMemory some other x y = absurd (other refl)
one_fault g words (BadPointer p) NoMemory some other x y = absurd (other refl)

table_reads : (words : List ℕ) (t : Table) (d : Disk) → IsTable d words t → ReadsAs t.geometry words d
table_reads words t d is = record {
  geometry = is.geometry;
  chains = λ a v told. is.says a v (inl told);
  pointers = λ a v told. is.says a v
      (inr told);
  valid = is.good.table;
  apart = is.good.apart;
}

table_right : (words : List ℕ) (t : Table) (d : Disk) → IsTable d words t → (page : ℕ) → page < t.geometry.pages → IsBadPointer d page → ⊥
table_right words t d is page lt (inl past) =
    let small = subst (λ (k : Geometry). page < k.pages) (sym is.geometry) lt in let low = is.good.pointers page small in omega (arith, past, low)
table_right words t d is page lt (inr row) =
    row.3 (ap d.pointer (sym row.2) ∙ All-contains (λ (r : Row). d.pointer r.page ≡ r.slot + 1) (rows d) row.0 is.good.leads row.1)

pub table_or_fault : HasTableOrFault
table_or_fault words t (BadTable s) has some fault = no_table_fault t.geometry words has.disk (table_reads words t has.disk has.is) s fault
table_or_fault words t (BadPointer p) has some fault =
    table_right words t has.disk has.is p fault.least.below (bad_same t.geometry words fault.disk has.disk fault.read
    (table_reads words t has.disk has.is) p fault.least.below fault.least.has)
table_or_fault words t NoMemory has some fault = some refl
