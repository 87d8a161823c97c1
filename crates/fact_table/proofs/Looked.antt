-- The look-up of a fingerprint, in the geometry that the code holds.
use Rattle.std.proofs.Common.{◌≡◌, ◌≢◌, ℕ, ◌<◌, ◌≤◌, List, length, sym, ◌∙◌, ap, subst}
use Rattle.pm_layout.specs.declared.Geometry.{Geometry}
use Rattle.pm_layout.specs.Geometry.{directs}
use Rattle.fingerprint.specs.Slot.{IsSlot, IsReadFrom}
use Rattle.fingerprint.specs.declared.slot.FactSlot.{FactSlot}
use Rattle.dn_model.specs.Table.{Row, prefix_of, chained}
use Rattle.dn_model.specs.Disk.{Disk, rows}
use Rattle.fact_slot.specs.Words.{words_of}
use Rattle.fact_table.specs.Seen.{as_row}
use Rattle.fact_table.specs.Chained.{IsChainFrom, behind_direct, IsFound, HasNoRow}
use Rattle.fact_table.specs.Table.{Table, IsTable}
use Rattle.fact_scan.proofs.Held.{answer}
use Rattle.fact_table.proofs.Tables.{chain_from, found_direct, found_behind, none_found}

-- the direct slot of the fingerprint's prefix was read
pub record IsLookedUp (words : List ℕ) (t : Table) (print : List ℕ) (p : ℕ) (inside : Geometry) (held : FactSlot) : Type 0 where
  pub same : inside ≡ t.geometry
  pub prefix_is : p ≡ prefix_of inside print
  pub direct : p < directs inside
  pub read : IsReadFrom (words_of inside words p) held
  pub fits : IsSlot held

module _ (words : List ℕ) (t : Table) (print : List ℕ) (p : ℕ) (inside : Geometry) (held : FactSlot) (look : IsLookedUp words t print p inside held)
    (d : Disk) (is : IsTable d words t) where
  prefix_here : p ≡ prefix_of t.geometry print
  prefix_here = look.prefix_is ∙ ap (λ (g : Geometry). prefix_of g print) look.same

  direct_here : p < directs t.geometry
  direct_here = subst (λ (g : Geometry). p < directs g) look.same look.direct

  read_here : IsReadFrom (words_of t.geometry words p) held
  read_here = subst (λ (g : Geometry). IsReadFrom (words_of g words p) held) look.same look.read

  pub look_chain : IsChainFrom inside words held.next (chained p (d.chain p))
  look_chain = subst (λ (g : Geometry). IsChainFrom g words held.next (chained p (d.chain p))) (sym look.same)
      (chain_from d words t is print p prefix_here direct_here held read_here look.fits)

  pub look_direct : held.page ≢ 0 → held.print ≡ print → IsFound (rows d) print (as_row (answer p held))
  look_direct = found_direct d words t is print p prefix_here direct_here held read_here look.fits

  pub look_behind : (row : Row) → IsFound (chained p (d.chain p)) print row → IsFound (rows d) print row
  look_behind = found_behind d words t is print p prefix_here direct_here held read_here look.fits

  pub look_none : (held.page ≢ 0 → held.print ≡ print → ⊥) → HasNoRow (chained p (d.chain p)) print → HasNoRow (rows d) print
  look_none = none_found d words t is print p prefix_here direct_here held read_here look.fits

  pub look_cost : length (chained p (d.chain p)) ≡ behind_direct t.geometry d.chain print
  look_cost = ap (λ (q : ℕ). length (chained q (d.chain q))) prefix_here
