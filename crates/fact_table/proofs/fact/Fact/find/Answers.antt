use Rattle.std.proofs.Common.{sym, ap, subst, arith}
use Rattle.std.specs.Prelude.{Option, Some, None, IfSome, IfNone}
use Rattle.std.proofs.lemmas.Bool.{false≢true}
use Rattle.dn_model.specs.Table.{chained}
use Rattle.dn_model.specs.Disk.{rows}
use Rattle.fact_scan.specs.declared.row.Row.{Row}
use Rattle.fact_table.specs.Seen.{as_row}
use Rattle.fact_table.specs.Chained.{IsFound}
use Rattle.fact_table.specs.Table.{Table}
use Rattle.fact_table.proofs.Looked.{IsLookedUp, look_chain, look_direct, look_behind, look_none, look_cost}
use Rattle.fact_table.proofs.fact.Fact.find.Goals as goal

if_some : {X : Type 0} (o : Option X) (P Q : X → Type 0) → ((x : X) → P x → Q x) → IfSome o P → IfSome o Q
if_some None P Q gives fact = tt
if_some (Some x) P Q gives fact = gives x fact

if_none : {X : Type 0} (o : Option X) (P Q : Type 0) → (P → Q) → IfNone o P → IfNone o Q
if_none None P Q gives fact = gives fact
if_none (Some x) P Q gives fact = tt

pub returns-then-has_row-clause-found : goal.returns-then-has_row-clause-found
returns-then-has_row-clause-found g c = λ d is.
    let look : IsLookedUp (g.D.Pm.state c.args.device.now).now c.args.self.now c.args.print.now c.direct_of-direct.result c.self.inside.geometry c.read_direct-held.result =
    record {
      same = ap (λ (t : Table). t.geometry) c.self.view_is;
      prefix_is = c.direct_of-direct.ensures.slot;
      direct = c.direct_of-direct.ensures.direct;
      read = c.read_direct-held.ensures.read;
      fits = c.read_direct-held.ensures.fits;
    } in
    let both = c.has_row.ensures.0 c.if-has_row.true in
    subst (λ (r : Row). IsFound (rows d) c.args.print.now (as_row r)) (sym c.of_slot.ensures) (look_direct _ _ _ _ _ _ look d is both.0 both.1)

pub find_chained-requires-clause-chain : goal.find_chained-requires-clause-chain
find_chained-requires-clause-chain g c =
    let look : IsLookedUp (g.D.Pm.state c.args.device.now).now c.args.self.now c.args.print.now c.direct_of-direct.result c.self.inside.geometry c.read_direct-held.result =
    record {
      same = ap (λ (t : Table). t.geometry) c.self.view_is;
      prefix_is = c.direct_of-direct.ensures.slot;
      direct = c.direct_of-direct.ensures.direct;
      read = c.read_direct-held.ensures.read;
      fits = c.read_direct-held.ensures.fits;
    } in
    let table = c.requires.table in
    record {
      rows = chained c.direct_of-direct.result (table.disk.chain c.direct_of-direct.result);
      is = look_chain _ _ _ _ _ _ look table.disk
          table.is;
    }

pub returns-clause-found : goal.returns-clause-found
returns-clause-found g c =
    let look : IsLookedUp (g.D.Pm.state c.args.device.now).now c.args.self.now c.args.print.now c.direct_of-direct.result c.self.inside.geometry c.read_direct-held.result =
    record {
      same = ap (λ (t : Table). t.geometry) c.self.view_is;
      prefix_is = c.direct_of-direct.ensures.slot;
      direct = c.direct_of-direct.ensures.direct;
      read = c.read_direct-held.ensures.read;
      fits = c.read_direct-held.ensures.fits;
    } in
    if_some c.find_chained.result _ _
    (λ r found d is. look_behind _ _ _ _ _ _ look d is (as_row r) (found (chained c.direct_of-direct.result (d.chain c.direct_of-direct.result))
    (look_chain _ _ _ _ _ _ look d is)))
    c.find_chained.ensures.found

pub returns-clause-none : goal.returns-clause-none
returns-clause-none g c =
    let look : IsLookedUp (g.D.Pm.state c.args.device.now).now c.args.self.now c.args.print.now c.direct_of-direct.result c.self.inside.geometry c.read_direct-held.result =
    record {
      same = ap (λ (t : Table). t.geometry) c.self.view_is;
      prefix_is = c.direct_of-direct.ensures.slot;
      direct = c.direct_of-direct.ensures.direct;
      read = c.read_direct-held.ensures.read;
      fits = c.read_direct-held.ensures.fits;
    } in
    if_none c.find_chained.result _ _
    (λ none d is. look_none _ _ _ _ _ _ look d is (λ some same. false≢true (c.if-has_row.ensures.1 (some, same)))
    (none (chained c.direct_of-direct.result (d.chain c.direct_of-direct.result)) (look_chain _ _ _ _ _ _ look d is)))
    c.find_chained.ensures.none

pub returns-clause-cost : goal.returns-clause-cost
returns-clause-cost g c = λ d is.
    let look : IsLookedUp (g.D.Pm.state c.args.device.now).now c.args.self.now c.args.print.now c.direct_of-direct.result c.self.inside.geometry c.read_direct-held.result =
    record {
      same = ap (λ (t : Table). t.geometry) c.self.view_is;
      prefix_is = c.direct_of-direct.ensures.slot;
      direct = c.direct_of-direct.ensures.direct;
      read = c.read_direct-held.ensures.read;
      fits = c.read_direct-held.ensures.fits;
    } in
    let chain = c.find_chained.ensures.cost (chained c.direct_of-direct.result (d.chain c.direct_of-direct.result)) (look_chain _ _ _ _ _ _ look d is)
    in
    let length = look_cost _ _ _ _ _ _ look d is in
    omega (arith, chain, length, c.read_direct-held.ensures.one_step)
