use Rattle.std.proofs.Common.{sym, subst, arith}
use Rattle.std.proofs.lemmas.Bool.{false≢true}
use Rattle.fact_scan.specs.declared.row.Row.{Row}
use Rattle.fact_table.specs.Seen.{as_row}
use Rattle.fact_table.specs.Chained.{IsFound}
use Rattle.fact_table.proofs.Search.{walk_begins, walk_ends, walk_over, slot_low, slot_high, more, walk_found, walk_on}
use Rattle.fact_table.proofs.chain.find_chained.Goals as goal

pub loop-i-init : goal.loop-i-init
loop-i-init g c = record {
  steps_are = omega arith;
  walked = λ rows is. walk_begins c.args.g.now (g.D.Pm.state c.args.device.now).now c.args.first
      c.args.print.now rows is;
}

pub returns-then-slot-eq0-clause-none : goal.returns-then-slot-eq0-clause-none
returns-then-slot-eq0-clause-none g c = λ rows is.
    walk_ends c.args.g.now (g.D.Pm.state c.args.device.now).now c.args.first c.args.print.now rows is c.loop-i._i c.loop-i.slot
    (c.loop-i.invariant.walked rows is) c.if-slot-eq0.true

pub returns-then-slot-eq0-clause-cost : goal.returns-then-slot-eq0-clause-cost
returns-then-slot-eq0-clause-cost g c = λ rows is. omega (arith, c.loop-i.invariant.steps_are, (c.loop-i.invariant.walked rows is).within)

pub read_chain-held-requires-clause-indirect : goal.read_chain-held-requires-clause-indirect
read_chain-held-requires-clause-indirect g c =
    let chain = c.requires.chain in
    slot_low c.args.g.now (g.D.Pm.state c.args.device.now).now c.args.first c.args.print.now chain.rows chain.is c.loop-i._i c.loop-i.slot
    (c.loop-i.invariant.walked chain.rows chain.is) c.if-slot-eq0.false

pub read_chain-held-requires-clause-slot : goal.read_chain-held-requires-clause-slot
read_chain-held-requires-clause-slot g c =
    let chain = c.requires.chain in
    slot_high c.args.g.now (g.D.Pm.state c.args.device.now).now c.args.first c.args.print.now chain.rows chain.is c.loop-i._i c.loop-i.slot
    (c.loop-i.invariant.walked chain.rows chain.is) c.if-slot-eq0.false

pub returns-then-has_print-clause-found : goal.returns-then-has_print-clause-found
returns-then-has_print-clause-found g c = λ rows is.
    subst (λ (r : Row). IsFound rows c.args.print.now (as_row r)) (sym c.of_slot.ensures)
    (walk_found c.args.g.now (g.D.Pm.state c.args.device.now).now c.args.first c.args.print.now rows is c.loop-i._i c.loop-i.slot
    (c.loop-i.invariant.walked rows is) c.if-slot-eq0.false
    c.read_chain-held.result c.read_chain-held.ensures.read c.read_chain-held.ensures.fits (c.has_print.ensures.0 c.if-has_print.true))

pub returns-then-has_print-clause-cost : goal.returns-then-has_print-clause-cost
returns-then-has_print-clause-cost g c = λ rows is.
    let lt = more c.args.g.now (g.D.Pm.state c.args.device.now).now c.args.first c.args.print.now rows is c.loop-i._i c.loop-i.slot
    (c.loop-i.invariant.walked rows is) c.if-slot-eq0.false in
    omega (arith, c.loop-i.invariant.steps_are, c.read_chain-held.ensures.one_step)

pub loop-i-preserved : goal.loop-i-preserved
loop-i-preserved g c = record {
  steps_are = omega (arith, c.loop-i.invariant.steps_are, c.read_chain-held.ensures.one_step);
  walked = λ rows is.
      walk_on c.args.g.now (g.D.Pm.state c.args.device.now).now c.args.first c.args.print.now rows is c.loop-i._i c.loop-i.slot
      (c.loop-i.invariant.walked rows is) c.if-slot-eq0.false
      c.read_chain-held.result c.read_chain-held.ensures.read c.read_chain-held.ensures.fits (λ same. false≢true (c.if-has_print.ensures.1 same));
}

pub returns-clause-none : goal.returns-clause-none
returns-clause-none g c = λ rows is.
    walk_over c.args.g.now (g.D.Pm.state c.args.device.now).now c.args.first c.args.print.now rows is c.loop-i._i c.loop-i.slot
    (c.loop-i.invariant.walked rows is) (omega arith)

pub returns-clause-cost : goal.returns-clause-cost
returns-clause-cost g c = λ rows is. omega (arith, c.loop-i.invariant.steps_are, (c.loop-i.invariant.walked rows is).within)
