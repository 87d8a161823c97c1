use Rattle.std.proofs.Common.{[], get_or, arith}
use Rattle.fact_scan.specs.declared.row.Row.{Row as RowValue}
use Rattle.fact_scan.proofs.Listed.{get_at}
use Rattle.table_repair.proofs.AllRows.{front_begins, has_next, next_images, next_only, next_quiet, next_front, front_ends}
use Rattle.table_repair.proofs.settle.settle_rows.Goals as goal

abbrev none : RowValue
none = record { slot = 0; print = []; page = 0; count = record { rfc = 0; uc = 0 } }

pub loop-row-init : goal.loop-row-init
loop-row-init g c = front_begins c.args.rows.now c.args.mapped.now c.args.fact.now (g.D.Pm.state c.args.device.now)
    (g.met.D.Pm.agree c.args.device.now)

pub settle_row-requires-clause-row : goal.settle_row-requires-clause-row
settle_row-requires-clause-row g c =
    let S = g.D.Pm.state in
    has_next c.args.rows.now c.args.mapped.now c.loop-row.row-index c.args.fact.now c.loop-row.fact (S c.args.device.now) (S c.loop-row.device)
    c.loop-row.invariant
    (get_or c.args.rows.now c.loop-row.row-index none) (get_at c.args.rows.now c.loop-row.row-index none (omega arith)) c.requires.table

pub settle_row-requires-clause-room : goal.settle_row-requires-clause-room
settle_row-requires-clause-room g c = omega (arith, c.loop-row.invariant.spare, c.requires.room)

pub returns-in_err-settle_row-clause-images : goal.returns-in_err-settle_row-clause-images
returns-in_err-settle_row-clause-images g c =
    let S = g.D.Pm.state in
    λ d is. next_images c.args.rows.now c.args.mapped.now c.loop-row.row-index c.args.fact.now c.loop-row.fact (S c.args.device.now)
    (S c.loop-row.device) c.loop-row.invariant
    (get_or c.args.rows.now c.loop-row.row-index none) (get_at c.args.rows.now c.loop-row.row-index none (omega arith)) d is
    (S c.settle_row.new.device) c.settle_row.ensures.images

pub returns-in_err-settle_row-clause-only : goal.returns-in_err-settle_row-clause-only
returns-in_err-settle_row-clause-only g c =
    let S = g.D.Pm.state in
    next_only c.args.rows.now c.args.mapped.now c.loop-row.row-index c.args.fact.now c.loop-row.fact (S c.args.device.now) (S c.loop-row.device)
    c.loop-row.invariant
    (get_or c.args.rows.now c.loop-row.row-index none) (get_at c.args.rows.now c.loop-row.row-index none (omega arith)) c.requires.table
    (S c.settle_row.new.device) c.settle_row.ensures.only

pub returns-in_err-settle_row-clause-spare : goal.returns-in_err-settle_row-clause-spare
returns-in_err-settle_row-clause-spare g c = omega (arith, c.loop-row.invariant.spare, c.settle_row.ensures.spare)

pub loop-row-preserved : goal.loop-row-preserved
loop-row-preserved g c =
    let S = g.D.Pm.state in
    record {
      spare = omega (arith, c.loop-row.invariant.spare, c.settle_row.ensures.spare);
      faults = omega (arith, c.loop-row.invariant.faults, c.settle_row.ensures.faults);
      only = next_only c.args.rows.now c.args.mapped.now c.loop-row.row-index c.args.fact.now c.loop-row.fact (S c.args.device.now)
          (S c.loop-row.device) c.loop-row.invariant
          (get_or c.args.rows.now c.loop-row.row-index none) (get_at c.args.rows.now c.loop-row.row-index none (omega arith)) c.requires.table
          (S c.settle_row.new.device) c.settle_row.ensures.only;
      still = λ still. c.in_ok-settle_row.ensures.still (c.loop-row.invariant.still still);
      quiet = λ d is exact. next_quiet c.args.rows.now c.args.mapped.now c.loop-row.row-index c.args.fact.now c.loop-row.fact (S c.args.device.now)
          (S c.loop-row.device) c.loop-row.invariant
          (get_or c.args.rows.now c.loop-row.row-index none) (get_at c.args.rows.now c.loop-row.row-index none (omega arith)) d is
          (S c.settle_row.new.device) c.settle_row.ensures.quiet exact;
      front = λ d is. next_front c.args.rows.now c.args.mapped.now c.loop-row.row-index c.args.fact.now c.loop-row.fact (S c.args.device.now)
          (S c.loop-row.device) c.loop-row.invariant
          (get_or c.args.rows.now c.loop-row.row-index none) (get_at c.args.rows.now c.loop-row.row-index none (omega arith)) d is
          (S c.settle_row.new.device) c.settle_row.new.fact c.settle_row.ensures.images c.in_ok-settle_row.ensures.done;
    }

pub returns-clause-images : goal.returns-clause-images
returns-clause-images g c = λ d is. (c.loop-row.invariant.front d is).images

pub returns-clause-spare : goal.returns-clause-spare
returns-clause-spare g c = omega (arith, c.loop-row.invariant.spare)

pub returns-clause-done : goal.returns-clause-done
returns-clause-done g c =
    let S = g.D.Pm.state in
    λ d is. front_ends c.args.rows.now c.args.mapped.now c.loop-row.row-index c.args.fact.now c.loop-row.fact (S c.args.device.now)
    (S c.loop-row.device) c.loop-row.invariant (omega arith) d is

pub returns-in_err-settle_row-clause-quiet : goal.returns-in_err-settle_row-clause-quiet
returns-in_err-settle_row-clause-quiet g c =
    let S = g.D.Pm.state in
    λ d is exact. next_quiet c.args.rows.now c.args.mapped.now c.loop-row.row-index c.args.fact.now c.loop-row.fact (S c.args.device.now)
    (S c.loop-row.device) c.loop-row.invariant
    (get_or c.args.rows.now c.loop-row.row-index none) (get_at c.args.rows.now c.loop-row.row-index none (omega arith)) d is
    (S c.settle_row.new.device) c.settle_row.ensures.quiet exact

pub returns-clause-quiet : goal.returns-clause-quiet
returns-clause-quiet g c = c.loop-row.invariant.quiet
