use Rattle.std.proofs.Common.{◌≡◌, ◌∙◌, sym, ap, arith}
use Rattle.pm_layout.specs.Geometry.{slots}
use Rattle.fact_scan.specs.Seen.{as_row}
use Rattle.job_texts.proofs.CountedRows.{rows_below, rows_start, rows_found, rows_missed, rows_all, found_row, none_row}
use Rattle.job_texts.proofs.counting.count_rows.Goals as goal
use Rattle.job_texts.proofs.counting.count_rows.Goals.{then-is_some, else-is_some}

pub loop-slot-init : goal.loop-slot-init
loop-slot-init g c = record { counted = λ d volume. rows_start d; few = omega arith }

pub loop-slot-preserved : goal.loop-slot-preserved
loop-slot-preserved g c = elim c.if-is_some.branch [
  | then-is_some w ↦
      let of = found_row c.row_at.result _ (sym c.is_some.ensures ∙ w.if-is_some.true) c.row_at.ensures.found in
      record {
        counted = λ d volume. w.rows-is ∙ rows_found d c.args.v.now.parts (g.D.Pm.state c.args.v.now.device) volume c.loop-slot.rows
            c.loop-slot.slot (as_row of.0) (c.loop-slot.invariant.counted d volume) (of.1 d volume);
        few = omega (arith, w.rows-is, c.loop-slot.invariant.few);
      }
  | else-is_some w ↦
      let none = none_row c.row_at.result _ (sym c.is_some.ensures ∙ w.if-is_some.false) c.row_at.ensures.none in
      record {
        counted = λ d volume. w.rows-is ∙ rows_missed d c.args.v.now.parts (g.D.Pm.state c.args.v.now.device) volume c.loop-slot.rows
            c.loop-slot.slot (c.loop-slot.invariant.counted d volume) (none d volume);
        few = omega (arith, w.rows-is, c.loop-slot.invariant.few);
      }
]

pub returns : goal.returns
returns g c = λ d volume.
    let end : c.loop-slot.slot ≡ slots c.args.v.now.parts.geometry =
    omega (arith, c.loop-slot-test.false, c.loop-slot.auto.slot-end, c.slots-slot-end.ensures) in
    rows_all d c.args.v.now.parts (g.D.Pm.state c.args.v.now.device) volume c.loop-slot.rows
    (c.loop-slot.invariant.counted d volume ∙ ap (rows_below d) end)
