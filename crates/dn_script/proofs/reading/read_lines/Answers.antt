use Rattle.std.proofs.Common.{sym, arith}
use Rattle.std.proofs.lemmas.Bool.{eqb-true}
use Rattle.std.proofs.lemmas.Result.{err_from_is_err_and}
use Rattle.dn_script.proofs.JobLaws.{lines_go, lines_stop, lines_end}
use Rattle.dn_script.proofs.reading.read_lines.Goals as goal

pub returns-in_err-add_line : goal.returns-in_err-add_line
returns-in_err-add_line c =
    let e = c.in_err-add_line.field-0.0 in
    let p = err_from_is_err_and c.from_residual.result c.from_residual.ensures.1 in
    let stop = lines_stop c.args.form c.loop-rest.number c.loop-rest.rest.now _ c.first_line.result.1.now c.loop-rest.draft e _
    c.loop-rest.invariant.same c.first_line.ensures.lines c.in_err-add_line.ensures.err in
    rw (p.1, p.2) stop

pub loop-rest-preserved : goal.loop-rest-preserved
loop-rest-preserved c = record {
  same = lines_go c.args.form c.loop-rest.number c.loop-rest.rest.now _ c.first_line.result.1.now c.loop-rest.draft _ _ c.loop-rest.invariant.same
      c.first_line.ensures.lines c.in_ok-add_line.ensures.ok;
  fits = omega arith;
}

pub returns : goal.returns
returns c =
    lines_end c.args.form c.loop-rest.number c.loop-rest.rest.now c.loop-rest.draft _ c.loop-rest.invariant.same
    (eqb-true _ 0 (sym c.loop-rest-test.ensures))
