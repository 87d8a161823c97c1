use Rattle.std.proofs.Common.{◌≡◌, true, List, refl, ap, subst}
use Rattle.std.specs.Prelude.{◌↔◌, All}
use Rattle.fact_scan.specs.declared.row.Row.{Row}
use Rattle.dn_check.specs.declared.finding.Finding.TheVariants.{Sound}
use Rattle.dn_check.specs.RowCounts.{IsExactBy}
use Rattle.dn_check.proofs.Judging.{counted_as}
use Rattle.dn_check.proofs.judge.numbers.Goals as goal

pub returns : goal.returns
returns c = record {
  sorted = c.sorted.result.items;
  mapped = c.mapped_count.result;
  exact = c.are_exact-exact.result;
  is = ap (λ (rs : List Row). Sound c.args.logs.now.files c.args.logs.now.dying rs c.mapped_count.result c.args.free c.are_exact-exact.result)
      c.of.ensures;
  same = c.sorted.ensures.same;
  order = c.sorted.ensures.order;
  mapped_is = λ d in_logs counted logs. c.mapped_count.ensures d in_logs (counted_as d in_logs c.args.logs.now.mapped.items in_logs
      c.deref-3.result.now refl c.deref-3.ensures.value counted) logs;
  exact_is = subst (λ (rs : List Row). (c.are_exact-exact.result ≡ true) ↔ All (IsExactBy c.args.logs.now.mapped.items) rs) c.deref.ensures.value
      (rw (← c.deref-2.ensures.value) c.are_exact-exact.ensures);
}
