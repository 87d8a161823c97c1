use Rattle.std.proofs.Common.{sym, ◌∙◌}
use Rattle.fact_changes.proofs.Staled.{stale_never, stale_answer}
use Rattle.fact_changes.proofs.stale.is_stale.Goals as goal

pub returns-then-is_some : goal.returns-then-is_some
returns-then-is_some g c = record {
  stale = λ d is.
      stale_answer d (g.D.Pm.state c.args.device.now).now c.args.fact.now is c.geometry.result c.geometry.ensures c.args.page c.requires.page
      c.entry_of.result c.by_page.result c.is_none.result (sym c.is_some.ensures ∙ c.if-is_some.true)
      c.entry_of.ensures.none.1 c.is_none.ensures c.by_page.ensures.none c.by_page.ensures.found;
}

pub returns-else-is_some : goal.returns-else-is_some
returns-else-is_some g c = record {
  stale = λ d is.
      stale_never d (g.D.Pm.state c.args.device.now).now c.args.fact.now is c.geometry.result c.geometry.ensures c.args.page c.requires.page
      c.entry_of.result c.is_some.result c.is_some.ensures c.if-is_some.false c.entry_of.ensures.none.0;
}
