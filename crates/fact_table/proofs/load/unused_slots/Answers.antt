use Rattle.std.proofs.Common.{map, sym, subst}
use Rattle.fact_table.specs.Seen.{as_row}
use Rattle.fact_table.specs.Loaded.{AreUsed}
use Rattle.fact_table.proofs.Loading.{unused_ok}
use Rattle.fact_table.proofs.load.unused_slots.Goals as goal

pub returns : goal.returns
returns c =
    unused_ok c.args.g.now (map as_row c.args.rows.now) c.deref.result.now
    (subst (AreUsed c.args.g.now (map as_row c.args.rows.now)) (sym c.deref.ensures.value) c.in_ok-used.ensures) c.unmarked.result
    c.unmarked.ensures.all c.unmarked.ensures.free
