use Rattle.std.proofs.Common.{◌+◌, sym, subst, arith}
use Rattle.fact_table.proofs.Loading.{HasUnmarked, unmarked-past, unmarked-more}
use Rattle.fact_table.proofs.load.unmarked.Goals as goal
use Rattle.fact_table.proofs.load.unmarked.Goals.{then-not-marked, else-not-marked}

pub loop-k-preserved : goal.loop-k-preserved
loop-k-preserved c = elim c.if-not-marked.branch [
  | then-not-marked w ↦ subst (HasUnmarked c.args.used.now (c.loop-k.k + 1)) (sym w.set-is)
      (unmarked-more c.args.used.now c.loop-k.k c.loop-k.set c.loop-k.invariant w.if-not-marked.true w.give_back.new.self
      w.give_back.ensures.gives_back)
  | else-not-marked w ↦ subst (HasUnmarked c.args.used.now (c.loop-k.k + 1)) (sym w.set-is)
      (unmarked-past c.args.used.now c.loop-k.k c.loop-k.set c.loop-k.invariant w.if-not-marked.false)
]

pub returns-clause-free : goal.returns-clause-free
returns-clause-free c = λ k. (
  λ in_set. let old = c.loop-k.invariant.unmarked k in_set in (omega (arith, old.0, c.loop-k.auto.k-end), old.1),
  λ is. c.loop-k.invariant.there k (omega (arith, is.0, c.loop-k-test.false)) is.1,
)
