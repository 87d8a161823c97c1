use Rattle.dedupe_daemon.proofs.AheadLists.{copied_before, copied_now, ok_then}
use Rattle.dedupe_daemon.proofs.copies.push_copy.Goals as goal

pub returns-then-has : goal.returns-then-has
returns-then-has g c = λ pages is. copied_before (g.D.Pm.state c.args.v.now.device).now c.args.page c.args.batch.now pages is c.has.result
    c.has.ensures c.if-has.true

pub returns : goal.returns
returns g c = ok_then c.push.result _ _
    (λ done pushed pages is. copied_now (g.D.Pm.state c.args.v.now.device).now c.args.page c.args.batch.now pages is c.has.result c.has.ensures
    c.if-has.false c.in_ok-copy.copy c.in_ok-copy.ensures c.push.new.self pushed) c.push.ensures.pushed
