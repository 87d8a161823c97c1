use Rattle.std.proofs.Common.{ℕ, subst, arith}
use Rattle.recovery.specs.Tables.{TablesTo}
use Rattle.recovery.proofs.Making.{tables-none, tables-next, all_pages}
use Rattle.recovery.proofs.tables.make_tables.Goals as goal

pub loop-page-init : goal.loop-page-init
loop-page-init g c = tables-none c.args.g.now 16 (g.D.Pm.state c.args.device.now) (g.met.D.Pm.agree c.args.device.now) c.requires.flushed

pub loop-page-preserved : goal.loop-page-preserved
loop-page-preserved g c =
    let S = g.D.Pm.state in
    tables-next c.args.g.now 16 c.loop-page.page (S c.args.device.now) (S c.loop-page.device) (S c.put_page.new.device) c.table_page-words.result
    c.loop-page.auto.page c.loop-page.invariant c.put_page.ensures.only
    c.table_page-words.ensures.words c.put_page.ensures.reads c.put_page.ensures.flushed c.put_page.ensures.spare c.put_page.ensures.faults

pub returns-clause-made : goal.returns-clause-made
returns-clause-made g c =
    let S = g.D.Pm.state in
    let done = all_pages c.args.g.now c.loop-page.page c.requires.accepted.inodes
    (omega (arith, c.loop-page-test.false, c.first_data-page-end.ensures))
    (λ some. omega (arith, c.loop-page.auto.page-end (omega (arith, some, c.first_data-page-end.ensures)), c.first_data-page-end.ensures)) in
    subst (λ (n : ℕ). TablesTo c.args.g.now n (S c.args.device.now).now (S c.loop-page.device).now) done c.loop-page.invariant.made

pub returns-clause-spare : goal.returns-clause-spare
returns-clause-spare g c =
    let done = all_pages c.args.g.now c.loop-page.page c.requires.accepted.inodes
    (omega (arith, c.loop-page-test.false, c.first_data-page-end.ensures))
    (λ some. omega (arith, c.loop-page.auto.page-end (omega (arith, some, c.first_data-page-end.ensures)), c.first_data-page-end.ensures)) in
    omega (arith, done, c.loop-page.invariant.spare)
