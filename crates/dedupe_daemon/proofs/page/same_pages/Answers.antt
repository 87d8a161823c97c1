use Rattle.dedupe_daemon.proofs.PagesRead.{read_small, read_inside, read_bytes, equal_pages}
use Rattle.dedupe_daemon.proofs.page.same_pages.Goals as goal

pub page_at-requires-clause-small : goal.page_at-requires-clause-small
page_at-requires-clause-small g c = read_small g.D.Pm.state c.args.v.now c.requires.agrees c.requires.running c.args.page c.requires.read

pub page_at-requires-clause-inside : goal.page_at-requires-clause-inside
page_at-requires-clause-inside g c = read_inside g.D.Pm.state c.args.v.now c.requires.agrees c.requires.running c.args.page c.requires.read

pub page_at-requires-2-clause-small : goal.page_at-requires-2-clause-small
page_at-requires-2-clause-small g c = read_small g.D.Pm.state c.args.v.now c.requires.agrees c.requires.running c.args.other c.requires.read_other

pub page_at-requires-2-clause-inside : goal.page_at-requires-2-clause-inside
page_at-requires-2-clause-inside g c = read_inside g.D.Pm.state c.args.v.now c.requires.agrees c.requires.running c.args.other c.requires.read_other

pub returns : goal.returns
returns g c = λ d v. equal_pages c.page_at.result c.page_at-2.result _ _
    (read_bytes g.D.Pm.state c.args.v.now c.requires.agrees c.requires.running c.args.page c.requires.read c.page_at.result c.page_at.ensures d v)
    (read_bytes g.D.Pm.state c.args.v.now c.requires.agrees c.requires.running c.args.other c.requires.read_other c.page_at-2.result
    c.page_at-2.ensures d v) _ c.are_same.ensures
