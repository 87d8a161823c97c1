use Rattle.std.proofs.Common.{ap, ◌∙◌}
use Rattle.dedupe_daemon.proofs.PagesRead.{read_small, read_inside, read_bytes}
use Rattle.dedupe_daemon.proofs.page.print_of.Goals as goal

pub page_at-requires-clause-small : goal.page_at-requires-clause-small
page_at-requires-clause-small g c = read_small g.D.Pm.state c.args.v.now c.requires.agrees c.requires.running c.args.page c.requires.read

pub page_at-requires-clause-inside : goal.page_at-requires-clause-inside
page_at-requires-clause-inside g c = read_inside g.D.Pm.state c.args.v.now c.requires.agrees c.requires.running c.args.page c.requires.read

pub returns : goal.returns
returns g c = λ d v. c.print.ensures ∙ ap g.F.Fingerprint.print
    (read_bytes g.D.Pm.state c.args.v.now c.requires.agrees c.requires.running c.args.page c.requires.read c.page_at.result c.page_at.ensures d v)
