use Rattle.file_ops.proofs.NextStep.{write_left, to_fill, to_raise, last_write, commit_advances}
use Rattle.file_ops.proofs.advance.advance_write.Goals as goal

pub next_step-requires : goal.next_step-requires
next_step-requires g c = write_left g.D.Pm.state c.args.v.now c.args.who c.requires.agrees c.requires.running c.requires.flies

pub fill_page-requires-clause-fills : goal.fill_page-requires-clause-fills
fill_page-requires-clause-fills g c =
    let l = write_left g.D.Pm.state c.args.v.now c.args.who c.requires.agrees c.requires.running c.requires.flies in
    to_fill c.args.v.now.parts c.args.who l (c.in-Fill.ensures l.flight l.data_change l.flies l.is_data)

pub raise_row-requires-clause-raises : goal.raise_row-requires-clause-raises
raise_row-requires-clause-raises g c =
    let l = write_left g.D.Pm.state c.args.v.now c.args.who c.requires.agrees c.requires.running c.requires.flies in
    to_raise c.args.v.now.parts c.args.who l (c.in-Raise.ensures l.flight l.data_change l.flies l.is_data)

pub commit_write-requires-clause-last : goal.commit_write-requires-clause-last
commit_write-requires-clause-last g c =
    let l = write_left g.D.Pm.state c.args.v.now c.args.who c.requires.agrees c.requires.running c.requires.flies in
    last_write c.args.v.now.parts c.args.who l (c.in-Commit.ensures l.flight l.data_change l.flies l.is_data) c.requires.flies

pub returns-in-Commit-clause-event : goal.returns-in-Commit-clause-event
returns-in-Commit-clause-event g c =
    let l = write_left g.D.Pm.state c.args.v.now c.args.who c.requires.agrees c.requires.running c.requires.flies in
    commit_advances g.D.Pm.state g.F.Fingerprint.print c.args.v.now c.commit_write.new.v c.args.who c.commit_write.result l
    (c.in-Commit.ensures l.flight l.data_change l.flies l.is_data) c.commit_write.ensures.event
