use Rattle.file_ops.proofs.FillEnds.{fill_owed, fill_left, fill_flies, fill_moves, fill_agrees}
use Rattle.file_ops.proofs.fill.fill_page.Goals as goal

pub note_fill-requires-clause-units : goal.note_fill-requires-clause-units
note_fill-requires-clause-units g c = fill_owed g.D.Pm.state c.args.v.now c.args.who c.requires.fills c.requires.agrees c.requires.running

pub left_of_data-requires : goal.left_of_data-requires
left_of_data-requires g c =
    fill_left g.D.Pm.state c.args.v.now c.args.who c.requires.fills c.note_fill.new.parts c.note_fill.ensures c.requires.agrees c.requires.running

pub returns-clause-agrees : goal.returns-clause-agrees
returns-clause-agrees g c =
    fill_agrees g.D.Pm.state c.args.v.now c.args.who c.requires.fills _ (g.met.D.Pm.agree c.fill_next.new.device) c.fill_next.ensures
    c.note_fill.ensures g.F.Fingerprint.print c.requires.agrees c.requires.running

pub returns-clause-event : goal.returns-clause-event
returns-clause-event g c = λ d f v flies.
    let on = fill_flies g.D.Pm.state c.args.v.now c.args.who c.requires.fills c.note_fill.new.parts c.note_fill.ensures c.left_of_data.result
    c.left_of_data.ensures f flies in (
      fill_moves g.D.Pm.state c.args.v.now c.args.who c.requires.fills _ (g.met.D.Pm.agree c.fill_next.new.device) c.fill_next.ensures
          c.note_fill.ensures g.F.Fingerprint.print d v,
      on.0,
      on.1,
      on.2,
    )
