use Rattle.std.proofs.Common.{refl, ap, subst}
use Rattle.dn_volume.specs.declared.volume.Parts.{Parts}
use Rattle.dn_volume.specs.Agrees.{agrees_with}
use Rattle.dn_volume.proofs.Tables.{running_disk}
use Rattle.dn_model.specs.declared.op.Reply.{Reply}
use Rattle.begin_steps.specs.Answering.{EntersHistory}
use Rattle.begin_steps.proofs.Answered.{keeps_entry_room, answer_last, untouched, untouched_room, answered}
use Rattle.begin_steps.proofs.answers.answer.Goals as goal

pub returns-in_default-clause-event : goal.returns-in_default-clause-event
returns-in_default-clause-event g c = λ d volume. (
  untouched g.D.Pm.state c.args.v.now d volume,
  answer_last d c.args.v.now.parts c.args.op c.args.reply (c.requires.why d volume),
)

pub returns-then-not-make_entry_room-clause-agrees : goal.returns-then-not-make_entry_room-clause-agrees
returns-then-not-make_entry_room-clause-agrees g c =
    let found = running_disk g.D.Pm.state c.args.v.now c.requires.running c.requires.agrees in
    let made = c.make_entry_room.ensures.makes in
    agrees_with found.0 (untouched_room g.D.Pm.state c.args.v.now found.0 found.1
    (record { device = c.args.v.now.device; print = c.args.v.now.print; kept = c.args.v.now.kept; parts = c.make_entry_room.new.parts }) (g.met.D.Pm.agree c.args.v.now.device)
    (record { now = refl; past = refl; faults = refl }) (keeps_entry_room c.args.v.now.parts c.make_entry_room.new.parts made) found.1.room.units
    made.items (ap (λ (p : Parts). p.made) made.parts)).volume

pub returns-then-not-make_entry_room-clause-event : goal.returns-then-not-make_entry_room-clause-event
returns-then-not-make_entry_room-clause-event g c = λ d volume.
    let made = c.make_entry_room.ensures.makes in (
      untouched_room g.D.Pm.state c.args.v.now d volume
          (record { device = c.args.v.now.device; print = c.args.v.now.print; kept = c.args.v.now.kept; parts = c.make_entry_room.new.parts })
          (g.met.D.Pm.agree c.args.v.now.device) (record { now = refl; past = refl; faults = refl })
          (keeps_entry_room c.args.v.now.parts c.make_entry_room.new.parts made) volume.room.units made.items (ap (λ (p : Parts). p.made) made.parts),
      answer_last d c.args.v.now.parts c.args.op c.args.reply (c.requires.why d volume),
    )

pub returns-clause-agrees : goal.returns-clause-agrees
returns-clause-agrees g c =
    let found = running_disk g.D.Pm.state c.args.v.now c.requires.running c.requires.agrees in
    agrees_with found.0 (answered g.D.Pm.state c.args.v.now found.0 found.1 c.args.who c.args.op c.args.reply c.make_entry_room.new.parts
    (record { device = c.args.v.now.device; print = c.args.v.now.print; kept = c.args.v.now.kept; parts = c.enter.new.parts }) (g.met.D.Pm.agree c.args.v.now.device)
    (record { now = refl; past = refl; faults = refl }) refl c.requires.begins c.make_entry_room.ensures.makes
    (c.make_entry_room.ensures.room c.if-not-make_entry_room.false)
    (subst (λ (r : Reply). EntersHistory c.args.who c.args.op r c.make_entry_room.new.parts c.enter.new.parts) c.in-Ok.ensures c.enter.ensures)
    (c.requires.why found.0 found.1)).volume

pub returns-clause-event : goal.returns-clause-event
returns-clause-event g c = λ d volume.
    answered g.D.Pm.state c.args.v.now d volume c.args.who c.args.op c.args.reply c.make_entry_room.new.parts
    (record { device = c.args.v.now.device; print = c.args.v.now.print; kept = c.args.v.now.kept; parts = c.enter.new.parts }) (g.met.D.Pm.agree c.args.v.now.device)
    (record { now = refl; past = refl; faults = refl }) refl c.requires.begins c.make_entry_room.ensures.makes
    (c.make_entry_room.ensures.room c.if-not-make_entry_room.false)
    (subst (λ (r : Reply). EntersHistory c.args.who c.args.op r c.make_entry_room.new.parts c.enter.new.parts) c.in-Ok.ensures c.enter.ensures)
    (c.requires.why d volume)
