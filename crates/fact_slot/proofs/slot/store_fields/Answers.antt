use Rattle.std.proofs.Common.{◌/◌, length, subst, ap, ◌∙◌, arith}
use Rattle.pm_device.specs.Runs.{length-put_run}
use Rattle.pm_device.specs.Lines.{StoresRun}
use Rattle.pm_layout.specs.Geometry.{slot_word}
use Rattle.pm_device.proofs.StoredRun.{stored_run}
use Rattle.pm_device.proofs.AllFlushed.{flushes_run}
use Rattle.fact_slot.proofs.Places.{slot_word-below_data}
use Rattle.fact_slot.proofs.slot.store_fields.Goals as goal

pub store_run-requires-clause-inside : goal.store_run-requires-clause-inside
store_run-requires-clause-inside g c =
    let below = slot_word-below_data c.args.g.now c.args.slot c.requires.accepted c.requires.slot in
    omega (arith, c.slot_word-at.ensures, c.requires.size, c.requires.accepted.room, c.requires.in_slot, below)

pub flush-requires-clause-inside : goal.flush-requires-clause-inside
flush-requires-clause-inside g c =
    let S = g.D.Pm.state in
    let long = ap length c.store_run.ensures.stores.now ∙ length-put_run (S c.args.device.now).now c.slot_word-at.result c.args.words.now in
    let below = slot_word-below_data c.args.g.now c.args.slot c.requires.accepted c.requires.slot in
    omega (arith, c.slot_word-at.ensures, c.requires.size, c.requires.accepted.room, c.requires.some, c.requires.in_slot, below)

pub returns-clause-stores : goal.returns-clause-stores
returns-clause-stores g c =
    let S = g.D.Pm.state in let agree = g.met.D.Pm.agree in
    let at = c.slot_word-at.result in
    let below = slot_word-below_data c.args.g.now c.args.slot c.requires.accepted c.requires.slot in
    subst (λ at. StoresRun c.args.who at c.args.words.now (S c.args.device.now) (S c.flush.new.self)) c.slot_word-at.ensures
    (stored_run c.args.who at (at / 8) 1 c.args.words.now (S c.args.device.now) (S c.store_run.new.self) (S c.flush.new.self)
    (omega (arith, c.slot_word-at.ensures, c.requires.size, c.requires.accepted.room, c.requires.in_slot, below)) (omega arith)
    (omega (arith, c.slot_word-at.ensures, c.requires.in_slot))
    (agree c.args.device.now) (agree c.store_run.new.self) (agree c.flush.new.self) c.store_run.ensures.stores c.flush.ensures.flushes)

pub returns-clause-flushes : goal.returns-clause-flushes
returns-clause-flushes g c =
    let S = g.D.Pm.state in
    flushes_run c.args.who (slot_word c.args.g.now c.args.slot c.args.field) c.args.words.now (S c.args.device.now) (S c.flush.new.self)
    (returns-clause-stores g c)
