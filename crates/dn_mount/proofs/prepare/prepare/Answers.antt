use Rattle.std.proofs.Common.{rules, ◌≡◌, ◌<◌, ℕ, List, length, sym, subst, arith}
use Rattle.std.specs.Prelude.{slice_index}
use Rattle.pm_device.proofs.Flushed.{settled_same}
use Rattle.pm_layout.specs.Geometry.{gate_word}
use Rattle.dn_model.specs.Image.{StandsFor}
use Rattle.dn_model.specs.Faults.{HasGate}
use Rattle.name_journal.proofs.Opened.{still_has}
use Rattle.dn_mount.proofs.Undone.{leaves_to_same, back_from_same, fault_from_same, same_then}
use Rattle.dn_mount.proofs.prepare.prepare.Goals as goal

pub returns-in-Err-clause-images : goal.returns-in-Err-clause-images
returns-in-Err-clause-images g c = λ d stood. still_has (g.D.Pm.state c.args.device.now) (g.met.D.Pm.agree c.args.device.now) c.requires.still
    (λ words. StandsFor words d) stood

pub returns-in_err-make_room-clause-images : goal.returns-in_err-make_room-clause-images
returns-in_err-make_room-clause-images g c =
    let S = g.D.Pm.state in
    λ d stood. leaves_to_same (S c.args.device.now) (S c.make_room.new.device) c.make_room.ensures.same (λ words. StandsFor words d)
    (still_has (S c.args.device.now) (g.met.D.Pm.agree c.args.device.now) c.requires.still (λ words. StandsFor words d) stood)

pub undo-requires-clause-still : goal.undo-requires-clause-still
undo-requires-clause-still g c =
    let S = g.D.Pm.state in
    λ a lt. settled_same (S c.args.device.now) (S c.make_room.new.device) a c.make_room.ensures.same
    (c.requires.still a (subst (λ (ws : List ℕ). a < length ws) c.make_room.ensures.same.now lt))

pub returns-in_err-undo-clause-fault : goal.returns-in_err-undo-clause-fault
returns-in_err-undo-clause-fault g c =
    let S = g.D.Pm.state in
    let is = fault_from_same (S c.args.device.now) (S c.make_room.new.device) c.make_room.ensures.same (g.met.D.Pm.agree c.args.device.now)
    (S c.undo.new.device) c.in_err-undo.field-0.0 c.in_err-undo.ensures.fault in
    search rules

pub returns-clause-ready : goal.returns-clause-ready
returns-clause-ready g c =
    let S = g.D.Pm.state in
    let same = c.make_room.ensures.same in
    record {
      geometry = c.in-Ok.ensures.geometry;
      gate = subst HasGate same.now c.in_ok-undo.ensures.gate;
      back = back_from_same (S c.args.device.now) (S c.make_room.new.device) same (g.met.D.Pm.agree c.args.device.now) (S c.undo.new.device)
          c.in_ok-undo.ensures.back;
      room = omega (arith, c.in_ok-make_room.ensures.room, c.undo.ensures.spare);
    }

pub returns-in_err-undo-clause-closed : goal.returns-in_err-undo-clause-closed
returns-in_err-undo-clause-closed g c =
    let S = g.D.Pm.state in
    λ shut. same_then (S c.args.device.now) (S c.make_room.new.device) (S c.undo.new.device) c.make_room.ensures.same
    (c.undo.ensures.closed (subst (λ (ws : List ℕ). slice_index ws gate_word ≡ 0) (sym c.make_room.ensures.same.now) shut))

pub returns-clause-closed : goal.returns-clause-closed
returns-clause-closed g c =
    let S = g.D.Pm.state in
    λ shut. same_then (S c.args.device.now) (S c.make_room.new.device) (S c.undo.new.device) c.make_room.ensures.same
    (c.undo.ensures.closed (subst (λ (ws : List ℕ). slice_index ws gate_word ≡ 0) (sym c.make_room.ensures.same.now) shut))
