use Rattle.std.proofs.Common.{◌≡◌, ◌⊎◌, ℕ, sym, ap, subst, ◌∙◌}
use Rattle.std.specs.Prelude.{Err}
use Rattle.pm_device.specs.Settled.{StoresOnly}
use Rattle.pm_layout.specs.declared.Geometry.{Geometry}
use Rattle.pm_layout.specs.Geometry.{gate_word}
use Rattle.dn_model.specs.Rolled.{IsGate, IsJournaled}
use Rattle.dn_model.specs.Faults.{bad_journal}
use Rattle.dn_mount.proofs.Undone.{undo_images, gate_of}
use Rattle.dn_mount.proofs.undo.undo.Goals as goal

pub returns-in-Ok-clause-images : goal.returns-in-Ok-clause-images
returns-in-Ok-clause-images g c =
    let S = g.D.Pm.state in
    λ d stood. undo_images (S c.args.device.now) (S c.roll_back.new.device) c.roll_back.ensures.only.words d stood
    (g.met.D.Pm.agree c.roll_back.new.device)
    (c.roll_back.ensures.any_moment c.requires.still) (c.roll_back.ensures.gates c.requires.still)

pub returns-in-Err-BadJournal-clause-images : goal.returns-in-Err-BadJournal-clause-images
returns-in-Err-BadJournal-clause-images g c =
    let S = g.D.Pm.state in
    λ d stood. undo_images (S c.args.device.now) (S c.roll_back.new.device) c.roll_back.ensures.only.words d stood
    (g.met.D.Pm.agree c.roll_back.new.device)
    (c.roll_back.ensures.any_moment c.requires.still) (c.roll_back.ensures.gates c.requires.still)

pub returns-in-Err-Failed-clause-images : goal.returns-in-Err-Failed-clause-images
returns-in-Err-Failed-clause-images g c =
    let S = g.D.Pm.state in
    λ d stood. undo_images (S c.args.device.now) (S c.roll_back.new.device) c.roll_back.ensures.only.words d stood
    (g.met.D.Pm.agree c.roll_back.new.device)
    (c.roll_back.ensures.any_moment c.requires.still) (c.roll_back.ensures.gates c.requires.still)

pub returns-in-Ok-clause-gate : goal.returns-in-Ok-clause-gate
returns-in-Ok-clause-gate g c =
    let w = (g.D.Pm.state c.args.device.now).now in
    gate_of w c.requires.head (λ none.
    let e = sym c.in-Ok.is ∙ c.roll_back.ensures.bad.1 (λ gate. none (subst (λ (n : ℕ). IsGate n w) (ap (λ
    (h : Geometry). h.inodes) c.requires.geometry)
    gate)) in cc)

pub returns-in-Ok-clause-back : goal.returns-in-Ok-clause-back
returns-in-Ok-clause-back g c =
    let S = g.D.Pm.state in
    record {
      now = c.in-Ok.ensures.rolled;
      still = c.in-Ok.ensures.still c.requires.still;
      images = c.roll_back.ensures.any_moment c.requires.still;
      only = subst (λ (n : ℕ). StoresOnly (λ a. IsJournaled n a ⊎ (a ≡ gate_word)) (S c.args.device.now) (S c.roll_back.new.device))
          (ap (λ (h : Geometry). h.inodes) c.requires.geometry) c.roll_back.ensures.only;
    }

pub returns-in-Err-BadJournal-clause-fault : goal.returns-in-Err-BadJournal-clause-fault
returns-in-Err-BadJournal-clause-fault g c =
    let w = (g.D.Pm.state c.args.device.now).now in
    let is = c.in-Err-BadJournal.is ∙ ap Err c.in-Err-BadJournal.field-0-is in
    record {
      is = bad_journal c.requires.head (λ gate. c.roll_back.ensures.bad.0 is
          (subst (λ (n : ℕ). IsGate n w) (sym (ap (λ (h : Geometry). h.inodes) c.requires.geometry)) gate));
      head = λ head. c.roll_back.ensures.bad_stores_nothing is;
      rest = λ rest. absurd (rest tt);
    }

pub returns-in-Err-Failed-clause-fault : goal.returns-in-Err-Failed-clause-fault
returns-in-Err-Failed-clause-fault g c = c.roll_back.ensures.failed (c.in-Err-Failed.is ∙ ap Err c.in-Err-Failed.field-0-is)
