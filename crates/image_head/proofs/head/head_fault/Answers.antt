use Rattle.std.proofs.Common.{refl, sym, subst}
use Rattle.pm_layout.specs.declared.Geometry.{Geometry}
use Rattle.dn_model.specs.Rolled.{IsGate}
use Rattle.dn_model.specs.Faults.{IsImage, not_an_image, wrong_version, bad_geometry, bad_journal}
use Rattle.image_head.proofs.Refuted.{refuted}
use Rattle.image_head.proofs.head.head_fault.Goals as goal

pub returns-then-not-is_image-clause-some : goal.returns-then-not-is_image-clause-some
returns-then-not-is_image-clause-some c = not_an_image (refuted c.is_image.result (IsImage c.args.image.now) c.is_image.ensures.1
    c.if-not-is_image.true)

pub returns-then-found-ne-VERSION-clause-some : goal.returns-then-found-ne-VERSION-clause-some
returns-then-found-ne-VERSION-clause-some c = wrong_version (c.is_image.ensures.0 c.if-not-is_image.false) c.if-found-ne-VERSION.true

pub returns-in_default-clause-some : goal.returns-in_default-clause-some
returns-in_default-clause-some c =
    bad_geometry (c.is_image.ensures.0 c.if-not-is_image.false) c.if-found-ne-VERSION.false (λ accepted size. c.in_default.ensures.none refl
    (record { accepted = accepted; size = size }))

pub returns-then-not-is_gate-clause-some : goal.returns-then-not-is_gate-clause-some
returns-then-not-is_gate-clause-some c =
    let sized = c.in-Some.ensures.some in
    bad_journal (record {
      image = c.is_image.ensures.0 c.if-not-is_image.false;
      version = c.if-found-ne-VERSION.false;
      accepted = sized.1.accepted;
      size = sized.1.size;
    })
    (λ gate. refuted c.is_gate.result (IsGate c.in-Some.g.inodes c.args.image.now) c.is_gate.ensures.1 c.if-not-is_gate.true
    (subst (λ (g : Geometry). IsGate g.inodes c.args.image.now) (sym sized.0) gate))
