use Rattle.std.proofs.Common.{ℕ, refl, sym, ◌∙◌, subst}
use Rattle.dn_model.specs.Faults.{IsImage, FaultOf, not_an_image, wrong_version, bad_geometry}
use Rattle.dn_model.specs.declared.fault.ImageFault.TheVariants.{WrongVersion}
use Rattle.image_head.proofs.Refuted.{refuted}
use Rattle.image_head.proofs.device.device_geometry.Goals as goal

pub returns-then-not-is_image-clause-fault : goal.returns-then-not-is_image-clause-fault
returns-then-not-is_image-clause-fault g c = not_an_image (refuted c.is_image.result (IsImage
    (g.D.Pm.state c.args.device.now).now) c.is_image.ensures.1
    c.if-not-is_image.true)

pub returns-then-found-ne-VERSION-clause-fault : goal.returns-then-found-ne-VERSION-clause-fault
returns-then-found-ne-VERSION-clause-fault g c = subst (λ (v : ℕ). FaultOf (g.D.Pm.state c.args.device.now).now (WrongVersion v))
    (sym c.load-found.ensures)
    (wrong_version (c.is_image.ensures.0 c.if-not-is_image.false) (λ one. c.if-found-ne-VERSION.true (c.load-found.ensures ∙ one)))

pub returns-in-None-clause-fault : goal.returns-in-None-clause-fault
returns-in-None-clause-fault g c =
    bad_geometry (c.is_image.ensures.0 c.if-not-is_image.false) (sym c.load-found.ensures ∙ c.if-found-ne-VERSION.false)
    (λ accepted size. c.in-None.ensures.none refl (record { accepted = accepted; size = size }))

pub returns-in-Some-clause-head : goal.returns-in-Some-clause-head
returns-in-Some-clause-head g c = record {
  image = c.is_image.ensures.0 c.if-not-is_image.false;
  version = sym c.load-found.ensures ∙ c.if-found-ne-VERSION.false;
  accepted = c.in-Some.ensures.some.1.accepted;
  size = c.in-Some.ensures.some.1.size;
}
