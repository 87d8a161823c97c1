use Rattle.std.proofs.Common.{◌≡◌, subst, arith}
use Rattle.std.specs.Prelude.{slice_index}
use Rattle.image_head.proofs.Rolls.{HasBack, address_inside, has_length, closed}
use Rattle.image_head.proofs.journal.roll.Goals as goal

pub bounds-image-pairs : goal.bounds-image-pairs
bounds-image-pairs c =
    let inside = address_inside c.args.image.now c.loop-i.i c.requires (omega arith) in
    let long = has_length c.args.image.now c.loop-i.image c.loop-i.i c.loop-i.invariant in
    let few = c.requires.gate.few in
    let at = c.read_pairs-pairs.ensures.addresses c.loop-i.i (omega arith) in
    omega (arith, inside, long, at)

pub returns : goal.returns
returns c =
    let all : c.loop-i.i ≡ slice_index c.args.image.now 512 = omega (arith, c.loop-i-test.false, c.loop-i.auto.i-end) in
    closed c.args.image.now c.loop-i.image (subst (λ i. HasBack c.args.image.now i c.loop-i.image) all c.loop-i.invariant)
