use Rattle.std.proofs.Common.{◌≡◌, length, arith}
use Rattle.std.proofs.lemmas.Bool.Decides.{nat_tests}
use Rattle.log_entry.proofs.Heads.{refused, candidate_spelled, none_agrees}
use Rattle.log_entry.proofs.Fronts.{whole, part, nothing, no_slots}
use Rattle.log_entry.proofs.read.read_front.Goals as goal

pub returns-then-is_empty : goal.returns-then-is_empty
returns-then-is_empty c = let none : length c.args.slots.now ≡ 0 = grind (arith, nat_tests, c.is_empty.ensures) in no_slots c.args.slots.now none

pub returns-then-not-agrees : goal.returns-then-not-agrees
returns-then-not-agrees c =
    nothing c.args.slots.now
    (none_agrees c.in_ok-item.field-0 c.in-Some.item c.args.slots.now c.in_ok-item.ensures c.in-Some.is
    (λ same. refused c.agrees.result (c.agrees.ensures.1 same) c.if-not-agrees.true))

pub returns-then-taken-slots : goal.returns-then-taken-slots
returns-then-taken-slots c =
    let spelled = candidate_spelled c.in_ok-item.field-0 c.in-Some.item c.args.slots.now c.in_ok-item.ensures c.in-Some.is in (
      whole c.in-Some.item c.args.slots.now spelled (c.agrees.ensures.0 c.if-not-agrees.false) (omega (arith, c.slots_of-taken.ensures.slots)),
      c.slots_of-taken.ensures.slots,
    )

pub returns-else-taken-slots : goal.returns-else-taken-slots
returns-else-taken-slots c =
    let spelled = candidate_spelled c.in_ok-item.field-0 c.in-Some.item c.args.slots.now c.in_ok-item.ensures c.in-Some.is in
    part c.in-Some.item c.args.slots.now spelled (c.agrees.ensures.0 c.if-not-agrees.false) (omega (arith, c.slots_of-taken.ensures.slots))
