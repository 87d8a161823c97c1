use Rattle.std.proofs.Common.{◌≡◌, ◌+◌, ◌-◌, inl, inr, arith, ap, ◌∙◌, length, vec_len}
use Rattle.std.specs.Prelude.{slice_index}
use Rattle.std.proofs.lemmas.Bool.{cases_lt}
use Rattle.std.proofs.lemmas.List.{get_or_past}
use Rattle.pm_device.specs.Replay.{last_place, durable_place, value_after}
use Rattle.pm_device.specs.Picks.{picked_place}
use Rattle.pm_device.proofs.Picked.{last_place-le, durable_place-le, picks}
use Rattle.pm_device.proofs.image.picked_image.Goals as goal

pub choose-left-requires-clause-small : goal.choose-left-requires-clause-small
choose-left-requires-clause-small c = λ a.
    let found = c.in_ok-places.ensures in
    elim (cases_lt a (length c.args.first.now)) [
      | inl lt ↦ omega (arith, found.last_each a lt, last_place-le a 0 c.args.entries.now)
      | inr past ↦ omega (arith, get_or_past c.in_ok-places.places.last.items a 0 (omega (arith, past, found.lasts)))
    ]

pub choose-left-requires-clause-durable : goal.choose-left-requires-clause-durable
choose-left-requires-clause-durable c = λ a.
    let found = c.in_ok-places.ensures in
    elim (cases_lt a (length c.args.first.now)) [
      | inl lt ↦ omega (
        arith,
        found.last_each a lt,
        found.durable_each a lt,
        durable_place-le c.args.kept.now c.args.entries.now c.requires.whole a
            (slice_index c.args.first.now a),
      )
      | inr past ↦ omega (
        arith,
        get_or_past c.in_ok-places.places.last.items a 0 (omega (arith, past, found.lasts)),
        get_or_past c.in_ok-places.places.durable.items a 0 (omega (arith, past, found.durables)),
      )
    ]

pub returns : goal.returns
returns c =
    let found = c.in_ok-places.ensures in
    let first = c.args.first.now in
    let words : vec_len c.in_ok-places.places.last ≡ length first = omega (arith, found.lasts, c.in_ok-places.places.last.ok.0) in
    record {
      size = omega (arith, c.apply.ensures.len, c.apply.new.image.ok.0, c.in_ok-image.ensures.len);
      each = λ a lt.
          let chosen = c.choose-left.ensures.each a (omega (arith, lt, words)) in
          let chosen_of : slice_index c.choose-left.result.items a ≡ durable_place a 0 0 c.args.entries.now + picked_place c.args.pick a (last_place a 0 c.args.entries.now - durable_place a 0 0 c.args.entries.now + 1) =
          chosen ∙ ap (λ n. slice_index c.in_ok-places.places.durable.items a + picked_place c.args.pick a
          (n - slice_index c.in_ok-places.places.durable.items a + 1)) (found.last_each a lt)
          ∙ ap (λ n. n + picked_place c.args.pick a (last_place a 0 c.args.entries.now - n + 1)) (found.durable_each a lt) in
          picks c.args.kept.now c.args.entries.now c.requires.whole a (slice_index first a) c.args.pick (slice_index c.choose-left.result.items a)
          (slice_index c.apply.new.image.items a) chosen_of
          (c.apply.ensures.each a (omega (arith, lt, c.in_ok-image.ensures.len)) ∙ ap (λ xs. value_after c.args.kept.now a (slice_index xs a)
          (slice_index c.choose-left.result.items a) c.args.entries.now) c.in_ok-image.ensures.items);
    }
