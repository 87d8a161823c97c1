use Rattle.std.proofs.Common.{◌≡◌, ℕ, ◌+◌, List, [], ◌∷◌, ◌++◌, sym, ◌∙◌, ap, arith}
use Rattle.std.proofs.lemmas.List.FromFn.{map-range_with_len_more}
use Rattle.log_walk.specs.Slots.{slot_at, first_slots}
use Rattle.log_walk.proofs.slots.read_slots.Goals as goal

pub loop-k-preserved : goal.loop-k-preserved
loop-k-preserved g c =
    let now = (g.D.Pm.state c.args.device.now).now in
    let e : 0 + c.loop-k.k ≡ c.loop-k.k = omega arith in
    c.in_ok-push.ensures.items
    ∙ ap (λ (ss : List (List ℕ)). ss ++ c.read_slot.result ∷ []) c.loop-k.invariant
    ∙ ap (λ (s : List ℕ). first_slots now c.args.pages.now c.loop-k.k ++ s ∷ []) c.read_slot.ensures
    ∙ sym (map-range_with_len_more (slot_at now c.args.pages.now) 0 c.loop-k.k c.loop-k.k e)
