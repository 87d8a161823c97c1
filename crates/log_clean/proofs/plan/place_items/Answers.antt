use Rattle.std.proofs.Common.{◌≡◌, ℕ, ◌+◌, [], ◌∷◌, ◌++◌, length, sym, ap, subst, arith, rules}
use Rattle.std.proofs.lemmas.List.{length_push}
use Rattle.std.proofs.lemmas.Iterator.Adapters.{YieldsList-from_vec}
use Rattle.std.proofs.lemmas.Iterator.Consumers.{YieldsList-turn}
use Rattle.log_clean.proofs.Planned.{IsPlacedTo, placed_next}
use Rattle.log_clean.proofs.plan.place_items.Goals as goal

pub loop-item-preserved : goal.loop-item-preserved
loop-item-preserved c =
    let pages = c.args.pages.now in
    let items = c.args.items.items in
    let turn = YieldsList-turn (YieldsList-from_vec {s = c.into_iter-item-iterator.result} c.args.items.items (search rules) (search rules))
    c.loop-item.yielded c.loop-item.item-iterator c.loop-item.yielded_by c.next.result c.next.new.self c.in-Some.item c.in-Some.is
    c.next.ensures.steps in
    let more : length (c.loop-item.yielded ++ c.in-Some.item ∷ []) ≡ length c.loop-item.yielded + 1
    = length_push c.loop-item.yielded c.in-Some.item in
    record {
      to = subst (λ (k : ℕ). IsPlacedTo pages items k (c.loop-item.n + c.slots_of-slots.result) c.push_reserved.new.self.items)
          (sym more)
          (placed_next pages items (length c.loop-item.yielded) c.loop-item.n c.loop-item.all.items c.in-Some.item turn.0 turn.1
          c.loop-item.invariant.to (record { slot = c.slot_at.result; item = c.in-Some.item }) c.push_reserved.new.self.items
          (c.loop-item.n + c.slots_of-slots.result) c.push_reserved.ensures.items
          (ap (λ (s : ℕ). record { slot = s; item = c.in-Some.item }) c.slot_at.ensures)
          (ap (λ (s : ℕ). c.loop-item.n + s) c.slots_of-slots.ensures.slots));
      room = (let kept = c.push_reserved.ensures.capacity in let had = c.loop-item.invariant.room in omega (arith, kept, had));
      len = (let longer = c.push_reserved.ensures.len in let had = c.loop-item.invariant.len in omega (arith, longer, had, more));
    }
