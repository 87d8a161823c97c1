use Rattle.std.proofs.Common.{ℕ, ◌+◌, ◌-◌, List, [], ◌∷◌, ◌++◌, length, take, drop, sym, subst, arith}
use Rattle.std.proofs.lemmas.List.{take_rest}
use Rattle.log_walk.specs.Items.{IsNext, AreFront}
use Rattle.log_walk.specs.declared.items.Next.{Next}
use Rattle.log_walk.specs.declared.items.Next.TheVariants.{Item}
use Rattle.log_walk.specs.declared.items.Placed.{Placed as PlacedItem}
use Rattle.log_walk.proofs.Filled.{front_within, fronts_more}
use Rattle.log_walk.proofs.items.read_items.Goals as goal

-- the item that comes next
next : (c : goal.In_ok-push) → IsNext c.args.g.now c.args.ino (drop c.loop-taken.taken c.args.slots.now) (Item c.in-Item.item c.in-Item.slots)
next c =
    subst (λ (ss : List (List ℕ)). IsNext c.args.g.now c.args.ino ss (Item c.in-Item.item c.in-Item.slots))
    (take_rest c.args.slots.now c.loop-taken.taken)
    (subst (λ (n : Next). IsNext c.args.g.now c.args.ino (take (length c.args.slots.now - c.loop-taken.taken)
    (drop c.loop-taken.taken c.args.slots.now)) n) c.in-Item.is c.in_ok-item.ensures)

pub loop-taken-smaller : goal.loop-taken-smaller
loop-taken-smaller c =
    let here = next c in
    let within = front_within c.in-Item.item c.args.slots.now c.loop-taken.taken here.0 in
    omega (arith, within.0, here.1, c.loop-taken-test.true)

pub loop-taken-preserved : goal.loop-taken-preserved
loop-taken-preserved c =
    let here = next c in
    let within = front_within c.in-Item.item c.args.slots.now c.loop-taken.taken here.0 in
    let placed : PlacedItem = record { slot = c.name_of-slot.result; item = c.in-Item.item } in
    let more = fronts_more c.args.g.now c.args.ino c.args.pages.now c.args.slots.now c.loop-taken.items.items c.loop-taken.taken
    c.loop-taken.invariant.front placed here.0 here.2 c.name_of-slot.ensures in
    record {
      front = subst (λ (ps : List PlacedItem). AreFront c.args.g.now c.args.ino c.args.pages.now c.args.slots.now ps
          (c.loop-taken.taken + c.in-Item.slots)) (sym c.in_ok-push.ensures.items)
          (subst (λ (n : ℕ). AreFront c.args.g.now c.args.ino c.args.pages.now c.args.slots.now (c.loop-taken.items.items ++ placed ∷ [])
          (c.loop-taken.taken + n)) (sym here.1) more);
      within = omega (arith, within.1, here.1, c.loop-taken-test.true);
    }
