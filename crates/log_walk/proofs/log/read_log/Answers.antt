use Rattle.std.proofs.Common.{◌≡◌, ℕ, ◌/◌, List, length, sym, ◌∙◌, ap, subst, arith}
use Rattle.std.specs.Prelude.{slice_index, Option}
use Rattle.std.proofs.lemmas.List.FromFn.{length-map-range_with_len}
use Rattle.log_walk.specs.Slots.{slot_at, first_slots}
use Rattle.log_walk.specs.Items.{AreRead}
use Rattle.log_walk.proofs.Outcome.{Outcome, outcome, slots_within, log_of, fault_of}
use Rattle.log_walk.proofs.log.read_log.Goals as goal

pub read_items-requires-clause-inside : goal.read_items-requires-clause-inside
read_items-requires-clause-inside g c =
    let S = g.D.Pm.state in
    let within = slots_within c.args.g.now (S c.args.device.now).now c.load-head.result (c.args.tail / 64) c.args.tail c.in_ok-way.way.pages.items
    c.in_ok-way.way.whole c.in_ok-way.ensures.ends in
    let long : length c.deref-3.result.now ≡ c.slots_before-all.result = ap length c.deref-3.ensures.value ∙ ap length c.in_ok-slots.ensures ∙
    length-map-range_with_len (slot_at (S c.args.device.now).now c.deref.result.now) 0 c.slots_before-all.result in
    omega (arith, within, long, c.slots_before-all.ensures, ap length c.deref-2.ensures.value)

-- what was read shows the place of the fault
shown : (g : _) (c : goal.After-drop-slots-2 g) → Outcome c.args.g.now (g.D.Pm.state c.args.device.now).now c.args.ino c.in_ok-way.way.pages.items
    c.in_ok-read.read.items.items c.fault_place-place.result
shown g c =
    let now = (g.D.Pm.state c.args.device.now).now in
    let pages = c.in_ok-way.way.pages.items in
    let slots_are : c.deref-3.result.now ≡ first_slots now pages c.slots_before-all.result =
    c.deref-3.ensures.value ∙ c.in_ok-slots.ensures ∙ ap (λ (ps : List ℕ). first_slots now ps c.slots_before-all.result) c.deref.ensures.value in
    let read : AreRead c.args.g.now c.args.ino pages (first_slots now pages c.slots_before-all.result) c.in_ok-read.read =
    subst (λ (ss : List (List ℕ)). AreRead c.args.g.now c.args.ino pages ss c.in_ok-read.read) slots_are
    (subst (λ (ps : List ℕ). AreRead c.args.g.now c.args.ino ps c.deref-3.result.now c.in_ok-read.read) c.deref-2.ensures.value c.in_ok-read.ensures)
    in
    subst (λ (o : Option ℕ). Outcome c.args.g.now now c.args.ino pages c.in_ok-read.read.items.items o) (sym c.fault_place-place.ensures)
    (outcome c.args.g.now now c.args.ino c.load-head.result c.args.tail pages c.in_ok-read.read.items.items c.in_ok-read.read.taken
    c.slots_before-all.result
    (c.load-head.ensures ∙ ap (slice_index now) c.inode_word.ensures) c.requires.tail c.requires.some c.in_ok-way.ensures.part read.front
    c.in_ok-read.read.end c.in_ok-way.way.whole c.in_ok-way.ensures.ends c.slots_before-all.ensures read.end)

pub returns-clause-log : goal.returns-clause-log
returns-clause-log g c = log_of c.args.g.now (g.D.Pm.state c.args.device.now).now c.args.ino c.in_ok-way.way.pages.items c.in_ok-read.read.items.items
    c.fault_place-place.result (shown g c)

pub returns-clause-fault : goal.returns-clause-fault
returns-clause-fault g c = fault_of c.args.g.now (g.D.Pm.state c.args.device.now).now c.args.ino c.in_ok-way.way.pages.items
    c.in_ok-read.read.items.items c.fault_place-place.result (shown g c)
