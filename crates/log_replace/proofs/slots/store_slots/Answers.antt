use Rattle.std.proofs.Common.{◌≡◌, ℕ, ◌+◌, ◌-◌, ◌*◌, ◌≤◌, [], get_or, refl, subst, arith}
use Rattle.pm_device.specs.Reading.{IsReady}
use Rattle.log_replace.specs.Slots.{SlotsSay}
use Rattle.log_replace.proofs.SlotsStored.{no_slots, one_slot}
use Rattle.log_replace.proofs.slots.store_slots.Goals as goal

pub loop-n-init : goal.loop-n-init
loop-n-init g c =
    no_slots c.args.who c.args.page c.args.slots.now c.args.first c.args.last (g.D.Pm.state c.args.device.now) (g.met.D.Pm.agree c.args.device.now)

pub store_line-requires-clause-small : goal.store_line-requires-clause-small
store_line-requires-clause-small g c = omega (arith, c.requires.small, c.requires.few, c.loop-n-test.true, c.loop-n.auto.n)

pub store_line-requires-clause-inside : goal.store_line-requires-clause-inside
store_line-requires-clause-inside g c = omega (
  arith,
  c.requires.inside,
  c.requires.few,
  c.loop-n-test.true,
  c.loop-n.auto.n,
  c.loop-n.invariant.only.words,
)

pub store_line-requires-clause-room : goal.store_line-requires-clause-room
store_line-requires-clause-room g c = omega (arith, c.requires.room, c.loop-n-test.true, c.loop-n.auto.n, c.loop-n.invariant.spare)

pub loop-n-preserved : goal.loop-n-preserved
loop-n-preserved g c =
    let S = g.D.Pm.state in
    let n = c.loop-n.n in
    one_slot c.args.who c.args.page c.args.slots.now c.args.first c.args.last n (S c.args.device.now) (S c.loop-n.device) (S c.store_line.new.device)
    c.loop-n.auto.n c.loop-n-test.true c.requires.few c.requires.inside c.loop-n.invariant (64 * c.args.page + (n - c.args.first)) refl
    (get_or c.args.slots.now n []) refl (c.told-slots n (omega (arith, c.loop-n-test.true, c.requires.there))) c.store_line.ensures.stores
    c.store_line.ensures.flushes c.store_line.ensures.spare c.store_line.ensures.faults

pub returns-clause-only : goal.returns-clause-only
returns-clause-only g c = c.loop-n.invariant.only

pub returns-clause-ready : goal.returns-clause-ready
returns-clause-ready g c =
    let most : c.loop-n.n ≤ c.args.last = c.loop-n.auto.n-end (omega (arith, c.requires.some)) in
    let all : c.loop-n.n ≡ c.args.last = omega (arith, c.loop-n-test.false, most) in
    subst (λ (m : ℕ). IsReady c.args.who (SlotsSay c.args.page c.args.slots.now c.args.first m) (g.D.Pm.state c.loop-n.device)) all
    c.loop-n.invariant.ready

pub returns-clause-keeps : goal.returns-clause-keeps
returns-clause-keeps g c = c.loop-n.invariant.keeps

pub returns-clause-flushes : goal.returns-clause-flushes
returns-clause-flushes g c = c.loop-n.invariant.flushes

pub returns-clause-spare : goal.returns-clause-spare
returns-clause-spare g c =
    let most : c.loop-n.n ≤ c.args.last = c.loop-n.auto.n-end (omega (arith, c.requires.some)) in
    omega (arith, c.loop-n.invariant.spare, most, c.requires.some, c.loop-n.auto.n)
