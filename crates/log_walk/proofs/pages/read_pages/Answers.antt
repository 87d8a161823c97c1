use Rattle.std.proofs.Common.{◌≡◌, ℕ, ◌+◌, List, [], ◌∷◌, ◌++◌, length, true, refl, sym, subst, ap, ◌∙◌, arith, length-append}
use Rattle.log_walk.specs.Way.{IsWay}
use Rattle.log_walk.proofs.Paged.{OnWay, starts_way, way_on, way_few, way_whole, way_stopped}
use Rattle.log_walk.proofs.pages.read_pages.Goals as goal

pub loop-met-init : goal.loop-met-init
loop-met-init g c =
    let S = g.D.Pm.state in
    subst (λ (ps : List ℕ). OnWay c.args.g.now (S c.args.device.now).now c.args.head c.args.last ps c.args.head c.in_ok-met.met)
    (sym c.new-pages.ensures.items)
    (starts_way c.args.g.now (S c.args.device.now).now c.args.head c.args.last c.in_ok-met.met c.in_ok-met.ensures)

pub give_back-requires-clause-below : goal.give_back-requires-clause-below
give_back-requires-clause-below g c = omega (arith, c.loop-met.invariant.all, (c.loop-met-test.ensures.yes refl).0.high)

pub returns-then-page-last : goal.returns-then-page-last
returns-then-page-last g c =
    let S = g.D.Pm.state in
    let yes' = c.loop-met-test.ensures.yes refl in
    subst (λ (ps : List ℕ). IsWay c.args.g.now (S c.args.device.now).now c.args.head c.args.last ps true) (sym c.in_ok-push.ensures.items)
    (way_whole c.args.g.now (S c.args.device.now).now c.args.head c.args.last c.loop-met.page c.loop-met.pages.items c.loop-met.met
    c.loop-met.invariant yes'.0 yes'.1 c.if-page-last.true)

pub loop-met-smaller : goal.loop-met-smaller
loop-met-smaller g c =
    let S = g.D.Pm.state in
    let yes' = c.loop-met-test.ensures.yes refl in
    let room = way_few c.args.g.now (S c.args.device.now).now c.args.head c.args.last c.loop-met.page c.loop-met.pages.items c.loop-met.met
    c.loop-met.invariant yes'.0 yes'.1 in
    let long : length c.push.new.self.items ≡ length c.loop-met.pages.items + 1 = ap length c.in_ok-push.ensures.items ∙ length-append
    c.loop-met.pages.items (c.loop-met.page ∷ []) in
    omega (arith, room, long)

pub loop-met-preserved : goal.loop-met-preserved
loop-met-preserved g c =
    let S = g.D.Pm.state in
    let yes' = c.loop-met-test.ensures.yes refl in
    let next = way_on c.args.g.now (S c.args.device.now).now c.args.head c.args.last c.loop-met.page c.loop-met.pages.items c.loop-met.met
    c.loop-met.invariant yes'.0 yes'.1 c.if-page-last.false c.give_back.new.self c.give_back.ensures.gives_back in
    subst (λ (ps : List ℕ). OnWay c.args.g.now (S c.args.device.now).now c.args.head c.args.last ps c.load-page.result c.give_back.new.self)
    (sym c.in_ok-push.ensures.items)
    (subst (λ (p : ℕ). OnWay c.args.g.now (S c.args.device.now).now c.args.head c.args.last (c.loop-met.pages.items ++ c.loop-met.page ∷ []) p
    c.give_back.new.self) (sym c.load-page.ensures) next)

pub returns : goal.returns
returns g c =
    let S = g.D.Pm.state in
    way_stopped c.args.g.now (S c.args.device.now).now c.args.head c.args.last c.loop-met.page c.loop-met.pages.items c.loop-met.met
    c.loop-met.invariant (c.loop-met-test.ensures.no refl)
