use Rattle.std.proofs.Common.{inr, sym, ◌∙◌}
use Rattle.std.proofs.lemmas.Bool.{false≢true}
use Rattle.std.proofs.lemmas.Result.{err_from_is_err_and}
use Rattle.fact_scan.proofs.Walk.{refusal, goes_on, strays, ends}
use Rattle.fact_scan.proofs.found.Found.read_chain.Goals as goal

pub returns-then-not-is_indirect-clause-fault : goal.returns-then-not-is_indirect-clause-fault
returns-then-not-is_indirect-clause-fault g c =
    let words = (g.D.Pm.state c.args.device.now).now in
    let chain = c.loop-next.invariant in
    strays c.args.g.now words c.args.prefix chain.chain chain.own c.loop-next.self chain.at c.loop-next.holder c.loop-next.next chain.comes
    chain.begun c.loop-next-test.true
    (λ far. false≢true (sym c.if-not-is_indirect.true ∙ c.is_indirect.ensures.1 far))

pub returns-in_err-behind-clause-fault : goal.returns-in_err-behind-clause-fault
returns-in_err-behind-clause-fault g c =
    let words = (g.D.Pm.state c.args.device.now).now in
    let chain = c.loop-next.invariant in
    let far = c.is_indirect.ensures.0 c.if-not-is_indirect.false in
    let p = err_from_is_err_and c.from_residual-in_err-behind.result c.from_residual-in_err-behind.ensures.1 in
    rw (p.1, p.2) (refusal c.args.g.now words c.args.prefix chain.chain chain.own c.loop-next.self chain.at c.loop-next.holder c.loop-next.next
    chain.comes (inr far) c.in_err-behind.field-0.0 c.in_err-behind.ensures.refused)

pub loop-next-preserved : goal.loop-next-preserved
loop-next-preserved g c =
    let words = (g.D.Pm.state c.args.device.now).now in
    let chain = c.loop-next.invariant in
    let far = c.is_indirect.ensures.0 c.if-not-is_indirect.false in
    goes_on c.args.g.now words c.args.prefix chain.chain chain.own c.loop-next.self chain.at c.loop-next.holder c.loop-next.next chain.comes (inr far)
    c.in_ok-behind.behind c.take_row.new.self
    c.in_ok-behind.ensures.taken c.in_ok-behind.ensures.next

pub returns-clause-read : goal.returns-clause-read
returns-clause-read g c =
    let words = (g.D.Pm.state c.args.device.now).now in
    let chain = c.loop-next.invariant in
    ends c.args.g.now words c.args.prefix chain.chain chain.own c.loop-next.self chain.at c.loop-next.holder c.loop-next.next chain.comes chain.begun
    c.loop-next-test.false
