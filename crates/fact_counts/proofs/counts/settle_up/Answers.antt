use Rattle.std.proofs.Common.{◌≡◌, ◌+◌, ◌-◌, ◌∙◌, ap, arith}
use Rattle.fingerprint.specs.declared.count.CountWord.{CountWord}
use Rattle.fact_counts.specs.Counted.{up}
use Rattle.fact_counts.proofs.Counting.{same_images, same_table, same_settled, on_ok_map}
use Rattle.fact_counts.proofs.counts.settle_up.Goals as goal

pub up-requires-clause-under_way : goal.up-requires-clause-under_way
up-requires-clause-under_way g c =
    let has = c.requires.row in
    let same = c.counts_at-counts.ensures.counts has.disk has.row has.table has.at_slot in
    let uc : c.counts_at-counts.result.uc ≡ has.row.uc = ap (λ (x : CountWord). x.uc) same in
    omega (arith, has.has.0, uc)

pub up-requires-clause-fits : goal.up-requires-clause-fits
up-requires-clause-fits g c =
    let has = c.requires.row in
    let same = c.counts_at-counts.ensures.counts has.disk has.row has.table has.at_slot in
    let rfc : c.counts_at-counts.result.rfc ≡ has.row.rfc = ap (λ (x : CountWord). x.rfc) same in
    omega (arith, has.has.1, rfc)

pub returns-clause-images : goal.returns-clause-images
returns-clause-images g c =
    let S = g.D.Pm.state in
    same_images up c.up.result c.args.fact.now c.args.slot (S c.args.device.now) (S c.set_counts.new.device)
    (λ d row is at_slot. c.up.ensures ∙ ap (λ (x : CountWord). record { rfc = x.rfc + 1; uc = x.uc - 1 })
    (c.counts_at-counts.ensures.counts d row is at_slot)) c.set_counts.ensures.images

pub returns-clause-table : goal.returns-clause-table
returns-clause-table g c =
    let S = g.D.Pm.state in
    on_ok_map c.set_counts.result _ _
    (same_table up c.up.result c.args.fact.now c.args.slot (S c.args.device.now) (S c.set_counts.new.device)
    (λ d row is at_slot. c.up.ensures ∙ ap (λ (x : CountWord). record { rfc = x.rfc + 1; uc = x.uc - 1 })
    (c.counts_at-counts.ensures.counts d row is at_slot))) c.set_counts.ensures.table

pub returns-clause-settled : goal.returns-clause-settled
returns-clause-settled g c =
    let S = g.D.Pm.state in
    on_ok_map c.set_counts.result _ _
    (same_settled up c.up.result c.args.fact.now c.args.slot (S c.args.device.now) (S c.set_counts.new.device)
    (λ d row is at_slot. c.up.ensures ∙ ap (λ (x : CountWord). record { rfc = x.rfc + 1; uc = x.uc - 1 })
    (c.counts_at-counts.ensures.counts d row is at_slot))) c.set_counts.ensures.settled
