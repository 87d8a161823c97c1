use Rattle.std.proofs.Common.{◌≡◌, ◌+◌, ◌∙◌, ap, arith}
use Rattle.fingerprint.specs.declared.count.CountWord.{CountWord}
use Rattle.fact_counts.specs.Counted.{raised}
use Rattle.fact_counts.proofs.Counting.{same_images, same_table, same_settled, on_ok_map}
use Rattle.fact_counts.proofs.counts.raise.Goals as goal

pub raised-requires : goal.raised-requires
raised-requires g c =
    let has = c.requires.row in
    let same = c.counts_at-counts.ensures.counts has.disk has.row has.table has.at_slot in
    let uc : c.counts_at-counts.result.uc ≡ has.row.uc = ap (λ (x : CountWord). x.uc) same in
    omega (arith, has.has, uc)

pub returns-clause-images : goal.returns-clause-images
returns-clause-images g c =
    let S = g.D.Pm.state in
    same_images raised c.raised.result c.args.fact.now c.args.slot (S c.args.device.now) (S c.set_counts.new.device)
    (λ d row is at_slot. c.raised.ensures ∙ ap (λ (x : CountWord). record { rfc = x.rfc; uc = x.uc + 1 })
    (c.counts_at-counts.ensures.counts d row is at_slot)) c.set_counts.ensures.images

pub returns-clause-table : goal.returns-clause-table
returns-clause-table g c =
    let S = g.D.Pm.state in
    on_ok_map c.set_counts.result _ _
    (same_table raised c.raised.result c.args.fact.now c.args.slot (S c.args.device.now) (S c.set_counts.new.device)
    (λ d row is at_slot. c.raised.ensures ∙ ap (λ (x : CountWord). record { rfc = x.rfc; uc = x.uc + 1 })
    (c.counts_at-counts.ensures.counts d row is at_slot))) c.set_counts.ensures.table

pub returns-clause-settled : goal.returns-clause-settled
returns-clause-settled g c =
    let S = g.D.Pm.state in
    on_ok_map c.set_counts.result _ _
    (same_settled raised c.raised.result c.args.fact.now c.args.slot (S c.args.device.now) (S c.set_counts.new.device)
    (λ d row is at_slot. c.raised.ensures ∙ ap (λ (x : CountWord). record { rfc = x.rfc; uc = x.uc + 1 })
    (c.counts_at-counts.ensures.counts d row is at_slot))) c.set_counts.ensures.settled
