use Rattle.fact_counts.proofs.Counting.{on_ok_map}
use Rattle.table_repair.proofs.Tidied.{tidy_only, tidy_all, tidy_settled, tidy_keeps_still, tidy_quiet}
use Rattle.table_repair.proofs.settle.settle_table.Goals as goal

pub returns-clause-images : goal.returns-clause-images
returns-clause-images g c =
    let S = g.D.Pm.state in
    λ d is. tidy_all d c.settle_rows.new.fact (S c.settle_rows.new.device) (c.in_ok-settle_rows.ensures.done d is) (S c.clear_stale.new.device)
    c.clear_stale.ensures.only (S c.args.device.now) (c.settle_rows.ensures.images d is) (g.met.D.Pm.agree c.clear_stale.new.device)
    c.clear_stale.ensures.images

pub returns-clause-done : goal.returns-clause-done
returns-clause-done g c =
    let S = g.D.Pm.state in
    on_ok_map c.clear_stale.result _ _ (λ makes d is. tidy_settled d c.settle_rows.new.fact (S c.settle_rows.new.device)
    (c.in_ok-settle_rows.ensures.done d is) (S c.clear_stale.new.device) c.clear_stale.ensures.only makes) c.clear_stale.ensures.done

pub returns-clause-only : goal.returns-clause-only
returns-clause-only g c =
    let S = g.D.Pm.state in
    let has = c.requires.table in
    tidy_only has.disk c.settle_rows.new.fact (S c.settle_rows.new.device) (c.in_ok-settle_rows.ensures.done has.disk has.is)
    (S c.clear_stale.new.device) c.clear_stale.ensures.only c.args.fact.now has.is.stands.table.geometry (S c.args.device.now)
    c.settle_rows.ensures.only

pub returns-clause-still : goal.returns-clause-still
returns-clause-still g c =
    let S = g.D.Pm.state in
    let has = c.requires.table in
    on_ok_map c.clear_stale.result _ _ (λ makes still. tidy_keeps_still has.disk c.settle_rows.new.fact (S c.settle_rows.new.device)
    (c.in_ok-settle_rows.ensures.done has.disk has.is) (S c.clear_stale.new.device) c.clear_stale.ensures.only makes
    (c.in_ok-settle_rows.ensures.still still)) c.clear_stale.ensures.done

pub returns-in_err-settle_rows-clause-quiet : goal.returns-in_err-settle_rows-clause-quiet
returns-in_err-settle_rows-clause-quiet g c = λ d is exact none. c.settle_rows.ensures.quiet d is exact

pub returns-clause-quiet : goal.returns-clause-quiet
returns-clause-quiet g c =
    let S = g.D.Pm.state in
    λ d is exact none. tidy_quiet d c.settle_rows.new.fact (S c.settle_rows.new.device) (c.in_ok-settle_rows.ensures.done d is)
    (S c.clear_stale.new.device) c.clear_stale.ensures.only c.args.fact.now (S c.args.device.now) is.stands.table exact none
    (c.settle_rows.ensures.quiet d is exact)
