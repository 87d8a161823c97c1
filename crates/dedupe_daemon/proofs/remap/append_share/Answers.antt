use Rattle.std.proofs.Common.{◌∙◌}
use Rattle.pm_device.proofs.AllFlushed.{flushes-settle}
use Rattle.inode_log.proofs.Committed.{on_ok_map}
use Rattle.dedupe_daemon.proofs.ShareAppended.{to_prepare, can_prepare, tail_settled, images, stands_new, stores}
use Rattle.dedupe_daemon.proofs.remap.append_share.Goals as goal

pub prepare-tail-requires-clause-can : goal.prepare-tail-requires-clause-can
prepare-tail-requires-clause-can g c =
    let can = c.requires.can in
    can_prepare _ _ _ _ _ _ _ _ _ can.is _ c.share_slot.ensures

pub commit_log-requires-clause-size : goal.commit_log-requires-clause-size
commit_log-requires-clause-size g c =
    let can = c.requires.can in
    let prepared = c.prepare-tail.ensures.prepared _ _ (to_prepare _ _ _ _ _ _ _ _ _ can.is _ c.share_slot.ensures) in
    prepared.only.words ∙ c.requires.size

pub returns-clause-images : goal.returns-clause-images
returns-clause-images g c =
    let S = g.D.Pm.state in
    λ d row is.
    let to = to_prepare _ _ _ _ _ _ d row _ is _ c.share_slot.ensures in
    images _ _ _ _ _ _ d row _ is _ c.share_slot.ensures (S c.prepare-tail.new.device) (c.prepare-tail.ensures.prepared _ _ to) c.requires.size
    c.prepare-tail.result
    (S c.commit_log.new.device)
    (c.prepare-tail.ensures.tail _ _ to) c.commit_log.ensures.only (g.met.D.Pm.agree c.prepare-tail.new.device)
    (g.met.D.Pm.agree c.commit_log.new.device)
    (c.commit_log.ensures.committed (tail_settled _ _ _ _ _ _ d row _ is _ c.share_slot.ensures (S c.prepare-tail.new.device)
    (c.prepare-tail.ensures.prepared _ _ to)))

pub returns-clause-done : goal.returns-clause-done
returns-clause-done g c =
    let S = g.D.Pm.state in
    on_ok_map c.commit_log.result _ _ (λ done. λ d row is.
    let to = to_prepare _ _ _ _ _ _ d row _ is _ c.share_slot.ensures in
    stands_new _ _ _ _ _ _ d row _ is _ c.share_slot.ensures (S c.prepare-tail.new.device) (c.prepare-tail.ensures.prepared _ _ to) c.requires.size
    c.prepare-tail.result
    (S c.commit_log.new.device)
    (c.prepare-tail.ensures.tail _ _ to) c.commit_log.ensures.only done) c.commit_log.ensures.done

pub returns-clause-only : goal.returns-clause-only
returns-clause-only g c =
    let S = g.D.Pm.state in
    λ d row is.
    let to = to_prepare _ _ _ _ _ _ d row _ is _ c.share_slot.ensures in
    stores _ _ _ _ _ _ d row _ is _ c.share_slot.ensures (S c.prepare-tail.new.device) (c.prepare-tail.ensures.prepared _ _ to) c.requires.size
    c.prepare-tail.result
    (S c.commit_log.new.device)
    (c.prepare-tail.ensures.tail _ _ to) c.commit_log.ensures.only c.commit_log.ensures.others

pub returns-clause-settles : goal.returns-clause-settles
returns-clause-settles g c =
    let S = g.D.Pm.state in
    on_ok_map c.commit_log.result _ _
    (flushes-settle 15 (S c.args.device.now) (S c.prepare-tail.new.device) (S c.commit_log.new.device) c.prepare-tail.ensures.flushes)
    c.commit_log.ensures.settles
