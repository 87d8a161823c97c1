use Rattle.std.proofs.Common.{◌+◌, ◌*◌, refl, arith}
use Rattle.inode_log.specs.Reflags.{with_mask}
use Rattle.inode_log.proofs.Committed.{on_ok_map}
use Rattle.inode_log.proofs.Reflagged.{mask_changes, old_or_new_item, new_item_stands, keeps_logs}
use Rattle.inode_log.proofs.flag.set_mask.Goals as goal

pub returns-clause-any_moment : goal.returns-clause-any_moment
returns-clause-any_moment g c settled =
    let S = g.D.Pm.state in old_or_new_item c.args.g.now (with_mask c.args.mask) c.args.who c.args.slot 6 c.args.mask (8 * c.args.slot + 6)
    (S c.args.device.now) (S c.set_word.new.device) refl (omega arith) (mask_changes c.args.mask) (c.set_word.ensures.any_moment settled)

pub returns-clause-stands : goal.returns-clause-stands
returns-clause-stands g c =
    let S = g.D.Pm.state in
    on_ok_map c.set_word.result _ _ (λ done.
    new_item_stands c.args.g.now (with_mask c.args.mask) c.args.who c.args.slot 6 c.args.mask (8 * c.args.slot + 6) (S c.args.device.now)
    (S c.set_word.new.device) refl (omega arith) (mask_changes c.args.mask)
    (omega (arith, c.requires.slot.high, c.requires.size)) done c.set_word.ensures.only) c.set_word.ensures.done

pub returns-clause-other_logs : goal.returns-clause-other_logs
returns-clause-other_logs g c =
    let S = g.D.Pm.state in
    keeps_logs c.args.g.now (with_mask c.args.mask) c.args.who c.args.slot 6 c.args.mask (8 * c.args.slot + 6) (S c.args.device.now)
    (S c.set_word.new.device) refl (omega arith) (mask_changes c.args.mask) c.requires.slot c.set_word.ensures.only
