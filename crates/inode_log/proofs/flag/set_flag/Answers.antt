use Rattle.std.proofs.Common.{ℕ, ◌+◌, ◌*◌, refl, sym, subst, arith}
use Rattle.log_entry.specs.declared.item.LogItem.{LogItem}
use Rattle.inode_log.specs.Reflags.{IsWrite, with_flag}
use Rattle.inode_log.proofs.Committed.{on_ok_map}
use Rattle.inode_log.proofs.Reflagged.{IsWordChange, flag_changes, old_or_new_item, new_item_stands, keeps_logs}
use Rattle.inode_log.proofs.flag.set_flag.Goals as goal

changes : (g : _) (c : goal.After-set_word g) (item : LogItem) → IsWrite item → IsWordChange (with_flag c.args.flag) 5 c.number.result item
changes g c item write = subst (λ (v : ℕ). IsWordChange (with_flag c.args.flag) 5 v item) (sym c.number.ensures) (flag_changes c.args.flag item write)

pub returns-clause-any_moment : goal.returns-clause-any_moment
returns-clause-any_moment g c settled =
    let S = g.D.Pm.state in old_or_new_item c.args.g.now (with_flag c.args.flag) c.args.who c.args.slot 5 c.number.result (8 * c.args.slot + 5)
    (S c.args.device.now) (S c.set_word.new.device) refl (omega arith) (changes g c) (c.set_word.ensures.any_moment settled)

pub returns-clause-stands : goal.returns-clause-stands
returns-clause-stands g c =
    let S = g.D.Pm.state in
    on_ok_map c.set_word.result _ _ (λ done.
    new_item_stands c.args.g.now (with_flag c.args.flag) c.args.who c.args.slot 5 c.number.result (8 * c.args.slot + 5) (S c.args.device.now)
    (S c.set_word.new.device) refl (omega arith) (changes g c)
    (omega (arith, c.requires.slot.high, c.requires.size)) done c.set_word.ensures.only) c.set_word.ensures.done

pub returns-clause-other_logs : goal.returns-clause-other_logs
returns-clause-other_logs g c =
    let S = g.D.Pm.state in
    keeps_logs c.args.g.now (with_flag c.args.flag) c.args.who c.args.slot 5 c.number.result (8 * c.args.slot + 5) (S c.args.device.now)
    (S c.set_word.new.device) refl (omega arith) (changes g c) c.requires.slot c.set_word.ensures.only
