use Rattle.std.proofs.Common.{List, sym, subst}
use Rattle.pm_device.specs.Settled.{LeavesOnly, StoresOnly, KeepsFlushed, Others}
use Rattle.pm_device.proofs.SetWord.{on_ok_map}
use Rattle.pm_device.proofs.Only.{stores_only-weaken}
use Rattle.pm_device.proofs.Flushed.{keeps-weaken}
use Rattle.name_journal.specs.declared.change.Change.{Change}
use Rattle.name_journal.specs.Changes.{AreChanges, IsTouched}
use Rattle.name_journal.specs.AllOrNone.{AllOrNone, IsAllDone}
use Rattle.law_log_swap.proofs.ReplacedLog.{two_changes}
use Rattle.log_replace.specs.Replacing.{end_changes, IsEndWord}
use Rattle.log_replace.proofs.Replacing.{end_words, images_between, log_replaced}
use Rattle.log_replace.proofs.replace.replace_log.Goals as goal

pub commit_all-requires-clause-changes : goal.commit_all-requires-clause-changes
commit_all-requires-clause-changes g c =
    subst (λ (cs : List Change). AreChanges c.args.g.now.inodes cs) (sym c.end_changes-changes.ensures)
    (two_changes c.args.g.now.inodes c.args.ino c.args.head c.args.tail c.requires.ino)

pub returns-clause-any_moment : goal.returns-clause-any_moment
returns-clause-any_moment g c =
    let S = g.D.Pm.state in
    let old = S c.args.device.now in let new = S c.commit_all.new.device in
    λ d log is. images_between c.args.g.now c.args.who c.args.ino c.args.head c.args.tail old new
    (g.met.D.Pm.agree c.args.device.now) c.requires.size d log is
    (subst (λ (cs : List Change). LeavesOnly old new (AllOrNone c.args.g.now.inodes c.args.who cs old)) c.end_changes-changes.ensures
    c.commit_all.ensures.any_moment)

pub returns-clause-done : goal.returns-clause-done
returns-clause-done g c =
    let S = g.D.Pm.state in
    let old = S c.args.device.now in let new = S c.commit_all.new.device in
    on_ok_map c.commit_all.result _ _ (λ done. λ d log is. log_replaced c.args.g.now c.args.who c.args.ino c.args.head c.args.tail old new
    (g.met.D.Pm.agree c.args.device.now) c.requires.size d log is
    (subst (λ (cs : List Change). IsAllDone c.args.who cs old new) c.end_changes-changes.ensures done)) c.commit_all.ensures.done

pub returns-clause-only : goal.returns-clause-only
returns-clause-only g c =
    let S = g.D.Pm.state in
    let old = S c.args.device.now in let new = S c.commit_all.new.device in
    let cs = end_changes c.args.ino c.args.head c.args.tail in
    stores_only-weaken (IsTouched cs) (IsEndWord c.args.ino) old new (end_words c.args.ino c.args.head c.args.tail)
    (subst (λ (ds : List Change). StoresOnly (IsTouched ds) old new) c.end_changes-changes.ensures c.commit_all.ensures.only)

pub returns-clause-others : goal.returns-clause-others
returns-clause-others g c =
    let S = g.D.Pm.state in
    let old = S c.args.device.now in let new = S c.commit_all.new.device in
    let cs = end_changes c.args.ino c.args.head c.args.tail in
    keeps-weaken (Others c.args.who) (Others c.args.who) (IsTouched cs) (IsEndWord c.args.ino) old new
    (λ q other. other) (end_words c.args.ino c.args.head c.args.tail)
    (subst (λ (ds : List Change). KeepsFlushed (Others c.args.who) (IsTouched ds) old new) c.end_changes-changes.ensures c.commit_all.ensures.others)
