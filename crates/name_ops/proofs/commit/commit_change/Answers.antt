use Rattle.std.proofs.Common.{List, sym, ◌∙◌, subst}
use Rattle.pm_device.specs.Settled.{LeavesOnly, StoresOnly}
use Rattle.name_journal.specs.declared.change.Change.{Change}
use Rattle.name_journal.specs.Changes.{IsTouched}
use Rattle.name_journal.specs.AllOrNone.{AllOrNone}
use Rattle.name_ops.proofs.Words.{tail_alone, tail_and_state, all_done}
use Rattle.name_ops.proofs.commit.commit_change.Goals as goal

pub returns-in-None-clause-any_moment : goal.returns-in-None-clause-any_moment
returns-in-None-clause-any_moment g c =
    let S = g.D.Pm.state in
    let same = tail_alone c.args.change.now c.inode_word.result c.inode_word.ensures (sym c.state_of.ensures ∙ c.in-None.is) in
    subst (λ (xs : List Change). LeavesOnly (S c.args.device.now) (S c.commit_all.new.device) (AllOrNone c.args.g.now.inodes c.args.who xs
    (S c.args.device.now))) same c.commit_all.ensures.any_moment

pub returns-in-None-clause-done : goal.returns-in-None-clause-done
returns-in-None-clause-done g c =
    let S = g.D.Pm.state in
    let same = tail_alone c.args.change.now c.inode_word.result c.inode_word.ensures (sym c.state_of.ensures ∙ c.in-None.is) in
    all_done c.args.g.now.inodes c.args.who _ _ (S c.args.device.now) (S c.commit_all.new.device) same c.commit_all.result
    c.commit_all.ensures.any_moment c.commit_all.ensures.done c.commit_all.ensures.only c.commit_all.ensures.others c.commit_all.ensures.settles
    c.commit_all.ensures.spare c.commit_all.ensures.faults

pub returns-in-None-clause-only : goal.returns-in-None-clause-only
returns-in-None-clause-only g c =
    let S = g.D.Pm.state in
    let same = tail_alone c.args.change.now c.inode_word.result c.inode_word.ensures (sym c.state_of.ensures ∙ c.in-None.is) in
    subst (λ (xs : List Change). StoresOnly (IsTouched xs) (S c.args.device.now) (S c.commit_all.new.device)) same c.commit_all.ensures.only

pub returns-in-Some-clause-any_moment : goal.returns-in-Some-clause-any_moment
returns-in-Some-clause-any_moment g c =
    let S = g.D.Pm.state in
    let same = tail_and_state c.args.change.now c.inode_word.result c.inode_word-in-Some.result c.in-Some.value c.inode_word.ensures
    c.inode_word-in-Some.ensures (sym c.state_of.ensures ∙ c.in-Some.is) in
    subst (λ (xs : List Change). LeavesOnly (S c.args.device.now) (S c.commit_all-in-Some.new.device) (AllOrNone c.args.g.now.inodes c.args.who xs
    (S c.args.device.now))) same c.commit_all-in-Some.ensures.any_moment

pub returns-in-Some-clause-done : goal.returns-in-Some-clause-done
returns-in-Some-clause-done g c =
    let S = g.D.Pm.state in
    let same = tail_and_state c.args.change.now c.inode_word.result c.inode_word-in-Some.result c.in-Some.value c.inode_word.ensures
    c.inode_word-in-Some.ensures (sym c.state_of.ensures ∙ c.in-Some.is) in
    all_done c.args.g.now.inodes c.args.who _ _ (S c.args.device.now) (S c.commit_all-in-Some.new.device) same c.commit_all-in-Some.result
    c.commit_all-in-Some.ensures.any_moment c.commit_all-in-Some.ensures.done c.commit_all-in-Some.ensures.only
    c.commit_all-in-Some.ensures.others c.commit_all-in-Some.ensures.settles c.commit_all-in-Some.ensures.spare c.commit_all-in-Some.ensures.faults

pub returns-in-Some-clause-only : goal.returns-in-Some-clause-only
returns-in-Some-clause-only g c =
    let S = g.D.Pm.state in
    let same = tail_and_state c.args.change.now c.inode_word.result c.inode_word-in-Some.result c.in-Some.value c.inode_word.ensures
    c.inode_word-in-Some.ensures (sym c.state_of.ensures ∙ c.in-Some.is) in
    subst (λ (xs : List Change). StoresOnly (IsTouched xs) (S c.args.device.now) (S c.commit_all-in-Some.new.device)) same
    c.commit_all-in-Some.ensures.only
