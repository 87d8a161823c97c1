use Rattle.std.proofs.Common.{length, arith}
use Rattle.pm_device.proofs.AllFlushed.{flushes-settle, settles-then}
use Rattle.name_journal.proofs.Opened.{changes_inside}
use Rattle.name_journal.proofs.Told.{on_ok_map}
use Rattle.name_journal.proofs.Journaling.{stored_pairs, gate_settled, leaves_opening, only_opening, open_settled, only_all, leaves_all, all_done}
use Rattle.name_journal.proofs.commit.commit_all.Goals as goal

pub store_pairs-requires-clause-inside : goal.store_pairs-requires-clause-inside
store_pairs-requires-clause-inside g c =
    changes_inside c.args.g.now c.args.changes.now (length (g.D.Pm.state c.args.device.now).now) c.requires.accepted c.requires.size
    c.requires.changes

pub store_values-requires-clause-inside : goal.store_values-requires-clause-inside
store_values-requires-clause-inside g c =
    changes_inside c.args.g.now c.args.changes.now (length (g.D.Pm.state c.commit.new.device).now) c.requires.accepted
    (omega (arith, c.requires.size, c.store_pairs.ensures.only.words, c.commit.ensures.only.words)) c.requires.changes

pub returns-in_err-commit-clause-any_moment : goal.returns-in_err-commit-clause-any_moment
returns-in_err-commit-clause-any_moment g c =
    let S = g.D.Pm.state in
    let is = stored_pairs c.args.g.now c.args.who c.args.changes.now (S c.args.device.now) (S c.store_pairs.new.device)
    (g.met.D.Pm.agree c.args.device.now) c.requires.accepted c.requires.size c.requires.few c.requires.changes
    c.requires.closed c.requires.settled c.store_pairs.ensures.only c.store_pairs.ensures.ready c.store_pairs.ensures.keeps in
    let opened = c.commit.ensures.any_moment (gate_settled c.args.g.now.inodes c.args.who c.args.changes.now (S c.args.device.now)
    (S c.store_pairs.new.device) (S c.store_pairs.new.device) is) in
    leaves_opening c.args.g.now.inodes c.args.who c.args.changes.now (S c.args.device.now) (S c.store_pairs.new.device) (S c.commit.new.device) is
    opened c.commit.ensures.only

pub returns-in_err-commit-clause-only : goal.returns-in_err-commit-clause-only
returns-in_err-commit-clause-only g c =
    let S = g.D.Pm.state in
    let is = stored_pairs c.args.g.now c.args.who c.args.changes.now (S c.args.device.now) (S c.store_pairs.new.device)
    (g.met.D.Pm.agree c.args.device.now) c.requires.accepted c.requires.size c.requires.few c.requires.changes
    c.requires.closed c.requires.settled c.store_pairs.ensures.only c.store_pairs.ensures.ready c.store_pairs.ensures.keeps in
    let opened = c.commit.ensures.any_moment (gate_settled c.args.g.now.inodes c.args.who c.args.changes.now (S c.args.device.now)
    (S c.store_pairs.new.device) (S c.store_pairs.new.device) is) in
    only_opening c.args.g.now.inodes c.args.who c.args.changes.now (S c.args.device.now) (S c.store_pairs.new.device) (S c.commit.new.device) is
    opened c.commit.ensures.only

pub returns-clause-any_moment : goal.returns-clause-any_moment
returns-clause-any_moment g c =
    let S = g.D.Pm.state in
    let is = stored_pairs c.args.g.now c.args.who c.args.changes.now (S c.args.device.now) (S c.store_pairs.new.device)
    (g.met.D.Pm.agree c.args.device.now) c.requires.accepted c.requires.size c.requires.few c.requires.changes
    c.requires.closed c.requires.settled c.store_pairs.ensures.only c.store_pairs.ensures.ready c.store_pairs.ensures.keeps in
    let opened = c.commit.ensures.any_moment (gate_settled c.args.g.now.inodes c.args.who c.args.changes.now (S c.args.device.now)
    (S c.store_pairs.new.device) (S c.store_pairs.new.device) is) in
    let closed = c.commit-2.ensures.any_moment (open_settled c.args.g.now.inodes c.args.who c.args.changes.now (S c.args.device.now)
    (S c.store_pairs.new.device) (S c.commit.new.device) is opened c.commit.ensures.only c.in_ok-commit.ensures.done
    (S c.store_values.new.device) (S c.store_values.new.device) c.store_values.ensures.only c.store_values.ensures.ready) in
    leaves_all c.args.g.now.inodes c.args.who c.args.changes.now (S c.args.device.now) (S c.store_pairs.new.device) (S c.commit.new.device) is opened
    c.commit.ensures.only c.in_ok-commit.ensures.done (S c.store_values.new.device) (S c.commit-2.new.device) c.store_values.ensures.only
    c.store_values.ensures.ready c.commit-2.ensures.only closed

pub returns-clause-done : goal.returns-clause-done
returns-clause-done g c =
    let S = g.D.Pm.state in
    let is = stored_pairs c.args.g.now c.args.who c.args.changes.now (S c.args.device.now) (S c.store_pairs.new.device)
    (g.met.D.Pm.agree c.args.device.now) c.requires.accepted c.requires.size c.requires.few c.requires.changes
    c.requires.closed c.requires.settled c.store_pairs.ensures.only c.store_pairs.ensures.ready c.store_pairs.ensures.keeps in
    let opened = c.commit.ensures.any_moment (gate_settled c.args.g.now.inodes c.args.who c.args.changes.now (S c.args.device.now)
    (S c.store_pairs.new.device) (S c.store_pairs.new.device) is) in
    on_ok_map c.commit-2.result _ _ (all_done c.args.g.now.inodes c.args.who c.args.changes.now (S c.args.device.now) (S c.store_pairs.new.device)
    (S c.commit.new.device) is opened c.commit.ensures.only c.in_ok-commit.ensures.done (S c.store_values.new.device) (S c.commit-2.new.device)
    c.store_values.ensures.only c.store_values.ensures.ready c.commit-2.ensures.only) c.commit-2.ensures.done

pub returns-clause-only : goal.returns-clause-only
returns-clause-only g c =
    let S = g.D.Pm.state in
    let is = stored_pairs c.args.g.now c.args.who c.args.changes.now (S c.args.device.now) (S c.store_pairs.new.device)
    (g.met.D.Pm.agree c.args.device.now) c.requires.accepted c.requires.size c.requires.few c.requires.changes
    c.requires.closed c.requires.settled c.store_pairs.ensures.only c.store_pairs.ensures.ready c.store_pairs.ensures.keeps in
    let opened = c.commit.ensures.any_moment (gate_settled c.args.g.now.inodes c.args.who c.args.changes.now (S c.args.device.now)
    (S c.store_pairs.new.device) (S c.store_pairs.new.device) is) in
    only_all c.args.g.now.inodes c.args.who c.args.changes.now (S c.args.device.now) (S c.store_pairs.new.device) (S c.commit.new.device) is opened
    c.commit.ensures.only c.in_ok-commit.ensures.done (S c.store_values.new.device) (S c.commit-2.new.device) c.store_values.ensures.only
    c.store_values.ensures.ready c.commit-2.ensures.only

pub returns-clause-settles : goal.returns-clause-settles
returns-clause-settles g c =
    let S = g.D.Pm.state in let who = c.args.who in
    let opened = flushes-settle who (S c.args.device.now) (S c.store_pairs.new.device) (S c.commit.new.device)
    c.store_pairs.ensures.flushes c.in_ok-commit.ensures.settles in
    on_ok_map c.commit-2.result _ _ (λ settles. settles-then who _ _ (S c.commit-2.new.device) opened
    (flushes-settle who _ (S c.store_values.new.device) _ c.store_values.ensures.flushes settles)) c.commit-2.ensures.settles
