use Rattle.std.proofs.Common.{◌≡◌, inl, [], sym, ◌∙◌, subst, arith}
use Rattle.pm_device.specs.Settled.{IsSettled}
use Rattle.dn_model.proofs.Regions.{inode_word_low}
use Rattle.inode_log.proofs.Committed.{committed_log, new_log_stands, on_ok_map}
use Rattle.inode_log.proofs.OthersStand.{others_stand}
use Rattle.inode_log.proofs.log.commit_log.Goals as goal

pub commit-requires-clause-inside : goal.commit-requires-clause-inside
commit-requires-clause-inside g c =
    let low = inode_word_low c.args.g.now c.args.ino 2 c.requires.ino (omega arith) in omega (
      arith,
      c.inode_word.ensures,
      c.requires.size,
      c.requires.accepted.room,
      low,
    )

pub returns-clause-any_moment : goal.returns-clause-any_moment
returns-clause-any_moment g c settled =
    committed_log c.args.g.now c.args.who c.args.ino c.args.tail c.inode_word.result c.inode_word.ensures c.requires.ino
    (g.D.Pm.state c.args.device.now) (g.D.Pm.state c.commit.new.device)
    (c.commit.ensures.any_moment (subst (IsSettled (g.D.Pm.state c.args.device.now)) (sym c.inode_word.ensures) settled))

pub returns-clause-stands : goal.returns-clause-stands
returns-clause-stands g c =
    let low = inode_word_low c.args.g.now c.args.ino 2 c.requires.ino (omega arith) in
    on_ok_map c.commit.result _ _ (λ done.
    new_log_stands c.args.g.now c.args.who c.args.ino c.args.tail c.inode_word.result c.inode_word.ensures c.requires.ino
    (g.D.Pm.state c.args.device.now) (g.D.Pm.state c.commit.new.device)
    (omega (arith, c.inode_word.ensures, c.requires.size, c.requires.accepted.room, low)) done c.commit.ensures.only) c.commit.ensures.done

pub returns-clause-other_logs : goal.returns-clause-other_logs
returns-clause-other_logs g c =
    let S = g.D.Pm.state in
    others_stand c.args.g.now c.args.ino [] c.requires.ino (λ k none. absurd (omega (arith, none))) (S c.args.device.now) (S c.commit.new.device)
    (λ a. a ≡ c.inode_word.result) c.commit.ensures.only
    (λ a here. inl (record { field = 2; small = omega arith; place = here ∙ c.inode_word.ensures }))
