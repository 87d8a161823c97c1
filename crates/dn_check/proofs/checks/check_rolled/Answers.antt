use Rattle.std.proofs.Common.{subst}
use Rattle.pm_device.specs.State.{State}
use Rattle.dn_model.specs.Faults.{IsLeast, IsBadInode}
use Rattle.dn_check.proofs.Reading.{inode_halts}
use Rattle.dn_check.proofs.checks.check_rolled.Goals as goal

pub returns-in-Some : goal.returns-in-Some
returns-in-Some c = λ image is.
    inode_halts image c.args.g.now c.args.words.items c.in-Some.ino is
    (subst (λ (s : State). IsLeast c.args.g.now.inodes (IsBadInode s.now) c.in-Some.ino) c.of_words-device.ensures c.in-Some.ensures.some)
