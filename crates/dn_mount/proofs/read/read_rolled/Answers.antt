use Rattle.std.proofs.Common.{◌≡◌, sym, subst}
use Rattle.dn_check.proofs.Reading.{inode_halts}
use Rattle.dn_mount.specs.Reading.{IsReadWhole}
use Rattle.dn_mount.proofs.WholeRead.{whole_read}
use Rattle.dn_mount.proofs.read.read_rolled.Goals as goal

pub returns-in-Some-clause-halt : goal.returns-in-Some-clause-halt
returns-in-Some-clause-halt g c = λ image is.
    inode_halts image c.args.g.now (g.D.Pm.state c.args.device.now).now c.in-Some.ino is c.in-Some.ensures.some

pub returns-in-Ok-clause-read : goal.returns-in-Ok-clause-read
returns-in-Ok-clause-read g c =
    let same : record { image = c.in_ok-image.image; kept = c.in_ok-logs.kept } ≡ c.in-Ok.read =
    λ i. record { image = sym c.in-Ok.ensures.image i; kept = sym c.in-Ok.ensures.kept i } in
    subst (IsReadWhole c.args.g.now (g.D.Pm.state c.args.device.now).now) same
    (whole_read c.args.g.now (g.D.Pm.state c.args.device.now).now c.in_ok-logs.logs c.in_ok-logs.kept c.in_ok-image.image c.in_ok-logs.ensures.read
    c.in_ok-logs.ensures.kept c.in_ok-image.ensures.logs c.in_ok-image.ensures.whole c.in_ok-image.ensures.read c.in-Ok.ensures.free)
