use Rattle.dn_volume.proofs.Tables.{running_disk}
use Rattle.file_looks.proofs.Nodes.{size_is, size_small}
use Rattle.file_looks.proofs.reading.size_of.Goals as goal

pub returns-clause-size : goal.returns-clause-size
returns-clause-size g c = λ d volume. size_is d c.args.v.now.parts (g.D.Pm.state c.args.v.now.device) volume c.args.ino (c.requires.file d volume)
    c.index.result.now c.index.ensures

pub returns-clause-few : goal.returns-clause-few
returns-clause-few g c =
    let of = running_disk g.D.Pm.state c.args.v.now c.requires.running c.requires.agrees in
    size_small of.0 c.args.v.now.parts (g.D.Pm.state c.args.v.now.device) of.1 c.args.ino (c.requires.file of.0 of.1) c.index.result.now
    c.index.ensures
