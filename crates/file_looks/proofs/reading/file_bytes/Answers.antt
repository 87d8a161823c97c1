use Rattle.std.proofs.Common.{sym}
use Rattle.data_begins.proofs.LiveFiles.{named_file}
use Rattle.file_looks.proofs.Listed.{leads}
use Rattle.file_looks.proofs.reading.file_bytes.Goals as goal

pub read_whole-requires-clause-file : goal.read_whole-requires-clause-file
read_whole-requires-clause-file g c = λ d volume.
    let b = c.args.v.now.parts in
    let s = g.D.Pm.state c.args.v.now.device in
    named_file d b s volume c.args.name.now c.in-Some.ino (leads d b s volume c.args.name.now c.in-Some.ino (sym c.in-Some.ensures))
