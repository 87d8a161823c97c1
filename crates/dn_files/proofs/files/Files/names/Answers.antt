use Rattle.std.proofs.Common.{take_all}
use Rattle.dn_files.proofs.Listed.{names_listed}
use Rattle.dn_files.proofs.files.Files.names.Goals as goal

pub returns : goal.returns
returns c =
    let all = take_all c.loop-file.file-index c.deref-file-items.result.now c.loop-file-test.false in
    rw (c.of.ensures, c.loop-file.invariant, all, c.deref-file-items.ensures.value, ← c.self.view_is)
    (names_listed c.self.inside.files.items c.self.invariant)
