use Rattle.std.proofs.Common.{sym, ◌∙◌, subst, OnOk}
use Rattle.dn_model.specs.Files.{IsSameFiles}
use Rattle.dn_model.specs.Apply.{after_op}
use Rattle.dn_model.specs.declared.op.Op.{Op}
use Rattle.dn_model.specs.declared.op.Op.TheVariants.{Write}
use Rattle.dn_files.specs.FileLists.{files_of}
use Rattle.dn_files.proofs.applying.change.Goals as goal

pub returns-in-Write-clause-ok : goal.returns-in-Write-clause-ok
returns-in-Write-clause-ok c =
    let name = c.bytes-in-Write.ensures in
    let bytes = c.bytes-in-Write-2.ensures in
    let op = (λ i. Write (name i) c.in-Write.at (bytes i)) ∙ sym c.in-Write.is in
    subst (λ (o : Op). OnOk c.write.result (IsSameFiles (files_of c.write.new.files) (after_op (files_of c.args.files.now) o))) op c.write.ensures.ok
