use Rattle.std.proofs.Common.{sym, ap, ◌∙◌}
use Rattle.dn_model.specs.Apply.{bytes_or_none}
use Rattle.dn_files.specs.declared.files.FileText.{FileText}
use Rattle.dn_files.proofs.ByName.{file_there, none_there}
use Rattle.dn_files.proofs.files.Files.bytes_of.Goals as goal

pub returns-in-Ok : goal.returns-in-Ok
returns-in-Ok c =
    let there = rw c.deref.ensures.value at c.in-Ok.ensures.found in
    rw (← c.self.view_is) (c.bytes.ensures ∙ ap (λ (f : FileText). f.bytes) c.index.ensures
    ∙ ap bytes_or_none (sym (file_there c.self.inside.files.items c.args.name.now c.in-Ok.at c.self.invariant there c.index.result.now)))

pub returns-in-Err : goal.returns-in-Err
returns-in-Err c =
    let place = rw c.deref.ensures.value at c.in-Err.ensures.absent in
    rw (← c.self.view_is) (ap bytes_or_none (sym (none_there c.self.inside.files.items c.args.name.now c.in-Err.field-0 place)))
