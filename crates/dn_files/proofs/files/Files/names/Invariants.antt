use Rattle.std.proofs.Common.{◌≡◌, map, take}
use Rattle.dn_files.specs.declared.files.FileText.{FileText}
use Rattle.dn_files.proofs.files.Files.names.Given as goal

abbrev pub invariant-loop-file : goal.invariant-loop-file
invariant-loop-file l = l.names.items ≡ map (λ (f : FileText). f.name) (take l.file-index l.file-items)
