use Rattle.std.proofs.Common.{sym, subst}
use Rattle.log_entry.specs.declared.item.LogItem.{LogItem}
use Rattle.file_scan.specs.Names.{Renames}
use Rattle.file_scan.proofs.Naming.{renames-drop}
use Rattle.file_scan.proofs.names.add_name.Goals as goal

pub returns-in-Forget : goal.returns-in-Forget
returns-in-Forget c = subst (λ (item : LogItem). Renames item c.args.names.now.map c.drop_name.new.self.map) (sym c.in-Forget.is)
    (renames-drop c.in-Forget.name c.args.names.now c.drop_name.new.self c.drop_name.ensures)
