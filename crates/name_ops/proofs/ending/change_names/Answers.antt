use Rattle.std.proofs.Common.{List, ℕ, subst}
use Rattle.std.specs.Prelude.{IfSome}
use Rattle.file_index.specs.Index.{Drops}
use Rattle.name_ops.specs.Ending.{MovesName}
use Rattle.name_ops.proofs.Put.{put_by_create, dropped_by_remove, moved_by_rename}
use Rattle.name_ops.proofs.ending.change_names.Goals as goal

pub returns-in-Create-clause-names : goal.returns-in-Create-clause-names
returns-in-Create-clause-names c = put_by_create c.args.op.now c.in-Create.name c.in-Create.is c.args.put c.requires.put_is c.args.names.now
    c.put_name.new.names c.args.node c.put_name.ensures

pub returns-in-Remove-clause-names : goal.returns-in-Remove-clause-names
returns-in-Remove-clause-names c = dropped_by_remove c.args.op.now c.in-Remove.name c.in-Remove.is c.args.names.now c.drop_bytes.new.self c.args.node
    (subst (λ (name : List ℕ). Drops name c.args.names.now c.drop_bytes.new.self) c.bytes.ensures c.drop_bytes.ensures)

pub returns-in-Rename-clause-names : goal.returns-in-Rename-clause-names
returns-in-Rename-clause-names c = moved_by_rename c.args.op.now c.in-Rename.from c.in-Rename.to c.in-Rename.is c.args.put c.requires.put_is
    c.args.names.now c.move_name.new.names c.args.node
    (subst (λ (name : List ℕ). IfSome c.args.put (λ to. MovesName name to c.args.names.now c.move_name.new.names)) c.bytes-in-Rename.ensures
    c.move_name.ensures)
