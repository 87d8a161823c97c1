use Rattle.dn_files.proofs.ByName.{removed, none_dropped}
use Rattle.dn_files.proofs.files.Files.drop_name.Goals as goal

pub returns-in-Ok : goal.returns-in-Ok
returns-in-Ok c =
    let there = rw c.deref.ensures.value at c.in-Ok.ensures.found in
    rw (c.remove.ensures.items, ← c.self.view_is) (removed c.self.inside.files.items c.args.name.now c.in-Ok.at c.self.invariant there
    c.remove.result)

pub returns-in_default : goal.returns-in_default
returns-in_default c =
    let place = rw c.deref.ensures.value at c.in_default.ensures.absent in
    rw (← c.self.view_is) (none_dropped c.self.inside.files.items c.args.name.now c.in_default.field-0 place)
