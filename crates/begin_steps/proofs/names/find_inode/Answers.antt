use Rattle.begin_steps.proofs.Found.{found_at, not_there}
use Rattle.begin_steps.proofs.names.find_inode.Goals as goal

pub returns-in-Ok : goal.returns-in-Ok
returns-in-Ok c = found_at c.args.names.now.map c.entries-entries.result.now c.args.name.now c.entries-entries.ensures c.in-Ok.at
    c.in-Ok.ensures.found
    c.index-entries-at.result

pub returns-in-Err : goal.returns-in-Err
returns-in-Err c = not_there c.args.names.now.map c.entries-entries.result.now c.args.name.now c.entries-entries.ensures c.in-Err.field-0
    c.in-Err.ensures.absent
