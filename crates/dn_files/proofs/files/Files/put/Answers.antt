use Rattle.std.proofs.Common.{ap, ◌∙◌}
use Rattle.dn_files.specs.declared.files.FileText.{FileText}
use Rattle.dn_files.proofs.ByName.{inserted, replaced, rising_inserted}
use Rattle.dn_files.proofs.files.Files.put.Goals as goal

pub invariant_of-self-in-Continue-1 : goal.invariant_of-self-in-Continue-1
invariant_of-self-in-Continue-1 c =
    let place = rw c.deref.ensures.value at c.in-Err.ensures.absent in
    rw c.in_ok-insert-in-Err.ensures.items
    (rising_inserted c.self.inside.files.items c.args.name.now c.in-Err.at place (record { name = c.in-Ok-of.name; bytes = c.of-bytes.result })
    c.in-Ok-of.ensures.ok c.self.invariant)

pub returns-in-Ok-clause-ok : goal.returns-in-Ok-clause-ok
returns-in-Ok-clause-ok c =
    let there = rw c.deref.ensures.value at c.in-Ok.ensures.found in
    let is = ap (λ (f : FileText). f.name) c.index_mut.ensures.value ∙ there.name_is c.index_mut.result.now in
    rw (← c.self.view_is, ← c.of.ensures)
    (replaced c.self.inside.files.items c.args.name.now c.in-Ok.at c.self.invariant there
    (record { name = c.index_mut.result.now.name; bytes = c.of.result }) is)

pub returns-in_ok-insert-in-Err-clause-ok : goal.returns-in_ok-insert-in-Err-clause-ok
returns-in_ok-insert-in-Err-clause-ok c =
    let place = rw c.deref.ensures.value at c.in-Err.ensures.absent in
    rw (c.in_ok-insert-in-Err.ensures.items, ← c.self.view_is, ← c.of-bytes.ensures)
    (inserted c.self.inside.files.items c.args.name.now c.in-Err.at place (record { name = c.in-Ok-of.name; bytes = c.of-bytes.result })
    c.in-Ok-of.ensures.ok)
