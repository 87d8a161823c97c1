use Rattle.dn_files.proofs.ByName.{search_tells}
use Rattle.dn_files.proofs.files.Files.has.Goals as goal

pub returns : goal.returns
returns c =
    let there = rw c.deref.ensures.value at c.search.ensures.found in
    let place = rw c.deref.ensures.value at c.search.ensures.absent in
    rw (c.is_ok.ensures.value, ← c.self.view_is) (search_tells c.self.inside.files.items c.args.name.now c.self.invariant c.search.result there place)
