use Rattle.std.proofs.Common.{Some, ap, sym, ◌∙◌}
use Rattle.dn_script.proofs.StreamLaws.{drop_copied}
use Rattle.dn_script.proofs.memory.MemSourceSource.take.Goals as goal

pub returns-clause-moves : goal.returns-clause-moves
returns-clause-moves c =
    let bytes = c.self.inside.bytes.items in
    let moved = drop_copied bytes _ _ c.self.inside.at c.min-count.result c.deref.ensures.value c.copy_front.ensures in
    ap Some (ap (λ s. s.left) (sym c.self.view_is) ∙ moved)
