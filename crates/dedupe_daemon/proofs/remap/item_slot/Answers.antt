use Rattle.std.proofs.Common.{ℕ, ◌++◌, [], ◌∷◌, sym, ◌∙◌, ap, add-zero}
use Rattle.std.specs.Prelude.{Option}
use Rattle.dn_model.specs.Log.{count, slot_name}
use Rattle.dedupe_daemon.specs.Remapped.{taken_pages}
use Rattle.dedupe_daemon.proofs.remap.item_slot.Goals as goal

pub returns-in-Some : goal.returns-in-Some
returns-in-Some c = λ g old paged tail.
    c.slot_after.ensures g old paged tail ∙ ap (slot_name (old.pages ++ c.in-Some.page ∷ [])) (add-zero (count old))
    ∙ ap (λ (f : Option ℕ). slot_name (old.pages ++ taken_pages f) (count old)) (sym c.in-Some.is)

pub returns-in-None : goal.returns-in-None
returns-in-None c = λ g old paged tail.
    c.slot_after-in-None.ensures g old paged tail ∙ ap (slot_name (old.pages ++ [])) (add-zero (count old))
    ∙ ap (λ (f : Option ℕ). slot_name (old.pages ++ taken_pages f) (count old)) (sym c.in-None.is)
