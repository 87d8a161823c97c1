use Rattle.std.proofs.Common.{sym, ◌∙◌, ap, List, ℕ, ◌++◌}
use Rattle.dn_volume.specs.Planned.{row_slots}
use Rattle.data_begins.specs.Places.{slot_list}
use Rattle.data_begins.proofs.RowLists.{rows_none, rows_next}
use Rattle.data_begins.proofs.places.rows_of.Goals as goal

pub loop-i-init : goal.loop-i-init
loop-i-init g c = λ d ino table places. c.new-slots.ensures.items ∙ rows_none d ino c.args.first

pub loop-i-preserved : goal.loop-i-preserved
loop-i-preserved g c = λ d ino table places.
    c.in_ok-push_slot.ensures
    ∙ ap (λ (xs : List ℕ). xs ++ slot_list c.slot_at.result) (c.loop-i.invariant d ino table places)
    ∙ ap (λ (xs : List ℕ). row_slots d ino c.args.first c.loop-i.i ++ xs) (c.slot_at.ensures d ino table places)
    ∙ sym (rows_next d ino c.args.first c.loop-i.i)
