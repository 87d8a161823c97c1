use Rattle.std.proofs.Common.{List, map, ◌∙◌, ap}
use Rattle.log_clean.proofs.Planned.{placed_indexed}
use Rattle.log_walk.specs.Items.{seen}
use Rattle.log_walk.specs.declared.items.Placed.{Placed as PlacedItem}
use Rattle.log_clean.proofs.plan.lay_out.Goals as goal

pub index_items-requires : goal.index_items-requires
index_items-requires c = placed_indexed c.args.pages.now 0 c.args.items.items c.deref.result.now c.requires.laid
    (ap (λ (xs : List PlacedItem). map seen xs) c.deref.ensures.value ∙ c.in_ok-placed.ensures)
