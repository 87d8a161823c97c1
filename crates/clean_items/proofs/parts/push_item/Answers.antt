use Rattle.std.proofs.Common.{◌≡◌, ◌++◌, sym, subst, OnOk}
use Rattle.log_entry.specs.declared.item.LogItem.{LogItem}
use Rattle.law_clean.specs.Cleaned.{parts_of}
use Rattle.clean_items.specs.Cleaning.{maps_still}
use Rattle.clean_items.proofs.parts.push_item.Goals as goal

pub returns-in-Write : goal.returns-in-Write
returns-in-Write c = subst
    (λ (item : LogItem). OnOk c.push_parts.result (c.push_parts.new.parts.items ≡ c.args.parts.now.items ++ parts_of
    (maps_still c.args.places.now.map c.args.placed.now.slot) c.args.size item))
    (sym c.in-Write.is) (c.push_parts.ensures c.in-Write.size)
