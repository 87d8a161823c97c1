use Rattle.std.proofs.Common.{sym, ◌∙◌, ap}
use Rattle.std.proofs.lemmas.List.{take_all}
use Rattle.log_entry.specs.Spelling.{spelled}
use Rattle.log_entry.specs.declared.item.LogItem.{LogItem}
use Rattle.std.specs.Prelude.{List}
use Rattle.log_clean.proofs.Planned.{spelled_next, laid_at}
use Rattle.log_clean.proofs.plan.spell.Goals as goal

pub write_item-requires : goal.write_item-requires
write_item-requires c = (laid_at c.args.items.now c.loop-i.i c.index-items-i.result c.loop-i-test.true c.index-items-i.is c.requires).0

pub loop-i-preserved : goal.loop-i-preserved
loop-i-preserved c = spelled_next c.args.items.now c.loop-i.i c.index-items-i.result c.loop-i.slots.items c.write_item.new.into.items
    c.loop-i-test.true c.index-items-i.is c.loop-i.invariant c.in_ok-write_item.ensures.ok

pub returns : goal.returns
returns c = sym (c.loop-i.invariant ∙ ap (λ (xs : List LogItem). spelled xs) (take_all c.loop-i.i c.args.items.now c.loop-i-test.false))
