use Rattle.std.proofs.Common.{sym, subst}
use Rattle.std.specs.Prelude.{OnOk}
use Rattle.log_entry.specs.declared.item.LogItem.{LogItem}
use Rattle.file_scan.specs.Index.{Remaps}
use Rattle.file_scan.proofs.index.add_item.Goals as goal

pub returns-in-Write : goal.returns-in-Write
returns-in-Write c = subst (λ (item : LogItem). OnOk c.add_write.result (Remaps (record { slot = c.args.placed.now.slot; item = item })
    c.args.index.now c.add_write.new.index)) (sym c.in-Write.is) (c.add_write.ensures c.in-Write.flag c.in-Write.mask)
