use Rattle.std.proofs.Common.{ℕ, List, refl, arith}
use Rattle.dn_model.specs.Files.{files}
use Rattle.dn_report.specs.Listing.{file_line}
use Rattle.file_looks.proofs.Listed.{entry_leads, texts_more, lists_last}
use Rattle.file_looks.proofs.listing.list_text.Goals as goal

pub write_entry-requires-clause-leads : goal.write_entry-requires-clause-leads
write_entry-requires-clause-leads g c = entry_leads c.args.v.now.parts c.entries-entries.ensures c.loop-entry.entry-index c.entry-item.result
    (omega arith) c.entry-item.is

pub loop-entry-preserved : goal.loop-entry-preserved
loop-entry-preserved g c = λ d volume. texts_more (λ (e : List ℕ × ℕ). file_line (files d) e.0) c.entries-entries.result.now c.loop-entry.entry-index
    c.entry-item.result c.loop-entry.text.items c.write_entry.new.text.items (file_line (files d) c.entry-item.result.0) (omega arith) c.entry-item.is
    (c.loop-entry.invariant d volume) (c.in_ok-write_entry.ensures d volume) refl

pub returns : goal.returns
returns g c = λ d volume. lists_last d c.args.v.now.parts (g.D.Pm.state c.args.v.now.device) volume c.entries-entries.result.now
    c.entries-entries.ensures c.loop-entry.text.items _ c.loop-entry.entry-index (omega arith) (c.loop-entry.invariant d volume)
    c.in_ok-write_file_count.ensures
