use Rattle.std.proofs.Common.{◌≡◌, ◌≤◌, ℕ, List, ◌+◌, ◌∙◌, ap, sym, subst, length, get_or, drop, replicate, arith, rules}
use Rattle.std.proofs.lemmas.List.{take_at}
use Rattle.std.specs.Prelude.{slice_index}
use Rattle.job_texts.specs.Told.{lines_of}
use Rattle.job_texts.specs.Telling.{Tells, told_by}
use Rattle.job_texts.proofs.TellingLaws.{told_start, told_more}
use Rattle.job_texts.proofs.told.history_lines.Goals as goal

pub loop-entry-init : goal.loop-entry-init
loop-entry-init c =
    let zeros : c.in_ok-told.told.items ≡ replicate (length c.clients-clients.result.now) 0 = search rules in
    let start = told_start c.clients-clients.result.now c.in_ok-told.told.items c.new-text.result.items c.args.history.now zeros
    c.new-text.ensures.items in
    record { so_far = start.so_far; each = start.each; few = start.few }

pub loop-entry-preserved : goal.loop-entry-preserved
loop-entry-preserved c =
    let clients = c.clients-clients.result.now in
    let old = c.loop-entry.told.items in
    let new = c.next_line-line.new.told in
    let tells : Tells clients c.entry-item.result.who old new =
    subst (λ (ns : List ℕ). Tells clients c.entry-item.result.who ns new) c.deref_mut.ensures.value c.next_line-line.ensures.tells in
    let kept = take_at new (drop (length new) old) c.loop-entry.told.len (omega (arith, tells.long, c.loop-entry.told.ok.0)) in
    record {
      so_far = told_more clients old new _ c.loop-entry.text.items c.write_line.new.text.items _ c.args.history.now c.loop-entry.entry-index
          c.entry-item.result c.next_line-line.result (omega arith) c.entry-item.is c.loop-entry.invariant.so_far
          (c.next_line-line.ensures.line ∙ ap (λ (ns : List ℕ). slice_index (lines_of clients c.entry-item.result.who) (told_by clients ns
          c.entry-item.result.who)) c.deref_mut.ensures.value) tells kept
          c.in_ok-write_line.ensures;
      each = ap length kept ∙ tells.long ∙ c.loop-entry.invariant.each;
      few = λ k. subst (λ (ns : List ℕ). get_or ns k 0 ≤ c.loop-entry.entry-index + 1) (sym kept)
          (let f = tells.few k in let g = c.loop-entry.invariant.few k in omega (arith, f, g));
    }
