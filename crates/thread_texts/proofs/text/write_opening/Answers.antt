use Rattle.std.proofs.Common.{rules, ◌≡◌, ◌∙◌, ◌++◌, ℕ, List, ap, sym, append_assoc}
use Rattle.std.specs.Prelude.{slice_index}
use Rattle.std.specs.List.{flat_map, range_with_len}
use Rattle.thread_texts.specs.Texts.{row_line}
use Rattle.thread_texts.proofs.Rows.{flat_more}
use Rattle.thread_texts.proofs.text.write_opening.Goals as goal

pub loop-slot-preserved : goal.loop-slot-preserved
loop-slot-preserved c =
    let words = c.args.words.now in
    let k = c.loop-slot.slot in
    let f : ℕ → List ℕ = λ j. row_line j (slice_index words j) in
    let here : c.write_row.new.text.items ≡ c.loop-slot.text.items ++ f k = search rules in
    here
    ∙ ap (λ (t : List ℕ). t ++ f k) c.loop-slot.invariant
    ∙ append_assoc c.args.text.now.items (flat_map f (range_with_len 0 k)) (f k)
    ∙ ap (λ (t : List ℕ). c.args.text.now.items ++ t) (sym (flat_more f k))
