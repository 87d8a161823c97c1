use Rattle.std.proofs.Common.{◌≡◌, ◌≤◌, ◌+◌, ◌∷◌, [], List, ℕ, length, sym, ap, ◌∙◌, subst, length-append}
use Rattle.std.specs.Prelude.{slice_index}
use Rattle.dn_volume.specs.Events.{word_at}
use Rattle.dn_shared.proofs.Opened.{grown}
use Rattle.dn_shared.proofs.opening.words_of_rows.Goals as goal

pub loop-slot-preserved : goal.loop-slot-preserved
loop-slot-preserved g c = let inv = c.loop-slot.invariant in let p = c.push_reserved.ensures in record {
  long = ap length p.items ∙ (length-append c.loop-slot.words.items (c.word_of_row.result ∷ []) ∙ ap (λ n. n + 1) inv.long);
  room = subst (λ (n : ℕ). c.slots-slots.result ≤ n) (sym p.capacity) inv.room;
  each = λ d k volume lt. subst (λ (l : List ℕ). slice_index l k ≡ word_at d k) (sym p.items)
      (grown c.loop-slot.words.items c.word_of_row.result c.loop-slot.slot (word_at d) inv.long (λ j within. inv.each d j volume within)
      (sym (c.word_of_row.ensures d volume)) k lt);
}
