use Rattle.std.proofs.Common.{◌∷◌, arith, append-nil, sym, ap, ◌∙◌}
use Rattle.log_entry.proofs.Words.{name_slots-more}
use Rattle.log_entry.proofs.write.name_slot.Goals as goal

pub returns-else-slot-eq0 : goal.returns-else-slot-eq0
returns-else-slot-eq0 c =
    ap (λ ws. 5 ∷ ws) (append-nil c.put_words-else-slot-eq0.new.into ∙ c.put_words-else-slot-eq0.ensures)
    ∙ sym (name_slots-more c.args.kind c.args.ino c.args.name.now c.args.slot (omega arith) c.requires.slot)
