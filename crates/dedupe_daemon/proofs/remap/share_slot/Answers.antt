use Rattle.std.proofs.Common.{ℕ, [], ◌∷◌, ◌∙◌, ap}
use Rattle.dedupe_daemon.proofs.ShareAppended.{slot_spelled}
use Rattle.dedupe_daemon.proofs.remap.share_slot.Goals as goal

pub returns : goal.returns
returns c = ap (λ (flag : ℕ). (1 ∷ c.args.idx ∷ 1 ∷ c.args.page ∷ c.args.size ∷ flag ∷ 0 ∷ 0 ∷ []) ∷ []) c.number.ensures ∙ slot_spelled c.args.idx
    c.args.page c.args.size
