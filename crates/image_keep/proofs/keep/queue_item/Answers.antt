use Rattle.std.proofs.Common.{[], refl, sym, inr}
use Rattle.std.proofs.lemmas.List.{append-nil}
use Rattle.log_walk.specs.Items.{seen}
use Rattle.image_keep.specs.Waiting.{IsOpenBy}
use Rattle.image_keep.proofs.Queued.{refuted}
use Rattle.image_keep.proofs.keep.queue_item.Goals as goal

pub returns-else-is_open : goal.returns-else-is_open
returns-else-is_open c =
    let closed = refuted c.is_open.result (IsOpenBy c.args.map.now.map (seen c.args.placed.now)) c.is_open.ensures.1 c.if-is_open.false in
    record { more = []; items = sym (append-nil c.args.work.now.items); one = λ is. absurd (closed is); none = λ none. refl; whether = inr closed }
