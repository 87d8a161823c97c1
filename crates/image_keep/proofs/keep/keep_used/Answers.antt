use Rattle.std.proofs.Common.{List, subst}
use Rattle.log_walk.specs.declared.items.Placed.{Placed as PlacedItem}
use Rattle.image_keep.specs.Keeping.{KeepsLive}
use Rattle.image_keep.proofs.KeptInodes.{on_ok, kept_live, kept_dying}
use Rattle.image_keep.proofs.keep.keep_used.Goals as goal

pub returns-then-slot-eq-LIVE : goal.returns-then-slot-eq-LIVE
returns-then-slot-eq-LIVE c = on_ok c.keep_live.result _ _ (λ keeps.
    kept_live c.args.ino c.args.kept.now c.keep_live.new.kept c.args.used c.if-slot-eq-LIVE.true
    (subst (λ (ps : List PlacedItem). KeepsLive c.args.ino c.args.used.log.index c.args.used.log.pages ps c.args.kept.now c.keep_live.new.kept)
    c.deref.ensures.value keeps))
    c.keep_live.ensures

pub returns : goal.returns
returns c = on_ok c.keep_dying.result _ _ (kept_dying c.args.ino c.args.kept.now c.keep_dying.new.kept c.args.used c.if-slot-eq-LIVE.false)
    c.keep_dying.ensures
