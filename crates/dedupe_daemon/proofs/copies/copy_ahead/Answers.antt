use Rattle.std.proofs.Common.{List, ℕ, Bool, subst, sym, ◌∙◌}
use Rattle.dedupe_daemon.specs.Copies.{AreInside}
use Rattle.dedupe_daemon.proofs.AheadPages.{pages_fit}
use Rattle.dedupe_daemon.proofs.copies.copy_ahead.Goals as goal

pub copy_pages-requires : goal.copy_pages-requires
copy_pages-requires g c = subst (AreInside (g.D.Pm.state c.args.v.now.device).now) (sym (c.deref.ensures.value ∙ c.in_ok-pages.ensures))
    (pages_fit g.D.Pm.state c.args.v.now c.requires c.if-v.false c.args.most)
