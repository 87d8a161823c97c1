use Rattle.std.proofs.Common.{◌≡◌, ◌++◌, List, ℕ, false, subst, sym, ◌∙◌, ap, append-nil}
use Rattle.std.specs.Prelude.{IfOk}
use Rattle.std.proofs.lemmas.Bool.{false≢true}
use Rattle.dn_volume.specs.declared.volume.InodeState.{InodeState}
use Rattle.dedupe_daemon.specs.Fronts.{IsFreshWork}
use Rattle.dedupe_daemon.proofs.AheadPages.{work_none, work_small, work_fits, work_there, work_item, fresh_pages}
use Rattle.dedupe_daemon.proofs.ahead.push_work.Goals as goal

pub item_at-item-requires-clause-small : goal.item_at-item-requires-clause-small
item_at-item-requires-clause-small g c = work_small g.D.Pm.state c.args.v.now c.requires.agrees c.requires.running c.args.work
    (subst (λ (ns : List InodeState). IsFreshWork ns c.args.work) c.deref.ensures.value (c.is_fresh.ensures.0 c.if-is_fresh.true))

pub item_at-item-requires-clause-inside : goal.item_at-item-requires-clause-inside
item_at-item-requires-clause-inside g c = work_fits g.D.Pm.state c.args.v.now c.requires.agrees c.requires.running c.args.work
    (subst (λ (ns : List InodeState). IsFreshWork ns c.args.work) c.deref.ensures.value (c.is_fresh.ensures.0 c.if-is_fresh.true))

pub push_item-requires : goal.push_item-requires
push_item-requires g c = work_item g.D.Pm.state c.args.v.now c.requires.agrees c.requires.running c.args.work
    (subst (λ (ns : List InodeState). IsFreshWork ns c.args.work) c.deref.ensures.value (c.is_fresh.ensures.0 c.if-is_fresh.true))
    c.item_at-item.result c.item_at-item.ensures

pub returns-then-is_fresh : goal.returns-then-is_fresh
returns-then-is_fresh g c = subst (λ (ps : List ℕ). IfOk c.push_item.result (λ _. c.push_item.new.pages.items ≡ c.args.pages.now.items ++ ps))
    (fresh_pages c.args.v.now.parts.inodes.items c.args.work (g.D.Pm.state c.args.v.now.device).now
    (subst (λ (ns : List InodeState). IsFreshWork ns c.args.work) c.deref.ensures.value (c.is_fresh.ensures.0 c.if-is_fresh.true))
    c.index.result.now c.index.ensures c.item_at-item.result c.item_at-item.ensures) c.push_item.ensures

pub returns-else-is_fresh : goal.returns-else-is_fresh
returns-else-is_fresh g c = sym (ap (λ (ps : List ℕ). c.args.pages.now.items ++ ps)
    (work_none g.D.Pm.state c.args.v.now c.requires.agrees c.requires.running c.args.work
    (λ fresh. false≢true (sym c.if-is_fresh.false
    ∙ c.is_fresh.ensures.1 (subst (λ (ns : List InodeState). IsFreshWork ns c.args.work) (sym c.deref.ensures.value) fresh))))
    ∙ append-nil c.args.pages.now.items)
