use Rattle.std.proofs.Common.{◌≡◌, ◌++◌, List, ℕ, subst, arith}
use Rattle.std.specs.Prelude.{IfOk}
use Rattle.dedupe_daemon.proofs.AheadPages.{begun_fits, begun_found}
use Rattle.dedupe_daemon.proofs.ahead.push_begun.Goals as goal

pub index-requires : goal.index-requires
index-requires g c = let fits = begun_fits g.D.Pm.state c.args.v.now c.requires.agrees c.requires.running c.in-Some.item c.in-Some.is in
    omega (arith, fits.0, c.args.v.now.parts.inodes.ok.0)

pub push_item-requires : goal.push_item-requires
push_item-requires g c = (begun_fits g.D.Pm.state c.args.v.now c.requires.agrees c.requires.running c.in-Some.item c.in-Some.is).1

pub returns : goal.returns
returns g c = subst (λ (ps : List ℕ). IfOk c.push_item.result (λ _. c.push_item.new.pages.items ≡ c.args.pages.now.items ++ ps))
    (begun_found c.args.v.now.parts.inodes.items c.args.v.now.parts.sharing c.in-Some.item c.in-Some.is
    (begun_fits g.D.Pm.state c.args.v.now c.requires.agrees c.requires.running c.in-Some.item c.in-Some.is).0
    c.index.result.now c.index.ensures) c.push_item.ensures
