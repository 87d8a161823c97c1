use Rattle.std.proofs.Common.{ℕ, List, sym, ap, subst}
use Rattle.std.specs.Prelude.{OnOk}
use Rattle.dedupe_daemon.specs.Remapped.{taken_pages, SharesBetween, SharesNew, SharesThere}
use Rattle.dedupe_daemon.proofs.remap.append_with.Goals as goal

pub returns-in-Some-clause-images : goal.returns-in-Some-clause-images
returns-in-Some-clause-images g c = subst (λ (fresh : List ℕ). SharesBetween c.args.g.now c.args.n.now.ino c.args.n.now.idx c.args.n.now.size
    c.args.n.now.page fresh
    (g.D.Pm.state c.args.device.now) (g.D.Pm.state c.append_share.new.device))
    (sym (ap taken_pages c.in-Some.is)) c.append_share.ensures.images

pub returns-in-Some-clause-done : goal.returns-in-Some-clause-done
returns-in-Some-clause-done g c = subst (λ (fresh : List ℕ). OnOk c.append_share.result (SharesNew c.args.g.now c.args.n.now.ino c.args.n.now.idx
    c.args.n.now.size c.args.n.now.page fresh
    (g.D.Pm.state c.args.device.now) (g.D.Pm.state c.append_share.new.device)))
    (sym (ap taken_pages c.in-Some.is)) c.append_share.ensures.done

pub returns-in-Some-clause-only : goal.returns-in-Some-clause-only
returns-in-Some-clause-only g c = subst (λ (fresh : List ℕ). SharesThere c.args.g.now c.args.n.now.ino c.args.n.now.idx c.args.n.now.size
    c.args.n.now.page fresh
    (g.D.Pm.state c.args.device.now) (g.D.Pm.state c.append_share.new.device))
    (sym (ap taken_pages c.in-Some.is)) c.append_share.ensures.only

pub returns-in-None-clause-images : goal.returns-in-None-clause-images
returns-in-None-clause-images g c = subst (λ (fresh : List ℕ). SharesBetween c.args.g.now c.args.n.now.ino c.args.n.now.idx c.args.n.now.size
    c.args.n.now.page fresh
    (g.D.Pm.state c.args.device.now) (g.D.Pm.state c.append_share-in-None.new.device))
    (sym (ap taken_pages c.in-None.is)) c.append_share-in-None.ensures.images

pub returns-in-None-clause-done : goal.returns-in-None-clause-done
returns-in-None-clause-done g c = subst (λ (fresh : List ℕ). OnOk c.append_share-in-None.result (SharesNew c.args.g.now c.args.n.now.ino
    c.args.n.now.idx c.args.n.now.size c.args.n.now.page fresh
    (g.D.Pm.state c.args.device.now) (g.D.Pm.state c.append_share-in-None.new.device)))
    (sym (ap taken_pages c.in-None.is)) c.append_share-in-None.ensures.done

pub returns-in-None-clause-only : goal.returns-in-None-clause-only
returns-in-None-clause-only g c = subst (λ (fresh : List ℕ). SharesThere c.args.g.now c.args.n.now.ino c.args.n.now.idx c.args.n.now.size
    c.args.n.now.page fresh
    (g.D.Pm.state c.args.device.now) (g.D.Pm.state c.append_share-in-None.new.device))
    (sym (ap taken_pages c.in-None.is)) c.append_share-in-None.ensures.only
