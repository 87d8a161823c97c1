use Rattle.recovery.proofs.Formatted.{same_still, still_leaves, same_leaves}
use Rattle.recovery.proofs.empty.format.Goals as goal

pub make_image-requires-clause-still : goal.make_image-requires-clause-still
make_image-requires-clause-still g c =
    let S = g.D.Pm.state in same_still (S c.args.device.now) (S c.ready.new.self) c.ready.ensures.same (g.met.D.Pm.agree c.args.device.now)
    c.requires.still

pub returns-then-words-g-clause-any_moment : goal.returns-then-words-g-clause-any_moment
returns-then-words-g-clause-any_moment g c = still_leaves c.args.g (g.D.Pm.state c.args.device.now) (g.met.D.Pm.agree c.args.device.now)
    c.requires.still

pub returns-then-is_err-clause-any_moment : goal.returns-then-is_err-clause-any_moment
returns-then-is_err-clause-any_moment g c =
    let S = g.D.Pm.state in same_leaves c.args.g (S c.args.device.now) (S c.ready.new.self) c.ready.ensures.same (g.met.D.Pm.agree c.args.device.now)
    c.requires.still
