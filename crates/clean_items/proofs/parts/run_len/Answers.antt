use Rattle.std.proofs.Common.{◌≡◌, ◌+◌, true, arith, rules}
use Rattle.clean_items.specs.Cleaning.{maps_still}
use Rattle.clean_items.proofs.PartsLoop.{run_len-next}
use Rattle.clean_items.proofs.parts.run_len.Goals as goal

pub loop-k-preserved : goal.loop-k-preserved
loop-k-preserved c =
    let passes : maps_still c.args.places.now.map c.args.slot (c.args.idx + c.loop-k.k) ≡ true = first_of (cc, search rules, grind arith) in
    run_len-next (maps_still c.args.places.now.map c.args.slot) c.args.idx c.loop-k.k c.args.n _ c.loop-k-test.true passes c.loop-k.invariant
