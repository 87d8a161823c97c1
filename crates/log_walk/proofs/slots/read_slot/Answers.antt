use Rattle.std.proofs.Common.{ℕ, arith}
use Rattle.std.specs.Prelude.{slice_index}
use Rattle.std.proofs.lemmas.List.FromFn.{fill_by_all}
use Rattle.dn_model.specs.Log.{log_word}
use Rattle.log_walk.proofs.slots.read_slot.Goals as goal

pub returns : goal.returns
returns g c =
    let now = (g.D.Pm.state c.args.device.now).now in
    fill_by_all (λ (j : ℕ). slice_index now (log_word c.args.pages.now c.args.k j)) c.loop-j.word-items 8 0 c.loop-j-test.array_long
    (λ k lt. c.loop-j.invariant k (omega (arith, lt, c.loop-j-test.false)))
