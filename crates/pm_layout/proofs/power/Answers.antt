use Rattle.std.proofs.Common.{◌^◌, ◌≤◌, arith}
use Rattle.std.proofs.Math.Pow.{pow_mono}
use Rattle.pm_layout.proofs.power.Goals as goal

pub returns : goal.returns
returns c = let top : 2 ^ c.args.bits ≤ 2 ^ 16 = pow_mono c.requires in record { value = omega (arith, top); high = omega (arith, top) }
