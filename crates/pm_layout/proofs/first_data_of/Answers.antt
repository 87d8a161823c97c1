use Rattle.std.proofs.Common.{◌-◌, ◌^◌, ap, ◌∙◌, arith}
use Rattle.pm_layout.specs.Geometry.{first_data}
use Rattle.pm_layout.proofs.first_data_of.Goals as goal

pub returns-clause-value : goal.returns-clause-value
unfolding first_data
returns-clause-value c =
    let direct = c.power-direct_pages.ensures.value ∙ ap (λ b. 2 ^ (b - 6)) c.bits_for.ensures.value in
    omega (arith, direct, c.div_ceil.ensures, c.div_ceil-2.ensures, c.div_ceil-3.ensures)
