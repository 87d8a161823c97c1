use Rattle.std.proofs.Common.{arith}
use Rattle.pm_layout.specs.Geometry.{first_data, pointer_word}
use Rattle.pm_layout.proofs.Geometry.pointer_word.Goals as goal

pub overflow_sub-pointer_page : goal.overflow_sub-pointer_page
unfolding first_data
overflow_sub-pointer_page c = omega (arith, c.first_data.ensures, c.div_ceil.ensures)

pub returns : goal.returns
unfolding first_data pointer_word
returns c = omega (arith, c.first_data.ensures, c.div_ceil.ensures)
