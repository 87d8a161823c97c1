-- Where the delete pointers lie.
use Rattle.std.proofs.Common.{ℕ, ◌+◌, ◌*◌, ◌/◌, ◌<◌, ◌≤◌, arith}
use Rattle.pm_layout.specs.declared.Geometry.{Geometry}
use Rattle.pm_layout.specs.Geometry.{IsAccepted, pointer_word, first_data}

-- the line of a page's pointer ends before the data area
pub pointer_word-below_data : (g : Geometry) (page : ℕ) → IsAccepted g → page < g.pages → pointer_word g page / 8 * 8 + 8 ≤ 512 * first_data g
unfolding first_data pointer_word
pointer_word-below_data g page is lt = omega arith
