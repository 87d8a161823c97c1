-- The lines of the inode table lie in the image.
use Rattle.std.proofs.Common.{◌≡◌, ℕ, ◌+◌, ◌*◌, ◌/◌, ◌<◌, ◌≤◌, arith}
use Rattle.pm_layout.specs.declared.Geometry.{Geometry}
use Rattle.pm_layout.specs.Geometry.{IsAccepted, inode_word, first_data}

field_low : (g : Geometry) (ino field : ℕ) → ino < g.inodes → field < 16 → inode_word ino field < 512 * first_data g
unfolding first_data
field_low g ino field in_table small = omega arith

-- the line of a field, which ends in the image
pub line_inside : (g : Geometry) (ino field size at : ℕ) → IsAccepted g → size ≡ 512 * g.pages → ino < g.inodes → field < 16
    → at ≡ inode_word ino field → at / 8 * 8 + 8 ≤ size
line_inside g ino field size at accepted whole in_table small place =
    let low = field_low g ino field in_table small in omega (arith, low, accepted.room, whole, place)
