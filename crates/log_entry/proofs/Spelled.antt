-- How many slots items take.
use Rattle.std.proofs.Common.{◌≡◌, ◌+◌, ◌≤◌, List, ◌∷◌, length, arith, length-append}
use Rattle.log_entry.specs.Spelling.{spelling, spelled}
use Rattle.log_entry.specs.declared.item.LogItem.{LogItem}
use Rattle.log_entry.specs.declared.item.LogItem.TheVariants.{Write, Size, Add, Forget}

pub spelling_some : (item : LogItem) → 1 ≤ length (spelling item)
unfolding spelling
spelling_some (Write first count block size flag mask) = omega arith
spelling_some (Size size) = omega arith
spelling_some (Add ino name) = omega arith
spelling_some (Forget name) = omega arith

pub length-spelled-cons : (item : LogItem) (items : List LogItem) → length (spelled (item ∷ items)) ≡ length (spelling item) + length (spelled items)
length-spelled-cons item items = length-append (spelling item) (spelled items)
