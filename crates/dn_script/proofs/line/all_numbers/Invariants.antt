use Rattle.std.proofs.Common.{◌≡◌, length}
use Rattle.dn_script.specs.Line.{numbers_of}
use Rattle.dn_script.proofs.NumberLists.{with_read}
use Rattle.dn_script.proofs.line.all_numbers.Given as goal

abbrev pub invariant-loop-word : goal.invariant-loop-word
invariant-loop-word l = with_read l.numbers.items (numbers_of l.words) ≡ numbers_of l.initial.words

abbrev pub decreases-loop-word : goal.decreases-loop-word
decreases-loop-word l = length l.words
