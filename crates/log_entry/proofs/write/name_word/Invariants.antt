use Rattle.std.proofs.Common.{◌≡◌, ◌+◌, ◌-◌, ◌*◌, ◌^◌, ◌<◌}
use Rattle.log_entry.specs.Spelling.{le_number}
use Rattle.log_entry.proofs.write.name_word.Given as goal

abbrev pub invariant-loop-i : goal.invariant-loop-i
invariant-loop-i l = record { number : l.number ≡ le_number l.name (8 * l.word + 8 - l.i) l.i; fits : l.number < 256 ^ l.i }
