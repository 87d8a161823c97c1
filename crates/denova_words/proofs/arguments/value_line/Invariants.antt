use Rattle.std.proofs.Common.{◌≡◌, map, string_bytes, take}
use Rattle.denova_words.specs.Parses.{value_line}
use Rattle.denova_words.proofs.arguments.value_line.Given as goal

abbrev pub invariant-loop-word : goal.invariant-loop-word
invariant-loop-word l = map (λ w. w.now) l.line.items ≡ value_line (map string_bytes (take l.word-index l.words))
