use Rattle.std.proofs.Common.{◌≡◌, vec_len}
use Rattle.pm_file.proofs.transfer.read_words.Given as goal

abbrev pub invariant-loop-k : goal.invariant-loop-k
invariant-loop-k g l = vec_len l.words ≡ vec_len l.initial.words
