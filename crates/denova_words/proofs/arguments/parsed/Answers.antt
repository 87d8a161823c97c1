use Rattle.std.proofs.Common.{◌≡◌, inl, inr}
use Rattle.clap.specs.Words.{kind_of}
use Rattle.denova_words.proofs.arguments.parsed.Goals as goal

pub returns-in_ok-other_than_memory-in-Err-clause-none : goal.returns-in_ok-other_than_memory-in-Err-clause-none
returns-in_ok-other_than_memory-in-Err-clause-none c = record {
  kind = kind_of c.in-Err.error;
  among = λ simple. elim (c.in-Err.ensures.kinds simple) [
    | inl memory ↦ absurd (c.in_ok-other_than_memory-in-Err.ensures memory)
    | inr among ↦ among
  ];
}
