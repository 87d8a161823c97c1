use Rattle.std.proofs.Common.{length, arith}
use Rattle.log_entry.proofs.Words.{filled_words}
use Rattle.log_entry.proofs.write.put_words.Goals as goal

pub returns : goal.returns
returns c =
    filled_words c.args.name.now c.args.word (length c.args.into.now) c.loop-i.into c.loop-i.auto.into
    (λ k lt. c.loop-i.invariant k (omega arith))
