use Rattle.std.proofs.Common.{w64, arith}
use Rattle.std.proofs.lemmas.Nat.Bits.{bit_at-trailing_zeros}
use Rattle.page_alloc.proofs.lowest_bit.Goals as goal

pub returns-clause-one : goal.returns-clause-one
returns-clause-one c = let fits = c.ranges.word in rw (c.from.ensures) (bit_at-trailing_zeros w64 c.args.word c.requires (omega arith)).1

pub returns-clause-lowest : goal.returns-clause-lowest
returns-clause-lowest c = let fits = c.ranges.word in rw (c.from.ensures) (bit_at-trailing_zeros w64 c.args.word c.requires (omega arith)).2
