use Rattle.std.proofs.Common.{lit<, arith}
use Rattle.log_entry.proofs.Words.{word_fits, more_below, number_more}
use Rattle.log_entry.proofs.write.name_word.Goals as goal

pub overflow_mul-number : goal.overflow_mul-number
overflow_mul-number c = let fits = word_fits c.loop-i.i c.loop-i.number 0 c.loop-i-test.true c.loop-i.invariant.fits (lit< tt) in omega (arith, fits)

pub overflow_add-number : goal.overflow_add-number
overflow_add-number c =
    let fits = word_fits c.loop-i.i c.loop-i.number c.byte_or_zero.result c.loop-i-test.true c.loop-i.invariant.fits c.byte_or_zero.type_inv in
    omega (arith, fits, c.from.ensures)

pub loop-i-preserved : goal.loop-i-preserved
loop-i-preserved c = record {
  number = rw c.from.ensures (number_more c.args.name.now c.args.word c.loop-i.i c.loop-i.number c.byte_or_zero.result c.loop-i-test.true
      c.loop-i.invariant.number c.byte_or_zero.ensures);
  fits = rw c.from.ensures (more_below c.loop-i.i c.loop-i.number c.byte_or_zero.result c.loop-i.invariant.fits c.byte_or_zero.type_inv);
}
