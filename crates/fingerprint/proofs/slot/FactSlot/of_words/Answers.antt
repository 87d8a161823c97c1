use Rattle.std.proofs.Common.{◌^◌, ◌<◌, ℕ, List, refl, ◌∙◌, ap, arith}
use Rattle.std.specs.Prelude.{slice_index}
use Rattle.fingerprint.specs.Print.{print_word}
use Rattle.fingerprint.proofs.SlotLaws.{made-first, made-second, made-third, read-one}
use Rattle.fingerprint.proofs.slot.FactSlot.of_words.Goals as goal

pub returns-clause-read : goal.returns-clause-read
returns-clause-read c =
    let x = slice_index c.args.words.now 1 in
    let y = slice_index c.args.words.now 2 in
    let small : c.low_half.result < 256 ^ 4 = let half = c.low_half.ensures in omega arith in
    record {
      page = refl;
      first = ap (λ (p : List ℕ). print_word p 0) c.print_of.ensures.spelled ∙ made-first x y c.low_half.result (c.fits-words 1) (c.fits-words 2)
          small;
      second = ap (λ (p : List ℕ). print_word p 1) c.print_of.ensures.spelled ∙ made-second x y c.low_half.result (c.fits-words 1) (c.fits-words 2)
          small;
      third = ap (λ (p : List ℕ). print_word p 2) c.print_of.ensures.spelled ∙ made-third x y c.low_half.result (c.fits-words 1) (c.fits-words 2)
          small ∙ c.low_half.ensures;
      count = c.of_word.ensures.same;
      next = refl;
    }

pub returns-clause-fits : goal.returns-clause-fits
returns-clause-fits c = let word = c.fits-words 4 in let counts = c.of_word.ensures in record {
  print = c.print_of.ensures.print;
  rfc = omega arith;
  uc = omega arith;
}

pub returns-clause-back : goal.returns-clause-back
returns-clause-back c = read-one c.args.words.now _ (returns-clause-fits c) (returns-clause-read c)
