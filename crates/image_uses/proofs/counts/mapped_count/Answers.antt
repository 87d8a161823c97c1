use Rattle.std.proofs.Common.{◌≡◌, ℕ, ◌≤◌, true, false, arith}
use Rattle.std.specs.Prelude.{slice_index, nat_lt}
use Rattle.std.proofs.lemmas.Bool.Decides.{nat_tests}
use Rattle.image_uses.proofs.Numbers.{counts-if, counts-none}
use Rattle.image_uses.proofs.FreePages.{all_mapped}
use Rattle.image_uses.proofs.counts.mapped_count.Goals as goal

positive : (n : ℕ) → nat_lt 0 n ≡ true → 1 ≤ n
positive n e = grind (arith, nat_tests)

not_positive : (n : ℕ) → nat_lt 0 n ≡ false → 1 ≤ n → ⊥
not_positive n e some = grind (arith, nat_tests)

pub loop-page-init : goal.loop-page-init
loop-page-init c = counts-none (λ page. 1 ≤ slice_index c.args.mapped.now page) 0 (λ x has. omega arith)

pub loop-page-preserved : goal.loop-page-preserved
loop-page-preserved c =
    let places = slice_index c.args.mapped.now c.loop-page.page in
    counts-if (λ page. 1 ≤ slice_index c.args.mapped.now page) c.loop-page.page c.loop-page.count c.count_if-count.result (nat_lt 0 places)
    c.loop-page.invariant (positive places) (not_positive places)
    c.count_if-count.ensures.yes c.count_if-count.ensures.no

pub returns : goal.returns
returns c = λ d in_logs counted read. all_mapped d in_logs c.args.mapped.now counted read c.loop-page.page c.loop-page.count
    (omega (arith, c.loop-page-test.false, c.loop-page.auto.page-end)) c.loop-page.invariant
