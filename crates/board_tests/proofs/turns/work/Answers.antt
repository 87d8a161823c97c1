use Rattle.std.proofs.Common.{arith, ◌∷◌, [], ◌++◌, ap, ◌∙◌}
use Rattle.fingerprint.specs.Count.{count_word}
use Rattle.count_board.specs.declared.view.Seen.TheVariants.{Count}
use Rattle.count_board.specs.Reads.{counts_of}
use Rattle.count_board.specs.Passes.{account}
use Rattle.count_board.proofs.Fitting.{counts_of-append}
use Rattle.board_tests.proofs.Trials.{counts_of-front, done_more}
use Rattle.board_tests.proofs.turns.work.Goals as goal

pub loop-preserved : goal.loop-preserved
loop-preserved g c = let inv = c.loop.invariant in let b = c.bump-made.ensures in let f = c.read_front.ensures in let r =
    c.read_count-count.ensures in
    let was = inv.0 in let low = inv.2 in let one = b.one in
    let word = count_word c.read_count-count.result.rfc c.read_count-count.result.uc in
    let front = c.read_front.new.pass in let bumped = c.bump-made.new.pass in
    let read = ap (λ v. counts_of v.own.seen) r.1 ∙ (counts_of-append (account front).seen (Count 1 word)
    ∙ ap (λ l. l ++ Count 1 word ∷ []) (ap (λ v. counts_of v.own.seen) f.1
    ∙ (counts_of-front (account bumped).seen c.read_front.result ∙ b.counts))) in (
      (
        (r.0 ∙ (f.0 ∙ b.again.0.0), ap (λ v. v.base) r.1 ∙ (ap (λ v. v.base) f.1 ∙ b.again.0.1)),
        ap (λ v. v.stage) r.1 ∙ (ap (λ v. v.stage) f.1 ∙ b.again.1),
        ap (λ v. v.lead) r.1 ∙ (ap (λ v. v.lead) f.1 ∙ (b.again.2 ∙ was.2)),
        ap (λ v. v.own.number) r.1 ∙ (ap (λ v. v.own.number) f.1 ∙ (b.again.3 ∙ was.3)),
      ),
      done_more _ c.loop.made c.bump-made.result word c.loop.words.items c.push_reserved.new.self.items (account c.loop.pass)
          (account c.read_count-count.new.pass) inv.1
          (ap (λ v. v.own.number) r.1 ∙ (ap (λ v. v.own.number) f.1 ∙ b.again.3))
          (ap (λ v. v.own.calls) r.1 ∙ (ap (λ v. v.own.calls) f.1 ∙ b.calls))
          read
          (c.push_reserved.ensures.items ∙ (λ i. c.reserve.ensures.items i ++ c.word.ensures i ∷ [])),
      omega arith,
    )
