use Rattle.std.proofs.Common.{◌*◌, ℕ, sym, ap, ◌∙◌}
use Rattle.image_tests.proofs.FirstLog.{can_first, same_words}
use Rattle.image_tests.proofs.growth.commit_first.Goals as goal

pub prepare-tail-requires-clause-can : goal.prepare-tail-requires-clause-can
prepare-tail-requires-clause-can c = can_first _ _ c.requires.pages c.requires.inodes c.requires.tail

pub commit_log-requires-clause-size : goal.commit_log-requires-clause-size
commit_log-requires-clause-size c = same_words _ _ c.requires.pages c.requires.inodes c.requires.tail _ _ c.prepare-tail.ensures.prepared ∙
    c.requires.size ∙ ap (λ (n : ℕ). 512 * n) (sym c.requires.pages)
