use Rattle.std.proofs.Common.{◌≡◌}
use Rattle.std.specs.Slice.Iter.{chunks_size}
use Rattle.pm_file.proofs.transfer.write_words.Given as goal

-- the pieces are of a page at most
abbrev pub invariant-loop-page : goal.invariant-loop-page
invariant-loop-page g l =
    (goal.iterator-loop-page g).can_next l.page-iterator × (goal.iterator-loop-page g).is_finite l.page-iterator × (chunks_size l.page-iterator ≡ 512)
