use Rattle.std.proofs.Common.{length}
use Rattle.page_alloc.specs.Free.{FreePages, IsInOrder}
use Rattle.file_write.specs.Take.{TakesFirst}
use Rattle.file_write.proofs.take.untake_pages.Given as goal

abbrev pub invariant-pages : goal.invariant-pages
invariant-pages l = ((set : FreePages) × IsInOrder set × TakesFirst set l.free l.left.items) × ((set : FreePages) → IsInOrder set
    → TakesFirst set l.fn.free l.fn.pages.items → TakesFirst set l.free l.left.items)

abbrev pub decreases-pages : goal.decreases-pages
decreases-pages l = length l.left.items
