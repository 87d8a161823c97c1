use Rattle.std.proofs.Common.{arith}
use Rattle.file_write.proofs.Taking.{last-below, last-taken, untaken-one, untaken-all, none-left}
use Rattle.file_write.proofs.take.untake_pages.Goals as goal

pub give_back-requires-clause-below : goal.give_back-requires-clause-below
give_back-requires-clause-below c = let i = c.pages.invariant.0 in last-below i.0 c.pages.free c.pages.left.items c.pop.new.self.items c.in-Some.page
    i.1 i.2 c.in-Some.ensures.items

pub give_back-requires-clause-taken : goal.give_back-requires-clause-taken
give_back-requires-clause-taken c = let i = c.pages.invariant.0 in last-taken i.0 c.pages.free c.pages.left.items c.pop.new.self.items c.in-Some.page
    i.1 i.2 c.in-Some.ensures.items

pub pages-preserved : goal.pages-preserved
pages-preserved c =
    let i = c.pages.invariant.0 in
    let back = c.give_back.ensures.gives_back in (
      (
        i.0,
        i.1,
        untaken-one i.0 c.pages.free c.pages.left.items c.pop.new.self.items c.in-Some.page i.1 i.2 c.in-Some.ensures.items
            c.give_back.new.self back,
      ),
      (λ set order takes. untaken-one set c.pages.free c.pages.left.items c.pop.new.self.items c.in-Some.page order
          (c.pages.invariant.1 set order takes) c.in-Some.ensures.items c.give_back.new.self back),
    )

pub returns : goal.returns
returns c = λ set order takes.
    untaken-all set c.pages.free c.pages.left.items (c.pages.invariant.1 set order takes)
    (none-left c.pages.left.items (λ some. c.in_default.ensures.variant.1 (omega (arith, some, c.pages.left.ok.0))))
