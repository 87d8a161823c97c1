use Rattle.std.proofs.Common.{◌≡◌, [], ◌∷◌, ◌++◌, length, sym, ap, subst, arith, length-append}
use Rattle.file_write.specs.Take.{TakesFirst}
use Rattle.file_write.proofs.Taking.{took-none, took-one, took-length}
use Rattle.file_write.proofs.take.take_pages.Goals as goal

pub loop-i-init : goal.loop-i-init
loop-i-init c =
    let made = c.in_ok-pages.ensures in (
      ap length made.items,
      subst (TakesFirst c.args.free.now c.args.free.now) (sym made.items) (took-none c.args.free.now),
      omega arith,
      omega (arith, made.capacity),
      made.len,
    )

pub take_page-requires : goal.take_page-requires
take_page-requires c = omega (
  arith,
  took-length c.args.free.now c.loop-i.free c.loop-i.pages.items c.loop-i.invariant.1,
  c.loop-i.invariant.0,
  c.requires,
  c.loop-i-test.true,
)

pub push_reserved-requires : goal.push_reserved-requires
push_reserved-requires c = omega (arith, c.loop-i.invariant.3, c.loop-i.invariant.4, c.loop-i-test.true)

pub loop-i-preserved : goal.loop-i-preserved
loop-i-preserved c =
    let pushed = c.push_reserved.ensures in
    let is : c.push_reserved.new.self.items ≡ c.loop-i.pages.items ++ c.take_page.result ∷ [] = pushed.items in (
      omega (arith, ap length is, length-append c.loop-i.pages.items (c.take_page.result ∷ []), c.loop-i.invariant.0),
      subst (TakesFirst c.args.free.now c.take_page.new.free) (sym is) (took-one c.args.free.now c.loop-i.free c.take_page.new.free
          c.loop-i.pages.items c.take_page.result c.loop-i.invariant.1 c.take_page.ensures),
      omega (arith, c.loop-i-test.true),
      omega (arith, pushed.capacity, c.loop-i.invariant.3),
      omega (arith, pushed.len, c.loop-i.invariant.4),
    )

pub returns-clause-taken : goal.returns-clause-taken
returns-clause-taken c = c.loop-i.invariant.1

pub returns-clause-count : goal.returns-clause-count
returns-clause-count c = omega (arith, c.loop-i.invariant.0, c.loop-i-test.false, c.loop-i.invariant.2)
