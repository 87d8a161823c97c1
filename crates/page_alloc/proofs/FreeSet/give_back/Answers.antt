use Rattle.std.proofs.Common.{sym, subst, arith}
use Rattle.std.specs.Vec.{with_items}
use Rattle.page_alloc.specs.Free.{GivesBack}
use Rattle.page_alloc.proofs.Sets.{in_order, set_of}
use Rattle.page_alloc.proofs.Written.{give-count_lt, give-bitmap, give-gives_back, refilled, refilled_words}
use Rattle.page_alloc.proofs.FreeSet.give_back.Goals as goal

pub overflow_add-self : goal.overflow_add-self
overflow_add-self c =
    let s = c.self.inside in
    let h = c.self.ranges in
    let lt = give-count_lt s.words.items s.summary.items s.pages s.count c.self.invariant c.args.page (rw (← c.self.view_is) at c.requires.below)
    (rw (← c.self.view_is) at c.requires.taken) c.mark.new.words (rw c.deref_mut.ensures.value at c.mark.ensures) in
    omega arith

pub invariant_of-self : goal.invariant_of-self
invariant_of-self c =
    let s = c.self.inside in
    let marks = rw c.deref_mut.ensures.value at c.mark.ensures in
    let sums = rw c.deref_mut-2.ensures.value at c.mark-2.ensures in
    refilled s.words s.summary c.mark.new.words c.mark-2.new.words s.pages _ marks.length sums.length
    (give-bitmap s.words.items s.summary.items s.pages s.count c.self.invariant c.args.page (rw (← c.self.view_is) at c.requires.below)
    (rw (← c.self.view_is) at c.requires.taken) c.mark.new.words marks c.mark-2.new.words sums)

pub returns-clause-gives_back : goal.returns-clause-gives_back
returns-clause-gives_back c =
    let s = c.self.inside in
    let marks = rw c.deref_mut.ensures.value at c.mark.ensures in
    rw (← c.self.view_is) (subst (λ ws. GivesBack c.args.page (set_of s.words.items s.pages) (set_of ws s.pages)) (sym (refilled_words s.words c.mark.new.words marks.length))
    (give-gives_back s.words.items s.summary.items s.pages s.count c.self.invariant c.args.page (rw (← c.self.view_is) at c.requires.below)
    (rw (← c.self.view_is) at c.requires.taken) c.mark.new.words marks))

pub returns-clause-in_order : goal.returns-clause-in_order
returns-clause-in_order c = in_order (with_items c.self.inside.words c.mark.new.words).items c.self.inside.pages
