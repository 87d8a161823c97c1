use Rattle.std.proofs.Common.{◌+◌, ◌*◌, ◌<◌, length, sym, subst, arith, rules}
use Rattle.std.proofs.lemmas.Bool.{true≢false}
use Rattle.std.specs.Vec.{with_items}
use Rattle.page_alloc.specs.Free.{IsInOrder, Takes}
use Rattle.page_alloc.proofs.Sets.{in_order, set_of}
use Rattle.page_alloc.proofs.Written.{told, none_told, take-lt, take-some, take-takes, take-bitmap, not_empty, nonzero_read, refilled, refilled_words}
use Rattle.page_alloc.proofs.FreeSet.take.Goals as goal

pub returns-in_err-at-clause-none : goal.returns-in_err-at-clause-none
returns-in_err-at-clause-none c =
    let s = c.self.inside in
    let none = rw c.deref.ensures.value at c.in_err-at.ensures.none in
    rw (← c.self.view_is, c.from_residual.ensures) (λ _. none_told s.words.items s.summary.items s.pages s.count c.self.invariant none, λ _. search rules)

pub returns-in_err-at-clause-in_order : goal.returns-in_err-at-clause-in_order
returns-in_err-at-clause-in_order c = subst IsInOrder c.self.view_is (in_order c.self.inside.words.items c.self.inside.pages)

pub overflow_mul-page : goal.overflow_mul-page
overflow_mul-page c =
    let s = c.self.inside in
    let found = rw c.deref.ensures.value at c.in_ok-at.ensures.first in
    let b = c.lowest_bit-bit.ensures in
    let lt = take-lt s.words.items s.summary.items s.pages s.count c.self.invariant c.in_ok-at.at c.lowest_bit-bit.result c.index.result.now found c.index.ensures b.below b.one b.lowest in
    let h = c.self.ranges in
    omega arith

pub overflow_add-page : goal.overflow_add-page
overflow_add-page c =
    let s = c.self.inside in
    let found = rw c.deref.ensures.value at c.in_ok-at.ensures.first in
    let b = c.lowest_bit-bit.ensures in
    let lt = take-lt s.words.items s.summary.items s.pages s.count c.self.invariant c.in_ok-at.at c.lowest_bit-bit.result c.index.result.now found c.index.ensures b.below b.one b.lowest in
    let h = c.self.ranges in
    omega arith

pub overflow_sub-self : goal.overflow_sub-self
overflow_sub-self c =
    let s = c.self.inside in
    let found = rw c.deref.ensures.value at c.in_ok-at.ensures.first in
    let b = c.lowest_bit-bit.ensures in
    let marks = rw c.deref_mut.ensures.value at c.mark.ensures in
    let some = take-some s.words.items s.summary.items s.pages s.count c.self.invariant c.in_ok-at.at c.lowest_bit-bit.result c.index.result.now found c.index.ensures b.below b.one b.lowest c.mark.new.words marks in
    omega arith

pub invariant_of-self : goal.invariant_of-self
invariant_of-self c =
    let s = c.self.inside in
    let found = rw c.deref.ensures.value at c.in_ok-at.ensures.first in
    let b = c.lowest_bit-bit.ensures in
    let marks = rw c.deref_mut.ensures.value at c.mark.ensures in
    let sums = rw c.deref_mut-2.ensures.value at c.mark-2.ensures in
    let there = (told s.words.items s.summary.items s.pages s.count c.self.invariant c.in_ok-at.at found.is).1 in
    let inside : c.in_ok-at.at < length c.mark.new.words = let long = marks.length in omega arith in
    let same = refilled_words s.words c.mark.new.words marks.length in
    refilled s.words s.summary c.mark.new.words c.mark-2.new.words s.pages _ marks.length sums.length
    (take-bitmap s.words.items s.summary.items s.pages s.count c.self.invariant c.in_ok-at.at c.lowest_bit-bit.result c.index.result.now found c.index.ensures b.below b.one b.lowest c.mark.new.words marks c.mark-2.new.words _
    (nonzero_read _ c.mark.new.words c.in_ok-at.at c.index-2.result.now same inside c.index-2.ensures) sums)

pub returns-clause-none : goal.returns-clause-none
returns-clause-none c =
    let s = c.self.inside in
    let found = rw c.deref.ensures.value at c.in_ok-at.ensures.first in
    let b = c.lowest_bit-bit.ensures in
    let marks = rw c.deref_mut.ensures.value at c.mark.ensures in
    let takes = take-takes s.words.items s.summary.items s.pages s.count c.self.invariant c.in_ok-at.at c.lowest_bit-bit.result c.index.result.now found c.index.ensures b.below b.one b.lowest c.mark.new.words marks in
    rw (← c.self.view_is) (λ e. absurd (true≢false e), λ e. absurd (not_empty takes.rest e))

pub returns-clause-takes : goal.returns-clause-takes
returns-clause-takes c =
    let s = c.self.inside in
    let found = rw c.deref.ensures.value at c.in_ok-at.ensures.first in
    let b = c.lowest_bit-bit.ensures in
    let marks = rw c.deref_mut.ensures.value at c.mark.ensures in
    rw (← c.self.view_is) (subst (λ ws. Takes (64 * c.in_ok-at.at + c.lowest_bit-bit.result) (set_of s.words.items s.pages) (set_of ws s.pages))
    (sym (refilled_words s.words c.mark.new.words marks.length)) (take-takes s.words.items s.summary.items s.pages s.count c.self.invariant c.in_ok-at.at c.lowest_bit-bit.result c.index.result.now found c.index.ensures b.below b.one b.lowest c.mark.new.words marks))

pub returns-clause-in_order : goal.returns-clause-in_order
returns-clause-in_order c = in_order (with_items c.self.inside.words c.mark.new.words).items c.self.inside.pages
