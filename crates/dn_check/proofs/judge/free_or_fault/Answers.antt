use Rattle.std.proofs.Common.{ℕ, List, subst, arith}
use Rattle.std.specs.Prelude.{All}
use Rattle.fact_scan.specs.declared.row.Row.{Row}
use Rattle.dn_check.specs.RowCounts.{IsNearBy, IsFirstFar}
use Rattle.dn_check.proofs.Judging.{counted_as, marks_as, double_is, far_is, crowded_is, standing}
use Rattle.dn_check.proofs.judge.free_or_fault.Goals as goal

pub returns-in-Some-clause-fault : goal.returns-in-Some-clause-fault
returns-in-Some-clause-fault c = λ words p.
    double_is words c.args.g.now c.args.read.now c.requires.whole p c.in-Some.page (λ e counted marks. c.in-Some.ensures.some e
    (counted_as e _ _ c.deref.result.now c.deref-2.result.now c.deref.ensures.value c.deref-2.ensures.value counted)
    (marks_as e _ c.deref-3.result.now c.deref-3.ensures.value marks))

pub returns-in-Some-far_row-clause-fault : goal.returns-in-Some-far_row-clause-fault
returns-in-Some-far_row-clause-fault c = λ words p.
    far_is words c.args.g.now c.args.read.now c.requires.whole p (λ e counted marks logs. c.in_default.ensures.none e
    (counted_as e _ _ c.deref.result.now c.deref-2.result.now c.deref.ensures.value c.deref-2.ensures.value counted)
    (marks_as e _ c.deref-3.result.now c.deref-3.ensures.value marks) logs)
    c.in-Some-far_row.slot
    (subst (λ (mapped : List ℕ). IsFirstFar mapped c.args.read.now.table.rows.items c.in-Some-far_row.slot) c.deref-5.ensures.value
    (subst (λ (rs : List Row). IsFirstFar c.deref-5.result.now rs c.in-Some-far_row.slot) c.deref-4.ensures.value c.in-Some-far_row.ensures.some))

pub returns-then-free-lt-FEWEST_FREE-clause-fault : goal.returns-then-free-lt-FEWEST_FREE-clause-fault
returns-then-free-lt-FEWEST_FREE-clause-fault c = λ words p.
    crowded_is words c.args.g.now c.args.read.now c.requires.whole p (λ e counted marks logs. c.in_default.ensures.none e
    (counted_as e _ _ c.deref.result.now c.deref-2.result.now c.deref.ensures.value c.deref-2.ensures.value counted)
    (marks_as e _ c.deref-3.result.now c.deref-3.ensures.value marks) logs)
    (subst (λ (mapped : List ℕ). All (IsNearBy mapped) c.args.read.now.table.rows.items) c.deref-5.ensures.value
    (subst (λ (rs : List Row). All (IsNearBy c.deref-5.result.now) rs) c.deref-4.ensures.value c.in_default-far_row.ensures.none))
    c.free_count-free.result
    (λ e same counted. c.free_count-free.ensures e same (counted_as e _ _ c.deref-6.result.now c.deref-7.result.now c.deref-6.ensures.value
    c.deref-7.ensures.value counted))
    (omega (arith, c.if-free-lt-FEWEST_FREE.true))

pub returns-clause-free : goal.returns-clause-free
returns-clause-free c = λ words p.
    standing words c.args.g.now c.args.read.now c.requires.whole p (λ e counted marks logs. c.in_default.ensures.none e
    (counted_as e _ _ c.deref.result.now c.deref-2.result.now c.deref.ensures.value c.deref-2.ensures.value counted)
    (marks_as e _ c.deref-3.result.now c.deref-3.ensures.value marks) logs)
    (subst (λ (mapped : List ℕ). All (IsNearBy mapped) c.args.read.now.table.rows.items) c.deref-5.ensures.value
    (subst (λ (rs : List Row). All (IsNearBy c.deref-5.result.now) rs) c.deref-4.ensures.value c.in_default-far_row.ensures.none))
    c.free_count-free.result
    (λ e same counted. c.free_count-free.ensures e same (counted_as e _ _ c.deref-6.result.now c.deref-7.result.now c.deref-6.ensures.value
    c.deref-7.ensures.value counted))
    (omega (arith, c.if-free-lt-FEWEST_FREE.false))
