use Rattle.std.proofs.Common.{◌≡◌, ℕ, ◌+◌, ◌∙◌, ap, length, arith}
use Rattle.dn_volume.specs.Planned.{row_slots, slot_of}
use Rattle.dn_model.specs.Disk.{maps}
use Rattle.data_begins.proofs.RowLists.{rows_none, rows_next, list_long}
use Rattle.data_begins.proofs.places.count_rows.Goals as goal

pub loop-i-init : goal.loop-i-init
loop-i-init g c = (omega arith, λ d ino table places. ap length (rows_none d ino c.args.first))

pub loop-i-preserved : goal.loop-i-preserved
loop-i-preserved g c = (
  omega (arith, c.loop-i.invariant.0, c.one_if-count.ensures.few),
  λ d ino table places.
      let before = c.loop-i.invariant.1 d ino table places in
      let long = list_long c.slot_at.result (row_slots d ino c.args.first c.loop-i.i) (slot_of d (maps d ino (c.args.first + c.loop-i.i)))
      (c.slot_at.ensures d ino table places) in
      let next = ap length (rows_next d ino c.args.first c.loop-i.i) in
      omega (arith, before, long, next, c.one_if-count.ensures.long),
)

pub returns-clause-count : goal.returns-clause-count
returns-clause-count g c = λ d ino table places.
    let all : c.loop-i.i ≡ c.args.places = omega (arith, c.loop-i-test.false, c.loop-i.auto.i-end) in
    c.loop-i.invariant.1 d ino table places ∙ ap (λ (n : ℕ). length (row_slots d ino c.args.first n)) all

pub returns-clause-few : goal.returns-clause-few
returns-clause-few g c = omega (arith, c.loop-i.invariant.0, c.loop-i.auto.i-end)
