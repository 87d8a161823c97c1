use Rattle.std.proofs.Common.{ℕ, ◌-◌, ◌<◌, ◌≤◌, Bool, true, List, [], ◌∷◌, ◌++◌, map, take, get_or, slice_set, Vec, Global, sym, ap, subst, arith}
use Rattle.pm_layout.specs.Geometry.{directs}
use Rattle.dn_model.specs.Table.{Row as TableRow}
use Rattle.fact_scan.specs.declared.row.Row.{Row}
use Rattle.fact_scan.specs.Seen.{as_row}
use Rattle.fact_table.specs.Loaded.{AreUsed}
use Rattle.fact_table.proofs.Loading.{rows-more, used-direct, used-more}
use Rattle.fact_table.proofs.load.used_slots.Goals as goal
use Rattle.fact_table.proofs.load.used_slots.Goals.{then-row-directs, else-row-directs}

none : Row
none = record { slot = 0; print = []; page = 0; count = record { rfc = 0; uc = 0 } }

pub loop-row-preserved : goal.loop-row-preserved
unfolding none
loop-row-preserved c =
    let row = get_or c.args.rows.now c.loop-row.row-index none in
    let rs = map as_row (take c.loop-row.row-index c.args.rows.now) in
    subst (λ (xs : List TableRow). AreUsed c.args.g.now xs c.if-row-directs.used.items)
    (sym (rows-more c.args.rows.now c.loop-row.row-index none c.loop-row-test.true))
    (elim c.if-row-directs.branch [
      | then-row-directs w ↦
          let far : directs c.args.g.now ≤ row.slot = omega (arith, w.if-row-directs.true, c.directs-directs.ensures.value) in
          subst (λ (used : List Bool). AreUsed c.args.g.now (rs ++ as_row row ∷ []) used) (sym (ap (λ (v : Vec Bool Global). v.items) w.used-is))
          (subst (λ (n : ℕ). AreUsed c.args.g.now (rs ++ as_row row ∷ []) (slice_set c.loop-row.used.items (row.slot - n) true))
          (sym c.directs-directs.ensures.value)
          (used-more c.args.g.now rs c.loop-row.used.items c.loop-row.invariant (as_row row) far
          (c.requires.slots c.loop-row.row-index none c.loop-row-test.true)))
      | else-row-directs w ↦
          let direct : row.slot < directs c.args.g.now = omega (arith, w.if-row-directs.false, c.directs-directs.ensures.value) in
          subst (λ (used : List Bool). AreUsed c.args.g.now (rs ++ as_row row ∷ []) used) (sym (ap (λ (v : Vec Bool Global). v.items) w.used-is))
          (used-direct c.args.g.now rs c.loop-row.used.items c.loop-row.invariant (as_row row) direct)
    ])
