use Rattle.std.proofs.Common.{◌<◌, ℕ, List, length, map, sym, ap, subst, arith}
use Rattle.std.specs.Prelude.{All}
use Rattle.pm_device.specs.Settled.{Nowhere}
use Rattle.pm_device.proofs.Only.{stores_only-none}
use Rattle.pm_layout.specs.Geometry.{slots}
use Rattle.pm_layout.specs.declared.Geometry.{Geometry}
use Rattle.fact_scan.specs.Seen.{as_row}
use Rattle.fact_scan.specs.declared.row.Row.{Row as RowValue}
use Rattle.fact_table.specs.Table.{IsTable}
use Rattle.fact_table.specs.Loaded.{HasRowsOf}
use Rattle.image_uses.specs.Uses.{IsCounted}
use Rattle.image_keep.specs.Free.{AreFreePages}
use Rattle.dn_check.proofs.Judging.{counted_as}
use Rattle.table_repair.specs.Settling.{IsTableToSettle}
use Rattle.dn_mount.proofs.Ready.{slots_small, rows_few, rows_of, to_settle, nothing_settled, is_counted, is_scan}
use Rattle.dn_mount.proofs.repair.settle_read.Goals as goal

pub of_rows-requires-clause-slots : goal.of_rows-requires-clause-slots
of_rows-requires-clause-slots g c =
    let has = c.requires.ready in
    subst (λ (rs : List RowValue). All (λ (row : RowValue). row.slot < slots c.args.g.now) rs) (sym c.deref.ensures.value)
    (slots_small has.disk c.args.g.now (g.D.Pm.state c.args.device.now) c.args.read has.is)

pub returns-in_err-fact-clause-images : goal.returns-in_err-fact-clause-images
returns-in_err-fact-clause-images g c =
    let S = g.D.Pm.state in
    λ d is. nothing_settled d c.args.g.now (S c.args.device.now) c.args.read is (g.met.D.Pm.agree c.args.device.now)

pub returns-in_err-free-clause-images : goal.returns-in_err-free-clause-images
returns-in_err-free-clause-images g c =
    let S = g.D.Pm.state in
    λ d is. nothing_settled d c.args.g.now (S c.args.device.now) c.args.read is (g.met.D.Pm.agree c.args.device.now)

-- the table in memory is that of the disk, and it may be settled
pub settle_table-requires-clause-table : goal.settle_table-requires-clause-table
settle_table-requires-clause-table g c =
    let S = g.D.Pm.state in
    let s = S c.args.device.now in
    let has = c.requires.ready in
    let table : IsTable has.disk s.now c.in_ok-fact.fact = c.in_ok-fact.ensures.table has.disk s.now
    (subst (λ (rs : List RowValue). HasRowsOf has.disk c.args.g.now s.now (map as_row rs)) (sym c.deref.ensures.value)
    (rows_of has.disk c.args.g.now s c.args.read has.is)) in
    record {
      disk = has.disk;
      is = subst (λ (rs : List RowValue). IsTableToSettle has.disk c.in_ok-fact.fact rs c.deref-5.result.now s) (sym c.deref-4.ensures.value)
          (subst (λ (ns : List ℕ). IsTableToSettle has.disk c.in_ok-fact.fact c.args.read.image.table.rows.items ns s) (sym c.deref-5.ensures.value)
          (to_settle has.disk c.args.g.now s c.args.read has.is c.in_ok-fact.fact table));
    }

pub settle_table-requires-clause-room : goal.settle_table-requires-clause-room
settle_table-requires-clause-room g c =
    let has = c.requires.ready in
    let few = rows_few has.disk c.args.g.now (g.D.Pm.state c.args.device.now) c.args.read has.is in
    omega (arith, few, ap length c.deref-4.ensures.value, ap (λ (h : Geometry). h.pages) c.in_ok-fact.ensures.geometry, c.requires.room)

pub returns-in_err-settle_table-clause-images : goal.returns-in_err-settle_table-clause-images
returns-in_err-settle_table-clause-images g c =
    let S = g.D.Pm.state in
    let s = S c.args.device.now in
    λ d is.
    let table : IsTable d s.now c.in_ok-fact.fact = c.in_ok-fact.ensures.table d s.now
    (subst (λ (rs : List RowValue). HasRowsOf d c.args.g.now s.now (map as_row rs)) (sym c.deref.ensures.value)
    (rows_of d c.args.g.now s c.args.read is)) in
    c.settle_table.ensures.images d
    (subst (λ (rs : List RowValue). IsTableToSettle d c.in_ok-fact.fact rs c.deref-5.result.now s) (sym c.deref-4.ensures.value)
    (subst (λ (ns : List ℕ). IsTableToSettle d c.in_ok-fact.fact c.args.read.image.table.rows.items ns s) (sym c.deref-5.ensures.value)
    (to_settle d c.args.g.now s c.args.read is c.in_ok-fact.fact table)))

pub returns-clause-images : goal.returns-clause-images
returns-clause-images g c =
    let S = g.D.Pm.state in
    let s = S c.args.device.now in
    λ d is.
    let table : IsTable d s.now c.in_ok-fact.fact = c.in_ok-fact.ensures.table d s.now
    (subst (λ (rs : List RowValue). HasRowsOf d c.args.g.now s.now (map as_row rs)) (sym c.deref.ensures.value)
    (rows_of d c.args.g.now s c.args.read is)) in
    c.settle_table.ensures.images d
    (subst (λ (rs : List RowValue). IsTableToSettle d c.in_ok-fact.fact rs c.deref-5.result.now s) (sym c.deref-4.ensures.value)
    (subst (λ (ns : List ℕ). IsTableToSettle d c.in_ok-fact.fact c.args.read.image.table.rows.items ns s) (sym c.deref-5.ensures.value)
    (to_settle d c.args.g.now s c.args.read is c.in_ok-fact.fact table)))

pub returns-clause-done : goal.returns-clause-done
returns-clause-done g c =
    let S = g.D.Pm.state in
    let s = S c.args.device.now in
    λ d is.
    let table : IsTable d s.now c.in_ok-fact.fact = c.in_ok-fact.ensures.table d s.now
    (subst (λ (rs : List RowValue). HasRowsOf d c.args.g.now s.now (map as_row rs)) (sym c.deref.ensures.value)
    (rows_of d c.args.g.now s c.args.read is)) in
    let settled = c.in_ok-settle_table.ensures.done d
    (subst (λ (rs : List RowValue). IsTableToSettle d c.in_ok-fact.fact rs c.deref-5.result.now s) (sym c.deref-4.ensures.value)
    (subst (λ (ns : List ℕ). IsTableToSettle d c.in_ok-fact.fact c.args.read.image.table.rows.items ns s) (sym c.deref-5.ensures.value)
    (to_settle d c.args.g.now s c.args.read is c.in_ok-fact.fact table))) in
    let counted : IsCounted d c.deref-2.result.now c.deref-3.result.now = counted_as d _ _ c.deref-2.result.now c.deref-3.result.now
    c.deref-2.ensures.value
    c.deref-3.ensures.value (is_counted d c.args.g.now s c.args.read is c.requires.whole) in
    let free : AreFreePages d c.in_ok-free.free = c.in_ok-free.ensures d is.fast.geometry counted in
    rw c.scan_of.ensures (record {
      after = settled.disk;
      settles = settled.settles;
      scan_is = is_scan d c.args.g.now s c.args.read is c.requires.kept c.in_ok-free.free free c.settle_table.new.fact (S c.settle_table.new.device)
          c.settle_table.ensures.only.words (c.in_ok-settle_table.ensures.still is.still) settled;
    })

pub returns-in_err-fact-clause-quiet : goal.returns-in_err-fact-clause-quiet
returns-in_err-fact-clause-quiet g c = λ d is exact none. stores_only-none Nowhere (g.D.Pm.state c.args.device.now)
    (g.met.D.Pm.agree c.args.device.now)

pub returns-in_err-free-clause-quiet : goal.returns-in_err-free-clause-quiet
returns-in_err-free-clause-quiet g c = λ d is exact none. stores_only-none Nowhere (g.D.Pm.state c.args.device.now)
    (g.met.D.Pm.agree c.args.device.now)

pub returns-in_err-settle_table-clause-quiet : goal.returns-in_err-settle_table-clause-quiet
returns-in_err-settle_table-clause-quiet g c =
    let S = g.D.Pm.state in
    let s = S c.args.device.now in
    λ d is exact none.
    let table : IsTable d s.now c.in_ok-fact.fact = c.in_ok-fact.ensures.table d s.now
    (subst (λ (rs : List RowValue). HasRowsOf d c.args.g.now s.now (map as_row rs)) (sym c.deref.ensures.value)
    (rows_of d c.args.g.now s c.args.read is)) in
    c.settle_table.ensures.quiet d
    (subst (λ (rs : List RowValue). IsTableToSettle d c.in_ok-fact.fact rs c.deref-5.result.now s) (sym c.deref-4.ensures.value)
    (subst (λ (ns : List ℕ). IsTableToSettle d c.in_ok-fact.fact c.args.read.image.table.rows.items ns s) (sym c.deref-5.ensures.value)
    (to_settle d c.args.g.now s c.args.read is c.in_ok-fact.fact table)))
    exact (λ page stale. none.none page stale.in_image stale.some stale.no_row)

pub returns-clause-quiet : goal.returns-clause-quiet
returns-clause-quiet g c =
    let S = g.D.Pm.state in
    let s = S c.args.device.now in
    λ d is exact none.
    let table : IsTable d s.now c.in_ok-fact.fact = c.in_ok-fact.ensures.table d s.now
    (subst (λ (rs : List RowValue). HasRowsOf d c.args.g.now s.now (map as_row rs)) (sym c.deref.ensures.value)
    (rows_of d c.args.g.now s c.args.read is)) in
    c.settle_table.ensures.quiet d
    (subst (λ (rs : List RowValue). IsTableToSettle d c.in_ok-fact.fact rs c.deref-5.result.now s) (sym c.deref-4.ensures.value)
    (subst (λ (ns : List ℕ). IsTableToSettle d c.in_ok-fact.fact c.args.read.image.table.rows.items ns s) (sym c.deref-5.ensures.value)
    (to_settle d c.args.g.now s c.args.read is c.in_ok-fact.fact table)))
    exact (λ page stale. none.none page stale.in_image stale.some stale.no_row)
