use Rattle.std.proofs.Common.{map, ap}
use Rattle.fact_scan.specs.Seen.{as_row}
use Rattle.fact_scan.proofs.Walk.{found_none}
use Rattle.fact_scan.proofs.scan.scan_rows.Goals as goal

pub loop-prefix-init : goal.loop-prefix-init
loop-prefix-init g c =
    let is = c.in-Ok.ensures in found_none c.args.g.now (g.D.Pm.state c.args.device.now).now c.in-Ok.found (ap (map as_row) is.rows) is.slots is.pages
