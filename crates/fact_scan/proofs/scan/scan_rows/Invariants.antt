use Rattle.fact_scan.specs.Found.{IsFoundTo}
use Rattle.fact_scan.proofs.scan.scan_rows.Given as goal

abbrev pub invariant-loop-prefix : goal.invariant-loop-prefix
invariant-loop-prefix g l = IsFoundTo l.g (g.D.Pm.state l.device).now l.prefix l.found
