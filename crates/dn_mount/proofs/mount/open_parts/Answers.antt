use Rattle.dn_mount.proofs.mount.open_parts.Goals as goal

pub returns-clause-opened : goal.returns-clause-opened
returns-clause-opened g c = λ d stood. record {
  scan = c.in_ok-scan.scan;
  repaired = c.in_ok-scan.ensures.scan d stood;
  fresh = c.in_ok-volume_of_scan.ensures.fresh;
}
