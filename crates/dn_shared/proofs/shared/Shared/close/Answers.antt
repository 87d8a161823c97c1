use Rattle.dn_shared.proofs.Closed.{calls_end, hands_end, reads_end, marks_end, others_end, counts_end}
use Rattle.dn_shared.proofs.shared.Shared.close.Goals as goal

pub returns-clause-agrees : goal.returns-clause-agrees
returns-clause-agrees g c = c.close-site.ensures.holds.agrees

pub returns-clause-keeps : goal.returns-clause-keeps
returns-clause-keeps g c = c.close-site.ensures.holds.keeps

pub returns-clause-faults : goal.returns-clause-faults
returns-clause-faults g c = c.close-site.ensures.holds.faults

pub returns-clause-stopped : goal.returns-clause-stopped
returns-clause-stopped g c = c.close-site.ensures.holds.rose

pub returns-clause-calls : goal.returns-clause-calls
returns-clause-calls g c = calls_end g.D.Pm.state g.F.Fingerprint.print _ c.close-site.result c.args.passes.items c.close-site.ensures

pub returns-clause-others : goal.returns-clause-others
returns-clause-others g c = others_end g.D.Pm.state g.F.Fingerprint.print _ c.close-site.result c.args.passes.items c.close-site.ensures

pub returns-clause-hands : goal.returns-clause-hands
returns-clause-hands g c = hands_end g.D.Pm.state g.F.Fingerprint.print _ c.close-site.result c.args.passes.items c.close-site.ensures

pub returns-clause-reads : goal.returns-clause-reads
returns-clause-reads g c = reads_end g.D.Pm.state g.F.Fingerprint.print _ c.close-site.result c.args.passes.items c.close-site.ensures

pub returns-clause-marks : goal.returns-clause-marks
returns-clause-marks g c = (
  c.close-site.result.gone.items,
  marks_end g.D.Pm.state g.F.Fingerprint.print _ c.close-site.result c.args.passes.items c.close-site.ensures,
)

pub returns-clause-counts : goal.returns-clause-counts
returns-clause-counts g c = counts_end g.D.Pm.state g.F.Fingerprint.print _ c.close-site.result c.args.passes.items c.close-site.ensures
