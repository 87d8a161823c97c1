use Rattle.std.proofs.lemmas.Result.{err_from_is_err_and}
use Rattle.dn_check.proofs.Reading.{logs_halt}
use Rattle.dn_mount.proofs.read.kept_logs.Goals as goal

pub returns-in_err-logs-clause-halt : goal.returns-in_err-logs-clause-halt
returns-in_err-logs-clause-halt g c =
    let p = err_from_is_err_and c.from_residual.result c.from_residual.ensures.1 in
    rw (p.1, p.2) (logs_halt c.args.g.now (g.D.Pm.state c.args.device.now).now c.requires.inodes c.in_err-logs.field-0.0 c.in_err-logs.ensures.state)
