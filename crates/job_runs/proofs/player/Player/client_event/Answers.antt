use Rattle.std.proofs.Common.{◌≢◌, ◌≤◌, sym, arith}
use Rattle.job_runs.proofs.Counting.{outside_none}
use Rattle.job_runs.proofs.player.Player.client_event.Goals as goal

pub returns-then-place-ge-PLACES : goal.returns-then-place-ge-PLACES
returns-then-place-ge-PLACES c p counts =
    let many = c.if-place-ge-PLACES.true in
    let no_daemon : c.args.who ≢ 15 = c.requires.client.0 in
    let no_reclaim : c.args.who ≢ 16 = c.requires.client.1 in
    let far : 17 ≤ c.args.who = omega arith in
    sym (outside_none c.args.scripts.now p c.args.who no_daemon no_reclaim c.requires.clients far (counts.outside c.args.who far))
