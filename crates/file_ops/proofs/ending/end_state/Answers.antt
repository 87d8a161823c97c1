use Rattle.std.proofs.Common.{refl}
use Rattle.file_ops.proofs.ending.end_state.Goals as goal

pub returns : goal.returns
returns c = λ ino. record {
  used = refl;
  size_is = refl;
  log_pages = refl;
  round = refl;
  holder = refl;
  file = λ d old_size first word held may tail grows. c.map_runs.ensures.file d ino old_size c.args.size first word held may tail grows;
}
