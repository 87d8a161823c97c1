use Rattle.std.proofs.Common.{refl, arith}
use Rattle.reclaim.proofs.SpaceGained.{gives_one}
use Rattle.reclaim.proofs.fall.note_freed.Goals as goal

pub returns : goal.returns
returns c = record {
  kept = record {
    geometry = refl;
    names = refl;
    queue = refl;
    flights = refl;
    sharing = refl;
    history = refl;
    trace = refl;
    stopped = refl;
    owed_trace = refl;
    owed_history = refl;
    owed_queue = refl;
    cleaning = refl;
    made = grind (arith, c.saturating_add-parts.ensures);
  };
  free = gives_one c.args.page c.args.parts.now.free c.give_back.new.self c.give_back.ensures.gives_back c.give_back.ensures.in_order;
  fact = refl;
  inodes = c.fall_inode.ensures;
  zero_check = refl;
  raised = refl;
  releases = refl;
  waiting = omega (arith, c.requires.waiting);
  units = refl;
  owed_releases = refl;
}
