use Rattle.std.proofs.Common.{◌≡◌, take, drop}
use Rattle.dn_script.specs.Job.{stranger_of}
use Rattle.dn_script.proofs.draft.schedule_of.Given as goal

abbrev pub invariant-loop-turn : goal.invariant-loop-turn
invariant-loop-turn l = record {
  so_far : l.actors.items ≡ take l.turn-index l.turns;
  same : stranger_of l.clients (drop l.turn-index l.turns) ≡ stranger_of l.clients l.turns;
}
