use Rattle.std.proofs.Common.{rules, ◌≤◌, vec_capacity, refl, arith}
use Rattle.thread_runs.proofs.Tasks.{new_passes, makes_none, makes_one}
use Rattle.thread_runs.proofs.task.make_tasks.Goals as goal

pub loop-pass-init : goal.loop-pass-init
loop-pass-init g c =
    let long = (new_passes c.args.board.now c.args.count c.args.passes.items c.requires.passes).0 in
    let room : c.args.count ≤ vec_capacity c.args.passes = search (rules, long) in record {
      makes = makes_none c.args.board.now c.args.count c.args.passes.items c.args.tasks.items c.requires.passes c.requires.place.0;
      passes = room;
      tasks = c.requires.place.1;
    }

pub loop-pass-preserved : goal.loop-pass-preserved
loop-pass-preserved g c =
    let inv = c.loop-pass.invariant in record {
      makes = makes_one c.args.board.now c.args.count c.loop-pass.passes.items c.pop.new.self.items c.loop-pass.tasks.items
          c.push_reserved.new.self.items c.in-Some.pass _ c.in-Some.ensures.items c.push_reserved.ensures.items refl c.new.ensures.items refl
          inv.makes;
      passes = omega (arith, inv.passes, c.pop.ensures.capacity);
      tasks = omega (arith, inv.tasks, c.push_reserved.ensures.capacity);
    }
