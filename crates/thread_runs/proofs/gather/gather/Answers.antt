use Rattle.std.proofs.Common.{◌≡◌, ◌+◌, true, false, refl, sym, ◌∙◌, arith}
use Rattle.thread_runs.proofs.Tasks.{gathers_none, gathers_one, reads_all, empty_if}
use Rattle.thread_runs.proofs.gather.gather.Goals as goal

never : false ≡ true → ⊥
never e = cc

pub loop-task-init : goal.loop-task-init
loop-task-init g c = record {
  so = gathers_none (c.args.last + 2) c.args.last c.args.clients.now c.args.tasks.items c.args.passes.items c.args.readings.items
      c.requires.place.0 c.requires.room.0 (sym c.args.tasks.ok.0 ∙ c.requires.many) c.requires.rises;
  place = c.requires.place.1;
  room = c.requires.room.1;
}

pub loop-task-preserved : goal.loop-task-preserved
loop-task-preserved g c =
    let inv = c.loop-task.invariant in record {
      so = gathers_one (c.args.last + 2) c.args.last c.args.clients.now c.args.tasks.items (sym c.args.tasks.ok.0 ∙ c.requires.many) c.requires.numbers
          c.loop-task.tasks.items c.pop.new.self.items c.loop-task.passes.items c.push_reserved.new.self.items c.loop-task.readings.items
          c.note.new.readings.items c.loop-task.whole c.still_whole-whole.result c.in-Some.task c.in-Some.task.readings c.number.result
          c.in-Some.ensures.items c.push_reserved.ensures.items c.note.ensures.noted refl c.number.ensures c.still_whole-whole.ensures inv.so;
      place = omega (arith, inv.place, c.push_reserved.ensures.capacity);
      room = omega (arith, inv.room, c.note.ensures.place);
    }

pub returns-clause-readings : goal.returns-clause-readings
returns-clause-readings g c =
    reads_all (c.args.last + 2) c.args.last c.args.clients.now c.args.tasks.items refl c.loop-task.tasks.items c.loop-task.passes.items
    c.loop-task.readings.items c.loop-task.whole
    (empty_if c.loop-task.tasks.items (λ some. never (c.in_default.ensures.variant.1 (omega (arith, some, c.loop-task.tasks.ok.0))))) c.loop-task.invariant.so
