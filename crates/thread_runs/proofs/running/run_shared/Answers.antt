use Rattle.std.proofs.Common.{◌≡◌, ◌+◌, true, length, drop, sym, ◌∙◌, subst, arith}
use Rattle.std.proofs.lemmas.List.{take_at}
use Rattle.count_board.specs.Boards.{base_of}
use Rattle.thread_runs.specs.Reading.{Pairs}
use Rattle.thread_runs.specs.Parts.{Each, IsNumbered, ArePassesOf, NoneFails, IsReadIn}
use Rattle.thread_runs.specs.Threads.{EndsThreads}
use Rattle.thread_runs.proofs.Ending.{all_passes, ends}
use Rattle.thread_runs.proofs.running.run_shared.Goals as goal

pub gather-passes-requires-clause-numbers : goal.gather-passes-requires-clause-numbers
gather-passes-requires-clause-numbers g c =
    let tasks = c.run_all.new.tasks in
    let old = c.make_tasks-tasks.result.0 in
    let same = take_at tasks (drop (length tasks) old.items) old.len (omega (arith, c.make_tasks-tasks.ensures.many, c.run_all.ensures.many)) in
    subst (λ ts. Each (IsNumbered (c.args.last + 2)) ts) (sym same) (λ i d lt. (c.run_all.ensures.ran i d lt).number)

pub close-volume-requires : goal.close-volume-requires
close-volume-requires g c =
    let tasks = c.run_all.new.tasks in
    let old = c.make_tasks-tasks.result.0 in
    let same = take_at tasks (drop (length tasks) old.items) old.len (omega (arith, c.make_tasks-tasks.ensures.many, c.run_all.ensures.many)) in
    let passes = c.gather-passes.result.passes in
    all_passes c.args.shared.board c.args.last c.args.clients.now tasks passes.items c.run_all.ensures.many
    (sym passes.ok.0 ∙ c.gather-passes.ensures.many) c.run_all.ensures.ran
    (subst (λ ts. ArePassesOf (c.args.last + 2) ts passes.items) same c.gather-passes.ensures.passes)

pub returns-clause-ends : goal.returns-clause-ends
returns-clause-ends g c =
    let v = c.close-volume.result in
    let left = c.close-volume.ensures in
    let tasks = c.run_all.new.tasks in
    let old = c.make_tasks-tasks.result.0 in
    let same = take_at tasks (drop (length tasks) old.items) old.len (omega (arith, c.make_tasks-tasks.ensures.many, c.run_all.ensures.many)) in
    let passes = c.gather-passes.result.passes in
    let whole = c.gather-passes.result.whole in
    let readings = c.gather-passes.result.readings in
    subst (λ r. EndsThreads g.D.Pm.state c.args.clients.now (base_of c.args.shared.board).volume v r) (sym c.end_of-result.ensures)
    (ends c.args.shared.board c.args.last c.args.clients.now tasks passes.items c.run_all.ensures.many
    (sym passes.ok.0 ∙ c.gather-passes.ensures.many) c.run_all.ensures.ran
    (subst (λ ts. ArePassesOf (c.args.last + 2) ts passes.items) same c.gather-passes.ensures.passes)
    v left.marks.0 left.calls left.others left.hands left.reads left.marks.1 c.requires.rises g.D.Pm.state c.requires.words left.stopped left.counts
    whole (subst (λ ts. whole ≡ true → NoneFails 0 ts) same c.gather-passes.ensures.whole)
    readings (subst (λ ts. Pairs (IsReadIn (c.args.last + 2) ts) c.args.clients.now readings.items) same c.gather-passes.ensures.readings))
