use Rattle.std.proofs.Common.{ℕ, ◌≡◌, ◌+◌, ◌≤◌, ◌<◌, ◌^◌, ◌∙◌, arith}
use Rattle.file_index.specs.Radix.{look, cells}
use Rattle.file_index.specs.Runs.{runs_below}
use Rattle.file_index.proofs.Nodes.{look_beyond}
use Rattle.file_index.proofs.RunCounts.{runs_below-few, runs-over, runs-ends}
use Rattle.file_index.proofs.run_count.count_runs.Goals as goal

more : (runs from old new here : ℕ) → runs + from ≡ old → new ≡ old + here → runs + here + from ≡ new
more runs from old new here is step = omega arith

none : (a : ℕ) → 0 + a ≡ a
none a = omega arith

few : (runs from at here place : ℕ) → runs + from ≡ at → at ≤ place → place < 4096 → here ≤ 1 → runs + here < 2 ^ 64
few runs from at here place is low lt one = omega arith

pub loop-place-init : goal.loop-place-init
loop-place-init c = (omega arith, omega arith, none (runs_below (look (cells c.args.nodes.now)) c.args.from))

pub overflow_add-runs : goal.overflow_add-runs
overflow_add-runs c =
    let cell = look (cells c.args.nodes.now) in
    let fits =
    few c.loop-place.runs (runs_below cell c.args.from) (runs_below cell c.loop-place.place) c.begins_at-runs.result c.loop-place.place
    c.loop-place.invariant.2 (runs_below-few cell c.loop-place.place) (omega (arith, c.loop-place-test.true, c.requires, c.loop-place.invariant.1))
    c.begins_at-runs.ensures.few in
    omega (arith, fits)

pub loop-place-preserved : goal.loop-place-preserved
loop-place-preserved c =
    let cell = look (cells c.args.nodes.now) in
    let next = c.next_place-place.result in
    let more_at = c.next_place-place.ensures.more in
    let over = runs-over cell c.loop-place.place next more_at c.next_place-place.ensures.none in (
      omega (arith, c.loop-place.invariant.0, more_at),
      c.loop-place.invariant.1,
      more c.loop-place.runs (runs_below cell c.args.from) (runs_below cell c.loop-place.place) (runs_below cell next) c.begins_at-runs.result
          c.loop-place.invariant.2 (rw c.begins_at-runs.ensures.is over),
    )

pub returns : goal.returns
returns c =
    let nodes = c.args.nodes.now in
    let cell = look (cells nodes) in
    let ends : runs_below cell c.loop-place.place ≡ runs_below cell 4096 =
    runs-ends cell c.loop-place.place 4096
    (λ k low. look_beyond nodes k (omega (arith, low, c.loop-place-test.false, c.loop-place.invariant.1)))
    (λ k low. look_beyond nodes k (omega (arith, low, c.requires))) in
    c.loop-place.invariant.2 ∙ ends
