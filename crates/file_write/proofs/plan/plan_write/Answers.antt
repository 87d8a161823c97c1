use Rattle.std.proofs.Common.{◌≡◌, ◌+◌, ℕ, length, sym, ◌∙◌, ap, subst, arith}
use Rattle.std.specs.Prelude.{nat_lt, if◌then◌else◌}
use Rattle.file_write.specs.Take.{TakesFirst}
use Rattle.file_write.proofs.Planned.{runs-few, log-page}
use Rattle.file_write.proofs.plan.plan_write.Goals as goal

pub returns-in-Ok-clause-plan : goal.returns-in-Ok-clause-plan
returns-in-Ok-clause-plan c =
    let made = c.in-Ok.ensures in
    let plan = c.in-Ok.plan in
    let taken = c.in_ok-pages.ensures.taken in
    let all_are = made.pages_are ∙ c.deref.ensures.value in
    let needs = ap length all_are ∙ c.in_ok-pages.ensures.count ∙ c.pages_needed-needed.ensures in
    let of_places = ap (λ (n : ℕ). n + (if nat_lt c.args.room n then 1 else 0)) c.places_of-places.ensures in
    let long : length plan.blocks.items ≡ c.places_of-places.result = omega (
      arith,
      made.places_are,
      ap length c.deref.ensures.value,
      c.in_ok-pages.ensures.count,
      c.pages_needed-needed.ensures,
    ) in
    let few = runs-few plan.first plan.blocks.items plan.runs.items c.places_of-places.result long made.cut in
    record {
      first = made.first_is;
      size_is = made.size_is ∙ c.max.ensures;
      places = long ∙ c.places_of-places.ensures;
      takes = subst (TakesFirst c.args.free.now c.take_pages.new.free) (sym all_are) taken;
      needs = needs ∙ of_places;
      cut = made.cut;
      spelled_by = made.spelled_by;
      log_page = log-page c.args.room (length plan.runs.items) c.places_of-places.result plan.fresh.items plan.spare.items plan.blocks.items few long
          needs made.unused made.used;
    }

pub returns-in-Err-clause-no_memory : goal.returns-in-Err-clause-no_memory
returns-in-Err-clause-no_memory c = λ err. c.untake_pages.ensures c.args.free.now c.requires.in_order c.in_ok-pages.ensures.taken
