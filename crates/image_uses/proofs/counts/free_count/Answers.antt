use Rattle.std.proofs.Common.{◌≡◌, true, false, sym, ◌∙◌, arith}
use Rattle.pm_layout.specs.Geometry.{first_data}
use Rattle.image_uses.specs.UsesLoop.{IsUnused}
use Rattle.image_uses.proofs.Numbers.{counts-if, counts-none}
use Rattle.image_uses.proofs.FreePages.{all_free}
use Rattle.image_uses.proofs.counts.free_count.Goals as goal

true_false : true ≡ false → ⊥
true_false e = cc

pub loop-page-init : goal.loop-page-init
loop-page-init c = counts-none (IsUnused c.args.in_logs.now c.args.mapped.now (first_data c.args.g.now)) c.first_data-page.result
    (λ x u. omega (arith, u.low, c.first_data-page.ensures))

pub loop-page-preserved : goal.loop-page-preserved
loop-page-preserved c = counts-if (IsUnused c.args.in_logs.now c.args.mapped.now (first_data c.args.g.now)) c.loop-page.page c.loop-page.free
    c.count_if-free.result c.is_unused.result c.loop-page.invariant
    (λ e. let u = c.is_unused.ensures.0 e in record {
      low = omega (arith, c.loop-page.auto.page, c.first_data-page.ensures);
      no_log = u.0;
      no_place = u.1;
    })
    (λ e u. true_false (sym (c.is_unused.ensures.1 (u.no_log, u.no_place)) ∙ e))
    c.count_if-free.ensures.yes c.count_if-free.ensures.no

pub returns : goal.returns
returns c = λ d same counted. all_free d c.args.g.now c.args.in_logs.now c.args.mapped.now same counted c.loop-page.page c.loop-page.free
    (omega (arith, c.loop-page-test.false, c.loop-page.auto.page-end, c.first_data-page.ensures, c.requires.accepted.room)) c.loop-page.invariant
