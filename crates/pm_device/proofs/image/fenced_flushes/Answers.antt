use Rattle.std.proofs.Common.{◌-◌, ◌+◌, ◌≡◌, drop, length, arith, ap, ◌∙◌, sym, subst}
use Rattle.std.proofs.lemmas.List.{drop_all}
use Rattle.std.proofs.lemmas.Grind.{common_steps}
use Rattle.pm_device.specs.Replay.{is_fenced, fenced_flushes}
use Rattle.pm_device.proofs.Passes.{is_fenced-more, fenced_flushes-more}
use Rattle.pm_device.proofs.image.fenced_flushes.Goals as goal

pub loop-k-init : goal.loop-k-init
loop-k-init c =
    let es = c.args.entries.now in
    let done = drop_all (length es) es (omega arith) in
    let long : length c.in_ok-flushes.flushes.items ≡ length es = omega (arith, c.in_ok-flushes.ensures.len, c.in_ok-flushes.flushes.ok.0) in
    record {
      next = λ q. grind (arith, common_steps) ∙ sym (ap (is_fenced q) done);
      flushes = drop_all (length es) c.in_ok-flushes.flushes.items (omega arith) ∙ ap fenced_flushes (sym done);
      len = c.in_ok-flushes.ensures.len;
    }

pub loop-k-preserved : goal.loop-k-preserved
loop-k-preserved c =
    let es = c.args.entries.now in
    let h = c.loop-k.invariant in
    let step : c.loop-k.k - 1 + 1 ≡ c.loop-k.k = omega arith in
    record {
      next = λ q. c.in_ok-flushes-2.ensures.next q ∙ is_fenced-more es (c.loop-k.k - 1) c.loop-k.k _ step (omega arith) q _ (h.next q);
      flushes = fenced_flushes-more es (c.loop-k.k - 1) c.loop-k.k _ step (omega arith) c.loop-k.flushes.items _ c.in_ok-flushes-2.field-0
          (omega (arith, h.len, c.loop-k.flushes.ok.0)) h.next h.flushes c.in_ok-flushes-2.ensures.flush;
      len = h.len;
    }

pub returns : goal.returns
returns c = let z : 0 ≡ c.loop-k.k = omega arith in
    subst (λ k. drop k c.loop-k.flushes.items ≡ fenced_flushes (drop k c.args.entries.now)) (sym z) c.loop-k.invariant.flushes
