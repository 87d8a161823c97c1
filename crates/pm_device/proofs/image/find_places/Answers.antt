use Rattle.std.proofs.Common.{arith, ◌∙◌, ap, length}
use Rattle.pm_device.proofs.Passes.{length-fenced_flushes, small-more, last_place-more, durable_place-more}
use Rattle.pm_device.proofs.image.find_places.Goals as goal

pub bounds-flushes-k : goal.bounds-flushes-k
bounds-flushes-k c = omega (arith, ap length c.requires.flushes, length-fenced_flushes c.args.entries.now)

pub loop-k-preserved : goal.loop-k-preserved
loop-k-preserved c =
    let es = c.args.entries.now in
    let h = c.loop-k.invariant in
    let old = c.loop-k.places in
    let new = c.note.new.self in
    record {
      small = small-more es c.loop-k.k _ (omega arith) c.args.words old.last.items new.last.items h.small
          (omega (arith, c.note.ensures.len, new.last.ok.0, h.len)) (λ a lt. c.note.ensures.last a (omega (arith, lt, h.len)));
      last = λ a lt. last_place-more es c.loop-k.k _ (omega arith) a _ _ (c.note.ensures.last a (omega (arith, lt, h.len))) ∙ h.last a lt;
      durable = λ a lt. durable_place-more es c.loop-k.k _ (omega arith) a _ _ _ _ c.args.flushes.now _
          (c.note.ensures.last a (omega (arith, lt, h.len))) c.requires.flushes (c.note.ensures.durable a (omega (arith, lt, h.len))) ∙ h.durable a
          lt;
      len = omega (arith, c.note.ensures.len, h.len);
    }
