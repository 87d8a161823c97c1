use Rattle.std.proofs.Common.{◌≡◌, subst, arith}
use Rattle.std.specs.Prelude.{slice_index}
use Rattle.pm_layout.specs.declared.Geometry.{Geometry}
use Rattle.pm_layout.specs.Geometry.{slot_word}
use Rattle.fact_counts.proofs.Counting.{slot_small, counts_read}
use Rattle.fact_counts.proofs.counts.counts_at.Goals as goal

pub load_field-requires-clause-slot : goal.load_field-requires-clause-slot
load_field-requires-clause-slot g c = slot_small c.args.fact.now c.args.slot (g.D.Pm.state c.args.device.now).now c.geometry.result c.geometry.ensures
    c.requires.row

pub returns : goal.returns
returns g c =
    let words = (g.D.Pm.state c.args.device.now).now in
    let read = subst (λ (k : Geometry). c.load_field.result ≡ slice_index words (slot_word k c.args.slot 4)) c.geometry.ensures c.load_field.ensures
    in
    record {
      counts = counts_read c.args.fact.now c.args.slot c.load_field.result words c.of_word.result read c.of_word.ensures.same
          (omega (arith, c.of_word.ensures.uc));
    }
