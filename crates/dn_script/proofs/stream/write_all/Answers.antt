use Rattle.std.proofs.Common.{arith}
use Rattle.std.proofs.lemmas.List.{take_rest, length-drop}
use Rattle.dn_script.proofs.StreamLaws.{with_back_further}
use Rattle.dn_script.proofs.stream.write_all.Goals as goal

pub loop-at-preserved : goal.loop-at-preserved
loop-at-preserved g c =
    let bytes = c.args.bytes.now in
    let at = c.loop-at.at in
    let h = rw (take_rest bytes at) at c.in_ok-at.ensures in
    let e = c.loop-at.invariant.appended in
    let further = with_back_further (g.K.Sink.taken c.args.out.now) bytes at c.in_ok-at.field-0 in
    record {
      within = omega (arith, h.bound, length-drop at bytes);
      appended = cc (h.appends, e, further);
      counts = omega arith;
    }
