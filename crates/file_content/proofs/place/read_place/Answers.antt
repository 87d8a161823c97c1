use Rattle.std.proofs.Common.{◌∙◌, arith}
use Rattle.file_content.specs.Content.{IsPlaceOf}
use Rattle.file_content.proofs.FileBytes.{byte_in_place, page_is}
use Rattle.file_content.proofs.place.read_place.Goals as goal

-- what is read when the loop ends
read_whole : (g : _) (c : goal.After-loop-k g) → IsPlaceOf (g.D.Pm.state c.args.device.now).now c.args.map.now.map c.args.size c.args.place
    c.loop-k.into
read_whole g c = record {
  whole = omega (arith, c.loop-k.auto.into, c.requires.whole);
  each = λ k lt. c.loop-k.invariant k (omega (arith, lt, c.loop-k-test.false, c.loop-k.auto.into, c.requires.whole))
      ∙ byte_in_place (g.D.Pm.state c.args.device.now).now c.args.map.now.map c.args.size c.args.place c.get-mapping.result
      c.bytes_inside-inside.result c.get-mapping.ensures c.bytes_inside-inside.ensures k lt;
}

pub returns-clause-read : goal.returns-clause-read
returns-clause-read g c = read_whole g c

pub returns-clause-page : goal.returns-clause-page
returns-clause-page g c = λ d ino is valid same stands. page_is d ino c.args.size c.args.map.now.map is valid (g.D.Pm.state c.args.device.now) stands
    c.args.place c.loop-k.into (read_whole g c)
