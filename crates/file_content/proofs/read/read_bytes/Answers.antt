use Rattle.file_content.proofs.Appending.{found_is, if_ok_map}
use Rattle.file_content.proofs.read.read_bytes.Goals as goal

pub returns : goal.returns
returns g c = if_ok_map c.read_range.result _ _ (λ found read d ino is valid same stands.
    found_is d ino c.args.size c.args.map.now.map is valid (g.D.Pm.state c.args.device.now) stands c.args.at c.args.count c.min-start.result
    c.min.result c.min-start.ensures c.min.ensures found.items read) c.read_range.ensures
