use Rattle.file_content.proofs.Filling.{filled_is}
use Rattle.file_content.proofs.fill.fill_place.Goals as goal

pub returns-clause-filled : goal.returns-clause-filled
returns-clause-filled g c =
    let S = g.D.Pm.state in
    λ d ino whole is le valid same stands.
    filled_is d ino whole c.args.map.now.map is valid (S c.args.device.now) stands (S c.fill_page_bytes.new.device) c.args.who c.args.block
    c.args.size c.args.place c.args.at c.args.text.now
    c.read_place.new.into c.put_text.new.page le c.read_place.ensures.read c.put_text.ensures c.fill_page_bytes.ensures.holds
