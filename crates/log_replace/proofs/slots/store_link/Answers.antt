use Rattle.std.proofs.Common.{◌+◌, ◌*◌, refl}
use Rattle.std.specs.Prelude.{slice_index}
use Rattle.log_replace.proofs.LinkStored.{link_ready}
use Rattle.log_replace.proofs.slots.store_link.Goals as goal

pub returns-then-k-pages-clause-ready : goal.returns-then-k-pages-clause-ready
returns-then-k-pages-clause-ready g c =
    let S = g.D.Pm.state in
    let pages = c.args.pages.now in
    link_ready c.args.who pages c.args.k (512 * slice_index pages c.args.k + 504) (slice_index pages (c.args.k + 1)) (S c.args.device.now)
    (S c.store_word.new.device) c.if-k-pages.true refl refl c.requires.inside c.store_word.ensures.stores
