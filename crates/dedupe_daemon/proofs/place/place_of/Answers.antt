use Rattle.std.proofs.Common.{sym, ◌∙◌}
use Rattle.dedupe_daemon.proofs.PlaceNext.{next_found, next_other}
use Rattle.dedupe_daemon.proofs.place.place_of.Goals as goal

pub returns-then-mapping-sharing-clause-found : goal.returns-then-mapping-sharing-clause-found
returns-then-mapping-sharing-clause-found c = next_found c.args.inodes.now c.args.sharing c.index-inodes-sharing.result c.requires.there
    c.index-inodes-sharing.is c.in_ok-mapping.mapping (sym c.get.ensures ∙ c.in_ok-mapping.was) c.if-mapping-sharing.true

pub returns-else-mapping-sharing-clause-none : goal.returns-else-mapping-sharing-clause-none
returns-else-mapping-sharing-clause-none c = next_other c.args.inodes.now c.args.sharing c.index-inodes-sharing.result c.requires.there
    c.index-inodes-sharing.is c.in_ok-mapping.mapping (sym c.get.ensures ∙ c.in_ok-mapping.was) c.if-mapping-sharing.false
