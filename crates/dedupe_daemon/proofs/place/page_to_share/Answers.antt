use Rattle.std.proofs.Common.{◌<◌, List, length, subst, sym, ◌∙◌}
use Rattle.std.proofs.lemmas.Bool.{false≢true}
use Rattle.dn_volume.specs.declared.volume.InodeState.{InodeState}
use Rattle.dn_volume.proofs.Tables.{is_table}
use Rattle.dedupe_daemon.specs.Looked.{IsNextPlace}
use Rattle.dedupe_daemon.proofs.PlaceNext.{place_there, place_small, place_table, place_page, passed_none, passed_alone, passed_row, at_place}
use Rattle.dedupe_daemon.proofs.place.page_to_share.Goals as goal

pub place_of-requires-clause-there : goal.place_of-requires-clause-there
place_of-requires-clause-there g c = subst (λ (ns : List InodeState). c.args.sharing.work.ino < length ns) (sym c.deref.ensures.value)
    (place_there g.D.Pm.state c.args.v.now c.requires.agrees c.requires.running c.args.sharing c.requires.looking)

pub place_of-requires-clause-small : goal.place_of-requires-clause-small
place_of-requires-clause-small g c = (place_small g.D.Pm.state c.args.v.now c.requires.agrees c.requires.running c.args.sharing c.requires.looking).2

pub returns-in_default-clause-passed : goal.returns-in_default-clause-passed
returns-in_default-clause-passed g c = λ d v. passed_none d c.args.v.now.parts (g.D.Pm.state c.args.v.now.device) v c.args.sharing c.requires.looking
    (λ m next. c.in_default.ensures.none m (subst (λ (ns : List InodeState). IsNextPlace ns c.args.sharing m) (sym c.deref.ensures.value) next))

pub is_masked-requires-clause-small : goal.is_masked-requires-clause-small
is_masked-requires-clause-small g c = (place_small g.D.Pm.state c.args.v.now c.requires.agrees c.requires.running c.args.sharing c.requires.looking).0

pub is_masked-requires-clause-inside : goal.is_masked-requires-clause-inside
is_masked-requires-clause-inside g c = (place_small g.D.Pm.state c.args.v.now c.requires.agrees c.requires.running c.args.sharing
    c.requires.looking).3

pub is_masked-requires-clause-few : goal.is_masked-requires-clause-few
is_masked-requires-clause-few g c = (place_small g.D.Pm.state c.args.v.now c.requires.agrees c.requires.running c.args.sharing c.requires.looking).1

pub returns-then-is_masked-clause-passed : goal.returns-then-is_masked-clause-passed
returns-then-is_masked-clause-passed g c = λ d v. passed_alone d c.args.v.now.parts (g.D.Pm.state c.args.v.now.device) v c.args.sharing
    c.requires.looking c.in-Some.mapping
    (subst (λ (ns : List InodeState). IsNextPlace ns c.args.sharing c.in-Some.mapping) c.deref.ensures.value c.in-Some.ensures.found)
    (c.is_masked.ensures.0 c.if-is_masked.true)

pub by_page-requires-clause-table : goal.by_page-requires-clause-table
by_page-requires-clause-table g c = place_table g.D.Pm.state c.args.v.now c.requires.agrees c.requires.running c.args.sharing c.requires.looking

pub by_page-requires-clause-page : goal.by_page-requires-clause-page
by_page-requires-clause-page g c = place_page g.D.Pm.state c.args.v.now c.requires.agrees c.requires.running c.args.sharing c.requires.looking
    c.in-Some.mapping (subst (λ (ns : List InodeState). IsNextPlace ns c.args.sharing c.in-Some.mapping) c.deref.ensures.value
    c.in-Some.ensures.found)

pub returns-in-Some-by_page-clause-passed : goal.returns-in-Some-by_page-clause-passed
returns-in-Some-by_page-clause-passed g c = λ d v. passed_row d c.args.v.now.parts (g.D.Pm.state c.args.v.now.device) v c.args.sharing
    c.requires.looking
    c.in-Some.mapping (subst (λ (ns : List InodeState). IsNextPlace ns c.args.sharing c.in-Some.mapping) c.deref.ensures.value
    c.in-Some.ensures.found) _ (c.in-Some-by_page.ensures.found d (is_table d c.args.v.now.parts (g.D.Pm.state c.args.v.now.device) v))

pub returns-in-None-clause-page : goal.returns-in-None-clause-page
returns-in-None-clause-page g c = λ d v. at_place d c.args.v.now.parts (g.D.Pm.state c.args.v.now.device) v c.args.sharing c.requires.looking
    c.in-Some.mapping (subst (λ (ns : List InodeState). IsNextPlace ns c.args.sharing c.in-Some.mapping) c.deref.ensures.value
    c.in-Some.ensures.found) (λ set. false≢true (sym c.if-is_masked.false ∙ c.is_masked.ensures.1 set))
    (c.in-None.ensures.none d (is_table d c.args.v.now.parts (g.D.Pm.state c.args.v.now.device) v))
