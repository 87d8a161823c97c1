use Rattle.fact_table.specs.Seen.{as_row}
use Rattle.dedupe_daemon.proofs.PlaceNext.{place_table}
use Rattle.dedupe_daemon.proofs.LookedUp.{place_read, to_insert, row_read, to_share, to_mask}
use Rattle.dedupe_daemon.proofs.order.look_up.Goals as goal

pub print_of-print-requires-clause-read : goal.print_of-print-requires-clause-read
print_of-print-requires-clause-read g c = λ d v. place_read d c.args.v.now.parts (g.D.Pm.state c.args.v.now.device) v c.args.sharing
    c.requires.looking c.args.page (c.requires.place d v)

pub find_row-requires : goal.find_row-requires
find_row-requires g c = record {
  table = place_table g.D.Pm.state c.args.v.now c.requires.agrees c.requires.running c.args.sharing c.requires.looking;
}

pub insert_row-requires-clause-place : goal.insert_row-requires-clause-place
insert_row-requires-clause-place g c = λ d v. to_insert d c.args.v.now.parts (g.D.Pm.state c.args.v.now.device) v c.args.sharing
    c.requires.looking c.args.page (c.requires.place d v) g.F.Fingerprint.print c.print_of-print.result (c.print_of-print.ensures d v)
    c.in-None.ensures.none

pub same_pages-requires-clause-read : goal.same_pages-requires-clause-read
same_pages-requires-clause-read g c = λ d v. row_read d c.args.v.now.parts (g.D.Pm.state c.args.v.now.device) v c.args.sharing c.requires.looking
    c.args.page (c.requires.place d v) (as_row c.in-Some.row) c.print_of-print.result c.in-Some.ensures.found

pub same_pages-requires-clause-read_other : goal.same_pages-requires-clause-read_other
same_pages-requires-clause-read_other g c = λ d v. place_read d c.args.v.now.parts (g.D.Pm.state c.args.v.now.device) v c.args.sharing
    c.requires.looking c.args.page (c.requires.place d v)

pub raise_share-requires-clause-place : goal.raise_share-requires-clause-place
raise_share-requires-clause-place g c = (
  c.args.page,
  λ d v. to_share d c.args.v.now.parts (g.D.Pm.state c.args.v.now.device) v c.args.sharing c.requires.looking c.args.page (c.requires.place d v)
      (as_row c.in-Some.row) c.print_of-print.result c.in-Some.ensures.found ((c.same_pages.ensures d v).0 c.if-same_pages.true),
)

pub mask_place-requires-clause-other : goal.mask_place-requires-clause-other
mask_place-requires-clause-other g c = (
  c.args.page,
  λ d v. to_mask d c.args.v.now.parts (g.D.Pm.state c.args.v.now.device) v c.args.sharing c.requires.looking c.args.page (c.requires.place d v)
      (as_row c.in-Some.row) c.print_of-print.result c.in-Some.ensures.found g.F.Fingerprint.print (c.print_of-print.ensures d v)
      c.same_pages.result c.if-same_pages.false (c.same_pages.ensures d v),
)
