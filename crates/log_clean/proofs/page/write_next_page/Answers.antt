use Rattle.std.proofs.Common.{ℕ, ◌+◌, ◌*◌, ◌<◌, ◌≤◌, List, length, sym, subst, arith}
use Rattle.std.specs.Prelude.{slice_index}
use Rattle.dn_volume.specs.Agrees.{agrees_with, is_stopped}
use Rattle.dn_volume.proofs.Tables.{running_disk}
use Rattle.log_clean.proofs.Begun.{of_some, begun_works, err_is}
use Rattle.log_clean.proofs.PageWritten.{
  page_some,
  page_small,
  page_inside,
  page_owed,
  page_room,
  lowered,
  page_moves,
  page_breaks,
  stores_of,
  adds_of,
}
use Rattle.log_clean.proofs.page.write_next_page.Goals as goal

pub store_log_page-requires-clause-some : goal.store_log_page-requires-clause-some
store_log_page-requires-clause-some g c =
    let S = g.D.Pm.state in
    let found = running_disk S c.args.v.now c.requires.running c.requires.agrees in
    let C = c.in-Some.cleaning in
    subst (λ (xs : List (List ℕ)). 63 * C.written < length xs) (sym c.deref-2.ensures.value) (page_some found.0 c.args.v.now.parts (S
    c.args.v.now.device) C found.1 c.in-Some.is
    (of_some c.args.v.now.parts.reclaiming.cleaning C (λ x. x.written < length x.pages.items) c.in-Some.is c.requires.more))

pub store_log_page-requires-clause-small : goal.store_log_page-requires-clause-small
store_log_page-requires-clause-small g c =
    let S = g.D.Pm.state in
    let found = running_disk S c.args.v.now c.requires.running c.requires.agrees in
    let C = c.in-Some.cleaning in
    subst (λ (xs : List ℕ). slice_index xs C.written < 65536) (sym c.deref.ensures.value) (page_small found.0 c.args.v.now.parts (S
    c.args.v.now.device) C found.1 c.in-Some.is
    (of_some c.args.v.now.parts.reclaiming.cleaning C (λ x. x.written < length x.pages.items) c.in-Some.is c.requires.more))

pub store_log_page-requires-clause-inside : goal.store_log_page-requires-clause-inside
store_log_page-requires-clause-inside g c =
    let S = g.D.Pm.state in
    let found = running_disk S c.args.v.now c.requires.running c.requires.agrees in
    let C = c.in-Some.cleaning in
    subst (λ (xs : List ℕ). 512 * slice_index xs C.written + 512 ≤ length (S c.args.v.now.device).now) (sym c.deref.ensures.value)
    (page_inside found.0 c.args.v.now.parts (S c.args.v.now.device) C found.1 c.in-Some.is
    (of_some c.args.v.now.parts.reclaiming.cleaning C (λ x. x.written < length x.pages.items) c.in-Some.is c.requires.more))

pub store_log_page-requires-clause-room : goal.store_log_page-requires-clause-room
store_log_page-requires-clause-room g c =
    let S = g.D.Pm.state in
    let found = running_disk S c.args.v.now c.requires.running c.requires.agrees in
    let C = c.in-Some.cleaning in
    page_room found.0 c.args.v.now.parts (S c.args.v.now.device) C found.1 c.in-Some.is
    (of_some c.args.v.now.parts.reclaiming.cleaning C (λ x. x.written < length x.pages.items) c.in-Some.is c.requires.more)

pub note_page-requires-clause-units : goal.note_page-requires-clause-units
note_page-requires-clause-units g c =
    let S = g.D.Pm.state in
    let found = running_disk S c.args.v.now c.requires.running c.requires.agrees in
    let C = c.in-Some.cleaning in
    page_owed found.0 c.args.v.now.parts (S c.args.v.now.device) C found.1 c.in-Some.is
    (of_some c.args.v.now.parts.reclaiming.cleaning C (λ x. x.written < length x.pages.items) c.in-Some.is c.requires.more)

pub returns-in-Ok-clause-agrees : goal.returns-in-Ok-clause-agrees
returns-in-Ok-clause-agrees g c =
    let S = g.D.Pm.state in
    let C = c.in-Some.cleaning in
    let some = of_some c.args.v.now.parts.reclaiming.cleaning C (λ x. x.written < length x.pages.items) c.in-Some.is c.requires.more in
    let stores = stores_of C c.deref.result.now c.deref-2.result.now c.deref.ensures.value c.deref-2.ensures.value (S c.args.v.now.device)
    (S c.store_log_page.new.device) (record {
      still = c.store_log_page.ensures.still;
      only = c.store_log_page.ensures.only;
      others = c.store_log_page.ensures.others;
      spare = c.store_log_page.ensures.spare;
      faults = c.store_log_page.ensures.faults;
    }) in
    let found = running_disk S c.args.v.now c.requires.running c.requires.agrees in
    let moves = page_moves S c.args.v.now C c.in-Some.is some g.F.Fingerprint.print found.0 found.1 (record {
      device =
          c.store_log_page.new.device;
      print = c.args.v.now.print;
      kept = c.args.v.now.kept;
      parts = c.note_page.new.parts;
    })
    (g.met.D.Pm.agree c.store_log_page.new.device) stores c.note_page.new.parts.made (c.note_page.ensures.written C c.in-Some.is)
    c.note_page.ensures.made (adds_of C c.deref.result.now c.deref-2.result.now
    c.deref.ensures.value c.deref-2.ensures.value (S c.args.v.now.device) (S c.store_log_page.new.device) c.in-Ok.ensures.stands)
    c.in-Ok.ensures.settles in
    agrees_with moves.after moves.moves.volume

pub returns-in-Ok-clause-event : goal.returns-in-Ok-clause-event
returns-in-Ok-clause-event g c = λ d v.
    let S = g.D.Pm.state in
    let C = c.in-Some.cleaning in
    let some = of_some c.args.v.now.parts.reclaiming.cleaning C (λ x. x.written < length x.pages.items) c.in-Some.is c.requires.more in
    let stores = stores_of C c.deref.result.now c.deref-2.result.now c.deref.ensures.value c.deref-2.ensures.value (S c.args.v.now.device)
    (S c.store_log_page.new.device) (record {
      still = c.store_log_page.ensures.still;
      only = c.store_log_page.ensures.only;
      others = c.store_log_page.ensures.others;
      spare = c.store_log_page.ensures.spare;
      faults = c.store_log_page.ensures.faults;
    }) in (
      page_moves S c.args.v.now C c.in-Some.is some g.F.Fingerprint.print d v (record {
        device = c.store_log_page.new.device;
        print =
            c.args.v.now.print;
        kept = c.args.v.now.kept;
        parts = c.note_page.new.parts;
      })
          (g.met.D.Pm.agree c.store_log_page.new.device) stores c.note_page.new.parts.made (c.note_page.ensures.written C c.in-Some.is)
          c.note_page.ensures.made (adds_of C c.deref.result.now c.deref-2.result.now
          c.deref.ensures.value c.deref-2.ensures.value (S c.args.v.now.device) (S c.store_log_page.new.device) c.in-Ok.ensures.stands)
          c.in-Ok.ensures.settles,
      begun_works c.args.v.now.parts C c.in-Some.is,
      lowered c.args.v.now.parts C c.in-Some.is some c.note_page.new.parts (c.note_page.ensures.written C c.in-Some.is) c.requires.none_waits
          c.len.result (omega (arith, c.len.ensures, C.pages.ok.0)),
    )

pub returns-in-Err-clause-agrees : goal.returns-in-Err-clause-agrees
returns-in-Err-clause-agrees g c =
    let S = g.D.Pm.state in
    let C = c.in-Some.cleaning in
    let some = of_some c.args.v.now.parts.reclaiming.cleaning C (λ x. x.written < length x.pages.items) c.in-Some.is c.requires.more in
    let stores = stores_of C c.deref.result.now c.deref-2.result.now c.deref.ensures.value c.deref-2.ensures.value (S c.args.v.now.device)
    (S c.store_log_page.new.device) (record {
      still = c.store_log_page.ensures.still;
      only = c.store_log_page.ensures.only;
      others = c.store_log_page.ensures.others;
      spare = c.store_log_page.ensures.spare;
      faults = c.store_log_page.ensures.faults;
    }) in
    let found = running_disk S c.args.v.now c.requires.running c.requires.agrees in
    is_stopped (page_breaks S c.args.v.now C c.in-Some.is some g.F.Fingerprint.print found.0 found.1 (record {
      device =
          c.store_log_page.new.device;
      print = c.args.v.now.print;
      kept = c.args.v.now.kept;
      parts = c.stop.new.parts;
    })
    (g.met.D.Pm.agree c.store_log_page.new.device) stores c.stop.ensures
    (c.store_log_page.ensures.failed (err_is c.store_log_page.result _ c.in-Err.is))).stopped

pub returns-in-Err-clause-event : goal.returns-in-Err-clause-event
returns-in-Err-clause-event g c = λ d v.
    let S = g.D.Pm.state in
    let C = c.in-Some.cleaning in
    let some = of_some c.args.v.now.parts.reclaiming.cleaning C (λ x. x.written < length x.pages.items) c.in-Some.is c.requires.more in
    let stores = stores_of C c.deref.result.now c.deref-2.result.now c.deref.ensures.value c.deref-2.ensures.value (S c.args.v.now.device)
    (S c.store_log_page.new.device) (record {
      still = c.store_log_page.ensures.still;
      only = c.store_log_page.ensures.only;
      others = c.store_log_page.ensures.others;
      spare = c.store_log_page.ensures.spare;
      faults = c.store_log_page.ensures.faults;
    }) in (
      page_breaks S c.args.v.now C c.in-Some.is some g.F.Fingerprint.print d v (record {
        device = c.store_log_page.new.device;
        print =
            c.args.v.now.print;
        kept = c.args.v.now.kept;
        parts = c.stop.new.parts;
      })
          (g.met.D.Pm.agree c.store_log_page.new.device) stores c.stop.ensures
          (c.store_log_page.ensures.failed (err_is c.store_log_page.result _ c.in-Err.is)),
      begun_works c.args.v.now.parts C c.in-Some.is,
    )
