use Rattle.std.proofs.Common.{Bool, ◌∙◌, ap, refl, arith}
use Rattle.std.specs.Prelude.{if◌then◌else◌}
use Rattle.dn_volume.specs.Flights.{left_by}
use Rattle.dn_volume.specs.Agrees.{agrees_with}
use Rattle.dn_volume.proofs.Tables.{running_disk}
use Rattle.name_ops.proofs.NameFlight.{flight_of, few_units}
use Rattle.name_ops.proofs.Kept.{at_flight, units_owed_now}
use Rattle.name_ops.proofs.Prepared.{names_prepare}
use Rattle.name_ops.proofs.prepare.prepare_names.Goals as goal

pub store_flight-tail-requires-clause-stands : goal.store_flight-tail-requires-clause-stands
store_flight-tail-requires-clause-stands g c = running_disk g.D.Pm.state c.args.v.now c.requires.running c.requires.agrees

pub note_prepared-requires-clause-units : goal.note_prepared-requires-clause-units
note_prepared-requires-clause-units g c = λ f flies.
    let S = g.D.Pm.state in
    let found = running_disk S c.args.v.now c.requires.running c.requires.agrees in
    let next = c.requires.next in
    let at = at_flight c.args.v.now.parts c.args.who next f flies in
    units_owed_now found.0 c.args.v.now.parts (S c.args.v.now.device) c.args.who f next.change found.1 at

pub note_prepared-requires-clause-few : goal.note_prepared-requires-clause-few
note_prepared-requires-clause-few g c = λ f flies.
    let S = g.D.Pm.state in
    let found = running_disk S c.args.v.now c.requires.running c.requires.agrees in
    let next = c.requires.next in
    let at = at_flight c.args.v.now.parts c.args.who next f flies in
    few_units found.0 c.args.v.now.parts (S c.args.v.now.device) c.args.who f next.change found.1 at.flies at.change_is
    (flight_of found.0 c.args.v.now.parts (S c.args.v.now.device) c.args.who f next.change found.1 at.flies at.change_is)

pub note_prepared-requires-clause-clients : goal.note_prepared-requires-clause-clients
note_prepared-requires-clause-clients g c = (running_disk g.D.Pm.state c.args.v.now c.requires.running c.requires.agrees).1.flights.clients

pub returns-clause-agrees : goal.returns-clause-agrees
returns-clause-agrees g c =
    let S = g.D.Pm.state in
    let found = running_disk S c.args.v.now c.requires.running c.requires.agrees in
    let next = c.requires.next in
    let b = c.args.v.now.parts in
    let flight = flight_of found.0 b (S c.args.v.now.device) c.args.who next.flight next.change found.1 next.is.flies next.is.change_is in
    let stores = c.store_flight-tail.ensures found.0 next.flight next.change flight found.1 next.is in
    let notes = c.note_prepared.ensures next.flight next.change next.is in
    let moved = names_prepare S g.F.Fingerprint.print c.args.v.now (record {
      device = c.store_flight-tail.new.device;
      print = c.args.v.now.print;
      kept = c.args.v.now.kept;
      parts
          = c.note_prepared.new.parts;
    }) stores.mid found.0 c.args.who next.flight next.change c.store_flight-tail.result flight
    found.1 stores.agree (g.met.D.Pm.agree c.store_flight-tail.new.device) next.is stores.stores stores.tail_is notes.prepares notes.counts in
    agrees_with moved.after moved.moves.volume

pub returns-clause-event : goal.returns-clause-event
returns-clause-event g c = λ d f v flies.
    let S = g.D.Pm.state in
    let next = c.requires.next in
    let b = c.args.v.now.parts in
    let at = at_flight b c.args.who next f flies in
    let flight = flight_of d b (S c.args.v.now.device) c.args.who f next.change v at.flies at.change_is in
    let stores = c.store_flight-tail.ensures d f next.change flight v at in
    let notes = c.note_prepared.ensures f next.change at in (
      names_prepare S g.F.Fingerprint.print c.args.v.now (record {
        device = c.store_flight-tail.new.device;
        print = c.args.v.now.print;
        kept = c.args.v.now.kept;
        parts =
            c.note_prepared.new.parts;
      }) stores.mid d c.args.who f next.change c.store_flight-tail.result flight v stores.agree
          (g.met.D.Pm.agree c.store_flight-tail.new.device) at stores.stores stores.tail_is notes.prepares notes.counts,
      record {
        flight = _;
        flies = record { client = flies.client; is = notes.prepares.steps.replaces.now };
        op_is = refl;
        left_is = refl;
      },
      ap (left_by f) at.change_is ∙ ap (λ (x : Bool). if x then 1 else 2) at.unprepared,
      omega arith,
    )
