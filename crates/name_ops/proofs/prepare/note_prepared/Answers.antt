use Rattle.std.proofs.Common.{Bool, ◌+◌, ◌-◌, ◌++◌, refl, sym, ◌∙◌, ap, arith}
use Rattle.std.specs.Prelude.{Option}
use Rattle.dn_volume.specs.declared.flight.Flight.{Flight}
use Rattle.dn_volume.specs.declared.flight.Change.{Change}
use Rattle.dn_volume.specs.declared.units.TheConstants.{NAMES_UNITS}
use Rattle.dn_volume.specs.Parties.{opened, blocks_of}
use Rattle.dn_volume.specs.Reserve.{units_by, runs_by, prepared_units, slots_of}
use Rattle.count_events.proofs.Flown.{in_range, at_client, get_here, get_there, set_long}
use Rattle.name_ops.proofs.prepare.note_prepared.Goals as goal

pub prepare_flight-units-requires : goal.prepare_flight-units-requires
prepare_flight-units-requires c =
    let r = c.requires.next in
    record {
      names = (
        r.flight,
        r.change,
        at_client c.args.parts.now c.args.who r.flight r.is.flies _ c.index_mut.ensures.value,
        r.is.change_is,
        c.requires.few r.flight r.is.flies,
      );
    }

pub overflow_sub-parts : goal.overflow_sub-parts
overflow_sub-parts c =
    let r = c.requires.next in
    let told = (c.prepare_flight-units.ensures r.flight r.change (at_client c.args.parts.now c.args.who r.flight r.is.flies _
    c.index_mut.ensures.value)
    r.is.change_is).1 in
    omega (arith, told, c.requires.units r.flight r.is.flies)

pub returns : goal.returns
returns c = λ f x to.
    let b = c.args.parts.now in
    let client = to.flies.client in
    let lt = in_range b c.args.who f to.flies in
    let few = c.requires.clients in
    let told = c.prepare_flight-units.ensures f x (at_client b c.args.who f to.flies _ c.index_mut.ensures.value) to.change_is in
    let units = told.1 in
    let enough = c.requires.units f to.flies in
    record {
      prepares = record {
        steps = record {
          client = client;
          replaces = record {
            place = omega (arith, lt, few);
            clients = set_long b.flights.items (c.args.who - 1) c.prepare_flight-units.new.flight;
            was = to.flies.is;
            now = ap (λ (r : Option (Option Flight)). opened r) (get_here b.flights.items (c.args.who - 1) c.prepare_flight-units.new.flight lt)
                ∙ told.0;
            others = λ k ne. ap (λ (r : Option (Option Flight)). opened r) (get_there b.flights.items (c.args.who - 1) k
                c.prepare_flight-units.new.flight ne);
            sharing = refl;
            cleaning = refl;
          };
          owed = record {
            units = let was = ap (units_by f) to.change_is ∙ ap (λ (y : Bool). prepared_units y (slots_of f) + NAMES_UNITS) to.unprepared in
                omega (arith, was, units, enough);
            trace = refl;
            history = refl;
            queue = ap (λ (y : Change). b.owed.queue + runs_by y) to.change_is;
            releases = refl;
          };
          further = record {
            op = refl;
            held = refl;
            taken = sym (ap (λ (y : Change). f.fresh.items ++ f.spare.items ++ blocks_of y) to.change_is);
          };
          geometry = refl;
          running = c.requires.running;
          free = refl;
          names = refl;
          inodes = refl;
          fact = refl;
          queue = refl;
          reclaiming = refl;
        };
        trace = refl;
        history = refl;
      };
      counts = grind (arith, c.saturating_add-parts.ensures);
    }
