use Rattle.std.proofs.Common.{◌+◌, ◌-◌, ◌∙◌, ◌++◌, refl, sym, ap, arith}
use Rattle.dn_volume.specs.declared.flight.Change.{Change}
use Rattle.dn_volume.specs.Parties.{blocks_of}
use Rattle.dn_volume.specs.Reserve.{units_by, runs_by}
use Rattle.file_ops.proofs.Flying.{within, at_client, flight_here, flight_there, set_long}
use Rattle.file_ops.proofs.Nexts.{found_next}
use Rattle.file_ops.proofs.fill.note_fill.Goals as goal

pub count_fill-requires : goal.count_fill-requires
count_fill-requires c =
    let to = c.requires.fills in (
      to.flight,
      to.data_change,
      record { is = at_client c.args.parts.now c.args.who to.flight to.flies _ c.index_mut.ensures.value; is_data = to.is_data; some = to.some },
    )

pub returns : goal.returns
returns c = λ f e flies kind.
    let b = c.args.parts.now in
    let lt = within b c.args.who f flies in
    let some = (found_next b c.args.who c.requires.fills f e _ c.index_mut.ensures.value (at_client b c.args.who f flies _ c.index_mut.ensures.value)
    kind).1 in (
      record {
        steps = record {
          client = flies.client;
          replaces = record {
            place = omega (arith, lt, c.requires.clients);
            clients = set_long b.flights.items (c.args.who - 1) c.count_fill.new.flight;
            was = flies.is;
            now = flight_here b.flights.items (c.args.who - 1) c.count_fill.new.flight lt
                ∙ c.count_fill.ensures f e (at_client b c.args.who f flies _ c.index_mut.ensures.value) kind;
            others = λ k ne. flight_there b.flights.items (c.args.who - 1) k c.count_fill.new.flight ne;
            sharing = refl;
            cleaning = refl;
          };
          owed = record {
            units = let was = ap (units_by f) kind in omega (arith, was, some, c.requires.units);
            trace = refl;
            history = refl;
            queue = ap (λ (x : Change). b.owed.queue + runs_by x) kind;
            releases = refl;
          };
          further = record { op = refl; held = refl; taken = ap (λ (x : Change). f.fresh.items ++ f.spare.items ++ blocks_of x) (sym kind) };
          geometry = refl;
          running = c.requires.running;
          free = refl;
          names = refl;
          inodes = refl;
          fact = refl;
          queue = refl;
          reclaiming = refl;
        };
        trace = refl;
        history = refl;
      },
      c.count_call-parts.ensures,
    )
