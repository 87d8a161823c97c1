use Rattle.std.proofs.Common.{◌-◌, refl, ◌∙◌, ap, arith}
use Rattle.std.specs.Prelude.{Option}
use Rattle.dn_volume.specs.declared.flight.Flight.{Flight}
use Rattle.dn_volume.specs.Parties.{opened}
use Rattle.count_events.proofs.Flown.{in_range, at_client, get_here, get_there, set_long}
use Rattle.count_events.proofs.raise.note_raise.Goals as goal

pub count_raise-requires : goal.count_raise-requires
count_raise-requires c =
    let r = c.requires.raises in
    (r.flight, (at_client c.args.parts.now c.args.who r.flight r.flies _ c.index_mut.ensures.value, r.some))

pub returns : goal.returns
returns c =
    let b = c.args.parts.now in
    let r = c.requires.raises in
    record {
      kept = record {
        geometry = refl;
        free = refl;
        names = refl;
        names_room = refl;
        inodes = refl;
        fact = refl;
        queue = refl;
        queue_room = refl;
        history = refl;
        history_len = refl;
        history_capacity = refl;
        cleaning = refl;
      };
      flight = λ f flies.
          ap (λ (x : Option (Option Flight)). opened x) (get_here b.flights.items (c.args.who - 1) c.count_raise.new.flight
          (in_range b c.args.who r.flight r.flies))
          ∙ c.count_raise.ensures f (at_client b c.args.who f flies _ c.index_mut.ensures.value);
      others = λ k ne. ap (λ (x : Option (Option Flight)). opened x) (get_there b.flights.items (c.args.who - 1) k c.count_raise.new.flight ne);
      clients = set_long b.flights.items (c.args.who - 1) c.count_raise.new.flight;
      sharing = refl;
      stopped = refl;
      releases = refl;
      len = refl;
      capacity = refl;
      raised = refl;
      zero_check = refl;
      waiting = refl;
      trace = c.push_reserved.ensures.items;
      trace_len = c.push_reserved.ensures.len;
      trace_capacity = c.push_reserved.ensures.capacity;
      owed = refl;
      made = grind (arith, c.saturating_add-parts.ensures);
    }
