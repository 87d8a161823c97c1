use Rattle.std.proofs.Common.{◌≡◌, ◌⊎◌, ◌+◌, refl, arith}
use Rattle.dn_volume.specs.Agrees.{agrees_with, is_stopped}
use Rattle.dn_volume.proofs.Tables.{running_disk}
use Rattle.count_events.proofs.Flown.{in_range}
use Rattle.name_ops.proofs.Committed.{
  to_commit,
  node_file,
  node_there,
  gate_closed,
  gate_settled,
  spare_there,
  can_land,
  back_again,
  commit_answers,
  commit_breaks,
  breaks_of,
  answers_of,
}
use Rattle.name_ops.proofs.commit.commit_names.Goals as goal

pub commit_change-requires-clause-file : goal.commit_change-requires-clause-file
commit_change-requires-clause-file g c =
    let S = g.D.Pm.state in
    let b = c.args.v.now.parts in
    let found = running_disk S c.args.v.now c.requires.running c.requires.agrees in
    let to = to_commit b c.args.who c.requires.next c.take_flight-flight.result c.take_flight-flight.ensures.was c.in-Names.change c.in-Names.is in
    node_file found.0 b (S c.args.v.now.device) c.args.who c.take_flight-flight.result c.in-Names.change found.1 to.0

pub commit_change-requires-clause-node : goal.commit_change-requires-clause-node
commit_change-requires-clause-node g c =
    let S = g.D.Pm.state in
    let b = c.args.v.now.parts in
    let found = running_disk S c.args.v.now c.requires.running c.requires.agrees in
    let to = to_commit b c.args.who c.requires.next c.take_flight-flight.result c.take_flight-flight.ensures.was c.in-Names.change c.in-Names.is in
    node_there found.0 b (S c.args.v.now.device) c.args.who c.take_flight-flight.result c.in-Names.change found.1 to.0

pub commit_change-requires-clause-closed : goal.commit_change-requires-clause-closed
commit_change-requires-clause-closed g c =
    let S = g.D.Pm.state in
    let b = c.args.v.now.parts in
    let found = running_disk S c.args.v.now c.requires.running c.requires.agrees in
    let to = to_commit b c.args.who c.requires.next c.take_flight-flight.result c.take_flight-flight.ensures.was c.in-Names.change c.in-Names.is in
    gate_closed found.0 b (S c.args.v.now.device) c.args.who c.take_flight-flight.result c.in-Names.change found.1 to.0

pub commit_change-requires-clause-settled : goal.commit_change-requires-clause-settled
commit_change-requires-clause-settled g c =
    let S = g.D.Pm.state in
    let b = c.args.v.now.parts in
    let found = running_disk S c.args.v.now c.requires.running c.requires.agrees in
    let to = to_commit b c.args.who c.requires.next c.take_flight-flight.result c.take_flight-flight.ensures.was c.in-Names.change c.in-Names.is in
    gate_settled found.0 b (S c.args.v.now.device) c.args.who c.take_flight-flight.result c.in-Names.change found.1 to.0

pub commit_change-requires-clause-room : goal.commit_change-requires-clause-room
commit_change-requires-clause-room g c =
    let S = g.D.Pm.state in
    let b = c.args.v.now.parts in
    let found = running_disk S c.args.v.now c.requires.running c.requires.agrees in
    let to = to_commit b c.args.who c.requires.next c.take_flight-flight.result c.take_flight-flight.ensures.was c.in-Names.change c.in-Names.is in
    spare_there found.0 b (S c.args.v.now.device) c.args.who c.take_flight-flight.result c.in-Names.change found.1 to.0

pub put_back-requires-clause-there : goal.put_back-requires-clause-there
put_back-requires-clause-there g c =
    let lt = in_range c.args.v.now.parts c.args.who c.requires.next.flight c.requires.next.is.flies in
    omega (arith, lt, c.take_flight-flight.ensures.clients)

pub land_names-requires : goal.land_names-requires
land_names-requires g c =
    let S = g.D.Pm.state in
    let b = c.args.v.now.parts in
    let found = running_disk S c.args.v.now c.requires.running c.requires.agrees in
    let to = to_commit b c.args.who c.requires.next c.take_flight-flight.result c.take_flight-flight.ensures.was c.in-Names.change c.in-Names.is in
    record {
      can = (
        c.in-Names.change,
        can_land found.0 b (S c.args.v.now.device) c.args.who c.take_flight-flight.result c.in-Names.change found.1 to.0 to.1 _
            (record {
              geometry = refl;
              free = refl;
              names = refl;
              inodes = refl;
              fact = refl;
              queue = refl;
              sharing = refl;
              reclaiming = refl;
              history = refl;
              trace = refl;
              stopped = refl;
              owed = refl;
            }),
      );
    }

pub returns-clause-event : goal.returns-clause-event
returns-clause-event g c = λ d f v flies.
    let S = g.D.Pm.state in
    let b = c.args.v.now.parts in
    let to = to_commit b c.args.who c.requires.next c.take_flight-flight.result c.take_flight-flight.ensures.was c.in-Names.change c.in-Names.is in
    answers_of S g.F.Fingerprint.print c.args.v.now (record {
      device = c.commit_change.new.device;
      print = c.args.v.now.print;
      kept = c.args.v.now.kept;
      parts =
          c.land_names.new.parts;
    }) c.args.who c.take_flight-flight.result c.in-Names.change to.0
    (g.met.D.Pm.agree c.args.v.now.device) d f flies
    (commit_answers S g.F.Fingerprint.print c.args.v.now (record {
      device = c.commit_change.new.device;
      print = c.args.v.now.print;
      kept = c.args.v.now.kept;
      parts =
          c.land_names.new.parts;
    }) c.args.who c.take_flight-flight.result c.in-Names.change to.0
    (g.met.D.Pm.agree c.args.v.now.device) c.in-Ok.ensures.done to.1 _
    (record {
      geometry = refl;
      free = refl;
      names = refl;
      inodes = refl;
      fact = refl;
      queue = refl;
      sharing = refl;
      reclaiming = refl;
      history = refl;
      trace = refl;
      stopped = refl;
      owed = refl;
    })
    c.take_flight-flight.ensures.clients c.take_flight-flight.ensures.landed c.take_flight-flight.ensures.others
    (c.land_names.ensures c.in-Names.change) (grind (arith, c.saturating_add-v.ensures)) d v)

pub returns-clause-agrees : goal.returns-clause-agrees
returns-clause-agrees g c =
    let S = g.D.Pm.state in
    let b = c.args.v.now.parts in
    let found = running_disk S c.args.v.now c.requires.running c.requires.agrees in
    let to = to_commit b c.args.who c.requires.next c.take_flight-flight.result c.take_flight-flight.ensures.was c.in-Names.change c.in-Names.is in
    let answers = commit_answers S g.F.Fingerprint.print c.args.v.now (record {
      device = c.commit_change.new.device;
      print =
          c.args.v.now.print;
      kept = c.args.v.now.kept;
      parts = c.land_names.new.parts;
    }) c.args.who c.take_flight-flight.result c.in-Names.change to.0
    (g.met.D.Pm.agree c.args.v.now.device) c.in-Ok.ensures.done to.1 _
    (record {
      geometry = refl;
      free = refl;
      names = refl;
      inodes = refl;
      fact = refl;
      queue = refl;
      sharing = refl;
      reclaiming = refl;
      history = refl;
      trace = refl;
      stopped = refl;
      owed = refl;
    })
    c.take_flight-flight.ensures.clients c.take_flight-flight.ensures.landed c.take_flight-flight.ensures.others
    (c.land_names.ensures c.in-Names.change) (grind (arith, c.saturating_add-v.ensures)) found.0 found.1 in
    agrees_with answers.after answers.moves.volume

pub returns-in_default-commit_change-clause-event : goal.returns-in_default-commit_change-clause-event
returns-in_default-commit_change-clause-event g c = λ d f v flies.
    let S = g.D.Pm.state in
    let b = c.args.v.now.parts in
    let to = to_commit b c.args.who c.requires.next c.take_flight-flight.result c.take_flight-flight.ensures.was c.in-Names.change c.in-Names.is in
    let counted : (c.saturating_add-v.result ≡ b.made + 1) ⊎ ((b.made ≡ 18446744073709551615) × (c.saturating_add-v.result ≡ b.made)) =
    grind (arith, c.saturating_add-v.ensures) in
    breaks_of S g.F.Fingerprint.print c.args.v.now (record { device = c.commit_change.new.device; print = c.args.v.now.print; kept = c.args.v.now.kept; parts = _ }) c.args.who
    c.take_flight-flight.result c.in-Names.change to.0 (g.met.D.Pm.agree c.args.v.now.device) d f flies
    (commit_breaks S g.F.Fingerprint.print c.args.v.now (record { device = c.commit_change.new.device; print = c.args.v.now.print; kept = c.args.v.now.kept; parts = _ })
    c.args.who c.take_flight-flight.result c.in-Names.change to.0 (g.met.D.Pm.agree c.args.v.now.device) c.commit_change.ensures.any_moment
    c.commit_change.ensures.only (c.in_default-commit_change.ensures.failed refl) c.commit_change.ensures.faults
    (record {
      stopped = refl;
      geometry = refl;
      flights = back_again b.flights.items c.take_flight-flight.new.flights.items c.put_back.new.flights.items c.args.who c.take_flight-flight.result
          c.take_flight-flight.ensures.was c.take_flight-flight.ensures.others c.put_back.ensures.here c.put_back.ensures.others;
      sharing = refl;
      cleaning = refl;
      history = refl;
      trace = refl;
    }) counted d v)

pub returns-in_default-commit_change-clause-agrees : goal.returns-in_default-commit_change-clause-agrees
returns-in_default-commit_change-clause-agrees g c =
    let S = g.D.Pm.state in
    let b = c.args.v.now.parts in
    let found = running_disk S c.args.v.now c.requires.running c.requires.agrees in
    let to = to_commit b c.args.who c.requires.next c.take_flight-flight.result c.take_flight-flight.ensures.was c.in-Names.change c.in-Names.is in
    let counted : (c.saturating_add-v.result ≡ b.made + 1) ⊎ ((b.made ≡ 18446744073709551615) × (c.saturating_add-v.result ≡ b.made)) =
    grind (arith, c.saturating_add-v.ensures) in
    is_stopped (commit_breaks S g.F.Fingerprint.print c.args.v.now (record {
      device = c.commit_change.new.device;
      print =
          c.args.v.now.print;
      kept = c.args.v.now.kept;
      parts = _;
    })
    c.args.who c.take_flight-flight.result c.in-Names.change to.0 (g.met.D.Pm.agree c.args.v.now.device) c.commit_change.ensures.any_moment
    c.commit_change.ensures.only (c.in_default-commit_change.ensures.failed refl) c.commit_change.ensures.faults
    (record {
      stopped = refl;
      geometry = refl;
      flights = back_again b.flights.items c.take_flight-flight.new.flights.items c.put_back.new.flights.items c.args.who c.take_flight-flight.result
          c.take_flight-flight.ensures.was c.take_flight-flight.ensures.others c.put_back.ensures.here c.put_back.ensures.others;
      sharing = refl;
      cleaning = refl;
      history = refl;
      trace = refl;
    }) counted found.0 found.1).stopped
