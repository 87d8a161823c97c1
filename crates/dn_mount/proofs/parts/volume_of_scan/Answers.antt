use Rattle.std.proofs.Common.{refl, arith}
use Rattle.dn_mount.proofs.Fresh.{fresh_volume}
use Rattle.dn_mount.proofs.parts.volume_of_scan.Goals as goal

pub returns-clause-fresh : goal.returns-clause-fresh
returns-clause-fresh c = record {
  geometry = refl;
  free = refl;
  names = refl;
  inodes = refl;
  fact = refl;
  queue = refl;
  flights = c.in_ok-flights.ensures;
  sharing = refl;
  zero_check = refl;
  unraised = refl;
  releases = c.new.ensures.items;
  waiting = refl;
  cleaning = refl;
  history = c.new-2.ensures.items;
  trace = c.new-3.ensures.items;
  made = refl;
  running = refl;
  owed = refl;
  room_trace = omega (arith, c.new-3.ensures.len);
  room_history = omega (arith, c.new-2.ensures.len);
  room_releases = omega (arith, c.new.ensures.len);
}

pub returns-clause-volume : goal.returns-clause-volume
returns-clause-volume c = λ d s is. fresh_volume d c.args.scan s is _ (returns-clause-fresh c)
