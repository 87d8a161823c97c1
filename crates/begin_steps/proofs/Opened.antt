-- An operation has begun: room was made, its pages were taken, and it is in flight.
use Rattle.std.proofs.Common.{◌≡◌, ◌⊎◌, inl, inr, ⊎_elim, ℕ, ◌+◌, ◌-◌, ◌<◌, ◌≤◌, List, length, sym, ◌∙◌, ap, subst, arith, Some, None}
use Rattle.std.specs.Prelude.{Contains, slice_get, vec_len, vec_capacity}
use Rattle.std.specs.VecDeque.{deque_len, deque_capacity}
use Rattle.pm_device.specs.State.{State, IsSame, Agree}
use Rattle.page_alloc.specs.Free.{FreePages}
use Rattle.file_write.proofs.Taking.{taken-free, left-free, taken-or_left, took-length}
use Rattle.dn_model.specs.Disk.{Disk, Free}
use Rattle.dn_model.specs.History.{needed}
use Rattle.dn_model.specs.declared.op.Op.{Op}
use Rattle.dn_volume.specs.declared.flight.Flight.{Flight}
use Rattle.dn_volume.specs.declared.volume.InodeState.{InodeState}
use Rattle.dn_volume.specs.declared.volume.Parts.{Parts}
use Rattle.dn_volume.specs.declared.volume.Volume.{Volume}
use Rattle.dn_volume.specs.Parties.{flight_at, taken_by, blocks_of}
use Rattle.dn_volume.specs.Flights.{left_of}
use Rattle.dn_volume.specs.Replaces.{Replaces}
use Rattle.dn_volume.specs.Kept.{OfInodes, IsSameInode, IsHeldInode, SameWork, SameButBegun}
use Rattle.dn_volume.specs.Agrees.{IsVolume}
use Rattle.dn_volume.specs.Begins.{HasAll, IsFreshChange, HasBegun}
use Rattle.dn_volume.proofs.SameRoom.{inodes_same, work_joins, room_joins}
use Rattle.dn_volume.proofs.FlightsGranted.{flights_granted}
use Rattle.begin_steps.specs.Answering.{KeepsRoom}
use Rattle.begin_steps.specs.Room.{MakesRoom, MakesPlaceRoom}
use Rattle.begin_steps.specs.Starting.{TakesHold, Starts}
use Rattle.begin_steps.specs.Begun.{MayStart}
use Rattle.begin_steps.proofs.RoomKept.{inode_is, room_kept}
use Rattle.begin_steps.proofs.Answered.{same_places}
use Rattle.begin_steps.proofs.Started.{started}

-- room was made in memory
pub keeps_made_room : (b b' : Parts) → MakesRoom b b' → KeepsRoom b b'
keeps_made_room b b' made =
    let is = made.parts in
    record {
      same = record {
        work = record {
          geometry = ap (λ (p : Parts). p.geometry) is;
          names = made.names;
          fact = ap (λ (p : Parts). p.fact) is;
          queue = made.queue;
          sharing = ap (λ (p : Parts). p.sharing) is;
          zero_check = ap (λ (p : Parts). p.reclaiming.zero_check) is;
          raised = ap (λ (p : Parts). p.reclaiming.raised) is;
          releases = made.releases;
          waiting = ap (λ (p : Parts). p.reclaiming.waiting) is;
          cleaning = ap (λ (p : Parts). p.reclaiming.cleaning) is;
          trace = made.trace;
          stopped = ap (λ (p : Parts). p.stopped) is;
        };
        free = ap (λ (p : Parts). p.free) is;
        inodes = subst (λ (ns : List InodeState). OfInodes IsSameInode b.inodes.items ns) (sym (ap (λ (p : Parts). p.inodes.items) is))
            (inodes_same b.inodes.items);
        flights = ap (λ (p : Parts). p.flights.items) is;
      };
      owed = ap (λ (p : Parts). p.owed) is;
      trace = λ le. let len = made.trace_len in let more = made.trace_capacity in omega (arith, le, len, more);
      history = λ le. let len = made.history_len in let more = made.history_capacity in omega (arith, le, len, more);
      queue = made.queue_room;
      releases = λ le. let len = made.releases_len in let more = made.releases_capacity in omega (arith, le, len, more);
      names = made.names_room;
      places = λ ino n n' at at'. same_places b.inodes.items ino n n' at (sym (ap (λ (p : Parts). slice_get p.inodes.items ino) is) ∙ at');
    }

-- and in an inode's map
pub keeps_place_room : (b b' : Parts) → MakesPlaceRoom b b' → KeepsRoom b b'
keeps_place_room b b' made =
    let is = made.parts in
    record {
      same = record {
        work = record {
          geometry = ap (λ (p : Parts). p.geometry) is;
          names = ap (λ (p : Parts). p.names.map) is;
          fact = ap (λ (p : Parts). p.fact) is;
          queue = ap (λ (p : Parts). p.queue.items) is;
          sharing = ap (λ (p : Parts). p.sharing) is;
          zero_check = ap (λ (p : Parts). p.reclaiming.zero_check) is;
          raised = ap (λ (p : Parts). p.reclaiming.raised) is;
          releases = ap (λ (p : Parts). p.reclaiming.releases.items) is;
          waiting = ap (λ (p : Parts). p.reclaiming.waiting) is;
          cleaning = ap (λ (p : Parts). p.reclaiming.cleaning) is;
          trace = ap (λ (p : Parts). p.trace.items) is;
          stopped = ap (λ (p : Parts). p.stopped) is;
        };
        free = ap (λ (p : Parts). p.free) is;
        inodes = record {
          all = made.inodes.all;
          each = λ ino n n' at at'. let more = made.inodes.each ino n n' at at' in record {
            same = record {
              used = ap (λ (m : InodeState). m.used) more.node;
              size = ap (λ (m : InodeState). m.size) more.node;
              places = more.map;
              log_pages = ap (λ (m : InodeState). m.log_pages) more.node;
              round = ap (λ (m : InodeState). m.round) more.node;
            };
            holder = ap (λ (m : InodeState). m.holder) more.node;
          };
        };
        flights = ap (λ (p : Parts). p.flights.items) is;
      };
      owed = ap (λ (p : Parts). p.owed) is;
      trace = λ le. let len = ap (λ (p : Parts). vec_len p.trace) is in let room = ap (λ (p : Parts). vec_capacity p.trace) is in
          omega (arith, le, len, room);
      history = λ le. let len = ap (λ (p : Parts). vec_len p.history) is in let room = ap (λ (p : Parts). vec_capacity p.history) is in
          omega (arith, le, len, room);
      queue = let same = ap (λ (p : Parts). p.queue.room) is in omega (arith, same);
      releases = λ le. let len = ap (λ (p : Parts). deque_len p.reclaiming.releases) is in
          let room = ap (λ (p : Parts). deque_capacity p.reclaiming.releases) is in omega (arith, le, len, room);
      names = let same = ap (λ (p : Parts). p.names.room) is in omega (arith, same);
      places = λ ino n n' at at'. (made.inodes.each ino n n' at at').room;
    }

-- one after the other
pub keeps_both : (a b c : Parts) → KeepsRoom a b → KeepsRoom b c → KeepsRoom a c
keeps_both a b c one two = record {
  same = room_joins a b c one.same two.same;
  owed = two.owed ∙ one.owed;
  trace = λ le. let same = ap (λ r. r.trace) one.owed in let mid = one.trace le in
      let last = two.trace (omega (arith, mid, same)) in omega (arith, last, same);
  history = λ le. let same = ap (λ r. r.history) one.owed in let mid = one.history le in
      let last = two.history (omega (arith, mid, same)) in omega (arith, last, same);
  queue = let x = one.queue in let y = two.queue in omega (arith, x, y);
  releases = λ le. let same = ap (λ r. r.releases) one.owed in let mid = one.releases le in
      let last = two.releases (omega (arith, mid, same)) in omega (arith, last, same);
  names = let x = one.names in let y = two.names in omega (arith, x, y);
  places = λ ino n p at at'.
      let mid = inode_is IsSameInode a.inodes.items b.inodes.items one.same.inodes ino n at in
      let x = one.places ino n mid.0 at mid.1 in let y = two.places ino mid.0 p mid.1 at' in omega (arith, x, y);
}

-- the units of what is owed are there still
pub units_kept : (owed before after : ℕ) → owed ≤ before → (after ≡ before) ⊎ (owed ≤ after) → owed ≤ after
units_kept owed before after le spare = ⊎_elim (λ same. omega (arith, le, same)) (λ more. more) spare

-- the operation is in flight, over the volume for which room was made
module _ {D F : Type 0} (state : D → State) (who : ℕ) (op : Op) (left : ℕ) (f : Flight) (free' : FreePages) (v v1 v' : Volume D F) (d : Disk)
    (volume : IsVolume d v.parts (state v.device)) (agree : Agree (state v.device).now (state v.device).past)
    (agree1 : Agree (state v1.device).now (state v1.device).past)
    (device : IsSame (state v.device) (state v1.device)) (keeps : KeepsRoom v.parts v1.parts)
    (units : v.parts.owed.units ≤ (state v1.device).spare) (history : v1.parts.history.items ≡ v.parts.history.items)
    (made : v1.parts.made ≡ v.parts.made) (same : v'.device ≡ v1.device)
    (may : MayStart d who f free' v1.parts (state v1.device)) (starts : Starts who f (record v1.parts { free = free' }) v'.parts) where
  volume1 : IsVolume d v1.parts (state v1.device)
  volume1 = room_kept d v.parts v1.parts (state v.device) (state v1.device) volume agree device keeps units

  work1 : SameWork v1.parts v'.parts
  work1 = record {
    geometry = ap (λ (p : Parts). p.geometry) starts.parts;
    names = ap (λ (p : Parts). p.names.map) starts.parts;
    fact = ap (λ (p : Parts). p.fact) starts.parts;
    queue = ap (λ (p : Parts). p.queue.items) starts.parts;
    sharing = ap (λ (p : Parts). p.sharing) starts.parts;
    zero_check = ap (λ (p : Parts). p.reclaiming.zero_check) starts.parts;
    raised = ap (λ (p : Parts). p.reclaiming.raised) starts.parts;
    releases = ap (λ (p : Parts). p.reclaiming.releases.items) starts.parts;
    waiting = ap (λ (p : Parts). p.reclaiming.waiting) starts.parts;
    cleaning = ap (λ (p : Parts). p.reclaiming.cleaning) starts.parts;
    trace = ap (λ (p : Parts). p.trace.items) starts.parts;
    stopped = ap (λ (p : Parts). p.stopped) starts.parts;
  }

  free_now : v'.parts.free ≡ free'
  free_now = ap (λ (p : Parts). p.free) starts.parts

  held_inode : (ino : ℕ) (n m n' : InodeState) → slice_get v1.parts.inodes.items ino ≡ Some m → IsSameInode ino n m
      → TakesHold who f.held.items ino m n' → IsHeldInode who f ino n n'
  held_inode ino n m n' at one two = record {
    same = record {
      used = ap (λ (x : InodeState). x.used) two.node ∙ one.same.used;
      size = ap (λ (x : InodeState). x.size) two.node ∙ one.same.size;
      places = ap (λ (x : InodeState). x.map.map) two.node ∙ one.same.places;
      log_pages = ap (λ (x : InodeState). x.log_pages) two.node ∙ one.same.log_pages;
      round = ap (λ (x : InodeState). x.round) two.node ∙ one.same.round;
    };
    loose = λ has. sym one.holder ∙ may.loose ino m has at;
    held = two.mine;
    kept = λ out. two.kept out ∙ one.holder;
  }

  begun_inodes : OfInodes (IsHeldInode who f) v.parts.inodes.items v'.parts.inodes.items
  begun_inodes = record {
    all = starts.inodes.all ∙ keeps.same.inodes.all;
    each = λ ino n n' at at'.
        let mid = inode_is IsSameInode v.parts.inodes.items v1.parts.inodes.items keeps.same.inodes ino n at in
        held_inode ino n mid.0 n' mid.1 mid.2 (starts.inodes.each ino mid.0 n' mid.1 at');
  }

  pages_long : length (taken_by f) ≡ needed d f.op
  pages_long = (flights_granted d who f (state v1.device) may.plans).1

  same_begun : SameButBegun who f v.parts v'.parts
  same_begun = record {
    work = work_joins v.parts v1.parts v'.parts keeps.same.work work1;
    free = λ page. subst (λ (x : FreePages). (Contains x.free page → Contains v'.parts.free.free page ⊎ Contains (taken_by f) page)
        × (Contains v'.parts.free.free page ⊎ Contains (taken_by f) page → Contains x.free page)) keeps.same.free
        (subst (λ (x : FreePages). (Contains v1.parts.free.free page → Contains x.free page ⊎ Contains (taken_by f) page)
        × (Contains x.free page ⊎ Contains (taken_by f) page → Contains v1.parts.free.free page)) (sym free_now) (
          (λ has. ⊎_elim (λ took. inr took) (λ rest. inl rest)
              (taken-or_left v1.parts.free free' f.fresh.items f.spare.items (blocks_of f.change) volume1.space.in_order may.takes page has)),
          (λ either. ⊎_elim
              (λ rest. left-free v1.parts.free free' f.fresh.items f.spare.items (blocks_of f.change) volume1.space.in_order may.takes page rest)
              (λ took. taken-free v1.parts.free free' f.fresh.items f.spare.items (blocks_of f.change) volume1.space.in_order may.takes page took)
              either),
        ));
    inodes = begun_inodes;
  }

  replaces : Replaces (who - 1) None (Some f) v.parts v'.parts
  replaces = record {
    place = let some = may.begins.some in let few = may.begins.few in omega (arith, some, few);
    clients = starts.clients ∙ ap length keeps.same.flights;
    was = ap (λ fs. flight_at fs (who - 1)) (sym keeps.same.flights) ∙ may.begins.idle;
    now = starts.flight;
    others = λ k other. starts.others k other ∙ ap (λ fs. flight_at fs k) keeps.same.flights;
    sharing = ap (λ (p : Parts). p.sharing) starts.parts ∙ keeps.same.work.sharing;
    cleaning = ap (λ (p : Parts). p.reclaiming.cleaning) starts.parts ∙ keeps.same.work.cleaning;
  }

  pub begun : HasAll d v.parts op → f.op ≡ op → left ≡ left_of f → IsFreshChange f.change
      → ((i j : ℕ) → Contains f.held.items i → (d.inode i).use_of ≡ Free → 1 ≤ j → j < i → (d.inode j).use_of ≡ Free → ⊥)
      → HasBegun state who op left v v' d
  begun has op_is left_is fresh least = record {
    has = has;
    volume = subst (λ (x : D). IsVolume d v'.parts (state x)) (sym same)
        (started d who f free' v1.parts v'.parts (state v1.device) volume1 agree1 may starts);
    device = subst (λ (x : D). IsSame (state v.device) (state x)) (sym same) device;
    flight = f;
    opens = record {
      client = may.begins.some;
      replaces = replaces;
      op_is = op_is;
      left_is = left_is;
      unraised = may.unraised;
      fresh = fresh;
      least = least;
      same = same_begun;
      takes =
          let all = took-length v1.parts.free free' (taken_by f) may.takes in
          let pages = pages_long in
          let need = ap (needed d) op_is in
          let was = ap (λ (x : FreePages). length x.free) keeps.same.free in
          let now = ap (λ (x : FreePages). length x.free) free_now in
          omega (arith, all, pages, need, was, now);
    };
    history = ap (λ (p : Parts). p.history.items) starts.parts ∙ history;
    counts = subst (λ (k : ℕ). (v'.parts.made ≡ k + 1) ⊎ ((k ≡ 18446744073709551615) × (v'.parts.made ≡ k))) made starts.counts;
  }
