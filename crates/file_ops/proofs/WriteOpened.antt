-- A Write that nothing stands in the way of gets what it takes, and is in flight.
use Rattle.std.proofs.Common.{◌≡◌, ⊎_elim, ℕ, ◌+◌, ◌-◌, ◌<◌, ◌≤◌, List, [], ◌∷◌, length, refl, sym, ◌∙◌, ap, subst, arith, Option, Some, None}
use Rattle.std.specs.Prelude.{All, Contains, slice_get, slice_index, get_or}
use Rattle.std.proofs.lemmas.Bool.{cases_lt}
use Rattle.std.proofs.lemmas.List.Elements.{All-nil, All-cons, All-same}
use Rattle.pm_device.specs.State.{State, IsSame, Agree}
use Rattle.law_unique.proofs.Listings.{here, none_listed, cons_cases}
use Rattle.page_alloc.specs.Free.{FreePages}
use Rattle.file_write.specs.Plan.{IsPlan}
use Rattle.file_write.specs.declared.plan.WritePlan.{WritePlan}
use Rattle.file_write.proofs.Taking.{took-length}
use Rattle.dn_model.specs.Maps.{size_of}
use Rattle.pm_layout.specs.declared.Geometry.{Geometry}
use Rattle.pm_layout.specs.Geometry.{inode_word}
use Rattle.dn_model.specs.Log.{Log, IsPaged, count, tail_at}
use Rattle.dn_model.specs.Disk.{Disk}
use Rattle.dn_model.specs.History.{touched, room, needed, reserve}
use Rattle.dn_model.specs.declared.op.Op.{Op}
use Rattle.dn_model.specs.declared.op.Op.TheVariants.{Write}
use Rattle.dn_volume.specs.declared.flight.Flight.{Flight}
use Rattle.dn_volume.specs.declared.volume.InodeState.{InodeState}
use Rattle.dn_volume.specs.declared.volume.Parts.{Parts}
use Rattle.dn_volume.specs.declared.volume.Room.{Room}
use Rattle.dn_volume.specs.declared.volume.Volume.{Volume}
use Rattle.dn_volume.specs.Parties.{flight_at, taken_by}
use Rattle.dn_volume.specs.Reserve.{owed_to}
use Rattle.dn_volume.specs.Flights.{left_of}
use Rattle.dn_volume.specs.Kept.{IsSameInode, SameButRoom}
use Rattle.dn_volume.specs.Begins.{MayBegin, HasAll, HasBegun, IsUntouched, lost_rows}
use Rattle.dn_volume.specs.Agrees.{IsVolume}
use Rattle.begin_steps.specs.Held.{AreLooseAmong}
use Rattle.begin_steps.specs.Room.{HasRoomFor}
use Rattle.begin_steps.specs.Starting.{IsFew, Starts}
use Rattle.begin_steps.specs.Begun.{MayStart}
use Rattle.begin_steps.proofs.RoomKept.{room_kept, inode_was}
use Rattle.begin_steps.proofs.Answered.{untouched_room}
use Rattle.begin_steps.proofs.Opened.{units_kept, begun}
use Rattle.data_begins.specs.declared.asks.DataAsk.{DataAsk}
use Rattle.data_begins.specs.declared.ready.Ready.{Ready}
use Rattle.data_begins.specs.Asked.{IsAsk}
use Rattle.data_begins.proofs.LiveFiles.{node_at, file_is, log_paged, tail_read}
use Rattle.data_begins.specs.Ready.{data_room, data_flight, OnlyMakesRoom, IsReady}
use Rattle.file_ops.proofs.WritePlanned.{places, op_needs, runs_long, runs_few, fresh_few, taken_long, held_live, flight_is}

-- what a room holds, a smaller one is held too
pub less_room : (more less : Room) (b : Parts) → less.units ≤ more.units → less.trace ≤ more.trace → less.history ≤ more.history
    → less.queue ≤ more.queue → less.releases ≤ more.releases → HasRoomFor more b → HasRoomFor less b
less_room more less b units trace history queue releases has =
    let f_units = has.fits.units in
    let f_trace = has.fits.trace in
    let f_history = has.fits.history in
    let f_queue = has.fits.queue in
    let f_releases = has.fits.releases in
    let h_trace = has.has.trace in
    let h_history = has.has.history in
    let h_queue = has.has.queue in
    let h_names = has.has.names in
    let h_releases = has.has.releases in
    record {
      fits = record {
        units = omega (arith, f_units, units);
        trace = omega (arith, f_trace, trace);
        history = omega (arith, f_history, history);
        queue = omega (arith, f_queue, queue);
        releases = omega (arith, f_releases, releases);
      };
      has = record {
        trace = omega (arith, h_trace, trace);
        history = omega (arith, h_history, history);
        queue = omega (arith, h_queue, queue);
        names = omega (arith, h_names, history);
        releases = omega (arith, h_releases, releases);
      };
    }

module _ {D F : Type 0} (state : D → State) (v v1 : Volume D F) (d : Disk) (volume : IsVolume d v.parts (state v.device))
    (agree : Agree (state v.device).now (state v.device).past) (only : OnlyMakesRoom state v v1) where
  pub units_there : v.parts.owed.units ≤ (state v1.device).spare
  units_there = units_kept v.parts.owed.units (state v.device).spare (state v1.device).spare volume.room.units only.spare

  pub volume1 : IsVolume d v1.parts (state v1.device)
  volume1 = room_kept d v.parts v1.parts (state v.device) (state v1.device) volume agree only.device only.keeps units_there

  pub untouched1 : IsUntouched state v v1 d
  untouched1 = untouched_room state v d volume v1 agree only.device only.keeps units_there only.history only.made

  -- it is over the volume again for which room was made, if the pages are free again
  pub untouched2 : (v2 : Volume D F) → v2.device ≡ v1.device → v2.parts ≡ v1.parts → IsUntouched state v v2 d
  untouched2 v2 device parts = record {
    volume = subst (λ (x : D). IsVolume d v2.parts (state x)) (sym device) (subst (λ (p : Parts). IsVolume d p (state v1.device))
        (sym parts) volume1);
    device = subst (λ (x : D). IsSame (state v.device) (state x)) (sym device) only.device;
    same = subst (λ (p : Parts). SameButRoom v.parts p) (sym parts) only.keeps.same;
    history = ap (λ (p : Parts). p.history.items) parts ∙ only.history;
    made = ap (λ (p : Parts). p.made) parts ∙ only.made;
  }

  module _ (op : Op) (name : List ℕ) (at : ℕ) (text : List ℕ) (op_is : op ≡ Write name at text) (ask : DataAsk) (is : IsAsk d op ask)
      (who : ℕ) (may : MayBegin v.parts who) (has : HasAll d v.parts op) (ready : Ready)
      (rdy : IsReady state ask (touched at (length text)) (touched at (length text)) v v1 ready) where
    pub all_inside : All (λ ino. ino < length v1.parts.inodes.items) ready.held.items
    all_inside = All-same (λ ino. ino < length v1.parts.inodes.items) ready.held.items (ask.ino ∷ []) rdy.held
        (All-cons (λ ino. ino < length v1.parts.inodes.items) ask.ino []
        (let small = is.file.in_table in let all = volume1.inodes.all in omega (arith, small, all))
        (All-nil (λ ino. ino < length v1.parts.inodes.items)))

    inside : (ino : ℕ) → Contains ready.held.items ino → ino < length v1.parts.inodes.items
    inside ino has = ⊎_elim
        (λ same. let small = is.file.in_table in let all = volume1.inodes.all in omega (arith, same, small, all))
        (λ none. absurd (none_listed ino none)) (cons_cases ask.ino ino [] (subst (λ (xs : List ℕ). Contains xs ino) rdy.held has))

    -- nobody holds it
    loose0 : (n : InodeState) → slice_get v.parts.inodes.items ask.ino ≡ Some n → n.holder ≡ None
    loose0 n at_ino = by n.holder refl
      where
        by : (o : Option ℕ) → n.holder ≡ o → o ≡ None
        by None same = refl
        by (Some q) same = absurd (has.unhindered.loose ask.ino q (subst (λ (xs : List ℕ). Contains xs ask.ino) (sym is.holds) (here ask.ino []))
            ((volume.holders.told ask.ino q n at_ino).0 same))

    loose1 : AreLooseAmong v1.parts.inodes.items ready.held.items
    loose1 ino n has at_ino =
        let was = inode_was IsSameInode v.parts.inodes.items v1.parts.inodes.items only.keeps.same.inodes ino n at_ino in
        was.2.holder ∙ ⊎_elim (λ same. loose0 was.0 (subst (λ (i : ℕ). slice_get v.parts.inodes.items i ≡ Some was.0) (sym same) was.1))
        (λ none. absurd (none_listed ino none)) (cons_cases ask.ino ino [] (subst (λ (xs : List ℕ). Contains xs ino) rdy.held has))

    -- its size and its log's room, as they are read
    pub size_at : (node : InodeState) → node ≡ get_or v1.parts.inodes.items ask.ino node → size_of (d.inode ask.ino).log ≡ node.size
    size_at node same = (file_is d v1.parts (state v1.device) volume1 ask.ino is.file node
        (node_at d v1.parts (state v1.device) volume1 ask.ino is.file node same)).size_is

    pub room_at : (tail left at_word : ℕ) → at_word ≡ inode_word ask.ino 2 → tail ≡ slice_index (state v1.device).now at_word
        → ((g : Geometry) (log : Log) → IsPaged g log → tail ≡ tail_at log.pages (count log) → left ≡ room log) → left ≡ room (d.inode ask.ino).log
    room_at tail left at_word word read clause = clause d.geometry (d.inode ask.ino).log (log_paged d v1.parts
        (state v1.device) volume1 ask.ino is.file)
        (read ∙ ap (slice_index (state v1.device).now) word ∙ tail_read d v1.parts (state v1.device) volume1 ask.ino is.file)

    module _ (size left : ℕ) (size_is : size_of (d.inode ask.ino).log ≡ size) (room_is : left ≡ room (d.inode ask.ino).log)
        (free' : FreePages) (plan : WritePlan) (p : IsPlan size at (length text) left v1.parts.free free' plan) where
      abbrev f : Flight
      f = data_flight op ask.ino ready plan

      few_runs : length plan.runs.items ≤ touched at (length text)
      few_runs = runs_few d op name at text op_is ask is v1.parts (state v1.device) volume1 who ready rdy.held (rdy.rows d volume) size left size_is
          room_is free' plan p

      long_runs : length plan.slots.items ≡ length plan.runs.items
      long_runs = runs_long d op name at text op_is ask is v1.parts (state v1.device) volume1 who ready rdy.held (rdy.rows d volume) size left size_is
          room_is free' plan p

      one_fresh : length plan.fresh.items ≤ 1
      one_fresh = fresh_few d op name at text op_is ask is v1.parts (state v1.device) volume1 who ready rdy.held (rdy.rows d volume) size left size_is
          room_is free' plan p

      few_places : touched at (length text) ≤ 17
      few_places = (places d op name at text op_is ask is).1

      pub is_few : IsFew f
      is_few = record {
        rows = rdy.few;
        slots = omega (arith, few_runs, long_runs, few_places);
        fresh = omega (arith, one_fresh);
        change = let all = p.places in omega (arith, all, few_places);
      }

      less_units : (owed_to (Some f)).units ≤ (data_room (touched at (length text)) (length ready.rows.items) (touched at (length text))).units
      less_units = let all = p.places in omega (arith, all, few_runs, long_runs, one_fresh)

      pub room_for : HasRoomFor (owed_to (Some f)) v1.parts
      room_for = less_room (data_room (touched at (length text)) (length ready.rows.items) (touched at (length text))) (owed_to (Some f)) v1.parts
          less_units (omega arith) (omega arith) few_runs (omega arith) rdy.room

      releases_few : length v1.parts.reclaiming.releases.items + length ready.rows.items ≤ 1048576
      releases_few = ⊎_elim
          (λ many. absurd (has.releases (omega (arith, many, same, rows))))
          (λ few. omega (arith, few, same, rows))
          (cases_lt 1048576 (length v.parts.reclaiming.releases.items + length (lost_rows d op)))
        where
          same : length v1.parts.reclaiming.releases.items ≡ length v.parts.reclaiming.releases.items
          same = ap (λ (xs : List ℕ). length xs) only.keeps.same.work.releases

          rows : length ready.rows.items ≡ length (lost_rows d op)
          rows = ap (λ (xs : List ℕ). length xs) (rdy.rows d volume ∙ sym is.loses)

      -- enough pages are left
      free_left : 2 ≤ length free'.free
      free_left =
          let some = (places d op name at text op_is ask is).0 in
          let need = op_needs d op name at text op_is ask is in
          let took = took-length v1.parts.free free' (taken_by f) p.takes in
          let long = taken_long d op name at text op_is ask is v1.parts (state v1.device) volume1 who ready rdy.held (rdy.rows d volume) size left
          size_is room_is free' plan p in
          let same = ap (λ (x : FreePages). length x.free) only.keeps.same.free in
          let four = is.keeps in
          ⊎_elim (λ (lt : length v.parts.free.free < needed d op + reserve op). absurd (has.space (omega (arith, need, some), lt)))
          (λ (le : needed d op + reserve op ≤ length v.parts.free.free). omega (arith, le, four, took, long, same))
          (cases_lt (length v.parts.free.free) (needed d op + reserve op))

      pub may_start : MayStart d who f free' v1.parts (state v1.device)
      may_start = record {
        begins = record {
          some = may.some;
          few = may.few;
          idle = ap (λ fs. flight_at fs (who - 1)) only.keeps.same.flights ∙ may.idle;
        };
        plans = flight_is d op name at text op_is ask is v1.parts (state v1.device) volume1 who ready rdy.held (rdy.rows d volume) size left size_is
            room_is free' plan p;
        unraised = refl;
        takes = p.takes;
        left = λ some. free_left;
        inside = inside;
        loose = loose1;
        few = releases_few;
        room = room_for;
        units = let there = rdy.units in omega (arith, there, less_units);
        places = λ n at_ino. let there = rdy.in_map n at_ino in let all = p.places in omega (arith, there, all);
      }

      pub has_begun : (v3 : Volume D F) → v3.device ≡ v1.device → Agree (state v1.device).now (state v1.device).past
          → Starts who f (record v1.parts { free = free' }) v3.parts → (n : ℕ) → n ≡ left_of f → HasBegun state who op n v v3 d
      has_begun v3 device agree1 starts n n_is =
          begun state who op n f free' v v1 v3 d volume agree agree1 only.device only.keeps units_there only.history only.made device may_start starts
          has refl n_is refl
          (λ i j held free one less jfree. held_live d op name at text op_is ask is v1.parts (state v1.device) volume1 who ready rdy.held
          (rdy.rows d volume) size left size_is room_is free' plan p i held free)
