-- A write or a cut that has all that it takes may come in flight.
use Rattle.std.proofs.Common.{◌≡◌, inl, inr, ℕ, ◌+◌, ◌-◌, ◌<◌, ◌≤◌, List, [], ◌∷◌, ◌++◌, length, refl, sym, ◌∙◌, ap, subst, arith}
use Rattle.std.specs.Prelude.{slice_get, Option, Some, None, Contains}
use Rattle.std.proofs.lemmas.Bool.{cases_lt}
use Rattle.pm_device.specs.State.{State, Agree}
use Rattle.page_alloc.specs.Free.{FreePages}
use Rattle.file_write.specs.Take.{TakesFirst}
use Rattle.file_write.specs.declared.plan.WritePlan.{WritePlan}
use Rattle.file_write.proofs.Taking.{took-length, only_one}
use Rattle.dn_model.specs.Disk.{Disk, Use, Free, Live}
use Rattle.dn_model.specs.declared.op.Op.{Op}
use Rattle.dn_volume.specs.declared.flight.Flight.{Flight}
use Rattle.dn_volume.specs.declared.flight.DataChange.{DataChange}
use Rattle.dn_volume.specs.declared.volume.InodeState.{InodeState}
use Rattle.dn_volume.specs.declared.volume.Volume.{Volume}
use Rattle.dn_volume.specs.Parties.{flight_at, taken_by}
use Rattle.dn_volume.specs.Kept.{IsSameInode}
use Rattle.dn_volume.specs.Flights.{IsDataFlight, left_of}
use Rattle.dn_volume.specs.Reserve.{owed_to}
use Rattle.dn_volume.specs.Agrees.{IsVolume}
use Rattle.dn_volume.specs.Begins.{wants, MayBegin, HasAll, IsUntouched, HasBegun}
use Rattle.begin_steps.specs.Begun.{MayStart}
use Rattle.begin_steps.specs.Room.{add_room, FitsRoom, HasRoomFor}
use Rattle.begin_steps.specs.Starting.{IsFew, Starts}
use Rattle.begin_steps.proofs.Answered.{untouched_room}
use Rattle.begin_steps.proofs.Opened.{units_kept, begun}
use Rattle.begin_steps.proofs.RoomKept.{inode_was}
use Rattle.data_begins.specs.Asked.{IsAsk}
use Rattle.data_begins.specs.Ready.{data_flight, OnlyMakesRoom, IsReady}
use Rattle.data_begins.specs.declared.asks.DataAsk.{DataAsk}
use Rattle.data_begins.specs.declared.ready.Ready.{Ready}

module _ {D F : Type 0} (state : D → State) (v v1 : Volume D F) (d : Disk) (is_v : IsVolume d v.parts (state v.device))
    (agree : Agree (state v.device).now (state v.device).past) (only : OnlyMakesRoom state v v1) where
  units_there : v.parts.owed.units ≤ (state v1.device).spare
  units_there = units_kept v.parts.owed.units (state v.device).spare (state v1.device).spare is_v.room.units only.spare

  -- there was no memory for it: only room was made
  pub untouched_ready : (free' : FreePages) → free' ≡ v1.parts.free
      → IsUntouched state v (record { device = v1.device; print = v1.print; kept = v1.kept; parts = record v1.parts { free = free' } }) d
  untouched_ready free' same =
      subst (λ (x : FreePages). IsUntouched state v (record { device = v1.device; print = v1.print; kept = v1.kept; parts = record v1.parts { free = x } })
      d) (sym same)
      (untouched_room state v d is_v v1 agree only.device only.keeps units_there only.history only.made)

  module _ (who : ℕ) (op : Op) (ask : DataAsk) (asks : IsAsk d op ask) (has : HasAll d v.parts op) (begins : MayBegin v.parts who)
      (places slots : ℕ) (ready : Ready) (is_ready : IsReady state ask places slots v v1 ready) (few_places : places ≤ 4096)
      (few_slots : slots ≤ 4096)
      (free' : FreePages) (wp : WritePlan) (takes : TakesFirst v1.parts.free free' (wp.fresh.items ++ wp.spare.items ++ wp.blocks.items))
      (places_are : length wp.blocks.items ≡ places) (slots_are : length wp.slots.items ≤ slots) (fresh_are : length wp.fresh.items ≤ 1)
      (runs_are : length wp.runs.items ≤ places) where
    abbrev f : Flight
    f = data_flight op ask.ino ready wp

    abbrev c : DataChange
    c = record { first = wp.first; size = wp.size; blocks = wp.blocks; runs = wp.runs; filled = 0 }

    all_needed : length (taken_by f) ≡ ask.needed → length v1.parts.free.free ≡ ask.needed + length free'.free
    all_needed long = omega (arith, took-length v1.parts.free free' (taken_by f) takes, long)

    left : length (taken_by f) ≡ ask.needed → 0 < length (taken_by f) → 2 ≤ length free'.free
    left long some = elim (cases_lt (length v.parts.free.free) (ask.needed + 4)) [
      | inl lacks ↦ absurd (has.space (omega (arith, asks.needs, some, long), omega (arith, asks.needs, asks.keeps, lacks)))
      | inr enough ↦ omega (arith, enough, all_needed long, ap (λ (x : FreePages). length x.free) only.keeps.same.free)
    ]

    pub held_inside : (ino : ℕ) → Contains ready.held.items ino → ino < length v1.parts.inodes.items
    held_inside ino is_held =
        let same = only_one ask.ino ino (subst (λ (xs : List ℕ). Contains xs ino) is_ready.held is_held) in
        omega (arith, same, asks.file.in_table, is_v.inodes.all, only.keeps.same.inodes.all)

    loose : (ino : ℕ) (n : InodeState) → Contains ready.held.items ino → slice_get v1.parts.inodes.items ino ≡ Some n → n.holder ≡ None
    loose ino n is_held at =
        let was = inode_was IsSameInode v.parts.inodes.items v1.parts.inodes.items only.keeps.same.inodes ino n at in
        let here = only_one ask.ino ino (subst (λ (xs : List ℕ). Contains xs ino) is_ready.held is_held) in
        was.2.holder ∙ by_holder was.0 was.1 (subst (λ (xs : List ℕ). Contains xs ino) (sym asks.holds)
        (subst (λ (i : ℕ). Contains (ask.ino ∷ []) i) here (0, omega arith, refl))) was.0.holder refl
      where
        by_holder : (x : InodeState) → slice_get v.parts.inodes.items ino ≡ Some x → Contains (wants d op) ino → (o : Option ℕ)
            → x.holder ≡ o → x.holder ≡ None
        by_holder x at wanted None is = is
        by_holder x at wanted (Some q) is = absurd (has.unhindered.loose ino q wanted ((is_v.holders.told ino q x at).0 is))

    few_releases : length ready.rows.items ≤ 4096
    few_releases = is_ready.few

    releases_fit : length v1.parts.reclaiming.releases.items + length ready.rows.items ≤ 1048576
    releases_fit = elim (cases_lt 1048576 (length v1.parts.reclaiming.releases.items + length ready.rows.items)) [
      | inl more ↦
          let rows_long = ap length (is_ready.rows d is_v ∙ sym asks.loses) in
          let same = ap length only.keeps.same.work.releases in
          absurd (has.releases (omega (arith, more, rows_long, same)))
      | inr few ↦ few
    ]

    room : HasRoomFor (owed_to (Some f)) v1.parts
    room =
        let r = is_ready.room in
        record {
          fits = record {
            units = omega (arith, r.fits.units, places_are, slots_are, fresh_are);
            trace = omega (arith, r.fits.trace);
            history = r.fits.history;
            queue = omega (arith, r.fits.queue, runs_are);
            releases = r.fits.releases;
          };
          has = record {
            trace = omega (arith, r.has.trace);
            history = r.has.history;
            queue = omega (arith, r.has.queue, runs_are);
            names = r.has.names;
            releases = r.has.releases;
          };
        }

    pub few : IsFew f
    few = record {
      rows = is_ready.few;
      slots = omega (arith, slots_are, few_slots);
      fresh = omega (arith, fresh_are);
      change = omega (arith, places_are, few_places);
    }

    pub fits_room : FitsRoom (add_room v1.parts.owed (owed_to (Some f)))
    fits_room = room.fits

    pub may_start : IsDataFlight d who f c (state v1.device) → MayStart d who f free' v1.parts (state v1.device)
    may_start plans = record {
      begins = record {
        some = begins.some;
        few = begins.few;
        idle = ap (λ fs. flight_at fs (who - 1)) only.keeps.same.flights ∙ begins.idle;
      };
      plans = plans;
      unraised = refl;
      takes = takes;
      left = left (plans.grows.takes ∙ asks.needs);
      inside = held_inside;
      loose = λ ino n is_held at. loose ino n is_held at;
      few = releases_fit;
      room = room;
      units = omega (arith, is_ready.units, places_are, slots_are, fresh_are);
      places = λ n at. omega (arith, is_ready.in_map n at, places_are);
    }

    least : (i j : ℕ) → Contains ready.held.items i → (d.inode i).use_of ≡ Free → 1 ≤ j → j < i → (d.inode j).use_of ≡ Free → ⊥
    least i j is_held free some below other =
        live_free (d.inode ask.ino).use_of asks.file.live
        (ap (λ (k : ℕ). (d.inode k).use_of) (only_one ask.ino i (subst (λ (xs : List ℕ). Contains xs i) is_ready.held is_held)) ∙ free)
      where
        live_free : (u : Use) → u ≡ Live → u ≡ Free → ⊥
        live_free u a b = cc

    -- so it has begun
    pub has_begun : (v' : Volume D F) (left_now : ℕ) → v'.device ≡ v1.device → Agree (state v1.device).now (state v1.device).past
        → IsDataFlight d who f c (state v1.device) → Starts who f (record v1.parts { free = free' }) v'.parts → left_now ≡ left_of f
        → HasBegun state who op left_now v v' d
    has_begun v' left_now same agree1 plans starts left_is =
        begun state who op left_now f free' v v1 v' d is_v agree agree1 only.device only.keeps units_there only.history only.made same
        (may_start plans)
        starts has refl left_is refl least
