-- An operation that is answered in its begin, or for which there is no memory.
use Rattle.std.proofs.Common.{◌≡◌, ◌⊎◌, ⊎_elim, ℕ, ◌+◌, ◌≤◌, List, [], ◌∷◌, ◌++◌, refl, sym, ◌∙◌, ap, subst, arith, Option, Some}
use Rattle.std.specs.Prelude.{Contains, slice_get, vec_len, vec_capacity, true, Bool, if◌then◌else◌}
use Rattle.std.specs.VecDeque.{deque_len, deque_capacity}
use Rattle.log_entry.specs.Name.{same_name}
use Rattle.log_entry.proofs.SameName.{same_name-same}
use Rattle.law_unique.proofs.Listings.{here as first_listed}
use Rattle.std.proofs.lemmas.List.Elements.{Contains-append_right}
use Rattle.pm_device.specs.State.{State, IsSame, Agree}
use Rattle.dn_model.specs.Disk.{Disk}
use Rattle.dn_model.specs.Files.{named}
use Rattle.dn_model.specs.declared.op.Op.{Op}
use Rattle.dn_model.specs.declared.op.Op.TheVariants.{Create, Write, Read, Cut, Remove, Rename, Size, List as ListAll}
use Rattle.dn_model.specs.declared.op.Reply.{Reply}
use Rattle.dn_model.specs.declared.op.Entry.{Entry}
use Rattle.dn_volume.specs.declared.volume.InodeState.{InodeState}
use Rattle.dn_volume.specs.declared.volume.Parts.{Parts}
use Rattle.dn_volume.specs.declared.volume.Volume.{Volume}
use Rattle.dn_volume.specs.PlannedNames.{inode_list}
use Rattle.dn_volume.specs.Kept.{OfInodes, IsSameInode}
use Rattle.dn_volume.specs.Agrees.{IsVolume}
use Rattle.dn_volume.specs.Begins.{
  IsAtOnce,
  wants,
  IsHeldFirst,
  AreLoose,
  IsUnhindered,
  IsAnswerOf,
  of_files,
  no_inode,
  no_space,
  WaitsForRelease,
  IsLast,
  HasAll,
  IsUntouched,
  AnswersAtOnce,
  MayBegin,
}
use Rattle.dn_volume.proofs.SameRoom.{inodes_same, room_joins}
use Rattle.begin_steps.specs.Answering.{KeepsRoom, HasEntryRoom, MakesEntryRoom, EntersHistory}
use Rattle.begin_steps.proofs.RoomKept.{room_kept}

-- the same inodes have the same room
pub same_places : (ns : List InodeState) (ino : ℕ) (n n' : InodeState) → slice_get ns ino ≡ Some n → slice_get ns ino ≡ Some n'
    → n.map.room ≤ n'.map.room
same_places ns ino n n' at at' = let same = ap (λ (m : InodeState). m.map.room) (one (slice_get ns ino) at at') in omega (arith, same)
  where
    one : (o : Option InodeState) → o ≡ Some n → o ≡ Some n' → n ≡ n'
    one o x y = cc

-- only the history and the number of calls differ
pub keeps_but_history : (b b' : Parts) → b' ≡ record b { history = b'.history; made = b'.made }
    → (vec_len b.history + b.owed.history ≤ vec_capacity b.history → vec_len b'.history + b.owed.history ≤ vec_capacity b'.history) → KeepsRoom b b'
keeps_but_history b b' is room = record {
  same = record {
    work = record {
      geometry = ap (λ (p : Parts). p.geometry) is;
      names = ap (λ (p : Parts). p.names.map) is;
      fact = ap (λ (p : Parts). p.fact) is;
      queue = ap (λ (p : Parts). p.queue.items) is;
      sharing = ap (λ (p : Parts). p.sharing) is;
      zero_check = ap (λ (p : Parts). p.reclaiming.zero_check) is;
      raised = ap (λ (p : Parts). p.reclaiming.raised) is;
      releases = ap (λ (p : Parts). p.reclaiming.releases.items) is;
      waiting = ap (λ (p : Parts). p.reclaiming.waiting) is;
      cleaning = ap (λ (p : Parts). p.reclaiming.cleaning) is;
      trace = ap (λ (p : Parts). p.trace.items) is;
      stopped = ap (λ (p : Parts). p.stopped) is;
    };
    free = ap (λ (p : Parts). p.free) is;
    inodes = subst (λ (ns : List InodeState). OfInodes IsSameInode b.inodes.items ns) (sym (ap (λ (p : Parts). p.inodes.items) is))
        (inodes_same b.inodes.items);
    flights = ap (λ (p : Parts). p.flights.items) is;
  };
  owed = ap (λ (p : Parts). p.owed) is;
  trace = λ le. let len = ap (λ (p : Parts). vec_len p.trace) is in let room = ap (λ (p : Parts). vec_capacity p.trace) is in omega
      (arith, le, len, room);
  history = room;
  queue = let same = ap (λ (p : Parts). p.queue.room) is in omega (arith, same);
  releases = λ le. let len = ap (λ (p : Parts). deque_len p.reclaiming.releases) is in
      let room = ap (λ (p : Parts). deque_capacity p.reclaiming.releases) is in omega (arith, le, len, room);
  names = let same = ap (λ (p : Parts). p.names.room) is in omega (arith, same);
  places = λ ino n n' at at'. same_places b.inodes.items ino n n' at
      (sym (ap (λ (p : Parts). slice_get p.inodes.items ino) is) ∙ at');
}

pub keeps_entry_room : (b b' : Parts) → MakesEntryRoom b b' → KeepsRoom b b'
keeps_entry_room b b' made = keeps_but_history b b' (made.parts ∙ ap (λ (n : ℕ). record b { history = b'.history; made = n }) (sym (ap (λ
    (p : Parts). p.made) made.parts)))
    (λ le. let len = made.len in let more = made.capacity in omega (arith, le, len, more))

pub keeps_entered : (who : ℕ) (op : Op) (reply : Reply) (b b' : Parts) → HasEntryRoom b → EntersHistory who op reply b b' → KeepsRoom b b'
keeps_entered who op reply b b' has enters = keeps_but_history b b' enters.parts
    (λ le. let len = enters.len in let same = enters.capacity in omega (arith, has, len, same))

-- what is answered at once has to hold nothing
pub wants_none : (d : Disk) (op : Op) → IsAtOnce op → wants d op ≡ []
wants_none d (Create name) once = absurd once
wants_none d (Write name at []) once = refl
wants_none d (Write name at (b ∷ text)) once = absurd (cc once)
wants_none d (Read name at count) once = refl
wants_none d (Cut name to) once = absurd once
wants_none d (Remove name) once = absurd once
wants_none d (Rename from to) once = by_test (same_name from to) (subst (λ (n : List ℕ). same_name from n ≡ true) once (same_name-same from))
  where
    by_test : (t : Bool) → t ≡ true → (if t then [] else 0 ∷ inode_list (named d from) ++ inode_list (named d to)) ≡ []
    by_test t is = ap (λ (x : Bool). if x then [] else 0 ∷ inode_list (named d from) ++ inode_list (named d to)) is
wants_none d (Size name) once = refl
wants_none d ListAll once = refl

module _ (d : Disk) (b : Parts) (op : Op) where
  none_held : (xs : List ℕ) (holder : ℕ) → xs ≡ [] → IsHeldFirst b xs holder → ⊥
  none_held xs holder none is = gone is.before is.ino is.after (sym none ∙ is.split)
    where
      gone : (ys : List ℕ) (x : ℕ) (zs : List ℕ) → [] ≡ ys ++ x ∷ zs → ⊥
      gone [] x zs same = cc
      gone (y ∷ ys) x zs same = cc

  loose_held : (xs : List ℕ) (holder : ℕ) → AreLoose b xs → IsHeldFirst b xs holder → ⊥
  loose_held xs holder loose is = loose is.ino holder (subst (λ (ys : List ℕ). Contains ys is.ino) (sym is.split) (here is.before)) is.holds
    where
      here : (ys : List ℕ) → Contains (ys ++ is.ino ∷ is.after) is.ino
      here ys = Contains-append_right ys (is.ino ∷ is.after) is.ino (first_listed is.ino is.after)

  -- Nothing is held that it wants, and nothing waits for it to be released.
  pub unhindered_last : IsUnhindered d b op → ((waiting : ℕ) → WaitsForRelease d b op waiting → ⊥) → IsLast d b op
  unhindered_last free ready = record { idle = λ holder busy. loose_held (wants d op) holder free.loose busy.held; ready = ready }

  pub has_all_last : HasAll d b op → IsLast d b op
  has_all_last has = unhindered_last has.unhindered (λ waiting waits. ⊎_elim has.inode (λ rest. ⊎_elim has.space has.releases rest) waits.lacks)

  none_waits : b.reclaiming.waiting ≡ 0 → (waiting : ℕ) → WaitsForRelease d b op waiting → ⊥
  none_waits none waiting waits = let some = waits.some in let is = waits.is in omega (arith, some, is, none)

  -- what is answered at once holds nothing and waits for nothing
  pub once_last : IsAtOnce op → IsLast d b op
  once_last once = record {
    idle = λ holder busy. none_held (wants d op) holder (wants_none d op once) busy.held;
    ready = λ waiting waits. waits.unhindered.lasts once;
  }

  pub answer_last : (reply : Reply) → IsAnswerOf d b op reply → IsLast d b op
  answer_last reply (of_files _ replies once) = record {
    idle = λ holder busy. none_held (wants d op) holder (wants_none d op (once busy.granted)) busy.held;
    ready = λ waiting waits. waits.unhindered.lasts (once waits.unhindered.granted);
  }
  answer_last _ (no_inode it none lacks) = unhindered_last it (none_waits none)
  answer_last _ (no_space it none inode lacks) = unhindered_last it (none_waits none)

module _ {D F : Type 0} (state : D → State) (v : Volume D F) (d : Disk) (volume : IsVolume d v.parts (state v.device)) where
  -- nothing was done
  pub untouched : IsUntouched state v v d
  untouched = record {
    volume = volume;
    device = record { now = refl; past = refl; faults = refl };
    same = (keeps_but_history v.parts v.parts refl (λ le. le)).same;
    history = refl;
    made = refl;
  }

  -- only room was made
  pub untouched_room : (v' : Volume D F) → Agree (state v.device).now (state v.device).past → IsSame (state v.device) (state v'.device)
      → KeepsRoom v.parts v'.parts → v.parts.owed.units ≤ (state v'.device).spare → v'.parts.history.items ≡ v.parts.history.items
      → v'.parts.made ≡ v.parts.made → IsUntouched state v v' d
  untouched_room v' agree device keeps units history made = record {
    volume = room_kept d v.parts v'.parts (state v.device) (state v'.device) volume agree device keeps units;
    device = device;
    same = keeps.same;
    history = history;
    made = made;
  }

  -- room for an entry was made, and the operation entered the history
  pub answered : (who : ℕ) (op : Op) (reply : Reply) (b1 : Parts) (v' : Volume D F) → Agree (state v.device).now (state v.device).past
      → IsSame (state v.device) (state v'.device) → (state v'.device).spare ≡ (state v.device).spare → MayBegin v.parts who
      → MakesEntryRoom v.parts b1 → HasEntryRoom b1 → EntersHistory who op reply b1 v'.parts → IsAnswerOf d v.parts op reply
      → AnswersAtOnce state who op reply v v' d
  answered who op reply b1 v' agree device spare may made has enters why =
      let first = keeps_entry_room v.parts b1 made in
      let second = keeps_entered who op reply b1 v'.parts has enters in
      let units : v.parts.owed.units ≤ (state v.device).spare = volume.room.units in
      let owed : b1.owed.units ≡ v.parts.owed.units = ap (λ (p : Parts). p.owed.units) made.parts in
      record {
        why = why;
        idle = may.idle;
        volume = room_kept d b1 v'.parts (state v.device) (state v'.device)
            (room_kept d v.parts b1 (state v.device) (state v.device) volume agree (record { now = refl; past = refl; faults = refl }) first units)
            agree device second (omega (arith, units, owed, spare));
        device = device;
        same = room_joins v.parts b1 v'.parts first.same second.same;
        entry = record { who = who; op = op; reply = reply };
        history = enters.items ∙ ap (λ (xs : List Entry). xs ++ record { who = who; op = op; reply = reply } ∷ []) made.items;
        who_is = refl;
        op_is = refl;
        reply_is = refl;
        counts = let same : b1.made ≡ v.parts.made = ap (λ (p : Parts). p.made) made.parts in
            subst (λ (n : ℕ). (v'.parts.made ≡ n + 1) ⊎ ((n ≡ 18446744073709551615) × (v'.parts.made ≡ n))) same enters.counts;
      }
