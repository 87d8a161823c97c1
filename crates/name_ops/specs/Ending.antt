-- What the end of an operation on names does to the parts, after its flight was taken out.
use Rattle.std.specs.Prelude.{◌≡◌, ◌⊎◌, ◌↔◌, ℕ, ◌+◌, ◌<◌, ◌≤◌, List, [], ◌∷◌, ◌++◌}
use Rattle.std.specs.Prelude.{length, slice_get, slice_index, Option, Some, None, IsSome}
use Rattle.std.specs.Prelude.{Contains, All}
use Rattle.std.specs.Prelude.{vec_len, vec_capacity}
use Rattle.std.specs.FinMap.{get}
use Rattle.std.specs.Ordering.{nat_cmp}
use Rattle.std.specs.Cmp.Lexicographic.{slice_cmp}
use Rattle.file_index.specs.Index.{Index, Puts, Drops}
use Rattle.page_alloc.specs.Free.{FreePages, IsInOrder}
use Rattle.file_content.specs.Pages.{AreApart}
use Rattle.dn_model.specs.declared.op.Op.{Op}
use Rattle.dn_model.specs.declared.op.Op.TheVariants as op
use Rattle.dn_model.specs.declared.op.Reply.TheVariants.{Done}
use Rattle.dn_volume.specs.declared.units.TheConstants.{NAMES_UNITS}
use Rattle.dn_volume.specs.declared.flight.Flight.{Flight}
use Rattle.dn_volume.specs.declared.flight.Change.TheVariants.{Names}
use Rattle.dn_volume.specs.declared.flight.NameChange.{NameChange}
use Rattle.dn_volume.specs.declared.volume.InodeState.{InodeState}
use Rattle.dn_volume.specs.declared.volume.Parts.{Parts}
use Rattle.dn_volume.specs.Parties.{Flies}
use Rattle.dn_volume.specs.PlannedNames.{name_put}
use Rattle.dn_volume.specs.Begins.{IsNamesOp}
use Rattle.name_ops.specs.Landing.{
  names_after,
  TurnsInode,
  LetsGo,
  turn_units,
  places_kept,
  IsToCommit,
}

-- these pages became free, and nothing else changed
pub record Gives (given : ℕ → Type 0) (old new : FreePages) : Type 0 where
  pub pages : new.pages ≡ old.pages
  pub free : (page : ℕ) → Contains new.free page ↔ (Contains old.free page ⊎ given page)
  pub no_less : length old.free ≤ length new.free
  pub in_order : IsInOrder new

-- it is one of the first k of these
pub record IsAmong (items : List ℕ) (k item : ℕ) : Type 0 where
  pub i : ℕ
  pub below : i < k
  pub is : slice_index items i ≡ item

-- an inode is the same, whoever holds it
pub record SameButHolder (n n' : InodeState) : Type 0 where
  pub used : n'.used ≡ n.used
  pub size : n'.size ≡ n.size
  pub map : n'.map ≡ n.map
  pub log_pages : n'.log_pages ≡ n.log_pages
  pub round : n'.round ≡ n.round

-- these inodes are held by nobody, and nothing else changed
pub record LetsGoOf (gone : ℕ → Type 0) (old new : List InodeState) : Type 0 where
  pub all : length new ≡ length old
  pub each : (ino : ℕ) (n' : InodeState) → slice_get new ino ≡ Some n'
      → (n : InodeState) × (slice_get old ino ≡ Some n) × SameButHolder n n'
      × (gone ino → n'.holder ≡ None) × ((gone ino → ⊥) → n'.holder ≡ n.holder)

-- an inode is the same, however many pages its log has
pub record SameButLog (n n' : InodeState) : Type 0 where
  pub used : n'.used ≡ n.used
  pub size : n'.size ≡ n.size
  pub map : n'.map ≡ n.map
  pub round : n'.round ≡ n.round
  pub holder : n'.holder ≡ n.holder

-- the root's log has so many pages more, and nothing else changed
pub record GrowsRoot (more : ℕ) (old new : List InodeState) : Type 0 where
  pub all : length new ≡ length old
  pub each : (ino : ℕ) (n' : InodeState) → slice_get new ino ≡ Some n'
      → (n : InodeState) × (slice_get old ino ≡ Some n) × SameButLog n n'
      × (ino ≡ 0 → n'.log_pages ≡ n.log_pages + more)
      × ((ino ≡ 0 → ⊥) → n'.log_pages ≡ n.log_pages)

-- an inode's places, round and holder stay
pub record KeepsPlaces (n n' : InodeState) : Type 0 where
  pub map : n'.map ≡ n.map
  pub round : n'.round ≡ n.round
  pub holder : n'.holder ≡ n.holder

-- a renaming moves a name that leads somewhere
abbrev pub MovesSome : Op → (List ℕ → Option ℕ) → Type 0
MovesSome (op.Create name) leads = Unit {0}
MovesSome (op.Write name at text) leads = Unit {0}
MovesSome (op.Read name at count) leads = Unit {0}
MovesSome (op.Cut name to) leads = Unit {0}
MovesSome (op.Remove name) leads = Unit {0}
MovesSome (op.Rename from to) leads = IsSome (leads from)
MovesSome (op.Size name) leads = Unit {0}
MovesSome op.List leads = Unit {0}

-- one name leads nowhere, and the other to the inode to which that one led
pub record MovesName (from to : List ℕ) (old new : Index (slice_cmp nat_cmp) ℕ) : Type 0 where
  pub node : ℕ
  pub mid : Index (slice_cmp nat_cmp) ℕ
  pub led : get old.map from ≡ Some node
  pub drops : Drops from old mid
  pub puts : Puts to node mid new

-- an operation on names of this client is in flight
pub record FliesNames (b : Parts) (who : ℕ) : Type 0 where
  pub flight : Flight
  pub change : NameChange
  pub flies : Flies b who flight
  pub change_is : flight.change ≡ Names change

-- an operation on names of this client is in flight, and what has to stand before its commit stands
pub record IsNextToCommit (b : Parts) (who : ℕ) : Type 0 where
  pub flight : Flight
  pub change : NameChange
  pub is : IsToCommit b who flight change
  pub kind : IsNamesOp flight.op

-- there is room for the end of an operation
pub record CanLand (f : Flight) (c : NameChange) (b : Parts) : Type 0 where
  pub kind : IsNamesOp f.op
  pub moves : MovesSome f.op (get b.names.map)
  pub change_is : f.change ≡ Names c
  pub put_is : c.put ≡ name_put f.op
  pub file : 1 ≤ c.node
  pub node : c.node < length b.inodes.items
  pub root : (n : InodeState) → slice_get b.inodes.items 0 ≡ Some n
      → n.log_pages + length f.fresh.items < 18446744073709551616
  pub held : All (λ ino. ino < length b.inodes.items) f.held.items
  pub small : (n : InodeState) → slice_get b.inodes.items c.node ≡ Some n → n.size ≤ 16777216
  pub spare_below : (page : ℕ) → Contains f.spare.items page → page < b.free.pages
  pub spare_taken : (page : ℕ) → Contains f.spare.items page → ¬ Contains b.free.free page
  pub spare_apart : AreApart f.spare.items
  pub in_order : IsInOrder b.free
  pub waiting : (n : InodeState) → slice_get b.inodes.items c.node ≡ Some n
      → b.reclaiming.waiting + turn_units c.turn (places_kept n) < 18446744073709551616
  pub units : NAMES_UNITS ≤ b.owed.units
  pub owed_history : 1 ≤ b.owed.history
  pub names_room : 0 < b.names.room
  pub history : vec_len b.history < vec_capacity b.history

-- all of it is done
pub record FinishesNames (who : ℕ) (f : Flight) (c : NameChange) (b b' : Parts) : Type 0 where
  pub geometry : b'.geometry ≡ b.geometry
  pub fact : b'.fact ≡ b.fact
  pub queue : b'.queue ≡ b.queue
  pub flights : b'.flights ≡ b.flights
  pub sharing : b'.sharing ≡ b.sharing
  pub trace : b'.trace ≡ b.trace
  pub stopped : b'.stopped ≡ b.stopped
  pub made : b'.made ≡ b.made
  pub free : Gives (Contains f.spare.items) b.free b'.free
  pub names : (other : List ℕ) → get b'.names.map other ≡ names_after f.op (get b.names.map) c.node
      other
  pub names_room : b.names.room ≤ b'.names.room + 1
  pub all : length b'.inodes.items ≡ length b.inodes.items
  pub each : (ino : ℕ) (n' : InodeState) → slice_get b'.inodes.items ino ≡ Some n'
      → (n : InodeState) × (slice_get b.inodes.items ino ≡ Some n)
      × TurnsInode c (length f.fresh.items) ino n n' × LetsGo f ino n n'
  pub raised : b'.reclaiming.raised ≡ b.reclaiming.raised
  pub zero_check : b'.reclaiming.zero_check ≡ b.reclaiming.zero_check
  pub releases : b'.reclaiming.releases ≡ b.reclaiming.releases
  pub cleaning : b'.reclaiming.cleaning ≡ b.reclaiming.cleaning
  pub waiting : (n : InodeState) → slice_get b.inodes.items c.node ≡ Some n
      → b'.reclaiming.waiting ≡ b.reclaiming.waiting + turn_units c.turn (places_kept n)
  pub units : b.owed.units ≡ b'.owed.units + NAMES_UNITS
  pub owed_trace : b'.owed.trace ≡ b.owed.trace
  pub owed_history : b.owed.history ≡ b'.owed.history + 1
  pub owed_queue : b'.owed.queue ≡ b.owed.queue
  pub owed_releases : b'.owed.releases ≡ b.owed.releases
  pub history : b'.history.items ≡ b.history.items ++ record { who = who; op = f.op; reply = Done }
      ∷ []
  pub history_len : vec_len b'.history ≡ vec_len b.history + 1
  pub history_capacity : vec_capacity b'.history ≡ vec_capacity b.history
