-- What a commit of an operation on names does to what is kept in memory.
use Rattle.std.specs.Prelude.{◌≡◌, ◌≢◌, ◌⊎◌, ◌↔◌, ℕ, ◌+◌, ◌-◌, ◌*◌, ◌≤◌, true, false, is_some}
use Rattle.std.specs.Prelude.{List, [], ◌∷◌, ◌++◌, length, slice_get, if◌then◌else◌}
use Rattle.std.specs.Prelude.{Option, Some, None, Contains, vec_len, vec_capacity}
use Rattle.std.specs.Ordering.{nat_cmp}
use Rattle.std.specs.FinMap.{FinMap, get}
use Rattle.file_index.specs.declared.page_map.Mapping.{Mapping}
use Rattle.pm_device.specs.State.{State, Agree}
use Rattle.pm_device.specs.State.{Rose}
use Rattle.pm_device.specs.Settled.{LeavesOnly, StoresOnly, KeepsFlushed, Others, SettlesAll}
use Rattle.pm_layout.specs.Geometry.{inode_word}
use Rattle.log_entry.specs.Spelling.{pages_of}
use Rattle.page_alloc.specs.Free.{IsInOrder}
use Rattle.name_journal.specs.declared.change.Change.{Change}
use Rattle.name_journal.specs.Changes.{IsTouched}
use Rattle.name_journal.specs.AllOrNone.{AllOrNone, IsAllDone}
use Rattle.dn_model.specs.Counts.{total}
use Rattle.dn_model.specs.Disk.{Disk}
use Rattle.dn_model.specs.declared.op.Entry.{Entry}
use Rattle.dn_model.specs.Own.{Print}
use Rattle.dn_model.specs.declared.op.Op.{Op}
use Rattle.dn_model.specs.declared.op.Op.TheVariants as op
use Rattle.dn_model.specs.declared.op.Reply.{Reply}
use Rattle.dn_model.specs.declared.op.Reply.TheVariants.{Done}
use Rattle.law_names.specs.NameChange.{state_changes}
use Rattle.law_names.specs.Operations.{with_name}
use Rattle.dn_volume.specs.declared.flight.Flight.{Flight}
use Rattle.dn_volume.specs.declared.flight.Change.TheVariants.{Names}
use Rattle.dn_volume.specs.declared.flight.NameChange.{NameChange}
use Rattle.dn_volume.specs.declared.flight.Turn.{Turn}
use Rattle.dn_volume.specs.declared.flight.Turn.TheVariants as turn
use Rattle.dn_volume.specs.declared.volume.InodeState.{InodeState}
use Rattle.dn_volume.specs.declared.volume.InodeUse.TheVariants as used
use Rattle.dn_volume.specs.declared.volume.Parts.{Parts}
use Rattle.dn_volume.specs.Parties.{Flies, flight_at}
use Rattle.dn_volume.specs.Flights.{as_turn}
use Rattle.dn_volume.specs.Replaces.{Replaces, MovesOwed}
use Rattle.dn_volume.specs.declared.volume.Volume.{Volume}
use Rattle.dn_volume.specs.Agrees.{IsVolume}
use Rattle.dn_volume.specs.Events.{Counts, Answers, Breaks}

-- these changes were made by one commit of the journal
pub record CommitsAll (inodes who : ℕ) (changes : List Change) (s t : State) : Type 0 where
  pub images : LeavesOnly s t (AllOrNone inodes who changes s)
  pub done : IsAllDone who changes s t
  pub only : StoresOnly (IsTouched changes) s t
  pub others : KeepsFlushed (Others who) (IsTouched changes) s t
  pub settles : SettlesAll who s t
  pub spare : s.spare ≤ t.spare + 25
  pub faults : s.faults ≤ t.faults

-- an inode that the operation held is held no more; the others' holders stay
pub record LetsGo (f : Flight) (ino : ℕ) (n n' : InodeState) : Type 0 where
  pub freed : Contains f.held.items ino → n'.holder ≡ None
  pub kept : (Contains f.held.items ino → ⊥) → n'.holder ≡ n.holder

-- A client's operation is in flight no more. It holds nothing, is owed nothing, and the pages that
-- it didn't use are free.
pub record Lands (who : ℕ) (f : Flight) (b b' : Parts) : Type 0 where
  pub geometry : b'.geometry ≡ b.geometry
  pub running : b'.stopped ≡ false
  pub replaces : Replaces (who - 1) (Some f) None b b'
  pub owed : MovesOwed (Some f) None b b'
  pub pages : b'.free.pages ≡ b.free.pages
  pub in_order : IsInOrder b'.free
  pub free : (page : ℕ) → Contains b'.free.free page ↔
      (Contains b.free.free page ⊎ Contains f.spare.items page)
  pub free_more : length b.free.free ≤ length b'.free.free
  pub history_len : vec_len b'.history ≡ vec_len b.history + 1
  pub history_room : vec_capacity b'.history ≡ vec_capacity b.history

-- of an operation on names, which has no rows and no data
pub record LandsNames (who : ℕ) (f : Flight) (b b' : Parts) : Type 0 where
  pub lands : Lands who f b b'
  pub fact : b'.fact ≡ b.fact
  pub queue : b'.queue ≡ b.queue
  pub trace : b'.trace ≡ b.trace
  pub names_room : b.names.room ≤ b'.names.room + 1
  pub inodes : length b'.inodes.items ≡ length b.inodes.items

-- which inode each name leads to once an operation on names is done
abbrev pub names_after : Op → (List ℕ → Option ℕ) → ℕ → List ℕ → Option ℕ
names_after (op.Create name) leads node = with_name leads name (Some node)
names_after (op.Write name at text) leads node = leads
names_after (op.Read name at count) leads node = leads
names_after (op.Cut name to) leads node = leads
names_after (op.Remove name) leads node = with_name leads name None
names_after (op.Rename from to) leads node = with_name (with_name leads from None) to (leads from)
names_after (op.Size name) leads node = leads
names_after op.List leads node = leads

-- An inode comes to life as a file of no bytes whose log has no page, or is dying and keeps the
-- places below the pages of its size, or stays.
abbrev pub Turned : Turn → InodeState → InodeState → Type 0
Turned turn.Stays n n' =
    (n'.used ≡ n.used) × (n'.size ≡ n.size) × (n'.log_pages ≡ n.log_pages)
Turned turn.Comes n n' = (n'.used ≡ used.Live) × (n'.size ≡ 0) × (n'.log_pages ≡ 0)
Turned turn.Goes n n' =
    (n'.used ≡ used.Dying (pages_of n.size)) × (n'.size ≡ n.size) × (n'.log_pages ≡ n.log_pages)

-- the inode of the change turns, and the root's log has so many pages more; the others stay
pub record TurnsInode (change : NameChange) (more ino : ℕ) (n n' : InodeState) : Type 0 where
  pub map : n'.map ≡ n.map
  pub round : n'.round ≡ n.round
  pub here : ino ≡ change.node → Turned change.turn n n'
  pub elsewhere : ino ≢ change.node → (n'.used ≡ n.used) × (n'.size ≡ n.size)
  pub root : ino ≡ 0 → n'.log_pages ≡ n.log_pages + more
  pub log : ino ≢ 0 → ino ≢ change.node → n'.log_pages ≡ n.log_pages

-- how many places of a file are mapped, as they are kept
unfoldable pub places_in : FinMap nat_cmp Mapping → ℕ
places_in map = total 4096 (λ idx. if is_some (get map idx) then 1 else 0)

abbrev pub places_kept : InodeState → ℕ
places_kept n = places_in n.map.map

-- the units of work that reclaim gets: one for an inode that is dying, and four for each place
abbrev pub turn_units : Turn → ℕ → ℕ
turn_units turn.Stays places = 0
turn_units turn.Comes places = 0
turn_units turn.Goes places = 1 + 4 * places

-- The names, the inode that turns, the root's log and the holders are those of after, and reclaim
-- has its work more.
pub record LandsChange (who : ℕ) (f : Flight) (c : NameChange) (b b' : Parts) : Type 0 where
  pub lands : LandsNames who f b b'
  pub names : (other : List ℕ) → get b'.names.map other ≡ names_after f.op (get b.names.map) c.node
      other
  pub each : (ino : ℕ) (n' : InodeState) → slice_get b'.inodes.items ino ≡ Some n'
      → (n : InodeState) × (slice_get b.inodes.items ino ≡ Some n)
      × TurnsInode c (length f.fresh.items) ino n n' × LetsGo f ino n n'
  pub raised : b'.reclaiming.raised ≡ b.reclaiming.raised
  pub zero_check : b'.reclaiming.zero_check ≡ b.reclaiming.zero_check
  pub releases : b'.reclaiming.releases ≡ b.reclaiming.releases
  pub waiting : (n : InodeState) → slice_get b.inodes.items c.node ≡ Some n
      → b'.reclaiming.waiting ≡ b.reclaiming.waiting + turn_units c.turn (places_kept n)

-- an operation on names is in flight, and all that has to stand before its commit was stored
pub record IsToCommit (b : Parts) (who : ℕ) (f : Flight) (c : NameChange) : Type 0 where
  pub flies : Flies b who f
  pub change_is : f.change ≡ Names c
  pub prepared : c.prepared ≡ true

-- the state of an inode that turns
abbrev pub state_value : Turn → Option ℕ
state_value turn.Stays = None
state_value turn.Comes = Some 1
state_value turn.Goes = Some 2

-- the words that its commit changes: the root's tail, and the state of the inode that turns
abbrev pub flight_changes : NameChange → List Change
flight_changes c = record { at = inode_word 0 2; value = c.tail } ∷ state_changes (as_turn c.turn)
    c.node

-- the entry that it adds to the history
pub record AddsEntry (who : ℕ) (op : Op) (reply : Reply) (b b' : Parts) : Type 0 where
  pub entry : Entry
  pub history : b'.history.items ≡ b.history.items ++ entry ∷ []
  pub who_is : entry.who ≡ who
  pub op_is : entry.op ≡ op
  pub reply_is : entry.reply ≡ reply

-- so the last advance of an operation on names answers it
abbrev pub NamesAnswer : (D F : Type 0) → (D → State) → Type 0
NamesAnswer D F state = (print : Print) (v v' : Volume D F) (d : Disk) (who : ℕ) (f : Flight)
    (c : NameChange) → IsVolume d v.parts (state v.device)
    → Agree (state v.device).now (state v.device).past
    → IsToCommit v.parts who f c
    → CommitsAll d.geometry.inodes who (flight_changes c) (state v.device) (state v'.device)
    → LandsChange who f c v.parts v'.parts → AddsEntry who f.op Done v.parts v'.parts
    → Counts v.parts v'.parts → Answers state print who f.op Done v v' d

-- a fence failed while the words changed
pub record FailsToCommit (inodes who : ℕ) (changes : List Change) (s t : State) : Type 0 where
  pub images : LeavesOnly s t (AllOrNone inodes who changes s)
  pub only : StoresOnly (IsTouched changes) s t
  pub rose : Rose s.faults t.faults
  pub faults : s.faults ≤ t.faults

-- the volume is stopped; all else is what it was
pub record Stops (b b' : Parts) : Type 0 where
  pub stopped : b'.stopped ≡ true
  pub geometry : b'.geometry ≡ b.geometry
  pub flights : (k : ℕ) → flight_at b'.flights.items k ≡ flight_at b.flights.items k
  pub sharing : b'.sharing ≡ b.sharing
  pub cleaning : b'.reclaiming.cleaning ≡ b.reclaiming.cleaning
  pub history : b'.history ≡ b.history
  pub trace : b'.trace ≡ b.trace

-- so the last advance breaks off, and the operation is in flight still
abbrev pub NamesBreak : (D F : Type 0) → (D → State) → Type 0
NamesBreak D F state = (print : Print) (v v' : Volume D F) (d : Disk) (who : ℕ) (f : Flight)
    (c : NameChange) → IsVolume d v.parts (state v.device)
    → Agree (state v.device).now (state v.device).past
    → IsToCommit v.parts who f c
    → FailsToCommit d.geometry.inodes who (flight_changes c) (state v.device) (state v'.device)
    → Stops v.parts v'.parts → Counts v.parts v'.parts
    → Breaks state print who (Some f.op) v v' d
