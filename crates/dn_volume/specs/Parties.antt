-- Who takes part in a volume: what each actor holds, and which pages each has taken. The cleaning
-- of a log holds an inode and takes pages as actor 16.
use Rattle.std.specs.Prelude.{
  ◌≡◌,
  ℕ,
  zero,
  suc,
  ◌-◌,
  ◌≤◌,
  List,
  [],
  ◌++◌,
  slice_get,
  Option,
  Some,
  None,
  Contains,
}
use Rattle.dn_volume.specs.declared.flight.Flight.{Flight}
use Rattle.dn_volume.specs.declared.flight.Change.{Change}
use Rattle.dn_volume.specs.declared.flight.Change.TheVariants.{Data, Names}
use Rattle.dn_volume.specs.declared.background.Sharing.{Sharing}
use Rattle.dn_volume.specs.declared.background.Cleaning.{Cleaning}
use Rattle.dn_volume.specs.declared.volume.Parts.{Parts}

-- the operation at a place, if there is one
abbrev pub opened : Option (Option Flight) → Option Flight
opened None = None
opened (Some found) = found

abbrev pub flight_at : List (Option Flight) → ℕ → Option Flight
flight_at flights k = opened (slice_get flights k)

-- that of a client, counted from 1
abbrev pub flight_of : Parts → ℕ → Option Flight
flight_of b zero = None
flight_of b (suc k) = flight_at b.flights.items k

-- this client has this operation in flight
pub record Flies (b : Parts) (who : ℕ) (f : Flight) : Type 0 where
  pub client : 1 ≤ who
  pub is : flight_at b.flights.items (who - 1) ≡ Some f

-- the pages that an operation has taken: those for its log, and those for its data
abbrev pub blocks_of : Change → List ℕ
blocks_of (Data change) = change.blocks.items
blocks_of (Names change) = []

abbrev pub taken_by : Flight → List ℕ
taken_by f = f.fresh.items ++ f.spare.items ++ blocks_of f.change

-- this actor holds this inode
pub data Holds (b : Parts) (who ino : ℕ) : Type 0 where
  by_client : (f : Flight) → Flies b who f → Contains f.held.items ino → Holds b who ino
  by_daemon : (sharing : Sharing) → who ≡ 15 → b.sharing ≡ Some sharing → sharing.work.ino ≡ ino
      → Holds b who ino
  by_cleaning : (cleaning : Cleaning) → who ≡ 16 → b.reclaiming.cleaning ≡ Some cleaning
      → cleaning.ino ≡ ino
      → Holds b who ino

-- this actor has taken this page
pub data Takes (b : Parts) (who page : ℕ) : Type 0 where
  for_client : (f : Flight) → Flies b who f → Contains (taken_by f) page → Takes b who page
  for_cleaning : (cleaning : Cleaning) → who ≡ 16 → b.reclaiming.cleaning ≡ Some cleaning
      → Contains cleaning.pages.items page
      → Takes b who page

-- what everybody but this actor holds and has taken is what it was
pub record SameOthers (who : ℕ) (b b' : Parts) : Type 0 where
  pub flights : (q : ℕ) → 1 ≤ q → (q ≡ who → ⊥) → flight_at b'.flights.items (q - 1) ≡ flight_at
      b.flights.items (q - 1)
  pub sharing : (who ≡ 15 → ⊥) → b'.sharing ≡ b.sharing
  pub cleaning : (who ≡ 16 → ⊥) → b'.reclaiming.cleaning ≡ b.reclaiming.cleaning

-- each client has an operation in flight that it had, and each that it had is in flight
pub record KeepsOps (b b' : Parts) : Type 0 where
  pub kept : (q : ℕ) (f : Flight) → Flies b q f → (f' : Flight) × Flies b' q f' × (f'.op ≡ f.op)
  pub only : (q : ℕ) (f' : Flight) → Flies b' q f' → (f : Flight) × Flies b q f × (f'.op ≡ f.op)
