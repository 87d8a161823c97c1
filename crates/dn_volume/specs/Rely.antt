-- What an event leaves to everybody else. It names the inodes that it changes and the pages that it
-- stores to or takes
-- into use; what others hold and have taken is none of these, so that the facts of what they have
-- in flight stay.
use Rattle.std.specs.Prelude.{
  ◌≡◌,
  ◌≢◌,
  ◌⊎◌,
  ◌↔◌,
  ℕ,
  ◌+◌,
  ◌*◌,
  ◌<◌,
  ◌≤◌,
  List,
  length,
  Contains,
  Some,
}
use Rattle.pm_device.specs.State.{State}
use Rattle.pm_device.specs.Settled.{IsFlushed, StoresOnly}
use Rattle.pm_device.specs.Words.{IsIn}
use Rattle.pm_device.specs.Pages.{IsInPage}
use Rattle.pm_layout.specs.Geometry.{inode_word}
use Rattle.dn_model.specs.Maps.{Mapping}
use Rattle.dn_model.specs.Table.{Row, row_of}
use Rattle.dn_model.specs.Disk.{Disk, Dying, IsUsed, maps, rows}
use Rattle.dn_model.specs.Files.{named}
use Rattle.dn_model.specs.Valid.{IsValid}
use Rattle.law_write.specs.Events.{IsReadPage, IsUnused}
use Rattle.law_table.specs.Words.{IsTableWord}
use Rattle.dn_volume.specs.declared.background.DyingPlace.{DyingPlace}
use Rattle.dn_volume.specs.declared.flight.Flight.{Flight}
use Rattle.dn_volume.specs.declared.volume.Parts.{Parts}
use Rattle.dn_volume.specs.Cleans.{Cleans}
use Rattle.dn_volume.specs.Parties.{Flies, Holds, Takes, SameOthers, taken_by}
use Rattle.dn_volume.specs.Planned.{slot_of_row}
use Rattle.dn_volume.specs.Flights.{IsFlight}
use Rattle.dn_volume.specs.Shares.{Shares}
use Rattle.dn_volume.specs.Reclaims.{IsRaised}
use Rattle.dn_volume.specs.Agrees.{StandsFast, IsVolume}

-- the row is there still, whatever its counts are
pub record KeepsRow (d : Disk) (row : Row) : Type 0 where
  pub still : Row
  pub there : Contains (rows d) still
  pub slot : still.slot ≡ row.slot
  pub page : still.page ≡ row.page
  pub print : still.print ≡ row.print

-- Of the disk: other inodes and the names that lead to them, the words of pages that are read,
-- unused pages but these,
-- the rows of the pages of other inodes, and the rows that count anything.
pub record KeepsRest (inodes pages : List ℕ) (d e : Disk) : Type 0 where
  pub geometry : e.geometry ≡ d.geometry
  pub inode : (i : ℕ) → (Contains inodes i → ⊥) → e.inode i ≡ d.inode i
  pub named_so : (i : ℕ) (name : List ℕ) → 1 ≤ i → (Contains inodes i → ⊥)
      → (named e name ≡ Some i) ↔ (named d name ≡ Some i)
  pub word : (page k : ℕ) → IsReadPage d page → e.word page k ≡ d.word page k
  pub unused : (page : ℕ) → (Contains pages page → ⊥) → IsUnused d page → IsUnused e page
  pub slots : (i idx : ℕ) (m : Mapping) → i < d.geometry.inodes → (Contains inodes i → ⊥)
      → maps d i idx ≡ Some m
      → slot_of_row (row_of (rows e) m.block) ≡ slot_of_row (row_of (rows d) m.block)
  pub counting : (row : Row) → Contains (rows d) row → 1 ≤ row.rfc + row.uc → KeepsRow e row

-- the words of these inodes, of their logs' pages and of these pages, and those that nobody owns:
-- the journal's and
-- the table's
pub data IsWordOf (inodes pages : List ℕ) (d : Disk) (a : ℕ) : Type 0 where
  of_journal : IsInPage 1 a → IsWordOf inodes pages d a
  of_table : IsTableWord d.geometry a → IsWordOf inodes pages d a
  of_inode : (i : ℕ) → Contains inodes i → i < d.geometry.inodes → IsIn (inode_word i 0) 16 a
      → IsWordOf inodes pages d a
  of_log : (i page : ℕ) → Contains inodes i → i < d.geometry.inodes → IsUsed (d.inode i).use_of
      → Contains (d.inode i).log.pages page → IsInPage page a → IsWordOf inodes pages d a
  of_page : (page : ℕ) → Contains pages page → IsInPage page a → IsWordOf inodes pages d a

-- and of the device: no other word is stored to, and what others had flushed elsewhere is flushed
-- still
pub record LeavesRest (who : ℕ) (inodes pages : List ℕ) (d e : Disk) (s t : State) : Type 0 where
  pub rest : KeepsRest inodes pages d e
  pub only : StoresOnly (IsWordOf inodes pages d) s t
  pub others : (q a : ℕ) → q ≢ who → (IsWordOf inodes pages d a → ⊥) → a < length s.now
      → IsFlushed q s a → IsFlushed q t a

-- the actor may touch them: it holds the inodes, or they are dying and it is reclaim; it has taken
-- the pages, or they
-- are free
pub record IsFor (d : Disk) (b : Parts) (who : ℕ) (inodes pages : List ℕ) : Type 0 where
  pub inode : (i : ℕ) → Contains inodes i
      → Holds b who i ⊎ ((who ≡ 16) × (cut : ℕ) × ((d.inode i).use_of ≡ Dying cut))
  pub page : (page : ℕ) → Contains pages page → Takes b who page ⊎ Contains b.free.free page

-- an operation in flight stays as far as it is
abbrev pub FlightsStay : Type 0
FlightsStay = (who q : ℕ) (inodes pages : List ℕ) (d e : Disk) (s t : State) (f : Flight) → q ≢ who
    → IsValid d → length s.now ≡ 512 * d.geometry.pages → LeavesRest who inodes pages d e s t
    → ((page : ℕ) → Contains pages page → IsUnused d page)
    → ((i : ℕ) → Contains f.held.items i → Contains inodes i → ⊥)
    → ((page : ℕ) → Contains (taken_by f) page → Contains pages page → ⊥)
    → ((page : ℕ) → Contains (taken_by f) page → IsUnused d page)
    → IsFlight d q f s → IsFlight e q f t

-- what everybody else has in hand afterwards
pub record StayInHand (who : ℕ) (e : Disk) (b : Parts) (t : State) : Type 0 where
  pub sharing : who ≢ 15 → Shares e b
  pub raised : who ≢ 16 → (p : DyingPlace) → b.reclaiming.raised ≡ Some p → IsRaised e p
  pub cleaning : who ≢ 16 → Cleans e b t

-- so it is with all that others have begun
abbrev pub OthersStay : Type 0
OthersStay = (who : ℕ) (inodes pages : List ℕ) (d e : Disk) (b b' : Parts) (s t : State)
    → IsVolume d b s → StandsFast e b.geometry t
    → IsFor d b who inodes pages → LeavesRest who inodes pages d e s t → SameOthers who b b'
    → (who ≢ 16 → b'.reclaiming.raised ≡ b.reclaiming.raised)
    → ((q : ℕ) (f : Flight) → q ≢ who → Flies b' q f → IsFlight e q f t) × StayInHand who e b' t
