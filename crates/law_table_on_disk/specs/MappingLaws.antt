-- Laws of the number of mappings of a page, and how it moves when places of a file are mapped
-- otherwise.
use Rattle.std.specs.Prelude.{
  ◌≡◌,
  ◌≢◌,
  ◌⊎◌,
  ℕ,
  ◌+◌,
  ◌<◌,
  ◌≤◌,
  Contains,
  Some,
  None,
  IsNone,
  option_map,
}
use Rattle.dn_model.specs.Maps.{Mapping, size_of}
use Rattle.dn_model.specs.Table.{Row, row_of}
use Rattle.dn_model.specs.Disk.{Disk, Dying, MapsTo, IsMapped, maps, rows}
use Rattle.dn_model.specs.Counts.{total, hit, mappings, IsFree, IsNear, Near}
use Rattle.dn_model.specs.Valid.{IsValid}
use Rattle.law_write.specs.Writing.{Writes}

-- the places of an inode that are mapped to the page
abbrev pub places : Disk → ℕ → ℕ → ℕ
places d page ino = total 4096 (λ idx. hit page (maps d ino idx))

-- only places of this inode are mapped otherwise
pub record RemapsInode (ino : ℕ) (old new : Disk) : Type 0 where
  pub inodes : new.geometry.inodes ≡ old.geometry.inodes
  pub in_table : ino < old.geometry.inodes
  pub others : (i idx : ℕ) → i ≢ ino → maps new i idx ≡ maps old i idx

-- only this place of it is
pub record RemapsPlace (ino idx : ℕ) (old new : Disk) : Type 0 where
  pub in_inode : RemapsInode ino old new
  pub in_file : idx < 4096
  pub other_places : (j : ℕ) → j ≢ idx → maps new ino j ≡ maps old ino j

-- a page is mapped exactly if it has a mapping
abbrev pub MappedPagesCount : Type 0
MappedPagesCount = (d : Disk) (page : ℕ) → (IsMapped d page → 1 ≤ mappings d page) ×
    (1 ≤ mappings d page → IsMapped d page)

-- two places on a page that has one mapping are one place
abbrev pub OneMappingIsOnePlace : Type 0
OneMappingIsOnePlace = (d : Disk) (page i j idx jdx : ℕ) → mappings d page ≤ 1 → MapsTo d i idx page
    → MapsTo d j jdx page → (i ≡ j) × (idx ≡ jdx)

-- the mappings move by the places of the inode, or by the one place
abbrev pub InodeMovesMappings : Type 0
InodeMovesMappings = (ino : ℕ) (old new : Disk) → RemapsInode ino old new → (page : ℕ)
    → mappings new page + places old page ino ≡ mappings old page + places new page ino

abbrev pub PlaceMovesMappings : Type 0
PlaceMovesMappings = (ino idx : ℕ) (old new : Disk) → RemapsPlace ino idx old new → (page : ℕ)
    → mappings new page + hit page (maps old ino idx) ≡ mappings old page + hit page
    (maps new ino idx)

-- one mapping more of a page, and no other differs
pub record AddsMapping (page : ℕ) (old new : Disk) : Type 0 where
  pub more : mappings new page ≡ mappings old page + 1
  pub others : (other : ℕ) → other ≢ page → mappings new other ≡ mappings old other

-- one mapping moves from a page to another
pub record MovesMapping (from to : ℕ) (old new : Disk) : Type 0 where
  pub less : mappings new from + 1 ≡ mappings old from
  pub more : mappings new to ≡ mappings old to + 1
  pub others : (other : ℕ) → other ≢ from → other ≢ to → mappings new other ≡ mappings old other

-- a place is mapped that wasn't
abbrev pub PlaceIsMapped : Type 0
PlaceIsMapped = (ino idx : ℕ) (old new : Disk) (m : Mapping) → RemapsPlace ino idx old new
    → maps old ino idx ≡ None → maps new ino idx ≡ Some m → AddsMapping m.block old new

-- a place is no more mapped
abbrev pub PlaceIsUnmapped : Type 0
PlaceIsUnmapped = (ino idx : ℕ) (old new : Disk) (m : Mapping) → RemapsPlace ino idx old new
    → maps old ino idx ≡ Some m → maps new ino idx ≡ None → AddsMapping m.block new old

-- a place is mapped to another page
abbrev pub PlaceIsMappedOver : Type 0
PlaceIsMappedOver = (ino idx : ℕ) (old new : Disk) (m n : Mapping) → RemapsPlace ino idx old new
    → maps old ino idx ≡ Some m → maps new ino idx ≡ Some n → m.block ≢ n.block
    → MovesMapping m.block n.block old new

-- where each place stays on its page, as when flags or masks change, no number moves
abbrev pub BlocksTellMappings : Type 0
BlocksTellMappings = (old new : Disk) → new.geometry.inodes ≡ old.geometry.inodes
    → ((ino idx : ℕ) → ino < old.geometry.inodes → option_map (λ (m : Mapping). m.block)
    (maps new ino idx) ≡ option_map (λ (m : Mapping). m.block) (maps old ino idx))
    → (page : ℕ) → mappings new page ≡ mappings old page

-- counts stay near but for rows of pages whose mappings move
abbrev pub NearStays : Type 0
NearStays = (old new : Disk) → rows new ≡ rows old → Near old
    → ((row : Row) → Contains (rows old) row → (mappings new row.page ≡ mappings old row.page)
    ⊎ IsNear new row) → Near new

-- what a row's counts tell of its page
pub record CountsTell (d : Disk) (row : Row) : Type 0 where
  pub at_most : mappings d row.page ≤ row.rfc + row.uc
  pub at_least : row.rfc ≤ mappings d row.page + row.uc

abbrev pub RowCountsTell : Type 0
RowCountsTell = (d : Disk) (row : Row) → IsValid d → Contains (rows d) row → CountsTell d row

-- the page of a row is free, once nothing maps it
abbrev pub UnmappedRowPageIsFree : Type 0
UnmappedRowPageIsFree = (d : Disk) (row : Row) → IsValid d → Contains (rows d) row
    → mappings d row.page ≡ 0 → IsFree d row.page

-- a mapped page without a row has one mapping
abbrev pub PageWithoutRowIsMappedOnce : Type 0
PageWithoutRowIsMappedOnce = (d : Disk) (page : ℕ) → IsValid d → IsNone (row_of (rows d) page)
    → IsMapped d page → mappings d page ≡ 1

-- a write maps places of its inode alone
abbrev pub WritesRemapTheirInode : Type 0
WritesRemapTheirInode = (ino : ℕ) (old new : Disk) → Writes ino old new → RemapsInode ino old new

-- and of one place that place alone, where the size doesn't fall
abbrev pub OnePlaceWritesRemapIt : Type 0
OnePlaceWritesRemapIt = (ino : ℕ) (old new : Disk) (w : Writes ino old new) → w.n ≡ 1
    → w.first < 4096 → size_of (old.inode ino).log ≤ w.size → RemapsPlace ino w.first old new

-- The cut of a dying inode falls from k to c, the greatest place that was mapped.
pub record LowersCut (ino c k : ℕ) (old new : Disk) : Type 0 where
  pub inodes : new.geometry.inodes ≡ old.geometry.inodes
  pub in_table : ino < old.geometry.inodes
  pub others : (i : ℕ) → i ≢ ino → new.inode i ≡ old.inode i
  pub same_log : (new.inode ino).log ≡ (old.inode ino).log
  pub was : (old.inode ino).use_of ≡ Dying k
  pub now : (new.inode ino).use_of ≡ Dying c
  pub below : c < k
  pub in_file : c < 4096
  pub greatest : (j : ℕ) → c < j → maps old ino j ≡ None

-- that place is no more mapped, and no other differs
pub record UnmapsPlace (ino idx : ℕ) (old new : Disk) : Type 0 where
  pub remaps : RemapsPlace ino idx old new
  pub gone : maps new ino idx ≡ None

abbrev pub LoweredCutsUnmap : Type 0
LoweredCutsUnmap = (ino c k : ℕ) (old new : Disk) → LowersCut ino c k old new
    → UnmapsPlace ino c old new
