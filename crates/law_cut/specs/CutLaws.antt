-- The laws of a cut.
use Rattle.std.specs.Prelude.{
  ◌≡◌,
  ◌≢◌,
  ◌⊎◌,
  ℕ,
  ◌+◌,
  ◌<◌,
  ◌≤◌,
  List,
  [],
  Contains,
  Option,
  Some,
  None,
  IsNone,
}
use Rattle.log_entry.specs.Spelling.{pages_of}
use Rattle.dn_model.specs.Maps.{size_of}
use Rattle.dn_model.specs.Table.{Row, row_of}
use Rattle.dn_model.specs.Disk.{Disk, maps, rows}
use Rattle.dn_model.specs.Counts.{mappings, IsFree, Near}
use Rattle.dn_model.specs.Files.{bytes, named, files, IsSameFiles}
use Rattle.dn_model.specs.Apply.{resized, after_op}
use Rattle.dn_model.specs.Valid.{IsValid}
use Rattle.dn_model.specs.Own.{Print, IsOwn}
use Rattle.dn_model.specs.declared.op.Op.TheVariants.{Cut}
use Rattle.law_write.specs.Writing.{Writes, WritesWell, IsNewMapping}
use Rattle.law_write.specs.Runs.{places_in, block_at}
use Rattle.law_cut.specs.Cutting.{
  cut_disk,
  refill_runs,
  last_page,
  MayCut,
  Refills,
  EndsInZeros,
  IsDropped,
  IsNotRefill,
  dropped_places,
}

-- The event of a cut is one of a write of no place, or of the last page: the laws of writes say
-- that the disk stays
-- valid, that the tail decides, and which words have to stand before.
pub record IsCutOf (d : Disk) (ino : ℕ) (fresh : List ℕ) (size : ℕ) (refill : Option ℕ)
    (word : ℕ → ℕ → ℕ) : Type 0 where
  pub event : Writes ino d (cut_disk d ino fresh size refill word)
  pub well : WritesWell ino d (cut_disk d ino fresh size refill word) event
  pub starts : event.first ≡ last_page size
  pub places : event.n ≡ places_in (refill_runs size refill)
  pub ends : event.size ≡ size
  pub blocks : (i : ℕ) → event.blocks i ≡ block_at (refill_runs size refill) i
  pub takes : event.grown.fresh ≡ fresh

abbrev pub CutsMakeWrites : Type 0
CutsMakeWrites = (d : Disk) (ino : ℕ) (fresh : List ℕ) (size : ℕ) (refill : Option ℕ)
    (word : ℕ → ℕ → ℕ) → MayCut d ino fresh size refill word
    → Near (cut_disk d ino fresh size refill word) → IsCutOf d ino fresh size refill word

-- without rows no count can be off
abbrev pub CutsMakeWritesWithoutRows : Type 0
CutsMakeWritesWithoutRows = (d : Disk) (ino : ℕ) (fresh : List ℕ) (size : ℕ) (refill : Option ℕ)
    (word : ℕ → ℕ → ℕ) → MayCut d ino fresh size refill word
    → ((p : ℕ) → d.chain p ≡ []) → IsCutOf d ino fresh size refill word

-- a valid disk stays valid
abbrev pub CutsStayValid : Type 0
CutsStayValid = (d : Disk) (ino : ℕ) (fresh : List ℕ) (size : ℕ) (refill : Option ℕ)
    (word : ℕ → ℕ → ℕ) → MayCut d ino fresh size refill word
    → Near (cut_disk d ino fresh size refill word) → IsValid (cut_disk d ino fresh size refill word)

-- the places past the size go, the last is filled anew where it has to be, and the others stay
pub record CutsPlaces (old new : Disk) (ino size : ℕ) (refill : Option ℕ) : Type 0 where
  pub size_is : size_of (new.inode ino).log ≡ size
  pub gone : (idx : ℕ) → pages_of size ≤ idx → maps new ino idx ≡ None
  pub anew : (page : ℕ) → refill ≡ Some page → IsNewMapping (maps new ino (last_page size)) page
  pub kept : (idx : ℕ) → idx < pages_of size → (refill ≡ None) ⊎ (idx ≢ last_page size)
      → maps new ino idx ≡ maps old ino idx
  pub others : (i idx : ℕ) → i ≢ ino → maps new i idx ≡ maps old i idx

abbrev pub CutsDropPlaces : Type 0
CutsDropPlaces = (d : Disk) (ino : ℕ) (fresh : List ℕ) (size : ℕ) (refill : Option ℕ)
    (word : ℕ → ℕ → ℕ) → MayCut d ino fresh size refill word
    → CutsPlaces d (cut_disk d ino fresh size refill word) ino size refill

-- the file has as many bytes as the size, with zeros past the old end, and the bytes of the other
-- files stay
pub record Resizes (ino : ℕ) (old new : Disk) (size : ℕ) : Type 0 where
  pub here : bytes new ino ≡ resized (bytes old ino) size
  pub others : (i : ℕ) → i ≢ ino → i < old.geometry.inodes → bytes new i ≡ bytes old i

abbrev pub CutsResize : Type 0
CutsResize = (d : Disk) (ino : ℕ) (fresh : List ℕ) (size : ℕ) (refill : Option ℕ) (word : ℕ → ℕ → ℕ)
    → MayCut d ino fresh size refill word
    → Near (cut_disk d ino fresh size refill word)
    → Refills d (cut_disk d ino fresh size refill word) ino size refill → EndsInZeros d ino
    → Resizes ino d (cut_disk d ino fresh size refill word) size

-- the files are those after the operation, if the name leads to the inode
abbrev pub CutsAreCuts : Type 0
CutsAreCuts = (d : Disk) (ino : ℕ) (fresh : List ℕ) (size : ℕ) (refill : Option ℕ)
    (word : ℕ → ℕ → ℕ) → MayCut d ino fresh size refill word
    → Near (cut_disk d ino fresh size refill word)
    → Refills d (cut_disk d ino fresh size refill word) ino size refill → EndsInZeros d ino
    → (name : List ℕ) → named d name ≡ Some ino
    → IsSameFiles (files (cut_disk d ino fresh size refill word))
    (after_op (files d) (Cut name size))

-- what every image of this program has stays: zeros past the end of files, prints, and marks of
-- what the daemon did
abbrev pub CutsStayOwn : Type 0
CutsStayOwn = (print : Print) (d : Disk) (ino : ℕ) (fresh : List ℕ) (size : ℕ) (refill : Option ℕ)
    (word : ℕ → ℕ → ℕ) → MayCut d ino fresh size refill word
    → Near (cut_disk d ino fresh size refill word)
    → Refills d (cut_disk d ino fresh size refill word) ino size refill → IsOwn print d
    → IsOwn print (cut_disk d ino fresh size refill word)

-- which pages are free afterwards
pub record TakesAndDrops (old new : Disk) (ino : ℕ) (fresh : List ℕ) (size : ℕ) (refill : Option ℕ)
    : Type 0 where
  pub kept : (page : ℕ) → IsFree old page → IsNotRefill refill page → (Contains fresh page → ⊥)
      → IsFree new page
  pub refill_taken : (page : ℕ) → refill ≡ Some page → IsFree new page → ⊥
  pub fresh_taken : (page : ℕ) → Contains fresh page → IsFree new page → ⊥
  pub freed : (page : ℕ) → IsDropped old ino size refill page → IsNone (row_of (rows old) page)
      → IsFree new page
  pub only : (page : ℕ) → IsFree new page → IsFree old page ⊎ IsDropped old ino size refill page

abbrev pub CutsTakeAndDrop : Type 0
CutsTakeAndDrop = (d : Disk) (ino : ℕ) (fresh : List ℕ) (size : ℕ) (refill : Option ℕ)
    (word : ℕ → ℕ → ℕ) → MayCut d ino fresh size refill word
    → Near (cut_disk d ino fresh size refill word)
    → TakesAndDrops d (cut_disk d ino fresh size refill word) ino fresh size refill

-- a page's mappings fall by the places that go
abbrev pub CutsDropMappings : Type 0
CutsDropMappings = (d : Disk) (ino : ℕ) (fresh : List ℕ) (size : ℕ) (refill : Option ℕ)
    (word : ℕ → ℕ → ℕ) → MayCut d ino fresh size refill word
    → (page : ℕ) → IsNotRefill refill page → mappings (cut_disk d ino fresh size refill word)
    page + dropped_places d ino size refill page ≡ mappings d page

-- so the counts stay near, if as many updates of each row were raised
abbrev pub CutsStayNear : Type 0
CutsStayNear = (d : Disk) (ino : ℕ) (fresh : List ℕ) (size : ℕ) (refill : Option ℕ)
    (word : ℕ → ℕ → ℕ) → MayCut d ino fresh size refill word
    → ((row : Row) → Contains (rows d) row → row.rfc + dropped_places d ino size refill
    row.page ≤ mappings d row.page + row.uc)
    → Near (cut_disk d ino fresh size refill word)
