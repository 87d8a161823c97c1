-- Two disks that differ at most where nothing is read.
use Rattle.std.specs.Prelude.{◌≡◌, ◌⊎◌, ◌↔◌, ℕ, ◌<◌, List, IsSome}
use Rattle.pm_layout.specs.Geometry.{directs}
use Rattle.dn_model.specs.Table.{row_of}
use Rattle.dn_model.specs.Disk.{Disk, IsUsed, IsMapped, maps, rows}
use Rattle.dn_model.specs.Counts.{mappings, IsFree, Exact}
use Rattle.dn_model.specs.Files.{named, files, IsSameFiles}
use Rattle.dn_model.specs.Own.{Print, IsOwn, Settled}
use Rattle.dn_model.specs.Faults.{HasFree}

-- the words of a page are read: a place is mapped to it, or it has a row
abbrev pub IsRead : Disk → ℕ → Type 0
IsRead d page = IsMapped d page ⊎ IsSome (row_of (rows d) page)

-- the same geometry and uses of inodes, and the same logs of those that are used
pub record HasSameLogs (d e : Disk) : Type 0 where
  pub geometry : d.geometry ≡ e.geometry
  pub uses : (ino : ℕ) → ino < d.geometry.inodes → (d.inode ino).use_of ≡ (e.inode ino).use_of
  pub logs : (ino : ℕ) → ino < d.geometry.inodes → IsUsed (d.inode ino).use_of
      → (d.inode ino).log ≡ (e.inode ino).log

-- all that is read is the same
pub record IsSameDisk (d e : Disk) : Type 0 where
  pub inodes : HasSameLogs d e
  pub chains : (prefix : ℕ) → prefix < directs d.geometry → d.chain prefix ≡ e.chain prefix
  pub pointers : (page : ℕ) → page < d.geometry.pages → d.pointer page ≡ e.pointer page
  pub words : (page k : ℕ) → k < 512 → IsRead d page → d.word page k ≡ e.word page k

-- what follows
pub record MeansTheSame (d e : Disk) : Type 0 where
  pub maps : (ino idx : ℕ) → ino < d.geometry.inodes → maps d ino idx ≡ maps e ino idx
  pub mappings : (page : ℕ) → mappings d page ≡ mappings e page
  pub rows : rows d ≡ rows e
  pub names : (name : List ℕ) → named d name ≡ named e name
  pub files : IsSameFiles (files d) (files e)
  pub free : (page : ℕ) → IsFree d page ↔ IsFree e page
  pub free_count : (n : ℕ) → HasFree d n ↔ HasFree e n
  pub exact : Exact d ↔ Exact e
  pub settled : Settled d ↔ Settled e
  pub own : (print : Print) → IsOwn print d ↔ IsOwn print e
