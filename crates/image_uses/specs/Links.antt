-- How many names lead to each inode.
use Rattle.std.specs.Prelude.{
  ◌≡◌,
  ◌≢◌,
  ℕ,
  ◌<◌,
  ◌≤◌,
  if◌then◌else◌,
  ◌==◌,
  List,
  [],
  length,
  slice_index,
  slice_index_or,
}
use Rattle.std.specs.Ordering.{nat_cmp}
use Rattle.std.specs.Cmp.Lexicographic.{slice_cmp}
use Rattle.std.specs.FinMap.{FinMap, get}
use Rattle.pm_device.specs.Reading.{Reads}
use Rattle.pm_layout.specs.declared.Geometry.{Geometry}
use Rattle.pm_layout.specs.Geometry.{inode_word}
use Rattle.file_index.specs.Index.{ListsEntries}
use Rattle.dn_model.specs.Disk.{Disk, InodesSay}
use Rattle.dn_model.specs.Counts.{total}
use Rattle.dn_model.specs.Files.{named}

-- 1 where this is the inode
abbrev pub name_hit : ℕ → ℕ → ℕ
name_hit i ino = if ino == i then 1 else 0

-- the inode of entry k
abbrev pub ino_at : List (List ℕ × ℕ) → ℕ → ℕ
ino_at entries k = (slice_index_or entries k ([], 0)).1

-- each inode's count is how many of the first n entries lead to it
pub record CountsNames (entries : List (List ℕ × ℕ)) (n inodes : ℕ) (links : List ℕ) : Type 0 where
  pub long : length links ≡ inodes
  pub each : (i : ℕ) → i < inodes → slice_index links i ≡ total n
      (λ k. name_hit i (ino_at entries k))

-- each inode's count is how many names lead to it
pub record AreLinks (names : FinMap (slice_cmp nat_cmp) ℕ) (inodes : ℕ) (links : List ℕ) : Type 0
  where
    pub entries : List (List ℕ × ℕ)
    pub lists : ListsEntries names entries
    pub counts : CountsNames entries (length entries) inodes links

-- an inode in this state may have so many names
abbrev pub IsLinkedBy : ℕ → ℕ → Type 0
IsLinkedBy state links = (state ≡ 1 → links ≡ 1) × (state ≢ 1 → links ≡ 0)

-- all inodes below the end may have the names that they have
abbrev pub AllLinked : List ℕ → List ℕ → ℕ → Type 0
AllLinked c links end = (i : ℕ) → 1 ≤ i → i < end → IsLinkedBy (slice_index c (inode_word i 0))
    (slice_index links i)

-- a state whose inodes these words say, and whose names are these
pub record IsNamed (g : Geometry) (c : List ℕ) (names : FinMap (slice_cmp nat_cmp) ℕ) (d : Disk) :
    Type 0 where
  pub geometry : d.geometry ≡ g
  pub inodes : Reads (InodesSay d) c
  pub are : (name : List ℕ) → get names name ≡ named d name
