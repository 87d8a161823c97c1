-- Laws of what an image stands for.
use Rattle.std.specs.Prelude.{◌≡◌, ◌↔◌, ℕ, ◌<◌, List, length, slice_index, slice_get, Some}
use Rattle.pm_device.specs.Reading.{Reads}
use Rattle.pm_layout.specs.declared.Geometry.{Geometry}
use Rattle.pm_layout.specs.Geometry.{directs, gate_word}
use Rattle.dn_model.specs.Rolled.{rolled, IsGate}
use Rattle.dn_model.specs.Log.{Log, LogSays}
use Rattle.dn_model.specs.Table.{Row, ChainSays}
use Rattle.dn_model.specs.Disk.{Disk, DiskSays}
use Rattle.dn_model.specs.Files.{Files, IsSameFiles}
use Rattle.dn_model.specs.Valid.{IsLog, IsRow, IsValid}
use Rattle.dn_model.specs.Image.{StandsFor, HasFiles}
use Rattle.law_unique.specs.SameDisk.{IsSameDisk, MeansTheSame}

-- words hold one log of an inode at most: the tail and the footers tell its end, and no spelling
-- begins with another
abbrev pub HasOneLog : Type 0
HasOneLog = (g : Geometry) (ino : ℕ) (c : List ℕ) (x y : Log) → IsLog g ino x → IsLog g ino y
    → Reads (LogSays ino x) c → Reads (LogSays ino y) c → x ≡ y

-- rows that may stand in the chain of this prefix
abbrev pub AreRows : Geometry → ℕ → List Row → Type 0
AreRows g prefix rows = (k : ℕ) (row : Row) → slice_get rows k ≡ Some row → IsRow g prefix k row

-- and one chain of a prefix
abbrev pub HasOneChain : Type 0
HasOneChain = (g : Geometry) (prefix : ℕ) (c : List ℕ) (xs ys : List Row) → prefix < directs g
    → AreRows g prefix xs → AreRows g prefix ys
    → Reads (ChainSays g prefix xs) c → Reads (ChainSays g prefix ys) c → xs ≡ ys

-- an image stands for one disk
abbrev pub HasOneDisk : Type 0
HasOneDisk = (c : List ℕ) (d e : Disk) → StandsFor c d → StandsFor c e → IsSameDisk d e

-- and for each disk that is the same where it is read
abbrev pub StandsForTheSame : Type 0
StandsForTheSame = (c : List ℕ) (d e : Disk) → StandsFor c d → IsSameDisk d e → StandsFor c e

-- two disks are the same both ways
abbrev pub IsSameBothWays : Type 0
IsSameBothWays = (d e : Disk) → IsSameDisk d e → IsSameDisk e d

abbrev pub SameDisksAreValid : Type 0
SameDisksAreValid = (d e : Disk) → IsValid d → IsSameDisk d e → IsValid e

abbrev pub SameDisksMeanTheSame : Type 0
SameDisksMeanTheSame = (d e : Disk) → IsValid d → IsSameDisk d e → MeansTheSame d e

-- and so has the files of one map
abbrev pub HasOneMap : Type 0
HasOneMap = (c : List ℕ) (f g : Files) → HasFiles c f → HasFiles c g → IsSameFiles f g

-- where an image stands for a disk and both gates are closed, each image that has as many words,
-- and the same words where the disk tells them, stands for it
abbrev pub IsKnownByWordsRead : Type 0
IsKnownByWordsRead = (c c' : List ℕ) (d : Disk) → StandsFor c d → slice_index c gate_word ≡ 0
    → length c' ≡ length c
    → ((a v : ℕ) → DiskSays d a v → slice_index c' a ≡ slice_index c a) → StandsFor c' d

-- the same with gates that may be open, of the words that rolling them back leaves
abbrev pub IsKnownByWordsRolled : Type 0
IsKnownByWordsRolled = (c c' : List ℕ) (d : Disk) → StandsFor c d → IsGate d.geometry.inodes c'
    → length c' ≡ length c
    → ((a v : ℕ) → DiskSays d a v → slice_index (rolled c') a ≡ slice_index (rolled c) a)
    → StandsFor c' d

-- an image whose gate may be open stands for what it stands for once it is rolled back
abbrev pub RollingKeeps : Type 0
RollingKeeps = (c : List ℕ) (d : Disk) → IsGate d.geometry.inodes c
    → StandsFor c d ↔ StandsFor (rolled c) d
