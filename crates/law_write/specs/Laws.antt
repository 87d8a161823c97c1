-- Laws of what a disk says of its data pages.
use Rattle.std.specs.Prelude.{◌≡◌, ℕ, ◌<◌, Contains}
use Rattle.pm_device.specs.Pages.{IsInPage}
use Rattle.pm_layout.specs.declared.Geometry.{Geometry}
use Rattle.pm_layout.specs.Geometry.{InData}
use Rattle.dn_model.specs.Log.{Log, IsPaged}
use Rattle.dn_model.specs.Growth.{IsGrown, Prepared}
use Rattle.dn_model.specs.Disk.{Disk, DiskSays, Live}
use Rattle.dn_model.specs.Valid.{IsValid}
use Rattle.law_write.specs.Events.{IsReadPage, IsUnused}

-- the pages that are read lie in the data area
abbrev pub ReadPagesAreData : Type 0
ReadPagesAreData = (d : Disk) → IsValid d → (page : ℕ) → IsReadPage d page → InData d.geometry page

-- a disk says nothing of the words of an unused page
abbrev pub UnusedPagesAreUnread : Type 0
UnusedPagesAreUnread = (d : Disk) → IsValid d → (page : ℕ) → IsUnused d page → (a v : ℕ)
    → IsInPage page a → DiskSays d a v → ⊥

-- nor of the words that are prepared for the log of a live inode, where its fresh pages are unused
abbrev pub PreparedWordsAreUnread : Type 0
PreparedWordsAreUnread =
    (d : Disk) → IsValid d → (ino : ℕ) → ino < d.geometry.inodes → (d.inode ino).use_of ≡ Live
    → (new : Log) → (grown : IsGrown (d.inode ino).log new) → IsPaged d.geometry new
    → ((page : ℕ) → Contains grown.fresh page → IsUnused d page) → (a v v' : ℕ)
    → Prepared ino (d.inode ino).log new a v → DiskSays d a v' → ⊥

-- what is prepared for a log stands in no data page but the log's own
abbrev pub PreparedWordsAreApart : Type 0
PreparedWordsAreApart =
    (g : Geometry) (ino : ℕ) (old new : Log) → ino < g.inodes → IsPaged g new → (page : ℕ)
    → InData g page → (Contains new.pages page → ⊥)
    → (a v : ℕ) → Prepared ino old new a v → IsInPage page a → ⊥
