-- What reclaim has to do.
use Rattle.std.specs.Prelude.{
  ◌≡◌,
  ℕ,
  ◌+◌,
  ◌*◌,
  ◌<◌,
  if◌then◌else◌,
  is_some,
  length,
  Option,
  Some,
  None,
}
use Rattle.fact_table.specs.Table.{HasRow, IsAtSlot}
use Rattle.dn_model.specs.Maps.{Mapping}
use Rattle.dn_model.specs.Table.{Row}
use Rattle.dn_model.specs.Disk.{Disk, Use, Free, Live, Dying, maps}
use Rattle.dn_model.specs.Counts.{total}
use Rattle.dn_volume.specs.declared.background.DyingPlace.{DyingPlace}
use Rattle.dn_volume.specs.declared.volume.Parts.{Parts}

-- how many places of an inode are mapped
unfoldable pub mapped_places : Disk → ℕ → ℕ
mapped_places d ino = total 4096 (λ idx. if is_some (maps d ino idx) then 1 else 0)

-- the units of work that an inode is for
abbrev pub units_by_use : Use → ℕ → ℕ
units_by_use Free places = 0
units_by_use Live places = 0
units_by_use (Dying cut) places = 1 + 4 * places

abbrev pub dying_units : Disk → ℕ → ℕ
dying_units d ino = units_by_use (d.inode ino).use_of (mapped_places d ino)

abbrev pub one_if : {X : Type 0} → Option X → ℕ
one_if x = if is_some x then 1 else 0

-- a place of a dying inode is the greatest that is mapped, and its page's row is raised
pub record IsRaised (d : Disk) (p : DyingPlace) : Type 0 where
  pub in_table : p.ino < d.geometry.inodes
  pub before : ℕ
  pub dying : (d.inode p.ino).use_of ≡ Dying before
  pub by : Mapping
  pub mapped : maps d p.ino p.place ≡ Some by
  pub greatest : (idx : ℕ) → p.place < idx → idx < before → maps d p.ino idx ≡ None
  pub row : Row
  pub at_slot : IsAtSlot d p.slot row
  pub page : by.block ≡ row.page

-- one for a zero check, two for each release, and for each dying inode one and four for each place,
-- but three for
-- the raised one
pub record IsReclaiming (d : Disk) (b : Parts) : Type 0 where
  pub waiting : b.reclaiming.waiting + one_if b.reclaiming.raised ≡ one_if b.reclaiming.zero_check +
      2 * length b.reclaiming.releases.items + total d.geometry.inodes (dying_units d)
  pub zero_check : (slot : ℕ) → b.reclaiming.zero_check ≡ Some slot → HasRow d slot
  pub raised : (p : DyingPlace) → b.reclaiming.raised ≡ Some p → IsRaised d p
