-- What is kept in memory of a live file is the disk's; and the bytes that are read of it.
use Rattle.std.specs.Prelude.{
  ◌≡◌,
  ℕ,
  ◌+◌,
  ◌-◌,
  ◌*◌,
  ◌/◌,
  ◌%◌,
  ◌<◌,
  ◌≤◌,
  ◌&&◌,
  nat_le,
  nat_lt,
  if◌then◌else◌,
  List,
  length,
  slice_index,
  Option,
  Some,
  None,
  IfSome,
}
use Rattle.std.specs.Option.{option_map}
use Rattle.std.specs.Ordering.{nat_cmp}
use Rattle.std.specs.FinMap.{FinMap, get}
use Rattle.pm_device.specs.State.{State}
use Rattle.pm_device.specs.Settled.{IsSettled, IsFlushed}
use Rattle.pm_layout.specs.declared.Geometry.{Geometry}
use Rattle.page_bytes.specs.Bytes.{page_byte}
use Rattle.file_index.specs.declared.page_map.Mapping.{Mapping}
use Rattle.dn_model.specs.Maps.{Mapping as DiskMapping, size_of}
use Rattle.dn_model.specs.Disk.{Disk, Live, maps}

-- what is kept in memory of a mapping
abbrev pub kept : DiskMapping → Mapping
kept m = record { block = m.block; slot = m.slot; bit = m.bit }

-- the inode is a live file of this size, and its places are mapped so
pub record IsFileOf (d : Disk) (ino size : ℕ) (map : FinMap nat_cmp Mapping) : Type 0 where
  pub live : (d.inode ino).use_of ≡ Live
  pub in_table : ino < d.geometry.inodes
  pub size_is : size_of (d.inode ino).log ≡ size
  pub small : size ≤ 16777216
  pub places : (idx : ℕ) → get map idx ≡ option_map kept (maps d ino idx)

-- each page to which a place is mapped lies in the image
pub record AreBlocksIn (g : Geometry) (map : FinMap nat_cmp Mapping) : Type 0 where
  pub inside : (idx : ℕ) → IfSome (get map idx) (λ m. m.block < g.pages)

-- byte k of a place that is mapped so
abbrev pub block_byte : List ℕ → ℕ → Option Mapping → ℕ
block_byte image k None = 0
block_byte image k (Some m) = page_byte image m.block k

-- byte j of a file of this size whose places are mapped so: 0 from the size on, and where nothing
-- is mapped
unfoldable pub file_byte : List ℕ → FinMap nat_cmp Mapping → ℕ → ℕ → ℕ
file_byte image map size j = if nat_lt j size then block_byte image (j % 4096) (get map (j / 4096))
    else 0

-- these are the bytes of a place of the file
pub record IsPlaceOf (image : List ℕ) (map : FinMap nat_cmp Mapping) (size place : ℕ)
    (bytes : List ℕ) : Type 0 where
  pub whole : length bytes ≡ 4096
  pub each : (k : ℕ) → k < 4096 → slice_index bytes k ≡ file_byte image map size (4096 * place + k)

-- byte j of a file of these bytes, once a text is put in from byte `at` on
abbrev pub merged_byte : List ℕ → ℕ → List ℕ → ℕ → ℕ
merged_byte old at text j = if nat_le at j && nat_lt j (at + length text) then slice_index text
    (j - at) else slice_index old j

-- byte j of a file of these bytes of which those below `size` are kept
abbrev pub kept_byte : ℕ → List ℕ → ℕ → ℕ
kept_byte size old j = if nat_lt j size then slice_index old j else 0

-- these bytes stand in the page, and this actor has flushed them
pub record IsFilledBy (who : ℕ) (s : State) (page : ℕ) (byte : ℕ → ℕ) : Type 0 where
  pub bytes_are : (k : ℕ) → k < 4096 → page_byte s.now page k ≡ byte k
  pub flushed : (k : ℕ) → k < 512 → IsFlushed who s (512 * page + k)
