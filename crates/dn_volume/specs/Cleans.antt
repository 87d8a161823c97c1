-- A log that is being cleaned: what it still says is copied to pages that reclaim has taken, and the
-- copy replaces it in the end.
use Rattle.std.specs.Prelude.{
  ◌≡◌,
  ◌⊎◌,
  ℕ,
  zero,
  suc,
  ◌+◌,
  ◌*◌,
  ◌/◌,
  ◌<◌,
  ◌≤◌,
  Bool,
  true,
  false,
  if◌then◌else◌,
  ◌&&◌,
  not,
  ◌==◌,
  nat_lt,
  List,
  [],
  ◌∷◌,
  length,
  slice_get,
  slice_index,
  Option,
  Some,
  None,
  is_none,
  Contains,
}
use Rattle.std.specs.List.{list_all, range_with_len}
use Rattle.std.specs.Option.{option_map}
use Rattle.std.specs.FinMap.{get}
use Rattle.pm_device.specs.State.{State}
use Rattle.pm_device.specs.Reading.{Stands}
use Rattle.log_entry.specs.Spelling.{spelled}
use Rattle.log_entry.specs.declared.item.Flag.{Flag}
use Rattle.log_entry.specs.declared.item.Flag.TheVariants.{Needed, InProcess, Complete}
use Rattle.log_entry.specs.declared.item.LogItem.{LogItem}
use Rattle.log_entry.specs.declared.item.LogItem.TheVariants.{Write, Size, Add, Forget}
use Rattle.file_content.specs.Content.{kept}
use Rattle.file_index.specs.Runs.{runs_of}
use Rattle.file_index.specs.Slots.{add_slots_of}
use Rattle.dn_model.specs.Log.{Log, Placed, IsPaged, placed}
use Rattle.dn_model.specs.Maps.{mapping}
use Rattle.dn_model.specs.Disk.{Disk, Live}
use Rattle.law_clean.specs.Cleaned.{
  cleaned_items,
  cleaned_log,
  cleaned_slots,
  pages_for,
  IsWorthCleaning,
}
use Rattle.law_clean_count.specs.CountLaws.{or_size_slots}
use Rattle.log_replace.specs.Bodies.{BodyTo}
use Rattle.dn_volume.specs.declared.background.Cleaning.{Cleaning}
use Rattle.dn_volume.specs.declared.volume.InodeState.{InodeState}
use Rattle.dn_volume.specs.declared.volume.InodeUse.{InodeUse}
use Rattle.dn_volume.specs.declared.volume.InodeUse.TheVariants as used
use Rattle.dn_volume.specs.declared.volume.Parts.{Parts}
use Rattle.dn_volume.specs.Parties.{Takes}

-- the log that replaces the old one in the end
abbrev pub new_log : Disk → Cleaning → Log
new_log d c = cleaned_log c.ino (d.inode c.ino).log c.pages.items

-- the daemon has the item to do still
abbrev pub is_due_by : Flag → Bool
is_due_by Needed = true
is_due_by InProcess = true
is_due_by Complete = false

abbrev pub is_due : LogItem → Bool
is_due (Write first count block size flag mask) = is_due_by flag
is_due (Size size) = false
is_due (Add ino name) = false
is_due (Forget name) = false

-- the slots of such items
abbrev pub due_slots : List Placed → List ℕ
due_slots [] = []
due_slots (p ∷ ps) = if is_due p.item then p.slot ∷ due_slots ps else due_slots ps

-- The log is worth it still, since nobody but reclaim, which holds its inode, may change it. The
-- first pages of the new one are written.
pub record IsCleaning (d : Disk) (c : Cleaning) (s : State) : Type 0 where
  pub in_table : c.ino < d.geometry.inodes
  pub live : (d.inode c.ino).use_of ≡ Live
  pub worth : IsWorthCleaning c.ino (d.inode c.ino).log
  pub paged : IsPaged d.geometry (new_log d c)
  pub slots : spelled (cleaned_items c.ino (d.inode c.ino).log) ≡ c.slots.items
  pub written_few : c.written ≤ length c.pages.items
  pub stands : Stands (BodyTo (new_log d c) c.written) s
  pub places : (idx : ℕ) → get c.map.map idx ≡ option_map kept (mapping (new_log d c) idx)
  pub due : due_slots (placed (new_log d c)) ≡ c.due.items

-- so it is of the one that there is
abbrev pub Cleans : Disk → Parts → State → Type 0
Cleans d b s = (c : Cleaning) → b.reclaiming.cleaning ≡ Some c → IsCleaning d c s

-- How many slots the new log of an inode would take, by what is kept of it: of the root one Add for
-- each name, of a file one Write for each run of places that an item maps, or else a Size.
abbrev pub live_slots : Parts → ℕ → InodeState → ℕ
live_slots b zero n = add_slots_of b.names.map
live_slots b (suc k) n = or_size_slots n.size (runs_of n.map.map)

abbrev pub is_live : InodeUse → Bool
is_live used.Free = false
is_live used.Live = true
is_live (used.Dying cut) = false

-- Its log may be cleaned: nobody holds it, its new log takes half of the old one's pages at most, and
-- a page stays free once these are taken.
unfoldable pub may_clean_as : Parts → ℕ → InodeState → Bool
may_clean_as b ino n = is_live n.used && is_none n.holder && nat_lt n.round 18446744073709551615
    && nat_lt 1 n.log_pages
    && nat_lt (2 * pages_for (live_slots b ino n)) (n.log_pages + 1)
    && nat_lt (pages_for (live_slots b ino n)) (length b.free.free)

abbrev pub may_clean_opt : Parts → ℕ → Option InodeState → Bool
may_clean_opt b ino None = false
may_clean_opt b ino (Some n) = may_clean_as b ino n

abbrev pub may_clean : Parts → ℕ → Bool
may_clean b ino = may_clean_opt b ino (slice_get b.inodes.items ino)

abbrev pub none_may_clean : Parts → Bool
none_may_clean b = list_all (λ ino. not (may_clean b ino)) (range_with_len 0 (length b.inodes.items))

-- a page that no event of a client or of the daemon may take into use
abbrev pub IsLeft : Parts → ℕ → Type 0
IsLeft b page = Contains b.free.free page ⊎ Takes b 16 page

-- Two pages are left: a cleaning leaves one of the free ones at least, and its own aren't in use
-- before its end.
pub record TwoLeft (b : Parts) : Type 0 where
  pub one : ℕ
  pub other : ℕ
  pub apart : one ≡ other → ⊥
  pub one_left : IsLeft b one
  pub other_left : IsLeft b other
