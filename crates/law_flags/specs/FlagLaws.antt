-- One Write item of a live file's log gets another flag or another mask.
use Rattle.std.specs.Prelude.{
  ◌≡◌,
  ◌⊎◌,
  ℕ,
  ◌^◌,
  ◌<◌,
  if◌then◌else◌,
  ◌==◌,
  [],
  Some,
  IsBitSet,
  option_map,
}
use Rattle.log_entry.specs.Spelling.{flag_number}
use Rattle.log_entry.specs.declared.item.Flag.{Flag}
use Rattle.log_entry.specs.declared.item.Flag.TheVariants.{Complete}
use Rattle.log_entry.specs.declared.item.LogItem.{LogItem}
use Rattle.log_entry.specs.declared.item.LogItem.TheVariants.{Write}
use Rattle.dn_model.specs.Log.{Log}
use Rattle.dn_model.specs.Maps.{Mapping}
use Rattle.dn_model.specs.Disk.{Disk, Live, maps}
use Rattle.dn_model.specs.Counts.{IsLogPage, IsFree}
use Rattle.dn_model.specs.Own.{Print, IsAlone, HasRow, IsOwn, Settled}
use Rattle.dn_model.specs.Valid.{IsValid}
use Rattle.inode_log.specs.Reflags.{
  with_flag,
  with_mask,
  flag_word,
  mask_word,
  Reflags,
  pages_written,
}
use Rattle.law_table_on_disk.specs.OneWord.{IsOneWord}
use Rattle.law_table_on_disk.specs.Keeping.{Same}
use Rattle.law_log_swap.specs.Relogged.{relogged, KeepsData}

-- A Write of a live inode's log stands at this slot, and `log` is that log with this change of it.
pub record MayReflag (d : Disk) (ino : ℕ) (change : LogItem → LogItem) (slot : ℕ) (log : Log) : Type
    0 where
  pub valid : IsValid d
  pub in_table : ino < d.geometry.inodes
  pub live : (d.inode ino).use_of ≡ Live
  pub reflags : Reflags change slot (d.inode ino).log log

abbrev pub MayFlag : Disk → ℕ → Flag → ℕ → Log → Type 0
MayFlag d ino flag slot log = MayReflag d ino (with_flag flag) slot log

-- the mask has bits of the Write's pages alone
pub record MayMask (d : Disk) (ino mask slot : ℕ) (log : Log) : Type 0 where
  pub may : MayReflag d ino (with_mask mask) slot log
  pub small : mask < 2 ^ pages_written may.reflags.item

-- a mapping by the item at this slot, with another flag, or with another mask
abbrev pub flagged : ℕ → Flag → Mapping → Mapping
flagged slot flag m = if m.slot == slot then record {
  block = m.block;
  slot = m.slot;
  bit = m.bit;
  flag = flag;
  mask = m.mask;
} else m

abbrev pub masked : ℕ → ℕ → Mapping → Mapping
masked slot mask m = if m.slot == slot then record {
  block = m.block;
  slot = m.slot;
  bit = m.bit;
  flag = m.flag;
  mask = mask;
} else m

-- one word decides, and no other is new
abbrev pub FlagIsOneWord : Type 0
FlagIsOneWord = (d : Disk) (ino : ℕ) (flag : Flag) (slot : ℕ) (log : Log)
    → MayFlag d ino flag slot log → IsOneWord d (relogged d ino log) 0 [] (flag_word slot)
    (flag_number flag)

abbrev pub MaskIsOneWord : Type 0
MaskIsOneWord = (d : Disk) (ino mask slot : ℕ) (log : Log) → MayMask d ino mask slot log
    → IsOneWord d (relogged d ino log) 0 [] (mask_word slot) mask

-- the places that the item maps have the new flag or mask, and no other place differs
abbrev pub FlagChangesItsPlaces : Type 0
FlagChangesItsPlaces = (d : Disk) (ino : ℕ) (flag : Flag) (slot : ℕ) (log : Log)
    → MayFlag d ino flag slot log
    → (idx : ℕ) → maps (relogged d ino log) ino idx ≡ option_map (flagged slot flag)
    (maps d ino idx)

abbrev pub MaskChangesItsPlaces : Type 0
MaskChangesItsPlaces = (d : Disk) (ino mask slot : ℕ) (log : Log) → MayMask d ino mask slot log
    → (idx : ℕ) → maps (relogged d ino log) ino idx ≡ option_map (masked slot mask) (maps d ino idx)

-- what no flag and no mask touches
pub record KeepsPages (old new : Disk) (ino : ℕ) : Type 0 where
  pub places : KeepsData old new ino
  pub log_pages : Same (IsLogPage old) (IsLogPage new)
  pub free : Same (IsFree old) (IsFree new)

abbrev pub FlagKeepsPages : Type 0
FlagKeepsPages = (d : Disk) (ino : ℕ) (flag : Flag) (slot : ℕ) (log : Log)
    → MayFlag d ino flag slot log → KeepsPages d (relogged d ino log) ino

abbrev pub MaskKeepsPages : Type 0
MaskKeepsPages = (d : Disk) (ino mask slot : ℕ) (log : Log) → MayMask d ino mask slot log
    → KeepsPages d (relogged d ino log) ino

-- each place that the item maps is left alone, or its page has a row
abbrev pub IsDoneAt : Disk → ℕ → ℕ → Type 0
IsDoneAt d ino slot = (idx : ℕ) (m : Mapping) → maps d ino idx ≡ Some m → m.slot ≡ slot
    → IsAlone m ⊎ HasRow d m.block

-- what every image of this program has stays: an item is called complete once its places are done
abbrev pub FlagStaysOwn : Type 0
FlagStaysOwn = (print : Print) (d : Disk) (ino : ℕ) (flag : Flag) (slot : ℕ) (log : Log)
    → MayFlag d ino flag slot log
    → (flag ≡ Complete → IsDoneAt d ino slot) → IsOwn print d → IsOwn print (relogged d ino log)

-- each place that was left alone is so under this mask
abbrev pub KeepsAlone : Disk → ℕ → ℕ → ℕ → Type 0
KeepsAlone d ino slot mask = (idx : ℕ) (m : Mapping) → maps d ino idx ≡ Some m → IsAlone m
    → IsAlone (masked slot mask m)

abbrev pub MaskStaysOwn : Type 0
MaskStaysOwn = (print : Print) (d : Disk) (ino mask slot : ℕ) (log : Log)
    → MayMask d ino mask slot log → KeepsAlone d ino slot mask → IsOwn print d
    → IsOwn print (relogged d ino log)

-- what is settled stays so
abbrev pub FlagStaysSettled : Type 0
FlagStaysSettled = (d : Disk) (ino : ℕ) (flag : Flag) (slot : ℕ) (log : Log)
    → MayFlag d ino flag slot log → flag ≡ Complete → Settled d → Settled (relogged d ino log)

abbrev pub MaskStaysSettled : Type 0
MaskStaysSettled = (d : Disk) (ino mask slot : ℕ) (log : Log) → MayMask d ino mask slot log
    → KeepsAlone d ino slot mask → Settled d → Settled (relogged d ino log)

-- the places that the item maps have its flag and its mask
abbrev pub PlacesTellItem : Type 0
PlacesTellItem = (d : Disk) (ino : ℕ) (change : LogItem → LogItem) (slot : ℕ) (log : Log)
    (may : MayReflag d ino change slot log)
    → (first n block size : ℕ) (flag : Flag) (mask : ℕ) → may.reflags.item ≡ Write first n block
    size flag mask
    → (idx : ℕ) (m : Mapping) → maps d ino idx ≡ Some m → m.slot ≡ slot
    → (m.flag ≡ flag) × (m.mask ≡ mask)

-- so a mask with each bit of the one before keeps alone what was
abbrev pub MoreBitsKeepAlone : Type 0
MoreBitsKeepAlone = (d : Disk) (ino mask slot : ℕ) (log : Log) (is : MayMask d ino mask slot log)
    → (first n block size : ℕ) (flag : Flag) (was : ℕ) → is.may.reflags.item ≡ Write first n block
    size flag was
    → ((bit : ℕ) → IsBitSet was bit → IsBitSet mask bit) → KeepsAlone d ino slot mask
