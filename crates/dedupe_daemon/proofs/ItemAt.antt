-- An item of a live file's log, as the device has it, and the places that it maps.
use Rattle.std.proofs.Common.{◌≡◌, ℕ, ◌+◌, ◌-◌, ◌*◌, ◌/◌, ◌<◌, ◌≤◌, List, [], ◌∷◌, ◌++◌, length, refl, sym, ◌∙◌, ap, subst, arith}
use Rattle.std.specs.Prelude.{slice_index, Contains, Some}
use Rattle.std.proofs.lemmas.List.Elements.{All-contains}
use Rattle.pm_device.specs.State.{State}
use Rattle.pm_layout.specs.declared.Geometry.{Geometry}
use Rattle.pm_layout.specs.Geometry.{InData}
use Rattle.log_entry.specs.Spelling.{spelled, IsSpelled, flag_number}
use Rattle.log_entry.specs.declared.item.Flag.{Flag}
use Rattle.log_entry.specs.declared.item.LogItem.{LogItem}
use Rattle.log_entry.specs.declared.item.LogItem.TheVariants.{Write}
use Rattle.dn_model.specs.Log.{Log, Placed, placed, at_slot, slot_name, count, spelled_word}
use Rattle.dn_model.specs.Maps.{Mapping}
use Rattle.dn_model.specs.Disk.{Disk, Live, IsUsed, maps, DiskSays, of_logs}
use Rattle.dn_model.specs.Valid.{IsLog, IsValid}
use Rattle.dn_model.proofs.Append.{log_word_in_data}
use Rattle.inode_log.specs.Reflags.{Reflags}
use Rattle.law_log_swap.proofs.Relogged.{maps_before}
use Rattle.dn_volume.specs.Agrees.{StandsFast}
use Rattle.dedupe_daemon.proofs.Items.{
  StandsAt,
  stands_at,
  front_within,
  item_slot,
  same_item,
  item_word,
  write_words,
  mapped_by_item,
  in_middle,
  placed_middle,
}

-- a Write stands at a slot of a live inode's log
pub record HasWrite (d : Disk) (ino slot first n block size : ℕ) (flag : Flag) (mask : ℕ) : Type 0 where
  pub in_table : ino < d.geometry.inodes
  pub live : (d.inode ino).use_of ≡ Live
  pub item : Contains (placed (d.inode ino).log) (record { slot = slot; item = Write first n block size flag mask })

-- what a place that it maps tells
pub record IsOfItem (idx : ℕ) (m : Mapping) (first n : ℕ) (flag : Flag) (mask : ℕ) : Type 0 where
  pub low : first ≤ idx
  pub high : idx < first + n
  pub bit_is : m.bit ≡ idx - first
  pub flag_is : m.flag ≡ flag
  pub mask_is : m.mask ≡ mask

same_write : (first n block size : ℕ) (flag : Flag) (mask : ℕ) (first' n' block' size' : ℕ) (flag' : Flag) (mask' : ℕ)
    → Write first n block size flag mask ≡ Write first' n' block' size' flag' mask' → (first ≡ first') × (n ≡ n') × (flag ≡ flag') × (mask ≡ mask')
same_write first n block size flag mask first' n' block' size' flag' mask' e = (cc, cc, cc, cc)

module _ (d : Disk) (valid : IsValid d) (ino slot first n block size : ℕ) (flag : Flag) (mask : ℕ)
    (has : HasWrite d ino slot first n block size flag mask) where
  abbrev log : Log
  log = (d.inode ino).log

  abbrev here : Placed
  here = record { slot = slot; item = Write first n block size flag mask }

  used : IsUsed (d.inode ino).use_of
  used = subst IsUsed (sym has.live) tt

  pub good : IsLog d.geometry ino log
  good = valid.logs ino has.in_table used

  pub at : StandsAt log.pages 0 log.items here
  at = stands_at log.pages 0 log.items here has.item

  abbrev pub slots_before : ℕ
  slots_before = length (spelled at.front)

  abbrev k : ℕ
  k = slots_before

  pub within : k < count log
  within = front_within log here at

  pub slot_at : slot ≡ slot_name log.pages k
  slot_at = item_slot log here at

  pub item_spelled : IsSpelled (Write first n block size flag mask)
  item_spelled = All-contains IsSpelled log.items (Write first n block size flag mask) good.spelled
      (subst (λ (xs : List LogItem). Contains xs (Write first n block size flag mask)) (sym at.items_are) middle)
    where
      middle : Contains (at.front ++ Write first n block size flag mask ∷ at.rest) (Write first n block size flag mask)
      middle = in_middle at.front (Write first n block size flag mask) at.rest

  pub slot_in_data : InData d.geometry (slot / 64)
  slot_in_data = subst (InData d.geometry) (sym (omega (arith, slot_at))) (log_word_in_data d.geometry log k good.paged within)

  -- another item in its place
  abbrev pub changed : (LogItem → LogItem) → Log
  changed change = record { pages = log.pages; items = at.front ++ change (Write first n block size flag mask) ∷ at.rest }

  abbrev pub reflags : (change : LogItem → LogItem) → Reflags change slot log (changed change)
  reflags change = record {
    front = at.front;
    item = Write first n block size flag mask;
    rest = at.rest;
    is_write = tt;
    slot_is = slot_at;
    pages = refl;
    items = at.items_are;
    items' = refl;
  }

  -- which stands there then
  pub placed_change : (change : LogItem → LogItem) → Contains (placed (changed change))
      (record { slot = slot; item = change (Write first n block size flag mask) })
  placed_change change = subst (λ (x : ℕ). Contains (placed (changed change))
      (record { slot = x; item = change (Write first n block size flag mask) })) (sym slot_at)
      (placed_middle log.pages at.front (change (Write first n block size flag mask)) at.rest)

  pub places_of : (idx : ℕ) (m : Mapping) → maps d ino idx ≡ Some m → m.slot ≡ slot → IsOfItem idx m first n flag mask
  places_of idx m mapped by =
      let is = mapped_by_item log idx m (sym (maps_before d ino log has.live idx) ∙ mapped) in
      let same = same_write is.first is.count is.block is.size m.flag m.mask first n block size flag mask
      (same_item d.geometry log good.paged (record { slot = m.slot; item = Write is.first is.count is.block is.size m.flag m.mask }) here is.listed
      has.item by) in
      record {
        low = omega (arith, is.low, same.0);
        high = omega (arith, is.high, same.0, same.1);
        bit_is = is.bit_is ∙ ap (λ (f : ℕ). idx - f) same.0;
        flag_is = same.2;
        mask_is = same.3;
      }

  module _ (g : Geometry) (s : State) (fast : StandsFast d g s) where
    told : (j : ℕ) → j < 8 → DiskSays d (8 * slot + j) (spelled_word log k j)
    told j small = of_logs (record {
      ino = ino;
      in_table = has.in_table;
      used = used;
      says = at_slot k j within small (omega (arith, slot_at)) refl;
    })

    pub slot_inside : 8 * slot + 8 ≤ length s.now
    slot_inside = let last = fast.stands.within (8 * slot + 7) (spelled_word log k 7) (told 7 (omega arith)) in omega (arith, last)

    pub word_is : (j : ℕ) → j < 8 → slice_index s.now (8 * slot + j)
        ≡ slice_index (1 ∷ first ∷ n ∷ block ∷ size ∷ flag_number flag ∷ mask ∷ 0 ∷ []) j
    word_is j small = fast.stands.reads (8 * slot + j) (spelled_word log k j) (told j small) ∙ item_word log here at
        (1 ∷ first ∷ n ∷ block ∷ size ∷ flag_number flag ∷ mask ∷ 0 ∷ []) (write_words first n block size flag mask) j

-- a mapped place is of such an item
pub write_of : (d : Disk) (ino idx : ℕ) (m : Mapping) → ino < d.geometry.inodes → (d.inode ino).use_of ≡ Live → maps d ino idx ≡ Some m
    → (first : ℕ) × (n : ℕ) × (block : ℕ) × (size : ℕ) × HasWrite d ino m.slot first n block size m.flag m.mask
write_of d ino idx m in_table live mapped =
    let is = mapped_by_item (d.inode ino).log idx m (sym (maps_before d ino (d.inode ino).log live idx) ∙ mapped) in
    (is.first, is.count, is.block, is.size, record { in_table = in_table; live = live; item = is.listed })
