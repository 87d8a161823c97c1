-- A cleaning is planned on pages that were free.
use Rattle.std.proofs.Common.{◌≡◌, ⊎_elim, ℕ, ◌*◌, ◌<◌, ◌≤◌, true, false, List, length, get_or, sym, ◌∙◌, ap, subst, arith}
use Rattle.std.specs.Prelude.{slice_get, Some, All}
use Rattle.std.proofs.lemmas.Option.{slice_get_cases}
use Rattle.std.proofs.lemmas.List.Elements.{All-contains, Contains-get_or}
use Rattle.pm_device.specs.State.{State}
use Rattle.log_entry.specs.Spelling.{spelled}
use Rattle.log_entry.specs.declared.item.LogItem.{LogItem}
use Rattle.page_alloc.specs.Free.{FreePages, IsInOrder}
use Rattle.file_write.specs.Take.{TakesFirst}
use Rattle.dn_model.specs.Disk.{Disk}
use Rattle.law_clean.specs.Cleaned.{cleaned_items, cleaned_slots, pages_for}
use Rattle.dn_volume.specs.declared.background.Cleaning.{Cleaning}
use Rattle.dn_volume.specs.declared.volume.InodeState.{InodeState}
use Rattle.dn_volume.specs.declared.volume.Volume.{Volume}
use Rattle.dn_volume.specs.Agrees.{Agrees, IsVolume}
use Rattle.dn_volume.specs.Cleans.{may_clean, new_log}
use Rattle.log_clean.specs.declared.plan.Remains.{Remains}
use Rattle.log_clean.specs.Planning.{AreRemains}
use Rattle.log_clean.specs.Beginning.{IsPlanOf, IsPlannedFor, Plans}
use Rattle.log_clean.proofs.Remaining.{volume_of}
use Rattle.log_clean.proofs.Worthy.{pages_there, pages_few}
use Rattle.log_clean.proofs.Taken.{page_free}

-- pages that were free are small
pub pages_small : (old new : FreePages) (pages : List ℕ) → TakesFirst old new pages → IsInOrder old → old.pages ≤ 65536
    → All (λ (p : ℕ). p < 65536) pages
pages_small old new pages takes in_order most k e lt =
    let below = All-contains (λ (p : ℕ). p < old.pages) old.free (get_or pages k e) in_order.below
    (page_free old new pages takes in_order (get_or pages k e) (Contains-get_or pages k e lt)) in
    omega (arith, below, most)

pub slots_fit : (n : ℕ) → n ≤ 63 * pages_for n
slots_fit n = omega arith

module _ {D F : Type 0} (state : D → State) (v : Volume D F) (ino : ℕ) (inside : ino < length v.parts.inodes.items)
    (may : may_clean v.parts ino ≡ true) (r : Remains) (are : (d : Disk) → IsVolume d v.parts (state v.device) → AreRemains d ino r)
    (agrees : Agrees state v) (running : v.parts.stopped ≡ false) where
  pub disk : Disk
  disk = (volume_of state v agrees running).0

  pub volume : IsVolume disk v.parts (state v.device)
  unfolding disk
  volume = (volume_of state v agrees running).1

  found : (n : InodeState) × (slice_get v.parts.inodes.items ino ≡ Some n)
  found = ⊎_elim (λ there. (there.0, there.2)) (λ past. absurd (omega (arith, inside, past.0))) (slice_get_cases v.parts.inodes.items ino).1

  slots_long : length r.slots.items ≡ cleaned_slots ino (disk.inode ino).log
  slots_long = let so = are disk volume in sym (ap length so.slots) ∙ ap (λ (xs : List LogItem). length (spelled xs)) so.items

  -- the pages are there, and one more
  pub there : pages_for (length r.slots.items) < length v.parts.free.free
  there = subst (λ (k : ℕ). pages_for k < length v.parts.free.free) (sym slots_long)
      (pages_there disk v.parts (state v.device) volume ino found.0 found.1 may)

  pub few : pages_for (length r.slots.items) ≤ 65536
  few = subst (λ (k : ℕ). pages_for k ≤ 65536) (sym slots_long)
      (pages_few disk v.parts (state v.device) volume ino found.0 found.1 may)

  pub in_order : IsInOrder v.parts.free
  in_order = volume.space.in_order

  pub all_few : v.parts.free.pages ≤ 65536
  all_few = let same = volume.space.pages in let most = volume.fast.valid.accepted.few_pages in omega (arith, same, most)

  -- the slots of the items fill the pages at most
  pub fits : (pages : List ℕ) → length pages ≡ pages_for (length r.slots.items) → length (spelled r.items.items) ≤ 63 * length pages
  fits pages as_many =
      let same = ap length (are disk volume).slots in
      let most = slots_fit (length r.slots.items) in
      omega (arith, same, most, as_many)

  -- so it is planned
  pub plan_made : (w : Volume D F) (pages : List ℕ) (c : Cleaning) → w.device ≡ v.device → w.parts ≡ record v.parts { free = w.parts.free }
      → TakesFirst v.parts.free w.parts.free pages → length pages ≡ pages_for (length r.slots.items) → IsPlanOf ino pages r c
      → Plans state v w ino c
  plan_made w pages c device parts takes as_many plan = record {
    device = device;
    parts = parts;
    takes = subst (TakesFirst v.parts.free w.parts.free) (sym plan.pages_are) takes;
    ino_is = plan.ino_is;
    as_many = ap length plan.pages_are ∙ as_many ∙ ap (λ xs. pages_for (length xs)) (sym plan.slots_are);
    few = let same = ap length plan.pages_are in let most = few in omega (arith, same, most, as_many);
    none_written = plan.none_written;
    planned = λ d is. planned d is;
  }
    where
      planned : (d : Disk) → IsVolume d v.parts (state v.device) → IsPlannedFor d c
      planned d is =
          let so = are d is in
          let items : (new_log d c).items ≡ r.items.items = ap (λ (i : ℕ). cleaned_items i (d.inode i).log) plan.ino_is ∙ sym so.items in
          let laid = plan.laid (new_log d c) plan.pages_are items in
          record {
            slots = ap (λ (xs : List LogItem). spelled xs) items ∙ so.slots ∙ sym plan.slots_are;
            places = laid.places;
            due = laid.due;
          }
