-- How many events reclaim has left: a number that a word holds.
use Rattle.std.proofs.Common.{◌≡◌, ℕ, zero, suc, ◌+◌, ◌*◌, ◌^◌, ◌<◌, ◌≤◌, Bool, true, false, ap, arith}
use Rattle.std.specs.Prelude.{Option, Some, None, if◌then◌else◌, is_some}
use Rattle.pm_device.specs.State.{State}
use Rattle.dn_model.specs.Disk.{Disk, Use, Free, Live, Dying, maps}
use Rattle.dn_model.specs.Counts.{total}
use Rattle.dn_volume.specs.declared.background.Cleaning.{Cleaning}
use Rattle.dn_volume.specs.declared.volume.Parts.{Parts}
use Rattle.dn_volume.specs.declared.volume.Volume.{Volume}
use Rattle.dn_volume.specs.Reclaims.{mapped_places, units_by_use, dying_units}
use Rattle.dn_volume.specs.Agrees.{IsVolume, Agrees}
use Rattle.dn_volume.specs.Works.{cleaning_events}
use Rattle.dn_volume.proofs.Tables.{running_disk}

total_few : (f : ℕ → ℕ) (n : ℕ) → ((j : ℕ) → f j ≤ 16385) → total n f ≤ 16385 * n
unfolding total
total_few f zero few = omega arith
total_few f (suc n) few = omega (arith, total_few f n few, few n)

total_ones : (f : ℕ → ℕ) (n : ℕ) → ((j : ℕ) → f j ≤ 1) → total n f ≤ n
unfolding total
total_ones f zero few = omega arith
total_ones f (suc n) few = omega (arith, total_ones f n few, few n)

one : (t : Bool) → (if t then 1 else 0) ≤ 1
one true = omega arith
one false = omega arith

places_few : (d : Disk) (ino : ℕ) → mapped_places d ino ≤ 4096
unfolding mapped_places
places_few d ino = total_ones (λ idx. if is_some (maps d ino idx) then 1 else 0) 4096 (λ idx. one (is_some (maps d ino idx)))

units_few : (u : Use) (k : ℕ) → k ≤ 4096 → units_by_use u k ≤ 16385
units_few Free k le = omega arith
units_few Live k le = omega arith
units_few (Dying cut) k le = omega (arith, le)

waiting_few : (d : Disk) (b : Parts) (s : State) → IsVolume d b s → b.reclaiming.waiting ≤ 69324801
waiting_few d b s v =
    let units = total_few (dying_units d) d.geometry.inodes (λ i. units_few (d.inode i).use_of (mapped_places d i) (places_few d i)) in
    let check = one (is_some b.reclaiming.zero_check) in
    bound _ _ _ _ _ _ _ v.reclaiming.waiting check units v.fast.valid.accepted.few_inodes v.counts.few
  where
    bound : (w up zc rel units inodes sum : ℕ) → w + up ≡ zc + 2 * rel + units → zc ≤ 1 → units ≤ 16385 * inodes → inodes ≤ 4096
        → rel + sum + up ≤ 1105920 → w ≤ 69324801
    bound w up zc rel units inodes sum is zc_few units_few inodes_few few = omega (arith, is, zc_few, units_few, inodes_few, few)

-- a vector is shorter than 2 ^ 63
events_few : (c : Option Cleaning) → cleaning_events c ≤ 2 ^ 63
events_few None = omega arith
events_few (Some c) = omega (arith, c.pages.ok.0, c.pages.ok.1, c.pages.small)

pub left_fits : (d : Disk) (b : Parts) (s : State) → IsVolume d b s → b.reclaiming.waiting + cleaning_events b.reclaiming.cleaning < 2 ^ 64
left_fits d b s v = omega (arith, waiting_few d b s v, events_few b.reclaiming.cleaning)

-- and after an event of reclaim that leaves no more
module _ {D F : Type 0} (state : D → State) (w : Volume D F) where
  pub left_falls : Agrees state w → w.parts.stopped ≡ false → (b' : Parts) → b'.reclaiming.waiting ≤ w.parts.reclaiming.waiting
      → b'.reclaiming.cleaning ≡ w.parts.reclaiming.cleaning → b'.reclaiming.waiting + cleaning_events b'.reclaiming.cleaning < 2 ^ 64
  left_falls agrees running b' less cleaning =
      let found = running_disk state w running agrees in
      let fits = left_fits found.0 w.parts (state w.device) found.1 in
      let same : cleaning_events b'.reclaiming.cleaning ≡ cleaning_events w.parts.reclaiming.cleaning = ap (λ (c : Option Cleaning). cleaning_events c)
      cleaning in
      omega (arith, fits, less, same)
