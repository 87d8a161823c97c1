-- What a cleaning takes, by what is kept of its inode.
use Rattle.std.proofs.Common.{◌≡◌, ℕ, zero, suc, ◌<◌, ◌≤◌, true, length, ◌∙◌, ap, arith}
use Rattle.std.specs.Prelude.{slice_get, Some}
use Rattle.pm_device.specs.State.{State}
use Rattle.file_index.specs.Runs.{runs_of}
use Rattle.page_alloc.proofs.FreeLaws.{length-free_le}
use Rattle.dn_model.specs.Disk.{Disk}
use Rattle.dn_model.specs.Files.{named}
use Rattle.law_clean.specs.Cleaned.{cleaned_slots, pages_for, IsWorthCleaning}
use Rattle.law_clean_count.specs.CountLaws.{or_size_slots, KeepsNames}
use Rattle.law_clean_count.proofs.NameCounts.{root_takes_adds}
use Rattle.law_clean_count.proofs.WriteCounts.{file_takes_runs}
use Rattle.dn_volume.specs.declared.volume.InodeState.{InodeState}
use Rattle.dn_volume.specs.declared.volume.Parts.{Parts}
use Rattle.dn_volume.specs.Agrees.{IsVolume}
use Rattle.dn_volume.specs.Cleans.{live_slots, may_clean}
use Rattle.log_clean.proofs.Remaining.{can, used, good, is_kept, size_same, kept_same}

module _ (d : Disk) (b : Parts) (s : State) (v : IsVolume d b s) where
  names_kept : KeepsNames (d.inode 0).log b.names.map
  unfolding named
  names_kept name = v.names.leads name

  -- the slots of the new log are told by what is kept
  pub slots_told : (ino : ℕ) (n : InodeState) → slice_get b.inodes.items ino ≡ Some n → may_clean b ino ≡ true
      → cleaned_slots ino (d.inode ino).log ≡ live_slots b ino n
  slots_told zero n at may = root_takes_adds (d.inode 0).log b.names.map names_kept
  slots_told (suc k) n at may =
      file_takes_runs d.geometry (suc k) (d.inode (suc k)).log n.map.map (omega arith) (good d b s v (suc k) n at may)
      (kept_same d b s v (suc k) n at may)
      ∙ ap (λ (size : ℕ). or_size_slots size (runs_of n.map.map)) (size_same d b s v (suc k) n at may)

  module _ (ino : ℕ) (n : InodeState) (at : slice_get b.inodes.items ino ≡ Some n) (may : may_clean b ino ≡ true) where
    -- it is worth it
    pub worthy : IsWorthCleaning ino (d.inode ino).log
    worthy =
        let is = can d b s v ino n at may in
        let long = (is_kept d b s v ino n at may).log_pages (used d b s v ino n at may) in
        let told = ap pages_for (slots_told ino n at may) in
        let two = is.two in
        let half = is.half in
        record { two = omega (arith, two, long); half = omega (arith, half, long, told) }

    -- its pages are there, and one more
    pub pages_there : pages_for (cleaned_slots ino (d.inode ino).log) < length b.free.free
    pages_there =
        let told = ap pages_for (slots_told ino n at may) in
        let fits = (can d b s v ino n at may).fits in
        omega (arith, fits, told)

    pub pages_few : pages_for (cleaned_slots ino (d.inode ino).log) ≤ 65536
    pages_few =
        let lt = pages_there in
        let few = length-free_le b.free v.space.in_order in
        let all = v.space.pages in
        let most = v.fast.valid.accepted.few_pages in
        omega (arith, lt, few, all, most)
