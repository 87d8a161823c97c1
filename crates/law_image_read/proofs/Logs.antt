-- The logs of used inodes are read, or the first that can't be has a fault.
use Rattle.std.proofs.Common.{◌⊎◌, inl, inr, ℕ, ◌<◌, List}
use Rattle.pm_device.specs.Reading.{Reads}
use Rattle.pm_layout.specs.declared.Geometry.{Geometry}
use Rattle.dn_model.specs.Rolled.{rolled}
use Rattle.dn_model.specs.LogFault.{LogFault}
use Rattle.dn_model.specs.Log.{Log, LogSays}
use Rattle.dn_model.specs.Disk.{Disk, Use, Free, Live, Dying, IsUsed, LogsSay}
use Rattle.dn_model.specs.Valid.{IsLog}
use Rattle.dn_model.specs.Faults.{HasInodes, HasLogs, bad_log}
use Rattle.dn_model.specs.declared.fault.ImageFault.TheVariants.{BadLog}
use Rattle.log_walk.proofs.OneEnd.{log_or_fault}
use Rattle.law_log_read.proofs.Decided.{Decided, both_decided}
use Rattle.law_log_read.proofs.LogRead.{log_read}
use Rattle.law_image_read.proofs.Least.{least_below}
use Rattle.law_image_read.proofs.Head.{HasFault}
use Rattle.law_image_read.proofs.Inodes.{read_disk, Judged, log_of}

used_decided : (u : Use) → Decided (IsUsed u)
used_decided Free = inr (λ none. none)
used_decided Live = inl tt
used_decided (Dying cut) = inl tt

module _ (g : Geometry) (r : List ℕ) (ino : ℕ) where
  abbrev Faulty : Type 0
  Faulty = (place : ℕ) × LogFault g r ino place

  abbrev MayBeRead : Log → Type 0
  MayBeRead log = Reads (LogSays ino log) r × IsLog g ino log

  fault_decided : Decided Faulty
  fault_decided = elim (log_read g r ino) [
    | inl fault ↦ inl fault
    | inr read ↦ inr (λ fault. log_or_fault g r ino fault.0 read.0 (record { reads = read.1; valid = read.2 }) fault.1)
  ]

  read_of : (either : Judged g r ino) → (Faulty → ⊥) → MayBeRead (log_of g r ino either)
  read_of (inl fault) never = absurd (never fault)
  read_of (inr read) never = (read.1, read.2)

module _ (c : List ℕ) where
  abbrev r : List ℕ
  r = rolled c

  abbrev d : Disk
  d = read_disk c

  abbrev IsBadLog : ℕ → Type 0
  IsBadLog i = IsUsed (d.inode i).use_of × ((n : ℕ) × LogFault d.geometry r i n)

  bad_log_decided : (i : ℕ) → Decided (IsBadLog i)
  bad_log_decided i = both_decided (IsUsed (d.inode i).use_of) ((n : ℕ) × LogFault d.geometry r i n) (used_decided (d.inode i).use_of)
      (fault_decided d.geometry r i)

  module _ (inodes : HasInodes c d) (none : (ino : ℕ) → ino < d.geometry.inodes → IsBadLog ino → ⊥) where
    log_is : (ino : ℕ) → ino < d.geometry.inodes → IsUsed (d.inode ino).use_of → MayBeRead d.geometry r ino (d.inode ino).log
    unfolding read_disk
    log_is ino lt used = read_of d.geometry r ino (log_read d.geometry r ino) (λ fault. none ino lt (used, fault))

    logs_say : Reads (LogsSay d) r
    logs_say a v says = (log_is says.ino says.in_table says.used).0 a v says.says

    has_logs : HasLogs c d
    has_logs = record { inodes = inodes; reads = logs_say; logs = λ ino lt used. (log_is ino lt used).1 }

  pub logs_read : HasInodes c d → HasFault c ⊎ HasLogs c d
  logs_read inodes = elim (least_below IsBadLog bad_log_decided d.geometry.inodes) [
    | inl none ↦ inr (has_logs inodes none)
    | inr first ↦ let bad = first.1.has in inl (BadLog first.0 bad.1.0, bad_log d first.0 bad.1.0 inodes bad.0 bad.1.1 first.1)
  ]
