-- The tail moves: each image that a stop may leave reads as the log of before or as the log of after.
use Rattle.std.proofs.Common.{◌≡◌, ◌⊎◌, ℕ, ◌<◌, length, sym, subst}
use Rattle.std.specs.Prelude.{Result, Ok, Err, OnOk}
use Rattle.pm_device.specs.State.{State}
use Rattle.pm_device.specs.Reading.{Reads, DiffersAt}
use Rattle.pm_device.specs.Commit.{IsCommitted, IsDone}
use Rattle.pm_device.specs.Settled.{LeavesOnly, StoresOnly}
use Rattle.pm_device.proofs.Moments.{leaves_only-weaken}
use Rattle.inode_log.specs.Commits.{IsPreparedFor, OldOrNewLog, NewLogStands}
use Rattle.pm_device.proofs.OneWord.{reads_old_or_new, stands_new}
use Rattle.pm_layout.specs.declared.Geometry.{Geometry}
use Rattle.pm_layout.specs.Geometry.{inode_word}
use Rattle.dn_model.specs.Log.{Log, LogSays}
use Rattle.dn_model.specs.Growth.{Prepared}
use Rattle.dn_model.proofs.Append.{grown_differs}

-- in the words of the call
module _ (g : Geometry) (who ino tail at : ℕ) (place : at ≡ inode_word ino 2) (in_table : ino < g.inodes) (s t : State) where
  differs_here : (old new : Log) → IsPreparedFor g who ino tail old new s → DiffersAt (LogSays ino old) (LogSays ino new) (Prepared ino old new) at
      tail
  differs_here old new is = subst (λ (b : ℕ). DiffersAt (LogSays ino old) (LogSays ino new) (Prepared ino old new) b tail) (sym place)
      (subst (λ (v : ℕ). DiffersAt (LogSays ino old) (LogSays ino new) (Prepared ino old new) (inode_word ino 2) v) (sym is.moves_to)
      (grown_differs g ino old new is.grown is.paged is.paged' in_table))

  pub committed_log : LeavesOnly s t (IsCommitted who at tail s) → OldOrNewLog g who ino tail s t
  committed_log leaves old new is = leaves_only-weaken s t (IsCommitted who at tail s) (λ c. Reads (LogSays ino old) c ⊎ Reads (LogSays ino new) c)
      (λ c committed. reads_old_or_new (LogSays ino old) (LogSays ino new) (Prepared ino old new) who at tail s c (differs_here old new is) is.stands
      is.ready committed) leaves

  pub new_log_stands : at < length s.now → IsDone who at tail s t → StoresOnly (λ a. a ≡ at) s t → NewLogStands g who ino tail s t
  new_log_stands inside done only old new is =
      stands_new (LogSays ino old) (LogSays ino new) (Prepared ino old new) who at tail s t (differs_here old new is) is.stands is.ready inside done
      only

pub on_ok_map : {T E : Type 0} (r : Result T E) (P Q : Type 0) → (P → Q) → OnOk r P → OnOk r Q
on_ok_map (Ok x) P Q gives holds = gives holds
on_ok_map (Err e) P Q gives holds = tt
