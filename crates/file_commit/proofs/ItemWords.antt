-- What others had flushed outside the words of items stays flushed.
use Rattle.std.proofs.Common.{◌≡◌, inl, inr, ℕ}
use Rattle.pm_device.specs.State.{State}
use Rattle.pm_device.specs.Settled.{KeepsFlushed, Anyone, Others}
use Rattle.pm_device.specs.Reading.{Said}
use Rattle.pm_device.proofs.Flushed.{keeps-then, keeps-weaken}
use Rattle.pm_layout.specs.Geometry.{inode_word}
use Rattle.dn_model.specs.Growth.{Prepared}
use Rattle.dn_model.specs.Disk.{Disk}
use Rattle.inode_log.specs.Prepare.{IsPreparedBy}
use Rattle.file_commit.specs.Append.{IsItemWord}

-- the items are prepared, and then the tail moves
pub items_kept : (who ino : ℕ) (old new : Disk) (s p t : State) → IsPreparedBy who ino (old.inode ino).log (new.inode ino).log s p
    → KeepsFlushed (Others who) (λ a. a ≡ inode_word ino 2) p t → KeepsFlushed (Others who) (IsItemWord ino old new) s t
items_kept who ino old new s p t prepared moved =
    let P = Said (Prepared ino (old.inode ino).log (new.inode ino).log) in let W = IsItemWord ino old new in let Q = Others who in
    keeps-then Q W s p t (keeps-weaken Anyone Q P W s p (λ q other. tt) (λ a said. inl said) prepared.keeps)
    (keeps-weaken Q Q (λ a. a ≡ inode_word ino 2) W p t (λ q other. other) (λ a here. inr here) moved)
