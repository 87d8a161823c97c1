-- What is kept of a file's inode.
use Rattle.std.proofs.Common.{◌≡◌, ◌∙◌, ℕ, ◌≤◌, length}
use Rattle.std.specs.Prelude.{get_or}
use Rattle.pm_device.specs.State.{State}
use Rattle.dn_model.specs.Disk.{Disk}
use Rattle.dn_model.specs.Files.{bytes}
use Rattle.dn_volume.specs.declared.volume.InodeState.{InodeState}
use Rattle.dn_volume.specs.declared.volume.Parts.{Parts}
use Rattle.dn_volume.specs.Agrees.{IsVolume}
use Rattle.law_write.proofs.WriteBytes.{length-bytes}
use Rattle.data_begins.specs.Asked.{IsLiveFile}
use Rattle.data_begins.proofs.LiveFiles.{node_at, file_is}

module _ (d : Disk) (b : Parts) (s : State) (v : IsVolume d b s) (ino : ℕ) (file : IsLiveFile d ino) (n : InodeState) (at : n ≡ get_or b.inodes.items ino
    n) where
  pub size_is : length (bytes d ino) ≡ n.size
  size_is = length-bytes d ino ∙ (file_is d b s v ino file n (node_at d b s v ino file n at)).size_is

  pub size_small : n.size ≤ 16777216
  size_small = (file_is d b s v ino file n (node_at d b s v ino file n at)).small
