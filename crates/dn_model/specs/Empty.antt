-- A file system without files, and what a device is while one is made, and after.
use Rattle.std.specs.Prelude.{◌≡◌, ◌⊎◌, ℕ, zero, suc, List, [], slice_index, None}
use Rattle.pm_device.specs.State.{State}
use Rattle.pm_device.specs.Settled.{Still}
use Rattle.pm_device.specs.Reading.{Said}
use Rattle.pm_layout.specs.declared.Geometry.{Geometry}
use Rattle.pm_layout.specs.Geometry.{gate_word}
use Rattle.dn_model.specs.Log.{no_log}
use Rattle.dn_model.specs.Disk.{Disk, DiskSays, Inode, Free, Live}
use Rattle.dn_model.specs.Files.{files}
use Rattle.dn_model.specs.Image.{StandsFor}
use Rattle.dn_model.specs.Own.{Print, Own}
use Rattle.dn_model.specs.Faults.{FaultOf}
use Rattle.dn_model.specs.declared.fault.ImageFault.TheVariants.{NotAnImage}

-- the root, whose log is empty, and free inodes
abbrev pub empty_inode : ℕ → Inode
empty_inode zero = record { use_of = Live; log = no_log }
empty_inode (suc k) = record { use_of = Free; log = no_log }

-- no page has a row, no pointer leads anywhere, and no page is mapped
abbrev pub empty_disk : Geometry → Disk
empty_disk g = record {
  geometry = g;
  inode = empty_inode;
  chain = λ p. [];
  pointer = λ page. 0;
  word = λ page k. 0;
}

-- An image that a stop leaves while words w are formatted: they are as they were, or the image
-- isn't one yet, or it
-- is one without files.
abbrev pub IsFormatting : Geometry → List ℕ → List ℕ → Type 0
IsFormatting g w c = (c ≡ w) ⊎ FaultOf c NotAnImage ⊎ StandsFor c (empty_disk g)

-- Words w were formatted.
pub record IsFormatted (g : Geometry) (w : List ℕ) (s : State) : Type 0 where
  pub stands_for : StandsFor s.now (empty_disk g)
  pub closed : slice_index s.now gate_word ≡ 0
  pub still : Still s
  pub own : (print : Print) → Own s.now print
  pub no_files : (name : List ℕ) → files (empty_disk g) name ≡ None
  pub unread : (a : ℕ) → (Said (DiskSays (empty_disk g)) a → ⊥) → slice_index s.now a ≡ slice_index
      w a
