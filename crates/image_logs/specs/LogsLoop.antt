-- How far the logs of an image are read.
use Rattle.std.specs.Prelude.{◌≡◌, ℕ, ◌*◌, ◌<◌, ◌≤◌, List, length, slice_index}
use Rattle.std.specs.FinMap.{get}
use Rattle.pm_layout.specs.declared.Geometry.{Geometry}
use Rattle.dn_model.specs.LogFault.{LogFault}
use Rattle.dn_model.specs.Disk.{Disk, maps}
use Rattle.dn_model.specs.Counts.{total, hit}
use Rattle.dn_model.specs.Files.{named}
use Rattle.image_logs.specs.declared.logs.LogsRead.{LogsRead}
use Rattle.dn_model.specs.Numbers.{file_hit, dying_hit}
use Rattle.image_logs.specs.Logs.{IsInUse, IsSaid, log_hit}

-- what the first k inodes of this state say
pub record IsCountedOf (d : Disk) (k : ℕ) (read : LogsRead) : Type 0 where
  pub in_logs : (p : ℕ) → p < d.geometry.pages → slice_index read.in_logs.items p ≡ total k
      (λ ino. log_hit p (d.inode ino).use_of (d.inode ino).log)
  pub mapped : (p : ℕ) → p < d.geometry.pages → slice_index read.mapped.items p ≡ total k
      (λ ino. total 4096 (λ idx. hit p (maps d ino idx)))
  pub files : read.files ≡ total k (λ ino. file_hit ino (d.inode ino).use_of)
  pub dying : read.dying ≡ total k (λ ino. dying_hit (d.inode ino).use_of)
  pub names : 1 ≤ k → (name : List ℕ) → get read.names.map name ≡ named d name

-- the logs of the first k inodes are read
pub record IsCountedTo (g : Geometry) (c : List ℕ) (k : ℕ) (read : LogsRead) : Type 0 where
  pub long_logs : length read.in_logs.items ≡ g.pages
  pub long_mapped : length read.mapped.items ≡ g.pages
  pub few_logs : (p : ℕ) → p < g.pages → slice_index read.in_logs.items p ≤ 65536 * k
  pub few_mapped : (p : ℕ) → p < g.pages → slice_index read.mapped.items p ≤ 4096 * k
  pub few_files : read.files ≤ k
  pub few_dying : read.dying ≤ k
  pub faultless : (i place : ℕ) → i < k → IsInUse c i → LogFault g c i place → ⊥
  pub counted : (d : Disk) → IsSaid g c d → IsCountedOf d k read
