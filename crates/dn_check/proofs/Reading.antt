-- An image whose inodes and logs have no fault is read up to its logs, and to its links, if it has no fault of these.
use Rattle.std.proofs.Common.{◌≡◌, ⊎_elim, ℕ, ◌<◌, ◌≤◌, List, refl, subst, arith}
use Rattle.std.specs.Prelude.{slice_index}
use Rattle.pm_layout.specs.declared.Geometry.{Geometry}
use Rattle.pm_layout.specs.Geometry.{inode_word}
use Rattle.dn_model.specs.Rolled.{rolled}
use Rattle.dn_model.specs.LogFault.{LogFault}
use Rattle.dn_model.specs.Disk.{Disk, Use, Free, Live, Dying, at_state, IsUsed, state_number}
use Rattle.dn_model.specs.Valid.{IsLinked}
use Rattle.dn_model.specs.Faults.{
  IsLeast,
  HasGate,
  IsBadInode,
  HasInodes,
  HasLogs,
  geometry_of,
  FaultOf,
  not_an_image,
  wrong_version,
  bad_geometry,
  bad_journal,
  bad_inode,
  bad_log,
  bad_link,
  bad_table,
  bad_pointer,
  double_mapped,
  bad_count,
  crowded,
}
use Rattle.dn_model.specs.declared.fault.ImageFault.{ImageFault}
use Rattle.dn_model.specs.declared.fault.ImageFault.TheVariants.{BadInode, BadLink}
use Rattle.law_image_read.proofs.ImageRead.{read_to_links}
use Rattle.law_image_read.proofs.Inodes.{read_disk, has_inodes}
use Rattle.image_logs.specs.declared.logs.LogsFault.{LogsFault}
use Rattle.image_logs.specs.declared.logs.LogsFault.TheVariants.{BadLog as BadLogRead, NoMemory as NoMemoryForLogs}
use Rattle.image_logs.specs.declared.logs.LogsRead.{LogsRead}
use Rattle.image_logs.specs.Logs.{IsInUse, IsSaid, IsFaultOfEach, AreRead}
use Rattle.image_uses.specs.Links.{IsNamed}
use Rattle.dn_check.specs.Halting.{halt_of_logs}
use Rattle.dn_check.specs.Passing.{IsRolled, HasGoodInodes, IsHalt, AreLinked}

-- what is said of a rolled image is said of its geometry and its words
pub along : (c : List ℕ) (g : Geometry) (r : List ℕ) → IsRolled c g r → (P : Geometry → List ℕ → Type 0) → P g r → P (geometry_of c) (rolled c)
along c g r is P p = subst (P (geometry_of c)) is.words (subst (λ (h : Geometry). P h r) is.geometry p)

-- a used inode's state isn't 0
used_state : (of : Use) (n : ℕ) → n ≡ state_number of → IsUsed of → n ≡ 0 → ⊥
used_state Free n e used = absurd used
used_state Live n e used = λ none. omega (arith, e, none)
used_state (Dying cut) n e used = λ none. omega (arith, e, none)

module _ (c : List ℕ) (gate : HasGate c) (inodes : (ino : ℕ) → ino < slice_index c 3 → IsBadInode (rolled c) ino → ⊥) where
  pub inodes_are : HasInodes c (read_disk c)
  inodes_are = has_inodes c gate inodes

  module _ (faultless : (ino place : ℕ) → ino < slice_index c 3 → IsInUse (rolled c) ino → LogFault (geometry_of c) (rolled c) ino place → ⊥) where
    no_fault : (d : Disk) (ino place : ℕ) → HasInodes c d → ino < d.geometry.inodes → IsUsed (d.inode ino).use_of → LogFault d.geometry (rolled c) ino
        place → ⊥
    no_fault d ino place has lt used fault =
        faultless ino place (subst (λ (g : Geometry). ino < g.inodes) has.geometry lt)
        (used_state (d.inode ino).use_of (slice_index (rolled c) (inode_word ino 0)) (has.reads (inode_word ino 0) (state_number (d.inode ino).use_of)
        (at_state ino lt refl refl)) used)
        (subst (λ (g : Geometry). LogFault g (rolled c) ino place) has.geometry fault)

    by_fault : (f : ImageFault) → FaultOf c f → (d : Disk) × HasLogs c d
    by_fault f (not_an_image not) = absurd (not gate.geometry.image)
    by_fault f (wrong_version image other) = absurd (other gate.geometry.version)
    by_fault f (bad_geometry image version not) = absurd (not gate.geometry.accepted gate.geometry.size)
    by_fault f (bad_journal has not) = absurd (not gate.gate)
    by_fault f (bad_inode ino has least) = absurd (inodes ino least.below least.has)
    by_fault f (bad_log d ino place has used fault least) = absurd (no_fault d ino place has least.below used fault)
    by_fault f (bad_link d ino logs least) = (d, logs)
    by_fault f (bad_table d slot links fault) = (d, links.logs)
    by_fault f (bad_pointer d page table reads least) = (d, table.links.logs)
    by_fault f (double_mapped d page pointers least) = (d, pointers.table.links.logs)
    by_fault f (bad_count d front rest row pointers none split near far) = (d, pointers.table.links.logs)
    by_fault f (crowded d free pointers none near has few) = (d, pointers.table.links.logs)

    pub logs_are : (d : Disk) × HasLogs c d
    logs_are = ⊎_elim (λ fault. by_fault fault.0 fault.1) (λ read. (read.0, read.1.logs)) (read_to_links c)

-- a state with logs is said by the words
pub said : (c : List ℕ) (d : Disk) → HasLogs c d → IsSaid (geometry_of c) (rolled c) d
said c d has = record { geometry = has.inodes.geometry; inodes = has.inodes.reads; root = has.inodes.root; logs = has.reads; valid = has.logs }

module _ (g : Geometry) (r : List ℕ) (good : HasGoodInodes g r) where
  good_in : (c : List ℕ) → IsRolled c g r → HasGoodInodes (geometry_of c) (rolled c)
  good_in c is = along c g r is HasGoodInodes good

  -- the first bad log is the image's fault
  pub logs_halt : (fault : LogsFault) → IsFaultOfEach g r fault → IsHalt g r (halt_of_logs fault)
  logs_halt (BadLogRead ino place) each = λ c is.
      let has = inodes_are c is.gate (good_in c is) in
      let bad = along c g r is (λ h words. IsFaultOfEach h words (BadLogRead ino place)) each (read_disk c) has.geometry has.reads in
      bad_log (read_disk c) ino place has bad.used bad.fault bad.least
  logs_halt NoMemoryForLogs each = tt

  module _ (logs : LogsRead) (read : AreRead g r logs) where
    has_logs : (c : List ℕ) → IsRolled c g r → (d : Disk) × HasLogs c d
    has_logs c is = logs_are c is.gate (good_in c is) (along c g r is (λ h words. (ino place : ℕ) → ino < h.inodes → IsInUse words ino
        → LogFault h words ino place → ⊥) read.faultless)

    named_in : (c : List ℕ) (is : IsRolled c g r) (d : Disk) → HasLogs c d → IsNamed (geometry_of c) (rolled c) logs.names.map d
    named_in c is d has = record {
      geometry = has.inodes.geometry;
      inodes = has.inodes.reads;
      are = ((along c g r is (λ h words. AreRead h words logs) read).counted d (said c d has)).names;
    }

    -- the first bad link is the image's fault, or there is none
    abbrev pub IsBadLink : ℕ → Geometry → List ℕ → Type 0
    IsBadLink ino h words = (d : Disk) → IsNamed h words logs.names.map d
        → IsLeast d.geometry.inodes (λ i. (1 ≤ i) × (IsLinked d i (d.inode i).use_of → ⊥)) ino

    abbrev pub AreWellLinked : Geometry → List ℕ → Type 0
    AreWellLinked h words = (d : Disk) → IsNamed h words logs.names.map d → (i : ℕ) → 1 ≤ i → i < d.geometry.inodes → IsLinked d i (d.inode i).use_of

    pub link_halts : (ino : ℕ) → IsBadLink ino g r → (c : List ℕ) → IsRolled c g r → FaultOf c (BadLink ino)
    link_halts ino bad c is = let has = has_logs c is in bad_link has.0 ino has.1
        (along c g r is (IsBadLink ino) bad has.0 (named_in c is has.0 has.1))

    pub are_linked : AreWellLinked g r → AreLinked g r
    are_linked well c is = let has = has_logs c is in
        (has.0, record { logs = has.1; links = along c g r is AreWellLinked well has.0 (named_in c is has.0 has.1) })

-- an inode with a fault is the image's
pub inode_halts : (c : List ℕ) (g : Geometry) (r : List ℕ) (ino : ℕ) → IsRolled c g r → IsLeast g.inodes (IsBadInode r) ino → FaultOf c (BadInode ino)
inode_halts c g r ino is least = bad_inode ino is.gate (along c g r is (λ h words. IsLeast h.inodes (IsBadInode words) ino) least)
