-- The inodes of an image are read, or one has a bad state or cut.
use Rattle.std.proofs.Common.{◌≡◌, ◌≢◌, ◌⊎◌, inl, inr, ℕ, zero, suc, ◌+◌, ◌*◌, ◌<◌, ◌≤◌, List, [], refl, sym, ◌∙◌, ap, arith}
use Rattle.std.specs.Prelude.{slice_index}
use Rattle.std.proofs.lemmas.Bool.{cases_lt, cases_eq}
use Rattle.pm_device.specs.Reading.{Reads}
use Rattle.pm_layout.specs.declared.Geometry.{Geometry}
use Rattle.pm_layout.specs.Geometry.{inode_word, pointer_word}
use Rattle.dn_model.specs.Rolled.{rolled}
use Rattle.dn_model.specs.LogFault.{LogFault}
use Rattle.dn_model.specs.Log.{Log, LogSays, no_log}
use Rattle.dn_model.specs.Disk.{Disk, Use, Free, Live, Dying, InodesSay, at_state, at_cut, state_number}
use Rattle.dn_model.specs.Valid.{IsCut, IsLog}
use Rattle.dn_model.specs.Faults.{HasGate, HasInodes, geometry_of, IsBadInode, bad_inode}
use Rattle.dn_model.specs.declared.fault.ImageFault.TheVariants.{BadInode}
use Rattle.law_log_read.proofs.Decided.{Decided, lt_decided, both_decided, either_decided, not_decided}
use Rattle.law_log_read.proofs.LogRead.{log_read}
use Rattle.law_image_read.proofs.Least.{least_below}
use Rattle.law_image_read.proofs.Head.{HasFault}

-- the use of an inode, by its state and its cut
abbrev use_by : ℕ → ℕ → Use
use_by zero cut = Free
use_by (suc zero) cut = Live
use_by (suc (suc n)) cut = Dying cut

state_back : (s cut : ℕ) → s ≤ 2 → state_number (use_by s cut) ≡ s
state_back zero cut le = refl
state_back (suc zero) cut le = refl
state_back (suc (suc zero)) cut le = refl
state_back (suc (suc (suc n))) cut le = absurd (omega (arith, le))

cut_back : (s cut k : ℕ) → use_by s cut ≡ Dying k → cut ≡ k
cut_back zero cut k e = cc
cut_back (suc zero) cut k e = cc
cut_back (suc (suc n)) cut k e = cc

live_by : (s cut : ℕ) → s ≡ 1 → use_by s cut ≡ Live
live_by s cut e = ap (λ (n : ℕ). use_by n cut) e

cut_by : (s cut : ℕ) → s ≤ 2 → (s ≡ 2 → cut ≤ 4096) → IsCut (use_by s cut)
cut_by zero cut le small = tt
cut_by (suc zero) cut le small = tt
cut_by (suc (suc n)) cut le small = small (omega (arith, le))

bad_inode_decided : (r : List ℕ) (ino : ℕ) → Decided (IsBadInode r ino)
bad_inode_decided r ino =
    either_decided (2 < slice_index r (inode_word ino 0)) (((ino ≡ 0) × (slice_index r (inode_word 0 0) ≢ 1))
    ⊎ ((slice_index r (inode_word ino 0) ≡ 2) × (4096 < slice_index r (inode_word ino 3))))
    (lt_decided 2 (slice_index r (inode_word ino 0)))
    (either_decided ((ino ≡ 0) × (slice_index r (inode_word 0 0) ≢ 1))
    ((slice_index r (inode_word ino 0) ≡ 2) × (4096 < slice_index r (inode_word ino 3)))
    (both_decided (ino ≡ 0) (slice_index r (inode_word 0 0) ≢ 1) (cases_eq ino 0) (not_decided (slice_index r (inode_word 0 0) ≡ 1)
    (cases_eq (slice_index r (inode_word 0 0)) 1)))
    (both_decided (slice_index r (inode_word ino 0) ≡ 2) (4096 < slice_index r (inode_word ino 3)) (cases_eq (slice_index r (inode_word ino 0)) 2)
    (lt_decided 4096 (slice_index r (inode_word ino 3)))))

-- the log that is read, if one is
module _ (g : Geometry) (r : List ℕ) (ino : ℕ) where
  abbrev pub Judged : Type 0
  Judged = ((place : ℕ) × LogFault g r ino place) ⊎ ((log : Log) × Reads (LogSays ino log) r × IsLog g ino log)

  abbrev pub log_of : Judged → Log
  log_of (inl fault) = no_log
  log_of (inr read) = read.0

module _ (c : List ℕ) where
  abbrev r : List ℕ
  r = rolled c

  abbrev use_at : ℕ → Use
  use_at ino = use_by (slice_index r (inode_word ino 0)) (slice_index r (inode_word ino 3))

  abbrev log_at : ℕ → Log
  log_at ino = log_of (geometry_of c) r ino (log_read (geometry_of c) r ino)

  -- what the words say of inodes, pointers and pages, with an empty table
  unfoldable pub read_disk : Disk
  read_disk = record {
    geometry = geometry_of c;
    inode = λ ino. record { use_of = use_at ino; log = log_at ino };
    chain = λ prefix. [];
    pointer = λ page. slice_index r (pointer_word (geometry_of c) page);
    word = λ page k. slice_index r (512 * page + k);
  }

  module _ (gate : HasGate c) (none : (ino : ℕ) → ino < slice_index c 3 → IsBadInode r ino → ⊥) where
    state_low : (ino : ℕ) → ino < slice_index c 3 → slice_index r (inode_word ino 0) ≤ 2
    state_low ino lt = elim (cases_lt 2 (slice_index r (inode_word ino 0))) [
      | inl high ↦ absurd (none ino lt (inl high))
      | inr low ↦ low
    ]

    root_state : slice_index r (inode_word 0 0) ≡ 1
    root_state = elim (cases_eq (slice_index r (inode_word 0 0)) 1) [
      | inl e ↦ e
      | inr other ↦ absurd (none 0 (omega (arith, gate.geometry.accepted.inodes)) (inr (inl (refl, other))))
    ]

    cut_low : (ino : ℕ) → ino < slice_index c 3 → slice_index r (inode_word ino 0) ≡ 2 → slice_index r (inode_word ino 3) ≤ 4096
    cut_low ino lt two = elim (cases_lt 4096 (slice_index r (inode_word ino 3))) [
      | inl high ↦ absurd (none ino lt (inr (inr (two, high))))
      | inr low ↦ low
    ]

    inodes_say : Reads (InodesSay read_disk) r
    unfolding read_disk
    inodes_say a v (at_state ino lt place value) = ap (slice_index r) place ∙ sym (state_back (slice_index r (inode_word ino 0))
        (slice_index r (inode_word ino 3)) (state_low ino lt)) ∙ sym value
    inodes_say a v (at_cut ino k lt dying place value) = ap (slice_index r) place ∙ cut_back (slice_index r (inode_word ino 0))
        (slice_index r (inode_word ino 3)) k dying ∙ sym value

    pub has_inodes : HasInodes c read_disk
    unfolding read_disk
    has_inodes = record {
      gate = gate;
      geometry = refl;
      reads = inodes_say;
      root = live_by (slice_index r (inode_word 0 0)) (slice_index r (inode_word 0 3)) root_state;
      cuts = λ ino lt. cut_by (slice_index r (inode_word ino 0)) (slice_index r (inode_word ino 3)) (state_low ino lt) (cut_low ino lt);
    }

  pub inodes_read : HasGate c → HasFault c ⊎ HasInodes c read_disk
  inodes_read gate = elim (least_below (IsBadInode r) (bad_inode_decided r) (slice_index c 3)) [
    | inl none ↦ inr (has_inodes gate none)
    | inr first ↦ inl (BadInode first.0, bad_inode first.0 gate first.1)
  ]
