-- What inodes are used for, by the words of a rolled image.
use Rattle.std.proofs.Common.{◌≡◌, ℕ, ◌<◌, ◌≤◌, List, refl, sym, ◌∙◌, ap, subst, arith}
use Rattle.std.specs.Prelude.{slice_index}
use Rattle.pm_device.specs.Reading.{Reads}
use Rattle.pm_layout.specs.Geometry.{inode_word}
use Rattle.dn_model.specs.Rolled.{rolled}
use Rattle.dn_model.specs.Disk.{Disk, Use, Free, Live, Dying, InodesSay, at_state, at_cut, state_number}
use Rattle.dn_model.specs.Valid.{IsCut}
use Rattle.image_head.specs.Laws.{InodesStay}

-- the use with this state and this cut
abbrev pub IsUse : ℕ → ℕ → Use → Type 0
IsUse state cut use_of = (state ≡ state_number use_of) × ((k : ℕ) → use_of ≡ Dying k → cut ≡ k)

pub is_use : (d : Disk) (words : List ℕ) (ino : ℕ) → ino < d.geometry.inodes → Reads (InodesSay d) words
    → IsUse (slice_index words (inode_word ino 0)) (slice_index words (inode_word ino 3)) (d.inode ino).use_of
is_use d words ino lt reads = (
  reads (inode_word ino 0) (state_number (d.inode ino).use_of) (at_state ino lt refl refl),
  λ k dying. reads (inode_word ino 3) k
      (at_cut ino k lt dying refl refl),
)

pub free_by : (state cut : ℕ) (of : Use) → IsUse state cut of → state ≡ 0 → of ≡ Free
free_by state cut Free is e = refl
free_by state cut Live is e = absurd (omega (arith, is.0, e))
free_by state cut (Dying k) is e = absurd (omega (arith, is.0, e))

pub live_by : (state cut : ℕ) (of : Use) → IsUse state cut of → state ≡ 1 → of ≡ Live
live_by state cut Free is e = absurd (omega (arith, is.0, e))
live_by state cut Live is e = refl
live_by state cut (Dying k) is e = absurd (omega (arith, is.0, e))

pub dying_by : (state cut : ℕ) (of : Use) → IsUse state cut of → 2 ≤ state → of ≡ Dying cut
dying_by state cut Free is high = absurd (omega (arith, is.0, high))
dying_by state cut Live is high = absurd (omega (arith, is.0, high))
dying_by state cut (Dying k) is high = ap Dying (sym (is.1 k refl))

pub inodes_stay : InodesStay
inodes_stay c d e same uses has = record {
  gate = has.gate;
  geometry = same ∙ has.geometry;
  reads = says;
  root = uses 0 ∙ has.root;
  cuts = λ ino lt. subst IsCut (sym (uses ino)) (has.cuts ino (in_table ino lt));
}
  where
    in_table : (ino : ℕ) → ino < e.geometry.inodes → ino < d.geometry.inodes
    in_table ino lt = rw (← same) lt

    says : Reads (InodesSay e) (rolled c)
    says a v (at_state ino lt place value) = has.reads a v (at_state ino (in_table ino lt) place (value ∙ ap state_number (uses ino)))
    says a v (at_cut ino k lt dying place value) = has.reads a v (at_cut ino k (in_table ino lt) (sym (uses ino) ∙ dying) place value)
