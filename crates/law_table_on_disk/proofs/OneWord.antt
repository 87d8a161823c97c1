-- A change that one store decides: what its images stand for, and what the device stands for at the end.
use Rattle.std.proofs.Common.{◌≡◌, ◌⊎◌, inl, inr, ⊎_elim, ℕ, ◌*◌, List, [], length, sym, ◌∙◌, ap, arith}
use Rattle.pm_device.specs.Past.{Left}
use Rattle.pm_device.specs.State.{State, Agree}
use Rattle.pm_device.specs.Settled.{LeavesOnly, StoresOnly}
use Rattle.pm_device.specs.Reading.{Reads, Stands, IsReady}
use Rattle.pm_device.specs.Words.{IsIn}
use Rattle.pm_device.specs.Pages.{SaysRun}
use Rattle.pm_device.specs.Commit.{IsCommitted, IsDone, LeavesOneWord}
use Rattle.pm_device.proofs.OneWord.{reads_old_or_new, stands_new, stands-stores}
use Rattle.pm_device.proofs.Layers.{leaves_only-stores}
use Rattle.pm_layout.specs.declared.Geometry.{Geometry}
use Rattle.dn_model.specs.Disk.{Disk, DiskSays}
use Rattle.dn_model.specs.Valid.{IsValid}
use Rattle.dn_model.specs.Image.{StandsFor}
use Rattle.law_write.proofs.WriteEvent.{length-left, stands_for_read}
use Rattle.law_table.proofs.Words.{nothing_stands, reads_either}
use Rattle.law_table_on_disk.specs.OneWord.{IsOneWord, MayCommit}

module _ (old new : Disk) (first : ℕ) (fresh : List ℕ) (at value : ℕ) (is : IsOneWord old new first fresh at value) where
  -- an image that reads as one of the disks stands for it
  stands_for_either : (t : State) → Agree t.now t.past → length t.now ≡ 512 * old.geometry.pages → (m : ℕ) (c : List ℕ) → Left t.past m c
      → Reads (DiskSays old) c ⊎ Reads (DiskSays new) c → StandsFor c old ⊎ StandsFor c new
  stands_for_either t agree size m c left reads =
      let long : length c ≡ 512 * old.geometry.pages = length-left t.past t.now m c agree left ∙ size in
      ⊎_elim (λ before. inl (stands_for_read old c is.old_valid before long))
      (λ after. inr (stands_for_read new c is.new_valid after (long ∙ ap (λ (g : Geometry). 512 * g.pages) (sym is.geometry)))) reads

  pub one_word_images : (who : ℕ) (s t : State) → Agree t.now t.past → length t.now ≡ 512 * old.geometry.pages → Stands (DiskSays old) s
      → IsReady who (SaysRun first fresh) s
      → LeavesOnly s t (IsCommitted who at value s) → LeavesOnly s t (λ c. StandsFor c old ⊎ StandsFor c new)
  one_word_images who s t agree size stands ready leaves = record {
    extends = leaves.extends;
    each = λ m c late left. stands_for_either t agree size m c left
        (reads_old_or_new (DiskSays old) (DiskSays new) (SaysRun first fresh) who at value s c is.differs stands ready (leaves.each m c late left));
  }

  pub one_word_stands : (who : ℕ) (s t : State) → length s.now ≡ 512 * old.geometry.pages → Stands (DiskSays old) s
      → IsReady who (SaysRun first fresh) s
      → IsDone who at value s t → StoresOnly (λ a. a ≡ at) s t → Stands (DiskSays new) t
  one_word_stands who s t size stands ready done only =
      stands_new (DiskSays old) (DiskSays new) (SaysRun first fresh) who at value s t is.differs stands ready (omega (arith, is.inside, size)) done
      only

-- in any order, where no word is fresh
pub one_word_any_order : (old new : Disk) (first at value : ℕ) → IsOneWord old new first [] at value
    → (s t : State) → Agree t.now t.past → length t.now ≡ 512 * old.geometry.pages → Stands (DiskSays old) s
    → LeavesOnly s t (LeavesOneWord at value s) → LeavesOnly s t (λ c. StandsFor c old ⊎ StandsFor c new)
one_word_any_order old new first at value is s t agree size stands leaves = record {
  extends = leaves.extends;
  each = λ m c late left. stands_for_either old new first [] at value is t agree size m c left
      (reads_either (DiskSays old) (DiskSays new) (SaysRun first []) at value is.differs s stands (nothing_stands first s) c
      (leaves.each m c late left));
}

pub one_word_may_commit : (old new : Disk) (first : ℕ) (fresh : List ℕ) (at value : ℕ) → IsOneWord old new first fresh at value
    → (s : State) → length s.now ≡ 512 * old.geometry.pages → Stands (DiskSays old) s → MayCommit s at
one_word_may_commit old new first fresh at value is s size stands = record {
  settled = stands.settled at is.said.value is.said.told;
  line = omega (arith, is.inside, size);
}

-- stores to words of which the disk says nothing
module _ (d : Disk) (first n : ℕ) (unread : (a v : ℕ) → DiskSays d a v → IsIn first n a → ⊥) (s t : State) (only : StoresOnly (IsIn first n) s t)
    (stands : Stands (DiskSays d) s) where
  pub unread_stands : Stands (DiskSays d) t
  unread_stands = stands-stores (IsIn first n) s t only (DiskSays d) unread stands

  pub unread_images : IsValid d → Agree t.now t.past → length t.now ≡ 512 * d.geometry.pages → LeavesOnly s t (λ c. StandsFor c d)
  unread_images valid agree size =
      let reads = leaves_only-stores (IsIn first n) s t (DiskSays d) only unread stands in
      record {
        extends = reads.extends;
        each = λ m c late left. stands_for_read d c valid (reads.each m c late left)
            (length-left t.past t.now m c agree left ∙ size);
      }
