-- Several words that change together: what images stand for while they change, and the device at the end.
use Rattle.std.proofs.Common.{◌≡◌, ◌⊎◌, inl, inr, ⊎_elim, ℕ, ◌*◌, List, length, refl, sym, ◌∙◌, ap, subst}
use Rattle.pm_device.specs.State.{State, Agree}
use Rattle.pm_device.specs.Settled.{LeavesOnly}
use Rattle.pm_device.specs.Reading.{Reads, Stands, IsReady}
use Rattle.pm_device.specs.Pages.{IsInPage}
use Rattle.pm_layout.specs.declared.Geometry.{Geometry}
use Rattle.pm_layout.specs.Geometry.{gate_word}
use Rattle.dn_model.specs.Rolled.{rolled, IsGate}
use Rattle.dn_model.specs.Disk.{Disk, DiskSays, of_head, at_gate}
use Rattle.dn_model.specs.Image.{StandsFor}
use Rattle.name_journal.specs.declared.change.Change.{Change}
use Rattle.name_journal.specs.Changes.{IsTouched}
use Rattle.name_journal.specs.AllOrNone.{AllOrNone, IsAllDone, Leads, OldOrNewState}
use Rattle.name_journal.proofs.Told.{IsImage, leaves_only-image}
use Rattle.name_journal.proofs.States.{old_or_new_state, new_state_stands}
use Rattle.law_names.specs.AllOrNoneLaws.{FreshWord, AreAllOrNone, IsShut}
use Rattle.law_names.proofs.Places.{only_gate}

module _ (old new : Disk) (changes : List Change) (are : AreAllOrNone old new changes) (who : ℕ) (s t : State)
    (agree : Agree s.now s.past) (size : length s.now ≡ 512 * old.geometry.pages) (stands : Stands (DiskSays old) s)
    (ready : IsReady who (FreshWord old new changes) s) where
  -- a fresh word isn't touched by the journal
  apart : (a v : ℕ) → FreshWord old new changes a v → IsTouched changes a → ⊥
  apart a v fresh touched = ⊎_elim fresh.unnamed
      (λ (here : IsInPage 1 a). fresh.unread (record { value = 0; told = of_head (at_gate (only_gate new are.new_valid a v here fresh.read) refl) }))
      touched

  leads : Leads who changes (DiskSays old) (DiskSays new) (FreshWord old new changes) s
  leads = record {
    stands = stands;
    closed = of_head (at_gate refl refl);
    page = only_gate old are.old_valid;
    differs = are.differs;
    ready = ready;
    apart = apart;
  }

  read_as : (c : List ℕ) → IsImage s c → OldOrNewState old.geometry.inodes (DiskSays old) (DiskSays new) c → StandsFor c old ⊎ StandsFor c new
  read_as c image state = ⊎_elim
      (λ (before : Reads (DiskSays old) (rolled c)). inl (record { size = image.size ∙ size; gate = state.0; reads = before; valid = are.old_valid }))
      (λ (after : Reads (DiskSays new) (rolled c)). inr (record {
        size = image.size ∙ size ∙ ap (λ (g : Geometry). 512 * g.pages) (sym are.geometry);
        gate = subst (λ (g : Geometry). IsGate g.inodes c) (sym are.geometry) state.0;
        reads = after;
        valid = are.new_valid;
      })) state.1

  pub all_or_none_images : LeavesOnly s t (AllOrNone old.geometry.inodes who changes s) → LeavesOnly s t (λ c. StandsFor c old ⊎ StandsFor c new)
  all_or_none_images leaves = leaves_only-image s t (OldOrNewState old.geometry.inodes (DiskSays old) (DiskSays new))
      (λ c. StandsFor c old ⊎ StandsFor c new) agree read_as
      (old_or_new_state old.geometry who changes (DiskSays old) (DiskSays new) (FreshWord old new changes) s t agree are.old_valid.accepted size
      are.journaled leads leaves)

  pub all_or_none_stands : IsAllDone who changes s t → Stands (DiskSays new) t
  all_or_none_stands done = new_state_stands old.geometry who changes (DiskSays old) (DiskSays new) (FreshWord old new changes) s t agree
      are.old_valid.accepted size are.journaled leads done

pub disk_shut : (d : Disk) (s : State) → Stands (DiskSays d) s → IsShut s
disk_shut d s stands = record {
  closed = stands.reads gate_word 0 (of_head (at_gate refl refl));
  settled = stands.settled gate_word 0 (of_head (at_gate refl refl));
}
