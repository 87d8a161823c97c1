-- While an inode is cleared, each of the three fields is old or 0.
use Rattle.std.proofs.Common.{◌≡◌, inl, inr, ⊎_elim, ℕ, zero, suc, ◌+◌, ◌-◌, ◌<◌, ◌≤◌, [], ◌∷◌, length, refl, ◌∙◌, arith}
use Rattle.std.specs.Prelude.{slice_index}
use Rattle.pm_device.specs.State.{State}
use Rattle.pm_device.specs.Settled.{SettledOn, LeavesOnly, LeavesOldOr}
use Rattle.pm_device.specs.Pages.{SaysRun}
use Rattle.pm_device.proofs.OldOr.{settled_or_fresh}
use Rattle.pm_layout.specs.Geometry.{inode_word}
use Rattle.inode_table.specs.Cleared.{IsLogField, LeavesCleared}

zeros : (k : ℕ) → slice_index (0 ∷ 0 ∷ 0 ∷ []) k ≡ 0
zeros zero = refl
zeros (suc zero) = refl
zeros (suc (suc zero)) = refl
zeros (suc (suc (suc k))) = refl

pub leaves_cleared : (ino at : ℕ) (s t : State) → at ≡ inode_word ino 1 → at + 3 ≤ length s.now
    → LeavesOldOr (SaysRun at (0 ∷ 0 ∷ 0 ∷ [])) s t → SettledOn (IsLogField ino) s → LeavesOnly s t (LeavesCleared ino s)
leaves_cleared ino at s t place inside leaves settled = record {
  extends = leaves.extends;
  each = λ m c late left. record {
    fields = λ a here. ⊎_elim (λ old. inl old) (λ new. inr (new.1 ∙ zeros (a - at)))
        ((settled_or_fresh (SaysRun at (0 ∷ 0 ∷ 0 ∷ [])) s t leaves a (within a here) (settled a here (within a here))).each m c late left);
    others = λ a lt still out. ⊎_elim (λ old. old)
        (λ new. absurd (out (omega (arith, new.0.0, place), omega (arith, new.0.1, place))))
        ((settled_or_fresh (SaysRun at (0 ∷ 0 ∷ 0 ∷ [])) s t leaves a lt still).each m c late left);
  };
}
  where
    within : (a : ℕ) → IsLogField ino a → a < length s.now
    within a here = omega (arith, here.1, place, inside)
