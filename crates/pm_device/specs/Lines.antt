-- A run of words that is stored and flushed.
use Rattle.std.specs.Prelude.{◌≡◌, ℕ, ◌+◌, ◌<◌, List, length, slice_index}
use Rattle.pm_device.specs.State.{State}
use Rattle.pm_device.specs.Settled.{IsFlushed, StoresOnly, KeepsFlushed, Anyone, LeavesOldOr}
use Rattle.pm_device.specs.Words.{IsIn}
use Rattle.pm_device.specs.Pages.{SaysRun}

-- The words from `at` on are these values, and are settled by the actor's next fence; on the way a
-- crash leaves of
-- each an old value or this one. No other word changes, nor what was flushed of it.
pub record StoresRun (who at : ℕ) (values : List ℕ) (s t : State) : Type 0 where
  pub only : StoresOnly (IsIn at (length values)) s t
  pub reads : (k : ℕ) → k < length values → slice_index t.now (at + k) ≡ slice_index values k
  pub flushed : (k : ℕ) → k < length values → IsFlushed who t (at + k)
  pub keeps : KeepsFlushed Anyone (IsIn at (length values)) s t
  pub leaves : LeavesOldOr (SaysRun at values) s t
