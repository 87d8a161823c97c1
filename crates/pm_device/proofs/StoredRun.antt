-- A run of words that is stored and flushed.
use Rattle.std.proofs.Common.{◌≡◌, ℕ, ◌+◌, ◌-◌, ◌*◌, ◌≤◌, List, length, ◌∙◌, ap, arith}
use Rattle.std.specs.Prelude.{slice_index}
use Rattle.pm_device.specs.State.{State, Stores, Flushes, Agree}
use Rattle.pm_device.specs.Settled.{StoresOnly, Anyone, Nowhere, LeavesOldOr}
use Rattle.pm_device.specs.Words.{IsIn}
use Rattle.pm_device.specs.Pages.{SaysRun}
use Rattle.pm_device.specs.Lines.{StoresRun}
use Rattle.pm_device.specs.Runs.{put_run_in, length-put_run}
use Rattle.pm_device.proofs.Calls.{flush_flushes}
use Rattle.pm_device.proofs.Flushed.{keeps-store, keeps-flush, keeps-then}
use Rattle.pm_device.proofs.OldOr.{leaves_old_or-store, leaves_old_or-nowhere, leaves_old_or-then}
use Rattle.pm_device.proofs.Only.{stores_only-store, stores_only-flush, stores_only-then}

-- the two calls
module _ (who at first lines : ℕ) (values : List ℕ) (s t u : State) (inside : at + length values ≤ length s.now)
    (low : 8 * first ≤ at) (high : at + length values ≤ 8 * first + 8 * lines)
    (agree_s : Agree s.now s.past) (agree_t : Agree t.now t.past) (agree_u : Agree u.now u.past)
    (stores : Stores at values s t) (flushes : Flushes who first lines t u) where
  abbrev Run : ℕ → Type 0
  Run = IsIn at (length values)

  pub long_t : length t.now ≡ length s.now
  long_t = ap length stores.now ∙ length-put_run s.now at values

  run_only : StoresOnly Run s u
  run_only = stores_only-then Run s t u (stores_only-store s t at values agree_s agree_t stores)
      (stores_only-flush Run t u who first lines agree_t agree_u flushes)

  run_leaves : LeavesOldOr (SaysRun at values) s u
  run_leaves =
      let flushed = stores_only-flush Nowhere t u who first lines agree_t agree_u flushes in
      leaves_old_or-then (SaysRun at values) s t u (leaves_old_or-store s t at values agree_s agree_t stores)
      (leaves_old_or-nowhere (SaysRun at values) t u flushed)

  pub stored_run : StoresRun who at values s u
  stored_run = record {
    only = run_only;
    reads = λ k lt. ap (λ xs. slice_index xs (at + k)) (flushes.now ∙ stores.now)
        ∙ put_run_in s.now at values (at + k) (omega arith) (omega arith) (omega arith) ∙ ap (slice_index values) (back k);
    flushed = λ k lt. flush_flushes t u (at + k) who first lines agree_t flushes (omega arith) (omega arith) (omega (arith, long_t));
    keeps = keeps-then Anyone Run s t u (keeps-store s t at values stores) (keeps-flush Anyone Run t u who first lines flushes);
    leaves = run_leaves;
  }
    where
      back : (k : ℕ) → at + k - at ≡ k
      back k = omega arith
