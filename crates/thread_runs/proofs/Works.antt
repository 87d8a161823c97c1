-- What a pass knows whose thread ran the lines of a client, the daemon or reclaim.
use Rattle.std.proofs.Common.{◌≡◌, inl, inr, ℕ, ◌+◌, ◌<◌, ◌≤◌, List, [], ◌++◌, refl, sym, ◌∙◌, ap, arith}
use Rattle.std.specs.Prelude.{Some, None, Result, Ok, Err}
use Rattle.dn_model.specs.declared.op.Entry.{Entry}
use Rattle.dn_model.specs.declared.op.Op.{Op}
use Rattle.dn_script.specs.declared.job.Line.{Line}
use Rattle.dn_core.specs.declared.event.Event.TheVariants.{Daemon, Reclaim}
use Rattle.count_board.specs.declared.told.Hand.TheVariants.{Gone}
use Rattle.count_board.specs.declared.told.Mark.{Mark}
use Rattle.count_board.specs.declared.view.Account.{Account}
use Rattle.count_board.specs.Kept.{new_account}
use Rattle.dn_shared.specs.declared.call.CallFault.{CallFault}
use Rattle.dn_shared.specs.declared.call.CallFault.TheVariants as fault
use Rattle.dn_shared.specs.Calls.{Loops}
use Rattle.dn_shared.specs.Turns.{IsOver}
use Rattle.job_runs.specs.Scripts.{ops_of}
use Rattle.job_texts.specs.Plan.{ops_in}
use Rattle.thread_runs.specs.declared.reading.Reading.{Reading}
use Rattle.thread_runs.specs.Parts.{RanOps, ReadAll, SaysOver, Ran, RisesTo, lines_by}
use Rattle.thread_runs.proofs.Ending.{lines_beyond}

-- a loop makes no operation
work_ops : (Over : Mark → Type 0) (k : ℕ) (ops : List Op) (a b : Account) (r : Result (Unit {0}) CallFault) → ops ≡ [] → a ≡ new_account k
    → Loops Over a b r → RanOps ops None b r
work_ops Over k ops a b (Ok done) none new is = (
  ap ops_of (is.0.0 ∙ ap (λ (c : Account). c.calls) new) ∙ sym none,
  is.0.1 ∙ ap (λ (c : Account). c.hand) new,
)
work_ops Over k ops a b (Err fault.NoMemory) none new is = (
  [],
  none ∙ sym (ap (λ (es : List Entry). ops_of es ++ []) (is.0.0 ∙ ap (λ (c : Account). c.calls) new)),
  is.0.1 ∙ ap (λ (c : Account). c.hand) new,
)
work_ops Over k ops a b (Err fault.Stopped) none new is = (
  [],
  none ∙ sym (ap (λ (es : List Entry). ops_of es ++ []) (is.0.0 ∙ ap (λ (c : Account). c.calls) new)),
  is.1,
  inl (is.0.1 ∙ ap (λ (c : Account). c.hand) new),
)

work_says : (Over : Mark → Type 0) (a b : Account) (r : Result (Unit {0}) CallFault) → Loops Over a b r → SaysOver Over b r
work_says Over a b (Ok done) is = is.1
work_says Over a b (Err e) is = tt

module _ (slots last : ℕ) (clients : List (ℕ × List Line)) (k : ℕ) (a b : Account) (readings : List Reading)
    (r : Result (Unit {0}) CallFault) where
  pub part_client : k ≤ last → RanOps (ops_in (lines_by k clients)) (Some Gone) b r → ReadAll slots (lines_by k clients) b readings r
      → Ran slots last clients k b readings r
  part_client few ops reads = record {
    hand = Some Gone;
    lands = refl;
    ops = ops;
    reads = λ le. reads;
    daemon = λ is. absurd (omega (arith, is, few));
    reclaim = λ is. absurd (omega (arith, is, few));
  }

  module _ (rises : RisesTo last 0 clients) (new : a ≡ new_account k) where
    none_to_run : last < k → ops_in (lines_by k clients) ≡ []
    none_to_run beyond = ap ops_in (lines_beyond last 0 clients k rises (inr beyond))

    pub part_daemon : k ≡ last + 1 → Loops (IsOver Daemon) a b r → Ran slots last clients k b readings r
    part_daemon is loops = record {
      hand = None;
      lands = refl;
      ops = work_ops (IsOver Daemon) k (ops_in (lines_by k clients)) a b r (none_to_run (omega (arith, is))) new loops;
      reads = λ le. absurd (omega (arith, is, le));
      daemon = λ at. work_says (IsOver Daemon) a b r loops;
      reclaim = λ at. absurd (omega (arith, is, at));
    }

    pub part_reclaim : last < k → (k ≡ last + 1 → ⊥) → Loops (IsOver Reclaim) a b r → Ran slots last clients k b readings r
    part_reclaim beyond not loops = record {
      hand = None;
      lands = refl;
      ops = work_ops (IsOver Reclaim) k (ops_in (lines_by k clients)) a b r (none_to_run beyond) new loops;
      reads = λ le. absurd (omega (arith, beyond, le));
      daemon = λ at. absurd (not at);
      reclaim = λ at. work_says (IsOver Reclaim) a b r loops;
    }
