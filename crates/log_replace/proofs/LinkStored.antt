-- The word that names the next page of a log is stored.
use Rattle.std.proofs.Common.{◌≡◌, ℕ, ◌+◌, ◌*◌, ◌<◌, ◌≤◌, List, [], ◌∷◌, length, sym, ◌∙◌, ap, subst, arith}
use Rattle.std.specs.Prelude.{slice_index}
use Rattle.pm_device.specs.State.{State}
use Rattle.pm_device.specs.Settled.{IsFlushed}
use Rattle.pm_device.specs.Reading.{IsReady}
use Rattle.pm_device.specs.Lines.{StoresRun}
use Rattle.dn_model.specs.Log.{footer_word}
use Rattle.log_replace.specs.Slots.{LinkSays}

module _ (who : ℕ) (pages : List ℕ) (k at value : ℕ) (s t : State) (more : k + 1 < length pages) (at_is : at ≡ footer_word pages k)
    (value_is : value ≡ slice_index pages (k + 1)) (inside : 512 * slice_index pages k + 512 ≤ length s.now)
    (run : StoresRun who at (value ∷ []) s t) where
  first : at + 0 ≡ at
  first = omega arith

  read_there : slice_index t.now at ≡ value
  read_there = subst (λ (a : ℕ). slice_index t.now a ≡ value) first (run.reads 0 (omega arith))

  flushed_there : IsFlushed who t at
  flushed_there = subst (IsFlushed who t) first (run.flushed 0 (omega arith))

  pub link_ready : IsReady who (LinkSays pages k) t
  link_ready = record {
    within = λ a v told. omega (arith, told.place, inside, run.only.words);
    reads = λ a v told. ap (slice_index t.now) (told.place ∙ sym at_is) ∙ read_there ∙ value_is ∙ sym told.value;
    flushed = λ a v told. subst (IsFlushed who t) (sym (told.place ∙ sym at_is)) flushed_there;
  }
