-- Calls that flush, or settle, all that they store.
use Rattle.std.proofs.Common.{◌≡◌, inl, inr, ⊎_elim, ℕ, ◌+◌, ◌-◌, ◌<◌, ◌≤◌, List, length, refl, sym, ◌∙◌, ap, subst, arith}
use Rattle.std.proofs.lemmas.Bool.{cases_eq}
use Rattle.pm_device.specs.State.{State, IsSame}
use Rattle.pm_device.specs.Settled.{IsSettled, IsFlushed, KeepsFlushed, Anyone, Others, FlushesAll, SettlesAll}
use Rattle.pm_device.specs.Commit.{IsDone}
use Rattle.pm_device.specs.Words.{IsIn}
use Rattle.pm_device.specs.Lines.{StoresRun}
use Rattle.pm_device.proofs.Calls.{settled_is_flushed}
use Rattle.pm_device.proofs.Decided.{flushed_or_not, settled_or_not}
use Rattle.pm_device.proofs.Flushed.{flushed_same}

-- words of W were stored and are flushed
pub flushes_words : (W : ℕ → Type 0) (who : ℕ) (s t : State) → KeepsFlushed Anyone W s t
    → ((a : ℕ) → a < length s.now → W a → IsFlushed who t a) → FlushesAll who s t
flushes_words W who s t keeps flushed = record {
  words = keeps.words;
  kept = λ q a lt was. ⊎_elim (λ mine. inr mine)
      (λ not. inl (keeps.flushed q a tt (λ here. not (flushed a lt here)) lt was)) (flushed_or_not who t a);
}

-- words of W were stored and are settled, with all that this actor had flushed
pub settles_words : (W : ℕ → Type 0) (who : ℕ) (s t : State) → KeepsFlushed (Others who) W s t
    → ((a : ℕ) → a < length s.now → W a → IsSettled t a)
    → ((a : ℕ) → a < length s.now → (W a → ⊥) → IsFlushed who s a → IsSettled t a) → SettlesAll who s t
settles_words W who s t keeps here away = record {
  words = keeps.words;
  kept = λ q a lt was. ⊎_elim (λ settled. inr settled)
      (λ not. ⊎_elim
      (λ me. inr (away a lt (λ w. not (here a lt w)) (subst (λ (n : ℕ). IsFlushed n s a) me was)))
      (λ other. inl (keeps.flushed q a other (λ w. not (here a lt w)) lt was)) (cases_eq q who))
      (settled_or_not t a);
  own = λ a lt was. ⊎_elim (λ settled. settled) (λ not. away a lt (λ w. not (here a lt w)) was) (settled_or_not t a);
}

-- a word that was set, or committed
pub settles_word : (who at value : ℕ) (s t : State) → KeepsFlushed (Others who) (λ a. a ≡ at) s t → IsDone who at value s t → SettlesAll who s t
settles_word who at value s t keeps done = settles_words (λ a. a ≡ at) who s t keeps
    (λ a lt here. subst (λ (b : ℕ). IsSettled t b) (sym here) done.word) (λ a lt away was. done.flushed a lt was away)

-- a run that was stored and flushed
pub flushes_run : (who at : ℕ) (values : List ℕ) (s t : State) → StoresRun who at values s t → FlushesAll who s t
flushes_run who at values s t run = flushes_words (IsIn at (length values)) who s t run.keeps
    (λ a lt here. subst (λ (b : ℕ). IsFlushed who t b) (back a here.0) (run.flushed (a - at) (omega (arith, here.0, here.1))))
  where
    back : (a : ℕ) → at ≤ a → at + (a - at) ≡ a
    back a le = omega (arith, le)

pub flushes-none : (who : ℕ) (s : State) → FlushesAll who s s
flushes-none who s = record { words = refl; kept = λ q a lt was. inl was }

pub flushes-same : (who : ℕ) (s t : State) → IsSame s t → FlushesAll who s t
flushes-same who s t same = record { words = ap length same.now; kept = λ q a lt was. inl (flushed_same s t q a same was) }

-- what is settled is flushed by anybody
pub settles_flushes : (who : ℕ) (s t : State) → SettlesAll who s t → FlushesAll who s t
settles_flushes who s t settles = record {
  words = settles.words;
  kept = λ q a lt was. ⊎_elim (λ his. inl his) (λ settled. inr (settled_is_flushed t who a settled)) (settles.kept q a lt was);
}

-- one run of calls after another
module _ (who : ℕ) (s t u : State) where
  there : length t.now ≡ length s.now → (a : ℕ) → a < length s.now → a < length t.now
  there words a lt = omega (arith, words, lt)

  pub flushes-then : FlushesAll who s t → FlushesAll who t u → FlushesAll who s u
  flushes-then one two = record {
    words = two.words ∙ one.words;
    kept = λ q a lt was. ⊎_elim (λ his. two.kept q a (there one.words a lt) his)
        (λ mine. inr (⊎_elim (λ is. is) (λ is. is) (two.kept who a (there one.words a lt) mine))) (one.kept q a lt was);
  }

  pub flushes-settle : FlushesAll who s t → SettlesAll who t u → SettlesAll who s u
  flushes-settle one two = record {
    words = two.words ∙ one.words;
    kept = λ q a lt was. ⊎_elim (λ his. two.kept q a (there one.words a lt) his)
        (λ mine. inr (two.own a (there one.words a lt) mine)) (one.kept q a lt was);
    own = λ a lt was. two.own a (there one.words a lt) (⊎_elim (λ is. is) (λ is. is) (one.kept who a lt was));
  }

  pub settles-then : SettlesAll who s t → SettlesAll who t u → SettlesAll who s u
  settles-then one two = flushes-settle (settles_flushes who s t one) two
