-- What each call leaves flushed.
use Rattle.std.proofs.Common.{◌≡◌, ◌≢◌, inl, inr, ℕ, ◌-◌, ◌*◌, ◌≤◌, max, Bool, true, false, List, length, refl, sym, ◌∙◌, ap, subst}
use Rattle.std.proofs.Common.{arith}
use Rattle.std.specs.Prelude.{slice_index, Option, Some, None, if◌then◌else◌, ◌==◌}
use Rattle.std.proofs.lemmas.Bool.{cases_eq}
use Rattle.std.proofs.lemmas.Bool.Decides.{nat_tests}
use Rattle.pm_device.specs.Past.{Call, Stored, Flushed, Fenced, Word, Past, covers, step}
use Rattle.pm_device.specs.State.{State, IsSame, Stores, Flushes, Fences, after}
use Rattle.pm_device.specs.Settled.{Each, EachOnceFenced, OfWord, IsRead, IsSettled, IsFlushed, KeepsFlushed, Anyone, Others, word_now}
use Rattle.pm_device.specs.MemLaws.{IsPlaced, placed_now}
use Rattle.pm_device.specs.Words.{IsIn, each_fenced-store_out}
use Rattle.pm_device.specs.Runs.{length-put_run}
use Rattle.pm_device.proofs.Calls.{word_now-after, read-store_out, flushed-fence, settled_is_flushed}

-- a fact of a word whose records are among its values goes through a call
carries_placed : (p q : Option Past) (call : Call) (a : ℕ) (P Q : Word → Type 0) → q ≡ after p call
    → ((w : Word) → IsPlaced w → P w → Q (step a w call)) → OfWord p a P → OfWord q a Q
carries_placed None q call a P Q is goes fact = subst (λ (o : Option Past). OfWord o a Q) (sym is) tt
carries_placed (Some p) q call a P Q is goes fact =
    subst (λ (o : Option Past). OfWord o a Q) (sym is)
    (subst Q (sym (word_now-after p call a)) (goes (word_now p a) (placed_now p a) fact))

each_fenced-flush_any : (a : ℕ) (w : Word) (P : ℕ → Type 0) (q who first lines : ℕ) → IsPlaced w → EachOnceFenced q P w
    → EachOnceFenced q P (step a w (Flushed who first lines))
each_fenced-flush_any a w P q who first lines placed each = by_cover (covers (8 * first) (8 * lines) a)
  where
    flushed : Word
    flushed = record { values = w.values; durable = w.durable; marks = λ r. if r == who then length w.values - 1 else w.marks r }

    by_cover : (b : Bool) → EachOnceFenced q P (if b then flushed else w)
    by_cover false = each
    by_cover true = λ i late marked lt. each i late (low i marked) lt
      where
        low : (i : ℕ) → (if q == who then length w.values - 1 else w.marks q) ≤ i → w.marks q ≤ i
        low i marked = elim (q == who) as (λ b. (if b then length w.values - 1 else w.marks q) ≤ i → w.marks q ≤ i) [
          | true ↦ λ h. omega (arith, h, placed.marks q)
          | false ↦ λ h. h
        ] marked

each_fenced-fence_other : (a : ℕ) (w : Word) (P : ℕ → Type 0) (q who : ℕ) (ok : Bool) → q ≢ who → EachOnceFenced q P w
    → EachOnceFenced q P (step a w (Fenced who ok))
each_fenced-fence_other a w P q who ok ne each = λ i late marked lt. each i (omega (arith, late, lower ok)) (omega (arith, marked, other)) lt
  where
    lower : (b : Bool) → w.durable ≤ (if b then max w.durable (w.marks who) else w.durable)
    lower true = omega arith
    lower false = omega arith

    other : (if q == who then 0 else w.marks q) ≡ w.marks q
    other = grind (arith, nat_tests)

-- on a device that is the same
pub settled_same : (s t : State) (a : ℕ) → IsSame s t → IsSettled s a → IsSettled t a
settled_same s t a same settled =
    subst (λ (o : Option Past). OfWord o a (Each (IsRead t a))) (sym same.past)
    (subst (λ (xs : List ℕ). OfWord s.past a (Each (λ v. v ≡ slice_index xs a))) (sym same.now) settled)

pub flushed_same : (s t : State) (q a : ℕ) → IsSame s t → IsFlushed q s a → IsFlushed q t a
flushed_same s t q a same flushed =
    subst (λ (o : Option Past). OfWord o a (EachOnceFenced q (IsRead t a))) (sym same.past)
    (subst (λ (xs : List ℕ). OfWord s.past a (EachOnceFenced q (λ v. v ≡ slice_index xs a))) (sym same.now) flushed)

module _ (s t : State) (q a : ℕ) where
  -- what is read stays the same
  flushed_as_read : (call : Call) → t.past ≡ after s.past call → slice_index t.now a ≡ slice_index s.now a
      → ((w : Word) → IsPlaced w → EachOnceFenced q (IsRead s a) w → EachOnceFenced q (IsRead s a) (step a w call))
      → IsFlushed q s a → IsFlushed q t a
  flushed_as_read call is same goes flushed =
      carries_placed s.past t.past call a (EachOnceFenced q (IsRead s a)) (EachOnceFenced q (IsRead t a)) is
      (λ w placed each i late marked lt. goes w placed each i late marked lt ∙ sym same) flushed

  pub flushed-store_out : (at : ℕ) (vs : List ℕ) → Stores at vs s t → (IsIn at (length vs) a → ⊥) → IsFlushed q s a → IsFlushed q t a
  flushed-store_out at vs stores out =
      flushed_as_read (Stored at vs) stores.past (read-store_out s t a at vs stores out)
      (λ w placed. each_fenced-store_out a w (IsRead s a) q at vs out)

  pub flushed-flush : (who first lines : ℕ) → Flushes who first lines s t → IsFlushed q s a → IsFlushed q t a
  flushed-flush who first lines flushes =
      flushed_as_read (Flushed who first lines) flushes.past (ap (λ xs. slice_index xs a) flushes.now)
      (λ w placed. each_fenced-flush_any a w (IsRead s a) q who first lines placed)

  pub flushed-fence_other : (who : ℕ) (ok : Bool) → q ≢ who → Fences who ok s t → IsFlushed q s a → IsFlushed q t a
  flushed-fence_other who ok ne fences =
      flushed_as_read (Fenced who ok) fences.past (ap (λ xs. slice_index xs a) fences.now)
      (λ w placed. each_fenced-fence_other a w (IsRead s a) q who ok ne)

pub keeps-store : (s t : State) (at : ℕ) (vs : List ℕ) → Stores at vs s t → KeepsFlushed Anyone (IsIn at (length vs)) s t
keeps-store s t at vs stores = record {
  words = ap length stores.now ∙ length-put_run s.now at vs;
  flushed = λ q a any out lt. flushed-store_out s t q a at vs stores out;
}

pub keeps-flush : (Q W : ℕ → Type 0) (s t : State) (who first lines : ℕ) → Flushes who first lines s t → KeepsFlushed Q W s t
keeps-flush Q W s t who first lines flushes = record {
  words = ap length flushes.now;
  flushed = λ q a any out lt. flushed-flush s t q a who first lines flushes;
}

pub keeps-fence : (W : ℕ → Type 0) (s t : State) (who : ℕ) (ok : Bool) → Fences who ok s t → KeepsFlushed (Others who) W s t
keeps-fence W s t who ok fences = record {
  words = ap length fences.now;
  flushed = λ q a other out lt. flushed-fence_other s t q a who ok other fences;
}

-- a fence that succeeds keeps its own actor's too: they are settled
pub keeps-fence_ok : (Q W : ℕ → Type 0) (s t : State) (who : ℕ) (ok : Bool) → ok ≡ true → Fences who ok s t → KeepsFlushed Q W s t
keeps-fence_ok Q W s t who ok went fences = record {
  words = ap length fences.now;
  flushed = λ q a any out lt flushed. elim (cases_eq q who) [
    | inl e ↦ settled_is_flushed t q a (flushed-fence s t a who ok went fences (subst (λ r. IsFlushed r s a) e flushed))
    | inr ne ↦ flushed-fence_other s t q a who ok ne fences flushed
  ];
}

pub keeps-none : (Q W : ℕ → Type 0) (s : State) → KeepsFlushed Q W s s
keeps-none Q W s = record { words = refl; flushed = λ q a any out lt flushed. flushed }

pub keeps-same : (Q W : ℕ → Type 0) (s t : State) → IsSame s t → KeepsFlushed Q W s t
keeps-same Q W s t same = record { words = ap length same.now; flushed = λ q a any out lt. flushed_same s t q a same }

pub keeps-then : (Q W : ℕ → Type 0) (s t u : State) → KeepsFlushed Q W s t → KeepsFlushed Q W t u → KeepsFlushed Q W s u
keeps-then Q W s t u first next = record {
  words = next.words ∙ first.words;
  flushed = λ q a any out lt flushed. next.flushed q a any out (omega (arith, lt, first.words)) (first.flushed q a any out lt flushed);
}

-- fewer actors and more words
pub keeps-weaken : (Q Q' W W' : ℕ → Type 0) (s t : State) → ((q : ℕ) → Q' q → Q q) → ((a : ℕ) → W a → W' a)
    → KeepsFlushed Q W s t → KeepsFlushed Q' W' s t
keeps-weaken Q Q' W W' s t fewer wider keeps = record {
  words = keeps.words;
  flushed = λ q a any out. keeps.flushed q a (fewer q any) (λ w. out (wider a w));
}
