-- The pairs' values are stored, and then the gate is closed.
use Rattle.std.proofs.Common.{
  ◌≡◌,
  ◌≢◌,
  inl,
  inr,
  ⊎_elim,
  ℕ,
  ◌<◌,
  ◌≤◌,
  List,
  length,
  sym,
  ◌∙◌,
  ap,
  subst,
  arith,
  get_or-set_same,
  get_or-set_other,
  length-set,
}
use Rattle.std.specs.Prelude.{slice_index}
use Rattle.std.proofs.lemmas.Bool.{cases_eq}
use Rattle.pm_device.specs.State.{State, Agree}
use Rattle.pm_device.specs.Settled.{IsSettled, IsFlushed, Still, LeavesOnly, StoresOnly, KeepsFlushed, IsOldBut, Others, Anyone}
use Rattle.pm_device.specs.Reading.{IsReady}
use Rattle.pm_device.specs.Commit.{IsCommitted, IsDone}
use Rattle.pm_device.proofs.Calls.{settled_is_flushed}
use Rattle.pm_device.proofs.Layers.{settled-stores, leaves_only-then}
use Rattle.pm_device.proofs.Only.{stores_only-then, stores_only-weaken}
use Rattle.pm_device.proofs.Flushed.{keeps-then, keeps-weaken}
use Rattle.pm_layout.specs.Geometry.{gate_word}
use Rattle.dn_model.specs.Rolled.{rolled, pair_address, pair_value}
use Rattle.name_journal.specs.declared.change.Change.{Change}
use Rattle.name_journal.specs.Changes.{IsNamed, NewValues}
use Rattle.name_journal.specs.Pairs.{AreOpen, IsRolledAt, HasGateOf}
use Rattle.name_journal.proofs.Told.{IsImage, leaves_only-image, stores_leave, settled_value_is}
use Rattle.name_journal.proofs.Rolling.{rolled_same, is_rolled, cases_named}

abbrev AtGate : ℕ → Type 0
AtGate a = a ≡ gate_word

module _ (who : ℕ) (pairs : List Change) (s t u : State) (agree_s : Agree s.now s.past) (agree_t : Agree t.now t.past) (long : 1024 ≤ length s.now)
    (are : AreOpen s.now pairs)
    (values : StoresOnly (IsNamed pairs) s t) (ready : IsReady who (NewValues pairs (length pairs)) t) where
  -- no pair names the word
  abbrev Apart : ℕ → Type 0
  Apart a = (i : ℕ) → i < slice_index s.now gate_word → a ≢ pair_address s.now i

  not_named : (a : ℕ) → Apart a → IsNamed pairs a → ⊥
  not_named a none named = none named.i (omega (arith, named.lt, are.count)) (named.is ∙ are.addresses named.i named.lt)

  gate_apart : Apart gate_word
  gate_apart i lt e = omega (arith, are.can.high i lt, e)

  told : (i : ℕ) → i < slice_index s.now gate_word → NewValues pairs (length pairs) (pair_address s.now i) (pair_value s.now i)
  told i lt = let few : i < length pairs = omega (arith, lt, are.count) in record {
    i = i;
    lt = few;
    place = sym (are.addresses i few);
    value = sym (are.values i few);
  }

  put_t : (i : ℕ) → i < slice_index s.now gate_word → slice_index t.now (pair_address s.now i) ≡ pair_value s.now i
  put_t i lt = ready.reads (pair_address s.now i) (pair_value s.now i) (told i lt)

  gate_t : slice_index t.now gate_word ≡ slice_index s.now gate_word
  gate_t = values.read gate_word (not_named gate_word gate_apart)

  settled_t : Still s → (a : ℕ) → a < length s.now → Apart a → IsSettled t a
  settled_t still a lt none = settled-stores (IsNamed pairs) s t a values (not_named a none) (still a lt)

  -- while the values are stored
  image_values : Still s → (c : List ℕ) → IsImage s c → IsOldBut (IsNamed pairs) s c → rolled c ≡ rolled s.now
  image_values still c image old = rolled_same s.now are.can long c (record {
    size = image.size;
    gate = inl (stays gate_word (omega (arith, long)) gate_apart);
    others = λ a lt ne none. stays a lt none;
  })
    where
      stays : (a : ℕ) → a < length s.now → Apart a → slice_index c a ≡ slice_index s.now a
      stays a lt none = settled_value_is s a (slice_index c a) image.told (old a (not_named a none) lt) (still a lt)

  -- while the gate is closed
  image_gate : Still s → (c : List ℕ) → IsImage t c → IsCommitted who gate_word 0 t c → rolled c ≡ rolled s.now
  image_gate still c image committed = rolled_same s.now are.can long c (record {
    size = image.size ∙ values.words;
    gate = ⊎_elim (λ same. inl (same ∙ gate_t))
        (λ moved. inr (
          moved.0,
          λ i lt. moved.1 (pair_address s.now i) (omega (arith, are.can.within i lt, values.words))
              (ready.flushed (pair_address s.now i) (pair_value s.now i) (told i lt)) (λ e. gate_apart i lt (sym e)) ∙ put_t i lt,
        )) committed.word;
    others = λ a lt ne none. committed.others a (omega (arith, lt, values.words)) (settled_t still a lt none) ne ∙ values.read a (not_named a none);
  })

  pairs_apart : (a : ℕ) → 520 ≤ a → a < 528 → Apart a
  pairs_apart a low high i lt e = omega (arith, are.can.high i lt, e, high)

  gate_values : Still s → (c : List ℕ) → IsImage s c → IsOldBut (IsNamed pairs) s c → HasGateOf s.now c
  gate_values still c image old = record {
    gate = inl (stays gate_word (omega (arith, long)) gate_apart);
    pairs = λ a low high. stays a (omega (arith, long, high)) (pairs_apart a low high);
  }
    where
      stays : (a : ℕ) → a < length s.now → Apart a → slice_index c a ≡ slice_index s.now a
      stays a lt none = settled_value_is s a (slice_index c a) image.told (old a (not_named a none) lt) (still a lt)

  gate_closed : Still s → (c : List ℕ) → IsImage t c → IsCommitted who gate_word 0 t c → HasGateOf s.now c
  gate_closed still c image committed = record {
    gate = ⊎_elim (λ same. inl (same ∙ gate_t)) (λ moved. inr moved.0) committed.word;
    pairs = λ a low high. committed.others a (omega (arith, high, long, values.words)) (settled_t still a (omega (arith, high, long))
        (pairs_apart a low high)) (λ e. omega (arith, e, low)) ∙ values.read a (not_named a (pairs_apart a low high));
  }

  pub gates_at_any_moment : (IsSettled t gate_word → LeavesOnly t u (IsCommitted who gate_word 0 t)) → Still s → LeavesOnly s u (HasGateOf s.now)
  gates_at_any_moment closing still =
      leaves_only-then s t u (HasGateOf s.now)
      (leaves_only-image s t (IsOldBut (IsNamed pairs) s) (HasGateOf s.now) agree_s (gate_values still) (stores_leave (IsNamed pairs) s t values))
      (leaves_only-image t u (IsCommitted who gate_word 0 t) (HasGateOf s.now) agree_t (gate_closed still)
      (closing (settled_t still gate_word (omega (arith, long)) gate_apart)))

  pub rolls_at_any_moment : (IsSettled t gate_word → LeavesOnly t u (IsCommitted who gate_word 0 t)) → Still s
      → LeavesOnly s u (λ c. rolled c ≡ rolled s.now)
  rolls_at_any_moment closing still =
      let P = λ (c : List ℕ). rolled c ≡ rolled s.now in
      leaves_only-then s t u P
      (leaves_only-image s t (IsOldBut (IsNamed pairs) s) P agree_s (image_values still) (stores_leave (IsNamed pairs) s t values))
      (leaves_only-image t u (IsCommitted who gate_word 0 t) P agree_t (image_gate still)
      (closing (settled_t still gate_word (omega (arith, long)) gate_apart)))

  pub rolls_now : IsDone who gate_word 0 t u → u.now ≡ rolled s.now
  rolls_now done = is_rolled s.now are.can long u.now
      (ap length done.now ∙ length-set t.now gate_word 0 ∙ values.words)
      (ap (λ xs. slice_index xs gate_word) done.now ∙ get_or-set_same t.now gate_word 0 0 (omega (arith, long, values.words)))
      (λ i lt. now_other (pair_address s.now i) (λ e. gate_apart i lt (sym e)) ∙ put_t i lt)
      (λ a lt ne none. now_other a ne ∙ values.read a (not_named a none))
    where
      now_other : (a : ℕ) → a ≢ gate_word → slice_index u.now a ≡ slice_index t.now a
      now_other a ne = ap (λ xs. slice_index xs a) done.now ∙ get_or-set_other t.now gate_word a 0 0 ne

  pub rolls_still : IsDone who gate_word 0 t u → Still s → Still u
  rolls_still done still a lt = elim (cases_eq a gate_word) [
    | inl e ↦ subst (IsSettled u) (sym e) done.word
    | inr ne ↦ done.flushed a (omega (arith, inside)) (flushed_t a (omega (arith, inside, values.words))) ne
  ]
    where
      inside : a < length t.now
      inside = omega (arith, lt, ap length done.now, length-set t.now gate_word 0)

      flushed_t : (b : ℕ) → b < length s.now → IsFlushed who t b
      flushed_t b few = ⊎_elim
          (λ (found : (i : ℕ) × (i < slice_index s.now gate_word) × (b ≡ pair_address s.now i)). subst (IsFlushed who t) (sym found.2)
          (ready.flushed (pair_address s.now found.0) (pair_value s.now found.0) (told found.0 found.1)))
          (λ (none : Apart b). settled_is_flushed t who b (settled_t still b few none))
          (cases_named s.now b (slice_index s.now gate_word))

  pub rolls_only : StoresOnly AtGate t u → StoresOnly (IsRolledAt pairs) s u
  rolls_only only = let W = IsRolledAt pairs in
      stores_only-then W s t u (stores_only-weaken (IsNamed pairs) W s t (λ a named. inl named) values)
      (stores_only-weaken AtGate W t u (λ a e. inr e) only)

  pub rolls_others : KeepsFlushed Anyone (IsNamed pairs) s t → KeepsFlushed (Others who) AtGate t u → KeepsFlushed (Others who) (IsRolledAt pairs) s u
  rolls_others keeps others = let W = IsRolledAt pairs in let Q = Others who in
      keeps-then Q W s t u (keeps-weaken Anyone Q (IsNamed pairs) W s t (λ q any. tt) (λ a named. inl named) keeps)
      (keeps-weaken Q Q AtGate W t u (λ q other. other) (λ a e. inr e) others)
