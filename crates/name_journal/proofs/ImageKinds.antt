-- The kinds of images that a commit of several words leaves.
use Rattle.std.proofs.Common.{◌≡◌, ◌≢◌, ◌⊎◌, inl, inr, ℕ, ◌+◌, ◌*◌, ◌<◌, ◌≤◌, List, length, refl, sym, ◌∙◌, subst, arith}
use Rattle.std.specs.Prelude.{slice_index}
use Rattle.pm_device.specs.State.{State, Agree}
use Rattle.pm_device.specs.Settled.{MayLeave, IsFlushed, IsOldBut}
use Rattle.pm_device.specs.Reading.{Reads}
use Rattle.pm_device.specs.Pages.{IsInPage}
use Rattle.pm_layout.specs.Geometry.{gate_word}
use Rattle.dn_model.specs.Rolled.{rolled, pair_address, pair_value, IsGate, IsJournaled}
use Rattle.name_journal.specs.declared.change.Change.{Change}
use Rattle.name_journal.specs.Changes.{address, new_value, AreChanges, NewValues, IsTouched}
use Rattle.name_journal.specs.Pairs.{PairsOf, of_address, of_old}
use Rattle.name_journal.specs.AllOrNone.{AllOrNone}
use Rattle.name_journal.proofs.Named.{journaled_low}
use Rattle.name_journal.proofs.Told.{IsImage, now_may_stay}
use Rattle.name_journal.proofs.Rolling.{rolled_gate, rolled_other, rolled_pair}

-- the gate is so
abbrev pub GateSays : ℕ → ℕ → ℕ → Type 0
GateSays n a v = (a ≡ gate_word) × (v ≡ n)

-- the gate is open, and its pairs are those of the changes
abbrev pub OpenSays : List Change → List ℕ → ℕ → ℕ → Type 0
OpenSays changes w a v = GateSays (length changes) a v ⊎ PairsOf changes w a v

-- a word that the actor had flushed, but not of those that are stored to
pub record KeptSays (who : ℕ) (changes : List Change) (s : State) (a v : ℕ) : Type 0 where
  pub within : a < length s.now
  pub flushed : IsFlushed who s a
  pub out : IsTouched changes a → ⊥
  pub value : v ≡ slice_index s.now a

-- the values are new, and all that was flushed is there
abbrev pub NewSays : ℕ → List Change → State → ℕ → ℕ → Type 0
NewSays who changes s a v = NewValues changes (length changes) a v ⊎ KeptSays who changes s a v

-- and the gate is closed
abbrev pub DoneSays : ℕ → List Change → State → ℕ → ℕ → Type 0
DoneSays who changes s a v = GateSays 0 a v ⊎ NewSays who changes s a v

module _ (inodes who : ℕ) (changes : List Change) (s : State) (agree : Agree s.now s.past) (long : 1024 ≤ length s.now) (few : length changes ≤ 4)
    (are : AreChanges inodes changes)
    (table : (i : ℕ) → i < length changes → address changes i < length s.now) where
  high : (i : ℕ) → i < length changes → 1024 ≤ address changes i
  high i lt = journaled_low inodes (address changes i) (are.journaled i lt)

  pub not_in_page : (i : ℕ) → i < length changes → IsInPage 1 (address changes i) → ⊥
  not_in_page i lt h = omega (arith, high i lt, h.1)

  pub not_gate : (i : ℕ) → i < length changes → address changes i ≢ gate_word
  not_gate i lt e = omega (arith, high i lt, e)

  gate_touched : (a : ℕ) → (IsTouched changes a → ⊥) → a ≢ gate_word
  gate_touched a out e = out (inr (omega (arith, e), omega (arith, e)))

  module _ (c : List ℕ) (image : IsImage s c) where
    -- a closed gate is let through, and the image is its own rolled one
    module _ (shut : slice_index c gate_word ≡ 0) where
      shut_gate : IsGate inodes c
      shut_gate = record {
        few = omega (arith, shut);
        addresses = λ i lt. absurd (omega (arith, lt, shut));
        apart = λ i j lt lt' e. absurd
            (omega (arith, lt, shut));
      }

      shut_other : (a : ℕ) → a ≢ gate_word → slice_index (rolled c) a ≡ slice_index c a
      shut_other a ne = rolled_other c a ne (λ i lt. absurd (omega (arith, lt, shut)))

      pub all_or_none_closed : IsOldBut (IsInPage 1) s c → AllOrNone inodes who changes s c
      all_or_none_closed old = record {
        gate = shut_gate;
        closed = rolled_gate c (omega (arith, long, image.size));
        named = inl (λ i lt. subst (MayLeave s (address changes i)) (sym (shut_other (address changes i) (not_gate i lt)))
            (old (address changes i) (not_in_page i lt) (table i lt)));
        others = λ a out lt. subst (MayLeave s a) (sym (shut_other a (gate_touched a out))) (old a (λ h. out (inr h)) lt);
      }

      pub all_or_none_done : Reads (NewSays who changes s) c → IsOldBut (IsTouched changes) s c → AllOrNone inodes who changes s c
      all_or_none_done reads old = record {
        gate = shut_gate;
        closed = rolled_gate c (omega (arith, long, image.size));
        named = inr (record {
          values = λ i lt. shut_other (address changes i) (not_gate i lt) ∙ reads (address changes i) (new_value changes i)
              (inl (record { i = i; lt = lt; place = refl; value = refl }));
          flushed = λ a lt flushed out. shut_other a (gate_touched a out) ∙ reads a (slice_index s.now a)
              (inr (record { within = lt; flushed = flushed; out = out; value = refl }));
        });
        others = λ a out lt. subst (MayLeave s a) (sym (shut_other a (gate_touched a out))) (old a out lt);
      }

    -- an open gate
    module _ (reads : Reads (OpenSays changes s.now) c) where
      count : slice_index c gate_word ≡ length changes
      count = reads gate_word (length changes) (inl (refl, refl))

      at_pair : (i : ℕ) → i < length changes → pair_address c i ≡ address changes i
      at_pair i lt = reads (520 + 2 * i) (address changes i) (inr (of_address i lt refl refl))

      old_of : (i : ℕ) → i < length changes → pair_value c i ≡ slice_index s.now (address changes i)
      old_of i lt = reads (521 + 2 * i) (slice_index s.now (address changes i)) (inr (of_old i lt refl refl))

      open_gate : IsGate inodes c
      open_gate = record {
        few = omega (arith, count, few);
        addresses = λ i lt. let lt' : i < length changes = omega (arith, lt, count) in subst (IsJournaled inodes) (sym (at_pair i lt'))
            (are.journaled i lt');
        apart = λ i j lt lt' e. let li : i < length changes = omega (arith, lt, count) in let lj : j < length changes = omega (arith, lt', count) in
            are.apart i j li lj (sym (at_pair i li) ∙ e ∙ at_pair j lj);
      }

      named_old : (i : ℕ) → i < length changes → slice_index (rolled c) (address changes i) ≡ slice_index s.now (address changes i)
      named_old i lt = subst (λ (a : ℕ). slice_index (rolled c) a ≡ slice_index s.now (address changes i)) (at_pair i lt)
          (rolled_pair c i (omega (arith, lt, count)) (λ e. not_gate i lt (sym (at_pair i lt) ∙ e))
          (omega (arith, at_pair i lt, table i lt, image.size)) open_gate.apart ∙ old_of i lt)

      open_other : (a : ℕ) → (IsTouched changes a → ⊥) → slice_index (rolled c) a ≡ slice_index c a
      open_other a out = rolled_other c a (gate_touched a out) (λ i lt e. let li : i < length changes = omega (arith, lt, count) in
          out (inl (record { i = i; lt = li; is = e ∙ at_pair i li })))

      pub all_or_none_open : IsOldBut (IsTouched changes) s c → AllOrNone inodes who changes s c
      all_or_none_open old = record {
        gate = open_gate;
        closed = rolled_gate c (omega (arith, long, image.size));
        named = inl (λ i lt. subst (MayLeave s (address changes i)) (sym (named_old i lt)) (now_may_stay s (address changes i) agree (table i lt)));
        others = λ a out lt. subst (MayLeave s a) (sym (open_other a out)) (old a out lt);
      }
