-- Values are stored, one change after another.
use Rattle.std.proofs.Common.{◌≡◌, ◌≢◌, inl, inr, ℕ, ◌+◌, ◌*◌, ◌<◌, ◌≤◌, List, [], ◌∷◌, length, sym, ◌∙◌, ap, subst, arith}
use Rattle.std.specs.Prelude.{slice_index}
use Rattle.std.proofs.lemmas.Bool.{cases_eq}
use Rattle.pm_device.specs.State.{State, Agree}
use Rattle.pm_device.specs.Settled.{StoresOnly, KeepsFlushed, Anyone, IsFlushed}
use Rattle.pm_device.specs.Words.{IsIn}
use Rattle.pm_device.specs.Reading.{IsReady}
use Rattle.pm_device.specs.Pages.{HoldsRun}
use Rattle.pm_device.proofs.Only.{stores_only-none, stores_only-then, stores_only-weaken}
use Rattle.pm_device.proofs.Flushed.{keeps-none, keeps-then, keeps-weaken}
use Rattle.pm_device.proofs.Layers.{ready-stores}
use Rattle.name_journal.specs.declared.change.Change.{Change}
use Rattle.name_journal.specs.Changes.{address, new_value, AreApart, AreInside, IsNamed, NewValues}

-- the values of the first k changes are stored, since s
pub record StoresValues (who : ℕ) (changes : List Change) (s : State) (k : ℕ) (t : State) : Type 0 where
  pub only : StoresOnly (IsNamed changes) s t
  pub ready : IsReady who (NewValues changes k) t
  pub keeps : KeepsFlushed Anyone (IsNamed changes) s t
  pub spare : s.spare ≤ t.spare + 2 * k
  pub faults : s.faults ≤ t.faults

pub no_values : (who : ℕ) (changes : List Change) (s : State) → Agree s.now s.past → StoresValues who changes s 0 s
no_values who changes s agree = record {
  only = stores_only-none (IsNamed changes) s agree;
  ready = record {
    within = λ a v told. absurd (omega (arith, told.lt));
    reads = λ a v told. absurd (omega (arith, told.lt));
    flushed = λ a v told.
        absurd (omega (arith, told.lt));
  };
  keeps = keeps-none Anyone (IsNamed changes) s;
  spare = omega arith;
  faults = omega arith;
}

-- one more
module _ (who : ℕ) (changes : List Change) (s t u : State) (k at value : ℕ) (at_is : at ≡ address changes k) (value_is : value ≡ new_value changes k)
    (lt : k < length changes)
    (apart : AreApart changes) (inside : AreInside changes (length s.now)) (so_far : StoresValues who changes s k t)
    (only : StoresOnly (IsIn at 1) t u) (holds : HoldsRun who at (value ∷ []) u) (keeps : KeepsFlushed Anyone (IsIn at 1) t u) where
  named : (a : ℕ) → IsIn at 1 a → IsNamed changes a
  named a h = record { i = k; lt = lt; is = omega (arith, h.0, h.1, at_is) }

  earlier : IsReady who (NewValues changes k) u
  earlier = ready-stores Anyone (IsIn at 1) who t u (NewValues changes k) only keeps tt
      (λ a v told h. let e : told.i ≡ k = apart told.i k (omega (arith, told.lt, lt)) lt (omega (arith, told.place, h.0, h.1, at_is)) in
      omega (arith, e, told.lt)) so_far.ready

  read_here : slice_index u.now at ≡ value
  read_here = let z : at + 0 ≡ at = omega arith in subst (λ (a : ℕ). slice_index u.now a ≡ value) z (holds.reads 0 (omega arith))

  flushed_here : IsFlushed who u at
  flushed_here = let z : at + 0 ≡ at = omega arith in subst (IsFlushed who u) z (holds.flushed 0 (omega arith))

  before : (a v : ℕ) (told : NewValues changes (k + 1) a v) → told.i ≢ k → NewValues changes k a v
  before a v told ne = record { i = told.i; lt = omega (arith, told.lt, ne); place = told.place; value = told.value }

  here : (a v : ℕ) (told : NewValues changes (k + 1) a v) → told.i ≡ k → a ≡ at
  here a v told e = told.place ∙ ap (address changes) e ∙ sym at_is

  pub one_value : t.spare ≤ u.spare + 2 → t.faults ≤ u.faults → StoresValues who changes s (k + 1) u
  one_value spare faults = record {
    only = stores_only-then (IsNamed changes) s t u so_far.only (stores_only-weaken (IsIn at 1) (IsNamed changes) t u named only);
    ready = record {
      within = λ a v told. omega (arith, told.place, inside told.i (omega (arith, told.lt, lt)), only.words, so_far.only.words);
      reads = λ a v told. elim (cases_eq told.i k) [
        | inl e ↦ ap (slice_index u.now) (here a v told e) ∙ read_here ∙ value_is ∙ ap (new_value changes) (sym e) ∙ sym told.value
        | inr ne ↦ earlier.reads a v (before a v told ne)
      ];
      flushed = λ a v told. elim (cases_eq told.i k) [
        | inl e ↦ subst (IsFlushed who u) (sym (here a v told e)) flushed_here
        | inr ne ↦ earlier.flushed a v (before a v told ne)
      ];
    };
    keeps = keeps-then Anyone (IsNamed changes) s t u so_far.keeps (keeps-weaken Anyone Anyone (IsIn at 1) (IsNamed changes) t u (λ q any. any) named
        keeps);
    spare = omega (arith, so_far.spare, spare);
    faults = omega (arith, so_far.faults, faults);
  }
