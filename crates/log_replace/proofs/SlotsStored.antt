-- The slots of a page are stored, one after another.
use Rattle.std.proofs.Common.{◌≡◌, ◌≢◌, inl, inr, ℕ, ◌+◌, ◌-◌, ◌*◌, ◌<◌, ◌≤◌, List, [], length, get_or, sym, ◌∙◌, ap, subst, arith}
use Rattle.std.specs.Prelude.{slice_index}
use Rattle.std.proofs.lemmas.Bool.{cases_eq}
use Rattle.pm_device.specs.State.{State, Agree}
use Rattle.pm_device.specs.Settled.{Anyone, IsFlushed, FlushesAll}
use Rattle.pm_device.specs.Words.{IsIn}
use Rattle.pm_device.specs.Reading.{IsReady}
use Rattle.pm_device.specs.Lines.{StoresRun}
use Rattle.pm_device.proofs.Only.{stores_only-none, stores_only-then, stores_only-weaken}
use Rattle.pm_device.proofs.Flushed.{keeps-none, keeps-then, keeps-weaken}
use Rattle.pm_device.proofs.AllFlushed.{flushes-none, flushes-then}
use Rattle.pm_device.proofs.Layers.{ready-stores}
use Rattle.log_replace.specs.Slots.{SlotsSay, IsSlotWord, StoresSlots}

pub no_slots : (who page : ℕ) (slots : List (List ℕ)) (first last : ℕ) (s : State) → Agree s.now s.past
    → StoresSlots who page slots first last s first s
no_slots who page slots first last s agree = record {
  only = stores_only-none (IsSlotWord page (last - first)) s agree;
  ready = record {
    within = λ a v told. absurd (omega (arith, told.low, told.high));
    reads = λ a v told. absurd (omega (arith, told.low, told.high));
    flushed = λ a v told.
        absurd (omega (arith, told.low, told.high));
  };
  keeps = keeps-none Anyone (IsSlotWord page (last - first)) s;
  flushes = flushes-none who s;
  spare = omega arith;
  faults = omega arith;
}

-- one more
module _ (who page : ℕ) (slots : List (List ℕ)) (first last m : ℕ) (s t u : State) (low : first ≤ m) (lt : m < last) (few : last ≤ first + 63)
    (inside : 512 * page + 512 ≤ length s.now) (so_far : StoresSlots who page slots first last s m t)
    (line : ℕ) (line_is : line ≡ 64 * page + (m - first)) (words : List ℕ) (words_are : words ≡ get_or slots m []) (eight : length words ≡ 8)
    (run : StoresRun who (8 * line) words t u) where
  in_run : (a : ℕ) → IsIn (8 * line) (length words) a → IsSlotWord page (last - first) a
  in_run a here = (omega (arith, here.0, line_is), omega (arith, here.1, eight, line_is, low, lt))

  earlier : IsReady who (SlotsSay page slots first m) u
  earlier = ready-stores Anyone (IsIn (8 * line) (length words)) who t u (SlotsSay page slots first m) run.only run.keeps tt
      (λ a v told here. omega (arith, told.place, told.low, told.high, told.small, here.0, line_is)) so_far.ready

  before : (a v : ℕ) (told : SlotsSay page slots first (m + 1) a v) → told.n ≢ m → SlotsSay page slots first m a v
  before a v told ne = record {
    n = told.n;
    j = told.j;
    low = told.low;
    high = omega (arith, told.high, ne);
    small = told.small;
    place = told.place;
    value = told.value;
  }

  at_run : (a v : ℕ) (told : SlotsSay page slots first (m + 1) a v) → told.n ≡ m → a ≡ 8 * line + told.j
  at_run a v told e = omega (arith, told.place, e, line_is)

  here_read : (a v : ℕ) (told : SlotsSay page slots first (m + 1) a v) → told.n ≡ m → slice_index u.now a ≡ v
  here_read a v told e = ap (slice_index u.now) (at_run a v told e) ∙ run.reads told.j (omega (arith, told.small, eight))
      ∙ ap (λ ws. slice_index ws told.j) (words_are ∙ ap (λ (i : ℕ). get_or slots i []) (sym e)) ∙ sym told.value

  here_flushed : (a v : ℕ) (told : SlotsSay page slots first (m + 1) a v) → told.n ≡ m → IsFlushed who u a
  here_flushed a v told e = subst (IsFlushed who u) (sym (at_run a v told e)) (run.flushed told.j (omega (arith, told.small, eight)))

  pub one_slot : FlushesAll who t u → t.spare ≤ u.spare + 9 → t.faults ≤ u.faults → StoresSlots who page slots first last s (m + 1) u
  one_slot flushes spare faults = record {
    only = stores_only-then (IsSlotWord page (last - first)) s t u so_far.only
        (stores_only-weaken (IsIn (8 * line) (length words)) (IsSlotWord page (last - first)) t u in_run run.only);
    ready = record {
      within = λ a v told. omega (arith, told.place, told.low, told.high, told.small, inside, lt, few, run.only.words, so_far.only.words);
      reads = λ a v told. elim (cases_eq told.n m) [
        | inl e ↦ here_read a v told e
        | inr ne ↦ earlier.reads a v (before a v told ne)
      ];
      flushed = λ a v told. elim (cases_eq told.n m) [
        | inl e ↦ here_flushed a v told e
        | inr ne ↦ earlier.flushed a v (before a v told ne)
      ];
    };
    keeps = keeps-then Anyone (IsSlotWord page (last - first)) s t u so_far.keeps
        (keeps-weaken Anyone Anyone (IsIn (8 * line) (length words)) (IsSlotWord page (last - first)) t u (λ q any. any) in_run run.keeps);
    flushes = flushes-then who s t u so_far.flushes flushes;
    spare = omega (arith, so_far.spare, spare);
    faults = omega (arith, so_far.faults, faults);
  }
