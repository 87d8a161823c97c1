-- What layers above a device say of runs of its calls.
use Rattle.std.proofs.Common.{◌≡◌, ◌⊎◌, inl, inr, ⊎_elim, ℕ, zero, suc, ◌+◌, ◌-◌, ◌<◌, ◌≤◌, Bool, true, List, [], ◌∷◌, length, refl, sym, ◌∙◌, ap}
use Rattle.std.proofs.Common.{subst, arith}
use Rattle.std.specs.Prelude.{slice_index, Option}
use Rattle.std.proofs.lemmas.Bool.{cases_lt}
use Rattle.pm_device.specs.Past.{Past, moment, word_at}
use Rattle.pm_device.specs.State.{State, Fences, Agree}
use Rattle.pm_device.specs.Settled.{Each, OfWord, IsSettled, IsFlushed, IsRead, IsOldBut, LeavesOnly, LeavesNow, StoresOnly, KeepsFlushed}
use Rattle.pm_device.specs.Reading.{Reads, Stands, IsReady}
use Rattle.pm_device.specs.Commit.{Settles}
use Rattle.pm_device.specs.New.{IsNew}
use Rattle.pm_device.specs.Pages.{HoldsRun, SaysRun}
use Rattle.pm_device.proofs.Calls.{settled_is_flushed, settled-fence, flushed-fence, image_has}
use Rattle.pm_device.proofs.Only.{left-extends, extends_then}
use Rattle.pm_device.proofs.OneWord.{settled_if_left, reads-stores}

-- each word of a new device is settled
pub settled_new : (words : List ℕ) (s : State) (a : ℕ) → IsNew words s → IsSettled s a
unfolding word_at
settled_new words s a new =
    subst (λ (o : Option Past). OfWord o a (Each (IsRead s a))) (sym new.past)
    (λ i late lt. only_first i lt ∙ ap (λ xs. slice_index xs a) (sym new.now))
  where
    only_first : (i : ℕ) → i < 1 → slice_index (slice_index words a ∷ []) i ≡ slice_index words a
    only_first zero lt = refl
    only_first (suc i) lt = absurd (omega (arith, lt))

-- one run of calls after another
pub leaves_only-then : (s t u : State) (P : List ℕ → Type 0) → LeavesOnly s t P → LeavesOnly t u P → LeavesOnly s u P
leaves_only-then s t u P first next = record {
  extends = extends_then s.past t.past u.past first.extends next.extends;
  each = λ m c late left. elim (cases_lt m (moment t.past)) [
    | inl soon ↦ first.each m c late (left-extends t.past u.past m c next.extends (omega arith) left)
    | inr past ↦ next.each m c past left
  ];
}

-- a run of calls that stores to the words W alone, where a fact of images doesn't look at them
pub leaves_only-only : (W : ℕ → Type 0) (s t : State) (P : List ℕ → Type 0) → StoresOnly W s t → ((c : List ℕ) → IsOldBut W s c → P c)
    → LeavesOnly s t P
leaves_only-only W s t P only gives = record { extends = only.extends; each = λ m c late left. gives c (only.images m c late left) }

-- while other words are stored to, what is said reads the same in each image
pub leaves_only-stores : (W : ℕ → Type 0) (s t : State) (says : ℕ → ℕ → Type 0) → StoresOnly W s t → ((a v : ℕ) → says a v → W a → ⊥)
    → Stands says s → LeavesOnly s t (Reads says)
leaves_only-stores W s t says only apart stands = record { extends = only.extends; each = reads-stores W s t only says apart stands }

-- what stands is read in each image of now
pub leaves_now-stands : (s : State) (says : ℕ → ℕ → Type 0) → Agree s.now s.past → Stands says s → LeavesNow s (Reads says)
leaves_now-stands s says agree stands c left a v told =
    image_has s c a (IsRead s a) agree left (stands.within a v told) (stands.settled a v told) ∙ stands.reads a v told

-- a settled word stays settled while others are stored to
pub settled-stores : (W : ℕ → Type 0) (s t : State) (a : ℕ) → StoresOnly W s t → (W a → ⊥) → IsSettled s a → IsSettled t a
settled-stores W s t a only out =
    settled_if_left s.past t.past a (slice_index s.now a) (slice_index t.now a) only.extends (only.read a out) (λ v. only.left a v out)

-- what an actor prepared stays so while others store elsewhere, and while no fence of its own fails
pub ready-stores : (Q W : ℕ → Type 0) (who : ℕ) (s t : State) (fresh : ℕ → ℕ → Type 0) → StoresOnly W s t → KeepsFlushed Q W s t → Q who
    → ((a v : ℕ) → fresh a v → W a → ⊥) → IsReady who fresh s → IsReady who fresh t
ready-stores Q W who s t fresh only keeps is_kept apart ready = record {
  within = λ a v new. omega (arith, ready.within a v new, only.words);
  reads = λ a v new. only.read a (apart a v new) ∙ ready.reads a v new;
  flushed = λ a v new. keeps.flushed who a is_kept (apart a v new) (ready.within a v new) (ready.flushed a v new);
}

pub stands-weaken : (s : State) (f g : ℕ → ℕ → Type 0) → ((a v : ℕ) → g a v → f a v) → Stands f s → Stands g s
stands-weaken s f g gives stands = record {
  within = λ a v said. stands.within a v (gives a v said);
  reads = λ a v said. stands.reads a v (gives a v said);
  settled = λ a v said. stands.settled a v (gives a v said);
}

pub ready-weaken : (who : ℕ) (s : State) (f g : ℕ → ℕ → Type 0) → ((a v : ℕ) → g a v → f a v) → IsReady who f s → IsReady who g s
ready-weaken who s f g gives ready = record {
  within = λ a v said. ready.within a v (gives a v said);
  reads = λ a v said. ready.reads a v (gives a v said);
  flushed = λ a v said. ready.flushed a v (gives a v said);
}

pub stands-both : (s : State) (f g : ℕ → ℕ → Type 0) → Stands f s → Stands g s → Stands (λ a v. f a v ⊎ g a v) s
stands-both s f g first next = record {
  within = λ a v said. ⊎_elim (λ (one : f a v). first.within a v one) (λ (other : g a v). next.within a v other) said;
  reads = λ a v said. ⊎_elim (λ (one : f a v). first.reads a v one) (λ (other : g a v). next.reads a v other) said;
  settled = λ a v said. ⊎_elim (λ (one : f a v). first.settled a v one) (λ (other : g a v). next.settled a v other) said;
}

pub ready-both : (who : ℕ) (s : State) (f g : ℕ → ℕ → Type 0) → IsReady who f s → IsReady who g s → IsReady who (λ a v. f a v ⊎ g a v) s
ready-both who s f g first next = record {
  within = λ a v said. ⊎_elim (λ (one : f a v). first.within a v one) (λ (other : g a v). next.within a v other) said;
  reads = λ a v said. ⊎_elim (λ (one : f a v). first.reads a v one) (λ (other : g a v). next.reads a v other) said;
  flushed = λ a v said. ⊎_elim (λ (one : f a v). first.flushed a v one) (λ (other : g a v). next.flushed a v other) said;
}

-- what stands awaits no fence
pub stands_is_ready : (who : ℕ) (s : State) (says : ℕ → ℕ → Type 0) → Stands says s → IsReady who says s
stands_is_ready who s says stands = record {
  within = stands.within;
  reads = stands.reads;
  flushed = λ a v told. settled_is_flushed s who a (stands.settled a v told);
}

-- a run that was written is prepared
pub run_is_ready : (who at : ℕ) (values : List ℕ) (s : State) → at + length values ≤ length s.now → HoldsRun who at values s
    → IsReady who (SaysRun at values) s
run_is_ready who at values s fits holds = record {
  within = λ a v said. omega (arith, said.0.1, fits);
  reads = λ a v said. let place = here a said.0.0 in
      ap (slice_index s.now) (sym place) ∙ holds.reads (a - at) (omega (arith, said.0.0, said.0.1))
      ∙ sym said.1;
  flushed = λ a v said. subst (IsFlushed who s) (here a said.0.0) (holds.flushed (a - at) (omega (arith, said.0.0, said.0.1)));
}
  where
    here : (a : ℕ) → at ≤ a → at + (a - at) ≡ a
    here a le = omega arith

-- what stands goes through a fence, whatever it answers
pub stands-fence : (s t : State) (who : ℕ) (ok : Bool) (says : ℕ → ℕ → Type 0) → Fences who ok s t → Stands says s → Stands says t
stands-fence s t who ok says fences stands = record {
  within = λ a v told. omega (arith, stands.within a v told, ap length fences.now);
  reads = λ a v told. ap (λ xs. slice_index xs a) fences.now ∙ stands.reads a v told;
  settled = λ a v told. settled-fence s t a who ok fences (stands.settled a v told);
}

-- what its actor prepared stands after a fence that succeeds
pub ready-fence : (s t : State) (who : ℕ) (ok : Bool) (fresh : ℕ → ℕ → Type 0) → ok ≡ true → Fences who ok s t → IsReady who fresh s → Stands fresh t
ready-fence s t who ok fresh went fences ready = record {
  within = λ a v new. omega (arith, ready.within a v new, ap length fences.now);
  reads = λ a v new. ap (λ xs. slice_index xs a) fences.now ∙ ready.reads a v new;
  settled = λ a v new. flushed-fence s t a who ok went fences (ready.flushed a v new);
}

-- so it does after any run of calls that stored elsewhere and settled what its actor had flushed
pub ready-settles : (W : ℕ → Type 0) (who : ℕ) (s t : State) (fresh : ℕ → ℕ → Type 0) → StoresOnly W s t → Settles who s t
    → ((a v : ℕ) → fresh a v → W a → ⊥) → IsReady who fresh s → Stands fresh t
ready-settles W who s t fresh only settles apart ready = record {
  within = λ a v new. omega (arith, ready.within a v new, only.words);
  reads = λ a v new. only.read a (apart a v new) ∙ ready.reads a v new;
  settled = λ a v new. settles.flushed a (ready.flushed a v new);
}
