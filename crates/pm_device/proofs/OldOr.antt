-- What a crash leaves of words while fresh values are stored to them: an old value or a fresh one.
use Rattle.std.proofs.Common.{◌≡◌, ◌⊎◌, inl, inr, ⊎_elim, ℕ, ◌-◌, ◌<◌, ◌≤◌, List, [], ◌∷◌, ◌++◌, length, refl, sym, ◌∙◌, ap, subst}
use Rattle.std.proofs.Common.{arith, length-append}
use Rattle.std.specs.Prelude.{slice_index, Option, Some, None}
use Rattle.std.proofs.lemmas.List.{get_or_append_left, get_or_at}
use Rattle.std.proofs.lemmas.Bool.{cases_lt}
use Rattle.pm_device.specs.Past.{Call, Stored, Word, Past, MayHold, step, moment}
use Rattle.pm_device.specs.State.{State, Stores, IsSame, after, Agree}
use Rattle.pm_device.specs.Settled.{Each, EachLeft, OfWord, IsSettled, MayLeave, LeavesOnly, LeavesNow, StoresOnly, Nowhere, IsOldOr, LeavesOldOr}
use Rattle.pm_device.specs.Settled.{word_now}
use Rattle.pm_device.specs.Commit.{LeavesOneWord}
use Rattle.pm_device.specs.Reading.{Stands}
use Rattle.pm_device.specs.Words.{IsIn, cases_in, covers_in, covers_out}
use Rattle.pm_device.specs.Pages.{SaysRun}
use Rattle.pm_device.specs.Runs.{length-put_run}
use Rattle.pm_device.proofs.Calls.{word_now-after, each_left-weaken, image_has}
use Rattle.pm_device.proofs.Moments.{started, goes_on}
use Rattle.pm_device.proofs.OneWord.{settled_value}
use Rattle.pm_device.proofs.Only.{left-extends, extends_then, stores_only-same}

-- a value that a word may hold after a store it may have held before, or was stored
holds_store : (a v : ℕ) (w : Word) (at : ℕ) (vs : List ℕ) → MayHold (step a w (Stored at vs)) v → MayHold w v ⊎ SaysRun at vs a v
holds_store a v w at vs held = elim (cases_in at (length vs) a) [
  | inl here ↦ added here (slice_index vs (a - at)) refl (rw (covers_in at (length vs) a here.0 here.1) at held)
  | inr out ↦ inl (rw (covers_out at (length vs) a out) at held)
]
  where
    added : IsIn at (length vs) a → (x : ℕ) → x ≡ slice_index vs (a - at)
        → MayHold (record { values = w.values ++ x ∷ []; durable = w.durable; marks = w.marks }) v → MayHold w v ⊎ SaysRun at vs a v
    added here x is held = elim (cases_lt held.place (length w.values)) [
      | inl old ↦ inl (record {
        place = held.place;
        late = held.late;
        known = old;
        value = sym (get_or_append_left w.values (x ∷ []) 0 held.place old) ∙ held.value;
      })
      | inr past ↦ inr (here, sym held.value ∙ get_or_at w.values x [] 0 held.place (end held past) ∙ is)
    ]
      where
        end : (h : MayHold (record { values = w.values ++ x ∷ []; durable = w.durable; marks = w.marks }) v)
            → length w.values ≤ h.place → length w.values ≡ h.place
        end h past = omega (arith, past, h.known, length-append w.values (x ∷ []))

-- the same of a device's word
left_or : (p q : Option Past) (call : Call) (a v : ℕ) (F : Type 0) → q ≡ after p call
    → ((w : Word) → MayHold (step a w call) v → MayHold w v ⊎ F) → OfWord q a (λ w. MayHold w v) → OfWord p a (λ w. MayHold w v) ⊎ F
left_or None q call a v F is goes held = inl tt
left_or (Some p) q call a v F is goes held =
    goes (word_now p a) (subst (λ w. MayHold w v) (word_now-after p call a) (subst (λ (o : Option Past). OfWord o a (λ w. MayHold w v)) is held))

-- each value that a crash may leave is one that it may leave
each_may : (s : State) (a : ℕ) → EachLeft s a (MayLeave s a)
each_may s a = of_word s.past
  where
    of_word : (p : Option Past) → OfWord p a (Each (λ v. OfWord p a (λ w. MayHold w v)))
    of_word None = tt
    of_word (Some p) = λ i late lt. record { place = i; late = late; known = lt; value = refl }

-- a store of a run
module _ (s t : State) (at : ℕ) (vs : List ℕ) (agree_s : Agree s.now s.past) (agree_t : Agree t.now t.past) (stores : Stores at vs s t) where
  long : length t.now ≡ length s.now
  long = ap length stores.now ∙ length-put_run s.now at vs

  old_or_run : (a v : ℕ) → MayLeave t a v → MayLeave s a v ⊎ SaysRun at vs a v
  old_or_run a v = left_or s.past t.past (Stored at vs) a v (SaysRun at vs a v) stores.past (λ w. holds_store a v w at vs)

  run_images : LeavesOnly s t (IsOldOr (SaysRun at vs) s)
  run_images =
      let P = IsOldOr (SaysRun at vs) s in
      let now : LeavesNow s P = λ c left a lt. inl (image_has s c a (MayLeave s a) agree_s left lt (each_may s a)) in
      goes_on s s t P (Stored at vs) (started s P now) stores.past (λ c left a lt.
      image_has t c a (λ v. MayLeave s a v ⊎ SaysRun at vs a v) agree_t left (omega (arith, lt, long))
      (each_left-weaken t t a (MayLeave t a) (λ v. MayLeave s a v ⊎ SaysRun at vs a v) (old_or_run a) (each_may t a)))

  pub leaves_old_or-store : LeavesOldOr (SaysRun at vs) s t
  leaves_old_or-store = record { extends = run_images.extends; words = long; left = old_or_run; images = run_images.each }

-- calls that store nothing
pub leaves_old_or-nowhere : (fresh : ℕ → ℕ → Type 0) (s t : State) → StoresOnly Nowhere s t → LeavesOldOr fresh s t
leaves_old_or-nowhere fresh s t only = record {
  extends = only.extends;
  words = only.words;
  left = λ a v may. inl (only.left a v (λ no. no) may);
  images = λ m c late left a lt. inl (only.images m c late left a (λ no. no) lt);
}

pub leaves_old_or-same : (fresh : ℕ → ℕ → Type 0) (s t : State) → Agree s.now s.past → IsSame s t → LeavesOldOr fresh s t
leaves_old_or-same fresh s t agree same = leaves_old_or-nowhere fresh s t (stores_only-same Nowhere s t agree same)

-- one run of calls after another
pub leaves_old_or-then : (fresh : ℕ → ℕ → Type 0) (s t u : State) → LeavesOldOr fresh s t → LeavesOldOr fresh t u → LeavesOldOr fresh s u
leaves_old_or-then fresh s t u first next = record {
  extends = extends_then s.past t.past u.past first.extends next.extends;
  words = next.words ∙ first.words;
  left = λ a v may. ⊎_elim (λ old. first.left a v old) (λ new. inr new) (next.left a v may);
  images = λ m c late left a lt. elim (cases_lt m (moment t.past)) [
    | inl soon ↦ first.images m c late (left-extends t.past u.past m c next.extends (omega arith) left) a lt
    | inr past ↦ ⊎_elim (λ old. first.left a (slice_index c a) old) (λ new. inr new) (next.images m c past left a (omega (arith, lt, first.words)))
  ];
}

-- more values
pub leaves_old_or-weaken : (f g : ℕ → ℕ → Type 0) (s t : State) → ((a v : ℕ) → f a v → g a v) → LeavesOldOr f s t → LeavesOldOr g s t
leaves_old_or-weaken f g s t gives leaves = record {
  extends = leaves.extends;
  words = leaves.words;
  left = λ a v may. ⊎_elim (λ old. inl old) (λ new. inr (gives a v new)) (leaves.left a v may);
  images = λ m c late left a lt.
      ⊎_elim (λ old. inl old) (λ new. inr (gives a (slice_index c a) new)) (leaves.images m c late left a lt);
}

module _ (fresh : ℕ → ℕ → Type 0) (s t : State) (leaves : LeavesOldOr fresh s t) where
  -- of a word that is settled before, each image has what was read or a fresh value
  pub settled_or_fresh : (a : ℕ) → a < length s.now → IsSettled s a
      → LeavesOnly s t (λ c. (slice_index c a ≡ slice_index s.now a) ⊎ fresh a (slice_index c a))
  settled_or_fresh a lt settled = record {
    extends = leaves.extends;
    each = λ m c late left. ⊎_elim
        (λ may. inl (settled_value s.past t.past m a (slice_index s.now a) c leaves.extends left may settled))
        (λ new. inr new) (leaves.images m c late left a lt);
  }

  -- where something stands, each image reads it or fresh values
  pub stands_or_fresh : (says : ℕ → ℕ → Type 0) → Stands says s
      → LeavesOnly s t (λ c. (a v : ℕ) → says a v → (slice_index c a ≡ v) ⊎ fresh a (slice_index c a))
  stands_or_fresh says stands = record {
    extends = leaves.extends;
    each = λ m c late left a v told. ⊎_elim
        (λ same. inl (same ∙ stands.reads a v told)) (λ new. inr new)
        ((settled_or_fresh a (stands.within a v told) (stands.settled a v told)).each m c late left);
  }

-- one word that is stored: it is old or new
module _ (at value : ℕ) (s t : State) (leaves : LeavesOldOr (SaysRun at (value ∷ [])) s t) where
  abbrev Fresh : ℕ → ℕ → Type 0
  Fresh = SaysRun at (value ∷ [])

  fresh_word : (v : ℕ) → Fresh at v → v ≡ value
  fresh_word v new = new.1 ∙ ap (slice_index (value ∷ [])) here
    where
      here : at - at ≡ 0
      here = omega arith

  pub one_word_left : at < length s.now → IsSettled s at → LeavesOnly s t (LeavesOneWord at value s)
  one_word_left inside settled = record {
    extends = leaves.extends;
    each = λ m c late left. record {
      word = ⊎_elim (λ old. inl old) (λ new. inr (fresh_word (slice_index c at) new))
          ((settled_or_fresh Fresh s t leaves at inside settled).each m c late left);
      others = λ a lt still ne. ⊎_elim (λ old. old) (λ new. absurd (ne (omega (arith, new.0.0, new.0.1))))
          ((settled_or_fresh Fresh s t leaves a lt still).each m c late left);
    };
  }
