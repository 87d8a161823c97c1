-- The image of a pick is one of those that a crash may leave.
use Rattle.std.proofs.Common.{◌≡◌, inl, ℕ, ◌+◌, ◌-◌, ◌%◌, ◌<◌, ◌≤◌, Bool, true, false, List, [], ◌∷◌, length, take, drop, refl, sym, ◌∙◌, ap, subst}
use Rattle.std.proofs.Common.{arith, length-drop, get_or-drop}
use Rattle.std.specs.Prelude.{slice_index, if◌then◌else◌, ◌==◌}
use Rattle.std.specs.List.{list_all}
use Rattle.std.proofs.lemmas.List.{take-append-drop}
use Rattle.std.proofs.lemmas.List.Folds.{list_all-append}
use Rattle.pm_device.specs.Past.{Call, Word, Past, LeftOf, steps, fresh, word_at}
use Rattle.pm_device.specs.MemLaws.{IsPlaced, placed-steps}
use Rattle.pm_device.specs.MemLog.{calls_of, is_whole}
use Rattle.pm_device.specs.Picks.{left_values, mixed, picked_place, IsPickedWord, IsPicked, PicksOf}
use Rattle.pm_device.specs.Replay.{last_after, last_place, durable_place, value_after}
use Rattle.pm_device.specs.declared.entry.Entry.{Entry}
use Rattle.pm_device.proofs.Remembered.{and_both}
use Rattle.pm_device.proofs.Passes.{last_after-le}
use Rattle.pm_device.proofs.Replayed.{reaches, valued}

pub picked_place-lt : (pick a n : ℕ) → 0 < n → picked_place pick a n < n
picked_place-lt pick a n some = by_first (pick == 0) (pick == 1)
  where
    by_first : (first last : Bool) → (if first then 0 else (if last then n - 1 else mixed pick a % n)) < n
    by_first true last = some
    by_first false true = omega (arith, some)
    by_first false false = omega (arith, some)

pub last_place-le : (a n : ℕ) (es : List Entry) → last_place a n es ≤ n + length es
last_place-le a n [] = omega arith
last_place-le a n (e ∷ es) = omega (arith, last_place-le a (last_after a n e) es, last_after-le a n e)

-- what the walks over a whole record find of word a, which was v
module _ (kept : List ℕ) (es : List Entry) (whole : list_all (is_whole (length kept)) es ≡ true) (a v : ℕ) where
  word : Word
  word = steps a (fresh v) (calls_of kept es)

  placed : IsPlaced (steps a (fresh v) (calls_of kept es))
  placed = placed-steps a (fresh v) (calls_of kept es) (record { durable = omega arith; marks = λ q. omega arith })

  found : ((steps a (fresh v) (calls_of kept es)).durable ≡ durable_place a 0 0 es)
      × (length (steps a (fresh v) (calls_of kept es)).values - 1 ≡ last_place a 0 es)
  found =
      reaches kept a (fresh v) es 0 whole (record { durable = omega arith; marks = λ q. omega arith })
      (record { durable = omega arith; marks = λ q fenced. omega arith; is = inl refl })

  pub durable_place-le : durable_place a 0 0 es ≤ last_place a 0 es
  durable_place-le = omega (arith, found.0, found.1, placed.durable)

  pub picks : (pick n c : ℕ) → n ≡ durable_place a 0 0 es + picked_place pick a (last_place a 0 es - durable_place a 0 0 es + 1)
      → c ≡ value_after kept a v n es
      → IsPickedWord pick a (steps a (fresh v) (calls_of kept es)) c
  picks pick n c chosen is =
      let w = steps a (fresh v) (calls_of kept es) in
      let count : last_place a 0 es - durable_place a 0 0 es + 1 ≡ length (left_values w) =
      omega (arith, length-drop w.durable w.values, found.0, found.1, placed.durable) in
      let place : n ≡ w.durable + picked_place pick a (length (left_values w)) =
      chosen ∙ ap (λ m. m + picked_place pick a (last_place a 0 es - durable_place a 0 0 es + 1)) (sym found.0)
      ∙ ap (λ m. w.durable + picked_place pick a m) count in
      let within = picked_place-lt pick a (length (left_values w)) (omega (arith, count)) in
      let zero_more : 0 + n ≡ n = omega arith in
      is
      ∙ valued kept a es whole (fresh v) v n (omega arith) refl (omega (arith, place, within, length-drop w.durable w.values))
      ∙ ap (slice_index w.values) (zero_more ∙ place) ∙ sym (get_or-drop w.durable w.values (picked_place pick a (length (left_values w))) 0)

-- such an image may be left
pub picked_left : (p : Past) (m pick : ℕ) (c : List ℕ) → m ≤ length p.calls → IsPicked p m pick c → LeftOf p m c
unfolding word_at
picked_left p m pick c le is = record {
  past = le;
  size = is.size;
  each = λ a lt.
      let w = word_at p m a in
      let placed : IsPlaced (word_at p m a) =
      placed-steps a (fresh (slice_index p.first a)) (take m p.calls) (record { durable = omega arith; marks = λ q. omega arith }) in
      let within = picked_place-lt pick a (length (left_values w)) (omega (arith, placed.durable, length-drop w.durable w.values)) in
      record {
        place = w.durable + picked_place pick a (length (left_values w));
        late = omega arith;
        known = omega (arith, within, length-drop w.durable w.values);
        value = sym (is.each a lt ∙ get_or-drop w.durable w.values (picked_place pick a (length (left_values w))) 0);
      };
}

pub picks_at : (p : Past) (m pick : ℕ) (first c : List ℕ) (calls : List Call) → first ≡ p.first → calls ≡ take m p.calls
    → PicksOf first calls pick c → IsPicked p m pick c
unfolding word_at
picks_at p m pick first c calls same is picks = record {
  size = picks.size ∙ ap length same;
  each = λ a lt.
      subst (λ (xs : List ℕ). IsPickedWord pick a (steps a (fresh (slice_index xs a)) (take m p.calls)) (slice_index c a)) same
      (subst (λ (cs : List Call). IsPickedWord pick a (steps a (fresh (slice_index first a)) cs) (slice_index c a)) is
      (picks.each a (omega (arith, lt, ap length same))));
}

-- a test that all entries pass
pub list_all-take : (p : Entry → Bool) (m : ℕ) (es : List Entry) → list_all p es ≡ true → list_all p (take m es) ≡ true
list_all-take p m es all =
    (and_both (list_all p (take m es)) (list_all p (drop m es))
    (sym (list_all-append p (take m es) (drop m es)) ∙ ap (list_all p) (take-append-drop m es) ∙ all)).0
