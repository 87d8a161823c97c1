-- A volume that was just opened for threads.
use Rattle.std.proofs.Common.{◌≡◌, ℕ, zero, suc, ◌+◌, ◌<◌, ◌≤◌, le_refl, Bool, true, false, List, [], ◌∷◌, ◌++◌, length, refl, sym, ◌∙◌, ap, subst, arith}
use Rattle.std.specs.Prelude.{Option, Some, None, replicate, slice_get, slice_index}
use Rattle.std.proofs.lemmas.Option.{slice_get_within, get_or_from_slice_get}
use Rattle.std.proofs.lemmas.List.{get_or-replicate, length-replicate}
use Rattle.pm_device.specs.State.{State}
use Rattle.dn_model.specs.Own.{Print}
use Rattle.dn_volume.specs.declared.flight.Flight.{Flight}
use Rattle.dn_volume.specs.declared.volume.Parts.{Parts}
use Rattle.dn_volume.specs.Parties.{flight_of}
use Rattle.dn_volume.specs.Events.{word_after}
use Rattle.dn_volume.specs.Agrees.{Agrees}
use Rattle.count_board.specs.Passes.{Opens}
use Rattle.dn_shared.specs.declared.site.Site.{Site}
use Rattle.dn_shared.specs.Left.{has_left, or_false}
use Rattle.dn_shared.specs.Sites.{IsShared, told_of, hand_of}
use Rattle.dn_shared.specs.Ends.{AreCountWords, NoneFlies}
use Rattle.dn_shared.proofs.Hands.{to_flies}

-- nobody has left
pub none_left : (n who : ℕ) → has_left (replicate n false) who ≡ false
none_left n zero = refl
none_left n (suc k) = at (slice_get (replicate n false) k) refl
  where
    at : (o : Option Bool) → slice_get (replicate n false) k ≡ o → or_false (slice_get (replicate n false) k) ≡ false
    at None is = ap or_false is
    at (Some b) is =
        let within = slice_get_within (replicate n false) k b is in
        let long = length-replicate n false in
        ap or_false is ∙ (sym (get_or_from_slice_get (replicate n false) k b b is) ∙ get_or-replicate n k false b (omega (arith, within, long)))

pub none_flying : (b : Parts) → NoneFlies b → (who : ℕ) → flight_of b who ≡ None
none_flying b none who = at (flight_of b who) refl
  where
    at : (o : Option Flight) → flight_of b who ≡ o → flight_of b who ≡ None
    at None is = is
    at (Some f) is = absurd (none who f (to_flies b who f is))

clash : {A : Type 0} (b : Bool) → b ≡ false → b ≡ true → A
clash b low high = absurd (no b low high)
  where
    no : (x : Bool) → x ≡ false → x ≡ true → ⊥
    no x l h = cc

module _ {D F : Type 0} (state : D → State) (print : Print) (x : Site D F) (clients : ℕ) (few : clients ≤ 14)
    (gone : x.gone.items ≡ replicate clients false) (agrees : Agrees state x.volume) (running : x.volume.parts.stopped ≡ false)
    (history : x.volume.parts.history.items ≡ []) (trace : x.volume.parts.trace.items ≡ []) (landed : NoneFlies x.volume.parts)
    (words : AreCountWords state x.volume x.opening.items) where
  holds : IsShared state print x x
  holds = record {
    agrees = agrees;
    clients = refl;
    few = let long = ap length gone ∙ length-replicate clients false in omega (arith, long, few);
    others = λ who f flies. absurd (landed who f flies);
    landed = λ who f flies. absurd (landed who f flies);
    faults = le_refl _;
    rose = λ is. clash x.volume.parts.stopped running is;
    opening_is = refl;
    geometry = refl;
    long = words.long;
    words = λ e slot now lt. sym (words.each e slot now (subst (λ (n : ℕ). slot < n) words.long lt))
        ∙ ap (λ t. word_after t slot (slice_index x.opening.items slot)) (sym trace);
    keeps = λ from was. was;
  }

  pub opens : Opens (λ (y : Site D F). told_of y) (λ (base y : Site D F). IsShared state print base y) x
  opens = record {
    holds = holds;
    entries = history;
    trace = trace;
    hands = λ k. (λ i. hand_of ((ap (λ (l : List Bool). has_left l k) gone ∙ none_left clients k) i) (none_flying x.volume.parts landed k i));
  }

-- one word more
pub grown : (xs : List ℕ) (w n : ℕ) (f : ℕ → ℕ) → length xs ≡ n → ((k : ℕ) → k < n → slice_index xs k ≡ f k) → w ≡ f n
    → (k : ℕ) → k < n + 1 → slice_index (xs ++ w ∷ []) k ≡ f k
grown [] w n f long each last zero lt = last ∙ ap f (sym long)
grown [] w n f long each last (suc k) lt = absurd (omega (arith, long, lt))
grown (x ∷ xs) w n f long each last zero lt = each zero (omega (arith, long))
grown (x ∷ xs) w n f long each last (suc k) lt =
    grown xs w (length xs) (λ j. f (suc j)) refl (λ j within. each (suc j) (omega (arith, within, long)))
    (last ∙ ap f (sym long)) k (omega (arith, lt, long))
