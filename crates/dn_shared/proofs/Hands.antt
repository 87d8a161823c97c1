-- What is in flight, as what numbers have in hand.
use Rattle.std.proofs.Common.{◌≡◌, ℕ, zero, suc, true, false, List, [], ◌∷◌, refl, sym, ◌∙◌, ap, arith}
use Rattle.std.specs.Prelude.{Option, Some, None, is_none}
use Rattle.std.specs.List.{list_all}
use Rattle.dn_volume.specs.declared.flight.Flight.{Flight}
use Rattle.dn_volume.specs.declared.volume.Parts.{Parts}
use Rattle.dn_volume.specs.Parties.{Flies, SameOthers, KeepsOps, flight_at, flight_of}
use Rattle.count_board.specs.declared.told.Hand.TheVariants.{Fly}
use Rattle.dn_shared.specs.Sites.{hand_in, is_landed}

pub of_flies : (b : Parts) (who : ℕ) (f : Flight) → Flies b who f → flight_of b who ≡ Some f
of_flies b zero f flies = absurd (let one = flies.client in omega (arith, one))
of_flies b (suc k) f flies = ap (flight_at b.flights.items) (omega arith) ∙ flies.is

pub to_flies : (b : Parts) (who : ℕ) (f : Flight) → flight_of b who ≡ Some f → Flies b who f
to_flies b zero f is = absurd (clash is)
  where
    clash : None ≡ Some f → ⊥
    clash e = cc
to_flies b (suc k) f is = record { client = omega arith; is = ap (flight_at b.flights.items) (omega arith) ∙ is }

-- who keeps an operation has it in hand as before
pub ops_hands : (b b' : Parts) → KeepsOps b b' → (who : ℕ) → hand_in (flight_of b' who) ≡ hand_in (flight_of b who)
ops_hands b b' ops who = pick (flight_of b who) (flight_of b' who) refl refl
  where
    one : (f g : Flight) → Some f ≡ Some g → f ≡ g
    one f g e = cc

    clash : (f : Flight) → None ≡ Some f → ⊥
    clash f e = cc

    pick : (o o' : Option Flight) → flight_of b who ≡ o → flight_of b' who ≡ o' → hand_in o' ≡ hand_in o
    pick None None is is' = refl
    pick None (Some f') is is' = let was = ops.only who f' (to_flies b' who f' is') in
        absurd (clash was.0 (sym is ∙ of_flies b who was.0 was.1))
    pick (Some f) None is is' = let now = ops.kept who f (to_flies b who f is) in
        absurd (clash now.0 (sym is' ∙ of_flies b' who now.0 now.1))
    pick (Some f) (Some f') is is' = let now = ops.kept who f (to_flies b who f is) in
        let same : now.0 ≡ f' = one now.0 f' (sym (of_flies b' who now.0 now.1) ∙ is') in
        ap (λ (g : Flight). Some (Fly g.op)) (sym same) ∙ ap (λ o. Some (Fly o)) now.2

-- so it is with all but the one whose event it is
pub others_hands : (who : ℕ) (b b' : Parts) → SameOthers who b b' → (k : ℕ) → (k ≡ who → ⊥)
    → hand_in (flight_of b' k) ≡ hand_in (flight_of b k)
others_hands who b b' same zero ne = refl
others_hands who b b' same (suc k) ne = ap hand_in (ap (flight_at b'.flights.items) (omega arith)
    ∙ (same.flights (suc k) (omega arith) ne ∙ ap (flight_at b.flights.items) (omega arith)))

pub flights_hands : (b b' : Parts) → b'.flights.items ≡ b.flights.items → (k : ℕ)
    → hand_in (flight_of b' k) ≡ hand_in (flight_of b k)
flights_hands b b' same zero = refl
flights_hands b b' same (suc k) = ap (λ (l : List (Option Flight)). hand_in (flight_at l k)) same

-- nothing is in flight where no number has anything in hand
pub none_at : (fl : List (Option Flight)) → list_all is_none fl ≡ true → (k : ℕ) → hand_in (flight_at fl k) ≡ None
none_at [] all k = refl
none_at (None ∷ fl) all zero = refl
none_at (None ∷ fl) all (suc k) = none_at fl all k
none_at (Some f ∷ fl) all k = absurd (clash all)
  where
    clash : false ≡ true → ⊥
    clash e = cc

pub all_none : (fl : List (Option Flight)) → ((k : ℕ) → hand_in (flight_at fl k) ≡ None) → list_all is_none fl ≡ true
all_none [] none = refl
all_none (None ∷ fl) none = all_none fl (λ k. none (suc k))
all_none (Some f ∷ fl) none = absurd (clash (none 0))
  where
    clash : Some (Fly f.op) ≡ None → ⊥
    clash e = cc

pub landed_on : (b b' : Parts) → ((k : ℕ) → hand_in (flight_of b' k) ≡ hand_in (flight_of b k)) → is_landed b ≡ true → is_landed b' ≡ true
landed_on b b' same landed = all_none b'.flights.items (λ k. same (suc k) ∙ none_at b.flights.items landed k)
