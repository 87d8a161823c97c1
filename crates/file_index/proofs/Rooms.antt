-- How many nodes have cells, and what room they leave.
use Rattle.std.proofs.Common.{◌≡◌, ℕ, zero, suc, ◌+◌, ◌-◌, ◌^◌, ◌<◌, ◌≤◌, true, false, if◌then◌else◌, nat_le, List, [], ◌∷◌, length, get_or, set, min, Result, Ok, Err, refl, ap, inl, inr, arith}
use Rattle.std.specs.Prelude.{OnErr}
use Rattle.std.proofs.lemmas.Bool.Decides.{nat_tests}
use Rattle.std.proofs.lemmas.Bool.{cases_lt}
use Rattle.file_index.specs.Radix.{occupied, filled, radix_room}

module _ {X : Type 0} where
  occupied-le : (node : List X) → occupied node ≤ 1
  unfolding occupied
  occupied-le [] = omega arith
  occupied-le (x ∷ xs) = omega arith

  pub occupied_one : (node : List X) → 0 < length node → occupied node ≡ 1
  unfolding occupied
  occupied_one [] some = absurd (omega arith)
  occupied_one (x ∷ xs) some = refl

  pub occupied_none : (node : List X) → length node ≡ 0 → occupied node ≡ 0
  unfolding occupied
  occupied_none [] none = refl
  occupied_none (x ∷ xs) none = absurd (omega arith)

  pub filled-set : (nodes : List (List X)) (k : ℕ) (node : List X) → k < length nodes
      → filled (set nodes k node) + occupied (get_or nodes k []) ≡ filled nodes + occupied node
  unfolding filled
  filled-set [] k node within = absurd (omega arith)
  filled-set (n ∷ ns) zero node within = omega arith
  filled-set (n ∷ ns) (suc k) node within = let rest = filled-set ns k node (omega arith) in omega arith

  pub filled-le : (nodes : List (List X)) → filled nodes ≤ length nodes
  unfolding filled
  filled-le [] = omega arith
  filled-le (n ∷ ns) = omega (arith, occupied-le n, filled-le ns)

  pub filled_gap : (nodes : List (List X)) (k : ℕ) → k < length nodes → length (get_or nodes k []) ≡ 0 → filled nodes < length nodes
  unfolding filled
  filled_gap [] k within none = absurd (omega arith)
  filled_gap (n ∷ ns) zero within none = omega (arith, occupied_none n none, filled-le ns)
  filled_gap (n ∷ ns) (suc k) within none = omega (arith, occupied-le n, filled_gap ns k (omega arith) none)

room_full : (f s : ℕ) → 64 - f ≤ s → radix_room f s ≡ 2 ^ 64
unfolding radix_room
room_full f s enough =
    let is : nat_le (64 - f) s ≡ true = grind (arith, nat_tests) in ap (λ b. if b then 2 ^ 64 else s) is

room_short : (f s : ℕ) → s < 64 - f → radix_room f s ≡ s
unfolding radix_room
room_short f s few =
    let is : nat_le (64 - f) s ≡ false = grind (arith, nat_tests) in ap (λ b. if b then 2 ^ 64 else s) is

pub room_more : (f s f' s' k : ℕ) → s ≤ s' + k → (64 - f ≤ s → 64 - f' ≤ s') → radix_room f s ≤ radix_room f' s' + k
room_more f s f' s' k le full =
    elim (cases_lt s (64 - f)) [
      | inl few ↦ elim (cases_lt s' (64 - f')) [
        | inl few' ↦ omega (arith, room_short f s few, room_short f' s' few')
        | inr full' ↦ omega (arith, room_short f s few, room_full f' s' full')
      ]
      | inr enough ↦ omega (arith, room_full f s enough, room_full f' s' (full enough))
    ]

-- with room and a node without cells there is a spare one
pub room_spare : (f s : ℕ) → f < 64 → 0 < radix_room f s → 0 < s
room_spare f s gap room =
    elim (cases_lt s (64 - f)) [ inl few ↦ omega (arith, room_short f s few) | inr enough ↦ omega arith ]

pub room_enough : (f s more : ℕ) → more < 2 ^ 64 → min (64 - f) more ≤ s → more ≤ radix_room f s
room_enough f s more fits enough =
    elim (cases_lt s (64 - f)) [
      | inl few ↦ omega (arith, room_short f s few)
      | inr full ↦ omega (arith, room_full f s full)
    ]

pub room_too_small : (f s more : ℕ) → s < min (64 - f) more → radix_room f s < more
room_too_small f s more few = omega (arith, room_short f s (omega arith))

-- what holds whatever the answer holds where it is an error
pub on_err : {A B : Type 0} (r : Result A B) {P : Type 0} → P → OnErr r P
on_err (Ok x) p = tt
on_err (Err x) p = p
