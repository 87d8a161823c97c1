-- What an index is, and what each call does to it.
use Rattle.std.specs.Prelude.{◌≡◌, ◌≢◌, ◌↔◌, ℕ, ◌+◌, ◌<◌, ◌≤◌, List, Some, None, IsSome, AllPairs, Contains, refl}
use Rattle.std.specs.Coded.{Coded, code_by, coded×, coded_ℕ}
use Rattle.std.specs.Ordering.{nat_cmp}
use Rattle.std.specs.Cmp.Lexicographic.{slice_cmp}
use Rattle.std.specs.FinMap.{FinMap, get}
use Rattle.std.specs.declared.cmp.Ordering.{Ordering}
use Rattle.std.specs.declared.cmp.Ordering.TheVariants.{Less}

-- what each key leads to, and how many more keys can be put without memory
pub record Index {K : Type 0} (R : K → K → Ordering) (X : Type 0) : Type 0 where
  pub map : FinMap R X
  pub room : ℕ

-- an index is stored as the pair of its fields
abbrev pub index_code : {K X : Type 0} {R : K → K → Ordering} → Coded (FinMap R X) → Coded (Index R X)
index_code {K} {X} {R} code =
    code_by (FinMap R X × ℕ) (coded× code coded_ℕ) (λ i. (i.map, i.room)) (λ p. record { map = p.0; room = p.1 }) (λ _. refl)

-- The key leads to the value, and every other key to what it did. A key that led nowhere takes at most one place of
-- the room, and another key none.
pub record Puts {K X : Type 0} {R : K → K → Ordering} (key : K) (value : X) (old new : Index R X) : Type 0 where
  pub there : get new.map key ≡ Some value
  pub others : (q : K) → q ≢ key → get new.map q ≡ get old.map q
  pub room : old.room ≤ new.room + 1
  pub room_stays : IsSome (get old.map key) → old.room ≤ new.room

-- the key leads nowhere, and every other key to what it did
pub record Drops {K X : Type 0} {R : K → K → Ordering} (key : K) (old new : Index R X) : Type 0 where
  pub gone : get new.map key ≡ None
  pub others : (q : K) → q ≢ key → get new.map q ≡ get old.map q
  pub room : old.room ≤ new.room

-- places from this one on lead nowhere, and those below it to what they did
pub record CutsOff {X : Type 0} (place : ℕ) (old new : Index nat_cmp X) : Type 0 where
  pub gone : (k : ℕ) → place ≤ k → get new.map k ≡ None
  pub below : (k : ℕ) → k < place → get new.map k ≡ get old.map k
  pub room : old.room ≤ new.room

-- the greatest place below this one that leads anywhere
pub record IsLastBelow {X : Type 0} (place : ℕ) (map : FinMap nat_cmp X) (last : ℕ) : Type 0 where
  pub below : last < place
  pub mapped : IsSome (get map last)
  pub between : (k : ℕ) → last < k → k < place → get map k ≡ None

-- all names that lead anywhere, in the order of their bytes, each once
pub record ListsNames {X : Type 0} (map : FinMap (slice_cmp nat_cmp) X) (names : List (List ℕ)) : Type 0 where
  pub in_order : AllPairs (λ x y. slice_cmp nat_cmp x y ≡ Less) names
  pub all : (name : List ℕ) → (Contains names name ↔ IsSome (get map name))

-- all names that lead anywhere, each once, with what they lead to
pub record ListsEntries {X : Type 0} (map : FinMap (slice_cmp nat_cmp) X) (entries : List (List ℕ × X)) : Type 0 where
  pub in_order : AllPairs (λ a b. slice_cmp nat_cmp a.0 b.0 ≡ Less) entries
  pub all : (name : List ℕ) (value : X) → (Contains entries (name, value) ↔ (get map name ≡ Some value))
