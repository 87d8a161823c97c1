-- How a root of nodes, each empty or of 64 cells, holds a finite map from places.
use Rattle.std.specs.Prelude.{◌≡◌, ℕ, zero, suc, ◌+◌, ◌-◌, ◌/◌, ◌%◌, ◌^◌, ◌<◌, ◌≤◌, List, [], ◌∷◌, ◌++◌, length, get_or, set, map, replicate, Vec, Option, Some, None, IsSome, All, if◌then◌else◌, nat_le}
use Rattle.std.specs.Ordering.{nat_cmp}
use Rattle.std.specs.FinMap.{FinMap, from_entries}
use Rattle.std.specs.declared.alloc.Global.{Global}

-- the cells of each node
abbrev pub cells : {X : Type 0} → List (Vec (Option X) Global) → List (List (Option X))
cells nodes = map (λ v. v.items) nodes

-- what a place's cell holds; a place without a node holds nothing
unfoldable pub look : {X : Type 0} → List (List (Option X)) → ℕ → Option X
look nodes place = get_or (get_or nodes (place / 64) []) (place % 64) None

-- the nodes after a write to a place's cell
unfoldable pub written :
    {X : Type 0} → List (List (Option X)) → ℕ → Option X → List (List (Option X))
written nodes place cell =
    set nodes (place / 64) (set (get_or nodes (place / 64) []) (place % 64) cell)

-- the entry of a place, where its cell holds anything
unfoldable pub entry_of : {X : Type 0} → ℕ → Option X → List (ℕ × X)
entry_of place None = []
entry_of place (Some x) = (place, x) ∷ []

-- the entries of all places below one, the last first
unfoldable pub placed : {X : Type 0} → (ℕ → Option X) → ℕ → List (ℕ × X)
placed cell zero = []
placed cell (suc n) = entry_of n (cell n) ++ placed cell n

-- the map that the nodes hold
unfoldable pub radix_map : {X : Type 0} → List (List (Option X)) → FinMap nat_cmp X
radix_map nodes = from_entries (placed (look nodes) 4096)

-- 1 for a node that has cells
unfoldable pub occupied : {X : Type 0} → List X → ℕ
occupied [] = 0
occupied (x ∷ xs) = 1

-- how many nodes have cells
unfoldable pub filled : {X : Type 0} → List (List X) → ℕ
filled [] = 0
filled (node ∷ nodes) = occupied node + filled nodes

-- How many places can be mapped without memory, with so many nodes that have cells and so many
-- spare ones: with a spare node for each that has none, any number.
unfoldable pub radix_room : ℕ → ℕ → ℕ
radix_room filled spare = if nat_le (64 - filled) spare then 2 ^ 64 else spare

-- empty, or of 64 cells
abbrev pub IsNode : {X : Type 0} → List X → Type 0
IsNode node = 0 < length node → length node ≡ 64

-- 64 cells that hold nothing
abbrev pub IsFresh : {X : Type 0} → List (Option X) → Type 0
IsFresh node = node ≡ replicate 64 None

-- A root, which is empty only while there is no spare node, and spare nodes.
pub record IsRadix {X : Type 0} (nodes spare : List (List (Option X))) : Type 0 where
  pub root : 0 < length nodes + length spare → length nodes ≡ 64
  pub whole : All IsNode nodes
  pub fresh : All IsFresh spare

-- A node has its cells now, a spare node's where it had none, and all places hold what they did.
pub record OpensNode {X : Type 0} (at : ℕ)
    (old new spare rest : List (List (Option X))) : Type 0 where
  pub valid : IsRadix new rest
  pub long : length (get_or new at []) ≡ 64
  pub same : (q : ℕ) → look new q ≡ look old q
  pub room : radix_room (filled old) (length spare) ≤ radix_room (filled new) (length rest) + 1
  pub room_stays :
      0 < length (get_or old at [])
      → radix_room (filled old) (length spare) ≤ radix_room (filled new) (length rest)

-- The root has 64 nodes now: those it had, or empty ones.
pub record OpensRoot {X : Type 0} (old new : List (List (Option X))) : Type 0 where
  pub long : length new ≡ 64
  pub whole : All IsNode old → All IsNode new
  pub same : (q : ℕ) → look new q ≡ look old q
  pub filled : filled new ≡ filled old

-- The cells from one place to before another hold nothing now, and those below hold what they did.
pub record Clears {X : Type 0} (from to : ℕ) (old new : List (List (Option X))) : Type 0 where
  pub whole : All IsNode old → All IsNode new
  pub long : length new ≡ length old
  pub filled : filled new ≡ filled old
  pub gone : (k : ℕ) → from ≤ k → k < to → look new k ≡ None
  pub below : (k : ℕ) → k < from → look new k ≡ look old k

-- The cells from one place on hold nothing now, and those below hold what they did.
pub record ClearsFrom {X : Type 0} (from : ℕ) (old new : List (List (Option X))) : Type 0 where
  pub whole : All IsNode old → All IsNode new
  pub long : length new ≡ length old
  pub filled : filled new ≡ filled old
  pub gone : (k : ℕ) → from ≤ k → look new k ≡ None
  pub below : (k : ℕ) → k < from → look new k ≡ look old k

-- the greatest place below one whose cell holds anything
pub record IsLastCell {X : Type 0} (from : ℕ) (nodes : List (List (Option X)))
    (last : ℕ) : Type 0 where
  pub below : last < from
  pub mapped : IsSome (look nodes last)
  pub between : (k : ℕ) → last < k → k < from → look nodes k ≡ None
