-- What the numbers of rows tell.
use Rattle.std.specs.Prelude.{◌≡◌, ◌≢◌, ℕ, ◌+◌, ◌≤◌, List, ◌∷◌, ◌++◌, slice_index, All}
use Rattle.fact_scan.specs.declared.row.Row.{Row}

-- the count of a row differs from the mappings of its page by at most what is under way
abbrev pub IsNearBy : List ℕ → Row → Type 0
IsNearBy mapped row = (slice_index mapped row.page ≤ row.count.rfc + row.count.uc) ×
    (row.count.rfc ≤ slice_index mapped row.page + row.count.uc)

-- the first row of which that isn't so has this slot
pub record IsFirstFar (mapped : List ℕ) (rs : List Row) (slot : ℕ) : Type 0 where
  pub front : List Row
  pub row : Row
  pub rest : List Row
  pub split : rs ≡ front ++ row ∷ rest
  pub near : All (IsNearBy mapped) front
  pub far : IsNearBy mapped row → ⊥
  pub slot_is : slot ≡ row.slot

-- the count of a row is that of the mappings of its page and not 0, and no update is under way
abbrev pub IsExactBy : List ℕ → Row → Type 0
IsExactBy mapped row = (row.count.uc ≡ 0) × (row.count.rfc ≡ slice_index mapped row.page) ×
    (row.count.rfc ≢ 0)
