-- How many operations of each client were told, as a count for each client that has lines.
use Rattle.std.specs.Prelude.{
  ◌≡◌,
  ◌⊎◌,
  ℕ,
  ◌+◌,
  ◌<◌,
  ◌≤◌,
  true,
  false,
  ◌==◌,
  if◌then◌else◌,
  List,
  [],
  ◌∷◌,
  length,
  slice_index,
  slice_index_or,
}
use Rattle.job_texts.specs.Told.{lines_of, one_more_of}

-- the count of a client: that of the first with its number
abbrev pub told_by : List (ℕ × List ℕ) → List ℕ → ℕ → ℕ
told_by [] counts who = 0
told_by (c ∷ cs) [] who = 0
told_by (c ∷ cs) (n ∷ ns) who = if c.0 == who then n else told_by cs ns who

-- the first client with a number stands at this place
pub record IsFirst (clients : List (ℕ × List ℕ)) (who at : ℕ) : Type 0 where
  pub below : at < length clients
  pub is : ((slice_index_or clients at (0, [])).0 == who) ≡ true
  pub others : (k : ℕ) → k < at → ((slice_index_or clients k (0, [])).0 == who) ≡ false

-- no client has the number
abbrev pub IsNobody : List (ℕ × List ℕ) → ℕ → Type 0
IsNobody clients who = (k : ℕ) → k < length clients
    → ((slice_index_or clients k (0, [])).0 == who) ≡ false

-- functions that count alike where a client has lines
abbrev pub CountsAlike : List (ℕ × List ℕ) → (ℕ → ℕ) → (ℕ → ℕ) → Type 0
CountsAlike clients f g = (who : ℕ) → (lines_of clients who ≡ []) ⊎ (f who ≡ g who)

-- one more of a client was told
pub record Tells (clients : List (ℕ × List ℕ)) (who : ℕ) (old new : List ℕ) : Type 0 where
  pub long : length new ≡ length old
  pub alike : CountsAlike clients (told_by clients new) (one_more_of who (told_by clients old))
  pub few : (k : ℕ) → slice_index new k ≤ slice_index old k + 1
