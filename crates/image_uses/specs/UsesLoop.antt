-- How far pages are counted.
use Rattle.std.specs.Prelude.{◌≡◌, ℕ, ◌<◌, ◌≤◌, Bool, false, List, slice_index, slice_index_or}
use Rattle.image_uses.specs.Uses.{IsUsedTwice, HasSo}

-- none of the first pages is used twice
abbrev pub NoneTwice : List ℕ → List ℕ → List Bool → ℕ → Type 0
NoneTwice in_logs mapped has_row n = (page : ℕ) → page < n → IsUsedTwice (slice_index in_logs page)
    (slice_index mapped page) (slice_index_or has_row page false) → ⊥

-- a page from the first one on that nothing uses
pub record IsUnused (in_logs mapped : List ℕ) (first page : ℕ) : Type 0 where
  pub low : first ≤ page
  pub no_log : slice_index in_logs page ≡ 0
  pub no_place : slice_index mapped page ≡ 0

-- so many numbers below the end have P
pub record IsBelow (P : ℕ → Type 0) (end x : ℕ) : Type 0 where
  pub below : x < end
  pub has : P x

-- so many of them lie below the end
pub record CountsTo (P : ℕ → Type 0) (end n : ℕ) : Type 0 where
  pub few : n ≤ end
  pub are : HasSo (IsBelow P end) n
