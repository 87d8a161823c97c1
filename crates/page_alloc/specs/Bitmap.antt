-- How words of 64 bits hold a set of pages, and how a summary of them tells where a word holds any.
use Rattle.std.specs.Prelude.{◌≡◌, ◌≢◌, ℕ, zero, suc, ◌+◌, ◌*◌, ◌/◌, ◌%◌, ◌<◌, ◌≤◌, Bool, true, false, ◌==◌, nat_lt, if◌then◌else◌, List, [], ◌∷◌, length, slice_index}
use Rattle.std.specs.Int.{bit_at}

-- whether the bit of a place is 1
abbrev pub is_marked : List ℕ → ℕ → Bool
is_marked words place = bit_at (slice_index words (place / 64)) (place % 64) == 1

-- the numbers that pass the test, of the n from low on
abbrev pub passing : (ℕ → Bool) → ℕ → ℕ → List ℕ
passing test low zero = []
passing test low (suc n) = if test low then low ∷ passing test (low + 1) n else passing test (low + 1) n

-- the marked pages, of the first n
unfoldable pub marked : List ℕ → ℕ → List ℕ
marked words n = passing (is_marked words) 0 n

-- the word is the first that isn't 0
pub record IsFirstFilled (words : List ℕ) (at : ℕ) : Type 0 where
  pub inside : at < length words
  pub filled : 0 < slice_index words at
  pub zeros : (k : ℕ) → k < at → slice_index words k ≡ 0

-- the place is the first whose bit is 1
pub record IsFirstMarked (words : List ℕ) (place : ℕ) : Type 0 where
  pub inside : place / 64 < length words
  pub is : is_marked words place ≡ true
  pub none_before : (q : ℕ) → q < place → is_marked words q ≡ false

-- the bit of the place became this one, and no other bit changed
pub record MarksAs (on : Bool) (place : ℕ) (old new : List ℕ) : Type 0 where
  pub length : length new ≡ length old
  pub here : is_marked new place ≡ on
  pub others : (q : ℕ) → q ≢ place → is_marked new q ≡ is_marked old q
  pub other_words : (k : ℕ) → k ≢ place / 64 → slice_index new k ≡ slice_index old k

-- a bit of the summary is 1 just where the word of its number holds any page
pub record IsSummary (words summary : List ℕ) : Type 0 where
  pub covers : length words ≤ 64 * length summary
  pub tells : (k : ℕ) → is_marked summary k ≡ nat_lt 0 (slice_index words k)

-- the words hold just pages that there are, which are counted, and the summary tells of these words
pub record IsBitmap (words summary : List ℕ) (pages count : ℕ) : Type 0 where
  pub covers : pages ≤ 64 * length words
  pub exist : (page : ℕ) → is_marked words page ≡ true → page < pages
  pub counted : count ≡ length (marked words pages)
  pub summed : IsSummary words summary
