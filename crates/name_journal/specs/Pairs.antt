-- The pairs of the journal.
use Rattle.std.specs.Prelude.{◌≡◌, ◌≢◌, ◌⊎◌, ℕ, ◌+◌, ◌*◌, ◌<◌, ◌≤◌, List, length, slice_index}
use Rattle.pm_device.specs.State.{State}
use Rattle.pm_device.specs.Settled.{SettlesAll}
use Rattle.pm_device.specs.Words.{IsIn}
use Rattle.pm_layout.specs.Geometry.{gate_word}
use Rattle.dn_model.specs.Rolled.{pair_address, pair_value}
use Rattle.name_journal.specs.declared.change.Change.{Change}
use Rattle.name_journal.specs.Changes.{address, new_value, IsNamed}

-- these are the four pairs that the words c have room for
pub record ArePairs (c : List ℕ) (pairs : List Change) : Type 0 where
  pub four : length pairs ≡ 4
  pub addresses : (i : ℕ) → i < 4 → address pairs i ≡ pair_address c i
  pub values : (i : ℕ) → i < 4 → new_value pairs i ≡ pair_value c i

-- the eight words hold the addresses of the first k changes, and what c has there
pub record HavePairs (changes : List Change) (c : List ℕ) (k : ℕ) (words : List ℕ) : Type 0 where
  pub long : length words ≡ 8
  pub addresses : (i : ℕ) → i < k → slice_index words (2 * i) ≡ address changes i
  pub values : (i : ℕ) → i < k → slice_index words (2 * i + 1) ≡ slice_index c (address changes i)

-- what the journal says of these changes, where c has the old values
pub data PairsOf (changes : List Change) (c : List ℕ) (a v : ℕ) : Type 0 where
  of_address : (i : ℕ) → i < length changes → a ≡ 520 + 2 * i → v ≡ address changes i
      → PairsOf changes c a v
  of_old : (i : ℕ) → i < length changes → a ≡ 521 + 2 * i → v ≡ slice_index c (address changes i)
      → PairsOf changes c a v

-- the words of their pairs
abbrev pub IsInPairs : List Change → ℕ → Type 0
IsInPairs changes = IsIn 520 (2 * length changes)

-- the gate's pairs are up to four, of different words behind the journal
pub record CanRoll (c : List ℕ) : Type 0 where
  pub few : slice_index c gate_word ≤ 4
  pub high : (i : ℕ) → i < slice_index c gate_word → 1024 ≤ pair_address c i
  pub within : (i : ℕ) → i < slice_index c gate_word → pair_address c i < length c
  pub apart : (i j : ℕ) → i < slice_index c gate_word → j < slice_index c gate_word
      → pair_address c i ≡ pair_address c j → i ≡ j

-- these are the gate's pairs
pub record AreOpen (c : List ℕ) (pairs : List Change) : Type 0 where
  pub can : CanRoll c
  pub count : length pairs ≡ slice_index c gate_word
  pub addresses : (i : ℕ) → i < length pairs → address pairs i ≡ pair_address c i
  pub values : (i : ℕ) → i < length pairs → new_value pairs i ≡ pair_value c i

-- a word that a pair names, or the gate
abbrev pub IsRolledAt : List Change → ℕ → Type 0
IsRolledAt pairs a = IsNamed pairs a ⊎ (a ≡ gate_word)

-- the image has the words of the pairs, and its gate is theirs or closed
pub record HasGateOf (w c : List ℕ) : Type 0 where
  pub gate : (slice_index c gate_word ≡ slice_index w gate_word) ⊎ (slice_index c gate_word ≡ 0)
  pub pairs : (a : ℕ) → 520 ≤ a → a < 528 → slice_index c a ≡ slice_index w a

-- where the gate was open, all that is stored and all that this actor had flushed is settled
abbrev pub SettlesOpen : ℕ → State → State → Type 0
SettlesOpen who s t = slice_index s.now gate_word ≢ 0 → SettlesAll who s t
