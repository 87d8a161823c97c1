-- Changes of words of the inode table.
use Rattle.std.specs.Prelude.{
  ◌≡◌,
  ◌≢◌,
  ◌⊎◌,
  ℕ,
  ◌+◌,
  ◌*◌,
  ◌/◌,
  ◌<◌,
  ◌≤◌,
  List,
  length,
  slice_index_or,
}
use Rattle.dn_model.specs.Rolled.{IsJournaled}
use Rattle.pm_device.specs.Pages.{IsInPage}
use Rattle.name_journal.specs.declared.change.Change.{Change}

-- change i, with zeros past the end
abbrev pub change_at : List Change → ℕ → Change
change_at changes i = slice_index_or changes i (record { at = 0; value = 0 })

-- the word that change i names, and its new value
abbrev pub address : List Change → ℕ → ℕ
address changes i = (change_at changes i).at

abbrev pub new_value : List Change → ℕ → ℕ
new_value changes i = (change_at changes i).value

-- no change before i names its word
abbrev pub IsNewAt : List Change → ℕ → Type 0
IsNewAt changes i = (j : ℕ) → j < i → address changes j ≢ address changes i

-- no two name one word
abbrev pub AreApart : List Change → Type 0
AreApart changes = (i j : ℕ) → i < length changes → j < length changes → address changes i ≡ address
    changes j → i ≡ j

-- each names the state, the head or the tail of an inode, and no two name one word
pub record AreChanges (inodes : ℕ) (changes : List Change) : Type 0 where
  pub journaled : (i : ℕ) → i < length changes → IsJournaled inodes (address changes i)
  pub apart : AreApart changes

-- some change names the word
pub record IsNamed (changes : List Change) (a : ℕ) : Type 0 where
  pub i : ℕ
  pub lt : i < length changes
  pub is : a ≡ address changes i

-- the line of each named word lies in a device of so many words
abbrev pub AreInside : List Change → ℕ → Type 0
AreInside changes size = (i : ℕ) → i < length changes → address changes i / 8 * 8 + 8 ≤ size

-- the new values of the first k changes
pub record NewValues (changes : List Change) (k a v : ℕ) : Type 0 where
  pub i : ℕ
  pub lt : i < k
  pub place : a ≡ address changes i
  pub value : v ≡ new_value changes i

-- a word that is named, or lies in the journal's page
abbrev pub IsTouched : List Change → ℕ → Type 0
IsTouched changes a = IsNamed changes a ⊎ IsInPage 1 a
