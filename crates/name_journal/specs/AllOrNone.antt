-- Several words change together.
use Rattle.std.specs.Prelude.{◌≡◌, ◌⊎◌, ℕ, ◌<◌, List, length, slice_index}
use Rattle.pm_device.specs.State.{State}
use Rattle.pm_device.specs.Settled.{MayLeave, IsOldBut, IsSettled, IsFlushed}
use Rattle.pm_device.specs.Reading.{Reads, Stands, IsReady}
use Rattle.pm_device.specs.Pages.{IsInPage}
use Rattle.pm_layout.specs.Geometry.{gate_word}
use Rattle.dn_model.specs.Rolled.{rolled, IsGate}
use Rattle.name_journal.specs.declared.change.Change.{Change}
use Rattle.name_journal.specs.Changes.{address, new_value, IsNamed, NewValues, IsTouched}

-- each named word holds a value that a stop might have left there at s
abbrev pub NoneChanged : List Change → State → List ℕ → Type 0
NoneChanged changes s c = (i : ℕ) → i < length changes → MayLeave s (address changes i)
    (slice_index c (address changes i))

-- each named word has its new value, and all that this actor had flushed before is there
pub record AllChanged (who : ℕ) (changes : List Change) (s : State) (c : List ℕ) : Type 0 where
  pub values : (i : ℕ) → i < length changes → slice_index c (address changes i) ≡ new_value changes
      i
  pub flushed : (a : ℕ) → a < length s.now → IsFlushed who s a → (IsTouched changes a → ⊥)
      → slice_index c a ≡ slice_index s.now a

-- The gate is let through. Of the rolled image, the gate is closed, the named words are all as they
-- were or all
-- new, and each other word outside the journal's page holds a value that a stop might have left
-- there at s.
pub record AllOrNone (inodes who : ℕ) (changes : List Change) (s : State) (c : List ℕ) : Type 0
  where
    pub gate : IsGate inodes c
    pub closed : slice_index (rolled c) gate_word ≡ 0
    pub named : NoneChanged changes s (rolled c) ⊎ AllChanged who changes s (rolled c)
    pub others : IsOldBut (IsTouched changes) s (rolled c)

-- The named words are new, the gate is closed, and both are settled. No other word outside the
-- journal's page
-- changed, and what this actor had flushed of them is settled.
pub record IsAllDone (who : ℕ) (changes : List Change) (s t : State) : Type 0 where
  pub size : length t.now ≡ length s.now
  pub values : (i : ℕ) → i < length changes → slice_index t.now (address changes i) ≡ new_value
      changes i
  pub others : (a : ℕ) → (IsTouched changes a → ⊥) → slice_index t.now a ≡ slice_index s.now a
  pub gate : slice_index t.now gate_word ≡ 0
  pub gate_settled : IsSettled t gate_word
  pub settled : (i : ℕ) → i < length changes → IsSettled t (address changes i)
  pub flushed : (a : ℕ) → a < length s.now → IsFlushed who s a → (IsTouched changes a → ⊥)
      → IsSettled t a

-- The state `says'` differs from `says` at the words that change, and where it speaks of fresh
-- words.
abbrev pub DiffersBy : List Change → (says says' fresh : ℕ → ℕ → Type 0) → Type 0
DiffersBy changes says says' fresh = (a v : ℕ) → says' a v → NewValues changes (length changes) a v
    ⊎ ((IsNamed changes a → ⊥) × (says a v ⊎ fresh a v))

-- The state `says` stands, and the changes lead on to `says'`. Of the journal's page they tell the
-- gate alone, and
-- that it is closed.
pub record Leads (who : ℕ) (changes : List Change) (says says' fresh : ℕ → ℕ → Type 0) (s : State) :
    Type 0 where
  pub stands : Stands says s
  pub closed : says gate_word 0
  pub page : (a v : ℕ) → IsInPage 1 a → says a v → a ≡ gate_word
  pub differs : DiffersBy changes says says' fresh
  pub ready : IsReady who fresh s
  pub apart : (a v : ℕ) → fresh a v → IsTouched changes a → ⊥

-- the gate is let through, and the rolled image reads as the one state or as the other
abbrev pub OldOrNewState : ℕ → (says says' : ℕ → ℕ → Type 0) → List ℕ → Type 0
OldOrNewState inodes says says' c = IsGate inodes
    c × (Reads says (rolled c) ⊎ Reads says' (rolled c))
