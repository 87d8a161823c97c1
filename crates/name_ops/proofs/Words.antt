-- The words that a commit of names changes.
use Rattle.std.proofs.Common.{◌≡◌, ℕ, List, [], ◌∷◌, refl, sym, ◌∙◌, ap, subst, Some, None}
use Rattle.std.specs.Prelude.{◌+◌, ◌≤◌, Result, Ok, Err, OnOk}
use Rattle.pm_device.specs.State.{State}
use Rattle.pm_device.specs.Settled.{LeavesOnly, StoresOnly, KeepsFlushed, Others, SettlesAll}
use Rattle.pm_layout.specs.Geometry.{inode_word}
use Rattle.name_journal.specs.Changes.{IsTouched}
use Rattle.name_journal.specs.AllOrNone.{AllOrNone, IsAllDone}
use Rattle.name_journal.specs.declared.change.Change.{Change as Word}
use Rattle.law_names.specs.NameChange.{state_changes}
use Rattle.dn_volume.specs.declared.flight.NameChange.{NameChange}
use Rattle.dn_volume.specs.declared.flight.Turn.{Turn}
use Rattle.dn_volume.specs.declared.flight.Turn.TheVariants as kept_turn
use Rattle.dn_volume.specs.Flights.{as_turn}
use Rattle.name_ops.specs.Landing.{state_value, flight_changes, CommitsAll}

-- an inode that stays has no state to be changed
none_changed : (k : Turn) (node : ℕ) → state_value k ≡ None → state_changes (as_turn k) node ≡ []
none_changed kept_turn.Stays node is = refl
none_changed kept_turn.Comes node is = cc is
none_changed kept_turn.Goes node is = cc is

one_changed : (k : Turn) (node value : ℕ) → state_value k ≡ Some value → state_changes (as_turn k) node ≡ record {
  at = inode_word node 0;
  value = value;
} ∷ []
one_changed kept_turn.Stays node value is = cc is
one_changed kept_turn.Comes node value is = let one : 1 ≡ value = cc is in ap (λ (n : ℕ). record { at = inode_word node 0; value = n } ∷ []) one
one_changed kept_turn.Goes node value is = let two : 2 ≡ value = cc is in ap (λ (n : ℕ). record { at = inode_word node 0; value = n } ∷ []) two

pub tail_alone : (c : NameChange) (at : ℕ) → at ≡ inode_word 0 2 → state_value c.turn ≡ None
    → record { at = at; value = c.tail } ∷ [] ≡ flight_changes
    c
tail_alone c at is none = ap (λ (n : ℕ). record { at = n; value = c.tail } ∷ []) is ∙ ap (λ (xs : List Word). record {
  at = inode_word 0 2;
  value = c.tail;
} ∷ xs) (sym (none_changed c.turn c.node none))

pub tail_and_state : (c : NameChange) (at state value : ℕ) → at ≡ inode_word 0 2 → state ≡ inode_word c.node 0 → state_value c.turn ≡ Some value
    → record { at = at; value = c.tail } ∷ record { at = state; value = value } ∷ [] ≡ flight_changes c
tail_and_state c at state value is other some =
    ap (λ (n : ℕ). record { at = n; value = c.tail } ∷ record { at = state; value = value } ∷ []) is
    ∙ ap (λ (n : ℕ). record { at = inode_word 0 2; value = c.tail } ∷ record { at = n; value = value } ∷ []) other
    ∙ ap (λ (xs : List Word). record { at = inode_word 0 2; value = c.tail } ∷ xs) (sym (one_changed c.turn c.node value some))

-- what one commit of the journal did, of these words under another form
pub all_done : {E : Type 0} (inodes who : ℕ) (xs ys : List Word) (s t : State) → xs ≡ ys → (r : Result (Unit {0}) E)
    → LeavesOnly s t (AllOrNone inodes who xs s) → OnOk r (IsAllDone who xs s t) → StoresOnly (IsTouched xs) s t
    → KeepsFlushed (Others who) (IsTouched xs) s t → OnOk r (SettlesAll who s t) → s.spare ≤ t.spare + 25 → s.faults ≤ t.faults
    → OnOk r (CommitsAll inodes who ys s t)
all_done {E = E} inodes who xs ys s t same r images done only others settles spare faults = by r done settles
  where
    by : (r : Result (Unit {0}) E) → OnOk r (IsAllDone who xs s t) → OnOk r (SettlesAll who s t) → OnOk r (CommitsAll inodes who ys s t)
    by (Ok x) done' settles' = subst (λ (zs : List Word). CommitsAll inodes who zs s t) same (record {
      images = images;
      done = done';
      only = only;
      others = others;
      settles = settles';
      spare = spare;
      faults = faults;
    })
    by (Err e) done' settles' = tt
