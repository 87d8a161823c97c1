-- A change of names is made by one commit of the journal.
use Rattle.std.proofs.Common.{◌≡◌, ◌≢◌, ◌⊎◌, inl, inr, ⊎_elim, ℕ, zero, suc, ◌+◌, ◌-◌, ◌*◌, ◌<◌, ◌≤◌, List, [], ◌∷◌, length, refl, ◌∙◌, subst, arith}
use Rattle.pm_device.specs.State.{State, Agree}
use Rattle.pm_device.specs.Settled.{StoresOnly}
use Rattle.pm_device.specs.Reading.{Said, Stands, IsReady}
use Rattle.pm_device.proofs.OneWord.{stands-stores}
use Rattle.pm_device.specs.Words.{IsIn}
use Rattle.pm_device.specs.Pages.{SaysRun}
use Rattle.pm_device.specs.Lines.{StoresRun}
use Rattle.pm_device.proofs.Layers.{leaves_only-stores, ready-weaken, ready-both, run_is_ready}
use Rattle.dn_model.proofs.Regions.{inode_word_low}
use Rattle.std.specs.Prelude.{slice_index}
use Rattle.pm_layout.specs.Geometry.{inode_word}
use Rattle.dn_model.specs.Rolled.{IsJournaled}
use Rattle.dn_model.specs.Disk.{Disk, DiskSays, of_inodes, at_state, state_number}
use Rattle.dn_model.specs.Growth.{Prepared}
use Rattle.law_write.proofs.WriteEvent.{length-left, stands_for_read}
use Rattle.name_journal.specs.declared.change.Change.{Change}
use Rattle.name_journal.specs.Changes.{address, AreChanges, IsNamed, NewValues}
use Rattle.name_journal.specs.AllOrNone.{DiffersBy}
use Rattle.law_names.specs.NameChange.{
  NameChange,
  Turn,
  Stays,
  Comes,
  Goes,
  turned,
  root_after,
  names_changed,
  MayChange,
  TurnSays,
  FreshNames,
  turn_field,
  turn_words,
  in_root,
  in_inode,
  tail_change,
  state_changes,
  name_changes,
}
use Rattle.law_names.specs.AllOrNoneLaws.{FreshWord, AreAllOrNone}
use Rattle.law_names.specs.NameLaws.{StandsStill}
use Rattle.law_names.proofs.Changed.{same_geometry}
use Rattle.law_names.proofs.Kept.{root_in_table}
use Rattle.law_names.proofs.ChangedValid.{changed_valid}
use Rattle.law_names.proofs.Differs.{Differs, new_tail, new_state, rest, changed_differs, fresh_unsaid}

-- The root's tail alone, or it and the state of another inode.
module _ (inodes ino tail : ℕ) (some : 0 < inodes) (file : 1 ≤ ino) (in_table : ino < inodes) where
  abbrev first : Change
  first = record { at = inode_word 0 2; value = tail }

  pub one_change : AreChanges inodes (first ∷ [])
  one_change = record {
    journaled = λ i lt. journaled i lt;
    apart = λ i j il jl e. omega (arith, il, jl);
  }
    where
      journaled : (i : ℕ) → i < 1 → IsJournaled inodes (address (first ∷ []) i)
      journaled zero lt = record { ino = 0; field = 2; in_table = some; first_three = omega arith; is = refl }
      journaled (suc i) lt = absurd (omega (arith, lt))

  pub not_one : (a : ℕ) → a ≢ inode_word 0 2 → IsNamed (first ∷ []) a → ⊥
  not_one a ne named = by_index named.i named.lt named.is
    where
      by_index : (i : ℕ) → i < 1 → a ≡ address (first ∷ []) i → ⊥
      by_index zero lt e = ne e
      by_index (suc i) lt e = omega (arith, lt)

  module _ (value : ℕ) where
    abbrev both : List Change
    both = first ∷ record { at = inode_word ino 0; value = value } ∷ []

    pub two_changes : AreChanges inodes both
    two_changes = record { journaled = journaled; apart = apart }
      where
        journaled : (i : ℕ) → i < 2 → IsJournaled inodes (address both i)
        journaled zero lt = record { ino = 0; field = 2; in_table = some; first_three = omega arith; is = refl }
        journaled (suc zero) lt = record { ino = ino; field = 0; in_table = in_table; first_three = omega arith; is = refl }
        journaled (suc (suc i)) lt = absurd (omega (arith, lt))

        apart : (i j : ℕ) → i < 2 → j < 2 → address both i ≡ address both j → i ≡ j
        apart zero zero il jl e = refl
        apart zero (suc zero) il jl e = absurd (omega (arith, e))
        apart (suc zero) zero il jl e = absurd (omega (arith, e))
        apart (suc zero) (suc zero) il jl e = refl
        apart (suc (suc i)) j il jl e = absurd (omega (arith, il))
        apart zero (suc (suc j)) il jl e = absurd (omega (arith, jl))
        apart (suc zero) (suc (suc j)) il jl e = absurd (omega (arith, jl))

    pub not_two : (a : ℕ) → a ≢ inode_word 0 2 → a ≢ inode_word ino 0 → IsNamed both a → ⊥
    not_two a ne ne' named = by_index named.i named.lt named.is
      where
        by_index : (i : ℕ) → i < 2 → a ≡ address both i → ⊥
        by_index zero lt e = ne e
        by_index (suc zero) lt e = ne' e
        by_index (suc (suc i)) lt e = omega (arith, lt)

module _ (d : Disk) (change : NameChange) (may : MayChange d change) where
  abbrev new : Disk
  new = names_changed d change

  abbrev tail : Change
  tail = tail_change d change

  -- by what becomes of the inode
  abbrev changes_by : Turn → List Change
  changes_by turn = tail ∷ state_changes turn change.ino

  few_by : (turn : Turn) → (1 ≤ length (changes_by turn)) × (length (changes_by turn) ≤ 4)
  few_by Stays = (omega arith, omega arith)
  few_by Comes = (omega arith, omega arith)
  few_by Goes = (omega arith, omega arith)

  are_by : (turn : Turn) → AreChanges d.geometry.inodes (changes_by turn)
  are_by Stays = one_change d.geometry.inodes change.ino tail.value (root_in_table d change may) may.file may.in_table
  are_by Comes = two_changes d.geometry.inodes change.ino tail.value (root_in_table d change may) may.file may.in_table 1
  are_by Goes = two_changes d.geometry.inodes change.ino tail.value (root_in_table d change may) may.file may.in_table 2

  tail_by : (turn : Turn) (a v : ℕ) → a ≡ inode_word 0 2 → v ≡ tail.value → NewValues (changes_by turn) (length (changes_by turn)) a v
  tail_by turn a v place value = record { i = 0; lt = (few_by turn).0; place = place; value = value }

  -- the state is new, or the old disk says it
  state_by : (turn : Turn) (a v : ℕ) → a ≡ inode_word change.ino 0 → v ≡ state_number (turned turn (d.inode change.ino)).use_of
      → NewValues (changes_by turn) (length (changes_by turn)) a v ⊎ ((IsNamed (changes_by turn) a → ⊥) × DiskSays d a v)
  state_by Stays a v place value = inr (
    not_one d.geometry.inodes change.ino tail.value (root_in_table d change may) may.file may.in_table a (λ e. omega (arith, place, e)),
    of_inodes (at_state change.ino may.in_table place value),
  )
  state_by Comes a v place value = inl (record { i = 1; lt = omega arith; place = place; value = value })
  state_by Goes a v place value = inl (record { i = 1; lt = omega arith; place = place; value = value })

  rest_by : (turn : Turn) (a : ℕ) → a ≢ inode_word 0 2 → a ≢ inode_word change.ino 0 → IsNamed (changes_by turn) a → ⊥
  rest_by Stays a ne ne' = not_one d.geometry.inodes change.ino tail.value (root_in_table d change may) may.file may.in_table a ne
  rest_by Comes a ne ne' = not_two d.geometry.inodes change.ino tail.value (root_in_table d change may) may.file may.in_table 1 a ne ne'
  rest_by Goes a ne ne' = not_two d.geometry.inodes change.ino tail.value (root_in_table d change may) may.file may.in_table 2 a ne ne'

  differs_by : (a v : ℕ) → DiskSays new a v → Differs d change may a v
      → NewValues (name_changes d change) (length (name_changes d change)) a v
      ⊎ ((IsNamed (name_changes d change) a → ⊥) × (DiskSays d a v ⊎ FreshNames d change a v))
  differs_by a v told (new_tail place value) = inl (tail_by change.turn a v place value)
  differs_by a v told (new_state place value) = ⊎_elim (λ new_value. inl new_value)
      (λ (old : (IsNamed (name_changes d change) a → ⊥) × DiskSays d a v). inr (old.0, inl old.1)) (state_by change.turn a v place value)
  differs_by a v told (rest ne ne' says) = inr (rest_by change.turn a ne ne', says)

  names_differ : DiffersBy (name_changes d change) (DiskSays d) (DiskSays new) (FreshWord d new (name_changes d change))
  names_differ a v told = ⊎_elim (λ new_value. inl new_value)
      (λ (other : (IsNamed (name_changes d change) a → ⊥) × (DiskSays d a v ⊎ FreshNames d change a v)). inr (
        other.0,
        ⊎_elim
            (λ (old : DiskSays d a v). inl old)
            (λ (fresh : FreshNames d change a v). inr
            (record { read = told; unnamed = other.0; unread = λ said. fresh_unsaid d change may a v said.value fresh said.told })) other.1,
      ))
      (differs_by a v told (changed_differs d change may a v told))

  pub names_all_or_none : AreAllOrNone d new (name_changes d change)
  names_all_or_none = record {
    geometry = same_geometry d change;
    old_valid = may.root.valid;
    new_valid = changed_valid d change may;
    some = (few_by change.turn).0;
    few = (few_by change.turn).1;
    journaled = are_by change.turn;
    differs = names_differ;
  }

  -- the fresh words are the prepared ones
  fresh_is : (a v : ℕ) → FreshWord d new (name_changes d change) a v → FreshNames d change a v
  fresh_is a v word = ⊎_elim
      (λ (named : NewValues (name_changes d change) (length (name_changes d change)) a v). absurd
      (word.unnamed (record { i = named.i; lt = named.lt; is = named.place })))
      (λ (other : (IsNamed (name_changes d change) a → ⊥) × (DiskSays d a v ⊎ FreshNames d change a v)). ⊎_elim
      (λ (old : DiskSays d a v). absurd (word.unread (record { value = v; told = old }))) (λ (fresh : FreshNames d change a v). fresh) other.1)
      (differs_by a v word.read (changed_differs d change may a v word.read))

  pub names_suffice : (who : ℕ) (s : State) → IsReady who (FreshNames d change) s → IsReady who (FreshWord d new (name_changes d change)) s
  names_suffice who s ready = ready-weaken who s (FreshNames d change) (FreshWord d new (name_changes d change)) fresh_is ready

  -- stores to words of which the disk says nothing leave it standing
  still : (W : ℕ → Type 0) → ((a v : ℕ) → DiskSays d a v → W a → ⊥) → (s t : State) → StoresOnly W s t → Stands (DiskSays d) s → Agree t.now t.past
      → length t.now ≡ 512 * d.geometry.pages → StandsStill d s t
  still W apart s t only stands agree size = record {
    stands = stands-stores W s t only (DiskSays d) apart stands;
    images =
        let reads = leaves_only-stores W s t (DiskSays d) only apart stands in
        record {
          extends = reads.extends;
          each = λ m c late left. stands_for_read d c may.root.valid (reads.each m c late left)
              (length-left t.past t.now m c agree left ∙ size);
        };
  }

  pub root_stores : (s t : State) → StoresOnly (Said (Prepared 0 (d.inode 0).log (root_after d change))) s t
      → Stands (DiskSays d) s → Agree t.now t.past → length t.now ≡ 512 * d.geometry.pages → StandsStill d s t
  root_stores = still (Said (Prepared 0 (d.inode 0).log (root_after d change))) (λ a v says told. fresh_unsaid d change may a told.value v
      (in_root told.told) says)

  abbrev turn_at : ℕ
  turn_at = inode_word change.ino (turn_field change.turn)

  abbrev turn_values : List ℕ
  turn_values = turn_words change.turn (d.inode change.ino).log

  pub turn_stores : (s t : State) → StoresOnly (IsIn turn_at (length turn_values)) s t → Stands (DiskSays d) s → Agree t.now t.past
      → length t.now ≡ 512 * d.geometry.pages → StandsStill d s t
  turn_stores = still (IsIn turn_at (length turn_values)) (λ a v says here. fresh_unsaid d change may a (slice_index turn_values (a - turn_at)) v
      (in_inode (here, refl)) says)

  -- the run of the inode lies in the device
  turn_inside : (turn : Turn) → inode_word change.ino (turn_field turn) + length (turn_words turn (d.inode change.ino).log) ≤ 512 * d.geometry.pages
  turn_inside Stays = let low = inode_word_low d.geometry change.ino 1 may.in_table (omega arith) in omega (arith, low, may.root.valid.accepted.room)
  turn_inside Comes = let low = inode_word_low d.geometry change.ino 3 may.in_table (omega arith) in omega (arith, low, may.root.valid.accepted.room)
  turn_inside Goes = let low = inode_word_low d.geometry change.ino 3 may.in_table (omega arith) in omega (arith, low, may.root.valid.accepted.room)

  pub turn_ready : (who : ℕ) (s t : State) → length s.now ≡ 512 * d.geometry.pages → StoresRun who turn_at turn_values s t
      → IsReady who (TurnSays d change) t
  turn_ready who s t size stores = run_is_ready who turn_at turn_values t (omega (arith, turn_inside change.turn, stores.only.words, size))
      (record { reads = stores.reads; flushed = stores.flushed })

pub no_turn_ready : (d : Disk) (change : NameChange) → change.turn ≡ Stays → (who : ℕ) (s : State) → IsReady who (TurnSays d change) s
no_turn_ready d change stays who s = record {
  within = λ a v told. absurd (none a v told);
  reads = λ a v told. absurd (none a v told);
  flushed = λ a v told. absurd (none a v told);
}
  where
    nothing : (a v : ℕ) → SaysRun (inode_word change.ino 1) [] a v → ⊥
    nothing a v told = omega (arith, told.0.0, told.0.1)

    none : (a v : ℕ) → TurnSays d change a v → ⊥
    none a v told = nothing a v (subst (λ (t : Turn). SaysRun (inode_word change.ino (turn_field t)) (turn_words t (d.inode change.ino).log) a v)
        stays told)

pub fresh_ready : (d : Disk) (change : NameChange) (who : ℕ) (s : State) → IsReady who (Prepared 0 (d.inode 0).log (root_after d change)) s
    → IsReady who (TurnSays d change) s → IsReady who (FreshNames d change) s
fresh_ready d change who s root inode = ready-weaken who s (λ a v. Prepared 0 (d.inode 0).log (root_after d change) a v ⊎ TurnSays d change a v)
    (FreshNames d change) parts
    (ready-both who s (Prepared 0 (d.inode 0).log (root_after d change)) (TurnSays d change) root inode)
  where
    parts : (a v : ℕ) → FreshNames d change a v → Prepared 0 (d.inode 0).log (root_after d change) a v ⊎ TurnSays d change a v
    parts a v (in_root prepared) = inl prepared
    parts a v (in_inode told) = inr told
