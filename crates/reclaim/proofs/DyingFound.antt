-- The least dying inode is looked for.
use Rattle.std.proofs.Common.{◌≡◌, inl, inr, ℕ, ◌+◌, ◌<◌, ◌≤◌, true, false, List, length, refl, sym, ◌∙◌, ap, subst, arith}
use Rattle.std.specs.Prelude.{slice_get, slice_index_or, Some, Bool}
use Rattle.std.proofs.lemmas.Bool.{cases_lt, false≢true}
use Rattle.std.proofs.lemmas.Option.{slice_get_read}
use Rattle.dn_volume.specs.declared.volume.InodeState.{InodeState}
use Rattle.reclaim.specs.Dying.{IsDyingState, IsAt, IsDying, IsLeastDying}
use Rattle.reclaim.proofs.NodesChanged.{same_some}
use Rattle.reclaim.proofs.NextPlace.{inside_list}

-- what is read at a place of the list
pub read_at : (nodes : List InodeState) (i : ℕ) (x : InodeState) → i < length nodes → x ≡ slice_index_or nodes i x → slice_get nodes i ≡ Some x
read_at nodes i x lt is = slice_get_read nodes (length nodes) i x refl lt is

module _ (nodes : List InodeState) (i : ℕ) (x : InodeState) (lt : i < length nodes) (is : x ≡ slice_index_or nodes i x) (before : (k : ℕ) → k < i
    → IsDying nodes k → ⊥) where
  pub least_here : IsDyingState x → IsLeastDying nodes i
  least_here dies = record { is = record { node = x; there = read_at nodes i x lt is; has = dies }; least = before }

  pub none_before : (dies : Bool) → dies ≡ false → (IsDyingState x → dies ≡ true) → (k : ℕ) → k < i + 1 → IsDying nodes k → ⊥
  none_before dies isnt tells k below at = elim (cases_lt k i) [
    | inl low ↦ before k low at
    | inr high ↦
        let same : k ≡ i = omega (arith, below, high) in
        let node : at.node ≡ x = same_some (slice_get nodes i) at.node x (ap (slice_get nodes) (sym same) ∙ at.there) (read_at nodes i x lt is) in
        false≢true (sym isnt ∙ tells (subst IsDyingState node at.has))
  ]

pub none_at_all : (nodes : List InodeState) (i : ℕ) → length nodes ≤ i → ((k : ℕ) → k < i → IsDying nodes k → ⊥) → (k : ℕ) → IsDying nodes k → ⊥
none_at_all nodes i all before k at = let inside = inside_list nodes k at.node at.there in before k (omega (arith, inside, all)) at

-- what the machine knows of it
pub state_at : (Is : InodeState → Type 0) (nodes : List InodeState) (i : ℕ) (x : InodeState) → i < length nodes → x ≡ slice_index_or nodes i x → Is x
    → IsAt Is nodes i
state_at Is nodes i x lt is has = record { node = x; there = read_at nodes i x lt is; has = has }

pub node_at : (Is : InodeState → Type 0) (nodes : List InodeState) (i : ℕ) (x : InodeState) → i < length nodes → x ≡ slice_index_or nodes i x
    → IsAt Is nodes i → Is x
node_at Is nodes i x lt is at = subst Is (same_some (slice_get nodes i) at.node x at.there (read_at nodes i x lt is)) at.has
