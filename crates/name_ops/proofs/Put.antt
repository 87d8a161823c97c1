-- The index of names after an operation on names.
use Rattle.std.proofs.Common.{◌≡◌, ⊎_elim, ℕ, List, sym, ◌∙◌, ap, subst, Option, Some, None}
use Rattle.std.specs.Ordering.{nat_cmp}
use Rattle.std.specs.Cmp.Lexicographic.{slice_cmp}
use Rattle.std.specs.Prelude.{IfSome, if◌then◌else◌}
use Rattle.std.specs.FinMap.{get}
use Rattle.log_entry.specs.Name.{same_name}
use Rattle.law_names.specs.Operations.{with_name}
use Rattle.file_index.specs.Index.{Index, Puts, Drops}
use Rattle.dn_model.specs.declared.op.Op.{Op}
use Rattle.dn_model.specs.declared.op.Op.TheVariants.{Create, Remove, Rename}
use Rattle.law_names.proofs.Links.{names_eq, with_name-here, with_name-other}
use Rattle.dn_volume.specs.declared.flight.Change.{Change}
use Rattle.dn_volume.specs.declared.flight.Change.TheVariants.{Names}
use Rattle.dn_volume.specs.declared.flight.NameChange.{NameChange}
use Rattle.dn_volume.specs.PlannedNames.{name_put}
use Rattle.dn_volume.specs.declared.flight.Flight.{Flight}
use Rattle.dn_volume.specs.declared.volume.Parts.{Parts}
use Rattle.name_ops.specs.Landing.{names_after}
use Rattle.name_ops.specs.Ending.{MovesName, FinishesNames}

module _ (old new : Index (slice_cmp nat_cmp) ℕ) where
  pub put_created : (name : List ℕ) (node : ℕ) → Puts name node old new → (other : List ℕ)
      → get new.map other ≡ with_name (get old.map) name (Some node) other
  put_created name node puts other = ⊎_elim
      (λ here. ap (get new.map) here.1 ∙ puts.there ∙ sym (ap (with_name (get old.map) name (Some node)) here.1
      ∙ with_name-here (get old.map) name (Some node)))
      (λ away. puts.others other away.1 ∙ sym (with_name-other (get old.map) name (Some node) other away.1))
      (names_eq name other)

  pub dropped_removed : (name : List ℕ) → Drops name old new → (other : List ℕ) → get new.map other ≡ with_name (get old.map) name None other
  dropped_removed name drops other = ⊎_elim
      (λ here. ap (get new.map) here.1 ∙ drops.gone ∙ sym (ap (with_name (get old.map) name None) here.1 ∙ with_name-here (get old.map) name None))
      (λ away. drops.others other away.1 ∙ sym (with_name-other (get old.map) name None other away.1))
      (names_eq name other)

-- a name with the same others leads to the same
with_same : (f g : List ℕ → Option ℕ) (name : List ℕ) (found : Option ℕ) (other : List ℕ) → f other ≡ g other
    → with_name f name found other ≡ with_name g name found other
with_same f g name found other same = ap (λ (r : Option ℕ). if same_name name other then found else r) same

pub moved_renamed : (from to : List ℕ) (old new : Index (slice_cmp nat_cmp) ℕ) → MovesName from to old new → (other : List ℕ)
    → get new.map other ≡ with_name (with_name (get old.map) from None) to (get old.map from) other
moved_renamed from to old new moves other =
    put_created moves.mid new to moves.node moves.puts other
    ∙ with_same (get moves.mid.map) (with_name (get old.map) from None) to (Some moves.node) other
    (dropped_removed old moves.mid from moves.drops other)
    ∙ ap (λ (r : Option ℕ). with_name (with_name (get old.map) from None) to r other) (sym moves.led)

-- so it is with each operation
pub put_by_create : (op : Op) (name : List ℕ) → op ≡ Create name → (put : Option (List ℕ)) → put ≡ name_put op
    → (old new : Index (slice_cmp nat_cmp) ℕ) (node : ℕ) → IfSome put (λ given. Puts given node old new) → (other : List ℕ)
    → get new.map other ≡ names_after op (get old.map) node other
put_by_create op name is put from old new node puts other = subst (λ (o : Op). get new.map other ≡ names_after o (get old.map) node other) (sym is)
    (put_created old new name node (subst (λ (p : Option (List ℕ)). IfSome p (λ given. Puts given node old new)) (from ∙ ap name_put is) puts) other)

pub dropped_by_remove : (op : Op) (name : List ℕ) → op ≡ Remove name → (old new : Index (slice_cmp nat_cmp) ℕ) (node : ℕ) → Drops name old new
    → (other : List ℕ) → get new.map other ≡ names_after op (get old.map) node other
dropped_by_remove op name is old new node drops other = subst (λ (o : Op). get new.map other ≡ names_after o (get old.map) node other) (sym is)
    (dropped_removed old new name drops other)

pub moved_by_rename : (op : Op) (from to : List ℕ) → op ≡ Rename from to → (put : Option (List ℕ)) → put ≡ name_put op
    → (old new : Index (slice_cmp nat_cmp) ℕ) (node : ℕ) → IfSome put (λ given. MovesName from given old new) → (other : List ℕ)
    → get new.map other ≡ names_after op (get old.map) node other
moved_by_rename op from to is put is_put old new node moves other =
    subst (λ (o : Op). get new.map other ≡ names_after o (get old.map) node other) (sym is)
    (moved_renamed from to old new (subst (λ (p : Option (List ℕ)). IfSome p (λ given. MovesName from given old new)) (is_put ∙ ap name_put is) moves)
    other)

pub same_names : (x : Change) (c c' : NameChange) → x ≡ Names c → x ≡ Names c' → c ≡ c'
same_names x c c' is at = cc

pub finishes_same : (who : ℕ) (f : Flight) (c c' : NameChange) (b b' : Parts) → c ≡ c' → FinishesNames who f c b b' → FinishesNames who f c' b b'
finishes_same who f c c' b b' same = subst (λ (x : NameChange). FinishesNames who f x b b') same
