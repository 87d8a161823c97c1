-- How many slots the items of an operation on names take, and the pages for them.
use Rattle.std.proofs.Common.{◌≡◌, ⊎_elim, ℕ, zero, suc, ◌+◌, ◌-◌, ◌*◌, ◌<◌, ◌≤◌, Bool, List, [], ◌∷◌, length, refl, sym, ◌∙◌, ap, arith}
use Rattle.std.proofs.Common.{Option, Some, None}
use Rattle.std.specs.Prelude.{◌/◌, if◌then◌else◌, nat_lt}
use Rattle.std.proofs.lemmas.Bool.{cases_lt, cond-true, cond-false, lt-ltb, le-ltb}
use Rattle.log_entry.specs.Spelling.{spelling, spelled, more_count, more_slots}
use Rattle.log_entry.proofs.Spelled.{length-spelled-cons}
use Rattle.log_entry.specs.declared.item.LogItem.{LogItem}
use Rattle.log_entry.specs.declared.item.LogItem.TheVariants.{Add, Forget}
use Rattle.dn_model.specs.Log.{count}
use Rattle.dn_model.specs.Disk.{Disk}
use Rattle.dn_model.specs.History.{needed, name_slots}
use Rattle.dn_model.specs.declared.op.Op.{Op}
use Rattle.dn_model.specs.declared.op.Op.TheVariants.{Create, Write, Read, Cut, Remove, Rename, Size, List as ListAll}
use Rattle.law_names.specs.NameChange.{NameChange as DiskChange}
use Rattle.law_names.specs.Operations.{renaming}
use Rattle.law_names.proofs.Links.{names_eq}
use Rattle.dn_volume.specs.declared.flight.Flight.{Flight}
use Rattle.dn_volume.specs.PlannedNames.{PlansNames}
use Rattle.name_ops.specs.Finding.{op_slots}

-- a log with k slots more, on one page more where its last hasn't the room
pub grown_fits : (pages n k fresh : ℕ) → 1 ≤ k → k ≤ 63 → pages ≡ (n + 62) / 63 → fresh ≡ (if nat_lt (63 * pages - n) k then 1 else 0)
    → pages + fresh ≡ (n + k + 62) / 63
grown_fits pages n k fresh some few fits needs = ⊎_elim
    (λ (lt : 63 * pages - n < k). let one : fresh ≡ 1 = needs ∙ cond-true (nat_lt (63 * pages - n) k) 1 0 (lt-ltb (63 * pages - n) k lt) in
    omega (arith, some, few, fits, lt, one))
    (λ (le : k ≤ 63 * pages - n). let none : fresh ≡ 0 = needs ∙ cond-false (nat_lt (63 * pages - n) k) 1 0 (le-ltb (63 * pages - n) k le) in
    omega (arith, some, few, fits, le, none))
    (cases_lt (63 * pages - n) k)

-- the slots of a name's items
length-more : (name : List ℕ) (from n : ℕ) → length (more_slots name from n) ≡ n
length-more name from zero = refl
length-more name from (suc n) = ap suc (length-more name (from + 7) n)

length-add : (ino : ℕ) (name : List ℕ) (items : List LogItem) → length (spelled (Add ino name ∷ items)) ≡ name_slots name + length (spelled items)
unfolding spelling
length-add ino name items = length-spelled-cons (Add ino name) items ∙ (let more = length-more name 5 (more_count name) in omega (arith, more))

length-forget : (name : List ℕ) (items : List LogItem) → length (spelled (Forget name ∷ items)) ≡ name_slots name + length (spelled items)
unfolding spelling
length-forget name items = length-spelled-cons (Forget name) items ∙ (let more = length-more name 5 (more_count name) in omega (arith, more))

-- They are those of its items. There are some, and they fit a page. The pages that it needs are for them alone.
pub record HasSlots (d : Disk) (op : Op) (change : DiskChange) : Type 0 where
  pub slots : length (spelled change.more) ≡ op_slots op
  pub some : 1 ≤ op_slots op
  pub few : op_slots op ≤ 63
  pub needs : needed d op ≡ (if nat_lt (63 * length (d.inode 0).log.pages - count (d.inode 0).log) (op_slots op) then 1 else 0)

renaming_more : (from to : List ℕ) (ino : ℕ) (replaced : Option ℕ) (fresh : List ℕ) → (renaming from to ino replaced fresh).more ≡ Forget from ∷ Add
    ino to ∷ []
renaming_more from to ino None fresh = refl
renaming_more from to ino (Some other) fresh = refl

pub has_slots : (d : Disk) (f : Flight) (change : DiskChange) (op : Op) → PlansNames d f change op → HasSlots d op change
has_slots d f change (Create name) plan = record {
  slots = ap (λ (x : DiskChange). length (spelled x.more)) plan.is ∙ length-add change.ino name [] ∙ (let zero' : name_slots name + 0 ≡ name_slots
      name = omega arith in zero');
  some = omega arith;
  few = let few = plan.legal.few in omega (arith, few);
  needs = refl;
}
has_slots d f change (Write name at text) plan = absurd plan
has_slots d f change (Read name at count') plan = absurd plan
has_slots d f change (Cut name to) plan = absurd plan
has_slots d f change (Remove name) plan = record {
  slots = ap (λ (x : DiskChange). length (spelled x.more)) plan.is ∙ length-forget name [] ∙ (let zero' : name_slots name + 0 ≡ name_slots name =
      omega arith in zero');
  some = omega arith;
  few = let few = plan.legal.few in omega (arith, few);
  needs = refl;
}
has_slots d f change (Rename from to) plan = record {
  slots = ap (λ (x : DiskChange). length (spelled x.more)) plan.is ∙ ap (λ (xs : List LogItem). length (spelled xs)) (renaming_more from to plan.ino
      plan.replaced f.fresh.items) ∙ length-forget from (Add plan.ino to ∷ [])
      ∙ (let second = length-add plan.ino to [] in let both : name_slots from + length (spelled (Add plan.ino to ∷ [])) ≡ name_slots from +
      name_slots to = omega (arith, second) in both);
  some = omega arith;
  few = let few_from = plan.legal_from.few in let few_to = plan.legal_to.few in omega (arith, few_from, few_to);
  needs = ⊎_elim (λ same. absurd (plan.apart (sym same.1))) (λ other. ap (λ (x : Bool). if x then 0 else (if nat_lt (63 * length
      (d.inode 0).log.pages - count (d.inode 0).log) (name_slots from + name_slots to) then 1 else 0)) other.0) (names_eq from to);
}
has_slots d f change (Size name) plan = absurd plan
has_slots d f change ListAll plan = absurd plan
