-- Just one name leads to each live inode, and none to any other, or the first of which that isn't so is found.
use Rattle.std.proofs.Common.{
  ◌≡◌,
  ◌≢◌,
  ◌⊎◌,
  inl,
  inr,
  ⊎_elim,
  ℕ,
  suc,
  ◌<◌,
  ◌≤◌,
  Bool,
  true,
  false,
  List,
  [],
  ◌∷◌,
  get_or,
  Option,
  Some,
  None,
  refl,
  sym,
  ◌∙◌,
  ap,
  arith,
}
use Rattle.std.specs.Prelude.{Contains, if◌then◌else◌}
use Rattle.std.proofs.lemmas.Bool.{cases_eq}
use Rattle.std.proofs.lemmas.List.Elements.{All-contains}
use Rattle.log_entry.specs.Name.{same_name}
use Rattle.log_entry.proofs.SameName.{same_name-true}
use Rattle.log_entry.specs.declared.item.LogItem.{LogItem}
use Rattle.log_entry.specs.declared.item.LogItem.TheVariants.{Write, Size, Add, Forget}
use Rattle.dn_model.specs.Disk.{Disk, Use, Free, Live, Dying}
use Rattle.dn_model.specs.Files.{named, named_after}
use Rattle.dn_model.specs.Valid.{IsLinked, HasOneName}
use Rattle.dn_model.specs.Faults.{HasLogs, HasLinks, bad_link}
use Rattle.dn_model.specs.declared.fault.ImageFault.TheVariants.{BadLink}
use Rattle.law_log_read.proofs.Decided.{Decided, le_decided, both_decided, implies_decided, not_decided, all_decided, lists_decided}
use Rattle.law_image_read.proofs.Least.{least_below, some_or_none}
use Rattle.law_image_read.proofs.Head.{HasFault}

-- the names that items add
abbrev added : List LogItem → List (List ℕ)
added [] = []
added (Add ino name ∷ items) = name ∷ added items
added (Forget name ∷ items) = added items
added (Write first count block size flag mask ∷ items) = added items
added (Size size ∷ items) = added items

module _ (name : List ℕ) (ino : ℕ) where
  abbrev Leads : Option ℕ → List LogItem → Type 0
  Leads found items = (found ≡ Some ino) ⊎ Contains (added items) name

  later : (new : List ℕ) (names : List (List ℕ)) → Contains names name → Contains (new ∷ names) name
  later new names at = (suc at.0, omega (arith, at.1), at.2)

  by_name : (i : ℕ) (new : List ℕ) (found : Option ℕ) (items : List LogItem) (test : Bool) → same_name new name ≡ test
      → Leads (if test then Some i else found) items → Leads found (Add i new ∷ items)
  by_name i new found items true same leads = inr (0, omega arith, same_name-true new name same)
  by_name i new found items false other (inl before) = inl before
  by_name i new found items false other (inr at) = inr (later new (added items) at)

  by_forget : (old : List ℕ) (found : Option ℕ) (items : List LogItem) (test : Bool) → Leads (if test then None else found) items
      → Leads found (Forget old ∷ items)
  by_forget old found items true (inl none) = let never : ⊥ = cc in absurd never
  by_forget old found items true (inr at) = inr at
  by_forget old found items false leads = leads

  -- a name that leads to an inode was added
  leads_after : (found : Option ℕ) (items : List LogItem) → named_after name found items ≡ Some ino → Leads found items
  leads_after found [] e = inl e
  leads_after found (Add i new ∷ items) e = by_name i new found items (same_name new name) refl
      (leads_after (if same_name new name then Some i else found) items e)
  leads_after found (Forget old ∷ items) e = by_forget old found items (same_name old name) (leads_after (if same_name old name then None else found)
      items e)
  leads_after found (Write first count block size flag mask ∷ items) e = leads_after found items e
  leads_after found (Size size ∷ items) e = leads_after found items e

option_decided : (o : Option ℕ) (n : ℕ) → Decided (o ≡ Some n)
option_decided None n = inr (λ e. cc)
option_decided (Some m) n = elim (cases_eq m n) [
  | inl e ↦ inl (ap Some e)
  | inr other ↦ inr (λ e. let same : m ≡ n = cc in other same)
]

module _ (d : Disk) (ino : ℕ) where
  abbrev names : List (List ℕ)
  names = added (d.inode 0).log.items

  abbrev LeadsTo : List ℕ → Type 0
  LeadsTo name = named d name ≡ Some ino

  leads_decided : (name : List ℕ) → Decided (LeadsTo name)
  leads_decided name = option_decided (named d name) ino

  was_added : (name : List ℕ) → LeadsTo name → Contains names name
  unfolding named
  was_added name e = ⊎_elim (λ (none : None ≡ Some ino). let never : ⊥ = cc in absurd never) (λ (at : Contains names name). at)
      (leads_after name ino None (d.inode 0).log.items e)

  none_decided : Decided ((name : List ℕ) → named d name ≢ Some ino)
  none_decided = elim (some_or_none LeadsTo leads_decided names) [
    | inl found ↦ inr (λ none. none found.0 found.1)
    | inr none ↦ inl (λ name e. All-contains (λ x. LeadsTo x → ⊥) names name none (was_added name e) e)
  ]

  abbrev IsThat : List ℕ → List ℕ → Type 0
  IsThat name other = LeadsTo other → other ≡ name

  that_decided : (name other : List ℕ) → Decided (IsThat name other)
  that_decided name other = implies_decided (LeadsTo other) (other ≡ name) (leads_decided other) (lists_decided other name)

  one_decided : Decided (HasOneName d ino)
  one_decided = elim (some_or_none LeadsTo leads_decided names) [
    | inr none ↦ inr (λ has. All-contains (λ x. LeadsTo x → ⊥) names has.name none (was_added has.name has.leads) has.leads)
    | inl found ↦ elim (all_decided (IsThat found.0) (that_decided found.0) names) [
      | inl all ↦ inl (record {
        name = found.0;
        leads = found.1;
        alone = λ other e. All-contains (IsThat found.0) names other all (was_added other e)
            e;
      })
      | inr never ↦ inr (λ has. never (λ k default lt e. has.alone (get_or names k default) e ∙ sym (has.alone found.0 found.1)))
    ]
  ]

  linked_decided : (u : Use) → Decided (IsLinked d ino u)
  linked_decided Live = one_decided
  linked_decided Free = none_decided
  linked_decided (Dying cut) = none_decided

module _ (c : List ℕ) (d : Disk) where
  abbrev IsBadLink : ℕ → Type 0
  IsBadLink i = (1 ≤ i) × (IsLinked d i (d.inode i).use_of → ⊥)

  bad_link_decided : (i : ℕ) → Decided (IsBadLink i)
  bad_link_decided i =
      both_decided (1 ≤ i) (IsLinked d i (d.inode i).use_of → ⊥) (le_decided 1 i) (not_decided (IsLinked d i (d.inode i).use_of)
      (linked_decided d i (d.inode i).use_of))

  linked : ((i : ℕ) → i < d.geometry.inodes → IsBadLink i → ⊥) → (i : ℕ) → 1 ≤ i → i < d.geometry.inodes → IsLinked d i (d.inode i).use_of
  linked none i some lt = elim (linked_decided d i (d.inode i).use_of) [
    | inl is ↦ is
    | inr never ↦ absurd (none i lt (some, never))
  ]

  pub links_read : HasLogs c d → HasFault c ⊎ HasLinks c d
  links_read logs = elim (least_below IsBadLink bad_link_decided d.geometry.inodes) [
    | inl none ↦ inr (record { logs = logs; links = linked none })
    | inr first ↦ inl (BadLink first.0, bad_link d first.0 logs first.1)
  ]
