-- A name is looked up.
use Rattle.std.specs.Prelude.{◌≡◌, ℕ, List, Some, None}
use Rattle.std.specs.Ordering.{nat_cmp}
use Rattle.std.specs.Cmp.Lexicographic.{slice_cmp}
use Rattle.std.specs.FinMap.{FinMap, get}
use Rattle.log_entry.specs.Name.{IsLegal}
use Rattle.dn_model.specs.declared.op.Refusal.{Refusal}
use Rattle.dn_model.specs.declared.op.Refusal.TheVariants as why

-- the refusal of a name that isn't legal, or leads to no file
abbrev pub IsLookupRefusal : FinMap (slice_cmp nat_cmp) ℕ → List ℕ → Refusal → Type 0
IsLookupRefusal names name why.BadName = IsLegal name → ⊥
IsLookupRefusal names name why.NotFound = IsLegal name × (get names name ≡ None)
IsLookupRefusal names name why.Exists = ⊥
IsLookupRefusal names name why.TooLong = ⊥
IsLookupRefusal names name why.TooBig = ⊥
IsLookupRefusal names name why.NoInode = ⊥
IsLookupRefusal names name (why.NoSpace needed free) = ⊥

-- a legal name and its inode
pub record IsFound (names : FinMap (slice_cmp nat_cmp) ℕ) (name : List ℕ) (ino : ℕ) : Type 0 where
  pub legal : IsLegal name
  pub leads : get names name ≡ Some ino
