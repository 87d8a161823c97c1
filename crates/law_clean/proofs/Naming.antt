-- The names of a cleaned log of the root lead where they led.
use Rattle.std.proofs.Common.{◌≡◌, inl, inr, ℕ, ◌+◌, ◌≤◌, Bool, true, false, List, [], ◌∷◌, length, refl, sym, ◌∙◌, ap, arith}
use Rattle.std.specs.Prelude.{◌||◌, if◌then◌else◌, Option, Some, None}
use Rattle.std.specs.List.{list_any}
use Rattle.log_entry.specs.Name.{same_name}
use Rattle.log_entry.specs.Spelling.{spelling, spelled}
use Rattle.log_entry.specs.declared.item.LogItem.{LogItem}
use Rattle.log_entry.specs.declared.item.LogItem.TheVariants.{Write, Size, Add, Forget}
use Rattle.log_entry.proofs.SameName.{same_name-true}
use Rattle.log_entry.proofs.Spelled.{length-spelled-cons}
use Rattle.dn_model.specs.Log.{placed_from}
use Rattle.dn_model.specs.Maps.{Mapping, mapped_after, size_after}
use Rattle.dn_model.specs.Files.{named_after}
use Rattle.law_clean.specs.Cleaned.{is_of_name, last_adds}
use Rattle.law_clean.proofs.Among.{Among}

-- a name of which no item is leads where it led
module _ (name : List ℕ) where
  abbrev again : List LogItem → Bool
  again items = list_any (is_of_name name) items

  neither : (a b : Bool) → (a || b) ≡ false → (a ≡ false) × (b ≡ false)
  neither true b e = cc
  neither false b e = (refl, e)

  unchanged : (found : Option ℕ) (items : List LogItem) → again items ≡ false → named_after name found items ≡ found
  unchanged found [] alone = refl
  unchanged found (Write first n block size flag mask ∷ items) alone = unchanged found items alone
  unchanged found (Size size ∷ items) alone = unchanged found items alone
  unchanged found (Add ino new ∷ items) alone =
      let both = neither (same_name new name) (again items) alone in
      ap (λ (b : Bool). named_after name (if b then Some ino else found) items) both.0 ∙ unchanged found items both.1
  unchanged found (Forget old ∷ items) alone =
      let both = neither (same_name old name) (again items) alone in
      ap (λ (b : Bool). named_after name (if b then None else found) items) both.0 ∙ unchanged found items both.1

  add_alone : (ino : ℕ) (new : List ℕ) (items rest : List LogItem) (b : Bool) → same_name new name ≡ false → again rest ≡ false
      → again (if b then rest else (Add ino new ∷ rest)) ≡ false
  add_alone ino new items rest true other alone = alone
  add_alone ino new items rest false other alone = ap (λ (t : Bool). t || again rest) other ∙ alone

  last_alone : (items : List LogItem) → again items ≡ false → again (last_adds items) ≡ false
  last_alone [] alone = refl
  last_alone (Write first n block size flag mask ∷ items) alone = last_alone items alone
  last_alone (Size size ∷ items) alone = last_alone items alone
  last_alone (Add ino new ∷ items) alone =
      let both = neither (same_name new name) (again items) alone in
      add_alone ino new items (last_adds items) (list_any (is_of_name new) items) both.0 (last_alone items both.1)
  last_alone (Forget old ∷ items) alone = last_alone items (neither (same_name old name) (again items) alone).1

  -- an Add after which items may be of its name
  by_add : (ino : ℕ) (new : List ℕ) (found : Option ℕ) (items : List LogItem) (t r : Bool) → same_name new name ≡ t → again items ≡ r
      → (t || r) ≡ true → (r ≡ true → (o : Option ℕ) → named_after name o items ≡ named_after name None (last_adds items))
      → (b : Bool) → list_any (is_of_name new) items ≡ b
      → named_after name (if t then Some ino else found) items
      ≡ named_after name None (if b then last_adds items else (Add ino new ∷ last_adds items))
  by_add ino new found items t true is more some rest true same = rest refl (if t then Some ino else found)
  by_add ino new found items true true is more some rest false same =
      let clash : true ≡ false = sym more ∙ ap (λ (n : List ℕ). list_any (is_of_name n) items) (sym (same_name-true new name is)) ∙ same in cc
  by_add ino new found items false true is more some rest false same =
      rest refl found ∙ ap (λ (b : Bool). named_after name (if b then Some ino else None) (last_adds items)) (sym is)
  by_add ino new found items true false is more some rest true same =
      let clash : true ≡ false = sym same ∙ ap (λ (n : List ℕ). list_any (is_of_name n) items) (same_name-true new name is) ∙ more in cc
  by_add ino new found items true false is more some rest false same =
      unchanged (Some ino) items more ∙ sym (ap (λ (b : Bool). named_after name (if b then Some ino else None) (last_adds items)) is ∙ unchanged
      (Some ino) (last_adds items) (last_alone items more))
  by_add ino new found items false false is more some rest b same = cc

  by_forget : (old : List ℕ) (found : Option ℕ) (items : List LogItem) (t r : Bool) → same_name old name ≡ t → again items ≡ r → (t || r) ≡ true
      → (r ≡ true → (o : Option ℕ) → named_after name o items ≡ named_after name None (last_adds items))
      → named_after name (if t then None else found) items ≡ named_after name None (last_adds items)
  by_forget old found items t true is more some rest = rest refl (if t then None else found)
  by_forget old found items true false is more some rest = unchanged None items more ∙ sym (unchanged None (last_adds items) (last_alone items more))
  by_forget old found items false false is more some rest = cc

  leads : (items : List LogItem) → again items ≡ true → (found : Option ℕ) → named_after name found items ≡ named_after name None (last_adds items)
  leads [] some found = cc
  leads (Write first n block size flag mask ∷ items) some found = leads items some found
  leads (Size size ∷ items) some found = leads items some found
  leads (Add ino new ∷ items) some found = by_add ino new found items (same_name new name) (again items) refl refl some
      (λ more o. leads items more o) (list_any (is_of_name new) items) refl
  leads (Forget old ∷ items) some found = by_forget old found items (same_name old name) (again items) refl refl some (λ more o. leads items more o)

  by_again : (items : List LogItem) (b : Bool) → again items ≡ b → named_after name None (last_adds items) ≡ named_after name None items
  by_again items true some = sym (leads items some None)
  by_again items false alone = unchanged None (last_adds items) (last_alone items alone) ∙ sym (unchanged None items alone)

  pub last_adds-named : (items : List LogItem) → named_after name None (last_adds items) ≡ named_after name None items
  last_adds-named items = by_again items (again items) refl

-- the Adds that stay are items of the log
add_among : (item : LogItem) (ino : ℕ) (new : List ℕ) (items rest : List LogItem) → (Among item rest → Among item items) → (b : Bool)
    → Among item (if b then rest else (Add ino new ∷ rest)) → Among item (Add ino new ∷ items)
add_among item ino new items rest later true in' = inr (later in')
add_among item ino new items rest later false (inl e) = inl e
add_among item ino new items rest later false (inr in') = inr (later in')

pub last_among : (item : LogItem) (items : List LogItem) → Among item (last_adds items) → Among item items
last_among item [] in' = absurd in'
last_among item (Write first n block size flag mask ∷ items) in' = inr (last_among item items in')
last_among item (Size size ∷ items) in' = inr (last_among item items in')
last_among item (Add ino new ∷ items) in' = add_among item ino new items (last_adds items) (λ later. last_among item items later)
    (list_any (is_of_name new) items) in'
last_among item (Forget old ∷ items) in' = inr (last_among item items in')

-- and take no more slots
add_fewer : (ino : ℕ) (new : List ℕ) (items rest : List LogItem) → length (spelled rest) ≤ length (spelled items) → (b : Bool)
    → length (spelled (if b then rest else (Add ino new ∷ rest))) ≤ length (spelled (Add ino new ∷ items))
add_fewer ino new items rest fewer true = omega (arith, length-spelled-cons (Add ino new) items)
add_fewer ino new items rest fewer false = omega (arith, length-spelled-cons (Add ino new) items, length-spelled-cons (Add ino new) rest)

pub last_fewer : (items : List LogItem) → length (spelled (last_adds items)) ≤ length (spelled items)
last_fewer [] = omega arith
last_fewer (Write first n block size flag mask ∷ items) =
    omega (arith, length-spelled-cons (Write first n block size flag mask) items, last_fewer items)
last_fewer (Size size ∷ items) = omega (arith, length-spelled-cons (Size size) items, last_fewer items)
last_fewer (Add ino new ∷ items) = add_fewer ino new items (last_adds items) (last_fewer items) (list_any (is_of_name new) items)
last_fewer (Forget old ∷ items) = omega (arith, length-spelled-cons (Forget old) items, last_fewer items)

-- items of names map nothing and tell no size
abbrev pub IsOfNames : LogItem → Type 0
IsOfNames (Write first n block size flag mask) = ⊥
IsOfNames (Size size) = ⊥
IsOfNames (Add ino name) = Unit {0}
IsOfNames (Forget name) = Unit {0}

pub names-mapped : (idx : ℕ) (m : Option Mapping) (pages : List ℕ) (k : ℕ) (items : List LogItem) → ((item : LogItem) → Among item items
    → IsOfNames item) → mapped_after idx m (placed_from pages k items) ≡ m
names-mapped idx m pages k [] each = refl
names-mapped idx m pages k (Write first n block size flag mask ∷ items) each = absurd (each (Write first n block size flag mask) (inl refl))
names-mapped idx m pages k (Size size ∷ items) each = absurd (each (Size size) (inl refl))
names-mapped idx m pages k (Add ino name ∷ items) each = names-mapped idx m pages (k + length (spelling (Add ino name))) items
    (λ item in'. each item (inr in'))
names-mapped idx m pages k (Forget name ∷ items) each = names-mapped idx m pages (k + length (spelling (Forget name))) items
    (λ item in'. each item (inr in'))

pub names-size : (n : ℕ) (items : List LogItem) → ((item : LogItem) → Among item items → IsOfNames item) → size_after n items ≡ n
names-size n [] each = refl
names-size n (Write first count block size flag mask ∷ items) each = absurd (each (Write first count block size flag mask) (inl refl))
names-size n (Size size ∷ items) each = absurd (each (Size size) (inl refl))
names-size n (Add ino name ∷ items) each = names-size n items (λ item in'. each item (inr in'))
names-size n (Forget name ∷ items) each = names-size n items (λ item in'. each item (inr in'))
