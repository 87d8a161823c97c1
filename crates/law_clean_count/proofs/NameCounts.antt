-- The root's cleaned log has an Add of each name that leads anywhere.
use Rattle.std.proofs.Common.{◌≡◌, ℕ, suc, ◌+◌, Bool, true, false, cond, List, [], ◌∷◌, length, refl, sym, ◌∙◌, ap, arith}
use Rattle.std.specs.Prelude.{Option, Some, None, ◌||◌, if◌then◌else◌}
use Rattle.std.specs.List.{list_any}
use Rattle.std.specs.Ordering.{is_eq, nat_cmp}
use Rattle.std.specs.declared.cmp.Ordering.{Ordering}
use Rattle.std.specs.Cmp.{tied_itself}
use Rattle.std.specs.Cmp.Lexicographic.{slice_cmp, nat_list_cmp_total}
use Rattle.std.specs.FinMap.{find, from_entries, get-from_entries, same_map, nat_cmp-IsAntisymmetric, slice_cmp-IsAntisymmetric}
use Rattle.std.proofs.lemmas.List.Sums.{sum_by-cons}
use Rattle.log_entry.specs.Name.{same_name}
use Rattle.log_entry.specs.Spelling.{spelling, spelled, more_count}
use Rattle.log_entry.specs.declared.item.LogItem.{LogItem}
use Rattle.log_entry.specs.declared.item.LogItem.TheVariants.{Write, Size, Add, Forget}
use Rattle.log_entry.proofs.SameName.{same_name-true, same_name-same}
use Rattle.log_entry.proofs.Spelled.{length-spelled-cons}
use Rattle.log_entry.proofs.Words.{length-more_slots}
use Rattle.dn_model.specs.Files.{named_after}
use Rattle.file_index.specs.Slots.{slots_of_add, entry_slots, add_slots_of}
use Rattle.file_index.proofs.Lookups.{other}
use Rattle.file_index.proofs.SlotCounts.{NoneTwice, slots_of_entries}
use Rattle.law_clean.specs.Cleaned.{is_of_name, last_adds, cleaned_items}
use Rattle.law_clean_count.specs.CountLaws.{RootTakesAdds}

abbrev by_bytes : List ℕ → List ℕ → Ordering
by_bytes = slice_cmp nat_cmp

abbrev again : List ℕ → List LogItem → Bool
again name items = list_any (is_of_name name) items

-- the names of the Adds that stay, with their inodes
abbrev last_pairs : List LogItem → List (List ℕ × ℕ)
last_pairs [] = []
last_pairs (Write first count block size flag mask ∷ items) = last_pairs items
last_pairs (Size size ∷ items) = last_pairs items
last_pairs (Add ino name ∷ items) = if again name items then last_pairs items else ((name, ino) ∷ last_pairs items)
last_pairs (Forget name ∷ items) = last_pairs items

neither : (a b : Bool) → (a || b) ≡ false → (a ≡ false) × (b ≡ false)
neither true b e = cc
neither false b e = (refl, e)

-- a name of which no item is leads where it led
unchanged : (name : List ℕ) (found : Option ℕ) (items : List LogItem) → again name items ≡ false → named_after name found items ≡ found
unchanged name found [] alone = refl
unchanged name found (Write first n block size flag mask ∷ items) alone = unchanged name found items alone
unchanged name found (Size size ∷ items) alone = unchanged name found items alone
unchanged name found (Add ino new ∷ items) alone =
    let both = neither (same_name new name) (again name items) alone in
    ap (λ (b : Bool). named_after name (if b then Some ino else found) items) both.0 ∙ unchanged name found items both.1
unchanged name found (Forget old ∷ items) alone =
    let both = neither (same_name old name) (again name items) alone in
    ap (λ (b : Bool). named_after name (if b then None else found) items) both.0 ∙ unchanged name found items both.1

-- a name of which an item is leads where that says
told : (name : List ℕ) (a b : Option ℕ) (items : List LogItem) → again name items ≡ true → named_after name a items ≡ named_after name b items
told name a b [] more = cc
told name a b (Write first n block size flag mask ∷ items) more = told name a b items more
told name a b (Size size ∷ items) more = told name a b items more
told name a b (Add ino new ∷ items) more = by_case (λ later. told name a b items later) (same_name new name) more
  where
    by_case : (again name items ≡ true → named_after name a items ≡ named_after name b items) → (t : Bool) → (t || again name items) ≡ true
        → named_after name (if t then Some ino else a) items ≡ named_after name (if t then Some ino else b) items
    by_case rest true more = refl
    by_case rest false more = rest more
told name a b (Forget old ∷ items) more = by_case (λ later. told name a b items later) (same_name old name) more
  where
    by_case : (again name items ≡ true → named_after name a items ≡ named_after name b items) → (t : Bool) → (t || again name items) ≡ true
        → named_after name (if t then None else a) items ≡ named_after name (if t then None else b) items
    by_case rest true more = refl
    by_case rest false more = rest more

-- the pairs lead each name where the log does
not_same : (x y : List ℕ) → same_name x y ≡ false → is_eq (by_bytes y x) ≡ false
not_same x y differ =
    other by_bytes (slice_cmp-IsAntisymmetric nat_cmp-IsAntisymmetric) y x
    (λ e. let clash : true ≡ false = sym (same_name-same y) ∙ ap (λ (n : List ℕ). same_name n y) e ∙ differ in cc)

same_tied : (x y : List ℕ) → same_name x y ≡ true → is_eq (by_bytes y x) ≡ true
same_tied x y same =
    let e : x ≡ y = same_name-true x y same in
    ap (λ (n : List ℕ). is_eq (by_bytes y n)) e ∙ ap is_eq (tied_itself nat_list_cmp_total y)

module _ (name : List ℕ) where
  add_leads : (ino : ℕ) (new : List ℕ) (items : List LogItem) → find by_bytes name (last_pairs items) ≡ named_after name None items
      → (t b : Bool) → same_name new name ≡ t → again new items ≡ b
      → find by_bytes name (if b then last_pairs items else ((new, ino) ∷ last_pairs items)) ≡ named_after name (if t then Some ino else None) items
  add_leads ino new items rest false true differ more = rest
  add_leads ino new items rest false false differ alone =
      ap (λ (b : Bool). cond b (Some ino) (find by_bytes name (last_pairs items))) (not_same new name differ) ∙ rest
  add_leads ino new items rest true true same more =
      rest ∙ told name None (Some ino) items (ap (λ (n : List ℕ). again n items) (sym (same_name-true new name same)) ∙ more)
  add_leads ino new items rest true false same alone =
      ap (λ (b : Bool). cond b (Some ino) (find by_bytes name (last_pairs items))) (same_tied new name same)
      ∙ sym (unchanged name (Some ino) items (ap (λ (n : List ℕ). again n items) (sym (same_name-true new name same)) ∙ alone))

  leads : (items : List LogItem) → find by_bytes name (last_pairs items) ≡ named_after name None items
  leads [] = refl
  leads (Write first n block size flag mask ∷ items) = leads items
  leads (Size size ∷ items) = leads items
  leads (Add ino new ∷ items) = add_leads ino new items (leads items) (same_name new name) (again new items) refl refl
  leads (Forget old ∷ items) = leads items ∙ by_case (same_name old name)
    where
      by_case : (t : Bool) → named_after name None items ≡ named_after name (if t then None else None) items
      by_case true = refl
      by_case false = refl

-- none stands twice
add_once : (ino : ℕ) (new : List ℕ) (items : List LogItem) → NoneTwice (last_pairs items) → (b : Bool) → again new items ≡ b
    → NoneTwice (if b then last_pairs items else ((new, ino) ∷ last_pairs items))
add_once ino new items once true more = once
add_once ino new items once false alone = (leads new items ∙ unchanged new None items alone, once)

once : (items : List LogItem) → NoneTwice (last_pairs items)
once [] = tt
once (Write first n block size flag mask ∷ items) = once items
once (Size size ∷ items) = once items
once (Add ino new ∷ items) = add_once ino new items (once items) (again new items) refl
once (Forget old ∷ items) = once items

-- the slots of the Adds
add_long : (ino : ℕ) (name : List ℕ) → length (spelling (Add ino name)) ≡ slots_of_add name
unfolding spelling
add_long ino name = one_more (length-more_slots name 5 (more_count name))
  where
    one_more : {a b : ℕ} → a ≡ b → suc a ≡ 1 + b
    one_more e = omega (arith, e)

add_takes : (ino : ℕ) (new : List ℕ) (items : List LogItem) → length (spelled (last_adds items)) ≡ entry_slots (last_pairs items)
    → (b : Bool) → length (spelled (if b then last_adds items else (Add ino new ∷ last_adds items)))
    ≡ entry_slots (if b then last_pairs items else ((new, ino) ∷ last_pairs items))
add_takes ino new items rest true = rest
add_takes ino new items rest false =
    let long : length (spelling (Add ino new)) ≡ slots_of_add new = add_long ino new in
    length-spelled-cons (Add ino new) (last_adds items) ∙ (λ i. long i + rest i)
    ∙ sym (sum_by-cons (λ (e : List ℕ × ℕ). slots_of_add e.0) (new, ino) (last_pairs items))

takes : (items : List LogItem) → length (spelled (last_adds items)) ≡ entry_slots (last_pairs items)
takes [] = refl
takes (Write first n block size flag mask ∷ items) = takes items
takes (Size size ∷ items) = takes items
takes (Add ino new ∷ items) = add_takes ino new items (takes items) (again new items)
takes (Forget old ∷ items) = takes items

pub root_takes_adds : RootTakesAdds
unfolding cleaned_items
root_takes_adds log names kept_is =
    let same : names ≡ from_entries (last_pairs log.items) =
    same_map nat_list_cmp_total (slice_cmp-IsAntisymmetric nat_cmp-IsAntisymmetric) names (from_entries (last_pairs log.items))
    (λ name. kept_is name ∙ sym (get-from_entries nat_list_cmp_total (last_pairs log.items) name ∙ leads name log.items)) in
    takes log.items ∙ sym (slots_of_entries (last_pairs log.items) (once log.items)) ∙ sym (ap add_slots_of same)
