-- Names that come and go: which inode each leads to, and that each inode keeps to its names.
use Rattle.std.proofs.Common.{◌≡◌, ◌≢◌, ◌⊎◌, inl, inr, ⊎_elim, ℕ, Bool, true, false, List, [], ◌∷◌, ◌++◌, refl, sym, ◌∙◌, ap}
use Rattle.std.specs.Prelude.{if◌then◌else◌, Option, Some, None}
use Rattle.log_entry.specs.Name.{same_name}
use Rattle.log_entry.specs.declared.item.LogItem.{LogItem}
use Rattle.log_entry.specs.declared.item.LogItem.TheVariants.{Write, Size, Add, Forget}
use Rattle.log_entry.proofs.SameName.{same_name-true, same_name-same}
use Rattle.dn_model.specs.Disk.{Disk, Use, Free, Live, Dying}
use Rattle.dn_model.specs.Files.{named, named_after}
use Rattle.dn_model.specs.Valid.{IsLinked}
use Rattle.law_names.specs.Operations.{with_name}

pub named_after-append : (name : List ℕ) (found : Option ℕ) (xs ys : List LogItem) → named_after name found (xs ++ ys) ≡ named_after name
    (named_after name found xs) ys
named_after-append name found [] ys = refl
named_after-append name found (Add ino new ∷ xs) ys = named_after-append name (if same_name new name then Some ino else found) xs ys
named_after-append name found (Forget old ∷ xs) ys = named_after-append name (if same_name old name then None else found) xs ys
named_after-append name found (Write first n block size flag mask ∷ xs) ys = named_after-append name found xs ys
named_after-append name found (Size size ∷ xs) ys = named_after-append name found xs ys

pub names_eq : (x y : List ℕ) → ((same_name x y ≡ true) × (y ≡ x)) ⊎ ((same_name x y ≡ false) × (y ≢ x))
names_eq x y = by_test (same_name x y) refl
  where
    other : same_name x y ≡ false → y ≡ x → ⊥
    other t e = let here : same_name x y ≡ true = ap (same_name x) e ∙ same_name-same x in cc

    by_test : (b : Bool) → same_name x y ≡ b → ((same_name x y ≡ true) × (y ≡ x)) ⊎ ((same_name x y ≡ false) × (y ≢ x))
    by_test true t = inl (t, sym (same_name-true x y t))
    by_test false t = inr (t, other t)

pub with_name-here : (f : List ℕ → Option ℕ) (name : List ℕ) (found : Option ℕ) → with_name f name found name ≡ found
with_name-here f name found = ap (λ (b : Bool). if b then found else f name) (same_name-same name)

pub with_name-other : (f : List ℕ → Option ℕ) (name : List ℕ) (found : Option ℕ) (other : List ℕ) → other ≢ name → with_name f name found other ≡ f
    other
with_name-other f name found other ne = ⊎_elim (λ here. absurd (ne here.1)) (λ there. ap (λ (b : Bool). if b then found else f other) there.0)
    (names_eq name other)

one_found : (i j : ℕ) → Some i ≡ Some j → i ≡ j
one_found i j e = cc

none_found : (i : ℕ) → None ≡ Some i → ⊥
none_found i e = cc

-- exactly one name leads to the inode
pub record LeadsOnce (f : List ℕ → Option ℕ) (i : ℕ) : Type 0 where
  pub name : List ℕ
  pub leads : f name ≡ Some i
  pub alone : (other : List ℕ) → f other ≡ Some i → other ≡ name

abbrev pub IsUnnamed : (List ℕ → Option ℕ) → ℕ → Type 0
IsUnnamed f i = (name : List ℕ) → f name ≢ Some i

abbrev pub LinkedBy : (List ℕ → Option ℕ) → ℕ → Use → Type 0
LinkedBy f i Live = LeadsOnce f i
LinkedBy f i Free = IsUnnamed f i
LinkedBy f i (Dying c) = IsUnnamed f i

pub linked_by : (d : Disk) (i : ℕ) (u : Use) → IsLinked d i u → LinkedBy (named d) i u
linked_by d i Live one = record { name = one.name; leads = one.leads; alone = one.alone }
linked_by d i Free none = none
linked_by d i (Dying c) none = none

pub linked_so : (d : Disk) (f : List ℕ → Option ℕ) → ((name : List ℕ) → named d name ≡ f name) → (i : ℕ) (u : Use) → LinkedBy f i u → IsLinked d i u
linked_so d f same i Live one = record {
  name = one.name;
  leads = same one.name ∙ one.leads;
  alone = λ other e. one.alone other (sym (same other) ∙ e);
}
linked_so d f same i Free none = λ name e. none name (sym (same name) ∙ e)
linked_so d f same i (Dying c) none = λ name e. none name (sym (same name) ∙ e)

module _ (f : List ℕ → Option ℕ) (name : List ℕ) (j : ℕ) where
  -- a name comes that led nowhere
  abbrev put : List ℕ → Option ℕ
  put = with_name f name (Some j)

  put_before : (other : List ℕ) (i : ℕ) → i ≢ j → put other ≡ Some i → f other ≡ Some i
  put_before other i ne e = ⊎_elim
      (λ (here : (same_name name other ≡ true) × (other ≡ name)). absurd
      (ne (sym (one_found j i (sym (with_name-here f name (Some j)) ∙ ap put (sym here.1) ∙ e)))))
      (λ (there : (same_name name other ≡ false) × (other ≢ name)). sym (with_name-other f name (Some j) other there.1) ∙ e)
      (names_eq name other)

  pub unnamed_put : (i : ℕ) → i ≢ j → IsUnnamed f i → IsUnnamed put i
  unnamed_put i ne none other e = none other (put_before other i ne e)

  pub once_put : (i : ℕ) → i ≢ j → f name ≡ None → LeadsOnce f i → LeadsOnce put i
  once_put i ne free one = record {
    name = one.name;
    leads = with_name-other f name (Some j) one.name (λ e. none_found i (sym free ∙ ap f (sym e) ∙ one.leads)) ∙ one.leads;
    alone = λ other e. one.alone other (put_before other i ne e);
  }

  pub linked_put : (i : ℕ) → i ≢ j → f name ≡ None → (u : Use) → LinkedBy f i u → LinkedBy put i u
  linked_put i ne free Live one = once_put i ne free one
  linked_put i ne free Free none = unnamed_put i ne none
  linked_put i ne free (Dying c) none = unnamed_put i ne none

  pub new_put : IsUnnamed f j → LeadsOnce put j
  new_put none = record {
    name = name;
    leads = with_name-here f name (Some j);
    alone = λ other e. ⊎_elim (λ (here : (same_name name other ≡ true) × (other ≡ name)). here.1)
        (λ (there : (same_name name other ≡ false) × (other ≢ name)). absurd (none other (sym (with_name-other f name (Some j) other there.1) ∙ e)))
        (names_eq name other);
  }

  -- a name goes that led to this inode
  abbrev forget : List ℕ → Option ℕ
  forget = with_name f name None

  forget_before : (other : List ℕ) (i : ℕ) → forget other ≡ Some i → (other ≢ name) × (f other ≡ Some i)
  forget_before other i e = ⊎_elim
      (λ (here : (same_name name other ≡ true) × (other ≡ name)). absurd
      (none_found i (sym (with_name-here f name None) ∙ ap forget (sym here.1) ∙ e)))
      (λ (there : (same_name name other ≡ false) × (other ≢ name)). (there.1, sym (with_name-other f name None other there.1) ∙ e))
      (names_eq name other)

  pub unnamed_forget : (i : ℕ) → IsUnnamed f i → IsUnnamed forget i
  unnamed_forget i none other e = none other (forget_before other i e).1

  pub once_forget : (i : ℕ) → i ≢ j → f name ≡ Some j → LeadsOnce f i → LeadsOnce forget i
  once_forget i ne here one = record {
    name = one.name;
    leads = with_name-other f name None one.name (λ e. ne (sym (one_found j i (sym here ∙ ap f (sym e) ∙ one.leads)))) ∙ one.leads;
    alone = λ other e. one.alone other (forget_before other i e).1;
  }

  pub linked_forget : (i : ℕ) → i ≢ j → f name ≡ Some j → (u : Use) → LinkedBy f i u → LinkedBy forget i u
  linked_forget i ne here Live one = once_forget i ne here one
  linked_forget i ne here Free none = unnamed_forget i none
  linked_forget i ne here (Dying c) none = unnamed_forget i none

  pub gone_forget : f name ≡ Some j → LeadsOnce f j → IsUnnamed forget j
  gone_forget here one other e = let was = forget_before other j e in was.0 (one.alone other was.1 ∙ sym (one.alone name here))

-- a name that goes before it comes only comes
pub put_over : (f : List ℕ → Option ℕ) (name : List ℕ) (found : Option ℕ) (other : List ℕ) → with_name f name found other ≡ with_name
    (with_name f name None) name found other
put_over f name found other = by_test (same_name name other) refl
  where
    by_test : (b : Bool) → same_name name other ≡ b → (if b then found else f other) ≡ (if b then found else with_name f name None other)
    by_test true t = refl
    by_test false t = ap (λ (b : Bool). if b then None else f other) (sym t)
