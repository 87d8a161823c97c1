-- What a list of entries leads a key to, in parts.
use Rattle.std.proofs.Common.{◌≡◌, ◌≢◌, ℕ, zero, suc, ◌+◌, ◌<◌, true, false, cond, List, [], ◌∷◌, ◌++◌, length, get_or, take, drop, Some, None, IsSome, refl, sym, ap, subst, ◌∙◌, arith, get_or-take, get_or-drop, length-take, length-drop}
use Rattle.std.specs.Prelude.{All}
use Rattle.std.specs.List.{AllWithin}
use Rattle.std.specs.Ordering.{eq_by_cmp, is_eq, ordering_reverse}
use Rattle.std.specs.declared.cmp.Ordering.{Ordering}
use Rattle.std.specs.declared.cmp.Ordering.TheVariants.{Less, Equal, Greater}
use Rattle.std.specs.Cmp.{IsTotalOrder}
use Rattle.std.specs.FinMap.{find, IsAntisymmetric}
use Rattle.std.proofs.lemmas.Option.{none-some}
use Rattle.std.proofs.lemmas.List.Elements.{All-head, All-tail}

pub all_front : {X : Type 0} (P : X → Type 0) (xs : List X) (n : ℕ) → AllWithin P xs 0 n → All P (take n xs)
all_front P xs n within k d lt =
    let below : k < n = omega (arith, length-take n xs) in subst P (sym (get_or-take n xs k d below)) (within k d (omega arith) below)

pub all_back : {X : Type 0} (P : X → Type 0) (xs : List X) (n : ℕ) → AllWithin P xs n (length xs) → All P (drop n xs)
all_back P xs n within k d lt = subst P (sym (get_or-drop n xs k d)) (within (n + k) d (omega arith) (omega (arith, length-drop n xs)))

module _ {K X : Type 0} (R : K → K → Ordering) where
  -- no entry has the key
  abbrev pub IsFree : K → K × X → Type 0
  IsFree q e = eq_by_cmp R q e.0 ≡ false

  pub find-free : (q : K) (es : List (K × X)) → All (IsFree q) es → find R q es ≡ None
  find-free q [] free = refl
  find-free q (e ∷ es) free = ap (λ b. cond b (Some e.1) (find R q es)) (All-head (IsFree q) e es free) ∙ find-free q es (All-tail (IsFree q) e es free)

  pub find-append_front : (q : K) (xs ys : List (K × X)) → find R q xs ≡ None → find R q (xs ++ ys) ≡ find R q ys
  find-append_front q [] ys none = refl
  find-append_front q (x ∷ xs) ys none =
      elim (eq_by_cmp R q x.0) as (λ b. cond b (Some x.1) (find R q xs) ≡ None → cond b (Some x.1) (find R q (xs ++ ys)) ≡ find R q ys) [
        | true ↦ λ some. absurd (none-some x.1 (sym some))
        | false ↦ λ rest. find-append_front q xs ys rest
      ] none

  pub find-append_back : (q : K) (xs ys : List (K × X)) → find R q ys ≡ None → find R q (xs ++ ys) ≡ find R q xs
  find-append_back q [] ys none = none
  find-append_back q (x ∷ xs) ys none = ap (cond (eq_by_cmp R q x.0) (Some x.1)) (find-append_back q xs ys none)

  pub find-middle_other : (q : K) (xs : List (K × X)) (e : K × X) (ys : List (K × X)) → IsFree q e → find R q (xs ++ e ∷ ys) ≡ find R q (xs ++ ys)
  find-middle_other q [] e ys free = ap (λ b. cond b (Some e.1) (find R q ys)) free
  find-middle_other q (x ∷ xs) e ys free = ap (cond (eq_by_cmp R q x.0) (Some x.1)) (find-middle_other q xs e ys free)

  pub find-middle : (q : K) (xs : List (K × X)) (e : K × X) (ys : List (K × X)) → find R q xs ≡ None → R q e.0 ≡ Equal → find R q (xs ++ e ∷ ys) ≡ Some e.1
  find-middle q xs e ys none tied = find-append_front q xs (e ∷ ys) none ∙ ap (λ r. cond (is_eq r) (Some e.1) (find R q ys)) tied

  -- an entry that has the key
  pub find_some : (q : K) (es : List (K × X)) (k : ℕ) (d : K × X) → k < length es → R q (get_or es k d).0 ≡ Equal → IsSome (find R q es)
  find_some q [] k d lt tied = absurd (omega arith)
  find_some q (e ∷ es) zero d lt tied = rw (ap is_eq tied) refl
  find_some q (e ∷ es) (suc k) d lt tied =
      elim (eq_by_cmp R q e.0) as (λ b. IsSome (cond b (Some e.1) (find R q es))) [ true ↦ refl | false ↦ find_some q es k d (omega arith) tied ]

module _ {K : Type 0} (R : K → K → Ordering) where
  pub other_below : (x y : K) → R x y ≡ Less → eq_by_cmp R x y ≡ false
  other_below x y less = ap is_eq less

  pub turned : IsTotalOrder R → (x y : K) → R x y ≡ Less → R y x ≡ Greater
  turned o x y less = o.antisymm y x ∙ ap ordering_reverse less

  pub other_above : IsTotalOrder R → (x y : K) → R x y ≡ Less → eq_by_cmp R y x ≡ false
  other_above o x y less = ap is_eq (turned o x y less)

  pub other : IsAntisymmetric R → (x y : K) → x ≢ y → eq_by_cmp R x y ≡ false
  other same x y differ =
      elim (R x y) as (λ r. R x y ≡ r → is_eq r ≡ false) [ Less ↦ λ _. refl | Equal ↦ λ e. absurd (differ (same x y e)) | Greater ↦ λ _. refl ] refl
