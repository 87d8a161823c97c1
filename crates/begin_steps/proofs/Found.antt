-- Where a name is among the entries of an index, and what it leads to.
use Rattle.std.proofs.Common.{◌≡◌, ⊎_elim, ℕ, ◌<◌, List, length, refl, sym, ◌∙◌, ap, subst, arith, Option, Some, None}
use Rattle.std.specs.Prelude.{get_or}
use Rattle.std.specs.Ordering.{nat_cmp}
use Rattle.std.specs.declared.cmp.Ordering.{Ordering}
use Rattle.std.specs.declared.cmp.Ordering.TheVariants.{Less, Equal}
use Rattle.std.specs.Cmp.{tied_itself}
use Rattle.std.specs.Cmp.Lexicographic.{slice_cmp, nat_list_cmp_total}
use Rattle.std.specs.FinMap.{FinMap, get}
use Rattle.std.proofs.lemmas.Bool.{cases_lt}
use Rattle.std.proofs.lemmas.List.{get_or_default}
use Rattle.file_index.specs.Entries.{HasKey, IsGap}
use Rattle.file_index.specs.Index.{ListsEntries}

module _ (map : FinMap (slice_cmp nat_cmp) ℕ) (es : List (List ℕ × ℕ)) (name : List ℕ) (lists : ListsEntries map es) (at : ℕ) where
  pub found_at : HasKey es name at → (d : List ℕ × ℕ) → Some (get_or es at d).1 ≡ get map name
  found_at has d = sym ((lists.all name (get_or es at d).1).0 (at, has.within, is))
    where
      pair : (e : List ℕ × ℕ) → e.0 ≡ name → e ≡ (name, e.1)
      pair (k, x) is = ap (λ (n : List ℕ). (n, x)) is

      is : get_or es at (name, (get_or es at d).1) ≡ (name, (get_or es at d).1)
      is = get_or_default es at (name, (get_or es at d).1) d has.within ∙ pair (get_or es at d) (has.key_is d)

  not_less : slice_cmp nat_cmp name name ≡ Less → ⊥
  not_less less = clash (slice_cmp nat_cmp name name) less (tied_itself nat_list_cmp_total name)
    where
      clash : (o : Ordering) → o ≡ Less → o ≡ Equal → ⊥
      clash o one other = cc

  pub not_there : IsGap (slice_cmp nat_cmp) es name at → None ≡ get map name
  not_there gap = by (get map name) refl
    where
      out : (x k : ℕ) → k < length es → get_or es k (name, x) ≡ (name, x) → ⊥
      out x k lt is = ⊎_elim
          (λ below. not_less (subst (λ (n : List ℕ). slice_cmp nat_cmp n name ≡ Less) (ap (λ (e : List ℕ × ℕ). e.0) is)
          (gap.lower k (name, x) (omega arith) below)))
          (λ above. not_less (subst (λ (n : List ℕ). slice_cmp nat_cmp name n ≡ Less) (ap (λ (e : List ℕ × ℕ). e.0) is)
          (gap.higher k (name, x) above lt)))
          (cases_lt k at)

      by : (o : Option ℕ) → get map name ≡ o → None ≡ o
      by None is = refl
      by (Some x) is = let has = (lists.all name x).1 is in absurd (out x has.0 has.1 has.2)
