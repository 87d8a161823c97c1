-- The places of a file are counted one after another.
use Rattle.std.proofs.Common.{◌≡◌, ℕ, zero, suc, ◌+◌, ◌≤◌, Bool, true, false, refl, ◌∙◌, ap, arith}
use Rattle.std.specs.Prelude.{if◌then◌else◌, is_some}
use Rattle.std.specs.Ordering.{nat_cmp}
use Rattle.std.specs.FinMap.{FinMap, get}
use Rattle.file_index.specs.declared.page_map.Mapping.{Mapping}
use Rattle.dn_model.specs.Counts.{total}
use Rattle.name_ops.specs.Landing.{places_in}

abbrev pub places_to : FinMap nat_cmp Mapping → ℕ → ℕ
places_to map n = total n (λ idx. if is_some (get map idx) then 1 else 0)

pub none_counted : (map : FinMap nat_cmp Mapping) → 0 ≡ places_to map 0
unfolding total
none_counted map = refl

pub one_counted : (map : FinMap nat_cmp Mapping) (n : ℕ) (here : Bool) → is_some (get map n) ≡ here → places_to map (n + 1) ≡ places_to map n + (if
    here then 1 else 0)
unfolding total
one_counted map n here is = ap (places_to map) (one_more n) ∙ ap (λ (x : Bool). places_to map n + (if x then 1 else 0)) is
  where
    one_more : (n : ℕ) → n + 1 ≡ suc n
    one_more n = omega arith

pub one_at_most : (x : Bool) → (if x then 1 else 0) ≤ 1
one_at_most true = omega arith
one_at_most false = omega arith

pub few_counted : (map : FinMap nat_cmp Mapping) (n : ℕ) → places_to map n ≤ n
unfolding total
few_counted map zero = omega arith
few_counted map (suc n) = omega (arith, few_counted map n, one_at_most (is_some (get map n)))

pub all_counted : (map : FinMap nat_cmp Mapping) (n : ℕ) → n ≡ 4096 → places_to map n ≡ places_in map
unfolding places_in
all_counted map n is = ap (places_to map) is

pub few_places : (map : FinMap nat_cmp Mapping) → places_in map ≤ 4096
few_places map = let few = few_counted map 4096 in let same = all_counted map 4096 refl in omega (arith, few, same)
