-- How entries in the order of their keys hold a finite map.
use Rattle.std.specs.Prelude.{◌≡◌, ℕ, ◌<◌, ◌≤◌, List, length, AllPairs}
use Rattle.std.specs.List.{AllWithin, HoldsAt}
use Rattle.std.specs.declared.cmp.Ordering.{Ordering}
use Rattle.std.specs.declared.cmp.Ordering.TheVariants.{Less}

-- each key is below those after it
abbrev pub IsRising : {K X : Type 0} → (K → K → Ordering) → List (K × X) → Type 0
IsRising R es = AllPairs (λ a b. R a.0 b.0 ≡ Less) es

-- the entry at a place has the key
pub record HasKey {K X : Type 0} (es : List (K × X)) (key : K) (at : ℕ) : Type 0 where
  pub within : at < length es
  pub key_is : HoldsAt (λ e. e.0 ≡ key) es at

-- the key would go to a place: lower keys stand before it, and higher keys from it on
pub record IsGap {K X : Type 0} (R : K → K → Ordering) (es : List (K × X)) (key : K) (at : ℕ) : Type 0 where
  pub within : at ≤ length es
  pub lower : AllWithin (λ e. R e.0 key ≡ Less) es 0 at
  pub higher : AllWithin (λ e. R key e.0 ≡ Less) es at (length es)
