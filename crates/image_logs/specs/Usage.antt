-- How often pages are used: by logs, and by places that are mapped.
use Rattle.std.specs.Prelude.{
  ◌≡◌,
  ℕ,
  ◌+◌,
  ◌<◌,
  if◌then◌else◌,
  ◌==◌,
  List,
  length,
  slice_index,
  Option,
  Some,
  None,
}
use Rattle.std.specs.Option.{option_map}
use Rattle.std.specs.Ordering.{nat_cmp}
use Rattle.std.specs.FinMap.{FinMap, get}
use Rattle.file_index.specs.declared.page_map.Mapping.{Mapping}
use Rattle.dn_model.specs.Counts.{total}

-- 1 where this is the page
abbrev pub page_hit : ℕ → Option ℕ → ℕ
page_hit page None = 0
page_hit page (Some q) = if q == page then 1 else 0

-- page k of these
abbrev pub listed : List ℕ → ℕ → Option ℕ
listed pages k = Some (slice_index pages k)

-- the page to which a place is mapped
abbrev pub mapped_by : FinMap nat_cmp Mapping → ℕ → Option ℕ
mapped_by map idx = option_map (λ (m : Mapping). m.block) (get map idx)

-- each page's count has grown by how often it is among the first n
pub record CountsPages (f : ℕ → Option ℕ) (n : ℕ) (old new : List ℕ) : Type 0 where
  pub long : length new ≡ length old
  pub each : (p : ℕ) → p < length old → slice_index new p ≡ slice_index old p + total n
      (λ k. page_hit p (f k))
