-- How far bytes of a file are read.
use Rattle.std.specs.Prelude.{
  ◌≡◌,
  ℕ,
  ◌+◌,
  ◌-◌,
  ◌<◌,
  ◌≤◌,
  nat_lt,
  if◌then◌else◌,
  List,
  length,
  slice_index,
  Option,
}
use Rattle.std.specs.Ordering.{nat_cmp}
use Rattle.std.specs.FinMap.{FinMap}
use Rattle.file_index.specs.declared.page_map.Mapping.{Mapping}
use Rattle.file_content.specs.Content.{block_byte, file_byte}

-- byte k of a place of which so many bytes lie below the file's size
abbrev pub place_byte : List ℕ → Option Mapping → ℕ → ℕ → ℕ
place_byte image mapping inside k = if nat_lt k inside then block_byte image k mapping else 0

-- the bytes from `from` up to `next` are appended
pub record AppendsBytes (image : List ℕ) (map : FinMap nat_cmp Mapping) (size from next : ℕ)
    (old new : List ℕ) : Type 0 where
  pub rises : from ≤ next
  pub whole : length new ≡ length old + (next - from)
  pub kept : (i : ℕ) → i < length old → slice_index new i ≡ slice_index old i
  pub more : (i : ℕ) → i < next - from → slice_index new (length old + i) ≡ file_byte image map size
      (from + i)
