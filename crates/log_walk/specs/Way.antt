-- The pages of a log, from its head on.
use Rattle.std.specs.Prelude.{
  ◌≡◌,
  ◌≢◌,
  ℕ,
  ◌+◌,
  ◌-◌,
  ◌<◌,
  ◌≤◌,
  Bool,
  true,
  false,
  List,
  [],
  ◌∷◌,
  length,
  slice_index,
  Contains,
}
use Rattle.pm_layout.specs.declared.Geometry.{Geometry}
use Rattle.pm_layout.specs.Geometry.{InData}
use Rattle.dn_model.specs.Log.{footer_word}

-- pages that follow one another from the head on, none before the end of them the last one
pub record IsPart (g : Geometry) (c : List ℕ) (head last : ℕ) (pages : List ℕ) : Type 0 where
  pub in_data : (k : ℕ) → k < length pages → InData g (slice_index pages k)
  pub apart : (j k : ℕ) → j < length pages → k < length pages → slice_index pages j ≡ slice_index
      pages k → j ≡ k
  pub starts : 0 < length pages → head ≡ slice_index pages 0
  pub chained : (k : ℕ) → k + 1 < length pages → slice_index c (footer_word pages k) ≡ slice_index
      pages (k + 1)
  pub not_last : (k : ℕ) → k + 1 < length pages → slice_index pages k ≢ last

-- the page that comes after these
abbrev pub next_page : List ℕ → ℕ → List ℕ → ℕ
next_page c head [] = head
next_page c head (p ∷ ps) = slice_index c (footer_word (p ∷ ps) (length ps))

-- the last of them is the last one
pub record IsWhole (last : ℕ) (pages : List ℕ) : Type 0 where
  pub some : 0 < length pages
  pub ends : slice_index pages (length pages - 1) ≡ last

-- none of them is, and the next one can't be a page of the log
pub record IsStopped (g : Geometry) (c : List ℕ) (head last : ℕ) (pages : List ℕ) : Type 0 where
  pub not_met : (k : ℕ) → k < length pages → slice_index pages k ≢ last
  pub stops : InData g (next_page c head pages) → Contains pages (next_page c head pages)

abbrev pub EndsSo : Geometry → List ℕ → ℕ → ℕ → List ℕ → Bool → Type 0
EndsSo g c head last pages true = IsWhole last pages
EndsSo g c head last pages false = IsStopped g c head last pages

-- all the pages that there are
pub record IsWay (g : Geometry) (c : List ℕ) (head last : ℕ) (pages : List ℕ) (whole : Bool) : Type
    0 where
  pub part : IsPart g c head last pages
  pub few : length pages ≤ g.pages
  pub ends : EndsSo g c head last pages whole
