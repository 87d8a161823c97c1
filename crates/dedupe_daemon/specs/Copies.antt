-- Pages that lie in an image.
use Rattle.std.specs.Prelude.{ℕ, ◌+◌, ◌*◌, ◌<◌, ◌≤◌, List, length, All}

-- the page lies in the image, and its number is small
pub record IsInside (words : List ℕ) (page : ℕ) : Type 0 where
  pub small : page < 65536
  pub inside : 512 * page + 512 ≤ length words

abbrev pub AreInside : List ℕ → List ℕ → Type 0
AreInside words pages = All (IsInside words) pages
