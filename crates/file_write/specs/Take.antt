-- Pages that a write takes from the free ones.
use Rattle.std.specs.Prelude.{◌≡◌, ℕ, List, ◌++◌}
use Rattle.page_alloc.specs.Free.{FreePages}

-- these pages were the least free ones, and the others are free still
pub record TakesFirst (old new : FreePages) (pages : List ℕ) : Type 0 where
  pub same : new.pages ≡ old.pages
  pub split : old.free ≡ pages ++ new.free
