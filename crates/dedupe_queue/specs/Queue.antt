-- What a queue of work is, and what each call does to it.
use Rattle.std.specs.Prelude.{◌≡◌, ℕ, ◌+◌, List, [], ◌∷◌, ◌++◌}
use Rattle.dedupe_queue.specs.declared.Work.{Work}

-- the work that waits, the oldest first, and how much more can be pushed without memory
pub record Waiting : Type 0 where
  pub items : List Work
  pub room : ℕ

-- the work is the newest, and took one place of the room
pub record Pushes (w : Work) (old new : Waiting) : Type 0 where
  pub items : new.items ≡ old.items ++ w ∷ []
  pub room : new.room + 1 ≡ old.room

-- the oldest work is gone, and left its place
pub record Pops (w : Work) (old new : Waiting) : Type 0 where
  pub items : old.items ≡ w ∷ new.items
  pub room : new.room ≡ old.room + 1
