-- What a source has left, and what a sink has taken.
use Rattle.std.specs.Prelude.{◌≡◌, ℕ, ◌+◌, ◌≤◌, min, List, ◌++◌, Option, Some, None}

-- these bytes before a rest, where the rest is told
abbrev pub with_front : List ℕ → Option (List ℕ) → Option (List ℕ)
with_front front None = None
with_front front (Some rest) = Some (front ++ rest)

-- these bytes behind what was taken, where that is told
abbrev pub with_back : Option (List ℕ) → List ℕ → Option (List ℕ)
with_back None back = None
with_back (Some taken) back = Some (taken ++ back)

-- calls that are numbered from 1: those that fail, the number of the next one, and the faults so
-- far
pub record Calls : Type 0 where
  pub fail_at : List ℕ
  pub next : ℕ
  pub faults : ℕ

-- a source in memory: the bytes that are left
pub record SourceState : Type 0 where
  pub left : List ℕ
  pub calls : Calls

-- a sink in memory: the bytes that it has taken, and the room it was made with
pub record SinkState : Type 0 where
  pub taken : List ℕ
  pub room : ℕ
  pub calls : Calls

-- one call was made
pub record IsNext (old new : Calls) : Type 0 where
  pub fail_at : new.fail_at ≡ old.fail_at
  pub next : new.next ≡ min (old.next + 1) 18446744073709551615
  pub faults : old.faults ≤ new.faults
