-- Which fences fail.
use Rattle.std.specs.Prelude.{ℕ, ◌+◌, Bool, nat_eq, List, [], ◌∷◌, Option, Some, None}
use Rattle.std.specs.List.{list_any}
use Rattle.pm_device.specs.Past.{Call, Stored, Flushed, Fenced, Past}

-- the number of fences among these calls
abbrev pub fence_count : List Call → ℕ
fence_count [] = 0
fence_count (Stored at values ∷ cs) = fence_count cs
fence_count (Flushed who first lines ∷ cs) = fence_count cs
fence_count (Fenced who ok ∷ cs) = fence_count cs + 1

-- the number of the next fence, counted from 1; 1 for a device that doesn't tell its past
abbrev pub next_fence : Option Past → ℕ
next_fence None = 1
next_fence (Some p) = fence_count p.calls + 1

-- the fence of this number is one of those that fail
abbrev pub is_failing : List ℕ → ℕ → Bool
is_failing fail_at number = list_any (λ n. nat_eq n number) fail_at
