-- Two counts in one word.
use Rattle.std.specs.Prelude.{ℕ, ◌+◌, ◌*◌, ◌^◌}

-- rfc is the count of references, uc of updates that are under way
abbrev pub count_word : ℕ → ℕ → ℕ
count_word rfc uc = rfc * 2 ^ 32 + uc
