-- Which clients have left. Places are counted from client 1.
use Rattle.std.specs.Prelude.{ℕ, zero, suc, ◌+◌, Bool, true, false, List, [], ◌∷◌, slice_get}
use Rattle.std.specs.Prelude.{Option, Some, None}
use Rattle.std.specs.List.{list_all}

abbrev pub or_false : Option Bool → Bool
or_false None = false
or_false (Some b) = b

abbrev pub has_left : List Bool → ℕ → Bool
has_left gone zero = false
has_left gone (suc k) = or_false (slice_get gone k)

abbrev pub one_if : Bool → ℕ
one_if true = 1
one_if false = 0

unfoldable pub count_left : List Bool → ℕ
count_left [] = 0
count_left (g ∷ gone) = one_if g + count_left gone

abbrev pub all_left : List Bool → Bool
all_left gone = list_all (λ g. g) gone
