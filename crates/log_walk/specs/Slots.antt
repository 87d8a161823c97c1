-- The slots of a log, as words of an image.
use Rattle.std.specs.Prelude.{ℕ, List, map, slice_index}
use Rattle.std.specs.List.{range_with_len}
use Rattle.dn_model.specs.Log.{log_word}

-- slot k of these pages
abbrev pub slot_at : List ℕ → List ℕ → ℕ → List ℕ
slot_at c pages k = map (λ j. slice_index c (log_word pages k j)) (range_with_len 0 8)

-- the first n of them
abbrev pub first_slots : List ℕ → List ℕ → ℕ → List (List ℕ)
first_slots c pages n = map (slot_at c pages) (range_with_len 0 n)
