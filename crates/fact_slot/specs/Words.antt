-- The words of a slot in an image.
use Rattle.std.specs.Prelude.{ℕ, List, [], ◌∷◌, slice_index}
use Rattle.pm_layout.specs.declared.Geometry.{Geometry}
use Rattle.pm_layout.specs.Geometry.{slot_word}

-- the eight words of a slot
abbrev pub words_of : Geometry → List ℕ → ℕ → List ℕ
words_of g c slot =
    slice_index c (slot_word g slot 0) ∷ slice_index c (slot_word g slot 1) ∷ slice_index c
    (slot_word g slot 2)
    ∷ slice_index c (slot_word g slot 3) ∷ slice_index c (slot_word g slot 4) ∷ slice_index c
    (slot_word g slot 5)
    ∷ slice_index c (slot_word g slot 6) ∷ slice_index c (slot_word g slot 7) ∷ []
