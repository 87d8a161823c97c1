-- What filling a direct slot stores.
use Rattle.std.specs.Prelude.{ℕ, List, [], ◌∷◌}
use Rattle.fingerprint.specs.Print.{print_word}
use Rattle.fingerprint.specs.Count.{count_word}
use Rattle.fingerprint.specs.declared.slot.FactSlot.{FactSlot}

-- words 1 to 7 of a slot
abbrev pub words_but_page : FactSlot → List ℕ
words_but_page slot =
    print_word slot.print 0 ∷ print_word slot.print 1 ∷ print_word slot.print 2 ∷ count_word
    slot.count.rfc slot.count.uc ∷ slot.next ∷ 0 ∷ 0 ∷ []
