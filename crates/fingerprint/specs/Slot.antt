-- A slot of the table of fingerprints, and the words that spell it.
use Rattle.std.specs.Prelude.{◌≡◌, ℕ, ◌%◌, ◌^◌, ◌<◌, List, [], ◌∷◌, slice_index}
use Rattle.fingerprint.specs.Print.{IsPrint, print_word}
use Rattle.fingerprint.specs.Count.{count_word}
use Rattle.fingerprint.specs.declared.slot.FactSlot.{FactSlot}

-- the fields have the values of their types
pub record IsSlot (slot : FactSlot) : Type 0 where
  pub print : IsPrint slot.print
  pub rfc : slot.count.rfc < 2 ^ 32
  pub uc : slot.count.uc < 2 ^ 32

-- the eight words of a slot
abbrev pub slot_words : FactSlot → List ℕ
slot_words slot =
    slot.page ∷ print_word slot.print 0 ∷ print_word slot.print 1 ∷ print_word slot.print 2
    ∷ count_word slot.count.rfc slot.count.uc ∷ slot.next ∷ 0 ∷ 0 ∷ []

-- what is read of eight words: of word 3 the low half alone, of words 6 and 7 nothing
pub record IsReadFrom (words : List ℕ) (slot : FactSlot) : Type 0 where
  pub page : slot.page ≡ slice_index words 0
  pub first : print_word slot.print 0 ≡ slice_index words 1
  pub second : print_word slot.print 1 ≡ slice_index words 2
  pub third : print_word slot.print 2 ≡ slice_index words 3 % 2 ^ 32
  pub count : count_word slot.count.rfc slot.count.uc ≡ slice_index words 4
  pub next : slot.next ≡ slice_index words 5

-- a slot whose words these are is this one
abbrev pub IsTheSlotOf : List ℕ → FactSlot → Type 0
IsTheSlotOf words slot = (other : FactSlot) → IsSlot other → words ≡ slot_words other → slot ≡ other
