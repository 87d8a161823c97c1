-- What is read of a row's slot.
use Rattle.std.proofs.Common.{◌≡◌, ℕ, ◌%◌, ◌^◌, ◌<◌, List, sym, ◌∙◌, ap, arith}
use Rattle.std.specs.Prelude.{slice_index}
use Rattle.pm_layout.specs.declared.Geometry.{Geometry}
use Rattle.pm_layout.specs.Geometry.{slot_word}
use Rattle.fingerprint.specs.Print.{IsPrint, print_word}
use Rattle.fingerprint.specs.Slot.{IsSlot, IsReadFrom}
use Rattle.fingerprint.specs.declared.slot.FactSlot.{FactSlot}
use Rattle.fingerprint.proofs.SlotLaws.{be_number-lt, print_word-one, count_word-one}
use Rattle.dn_model.specs.Table.{Row as TableRow, row_word}
use Rattle.fact_slot.specs.Words.{words_of}
use Rattle.fact_scan.specs.declared.row.Row.{Row}
use Rattle.fact_scan.specs.Seen.{as_row}

-- the words of this slot are those of the row
abbrev pub HoldsRow : Geometry → List ℕ → ℕ → TableRow → Type 0
HoldsRow g words slot row = (j : ℕ) → j < 5 → slice_index words (slot_word g slot j) ≡ row_word row j

abbrev pub answer : ℕ → FactSlot → Row
answer slot held = record { slot = slot; print = held.print; page = held.page; count = held.count }

module _ (g : Geometry) (words : List ℕ) (slot : ℕ) (row : TableRow) (held : FactSlot)
    (is_print : IsPrint row.print) (uc : row.uc < 2 ^ 32)
    (holds : HoldsRow g words slot row) (read : IsReadFrom (words_of g words slot) held) (fits : IsSlot held) where
  pub held_page : held.page ≡ row.page
  held_page = read.page ∙ holds 0 (omega arith)

  pub held_print : held.print ≡ row.print
  held_print =
      print_word-one held.print row.print fits.print is_print (read.first ∙ holds 1 (omega arith)) (read.second ∙ holds 2 (omega arith))
      (read.third ∙ ap (λ (w : ℕ). w % 2 ^ 32) (holds 3 (omega arith)) ∙ low)
    where
      low : print_word row.print 2 % 2 ^ 32 ≡ print_word row.print 2
      low = let lt = be_number-lt row.print is_print 16 4 in omega arith

  -- the answer is the row
  pub answer_is : row.slot ≡ slot → as_row (answer slot held) ≡ row
  answer_is at = λ i. record { slot = sym at i; print = held_print i; page = held_page i; rfc = counts.0 i; uc = counts.1 i }
    where
      counts : (held.count.rfc ≡ row.rfc) × (held.count.uc ≡ row.uc)
      counts = count_word-one held.count.rfc held.count.uc row.rfc row.uc fits.uc uc (read.count ∙ holds 4 (omega arith))
