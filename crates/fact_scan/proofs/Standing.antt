-- Whether what a slot holds is a row that may come.
use Rattle.std.proofs.Common.{◌≡◌, ℕ, zero, suc, ◌^◌, ◌<◌, List, refl, sym, ◌∙◌, ap, subst, arith}
use Rattle.std.specs.Prelude.{slice_index}
use Rattle.pm_layout.specs.declared.Geometry.{Geometry}
use Rattle.pm_layout.specs.Geometry.{InData, slot_word}
use Rattle.fingerprint.specs.Slot.{IsSlot, IsReadFrom}
use Rattle.fingerprint.specs.declared.slot.FactSlot.{FactSlot}
use Rattle.fingerprint.proofs.SlotLaws.{be_number-lt}
use Rattle.dn_model.specs.Table.{Row, row_word, prefix_of}
use Rattle.fact_slot.specs.Words.{words_of}
use Rattle.fact_scan.specs.declared.found.Found.{Found}
use Rattle.fact_scan.specs.Seen.{as_row}
use Rattle.fact_scan.specs.Found.{IsNew, MayCome}
use Rattle.fact_scan.proofs.Held.{answer, held_page, held_print}

module _ (g : Geometry) (words : List ℕ) (prefix slot : ℕ) (f : Found) (held : FactSlot) (third : ℕ)
    (read : IsReadFrom (words_of g words slot) held) (fits : IsSlot held) (third_is : third ≡ slice_index words (slot_word g slot 3)) where
  -- where a row may come, what the slot holds is that row
  module _ (row : Row) (may : MayCome g words prefix slot f row) where
    page_same : row.page ≡ held.page
    page_same = sym (held_page g words slot row held may.print may.uc may.stands.1 read fits)

    print_same : row.print ≡ held.print
    print_same = sym (held_print g words slot row held may.print may.uc may.stands.1 read fits)

    pub held_row : InData g held.page × (third < 2 ^ 32) × (prefix_of g held.print ≡ prefix)
    held_row = (subst (InData g) page_same may.data_page, short, ap (prefix_of g) (sym print_same) ∙ may.prefix_is)
      where
        short : third < 2 ^ 32
        short = let lt = be_number-lt row.print may.print 16 4 in let word = may.stands.1 3 (omega arith) in omega (arith, third_is, word, lt)

    pub held_new : IsNew g f slot held.page held.print
    held_new = subst (λ (p : ℕ). IsNew g f slot p held.print) page_same (subst (IsNew g f slot row.page) print_same may.new)

  -- and what it holds may come, where it is a row
  pub held_comes : InData g held.page × (third < 2 ^ 32) × (prefix_of g held.print ≡ prefix) → IsNew g f slot held.page held.print
      → MayCome g words prefix slot f (as_row (answer slot held))
  held_comes is new = record {
    stands = (refl, stands);
    data_page = is.0;
    print = fits.print;
    prefix_is = is.2;
    rfc = fits.rfc;
    uc = fits.uc;
    new = new;
  }
    where
      stands : (j : ℕ) → j < 5 → slice_index words (slot_word g slot j) ≡ row_word (as_row (answer slot held)) j
      stands zero lt = sym read.page
      stands (suc zero) lt = sym read.first
      stands (suc (suc zero)) lt = sym read.second
      stands (suc (suc (suc zero))) lt = let third_word = read.third in let short = is.1 in omega (arith, third_word, short, third_is)
      stands (suc (suc (suc (suc zero)))) lt = sym read.count
      stands (suc (suc (suc (suc (suc k))))) lt = absurd (omega (arith, lt))
