-- The row that the words of a slot hold.
use Rattle.std.proofs.Common.{◌≡◌, ◌⊎◌, inl, inr, ℕ, zero, suc, ◌+◌, ◌*◌, ◌/◌, ◌%◌, ◌^◌, ◌<◌, ◌≤◌, List, ◌++◌, refl, sym, ◌∙◌, subst, arith}
use Rattle.std.specs.Prelude.{slice_index, All}
use Rattle.std.specs.Int.{byte_at, bytes_high_first}
use Rattle.std.proofs.lemmas.Bool.{cases_eq}
use Rattle.std.proofs.lemmas.List.Elements.{All-nil, All-cons, All-append}
use Rattle.byteorder.specs.Endian.{big_bytes}
use Rattle.pm_layout.specs.declared.Geometry.{Geometry}
use Rattle.pm_layout.specs.Geometry.{InData, first_data, directs, slots, slot_word}
use Rattle.fingerprint.specs.Print.{IsPrint}
use Rattle.fingerprint.specs.Count.{count_word}
use Rattle.fingerprint.proofs.SlotLaws.{made-first, made-second, made-third, print_word-one, count_word-one, be_number-lt}
use Rattle.dn_model.specs.Table.{Row, row_word, prefix_of}
use Rattle.dn_model.specs.Valid.{IsRow}
use Rattle.dn_model.specs.Faults.{RowStands}
use Rattle.law_table_read.specs.Tables.{HoldsRow, RowsAreReadOrNot}
use Rattle.law_table_read.proofs.Decisions.{Decided, decide_lt, decide_le, decide_both, decide_either, decide_as}

abbrev IsByte : ℕ → Type 0
IsByte b = b < 256

byte_small : (k n : ℕ) → byte_at k n < 256
byte_small zero n = omega arith
byte_small (suc k) n = omega arith

bytes_small : (k n : ℕ) → All IsByte (bytes_high_first k n)
bytes_small zero n = All-nil IsByte
bytes_small (suc k) n = All-cons IsByte (byte_at k n) (bytes_high_first k n) (byte_small k n) (bytes_small k n)

-- a page of the data area or not
pub decide_data : (g : Geometry) (page : ℕ) → Decided (InData g page)
decide_data g page =
    decide_as ((first_data g ≤ page) × (page < g.pages)) (InData g page) (λ both. record { low = both.0; high = both.1 }) (λ is. (is.low, is.high))
    (decide_both (first_data g ≤ page) (page < g.pages) (decide_le (first_data g) page) (decide_lt page g.pages))

module _ (g : Geometry) (c : List ℕ) (slot prefix k : ℕ) where
  abbrev word : ℕ → ℕ
  word j = slice_index c (slot_word g slot j)

  -- the words fit the fields of a row
  record Fits : Type 0 where
    first : word 1 < 256 ^ 8
    second : word 2 < 256 ^ 8
    third : word 3 < 256 ^ 4
    counts : word 4 < 2 ^ 64

  decide_fits : Decided Fits
  decide_fits =
      decide_as ((word 1 < 256 ^ 8) × ((word 2 < 256 ^ 8) × ((word 3 < 256 ^ 4) × (word 4 < 2 ^ 64)))) Fits
      (λ all. record { first = all.0; second = all.1.0; third = all.1.1.0; counts = all.1.1.1 }) (λ f. (f.first, (f.second, (f.third, f.counts))))
      (decide_both (word 1 < 256 ^ 8) ((word 2 < 256 ^ 8) × ((word 3 < 256 ^ 4) × (word 4 < 2 ^ 64))) (decide_lt (word 1) (256 ^ 8))
      (decide_both (word 2 < 256 ^ 8) ((word 3 < 256 ^ 4) × (word 4 < 2 ^ 64)) (decide_lt (word 2) (256 ^ 8))
      (decide_both (word 3 < 256 ^ 4) (word 4 < 2 ^ 64) (decide_lt (word 3) (256 ^ 4)) (decide_lt (word 4) (2 ^ 64)))))

  print_in : (row : Row) → IsRow g prefix k row → IsPrint row.print
  print_in row is = record { twenty = is.twenty; bytes = is.bytes }

  fits_from : HoldsRow g c slot prefix k → Fits
  fits_from h =
      let print = print_in h.row h.is_row in
      record {
        first = subst (λ (w : ℕ). w < 256 ^ 8) (sym (h.stands.1 1 (omega arith))) (be_number-lt h.row.print print 0 8);
        second = subst (λ (w : ℕ). w < 256 ^ 8) (sym (h.stands.1 2 (omega arith))) (be_number-lt h.row.print print 8 8);
        third = subst (λ (w : ℕ). w < 256 ^ 4) (sym (h.stands.1 3 (omega arith))) (be_number-lt h.row.print print 16 4);
        counts = let e : word 4 ≡ count_word h.row.rfc h.row.uc = h.stands.1 4 (omega arith) in omega (arith, e, h.is_row.rfc, h.is_row.uc);
      }

  abbrev print_there : List ℕ
  print_there = big_bytes 8 (word 1) ++ big_bytes 8 (word 2) ++ big_bytes 4 (word 3)

  -- the only row that these words may hold
  abbrev row_there : Row
  row_there = record { slot = slot; print = print_there; page = word 0; rfc = word 4 / 2 ^ 32; uc = word 4 % 2 ^ 32 }

  print_is : IsPrint print_there
  print_is = record {
    twenty = refl;
    bytes = All-append IsByte (big_bytes 8 (word 1) ++ big_bytes 8 (word 2)) (big_bytes 4 (word 3))
        (All-append IsByte (big_bytes 8 (word 1)) (big_bytes 8 (word 2)) (bytes_small 8 (word 1)) (bytes_small 8 (word 2))) (bytes_small 4 (word 3));
  }

  counts_there : (w : ℕ) → w ≡ w / 2 ^ 32 * 2 ^ 32 + w % 2 ^ 32
  counts_there w = omega arith

  module _ (fits : Fits) where
    word_there : (j : ℕ) → j < 5 → word j ≡ row_word row_there j
    word_there zero lt = refl
    word_there (suc zero) lt = sym (made-first (word 1) (word 2) (word 3) fits.first fits.second fits.third)
    word_there (suc (suc zero)) lt = sym (made-second (word 1) (word 2) (word 3) fits.first fits.second fits.third)
    word_there (suc (suc (suc zero))) lt = sym (made-third (word 1) (word 2) (word 3) fits.first fits.second fits.third)
    word_there (suc (suc (suc (suc zero)))) lt = counts_there (word 4)
    word_there (suc (suc (suc (suc (suc j))))) lt = absurd (omega (arith, lt))

    stands_there : RowStands g c slot row_there
    stands_there = (refl, word_there)

    there_one : (h : HoldsRow g c slot prefix k) → h.row ≡ row_there
    there_one h =
        let same : (j : ℕ) → j < 5 → row_word h.row j ≡ row_word row_there j = λ j lt. sym (h.stands.1 j lt) ∙ word_there j lt in
        let print = print_word-one h.row.print print_there (print_in h.row h.is_row) print_is (same 1 (omega arith)) (same 2 (omega arith))
        (same 3 (omega arith)) in
        let small : word 4 % 2 ^ 32 < 2 ^ 32 = omega arith in
        let counts = count_word-one h.row.rfc h.row.uc (word 4 / 2 ^ 32) (word 4 % 2 ^ 32) h.is_row.uc small (same 4 (omega arith)) in
        let page : h.row.page ≡ word 0 = same 0 (omega arith) in
        let place : h.row.slot ≡ slot = h.stands.0 in
        (λ i. record { slot = place i; print = print i; page = page i; rfc = counts.0 i; uc = counts.1 i })

    -- what is left to ask of that row
    record MayStandThere : Type 0 where
      place : (slot ≡ prefix × (k ≡ 0)) ⊎ ((directs g ≤ slot) × (slot < slots g))
      data_page : InData g (word 0)
      prefix_is : prefix_of g print_there ≡ prefix

    decide_may : Decided MayStandThere
    decide_may =
        decide_as (((slot ≡ prefix × (k ≡ 0)) ⊎ ((directs g ≤ slot) × (slot < slots g))) × (InData g (word 0) × (prefix_of g print_there ≡ prefix)))
        MayStandThere
        (λ all. record { place = all.0; data_page = all.1.0; prefix_is = all.1.1 }) (λ m. (m.place, (m.data_page, m.prefix_is)))
        (decide_both ((slot ≡ prefix × (k ≡ 0)) ⊎ ((directs g ≤ slot) × (slot < slots g))) (InData g (word 0) × (prefix_of g print_there ≡ prefix))
        (decide_either (slot ≡ prefix × (k ≡ 0)) ((directs g ≤ slot) × (slot < slots g))
        (decide_both (slot ≡ prefix) (k ≡ 0) (cases_eq slot prefix) (cases_eq k 0))
        (decide_both (directs g ≤ slot) (slot < slots g) (decide_le (directs g) slot) (decide_lt slot (slots g))))
        (decide_both (InData g (word 0)) (prefix_of g print_there ≡ prefix) (decide_data g (word 0)) (cases_eq (prefix_of g print_there) prefix)))

    holds_there : MayStandThere → HoldsRow g c slot prefix k
    holds_there may = record {
      row = row_there;
      stands = stands_there;
      is_row = record {
        place = may.place;
        data_page = may.data_page;
        twenty = print_is.twenty;
        bytes = print_is.bytes;
        prefix = may.prefix_is;
        rfc = omega (arith, fits.counts);
        uc = omega arith;
      };
    }

    may_from : HoldsRow g c slot prefix k → MayStandThere
    may_from h =
        let is : IsRow g prefix k row_there = subst (IsRow g prefix k) (there_one h) h.is_row in
        record { place = is.place; data_page = is.data_page; prefix_is = is.prefix }

    decide_row : Decided (HoldsRow g c slot prefix k)
    decide_row = decide_as MayStandThere (HoldsRow g c slot prefix k) holds_there may_from decide_may

pub rows_decided : RowsAreReadOrNot
rows_decided g c slot prefix k = elim (decide_fits g c slot prefix k) [
  | inl fits ↦ decide_row g c slot prefix k fits
  | inr none ↦ inr (λ h. none (fits_from g c slot prefix k h))
]
