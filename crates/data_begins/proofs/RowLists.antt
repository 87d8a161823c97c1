-- The rows of a file's places are found one place after another.
use Rattle.std.proofs.Common.{
  ◌≡◌,
  inl,
  inr,
  ℕ,
  zero,
  suc,
  ◌+◌,
  Bool,
  List,
  [],
  ◌∷◌,
  ◌++◌,
  length,
  refl,
  sym,
  ◌∙◌,
  ap,
  subst,
  arith,
  append_assoc,
  length-append,
  Option,
  Some,
  None,
}
use Rattle.std.specs.Prelude.{IsNone, IsSome, Contains, slice_get, if◌then◌else◌}
use Rattle.std.specs.Option.{option_map}
use Rattle.std.proofs.lemmas.List.{append-nil}
use Rattle.std.proofs.lemmas.Bool.{cases_eq}
use Rattle.file_index.specs.declared.page_map.Mapping.{Mapping}
use Rattle.file_content.specs.Content.{kept}
use Rattle.law_table.proofs.Rows.{row_found, none_found, at_listed, same_test, other_test}
use Rattle.fact_table.specs.Table.{IsOfPage, HasNoneOf}
use Rattle.dn_model.specs.Maps.{Mapping as DiskMapping}
use Rattle.dn_model.specs.Table.{Row, row_of}
use Rattle.dn_model.specs.Disk.{Disk, maps, rows}
use Rattle.dn_model.specs.Valid.{AreApart}
use Rattle.dn_volume.specs.Planned.{slot_of, slot_of_row, row_slots}
use Rattle.dn_volume.proofs.RowSlots.{found_in}
use Rattle.data_begins.specs.Places.{slot_list}

page_in : (rs : List Row) (page : ℕ) (row : Row) → row_of rs page ≡ Some row → row.page ≡ page
page_in [] page row is = cc
page_in (r ∷ rs) page row is = elim (cases_eq r.page page) [
  | inl here ↦ sym (ap (λ (x : Row). x.page)
      (some_same r row (sym (ap (λ (t : Bool). if t then Some r else row_of rs page) (same_test r.page page here)) ∙ is))) ∙ here
  | inr there ↦ page_in rs page row (sym (ap (λ (t : Bool). if t then Some r else row_of rs page) (other_test r.page page there)) ∙ is)
]
  where
    some_same : (x y : Row) → Some x ≡ Some y → x ≡ y
    some_same x y e = cc

-- the row of a page is the one that has it
row_at_page : (rs : List Row) (page : ℕ) (row : Row) → AreApart rs → Contains rs row → row.page ≡ page → row_of rs page ≡ Some row
row_at_page rs page row apart has on = by (row_of rs page) refl (subst (λ (p : ℕ). IsSome (row_of rs p)) on (row_found rs row has))
  where
    one : (o : Option Row) (x y : Row) → o ≡ Some x → o ≡ Some y → x ≡ y
    one o x y a b = cc

    same : (r : Row) → row_of rs page ≡ Some r → r ≡ row
    same r is =
        let there = found_in rs page r is in
        let at = at_listed rs r there in
        let to = at_listed rs row has in
        let place = apart.page there.0 has.0 r row at to (page_in rs page r is ∙ sym on) in
        one (slice_get rs has.0) r row (subst (λ (k : ℕ). slice_get rs k ≡ Some r) place at) to

    by : (o : Option Row) → row_of rs page ≡ o → IsSome o → o ≡ Some row
    by None is some = cc
    by (Some r) is some = ap (λ (x : Row). Some x) (same r is)

-- one place more
pub rows_none : (d : Disk) (ino first : ℕ) → [] ≡ row_slots d ino first 0
unfolding row_slots
rows_none d ino first = refl

rows_suc : (d : Disk) (ino n first : ℕ) → row_slots d ino first (suc n) ≡ row_slots d ino first n ++ slot_of d (maps d ino (first + n))
unfolding row_slots
rows_suc d ino zero first = append-nil (slot_of d (maps d ino first)) ∙ ap (λ (k : ℕ). slot_of d (maps d ino k)) (omega arith)
rows_suc d ino (suc n) first =
    ap (λ (xs : List ℕ). slot_of d (maps d ino first) ++ xs) (rows_suc d ino n (first + 1))
    ∙ sym (append_assoc (slot_of d (maps d ino first)) (row_slots d ino (first + 1) n) (slot_of d (maps d ino (first + 1 + n))))
    ∙ ap (λ (k : ℕ). (slot_of d (maps d ino first) ++ row_slots d ino (first + 1) n) ++ slot_of d (maps d ino k)) (omega arith)

pub rows_next : (d : Disk) (ino first n : ℕ) → row_slots d ino first (n + 1) ≡ row_slots d ino first n ++ slot_of d (maps d ino (first + n))
rows_next d ino first n = ap (λ (k : ℕ). row_slots d ino first k) (omega arith) ∙ rows_suc d ino n first

-- a place that is mapped so
mapped_so : (d : Disk) (o : Option DiskMapping) (m : Mapping) → Some m ≡ option_map kept o → (by : DiskMapping) × (o ≡ Some by) × (by.block ≡ m.block)
mapped_so d None m is = cc
mapped_so d (Some by) m is = (by, refl, ap (λ (x : Mapping). x.block) (one is))
  where
    one : Some m ≡ Some (kept by) → kept by ≡ m
    one e = cc

pub slot_without : (d : Disk) (ino place : ℕ) (m : Mapping) → Some m ≡ option_map kept (maps d ino place) → HasNoneOf d m.block
    → [] ≡ slot_of d (maps d ino place)
slot_without d ino place m is none =
    let by = mapped_so d (maps d ino place) m is in
    sym (ap (slot_of d) by.1 ∙ no_row (row_of (rows d) by.0.block) (none_found (rows d) by.0.block (subst (HasNoneOf d) (sym by.2) none)))
  where
    no_row : (o : Option Row) → IsNone o → slot_of_row o ≡ []
    no_row None none = refl
    no_row (Some row) none = cc none

pub slot_with : (d : Disk) (ino place : ℕ) (m : Mapping) (row : Row) → AreApart (rows d) → Some m ≡ option_map kept (maps d ino place)
    → IsOfPage d m.block row → row.slot ∷ [] ≡ slot_of d (maps d ino place)
slot_with d ino place m row apart is of =
    let by = mapped_so d (maps d ino place) m is in
    sym (ap (slot_of d) by.1 ∙ ap slot_of_row (row_at_page (rows d) by.0.block row apart of.there (of.page_is ∙ sym by.2)))

pub list_long : (o : Option ℕ) (xs ys : List ℕ) → slot_list o ≡ ys → length (xs ++ ys) ≡ length xs + length (slot_list o)
list_long o xs ys same = length-append xs ys ∙ ap (λ (zs : List ℕ). length xs + length zs) (sym same)
