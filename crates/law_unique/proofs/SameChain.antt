-- Words hold one chain of a prefix.
use Rattle.std.proofs.Common.{◌≡◌, ◌≢◌, inl, inr, ⊎_elim, ℕ, zero, suc, ◌<◌, ◌≤◌, Bool, List, [], ◌∷◌, refl, sym, ◌∙◌, ap, subst, arith}
use Rattle.std.specs.Prelude.{slice_index, slice_get, Some, if◌then◌else◌}
use Rattle.std.proofs.lemmas.Bool.{cases_eq, eq-eqb, ne_eqb}
use Rattle.pm_device.specs.Reading.{Reads}
use Rattle.pm_layout.specs.declared.Geometry.{Geometry}
use Rattle.pm_layout.specs.Geometry.{first_data, directs, slots, slot_word}
use Rattle.fingerprint.specs.Print.{IsPrint}
use Rattle.fingerprint.proofs.SlotLaws.{print_word-one, count_word-one}
use Rattle.dn_model.specs.Table.{
  Row,
  RowsSay,
  at_field,
  at_next,
  at_later,
  ChainSays,
  at_direct_page,
  at_direct_next,
  at_row,
  row_word,
  first_slot,
  chained,
  direct_page_word,
}
use Rattle.dn_model.specs.Valid.{IsRow}
use Rattle.law_unique.specs.Images.{HasOneChain, AreRows}

pub first_data_some : (g : Geometry) → 1 ≤ first_data g
unfolding first_data
first_data_some g = omega arith

is_print : (g : Geometry) (d k : ℕ) (row : Row) → IsRow g d k row → IsPrint row.print
is_print g d k row is = record { twenty = is.twenty; bytes = is.bytes }

-- a row is known by its slot and its first five words
pub row_one : (g : Geometry) (d e j k : ℕ) (x y : Row) → IsRow g d j x → IsRow g e k y → x.slot ≡ y.slot
    → ((i : ℕ) → i < 5 → row_word x i ≡ row_word y i) → x ≡ y
row_one g d e j k x y is_x is_y slot word =
    let print = print_word-one x.print y.print (is_print g d j x is_x) (is_print g e k y is_y) (word 1 (omega arith)) (word 2 (omega arith))
    (word 3 (omega arith)) in
    let counts = count_word-one x.rfc x.uc y.rfc y.uc is_x.uc is_y.uc (word 4 (omega arith)) in
    let page : x.page ≡ y.page = word 0 (omega arith) in
    (λ i. record { slot = slot i; print = print i; page = page i; rfc = counts.0 i; uc = counts.1 i })

-- what the words of the direct slot d tell of rows
pub page_direct : (d : ℕ) (row : Row) (rows : List Row) → row.slot ≡ d → direct_page_word d (row ∷ rows) ≡ row.page
page_direct d row rows e = ap (λ (b : Bool). if b then row.page else 0) (eq-eqb row.slot d e)

pub page_indirect : (d : ℕ) (row : Row) (rows : List Row) → row.slot ≢ d → direct_page_word d (row ∷ rows) ≡ 0
page_indirect d row rows ne = ap (λ (b : Bool). if b then row.page else 0) (ne_eqb row.slot d ne)

pub chained_direct : (d : ℕ) (row : Row) (rows : List Row) → row.slot ≡ d → chained d (row ∷ rows) ≡ rows
chained_direct d row rows e = ap (λ (b : Bool). if b then rows else row ∷ rows) (eq-eqb row.slot d e)

pub chained_indirect : (d : ℕ) (row : Row) (rows : List Row) → row.slot ≢ d → chained d (row ∷ rows) ≡ row ∷ rows
chained_indirect d row rows ne = ap (λ (b : Bool). if b then rows else row ∷ rows) (ne_eqb row.slot d ne)

-- rows that stand in indirect slots alone
abbrev pub AreIndirect : Geometry → ℕ → List Row → Type 0
AreIndirect g d rows = (k : ℕ) (row : Row) → slice_get rows k ≡ Some row → IsRow g d 1 row

pub is_indirect : (g : Geometry) (d k : ℕ) (row : Row) → IsRow g d k row → (directs g ≤ row.slot) × (row.slot < slots g) → IsRow g d 1 row
is_indirect g d k row is far = record {
  place = inr far;
  data_page = is.data_page;
  twenty = is.twenty;
  bytes = is.bytes;
  prefix = is.prefix;
  rfc = is.rfc;
  uc = is.uc;
}

pub slot_far : (g : Geometry) (d k : ℕ) (row : Row) → IsRow g d k row → k ≢ 0 → (directs g ≤ row.slot) × (row.slot < slots g)
slot_far g d k row is ne = ⊎_elim (λ (own : row.slot ≡ d × (k ≡ 0)). absurd (ne own.1)) (λ (far : (directs g ≤ row.slot) × (row.slot < slots g)). far)
    is.place

slot_large : (g : Geometry) (d : ℕ) (row : Row) → IsRow g d 1 row → directs g ≤ row.slot
slot_large g d row is = (slot_far g d 1 row is (λ e. omega (arith, e))).0

module _ (g : Geometry) (d : ℕ) (c : List ℕ) (direct : d < directs g) where
  rows_tail : (x : Row) (xs : List Row) → Reads (RowsSay g (x ∷ xs)) c → Reads (RowsSay g xs) c
  rows_tail x xs reads = λ a v says. reads a v (at_later says)

  same_words : (x y : Row) (xs ys : List Row) → Reads (RowsSay g (x ∷ xs)) c → Reads (RowsSay g (y ∷ ys)) c → x.slot ≡ y.slot → (i : ℕ) → i < 5
      → row_word x i ≡ row_word y i
  same_words x y xs ys rx ry e i lt =
      sym (rx (slot_word g x.slot i) (row_word x i) (at_field i lt refl refl)) ∙ ap (λ (s : ℕ). slice_index c (slot_word g s i)) e ∙ ry
      (slot_word g y.slot i) (row_word y i) (at_field i lt refl refl)

  same_next : (x y : Row) (xs ys : List Row) → Reads (RowsSay g (x ∷ xs)) c → Reads (RowsSay g (y ∷ ys)) c → x.slot ≡ y.slot
      → first_slot xs ≡ first_slot ys
  same_next x y xs ys rx ry e =
      sym (rx (slot_word g x.slot 5) (first_slot xs) (at_next refl refl)) ∙ ap (λ (s : ℕ). slice_index c (slot_word g s 5)) e ∙ ry
      (slot_word g y.slot 5) (first_slot ys) (at_next refl refl)

  -- from one slot on the rows are the same
  later_one : (xs ys : List Row) → Reads (RowsSay g xs) c → Reads (RowsSay g ys) c → AreIndirect g d xs → AreIndirect g d ys
      → first_slot xs ≡ first_slot ys → xs ≡ ys
  later_one [] [] rx ry ix iy e = refl
  later_one [] (y ∷ ys) rx ry ix iy e = absurd (omega (arith, e, direct, slot_large g d y (iy 0 y refl)))
  later_one (x ∷ xs) [] rx ry ix iy e = absurd (omega (arith, e, direct, slot_large g d x (ix 0 x refl)))
  later_one (x ∷ xs) (y ∷ ys) rx ry ix iy e =
      let row : x ≡ y = row_one g d d 1 1 x y (ix 0 x refl) (iy 0 y refl) e (same_words x y xs ys rx ry e) in
      let rest : xs ≡ ys = later_one xs ys (rows_tail x xs rx) (rows_tail y ys ry) (λ k row at. ix (suc k) row at) (λ k row at. iy (suc k) row at)
      (same_next x y xs ys rx ry e) in
      (λ i. row i ∷ rest i)

  -- the first row stands in the direct slot, or all stand in others
  pub data Shape (rows : List Row) : Type 0 where
    at_own : (x : Row) (xs : List Row) → rows ≡ x ∷ xs → x.slot ≡ d → direct_page_word d rows ≡ x.page → chained d rows ≡ xs → IsRow g d 0 x
        → AreIndirect g d xs → Shape rows
    at_others : direct_page_word d rows ≡ 0 → chained d rows ≡ rows → AreIndirect g d rows → Shape rows

  all_later : (x : Row) (xs : List Row) → AreRows g d (x ∷ xs) → AreIndirect g d xs
  all_later x xs are = λ k row at. let is = are (suc k) row at in is_indirect g d (suc k) row is (slot_far g d (suc k) row is (λ e. omega (arith, e)))

  others : (x : Row) (xs : List Row) → AreRows g d (x ∷ xs) → x.slot ≢ d → AreIndirect g d (x ∷ xs)
  others x xs are ne zero row here =
      let e : x ≡ row = cc in
      let is = are 0 x refl in
      subst (IsRow g d 1) e (is_indirect g d 0 x is (⊎_elim (λ (own : x.slot ≡ d × (0 ≡ 0)). absurd (ne own.0))
      (λ (far : (directs g ≤ x.slot) × (x.slot < slots g)). far) is.place))
  others x xs are ne (suc k) row here = all_later x xs are k row here

  pub shape : (rows : List Row) → AreRows g d rows → Shape rows
  shape [] are = at_others refl refl (λ k row here. cc)
  shape (x ∷ xs) are = elim (cases_eq x.slot d) [
    | inl e ↦ at_own x xs refl e (page_direct d x xs e) (chained_direct d x xs e) (are 0 x refl) (all_later x xs are)
    | inr ne ↦ at_others (page_indirect d x xs ne) (chained_indirect d x xs ne) (others x xs are ne)
  ]

  own_reads : (rows : List Row) → Reads (ChainSays g d rows) c → (x : Row) (xs : List Row) → rows ≡ x ∷ xs → Reads (RowsSay g (x ∷ xs)) c
  own_reads rows reads x xs e = λ a v says. reads a v (at_row (subst (λ (rs : List Row). RowsSay g rs a v) (sym e) says))

  module _ (xs ys : List Row) (rx : Reads (ChainSays g d xs) c) (ry : Reads (ChainSays g d ys) c) where
    page_same : direct_page_word d xs ≡ direct_page_word d ys
    page_same = sym (rx (slot_word g d 0) (direct_page_word d xs) (at_direct_page refl refl)) ∙ ry (slot_word g d 0) (direct_page_word d ys)
        (at_direct_page refl refl)

    next_same : first_slot (chained d xs) ≡ first_slot (chained d ys)
    next_same = sym (rx (slot_word g d 5) (first_slot (chained d xs)) (at_direct_next refl refl)) ∙ ry (slot_word g d 5) (first_slot (chained d ys))
        (at_direct_next refl refl)

    by_shapes : Shape xs → Shape ys → xs ≡ ys
    by_shapes (at_own x xs' ex sx px cx is_x ix) (at_own y ys' ey sy py cy is_y iy) =
        let rx' = own_reads xs rx x xs' ex in
        let ry' = own_reads ys ry y ys' ey in
        let slot : x.slot ≡ y.slot = sx ∙ sym sy in
        let row : x ≡ y = row_one g d d 0 0 x y is_x is_y slot (same_words x y xs' ys' rx' ry' slot) in
        let rest : xs' ≡ ys' = later_one xs' ys' (rows_tail x xs' rx') (rows_tail y ys' ry') ix iy (same_next x y xs' ys' rx' ry' slot) in
        ex ∙ (λ i. row i ∷ rest i) ∙ sym ey
    by_shapes (at_own x xs' ex sx px cx is_x ix) (at_others py cy iy) = absurd
        (omega (arith, px, py, page_same, is_x.data_page.low, first_data_some g))
    by_shapes (at_others px cx ix) (at_own y ys' ey sy py cy is_y iy) = absurd
        (omega (arith, px, py, page_same, is_y.data_page.low, first_data_some g))
    by_shapes (at_others px cx ix) (at_others py cy iy) =
        later_one xs ys (λ a v says. rx a v (at_row says)) (λ a v says. ry a v (at_row says)) ix iy
        (ap first_slot (sym cx) ∙ next_same ∙ ap first_slot cy)

pub chain_one : HasOneChain
chain_one g d c xs ys direct are_x are_y rx ry = by_shapes g d c direct xs ys rx ry (shape g d c direct xs are_x) (shape g d c direct ys are_y)
