-- Rows that are read from the direct slot on, one after another.
use Rattle.std.proofs.Common.{
  ◌≡◌,
  ◌≢◌,
  ⊎_elim,
  ℕ,
  zero,
  suc,
  ◌+◌,
  ◌<◌,
  ◌≤◌,
  List,
  [],
  ◌∷◌,
  ◌++◌,
  length,
  get_or,
  refl,
  sym,
  ◌∙◌,
  ap,
  subst,
  arith,
  append_assoc,
}
use Rattle.std.specs.Prelude.{slice_index, slice_get, Some}
use Rattle.std.proofs.lemmas.Option.{slice_get_within, slice_get-get_or}
use Rattle.pm_device.specs.Reading.{Reads}
use Rattle.pm_layout.specs.declared.Geometry.{Geometry}
use Rattle.pm_layout.specs.Geometry.{directs, slots, slot_word}
use Rattle.dn_model.specs.Table.{
  Row,
  RowsSay,
  at_field,
  at_next,
  at_later,
  ChainSays,
  at_direct_page,
  at_direct_next,
  at_row,
  row_word,
  first_slot,
  chained,
  direct_page_word,
  rows_from,
}
use Rattle.dn_model.specs.Valid.{IsRow, AreApart}
use Rattle.dn_model.specs.Faults.{RowStands, StartsAt, starts_direct, starts_chained}
use Rattle.law_unique.specs.Images.{AreRows}
use Rattle.law_unique.proofs.SameChain.{row_one, slot_far, first_data_some, Shape, shape, at_own, at_others}

module _ {X : Type 0} where
  pub slice_get-append_left : (xs ys : List X) (k : ℕ) (x : X) → slice_get xs k ≡ Some x → slice_get (xs ++ ys) k ≡ Some x
  slice_get-append_left [] ys k x e = cc
  slice_get-append_left (a ∷ xs) ys zero x e = e
  slice_get-append_left (a ∷ xs) ys (suc k) x e = slice_get-append_left xs ys k x e

  pub slice_get-behind : (xs ys : List X) (y : X) → slice_get (xs ++ y ∷ ys) (length xs) ≡ Some y
  slice_get-behind [] ys y = refl
  slice_get-behind (x ∷ xs) ys y = let e : length (x ∷ xs) ≡ suc (length xs) = omega arith in ap (slice_get (x ∷ (xs ++ y ∷ ys))) e ∙ slice_get-behind
      xs ys y

  -- lists that are the same as far as both go
  pub front_rows : (xs ys : List X) → length xs ≤ length ys → ((k : ℕ) (x y : X) → slice_get xs k ≡ Some x → slice_get ys k ≡ Some y → x ≡ y)
      → (rest : List X) × (ys ≡ xs ++ rest)
  front_rows [] ys le same = (ys, refl)
  front_rows (x ∷ xs) [] le same = absurd (omega arith)
  front_rows (x ∷ xs) (y ∷ ys) le same =
      let one : x ≡ y = same 0 x y refl refl in
      let more = front_rows xs ys (omega arith) (λ k a b ea eb. same (suc k) a b ea eb) in
      (more.0, (λ i. sym one i ∷ more.1 i))

pub apart_front : (xs ys : List Row) → AreApart (xs ++ ys) → AreApart xs
apart_front xs ys apart = record {
  slot = λ j k a b ja kb. apart.slot j k a b (slice_get-append_left xs ys j a ja) (slice_get-append_left xs ys k b kb);
  print = λ j k a b ja kb. apart.print j k a b (slice_get-append_left xs ys j a ja) (slice_get-append_left xs ys k b kb);
  page = λ j k a b ja kb. apart.page j k a b (slice_get-append_left xs ys j a ja) (slice_get-append_left xs ys k b kb);
}

pub rows_from-split : (f : ℕ → List Row) (d n k : ℕ) → rows_from f d (n + k) ≡ rows_from f d n ++ rows_from f (d + n) k
rows_from-split f d zero k =
    let e : 0 + k ≡ k = omega arith in let z : d + 0 ≡ d = omega arith in
    ap (rows_from f d) e ∙ ap (λ (j : ℕ). rows_from f j k) (sym z)
rows_from-split f d (suc n) k =
    let e : suc n + k ≡ suc (n + k) = omega arith in let z : d + 1 + n ≡ d + suc n = omega arith in
    ap (rows_from f d) e ∙ ap (λ (rs : List Row). f d ++ rs) (rows_from-split f (d + 1) n k ∙ ap (λ (j : ℕ). rows_from f (d + 1) n ++ rows_from f j k)
    z)
    ∙ sym (append_assoc (f d) (rows_from f (d + 1) n) (rows_from f (d + suc n) k))

module _ (g : Geometry) (r : List ℕ) (prefix : ℕ) (direct : prefix < directs g) where
  pub record Walk (rows : List Row) : Type 0 where
    pub are : AreRows g prefix rows
    pub stand : (k : ℕ) (row : Row) → slice_get rows k ≡ Some row → RowStands g r row.slot row
    pub first : (row : Row) → slice_get rows 0 ≡ Some row → StartsAt g r prefix row.slot
    pub linked : (k : ℕ) (row next : Row) → slice_get rows k ≡ Some row → slice_get rows (k + 1) ≡ Some next
        → slice_index r (slot_word g row.slot 5) ≡ next.slot

  -- the walk ends here: no row comes next
  pub record IsFull (rows : List Row) : Type 0 where
    pub none : rows ≡ [] → (slice_index r (slot_word g prefix 0) ≡ 0) × (slice_index r (slot_word g prefix 5) ≡ 0)
    pub last : (k : ℕ) (row : Row) → slice_get rows k ≡ Some row → length rows ≡ k + 1 → slice_index r (slot_word g row.slot 5) ≡ 0

  pub starts_one : (a b : ℕ) → StartsAt g r prefix a → StartsAt g r prefix b → a ≡ b
  starts_one a b (starts_direct some e) (starts_direct some' e') = e ∙ sym e'
  starts_one a b (starts_direct some e) (starts_chained none e') = absurd (some none)
  starts_one a b (starts_chained none e) (starts_direct some e') = absurd (some none)
  starts_one a b (starts_chained none e) (starts_chained none' e') = e ∙ sym e'

  same_row : (xs ys : List Row) → Walk xs → Walk ys → (k : ℕ) (x y : Row) → slice_get xs k ≡ Some x → slice_get ys k ≡ Some y → x.slot ≡ y.slot
      → x ≡ y
  same_row xs ys wx wy k x y ex ey slot = row_one g prefix prefix k k x y (wx.are k x ex) (wy.are k y ey) slot (λ i lt.
      sym ((wx.stand k x ex).1 i lt) ∙ ap (λ (s : ℕ). slice_index r (slot_word g s i)) slot ∙ (wy.stand k y ey).1 i lt)

  -- two walks go the same way
  pub walk_row : (xs ys : List Row) → Walk xs → Walk ys → (k : ℕ) (x y : Row) → slice_get xs k ≡ Some x → slice_get ys k ≡ Some y → x ≡ y
  walk_row xs ys wx wy zero x y ex ey = same_row xs ys wx wy 0 x y ex ey (starts_one x.slot y.slot (wx.first x ex) (wy.first y ey))
  walk_row xs ys wx wy (suc k) x y ex ey =
      let one : suc k ≡ k + 1 = omega arith in
      let bx = slice_get-get_or xs k x (omega (arith, slice_get_within xs (suc k) x ex)) in
      let by = slice_get-get_or ys k y (omega (arith, slice_get_within ys (suc k) y ey)) in
      let before : get_or xs k x ≡ get_or ys k y = walk_row xs ys wx wy k (get_or xs k x) (get_or ys k y) bx by in
      let lx = wx.linked k (get_or xs k x) x bx (ap (slice_get xs) (sym one) ∙ ex) in
      let ly = wy.linked k (get_or ys k y) y by (ap (slice_get ys) (sym one) ∙ ey) in
      same_row xs ys wx wy (suc k) x y ex ey (sym lx ∙ ap (λ (row : Row). slice_index r (slot_word g row.slot 5)) before ∙ ly)

  pub walk_front : (xs ys : List Row) → Walk xs → Walk ys → length xs ≤ length ys → (rest : List Row) × (ys ≡ xs ++ rest)
  walk_front xs ys wx wy le = front_rows xs ys le (walk_row xs ys wx wy)

  slot_some : (k : ℕ) (row : Row) → IsRow g prefix k row → k ≢ 0 → 1 ≤ row.slot
  slot_some k row is ne = omega (arith, (slot_far g prefix k row is ne).0, direct)

  -- a walk whose first row is reached by a next word of 0
  pub first_some : (row : Row) → IsRow g prefix 0 row → RowStands g r row.slot row → slice_index r (slot_word g prefix 0) ≡ 0 → row.slot ≢ 0
  first_some row is stands page e = ⊎_elim
      (λ (own : row.slot ≡ prefix × (0 ≡ 0)).
      let here : row.page ≡ 0 = sym (stands.1 0 (omega arith)) ∙ ap (λ (s : ℕ). slice_index r (slot_word g s 0)) own.0 ∙ page in
      omega (arith, here, is.data_page.low, first_data_some g))
      (λ (far : (directs g ≤ row.slot) × (row.slot < slots g)). omega (arith, far.0, direct, e))
      is.place

  -- no walk goes further than one that is full
  pub full_longest : (xs ys : List Row) → Walk xs → Walk ys → IsFull xs → length xs < length ys → ⊥
  full_longest [] [] wx wy full lt = absurd (omega (arith, lt))
  full_longest [] (y ∷ ys) wx wy full lt =
      let none = full.none refl in
      let start = wy.first y refl in
      first_some y (wy.are 0 y refl) (wy.stand 0 y refl) none.0 (starts_one y.slot 0 start (starts_chained none.0 (sym none.1)))
  full_longest (x ∷ xs) ys wx wy full lt =
      let n = length xs in
      let long : length (x ∷ xs) ≡ n + 1 = omega arith in
      let bx = slice_get-get_or (x ∷ xs) n x (omega (arith, long)) in
      let last : Row = get_or (x ∷ xs) n x in
      let by = slice_get-get_or ys n x (omega (arith, long, lt)) in
      let after = slice_get-get_or ys (n + 1) x (omega (arith, long, lt)) in
      let same : last ≡ get_or ys n x = walk_row (x ∷ xs) ys wx wy n last (get_or ys n x) bx by in
      let next = wy.linked n (get_or ys n x) (get_or ys (n + 1) x) by after in
      let zero_next = full.last n last bx long in
      let e : (get_or ys (n + 1) x).slot ≡ 0 = sym next ∙ ap (λ (row : Row). slice_index r (slot_word g row.slot 5)) (sym same) ∙ zero_next in
      omega (arith, e, slot_some (n + 1) (get_or ys (n + 1) x) (wy.are (n + 1) (get_or ys (n + 1) x) after) (λ h. omega (arith, h)))

  -- what rows say, row by row
  rows_stand : (rows : List Row) → Reads (RowsSay g rows) r → (k : ℕ) (row : Row) → slice_get rows k ≡ Some row → RowStands g r row.slot row
  rows_stand [] reads k row e = cc
  rows_stand (x ∷ rows) reads zero row e =
      let same : x ≡ row = cc in
      subst (λ (y : Row). RowStands g r y.slot y) same (refl, λ j lt. reads (slot_word g x.slot j) (row_word x j) (at_field j lt refl refl))
  rows_stand (x ∷ rows) reads (suc k) row e = rows_stand rows (λ a v says. reads a v (at_later says)) k row e

  rows_linked : (rows : List Row) → Reads (RowsSay g rows) r → (k : ℕ) (row next : Row) → slice_get rows k ≡ Some row → slice_get rows (suc k) ≡ Some
      next → slice_index r (slot_word g row.slot 5) ≡ next.slot
  rows_linked [] reads k row next e f = cc
  rows_linked (x ∷ []) reads zero row next e f = cc
  rows_linked (x ∷ y ∷ rows) reads zero row next e f =
      let same : x ≡ row = cc in let same' : y ≡ next = cc in
      ap (λ (z : Row). slice_index r (slot_word g z.slot 5)) (sym same) ∙ reads (slot_word g x.slot 5) y.slot (at_next refl refl) ∙ ap
      (λ (z : Row). z.slot) same'
  rows_linked (x ∷ rows) reads (suc k) row next e f = rows_linked rows (λ a v says. reads a v (at_later says)) k row next e f

  rows_last : (rows : List Row) → Reads (RowsSay g rows) r → (k : ℕ) (row : Row) → slice_get rows k ≡ Some row → length rows ≡ k + 1
      → slice_index r (slot_word g row.slot 5) ≡ 0
  rows_last [] reads k row e long = cc
  rows_last (x ∷ []) reads zero row e long = let same : x ≡ row = cc in ap (λ (z : Row). slice_index r (slot_word g z.slot 5)) (sym same) ∙ reads
      (slot_word g x.slot 5) 0 (at_next refl refl)
  rows_last (x ∷ y ∷ rows) reads zero row e long = absurd (omega (arith, long))
  rows_last (x ∷ rows) reads (suc k) row e long = rows_last rows (λ a v says. reads a v (at_later says)) k row e (omega (arith, long))

  module _ (rows : List Row) (are : AreRows g prefix rows) (reads : Reads (ChainSays g prefix rows) r) where
    row_reads : Reads (RowsSay g rows) r
    row_reads a v says = reads a v (at_row says)

    page_is : slice_index r (slot_word g prefix 0) ≡ direct_page_word prefix rows
    page_is = reads (slot_word g prefix 0) (direct_page_word prefix rows) (at_direct_page refl refl)

    next_is : slice_index r (slot_word g prefix 5) ≡ first_slot (chained prefix rows)
    next_is = reads (slot_word g prefix 5) (first_slot (chained prefix rows)) (at_direct_next refl refl)

    first_of : (row : Row) → slice_get rows 0 ≡ Some row → StartsAt g r prefix row.slot
    first_of row e = by_shape (shape g prefix r direct rows are)
      where
        head : (x : Row) (xs : List Row) → rows ≡ x ∷ xs → x ≡ row
        head x xs is = let both : Some x ≡ Some row = ap (λ (rs : List Row). slice_get rs 0) (sym is) ∙ e in cc

        first_is : (rs : List Row) → slice_get rs 0 ≡ Some row → first_slot rs ≡ row.slot
        first_is [] h = cc
        first_is (x ∷ rs) h = let same : x ≡ row = cc in ap (λ (z : Row). z.slot) same

        by_shape : Shape g prefix r direct rows → StartsAt g r prefix row.slot
        by_shape (at_own x xs is own page next is_row far) =
            starts_direct (λ none. omega (arith, sym (page_is ∙ page) ∙ none, is_row.data_page.low, first_data_some g))
            (ap (λ (z : Row). z.slot) (sym (head x xs is)) ∙ own)
        by_shape (at_others page next far) = starts_chained (page_is ∙ page) (sym (next_is ∙ ap first_slot next ∙ first_is rows e))

    pub chain_walk : Walk rows
    chain_walk = record {
      are = are;
      stand = rows_stand rows row_reads;
      first = first_of;
      linked = λ k row next e f. let one : k + 1 ≡ suc k = omega arith in rows_linked rows row_reads k row next e (ap (slice_get rows) (sym one) ∙ f);
    }

    pub chain_full : IsFull rows
    chain_full = record {
      none = λ e. (page_is ∙ ap (direct_page_word prefix) e, next_is ∙ ap (λ (rs : List Row). first_slot (chained prefix rs)) e);
      last = rows_last rows row_reads;
    }
