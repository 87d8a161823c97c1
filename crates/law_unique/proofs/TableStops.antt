-- The table has its first fault at one slot, and none where it may be read.
use Rattle.std.proofs.Common.{
  ◌≡◌,
  ◌≢◌,
  ◌⊎◌,
  inl,
  inr,
  ⊎_elim,
  ℕ,
  suc,
  ◌+◌,
  ◌-◌,
  ◌<◌,
  ◌≤◌,
  List,
  [],
  ◌∷◌,
  ◌++◌,
  length,
  sym,
  ◌∙◌,
  ap,
  subst,
  arith,
  length-append,
  append_assoc,
  append-nil,
}
use Rattle.std.specs.Prelude.{slice_index, slice_get, Some}
use Rattle.std.proofs.lemmas.Bool.{cases_lt}
use Rattle.std.proofs.lemmas.List.{nil_from_length}
use Rattle.pm_device.specs.Reading.{Reads}
use Rattle.pm_layout.specs.declared.Geometry.{Geometry}
use Rattle.pm_layout.specs.Geometry.{directs, slot_word}
use Rattle.dn_model.specs.Table.{Row, ChainSays, rows_from}
use Rattle.dn_model.specs.Valid.{IsRow, AreApart}
use Rattle.dn_model.specs.Faults.{
  ComesNext,
  direct_row,
  first_chained,
  after_row,
  RowStands,
  IsDirectNext,
  IsIndirect,
  starts_direct,
  starts_chained,
  IsReached,
  TableFault,
  no_row,
  no_next,
}
use Rattle.law_unique.specs.Images.{AreRows}
use Rattle.law_unique.proofs.SameChain.{chain_one, first_data_some}
use Rattle.law_unique.proofs.SameParts.{rows_from-same}
use Rattle.law_unique.proofs.TableWalks.{
  slice_get-behind,
  apart_front,
  rows_from-split,
  Walk,
  IsFull,
  walk_front,
  full_longest,
  starts_one,
  chain_walk,
  chain_full,
}

-- the last of rows
last_one : (xs ys : List Row) (x y : Row) → xs ++ x ∷ [] ≡ ys ++ y ∷ [] → x ≡ y
last_one [] [] x y e = cc
last_one [] (b ∷ ys) x y e = absurd (omega (arith, ap length e, length-append ys (y ∷ [])))
last_one (a ∷ xs) [] x y e = absurd (omega (arith, ap length e, length-append xs (x ∷ [])))
last_one (a ∷ xs) (b ∷ ys) x y e = let rest : xs ++ x ∷ [] ≡ ys ++ y ∷ [] = cc in last_one xs ys x y rest

-- the rows of one prefix among all
rows_cut : (chain : ℕ → List Row) (n p : ℕ) → p < n → (more : List Row) → rows_from chain 0 n ++ more ≡ (rows_from chain 0 p ++ chain p) ++
    (rows_from chain (0 + p + 1) (n - (p + 1)) ++ more)
rows_cut chain n p lt more =
    let long : n ≡ p + suc (n - (p + 1)) = omega (arith, lt) in
    let z : 0 + p ≡ p = omega arith in
    let tail = rows_from chain (0 + p + 1) (n - (p + 1)) in
    ap (λ (j : ℕ). rows_from chain 0 j ++ more) long
    ∙ ap (λ (rs : List Row). rs ++ more) (rows_from-split chain 0 p (suc (n - (p + 1))) ∙ ap (λ (j : ℕ). rows_from chain 0 p ++ (chain j ++ tail))
    z ∙ sym (append_assoc (rows_from chain 0 p) (chain p) tail))
    ∙ append_assoc (rows_from chain 0 p ++ chain p) tail more

module _ (g : Geometry) (r : List ℕ) where
  -- why the table has a fault behind these rows
  data Why (chain : ℕ → List Row) (prefix : ℕ) (so_far : List Row) (slot : ℕ) : Type 0 where
    by_row : (holder : ℕ) → ComesNext g r prefix so_far holder slot → IsDirectNext g r prefix so_far ⊎ IsIndirect g slot
        → ((row : Row) → RowStands g r slot row → IsRow g prefix (length so_far) row → AreApart (rows_from chain 0 prefix ++ so_far ++ row ∷ []) → ⊥)
        → Why chain prefix so_far slot
    by_next : (next : ℕ) → ComesNext g r prefix so_far slot next → (IsDirectNext g r prefix so_far → ⊥) → next ≢ 0 → (IsIndirect g next → ⊥)
        → Why chain prefix so_far slot

  record Found (slot : ℕ) : Type 0 where
    pub chain : ℕ → List Row
    pub prefix : ℕ
    pub so_far : List Row
    pub reached : IsReached g r chain prefix so_far
    pub why : Why chain prefix so_far slot

  find : (slot : ℕ) → TableFault g r slot → Found slot
  find slot (no_row chain prefix so_far holder reached next place bad) = record {
    chain = chain;
    prefix = prefix;
    so_far = so_far;
    reached = reached;
    why = by_row holder next place bad;
  }
  find slot (no_next chain prefix so_far next reached comes direct some far) = record {
    chain = chain;
    prefix = prefix;
    so_far = so_far;
    reached = reached;
    why = by_next next comes direct some far;
  }

  -- the rows so far are a walk
  is_walk : (chain : ℕ → List Row) (prefix : ℕ) (so_far : List Row) (direct : prefix < directs g) → IsReached g r chain prefix so_far
      → Walk g r prefix direct so_far
  is_walk chain prefix so_far direct reached = record {
    are = λ k row at. (reached.front.own k row at).0;
    stand = λ k row at. (reached.front.own k row at).1;
    first = reached.first;
    linked = reached.front.linked;
  }

  module _ (chain : ℕ → List Row) (prefix : ℕ) (so_far : List Row) (reached : IsReached g r chain prefix so_far) where
    abbrev direct : prefix < directs g
    direct = reached.front.direct

    -- where another walk goes on, its next row stands at the slot that comes next
    next_slot : (w : Row) (rest : List Row) → Walk g r prefix direct (so_far ++ w ∷ rest) → (holder slot : ℕ) → ComesNext g r prefix so_far holder
        slot → slot ≡ w.slot
    next_slot w rest walk holder slot (direct_row none some h e) =
        let at : slice_get (so_far ++ w ∷ rest) 0 ≡ Some w = ap (λ (xs : List Row). slice_get (xs ++ w ∷ rest) 0) none in
        starts_one g r prefix direct slot w.slot (starts_direct some e) (walk.first w at)
    next_slot w rest walk holder slot (first_chained none page h e) =
        let at : slice_get (so_far ++ w ∷ rest) 0 ≡ Some w = ap (λ (xs : List Row). slice_get (xs ++ w ∷ rest) 0) none in
        starts_one g r prefix direct slot w.slot (starts_chained page e) (walk.first w at)
    next_slot w rest walk holder slot (after_row front row is h e) =
        let here : so_far ++ w ∷ rest ≡ front ++ row ∷ (w ∷ rest) = ap (λ (xs : List Row). xs ++ w ∷ rest) is ∙ append_assoc front (row ∷ [])
        (w ∷ rest) in
        let long : length so_far ≡ length front + 1 = ap length is ∙ length-append front (row ∷ []) in
        let at : slice_get (so_far ++ w ∷ rest) (length front) ≡ Some row = ap (λ (xs : List Row). slice_get xs (length front))
        here ∙ slice_get-behind front (w ∷ rest) row in
        let after : slice_get (so_far ++ w ∷ rest) (length front + 1) ≡ Some w = ap (slice_get (so_far ++ w ∷ rest)) (sym long) ∙ slice_get-behind
        so_far rest w in
        e ∙ walk.linked (length front) row w at after

    -- so no fault comes before the end of a walk whose rows are apart
    no_fault_before : (slot : ℕ) → Why chain prefix so_far slot → (w : Row) (rest : List Row) → Walk g r prefix direct (so_far ++ w ∷ rest)
        → AreApart (rows_from chain 0 prefix ++ so_far ++ w ∷ []) → ⊥
    no_fault_before slot why w rest walk apart = by_why why
      where
        at : slice_get (so_far ++ w ∷ rest) (length so_far) ≡ Some w
        at = slice_get-behind so_far rest w

        is_row : IsRow g prefix (length so_far) w
        is_row = walk.are (length so_far) w at

        stands : RowStands g r w.slot w
        stands = walk.stand (length so_far) w at

        -- its slot is indirect, where it isn't the direct slot by its own page word
        far : (IsDirectNext g r prefix so_far → ⊥) → IsIndirect g w.slot
        far other = ⊎_elim
            (λ (own : w.slot ≡ prefix × (length so_far ≡ 0)). absurd (at_start own.0 (nil_from_length so_far own.1)))
            (λ (f : IsIndirect g w.slot). f)
            is_row.place
          where
            page_of : w.slot ≡ prefix → slice_index r (slot_word g prefix 0) ≡ w.page
            page_of e = ap (λ (s : ℕ). slice_index r (slot_word g s 0)) (sym e) ∙ stands.1 0 (omega arith)

            at_start : w.slot ≡ prefix → so_far ≡ [] → ⊥
            at_start e none = other (none, λ page. omega (arith, page, page_of e, is_row.data_page.low, first_data_some g))

        by_why : Why chain prefix so_far slot → ⊥
        by_why (by_row holder next place bad) =
            let same : slot ≡ w.slot = next_slot w rest walk holder slot next in
            bad w (subst (λ (s : ℕ). RowStands g r s w) (sym same) stands) is_row apart
        by_why (by_next next comes other some none) = none (subst (IsIndirect g) (sym (next_slot w rest walk slot next comes)) (far other))

    -- nor at its end
    no_fault_at_end : (slot : ℕ) → Why chain prefix so_far slot → IsFull g r prefix direct so_far → ⊥
    no_fault_at_end slot why full = by_why why
      where
        not_direct : IsDirectNext g r prefix so_far → ⊥
        not_direct d = d.1 (full.none d.0).0

        comes_none : (holder s : ℕ) → ComesNext g r prefix so_far holder s → s ≡ 0
        comes_none holder s (direct_row none some h e) = absurd (not_direct (none, some))
        comes_none holder s (first_chained none page h e) = e ∙ (full.none none).1
        comes_none holder s (after_row front row is h e) =
            let at : slice_get so_far (length front) ≡ Some row = ap (λ (xs : List Row). slice_get xs (length front)) is ∙ slice_get-behind front []
            row in
            e ∙ full.last (length front) row at (ap length is ∙ length-append front (row ∷ []))

        by_why : Why chain prefix so_far slot → ⊥
        by_why (by_row holder next (inl d) bad) = not_direct d
        by_why (by_row holder next (inr far) bad) = omega (arith, far.0, direct, comes_none holder slot next)
        by_why (by_next next comes other some none) = some (comes_none slot next comes)

    apart_to : (w : Row) (rest ys : List Row) → ys ≡ so_far ++ w ∷ rest → AreApart (rows_from chain 0 prefix ++ ys)
        → AreApart (rows_from chain 0 prefix ++ so_far ++ w ∷ [])
    apart_to w rest ys e apart = apart_front (rows_from chain 0 prefix ++ so_far ++ w ∷ []) rest (subst AreApart
        (ap (λ (xs : List Row). rows_from chain 0 prefix ++ xs) e ∙ sym (append_assoc (rows_from chain 0 prefix) so_far (w ∷ rest)) ∙ sym
        (append_assoc (rows_from chain 0 prefix ++ so_far) (w ∷ []) rest)) apart)

    -- a walk that goes further, with rows apart, has no fault here
    longer_none : (slot : ℕ) → Why chain prefix so_far slot → (ys : List Row) → Walk g r prefix direct ys → length so_far < length ys
        → AreApart (rows_from chain 0 prefix ++ ys) → ⊥
    longer_none slot why ys walk lt apart =
        let front = walk_front g r prefix direct so_far ys (is_walk chain prefix so_far direct reached) walk (omega arith) in by_rest front.0 front.1
      where
        by_rest : (rest : List Row) → ys ≡ so_far ++ rest → ⊥
        by_rest [] e = omega (arith, lt, ap length e, length-append so_far [])
        by_rest (w ∷ rest) e = no_fault_before slot why w rest (subst (Walk g r prefix direct) e walk) (apart_to w rest ys e apart)

    -- nor does a full walk whose rows are apart
    no_fault_in : (slot : ℕ) → Why chain prefix so_far slot → (full : List Row) → Walk g r prefix direct full → IsFull g r prefix direct full
        → AreApart (rows_from chain 0 prefix ++ full) → ⊥
    no_fault_in slot why full walk is_full apart = elim (cases_lt (length so_far) (length full)) [
      | inl lt ↦ longer_none slot why full walk lt apart
      | inr ge ↦ elim (cases_lt (length full) (length so_far)) [
        | inl lt ↦ full_longest g r prefix direct full so_far walk (is_walk chain prefix so_far direct reached) is_full lt
        | inr le ↦
            let front = walk_front g r prefix direct so_far full (is_walk chain prefix so_far direct reached) walk le in
            let none : front.0 ≡ [] = nil_from_length front.0 (omega (arith, ge, le, ap length front.1, length-append so_far front.0)) in
            no_fault_at_end slot why (subst (IsFull g r prefix direct) (front.1 ∙ ap (λ (xs : List Row). so_far ++ xs) none ∙ append-nil so_far)
            is_full)
      ]
    ]

    -- what comes next is one slot, by one holder
    comes_one : (h s h' s' : ℕ) → ComesNext g r prefix so_far h s → ComesNext g r prefix so_far h' s' → (h ≡ h') × (s ≡ s')
    comes_one h s h' s' (direct_row none some eh es) (direct_row none' some' eh' es') = (eh ∙ sym eh', es ∙ sym es')
    comes_one h s h' s' (direct_row none some eh es) (first_chained none' page eh' es') = absurd (some page)
    comes_one h s h' s' (direct_row none some eh es) (after_row front row is eh' es') = absurd
        (omega (arith, ap length none, ap length is, length-append front (row ∷ [])))
    comes_one h s h' s' (first_chained none page eh es) (direct_row none' some eh' es') = absurd (some page)
    comes_one h s h' s' (first_chained none page eh es) (first_chained none' page' eh' es') = (eh ∙ sym eh', es ∙ sym es')
    comes_one h s h' s' (first_chained none page eh es) (after_row front row is eh' es') = absurd
        (omega (arith, ap length none, ap length is, length-append front (row ∷ [])))
    comes_one h s h' s' (after_row front row is eh es) (direct_row none some eh' es') = absurd
        (omega (arith, ap length none, ap length is, length-append front (row ∷ [])))
    comes_one h s h' s' (after_row front row is eh es) (first_chained none page eh' es') = absurd
        (omega (arith, ap length none, ap length is, length-append front (row ∷ [])))
    comes_one h s h' s' (after_row front row is eh es) (after_row front' row' is' eh' es') =
        let same : row ≡ row' = last_one front front' row row' (sym is ∙ is') in
        (eh ∙ ap (λ (z : Row). z.slot) same ∙ sym eh', es ∙ ap (λ (z : Row). slice_index r (slot_word g z.slot 5)) same ∙ sym es')

    why_one : (chain' : ℕ → List Row) (s s' : ℕ) → Why chain prefix so_far s → Why chain' prefix so_far s' → s ≡ s'
    why_one chain' s s' (by_row h comes place bad) (by_row h' comes' place' bad') = (comes_one h s h' s' comes comes').1
    why_one chain' s s' (by_row h comes place bad) (by_next n comes' other some none) =
        absurd (⊎_elim other (λ (far : IsIndirect g s). none (subst (IsIndirect g) (comes_one h s s' n comes comes').1 far)) place)
    why_one chain' s s' (by_next n comes other some none) (by_row h' comes' place bad) =
        absurd (⊎_elim other (λ (far : IsIndirect g s'). none (subst (IsIndirect g) (comes_one h' s' s n comes' comes).1 far)) place)
    why_one chain' s s' (by_next n comes other some none) (by_next n' comes' other' some' none') = (comes_one s n s' n' comes comes').0

  -- chains that are read in full before a prefix are the same
  before_same : (chain chain' : ℕ → List Row) (n m : ℕ) → n ≤ directs g → ((q : ℕ) → q < n → AreRows g q (chain q) × Reads (ChainSays g q (chain q))
      r) → ((q : ℕ) → q < m → AreRows g q (chain' q) × Reads (ChainSays g q (chain' q)) r) → (k : ℕ) → k ≤ n → k ≤ m
      → rows_from chain 0 k ≡ rows_from chain' 0 k
  before_same chain chain' n m few good good' k kn km = rows_from-same chain chain' 0 k (λ q low lt.
      let a = good q (omega (arith, lt)) in let b = good' q (omega (arith, lt)) in
      chain_one g q r (chain q) (chain' q) (omega (arith, lt)) a.0 b.0 a.1 b.1)

  abbrev GoodBelow : (ℕ → List Row) → ℕ → Type 0
  GoodBelow chain n = (q : ℕ) → q < n → AreRows g q (chain q) × Reads (ChainSays g q (chain q)) r

  front_good : (chain : ℕ → List Row) (prefix : ℕ) (so_far : List Row) → IsReached g r chain prefix so_far → GoodBelow chain prefix
  front_good chain prefix so_far reached q lt = ((λ k row at. reached.front.before q k row lt at), reached.front.read_before q lt)

  -- no fault where chains beyond it are read in full, and are apart
  beyond : (slot : ℕ) (x : Found slot) (chain : ℕ → List Row) (n : ℕ) → x.prefix < n → GoodBelow chain n → (more : List Row)
      → AreApart (rows_from chain 0 n ++ more) → ⊥
  beyond slot x chain n lt good more apart =
      let own = good x.prefix lt in
      let d = x.reached.front.direct in
      let same : rows_from x.chain 0 x.prefix ≡ rows_from chain 0 x.prefix =
      before_same x.chain chain x.prefix n (omega arith) (front_good x.chain x.prefix x.so_far x.reached) good x.prefix (omega arith) (omega arith) in
      no_fault_in x.chain x.prefix x.so_far x.reached slot x.why (chain x.prefix) (chain_walk g r x.prefix d (chain x.prefix) own.0 own.1)
      (chain_full g r x.prefix d (chain x.prefix) own.0 own.1)
      (subst (λ (rs : List Row). AreApart (rs ++ chain x.prefix)) (sym same) (apart_front (rows_from chain 0 x.prefix ++ chain x.prefix)
      (rows_from chain (0 + x.prefix + 1) (n - (x.prefix + 1)) ++ more) (subst AreApart (rows_cut chain n x.prefix lt more) apart)))

  module _ (s s' : ℕ) (chain chain' : ℕ → List Row) (prefix : ℕ) (xs ys : List Row) (rx : IsReached g r chain prefix xs)
      (ry : IsReached g r chain' prefix ys) where
    same_before : rows_from chain 0 prefix ≡ rows_from chain' 0 prefix
    same_before = before_same chain chain' prefix prefix (omega (arith, rx.front.direct)) (front_good chain prefix xs rx)
        (front_good chain' prefix ys ry) prefix (omega arith) (omega arith)

    not_longer : Why chain prefix xs s → length xs < length ys → ⊥
    not_longer why lt = longer_none chain prefix xs rx s why ys (is_walk chain' prefix ys rx.front.direct ry) lt
        (subst (λ (rs : List Row). AreApart (rs ++ ys)) (sym same_before) ry.front.apart)

    same_rows : length xs ≡ length ys → ys ≡ xs
    same_rows long =
        let front = walk_front g r prefix rx.front.direct xs ys (is_walk chain prefix xs rx.front.direct rx)
        (is_walk chain' prefix ys rx.front.direct ry) (omega (arith, long)) in
        let none : front.0 ≡ [] = nil_from_length front.0 (omega (arith, long, ap length front.1, length-append xs front.0)) in
        front.1 ∙ ap (λ (rest : List Row). xs ++ rest) none ∙ append-nil xs

  at_one_prefix : (s s' : ℕ) (chain chain' : ℕ → List Row) (prefix : ℕ) (xs ys : List Row) → IsReached g r chain prefix xs
      → IsReached g r chain' prefix ys → Why chain prefix xs s → Why chain' prefix ys s' → s ≡ s'
  at_one_prefix s s' chain chain' prefix xs ys rx ry wx wy = elim (cases_lt (length xs) (length ys)) [
    | inl lt ↦ absurd (not_longer s s' chain chain' prefix xs ys rx ry wx lt)
    | inr ge ↦ elim (cases_lt (length ys) (length xs)) [
      | inl lt ↦ absurd (not_longer s' s chain' chain prefix ys xs ry rx wy lt)
      | inr le ↦ why_one chain prefix xs rx chain' s s' wx (subst (λ (zs : List Row). Why chain' prefix zs s')
          (same_rows s s' chain chain' prefix xs ys rx ry (omega (arith, ge, le))) wy)
    ]
  ]

  found_one : (s s' : ℕ) → Found s → Found s' → s ≡ s'
  found_one s s' x y = elim (cases_lt x.prefix y.prefix) [
    | inl lt ↦ absurd (beyond s x y.chain y.prefix lt (front_good y.chain y.prefix y.so_far y.reached) y.so_far y.reached.front.apart)
    | inr ge ↦ elim (cases_lt y.prefix x.prefix) [
      | inl lt ↦ absurd (beyond s' y x.chain x.prefix lt (front_good x.chain x.prefix x.so_far x.reached) x.so_far x.reached.front.apart)
      | inr le ↦
          let e : y.prefix ≡ x.prefix = omega (arith, ge, le) in
          at_one_prefix s s' x.chain y.chain x.prefix x.so_far y.so_far x.reached (subst (λ (p : ℕ). IsReached g r y.chain p y.so_far) e y.reached)
          x.why (subst (λ (p : ℕ). Why y.chain p y.so_far s') e y.why)
    ]
  ]

  pub table_fault_one : (s s' : ℕ) → TableFault g r s → TableFault g r s' → s ≡ s'
  table_fault_one s s' x y = found_one s s' (find s x) (find s' y)

  pub table_fault_none : (chain : ℕ → List Row) → ((q : ℕ) → q < directs g → AreRows g q (chain q))
      → ((q : ℕ) → q < directs g → Reads (ChainSays g q (chain q)) r)
      → AreApart (rows_from chain 0 (directs g)) → (s : ℕ) → TableFault g r s → ⊥
  table_fault_none chain are reads apart s fault =
      let x = find s fault in
      beyond s x chain (directs g) x.reached.front.direct (λ q lt. (are q lt, reads q lt)) []
      (subst AreApart (sym (append-nil (rows_from chain 0 (directs g)))) apart)
