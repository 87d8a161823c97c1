-- Rows that are apart, and one more behind them.
use Rattle.std.proofs.Common.{
  ◌≡◌,
  ◌≢◌,
  ◌⊎◌,
  inl,
  inr,
  ⊎_elim,
  ℕ,
  zero,
  suc,
  ◌+◌,
  ◌<◌,
  ◌≤◌,
  List,
  [],
  ◌∷◌,
  ◌++◌,
  length,
  get_or,
  map,
  eqb,
  true,
  false,
  refl,
  sym,
  ◌∙◌,
  ap,
  subst,
  arith,
}
use Rattle.std.specs.Prelude.{slice_get, Some, All}
use Rattle.std.specs.List.{list_any}
use Rattle.std.proofs.lemmas.Bool.{cases_eq, cases_lt, ne_eqb, false≢true}
use Rattle.std.proofs.lemmas.List.Folds.{list_any_none}
use Rattle.std.proofs.lemmas.Map.Keys.{IsDistinct-from_apart}
use Rattle.std.proofs.lemmas.Map.Steps.{length-le_from_distinct_below}
use Rattle.std.proofs.lemmas.Option.{slice_get-get_or, get_or_from_slice_get}
use Rattle.std.proofs.lemmas.List.{length-map, get_or-map}
use Rattle.dn_model.specs.Table.{Row}
use Rattle.dn_model.specs.Valid.{AreApart}
use Rattle.law_unique.proofs.TableWalks.{slice_get-append_left, slice_get-behind}
use Rattle.law_table_read.proofs.Decisions.{Decided, decide_both, decide_as, decide_not, decide_same, decide_all}

-- an element of a list with one more: an old one, or the new one
pub push_cases : {X : Type 0} (xs : List X) (y : X) (k : ℕ) (x : X) → slice_get (xs ++ y ∷ []) k ≡ Some x
    → ((k < length xs) × (slice_get xs k ≡ Some x)) ⊎ ((k ≡ length xs) × (y ≡ x))
push_cases [] y zero x e = inr (refl, cc)
push_cases [] y (suc k) x e = cc
push_cases (a ∷ xs) y zero x e = inl (omega arith, e)
push_cases (a ∷ xs) y (suc k) x e = ⊎_elim
    (λ (old : (k < length xs) × (slice_get xs k ≡ Some x)). inl (omega (arith, old.0), old.1))
    (λ (new : (k ≡ length xs) × (y ≡ x)). inr (omega (arith, new.0), new.1))
    (push_cases xs y k x e)

-- within a list an element stands
pub some_at : {X : Type 0} (xs : List X) (k : ℕ) → k < length xs → (x : X) × (slice_get xs k ≡ Some x)
some_at [] k lt = absurd (omega (arith, lt))
some_at (x ∷ xs) zero lt = (x, refl)
some_at (x ∷ xs) (suc k) lt = some_at xs k (omega arith)

-- no two elements have the same key
module _ {X : Type 0} (K : Type 0) (key : X → K) where
  abbrev OneEach : List X → Type 0
  OneEach xs = (j k : ℕ) (x y : X) → slice_get xs j ≡ Some x → slice_get xs k ≡ Some y → key x ≡ key y → j ≡ k

  abbrev Differs : X → X → Type 0
  Differs new x = key x ≢ key new

  one_more : (xs : List X) (new : X) → OneEach xs → All (Differs new) xs → OneEach (xs ++ new ∷ [])
  one_more xs new one apart j k x y at_x at_y same = by_cases (push_cases xs new j x at_x) (push_cases xs new k y at_y)
    where
      other : (i : ℕ) (z : X) → (i < length xs) × (slice_get xs i ≡ Some z) → key z ≢ key new
      other i z old = subst (Differs new) (get_or_from_slice_get xs i z z old.1) (apart i z old.0)

      by_cases : ((j < length xs) × (slice_get xs j ≡ Some x)) ⊎ ((j ≡ length xs) × (new ≡ x)) → ((k < length xs) × (slice_get xs k ≡ Some y))
          ⊎ ((k ≡ length xs) × (new ≡ y)) → j ≡ k
      by_cases (inl a) (inl b) = one j k x y a.1 b.1 same
      by_cases (inl a) (inr b) = absurd (other j x a (same ∙ ap key (sym b.1)))
      by_cases (inr a) (inl b) = absurd (other k y b (sym same ∙ ap key (sym a.1)))
      by_cases (inr a) (inr b) = a.0 ∙ sym b.0

  differ_from : (xs : List X) (new : X) → OneEach (xs ++ new ∷ []) → All (Differs new) xs
  differ_from xs new one k d lt = λ same.
      let at = one k (length xs) (get_or xs k d) new (slice_get-append_left xs (new ∷ []) k (get_or xs k d) (slice_get-get_or xs k d lt))
      (slice_get-behind xs [] new) same in
      omega (arith, lt, at)

-- a row that shares no slot, print or page with another
pub record IsUnlike (new row : Row) : Type 0 where
  pub slot : row.slot ≢ new.slot
  pub print : row.print ≢ new.print
  pub page : row.page ≢ new.page

decide_unlike : (new row : Row) → Decided (IsUnlike new row)
decide_unlike new row =
    decide_as ((row.slot ≢ new.slot) × ((row.print ≢ new.print) × (row.page ≢ new.page))) (IsUnlike new row)
    (λ all. record { slot = all.0; print = all.1.0; page = all.1.1 }) (λ u. (u.slot, (u.print, u.page)))
    (decide_both (row.slot ≢ new.slot) ((row.print ≢ new.print) × (row.page ≢ new.page))
    (decide_not (row.slot ≡ new.slot) (cases_eq row.slot new.slot))
    (decide_both (row.print ≢ new.print) (row.page ≢ new.page) (decide_not (row.print ≡ new.print) (decide_same row.print new.print))
    (decide_not (row.page ≡ new.page) (cases_eq row.page new.page))))

module _ (rows : List Row) (new : Row) where
  pub apart_more : AreApart rows → All (IsUnlike new) rows → AreApart (rows ++ new ∷ [])
  apart_more apart unlike = record {
    slot = one_more ℕ (λ row. row.slot) rows new apart.slot (λ k d lt. (unlike k d lt).slot);
    print = one_more (List ℕ) (λ row. row.print) rows new apart.print (λ k d lt. (unlike k d lt).print);
    page = one_more ℕ (λ row. row.page) rows new apart.page (λ k d lt. (unlike k d lt).page);
  }

  unlike_from : AreApart (rows ++ new ∷ []) → All (IsUnlike new) rows
  unlike_from apart k d lt = record {
    slot = differ_from ℕ (λ row. row.slot) rows new apart.slot k d lt;
    print = differ_from (List ℕ) (λ row. row.print) rows new apart.print k d lt;
    page = differ_from ℕ (λ row. row.page) rows new apart.page k d lt;
  }

  -- whether one more row is apart from rows that are
  pub decide_apart : AreApart rows → Decided (AreApart (rows ++ new ∷ []))
  decide_apart apart = decide_as (All (IsUnlike new) rows) (AreApart (rows ++ new ∷ [])) (apart_more apart) unlike_from
      (decide_all (IsUnlike new) (decide_unlike new) rows)

-- a list behind another
slice_get-behind_all : {X : Type 0} (xs ys : List X) (k : ℕ) → slice_get (xs ++ ys) (length xs + k) ≡ slice_get ys k
slice_get-behind_all [] ys k = let e : 0 + k ≡ k = omega arith in ap (slice_get ys) e
slice_get-behind_all (x ∷ xs) ys k = let e : length (x ∷ xs) + k ≡ suc (length xs + k) = omega arith in ap (slice_get (x ∷ (xs ++ ys)))
    e ∙ slice_get-behind_all xs ys k

-- the slots of rows that are apart, behind others
pub slots_apart : (xs ys : List Row) → AreApart (xs ++ ys) → (j k : ℕ) (r s : Row) → slice_get ys j ≡ Some r → slice_get ys k ≡ Some s
    → r.slot ≡ s.slot → j ≡ k
slots_apart xs ys apart j k r s at_r at_s same =
    let e = apart.slot (length xs + j) (length xs + k) r s (slice_get-behind_all xs ys j ∙ at_r) (slice_get-behind_all xs ys k ∙ at_s) same in
    omega (arith, e)

-- rows whose slots are different and below a number aren't more than it
pub few_rows : (rows : List Row) (n : ℕ) → ((k : ℕ) (row : Row) → slice_get rows k ≡ Some row → row.slot < n)
    → ((j k : ℕ) (r s : Row) → slice_get rows j ≡ Some r → slice_get rows k ≡ Some s → r.slot ≡ s.slot → j ≡ k) → length rows ≤ n
few_rows rows n low apart = omega (
  arith,
  length-map rows (λ (row : Row). row.slot),
  length-le_from_distinct_below places n
      (IsDistinct-from_apart eqb places differ) within,
)
  where
    places : List ℕ
    places = map (λ (row : Row). row.slot) rows

    at : (k d : ℕ) → k < length (map (λ (row : Row). row.slot) rows) → (row : Row) × (slice_get rows k ≡ Some row) ×
        (get_or (map (λ (row : Row). row.slot) rows) k d ≡ row.slot)
    at k d lt =
        let short : k < length rows = omega (arith, lt, length-map rows (λ (row : Row). row.slot)) in
        let found = some_at rows k short in (
          found.0,
          found.1,
          get_or-map (λ (row : Row). row.slot) rows k found.0 d short ∙ ap (λ (row : Row). row.slot)
              (get_or_from_slice_get rows k found.0 found.0 found.1),
        )

    unequal : (a b : ℕ) → a ≢ b → eqb a b ≡ false
    unequal a b ne = ne_eqb a b ne

    differ : (i j d : ℕ) → i < j → j < length (map (λ (row : Row). row.slot) rows) → eqb (get_or (map (λ (row : Row). row.slot) rows) i d)
        (get_or (map (λ (row : Row). row.slot) rows) j d) ≡ false
    differ i j d lt jl =
        let r = at i d (omega arith) in
        let s = at j d jl in
        unequal _ _ (λ e. let same : i ≡ j = apart i j r.0 s.0 r.1 s.1 (sym r.2 ∙ e ∙ s.2) in omega (arith, lt, same))

    within : (q : ℕ) → list_any (eqb q) (map (λ (row : Row). row.slot) rows) ≡ true → q < n
    within q any = elim (cases_lt q n) [
      | inl small ↦ small
      | inr high ↦
          absurd (false≢true (sym (list_any_none (eqb q) (map (λ (row : Row). row.slot) rows) (λ k d lt. let r = at k d lt in
          unequal q _ (λ e. omega (arith, high, e, r.2, low k r.0 r.1)))) ∙ any))
    ]
