-- The walk along a chain, row by row: to its end, or to the first fault of the table.
use Rattle.std.proofs.Common.{
  ◌≡◌,
  ◌≢◌,
  ◌⊎◌,
  inl,
  inr,
  ⊎_elim,
  ℕ,
  zero,
  suc,
  ◌+◌,
  ◌<◌,
  ◌≤◌,
  List,
  [],
  ◌∷◌,
  ◌++◌,
  length,
  refl,
  sym,
  ◌∙◌,
  ap,
  subst,
  arith,
  length-append,
  append_assoc,
}
use Rattle.std.specs.Prelude.{slice_index, slice_get, Some}
use Rattle.std.proofs.lemmas.Bool.{cases_eq}
use Rattle.std.proofs.lemmas.List.{nil_from_length}
use Rattle.std.proofs.lemmas.Option.{same_Some}
use Rattle.pm_layout.specs.declared.Geometry.{Geometry}
use Rattle.pm_layout.specs.Geometry.{directs, slots, slot_word}
use Rattle.dn_model.specs.Table.{Row, rows_from}
use Rattle.dn_model.specs.Valid.{IsRow, AreApart}
use Rattle.dn_model.specs.Faults.{
  RowStands,
  ComesNext,
  direct_row,
  first_chained,
  after_row,
  IsDirectNext,
  IsIndirect,
  StartsAt,
  starts_direct,
  starts_chained,
  IsReached,
  TableFault,
  no_row,
  no_next,
}
use Rattle.law_unique.proofs.SameChain.{row_one}
use Rattle.law_unique.proofs.TableWalks.{slice_get-behind, Walk, IsFull}
use Rattle.law_table_read.specs.Tables.{HoldsRow}
use Rattle.law_table_read.proofs.Decisions.{Decided, decide_both, decide_le, decide_lt}
use Rattle.law_table_read.proofs.RowRead.{rows_decided}
use Rattle.law_table_read.proofs.Apart.{push_cases, decide_apart, slots_apart, few_rows}

-- a list has a last element or none
last_or_none : (xs : List Row) → (xs ≡ []) ⊎ ((front : List Row) × (last : Row) × (xs ≡ front ++ last ∷ []))
last_or_none [] = inl refl
last_or_none (x ∷ xs) = ⊎_elim
    (λ (e : xs ≡ []). inr ([], x, ap (λ (ys : List Row). x ∷ ys) e))
    (λ (more : (front : List Row) × (last : Row) × (xs ≡ front ++ last ∷ [])). inr (x ∷ more.0, more.1, ap (λ (ys : List Row). x ∷ ys) more.2))
    (last_or_none xs)

-- a list with a last element isn't empty
not_nil : (xs front : List Row) (last : Row) → xs ≡ front ++ last ∷ [] → xs ≡ [] → ⊥
not_nil xs front last is none = omega (arith, ap length is, ap length none, length-append front (last ∷ []))

module _ (g : Geometry) (c : List ℕ) (chain : ℕ → List Row) (prefix : ℕ) (direct : prefix < directs g) where
  module _ (so_far : List Row) (reached : IsReached g c chain prefix so_far) where
    -- what comes of the next slot
    pub data Step : Type 0 where
      ends : IsFull g c prefix direct so_far → Step
      is_faulty : (slot : ℕ) → TableFault g c slot → Step
      goes_on : (row : Row) → IsReached g c chain prefix (so_far ++ row ∷ []) → Step

    module _ (holder slot : ℕ) (comes : ComesNext g c prefix so_far holder slot) where
      -- the last row so far leads to the slot
      leads_by : ComesNext g c prefix so_far holder slot → (k : ℕ) (row : Row) → slice_get so_far k ≡ Some row → k + 1 ≡ length so_far
          → slice_index c (slot_word g row.slot 5) ≡ slot
      leads_by (direct_row none some h e) k row at long = absurd (omega (arith, long, ap length none))
      leads_by (first_chained none page h e) k row at long = absurd (omega (arith, long, ap length none))
      leads_by (after_row front last is h e) k row at long =
          let place : k ≡ length front = omega (arith, long, ap length is, length-append front (last ∷ [])) in
          let there : slice_get so_far (length front) ≡ Some last = ap (λ (xs : List Row). slice_get xs (length front)) is ∙ slice_get-behind front []
          last in
          let same : row ≡ last = same_Some row last (sym at ∙ ap (slice_get so_far) place ∙ there) in
          ap (λ (r : Row). slice_index c (slot_word g r.slot 5)) same ∙ sym e

      -- the slot is where the chain starts
      starts_by : ComesNext g c prefix so_far holder slot → so_far ≡ [] → StartsAt g c prefix slot
      starts_by (direct_row none some h e) nil = starts_direct some e
      starts_by (first_chained none page h e) nil = starts_chained page e
      starts_by (after_row front last is h e) nil = absurd (not_nil so_far front last is nil)

      -- one more row
      module _ (new : Row) (stands : RowStands g c slot new) (is : IsRow g prefix (length so_far) new)
          (apart : AreApart (rows_from chain 0 prefix ++ so_far ++ new ∷ [])) where
        grown_own : (k : ℕ) (row : Row) → slice_get (so_far ++ new ∷ []) k ≡ Some row → IsRow g prefix k row × RowStands g c row.slot row
        grown_own k row at = ⊎_elim
            (λ (old : (k < length so_far) × (slice_get so_far k ≡ Some row)). reached.front.own k row old.1)
            (λ (last : (k ≡ length so_far) × (new ≡ row)).
            subst (λ (r : Row). IsRow g prefix k r × RowStands g c r.slot r) last.1 (
              subst (λ (j : ℕ). IsRow g prefix j new) (sym last.0) is,
              subst (λ (s : ℕ). RowStands g c s new) (sym stands.0) stands,
            ))
            (push_cases so_far new k row at)

        grown_linked : (k : ℕ) (row next : Row) → slice_get (so_far ++ new ∷ []) k ≡ Some row → slice_get (so_far ++ new ∷ []) (k + 1) ≡ Some next
            → slice_index c (slot_word g row.slot 5) ≡ next.slot
        grown_linked k row next at after = by_cases (push_cases so_far new k row at) (push_cases so_far new (k + 1) next after)
          where
            by_cases : ((k < length so_far) × (slice_get so_far k ≡ Some row)) ⊎ ((k ≡ length so_far) × (new ≡ row))
                → ((k + 1 < length so_far) × (slice_get so_far (k + 1) ≡ Some next)) ⊎ ((k + 1 ≡ length so_far) × (new ≡ next))
                → slice_index c (slot_word g row.slot 5) ≡ next.slot
            by_cases (inl a) (inl b) = reached.front.linked k row next a.1 b.1
            by_cases (inl a) (inr b) = leads_by comes k row a.1 b.0 ∙ sym stands.0 ∙ ap (λ (r : Row). r.slot) b.1
            by_cases (inr a) (inl b) = absurd (omega (arith, a.0, b.0))
            by_cases (inr a) (inr b) = absurd (omega (arith, a.0, b.0))

        grown_first : (row : Row) → slice_get (so_far ++ new ∷ []) 0 ≡ Some row → StartsAt g c prefix row.slot
        grown_first row at = ⊎_elim
            (λ (old : (0 < length so_far) × (slice_get so_far 0 ≡ Some row)). reached.first row old.1)
            (λ (here : (0 ≡ length so_far) × (new ≡ row)).
            subst (StartsAt g c prefix) (sym stands.0 ∙ ap (λ (r : Row). r.slot) here.1) (starts_by comes (nil_from_length so_far (sym here.0))))
            (push_cases so_far new 0 row at)

        grown : IsReached g c chain prefix (so_far ++ new ∷ [])
        grown = record {
          front = record {
            direct = direct;
            before = reached.front.before;
            read_before = reached.front.read_before;
            own = grown_own;
            apart = subst AreApart (append_assoc (rows_from chain 0 prefix) so_far (new ∷ [])) apart;
            linked = grown_linked;
          };
          first = grown_first;
        }

      -- the rows that may stand in one slot are one
      same_row : (h : HoldsRow g c slot prefix (length so_far)) (row : Row) → RowStands g c slot row → IsRow g prefix (length so_far) row
          → row ≡ h.row
      same_row h row stands is =
          row_one g prefix prefix (length so_far) (length so_far) row h.row is h.is_row (stands.0 ∙ sym h.stands.0)
          (λ i lt. sym (stands.1 i lt) ∙ h.stands.1 i lt)

      module _ (place : IsDirectNext g c prefix so_far ⊎ IsIndirect g slot) where
        by_apart : (h : HoldsRow g c slot prefix (length so_far)) → Decided (AreApart (rows_from chain 0 prefix ++ so_far ++ h.row ∷ [])) → Step
        by_apart h (inl apart) = goes_on h.row (grown h.row h.stands h.is_row apart)
        by_apart h (inr not) = is_faulty slot (no_row chain prefix so_far holder reached comes place (λ row stands is apart.
            not (subst (λ (r : Row). AreApart (rows_from chain 0 prefix ++ so_far ++ r ∷ [])) (same_row h row stands is) apart)))

        -- a row may stand in the next slot, or there is the fault
        try_row : Step
        try_row = elim (rows_decided g c slot prefix (length so_far)) [
          | inl h ↦ by_apart h (decide_apart (rows_from chain 0 prefix ++ so_far) h.row reached.front.apart)
          | inr none ↦ is_faulty slot (no_row chain prefix so_far holder reached comes place
              (λ row stands is apart. none (record { row = row; stands = stands; is_row = is })))
        ]

      module _ (other : IsDirectNext g c prefix so_far → ⊥) where
        none_by : slot ≡ 0 → ComesNext g c prefix so_far holder slot → so_far ≡ [] → (slice_index c (slot_word g prefix 0) ≡ 0) ×
            (slice_index c (slot_word g prefix 5) ≡ 0)
        none_by zero_next (direct_row none some h e) nil = absurd (other (none, some))
        none_by zero_next (first_chained none page h e) nil = (page, sym e ∙ zero_next)
        none_by zero_next (after_row front last is h e) nil = absurd (not_nil so_far front last is nil)

        ends_here : slot ≡ 0 → IsFull g c prefix direct so_far
        ends_here zero_next = record { none = none_by zero_next comes; last = λ k row at long. leads_by comes k row at (sym long) ∙ zero_next }

        by_indirect : slot ≢ 0 → Decided (IsIndirect g slot) → Step
        by_indirect some (inl far) = try_row (inr far)
        by_indirect some (inr not) = is_faulty holder (no_next chain prefix so_far slot reached comes other some not)

        -- the next word is followed: to an indirect slot, or nowhere
        follow : Step
        follow = elim (cases_eq slot 0) [
          | inl e ↦ ends (ends_here e)
          | inr some ↦ by_indirect some (decide_both (directs g ≤ slot) (slot < slots g) (decide_le (directs g) slot) (decide_lt slot (slots g)))
        ]

    step_at_start : so_far ≡ [] → Step
    step_at_start nil = elim (cases_eq (slice_index c (slot_word g prefix 0)) 0) [
      | inl none ↦ follow prefix (slice_index c (slot_word g prefix 5)) (first_chained nil none refl refl) (λ d. d.1 none)
      | inr some ↦ try_row prefix prefix (direct_row nil some refl refl) (inl (nil, some))
    ]

    step_after : (front : List Row) (last : Row) → so_far ≡ front ++ last ∷ [] → Step
    step_after front last is = follow last.slot (slice_index c (slot_word g last.slot 5)) (after_row front last is refl refl)
        (λ d. not_nil so_far front last is d.0)

    step : Step
    step = elim (last_or_none so_far) [
      | inl nil ↦ step_at_start nil
      | inr more ↦ step_after more.0 more.1 more.2
    ]

    -- the slots of the rows so far are slots of the table, and different
    not_many : length so_far ≤ slots g
    not_many = few_rows so_far (slots g) (λ k row at. by_place k row (reached.front.own k row at).0.place)
        (slots_apart (rows_from chain 0 prefix) so_far reached.front.apart)
      where
        by_place : (k : ℕ) (row : Row) → (row.slot ≡ prefix × (k ≡ 0)) ⊎ ((directs g ≤ row.slot) × (row.slot < slots g)) → row.slot < slots g
        by_place k row (inl own) = omega (arith, own.0, direct)
        by_place k row (inr far) = far.1

  -- a chain that is walked to its end
  pub record Whole : Type 0 where
    pub rows : List Row
    pub reached : IsReached g c chain prefix rows
    pub full : IsFull g c prefix direct rows

  abbrev pub FaultOrWhole : Type 0
  FaultOrWhole = ((slot : ℕ) × TableFault g c slot) ⊎ Whole

  by_step : (so_far : List Row) (reached : IsReached g c chain prefix so_far) → Step so_far reached
      → ((row : Row) → IsReached g c chain prefix (so_far ++ row ∷ []) → FaultOrWhole) → FaultOrWhole
  by_step so_far reached (ends full) more = inr (record { rows = so_far; reached = reached; full = full })
  by_step so_far reached (is_faulty slot fault) more = inl (slot, fault)
  by_step so_far reached (goes_on row grown) more = more row grown

  -- rows follow as long as the table has slots
  run : (fuel : ℕ) (so_far : List Row) → IsReached g c chain prefix so_far → slots g < length so_far + fuel → FaultOrWhole
  run zero so_far reached much = absurd (omega (arith, much, not_many so_far reached))
  run (suc fuel) so_far reached much =
      by_step so_far reached (step so_far reached) (λ row grown. run fuel (so_far ++ row ∷ []) grown
      (omega (arith, much, length-append so_far (row ∷ []))))

  pub walked : IsReached g c chain prefix [] → FaultOrWhole
  walked reached = run (slots g + 1) [] reached (omega arith)

  pub whole_walk : (w : Whole) → Walk g c prefix direct w.rows
  whole_walk w = record {
    are = λ k row at. (w.reached.front.own k row at).0;
    stand = λ k row at. (w.reached.front.own k row at).1;
    first = w.reached.first;
    linked = w.reached.front.linked;
  }
