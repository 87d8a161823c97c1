-- A list of runs gets one more run at its end.
use Rattle.std.proofs.Common.{◌≡◌, ◌≢◌, inl, inr, ℕ, ◌+◌, ◌-◌, ◌<◌, ◌≤◌, List, [], ◌∷◌, ◌++◌, length, sym, ◌∙◌, ap, arith, length-append}
use Rattle.std.specs.Prelude.{slice_index}
use Rattle.std.proofs.lemmas.Bool.{cases_lt}
use Rattle.law_write.specs.Runs.{Run, places_in, block_at, IsChained}
use Rattle.law_write.proofs.RunItems.{block_at-here, block_at-later}
use Rattle.file_content.specs.Slots.{IsRunAt, AreMaximal, IsCutInto}
use Rattle.file_content.specs.SlotLoop.{GoesOnTo, IsCutTo}

pub places-push : (runs : List Run) (r : Run) → places_in (runs ++ r ∷ []) ≡ places_in runs + r.count
places-push [] r = omega arith
places-push (run ∷ runs) r = omega (arith, places-push runs r)

pub chained-push : (first : ℕ) (runs : List Run) (r : Run) → IsChained first runs → r.first ≡ first + places_in runs → 1 ≤ r.count → r.count ≤ 17
    → IsChained first (runs ++ r ∷ [])
chained-push first [] r chained at some few = (omega arith, some, few, tt)
chained-push first (run ∷ runs) r chained at some few = (
  chained.0,
  chained.1,
  chained.2,
  chained-push (first + run.count) runs r chained.3
      (omega arith) some few,
)

pub block-push_here : (runs : List Run) (r : Run) (i : ℕ) → i < places_in runs → block_at (runs ++ r ∷ []) i ≡ block_at runs i
block-push_here [] r i lt = absurd (omega arith)
block-push_here (run ∷ runs) r i lt = elim (cases_lt i run.count) [
  | inl low ↦ block_at-here run (runs ++ r ∷ []) i low ∙ sym (block_at-here run runs i low)
  | inr high ↦
      let whole : i ≡ run.count + (i - run.count) = omega arith in
      ap (block_at (run ∷ runs ++ r ∷ [])) whole ∙ block_at-later run (runs ++ r ∷ []) (i - run.count)
      ∙ block-push_here runs r (i - run.count) (omega arith)
      ∙ sym (ap (block_at (run ∷ runs)) whole ∙ block_at-later run runs (i - run.count))
]

pub block-push_last : (runs : List Run) (r : Run) (i : ℕ) → i < r.count → block_at (runs ++ r ∷ []) (places_in runs + i) ≡ r.block + i
block-push_last [] r i lt = ap (block_at (r ∷ [])) (zero_add i) ∙ block_at-here r [] i lt
  where
    zero_add : (i : ℕ) → 0 + i ≡ i
    zero_add i = omega arith
block-push_last (run ∷ runs) r i lt =
    let whole : run.count + places_in runs + i ≡ run.count + (places_in runs + i) = omega arith in
    ap (block_at (run ∷ runs ++ r ∷ [])) whole ∙ block_at-later run (runs ++ r ∷ []) (places_in runs + i) ∙ block-push_last runs r i lt

-- the page behind the last run
pub maximal-push : (first : ℕ) (runs : List Run) (r : Run) → IsChained first runs → AreMaximal runs
    → (1 ≤ places_in runs → r.block ≢ block_at runs (places_in runs - 1) + 1) → AreMaximal (runs ++ r ∷ [])
maximal-push first [] r chained maximal ends = (tt, tt)
maximal-push first (run ∷ []) r chained maximal ends = (λ e. ends (omega (arith, chained.1)) (e ∙ sym last), (tt, tt))
  where
    last : block_at (run ∷ []) (run.count + 0 - 1) + 1 ≡ run.block + run.count
    last = omega (arith, chained.1, block_at-here run [] (run.count + 0 - 1) (omega (arith, chained.1)))
maximal-push first (run ∷ next ∷ runs) r chained maximal ends = (
  maximal.0,
  maximal-push (first + run.count) (next ∷ runs) r chained.3 maximal.1
      (λ some e. ends (omega arith) (e ∙ sym (ap (λ (b : ℕ). b + 1) last))),
)
  where
    last : block_at (run ∷ next ∷ runs) (run.count + places_in (next ∷ runs) - 1) ≡ block_at (next ∷ runs) (places_in (next ∷ runs) - 1)
    last =
        let whole : run.count + places_in (next ∷ runs) - 1 ≡ run.count + (places_in (next ∷ runs) - 1) = omega (arith, chained.3.1) in
        ap (block_at (run ∷ next ∷ runs)) whole ∙ block_at-later run (next ∷ runs) (places_in (next ∷ runs) - 1)

module _ (pages : List ℕ) (from : ℕ) where
  -- one more page has the next number
  pub goes_on-next : (at : ℕ) → GoesOnTo pages from at → from < at → at < length pages → slice_index pages at ≡ slice_index pages (at - 1) + 1
      → GoesOnTo pages from (at + 1)
  goes_on-next at so_far past lt next = record {
    within = omega (arith, lt);
    consecutive = λ i below. elim (cases_lt (from + i) at) [ inl low ↦ so_far.consecutive i low | inr high ↦ here i (omega arith) ];
  }
    where
      here : (i : ℕ) → from + i ≡ at → slice_index pages (from + i) ≡ slice_index pages from + i
      here i e =
          let before : from + (i - 1) ≡ at - 1 = omega arith in
          let last : slice_index pages (at - 1) ≡ slice_index pages from + (i - 1) = ap (slice_index pages) (sym before) ∙ so_far.consecutive (i - 1)
          (omega arith) in
          ap (slice_index pages) e ∙ next ∙ omega (arith, last, past, e)

module _ (first : ℕ) (pages : List ℕ) (runs : List Run) (n count : ℕ) (to : IsCutTo first pages n runs) (is : IsRunAt pages n count)
    (few : length pages ≤ 17) where
  abbrev next : Run
  next = record { first = first + n; count = count; block = slice_index pages n }

  page_of_next : (i : ℕ) → n ≤ i → i < n + count → block_at (runs ++ next ∷ []) i ≡ slice_index pages i
  page_of_next i low high =
      let place : places_in runs + (i - n) ≡ i = omega (arith, to.places) in
      let same : n + (i - n) ≡ i = omega arith in
      ap (block_at (runs ++ next ∷ [])) (sym place) ∙ block-push_last runs next (i - n) (omega arith)
      ∙ sym (is.consecutive (i - n) (omega arith)) ∙ ap (slice_index pages) same

  last_page : 1 ≤ places_in runs → block_at runs (places_in runs - 1) ≡ slice_index pages (n - 1)
  last_page some = ap (λ (k : ℕ). block_at runs (k - 1)) to.places ∙ to.blocks (n - 1) (omega (arith, some, to.places))

  -- one run more is cut
  pub cut-next : n < length pages → IsCutTo first pages (n + count) (runs ++ next ∷ [])
  cut-next lt = record {
    within = is.within;
    chained = chained-push first runs next to.chained (omega (arith, to.places)) is.some (omega (arith, is.within, few));
    places = omega (arith, places-push runs next, to.places);
    blocks = λ i lt. elim (cases_lt i n) [
      | inl low ↦ block-push_here runs next i (omega (arith, to.places, low)) ∙ to.blocks i low
      | inr high ↦ page_of_next i high lt
    ];
    maximal = maximal-push first runs next to.chained to.maximal (λ some e. to.apart (omega (arith, some, to.places)) lt
        (e ∙ ap (λ (p : ℕ). p + 1) (last_page some)));
    some = λ _. omega (arith, length-append runs (next ∷ []));
    few = omega (arith, length-append runs (next ∷ []), to.few, is.some);
    apart = λ _ more. is.ends more;
  }

-- all the pages are cut
pub cut-all : (first : ℕ) (pages : List ℕ) (runs : List Run) (n : ℕ) → IsCutTo first pages n runs → length pages ≤ n → 1 ≤ length pages
    → IsCutInto first pages runs
cut-all first pages runs n to all some =
    let whole : n ≡ length pages = omega (arith, to.within, all) in
    record {
      chained = to.chained;
      places = to.places ∙ whole;
      blocks = λ i lt. to.blocks i (omega (arith, lt, whole));
      maximal = to.maximal;
      some = to.some (omega (arith, some, whole));
      few = omega (arith, to.few, whole);
    }
