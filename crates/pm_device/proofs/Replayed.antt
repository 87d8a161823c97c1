-- What a record leaves of one word, found with no look at the flushes of each actor.
use Rattle.std.proofs.Common.{
  ◌≡◌,
  ◌≢◌,
  ◌⊎◌,
  inl,
  inr,
  ⊎_elim,
  ℕ,
  zero,
  suc,
  ◌+◌,
  ◌-◌,
  ◌*◌,
  ◌<◌,
  ◌≤◌,
  max,
  Bool,
  true,
  false,
  List,
  [],
  ◌∷◌,
  ◌++◌,
  length,
  take,
  drop,
  refl,
  sym,
  ◌∙◌,
  ap,
  subst,
  arith,
  length-append,
  length-drop,
  length-take-le,
  get_or-take,
  get_or-drop,
}
use Rattle.std.specs.Prelude.{slice_index, if◌then◌else◌, ◌==◌, ◌&&◌, nat_lt}
use Rattle.std.specs.List.{list_all}
use Rattle.std.proofs.lemmas.Bool.{cases_eq}
use Rattle.std.proofs.lemmas.List.{get_or_append_left, get_or_at}
use Rattle.std.proofs.lemmas.Bool.Decides.{nat_tests}
use Rattle.pm_device.specs.Past.{Call, Stored, Flushed, Fenced, Word, covers, step, steps}
use Rattle.pm_device.specs.MemLaws.{IsPlaced, placed-step}
use Rattle.pm_device.specs.MemLog.{calls_of, is_whole}
use Rattle.pm_device.specs.Replay.{is_fenced, last_place, durable_place, value_after}
use Rattle.pm_device.specs.declared.entry.Entry.{Entry}
use Rattle.pm_device.specs.declared.entry.Entry.TheVariants.{Ran, Flushed as FlushedEntry, Fenced as FencedEntry}
use Rattle.pm_device.proofs.Remembered.{and_both}

-- the values of a whole run
module _ (kept : List ℕ) (at from len : ℕ) (whole : is_whole (length kept) (Ran at from len) ≡ true) where
  fits : from + len ≤ length kept
  fits = grind (arith, nat_tests)

  pub run_length : length (take len (drop from kept)) ≡ len
  run_length = let f = fits in length-take-le len (drop from kept) (omega (arith, length-drop from kept))

  pub run_value : (k : ℕ) → k < len → slice_index (take len (drop from kept)) k ≡ slice_index kept (from + k)
  run_value k lt = get_or-take len (drop from kept) k 0 lt ∙ get_or-drop from kept k 0

-- a store changes neither the durable place nor a record of a flush
module _ (a : ℕ) (w : Word) (at : ℕ) (vs : List ℕ) where
  durable-store : (step a w (Stored at vs)).durable ≡ w.durable
  durable-store = by_cover (covers at (length vs) a)
    where
      by_cover : (b : Bool) → (if b then record { values = w.values ++ slice_index vs (a - at) ∷ []; durable = w.durable; marks = w.marks } else
          w).durable ≡ w.durable
      by_cover true = refl
      by_cover false = refl

  marks-store : (q : ℕ) → (step a w (Stored at vs)).marks q ≡ w.marks q
  marks-store q = by_cover (covers at (length vs) a)
    where
      by_cover : (b : Bool) → (if b then record { values = w.values ++ slice_index vs (a - at) ∷ []; durable = w.durable; marks = w.marks } else
          w).marks q ≡ w.marks q
      by_cover true = refl
      by_cover false = refl

  -- and adds a value to the words that it covers
  length-store : 0 < length w.values → length (step a w (Stored at vs)).values - 1 ≡ (if covers at (length vs) a then length w.values - 1 + 1 else
      length w.values - 1)
  length-store some = by_cover (covers at (length vs) a)
    where
      by_cover : (b : Bool) → length (if b then record { values = w.values ++ slice_index vs (a - at) ∷ []; durable = w.durable; marks = w.marks }
          else w).values - 1 ≡ (if b then length w.values - 1 + 1 else length w.values - 1)
      by_cover true = omega (arith, some, length-append w.values (slice_index vs (a - at) ∷ []))
      by_cover false = refl

-- d is the place from which on these entries leave the word's values that it has now
pub record Reaches (w : Word) (es : List Entry) (d : ℕ) : Type 0 where
  pub durable : w.durable ≤ d
  pub marks : (q : ℕ) → is_fenced q es ≡ true → w.marks q ≤ d
  pub is : (d ≡ w.durable) ⊎ ((q : ℕ) × (is_fenced q es ≡ true) × (d ≡ w.marks q))

reaches-store : (a at : ℕ) (vs : List ℕ) (w : Word) (es : List Entry) (d from len : ℕ) → Reaches w (Ran at from len ∷ es) d
    → Reaches (step a w (Stored at vs)) es d
reaches-store a at vs w es d from len is = record {
  durable = omega (arith, is.durable, durable-store a w at vs);
  marks = λ q fenced. omega (arith, is.marks q fenced, marks-store a w at vs q);
  is = ⊎_elim
      (λ (same : d ≡ w.durable). inl (same ∙ sym (durable-store a w at vs)))
      (λ (mark : (q : ℕ) × (is_fenced q es ≡ true) × (d ≡ w.marks q)). inr (mark.0, mark.1, mark.2 ∙ sym (marks-store a w at vs mark.0)))
      is.is;
}

other_test : {A : Type 0} (m n : A) (q who : ℕ) → q ≢ who → (if q == who then m else n) ≡ n
other_test m n q who ne = grind (arith, nat_tests)

own_test : {A : Type 0} (m n : A) (who : ℕ) → (if who == who then m else n) ≡ m
own_test m n who = grind (arith, nat_tests)

values-flush : (a who first lines : ℕ) (w : Word) (b : Bool)
    → (if b then record { values = w.values; durable = w.durable; marks = λ q. if q == who then length w.values - 1 else w.marks q } else w).values ≡
    w.values
values-flush a who first lines w true = refl
values-flush a who first lines w false = refl

-- a flush that is fenced later reaches its own place, and any other changes nothing
module _ (a who first lines : ℕ) (w : Word) (es : List Entry) (d : ℕ) (placed : IsPlaced w) (is : Reaches w (FlushedEntry who first lines ∷ es) d)
  where
    reaches-flush : (fenced covered : Bool) → is_fenced who es ≡ fenced
        → Reaches (if covered then record { values = w.values; durable = w.durable; marks = λ q. if q == who then length w.values - 1 else w.marks q }
        else w) es (if fenced && covered then length w.values - 1 else d)
    reaches-flush true false same = record { durable = is.durable; marks = is.marks; is = is.is }
    reaches-flush false false same = record { durable = is.durable; marks = is.marks; is = is.is }
    reaches-flush true true same = record {
      durable = omega (arith, placed.durable);
      marks = λ q fenced. elim (q == who) as (λ b. (if b then length w.values - 1 else w.marks q) ≤ length w.values - 1)
          [ true ↦ omega arith | false ↦ omega (arith, placed.marks q) ];
      is = inr (who, same, sym (own_test (length w.values - 1) (w.marks who) who));
    }
    reaches-flush false true same = record {
      durable = is.durable;
      marks = λ q fenced. let other = apart q fenced in omega (arith, is.marks q fenced, kept q other);
      is = ⊎_elim
          (λ (same : d ≡ w.durable). inl same)
          (λ (mark : (q : ℕ) × (is_fenced q es ≡ true) × (d ≡ w.marks q)). inr (mark.0, mark.1, mark.2 ∙ sym (kept mark.0 (apart mark.0 mark.1))))
          is.is;
    }
      where
        apart : (q : ℕ) → is_fenced q es ≡ true → q ≢ who
        apart q fenced e = let clash : true ≡ false = sym fenced ∙ ap (λ n. is_fenced n es) e ∙ same in cc

        kept : (q : ℕ) → q ≢ who → (if q == who then length w.values - 1 else w.marks q) ≡ w.marks q
        kept q ne = other_test (length w.values - 1) (w.marks q) q who ne

-- a fence makes durable what its actor had flushed
module _ (a who : ℕ) (ok : Bool) (w : Word) (es : List Entry) (d : ℕ) (is : Reaches w (FencedEntry who ok ∷ es) d) where
  own_mark : ok ≡ true → w.marks who ≤ d
  own_mark went = is.marks who (own_test ok (is_fenced who es) who ∙ went)

  -- the new durable place, which is d where the old one was, or where this actor's mark was
  durable_low : (b : Bool) → ok ≡ b → (if b then max w.durable (w.marks who) else w.durable) ≤ d
  durable_low true went = omega (arith, is.durable, own_mark went)
  durable_low false went = is.durable

  durable_same : (b : Bool) → ok ≡ b → d ≡ w.durable → d ≡ (if b then max w.durable (w.marks who) else w.durable)
  durable_same true went same = omega (arith, same, own_mark went)
  durable_same false went same = same

  durable_own : ok ≡ true → d ≡ w.marks who → d ≡ (if ok then max w.durable (w.marks who) else w.durable)
  durable_own went same = rw went (omega (arith, same, is.durable))

  reaches-fence : Reaches (step a w (Fenced who ok)) es d
  reaches-fence = record {
    durable = durable_low ok refl;
    marks = λ q fenced. elim (cases_eq q who) [
      | inl e ↦ omega (arith, ap (λ p. if p == who then 0 else w.marks q) e, own_test 0 (w.marks q) who)
      | inr ne ↦ omega (arith, other_test 0 (w.marks q) q who ne, is.marks q (other_test ok (is_fenced q es) who q (λ e. ne (sym e)) ∙ fenced))
    ];
    is = ⊎_elim
        (λ (same : d ≡ w.durable). inl (durable_same ok refl same))
        (λ (mark : (q : ℕ) × (is_fenced q (FencedEntry who ok ∷ es) ≡ true) × (d ≡ w.marks q)). elim (cases_eq mark.0 who) [
          | inl e ↦ inl (durable_own (sym (own_test ok (is_fenced who es) who) ∙ ap (λ q. if who == q then ok else is_fenced q es) (sym e) ∙ mark.1)
              (mark.2 ∙ ap w.marks e))
          | inr ne ↦ inr (
            mark.0,
            sym (other_test ok (is_fenced mark.0 es) who mark.0 (λ e. ne (sym e))) ∙ mark.1,
            mark.2 ∙ sym (other_test 0 (w.marks mark.0) mark.0 who ne),
          )
        ])
        is.is;
  }

-- the entries of a record, one after another
module _ (kept : List ℕ) (a : ℕ) where
  pub reaches : (w : Word) (es : List Entry) (d : ℕ) → list_all (is_whole (length kept)) es ≡ true → IsPlaced w → Reaches w es d
      → ((steps a w (calls_of kept es)).durable ≡ durable_place a (length w.values - 1) d es) × (length (steps a w (calls_of kept es)).values
      - 1 ≡ last_place a (length w.values - 1) es)
  reaches w [] d whole placed is = (
    ⊎_elim (λ (same : d ≡ w.durable). sym same) (λ (mark : (q : ℕ) × (false ≡ true) × (d ≡ w.marks q)). cc) is.is,
    refl,
  )
  reaches w (Ran at from len ∷ es) d whole placed is =
      let both = and_both (is_whole (length kept) (Ran at from len)) (list_all (is_whole (length kept)) es) whole in
      let vs = take len (drop from kept) in
      let long = run_length kept at from len both.0 in
      let n : length (step a w (Stored at vs)).values - 1 ≡ (if covers at len a then length w.values - 1 + 1 else length w.values - 1) =
      length-store a w at vs (omega (arith, placed.durable)) ∙ ap (λ m. if covers at m a then length w.values - 1 + 1 else length w.values - 1) long
      in
      let rest = reaches (step a w (Stored at vs)) es d both.1 (placed-step a w (Stored at vs) placed) (reaches-store a at vs w es d from len is) in
      (rest.0 ∙ ap (λ m. durable_place a m d es) n, rest.1 ∙ ap (λ m. last_place a m es) n)
  reaches w (FlushedEntry who first lines ∷ es) d whole placed is =
      let fenced = is_fenced who es in
      let covered = covers (8 * first) (8 * lines) a in
      let n : length (step a w (Flushed who first lines)).values - 1 ≡ length w.values - 1 = ap (λ vs. length {A = ℕ} vs - 1)
      (values-flush a who first lines w covered) in
      let rest = reaches (step a w (Flushed who first lines)) es (if fenced && covered then length w.values - 1 else d) whole
      (placed-step a w (Flushed who first lines) placed)
      (reaches-flush a who first lines w es d placed is fenced covered refl) in
      (rest.0 ∙ ap (λ m. durable_place a m (if fenced && covered then length w.values - 1 else d) es) n, rest.1 ∙ ap (λ m. last_place a m es) n)
  reaches w (FencedEntry who ok ∷ es) d whole placed is = reaches (step a w (Fenced who ok)) es d whole (placed-step a w (Fenced who ok) placed)
      (reaches-fence a who ok w es d is)

below : (at len a : ℕ) → covers at len a ≡ true → a - at < len
below at len a in_run = grind (arith, nat_tests)

-- no call changes a value that a word has had
kept_value-step : (a : ℕ) (w : Word) (c : Call) (i : ℕ) → i < length w.values
    → (i < length (step a w c).values) × (slice_index (step a w c).values i ≡ slice_index w.values i)
kept_value-step a w (Stored at vs) i lt = by_cover (covers at (length vs) a)
  where
    by_cover : (b : Bool) → (i < length (if b then record { values = w.values ++ slice_index vs (a - at) ∷ []; durable = w.durable; marks = w.marks }
        else w).values)
        × (slice_index (if b then record { values = w.values ++ slice_index vs (a - at) ∷ []; durable = w.durable; marks = w.marks } else w).values
        i ≡ slice_index w.values i)
    by_cover true = (
      omega (arith, lt, length-append w.values (slice_index vs (a - at) ∷ [])),
      get_or_append_left w.values
          (slice_index vs (a - at) ∷ []) 0 i lt,
    )
    by_cover false = (lt, refl)
kept_value-step a w (Flushed who first lines) i lt =
    let same = values-flush a who first lines w (covers (8 * first) (8 * lines) a) in (
      omega (arith, lt, ap (λ vs. length {A = ℕ} vs) same),
      ap (λ vs. slice_index vs i) same,
    )
kept_value-step a w (Fenced who ok) i lt = (lt, refl)

kept_value : (a : ℕ) (w : Word) (cs : List Call) (i : ℕ) → i < length w.values → slice_index (steps a w cs).values i ≡ slice_index w.values i
kept_value a w [] i lt = refl
kept_value a w (c ∷ cs) i lt = let once = kept_value-step a w c i lt in kept_value a (step a w c) cs i once.0 ∙ once.1

module _ (kept : List ℕ) (a : ℕ) where
  value_after-none : (v : ℕ) (es : List Entry) → value_after kept a v 0 es ≡ v
  value_after-none v [] = refl
  value_after-none v (Ran at from len ∷ es) =
      elim (covers at len a) as (λ b. value_after kept a (if b && nat_lt 0 0 then slice_index kept (from + (a - at)) else v)
      (if b && nat_lt 0 0 then 0 - 1 else 0) es ≡ v)
      [ true ↦ value_after-none v es | false ↦ value_after-none v es ]
  value_after-none v (FlushedEntry who first lines ∷ es) = value_after-none v es
  value_after-none v (FencedEntry who ok ∷ es) = value_after-none v es

  -- a whole run that doesn't cover the word, and one that does
  module _ (w : Word) (at from len : ℕ) (whole : is_whole (length kept) (Ran at from len) ≡ true) where
    run : List ℕ
    run = take len (drop from kept)

    with_value : ℕ → Word
    with_value x = record { values = w.values ++ x ∷ []; durable = w.durable; marks = w.marks }

    stepped : (b : Bool) → covers at len a ≡ b → step a w (Stored at (take len (drop from kept))) ≡
        (if b then with_value (slice_index (take len (drop from kept)) (a - at)) else w)
    unfolding with_value
    stepped b same =
        ap (λ m. if covers at m a then with_value (slice_index (take len (drop from kept)) (a - at)) else w) (run_length kept at from len whole)
        ∙ ap (λ t. if t then with_value (slice_index (take len (drop from kept)) (a - at)) else w) same

  -- after so many stores more a word has the value at that place
  abbrev Valued : List Entry → Word → ℕ → ℕ → Type 0
  Valued es w v n = 0 < length w.values → v ≡ slice_index w.values (length w.values - 1) → length w.values - 1 + n < length
      (steps a w (calls_of kept es)).values
      → value_after kept a v n es ≡ slice_index (steps a w (calls_of kept es)).values (length w.values - 1 + n)

  valued-none : (es : List Entry) (w : Word) (v : ℕ) → Valued es w v 0
  valued-none es w v some last lt =
      let same : length w.values - 1 ≡ length w.values - 1 + 0 = omega arith in
      value_after-none v es ∙ last ∙ sym (kept_value a w (calls_of kept es) (length w.values - 1) (omega (arith, some))) ∙ ap
      (slice_index (steps a w (calls_of kept es)).values) same

  module _ (at from len : ℕ) (es : List Entry) (whole : is_whole (length kept) (Ran at from len) ≡ true) (rest : (w : Word) (v n : ℕ)
      → Valued es w v n) where
    valued_by : (w : Word) (v n : ℕ) (b : Bool) → covers at len a ≡ b → Valued (Ran at from len ∷ es) w v (suc n)
    unfolding with_value
    valued_by w v n false out some last lt =
        let same = stepped w at from len whole false out in
        let far : length w.values - 1 + suc n < length (steps a w (calls_of kept es)).values = subst
        (λ (u : Word). length w.values - 1 + suc n < length (steps a u (calls_of kept es)).values) same lt in
        ap (λ b. value_after kept a (if b && nat_lt 0 (suc n) then slice_index kept (from + (a - at)) else v)
        (if b && nat_lt 0 (suc n) then suc n - 1 else suc n) es) out
        ∙ rest w v (suc n) some last far ∙ ap (λ (u : Word). slice_index (steps a u (calls_of kept es)).values (length w.values - 1 + suc n))
        (sym same)
    valued_by w v n true in_run some last lt =
        let x = slice_index (take len (drop from kept)) (a - at) in
        let same = stepped w at from len whole true in_run in
        let long : length (w.values ++ x ∷ []) ≡ length w.values + 1 = length-append w.values (x ∷ []) in
        let place : length (w.values ++ x ∷ []) - 1 + n ≡ length w.values - 1 + suc n = omega (arith, long, some) in
        let far : length (w.values ++ x ∷ []) - 1 + n < length (steps a (with_value w at from len whole x) (calls_of kept es)).values =
        subst (λ (u : Word). length (w.values ++ x ∷ []) - 1 + n < length (steps a u (calls_of kept es)).values) same (omega (arith, lt, place)) in
        let value : slice_index kept (from + (a - at)) ≡ x = sym (run_value kept at from len whole (a - at) (below at len a in_run)) in
        let newest : x ≡ slice_index (w.values ++ x ∷ []) (length (w.values ++ x ∷ []) - 1) = sym
        (get_or_at w.values x [] 0 (length (w.values ++ x ∷ []) - 1) (omega (arith, long))) in
        let more : nat_lt 0 (suc n) ≡ true = grind (arith, nat_tests) in
        let fewer : suc n - 1 ≡ n = omega arith in
        ap (λ b. value_after kept a (if b && nat_lt 0 (suc n) then slice_index kept (from + (a - at)) else v)
        (if b && nat_lt 0 (suc n) then suc n - 1 else suc n) es) in_run
        ∙ ap (λ b. value_after kept a (if b then slice_index kept (from + (a - at)) else v) (if b then suc n - 1 else suc n) es) more
        ∙ ap (λ y. value_after kept a y (suc n - 1) es) value
        ∙ ap (λ m. value_after kept a x m es) fewer
        ∙ rest (with_value w at from len whole x) x n (omega (arith, long)) newest far
        ∙ ap (slice_index (steps a (with_value w at from len whole x) (calls_of kept es)).values) place
        ∙ ap (λ (u : Word). slice_index (steps a u (calls_of kept es)).values (length w.values - 1 + suc n)) (sym same)

  pub valued : (es : List Entry) → list_all (is_whole (length kept)) es ≡ true → (w : Word) (v n : ℕ) → Valued es w v n
  valued es whole w v zero = valued-none es w v
  valued [] whole w v (suc n) = λ some last lt. absurd (omega (arith, lt))
  valued (Ran at from len ∷ es) whole w v (suc n) =
      let both = and_both (is_whole (length kept) (Ran at from len)) (list_all (is_whole (length kept)) es) whole in
      valued_by at from len es both.0 (valued es both.1) w v n (covers at len a) refl
  valued (FlushedEntry who first lines ∷ es) whole w v (suc n) = λ some last lt.
      let same = values-flush a who first lines w (covers (8 * first) (8 * lines) a) in
      let u = step a w (Flushed who first lines) in
      let long : length u.values ≡ length w.values = ap (λ vs. length {A = ℕ} vs) same in
      valued es whole u v (suc n) (omega (arith, long, some)) (last ∙ ap (λ vs. slice_index vs (length {A = ℕ} vs - 1)) (sym same))
      (omega (arith, long, lt))
      ∙ ap (λ m. slice_index (steps a u (calls_of kept es)).values (m - 1 + suc n)) long
  valued (FencedEntry who ok ∷ es) whole w v (suc n) = valued es whole (step a w (Fenced who ok)) v (suc n)
