-- Counts of what was told of each client.
use Rattle.std.proofs.Common.{
  ◌≡◌,
  ◌≢◌,
  ℕ,
  zero,
  suc,
  ◌+◌,
  ◌<◌,
  ◌≤◌,
  Bool,
  true,
  false,
  List,
  [],
  ◌∷◌,
  ◌++◌,
  length,
  get_or,
  set,
  drop,
  replicate,
  refl,
  sym,
  ◌∙◌,
  ap,
  subst,
  inl,
  inr,
  arith,
  append_assoc,
  length-set,
  get_or-set_same,
  get_or-set_other,
}
use Rattle.std.specs.Prelude.{◌⊎◌, ◌==◌, if◌then◌else◌, slice_index}
use Rattle.std.proofs.lemmas.Bool.{cases_eq, eq-eqb, ne_eqb, eqb-true}
use Rattle.std.proofs.lemmas.List.{drop_more, drop_all, append-nil, length-replicate}
use Rattle.dn_model.specs.declared.op.Entry.{Entry}
use Rattle.dn_report.specs.Report.{Answered, history_line, history_text, last_line}
use Rattle.job_texts.specs.Told.{lines_of, one_more_of, told_from, told_of, run_text}
use Rattle.job_texts.specs.Telling.{told_by, IsFirst, IsNobody, CountsAlike, Tells}

abbrev Clients : Type 0
Clients = List (ℕ × List ℕ)

abbrev no_client : ℕ × List ℕ
no_client = (0, [])

abbrev is_named : ℕ → ℕ × List ℕ → Bool
is_named who c = c.0 == who

-- where nobody has the number, there are no lines
pub lines_none : (who : ℕ) (cs : Clients) → IsNobody cs who → lines_of cs who ≡ []
lines_none who [] none = refl
lines_none who (c ∷ cs) none =
    ap (λ (b : Bool). if b then c.1 else lines_of cs who) (none zero (omega arith))
    ∙ lines_none who cs (λ k below. none (suc k) (omega (arith, below)))

-- those of the first one who has it
module _ (who : ℕ) where
  pub lines_at : (cs : Clients) (at : ℕ) → at < length cs → is_named who (get_or cs at no_client) ≡ true
      → ((k : ℕ) → k < at → is_named who (get_or cs k no_client) ≡ false) → lines_of cs who ≡ (get_or cs at no_client).1
  lines_at [] at lt is others = absurd (omega (arith, lt))
  lines_at (c ∷ cs) zero lt is others = ap (λ (b : Bool). if b then c.1 else lines_of cs who) is
  lines_at (c ∷ cs) (suc at) lt is others =
      ap (λ (b : Bool). if b then c.1 else lines_of cs who) (others zero (omega arith))
      ∙ lines_at cs at (omega (arith, lt)) is (λ k below. others (suc k) (omega (arith, below)))

  pub told_at : (cs : Clients) (ns : List ℕ) (at : ℕ) → length ns ≡ length cs → at < length cs → is_named who (get_or cs at no_client) ≡ true
      → ((k : ℕ) → k < at → is_named who (get_or cs k no_client) ≡ false) → told_by cs ns who ≡ get_or ns at 0
  told_at [] ns at long lt is others = absurd (omega (arith, lt))
  told_at (c ∷ cs) [] at long lt is others = absurd (omega (arith, long))
  told_at (c ∷ cs) (n ∷ ns) zero long lt is others = ap (λ (b : Bool). if b then n else told_by cs ns who) is
  told_at (c ∷ cs) (n ∷ ns) (suc at) long lt is others =
      ap (λ (b : Bool). if b then n else told_by cs ns who) (others zero (omega arith))
      ∙ told_at cs ns at (omega (arith, long)) (omega (arith, lt)) is (λ k below. others (suc k) (omega (arith, below)))

  -- its count is set, and no other's
  told_set : (cs : Clients) (ns : List ℕ) (at n q : ℕ) → length ns ≡ length cs → at < length cs → is_named who (get_or cs at no_client) ≡ true
      → ((k : ℕ) → k < at → is_named who (get_or cs k no_client) ≡ false) → told_by cs (set ns at n) q ≡ (if q == who then n else told_by cs ns q)
  told_set [] ns at n q long lt is others = absurd (omega (arith, lt))
  told_set (c ∷ cs) [] at n q long lt is others = absurd (omega (arith, long))
  told_set (c ∷ cs) (m ∷ ns) zero n q long lt is others = elim (cases_eq q who) [
    | inl e ↦ rw (eq-eqb q who e, eq-eqb c.0 q (eqb-true c.0 who is ∙ sym e)) refl
    | inr ne ↦ rw (ne_eqb q who ne, ne_eqb c.0 q (λ e. ne (sym e ∙ eqb-true c.0 who is))) refl
  ]
  told_set (c ∷ cs) (m ∷ ns) (suc at) n q long lt is others =
      by_test (told_set cs ns at n q (omega (arith, long)) (omega (arith, lt)) is (λ k below. others (suc k) (omega (arith, below)))) (c.0 == q) refl
    where
      first : (c.0 == who) ≡ false
      first = others zero (omega arith)

      apart : c.0 ≡ q → q ≢ who
      apart e same = true_false (sym (eq-eqb c.0 who (e ∙ same)) ∙ first)
        where
          true_false : true ≡ false → ⊥
          true_false e = cc

      by_test : told_by cs (set ns at n) q ≡ (if q == who then n else told_by cs ns q) → (b : Bool) → (c.0 == q) ≡ b
          → (if b then m else told_by cs (set ns at n) q) ≡ (if q == who then n else (if b then m else told_by cs ns q))
      by_test later true e = rw (ne_eqb q who (apart (eqb-true c.0 q e))) refl
      by_test later false e = later

-- one more of a client that has lines was told
module _ (cs : Clients) (who at : ℕ) (first : IsFirst cs who at) (ns : List ℕ) (long : length ns ≡ length cs) where
  pub line_is : (lines : List ℕ) → lines ≡ (get_or cs at no_client).1
      → slice_index lines (get_or ns at 0) ≡ slice_index (lines_of cs who) (told_by cs ns who)
  line_is lines is =
      ap (λ (ls : List ℕ). slice_index ls (get_or ns at 0)) (is ∙ sym (lines_at who cs at first.below first.is first.others))
      ∙ ap (slice_index (lines_of cs who)) (sym (told_at who cs ns at long first.below first.is first.others))

  pub tells_one : Tells cs who ns (set ns at (get_or ns at 0 + 1))
  tells_one = record {
    long = length-set ns at (get_or ns at 0 + 1);
    alike = λ q. inr (told_set who cs ns at (get_or ns at 0 + 1) q long first.below first.is first.others ∙ by_test q);
    few = λ k. few_at k;
  }
    where
      few_at : (k : ℕ) → get_or (set ns at (get_or ns at 0 + 1)) k 0 ≤ get_or ns k 0 + 1
      few_at k = elim (cases_eq k at) [
        | inl e ↦ rw e (rw (get_or-set_same ns at (get_or ns at 0 + 1) 0 (omega (arith, long, first.below))) (omega arith))
        | inr ne ↦ rw (get_or-set_other ns at k (get_or ns at 0 + 1) 0 ne) (omega arith)
      ]

      by_test : (q : ℕ) → (if q == who then get_or ns at 0 + 1 else told_by cs ns q) ≡ one_more_of who (told_by cs ns) q
      by_test q = elim (cases_eq q who) [
        | inl e ↦ rw (eq-eqb q who e) (ap (λ (n : ℕ). n + 1) (sym (told_at who cs ns at long first.below first.is first.others) ∙ ap (told_by cs ns) (sym e)))
        | inr ne ↦ rw (ne_eqb q who ne) refl
      ]

-- or of one that has none
pub tells_none : (cs : Clients) (who : ℕ) (ns : List ℕ) → lines_of cs who ≡ [] → Tells cs who ns ns
tells_none cs who ns none = record {
  long = refl;
  alike = λ q. elim (cases_eq q who) [
    | inl e ↦ inl (ap (lines_of cs) e ∙ none)
    | inr ne ↦ inr (ap (λ (b : Bool). if b then told_by cs ns q + 1 else told_by cs ns q) (sym (ne_eqb q who ne)))
  ];
  few = λ k. omega arith;
}

pub line_none : (cs : Clients) (who n : ℕ) → lines_of cs who ≡ [] → 0 ≡ slice_index (lines_of cs who) n
line_none cs who n none = sym (ap (λ (ls : List ℕ). slice_index ls n) none)

-- functions that count alike tell the same
line_same : (lines : List ℕ) (m n : ℕ) → (lines ≡ []) ⊎ (m ≡ n) → slice_index lines m ≡ slice_index lines n
line_same lines m n (inl none) = ap (λ (ls : List ℕ). slice_index ls m) none ∙ sym (ap (λ (ls : List ℕ). slice_index ls n) none)
line_same lines m n (inr same) = ap (slice_index lines) same

more_alike : (cs : Clients) (f g : ℕ → ℕ) (who : ℕ) → CountsAlike cs f g → CountsAlike cs (one_more_of who f) (one_more_of who g)
more_alike cs f g who alike q = by_cases (alike q)
  where
    by_cases : (lines_of cs q ≡ []) ⊎ (f q ≡ g q) → (lines_of cs q ≡ []) ⊎ (one_more_of who f q ≡ one_more_of who g q)
    by_cases (inl none) = inl none
    by_cases (inr same) = inr (ap (λ (n : ℕ). if q == who then n + 1 else n) same)

pub told_alike : (cs : Clients) (f g : ℕ → ℕ) (entries : List Entry) → CountsAlike cs f g → told_from cs f entries ≡ told_from cs g entries
told_alike cs f g [] alike = refl
told_alike cs f g (entry ∷ entries) alike =
    ap (λ (n : ℕ). record { who = entry.who; line = n; reply = entry.reply } ∷ told_from cs (one_more_of entry.who f) entries)
    (line_same (lines_of cs entry.who) (f entry.who) (g entry.who) (alike entry.who))
    ∙ ap (λ (told : List Answered).
    record { who = entry.who; line = slice_index (lines_of cs entry.who) (g entry.who); reply = entry.reply } ∷ told)
    (told_alike cs (one_more_of entry.who f) (one_more_of entry.who g) entries (more_alike cs f g entry.who alike))

-- before anything is told
told_zeros : (cs : Clients) (q : ℕ) → told_by cs (replicate (length cs) 0) q ≡ 0
told_zeros [] q = refl
told_zeros (c ∷ cs) q = by_test (told_zeros cs q) (c.0 == q)
  where
    by_test : told_by cs (replicate (length cs) 0) q ≡ 0 → (b : Bool) → (if b then 0 else told_by cs (replicate (length cs) 0) q) ≡ 0
    by_test later true = refl
    by_test later false = later

told_first : (cs : Clients) (ns : List ℕ) (entries : List Entry) → ns ≡ replicate (length cs) 0 → told_from cs (told_by cs ns) entries ≡ told_of cs entries
told_first cs ns entries is =
    ap (λ (ms : List ℕ). told_from cs (told_by cs ms) entries) is
    ∙ told_alike cs (told_by cs (replicate (length cs) 0)) (λ q. 0) entries (λ q. inr (told_zeros cs q))

pub record Starts (cs : Clients) (ns text : List ℕ) (history : List Entry) : Type 0 where
  pub so_far : text ++ history_text (told_from cs (told_by cs ns) history) ≡ history_text (told_of cs history)
  pub each : length ns ≡ length cs
  pub few : (k : ℕ) → get_or ns k 0 ≤ 0

zeros_few : (n k : ℕ) → get_or (replicate n 0) k 0 ≤ 0
zeros_few zero k = omega arith
zeros_few (suc n) zero = omega arith
zeros_few (suc n) (suc k) = zeros_few n k

pub told_start : (cs : Clients) (ns text : List ℕ) (history : List Entry) → ns ≡ replicate (length cs) 0 → text ≡ [] → Starts cs ns text history
told_start cs ns text history zeros none = record {
  so_far = ap (λ (t : List ℕ). t ++ history_text (told_from cs (told_by cs ns) history)) none ∙ ap history_text (told_first cs ns history zeros);
  each = ap length zeros ∙ length-replicate (length cs) 0;
  few = λ k. subst (λ (ms : List ℕ). get_or ms k 0 ≤ 0) (sym zeros) (zeros_few (length cs) k);
}

-- an entry is told, and then the rest
pub told_more : (cs : Clients) (old new kept text text' whole : List ℕ) (history : List Entry) (i : ℕ) (entry : Entry) (line : ℕ) → i < length history
    → entry ≡ get_or history i entry → text ++ history_text (told_from cs (told_by cs old) (drop i history)) ≡ whole
    → line ≡ slice_index (lines_of cs entry.who) (told_by cs old entry.who) → Tells cs entry.who old new
    → kept ≡ new → text' ≡ text ++ history_line entry.who line entry.reply
    → text' ++ history_text (told_from cs (told_by cs kept) (drop (i + 1) history)) ≡ whole
told_more cs old new kept text text' whole history i entry line below at so_far line_said tells same_kept more =
    let rest = told_from cs (told_by cs new) (drop (i + 1) history) in
    let shown = history_line entry.who line entry.reply in
    ap (λ (ns : List ℕ). text' ++ history_text (told_from cs (told_by cs ns) (drop (i + 1) history))) same_kept
    ∙ ap (λ (t : List ℕ). t ++ history_text rest) more
    ∙ append_assoc text shown (history_text rest)
    ∙ ap (λ (t : List ℕ). text ++ t) (same rest)
    ∙ so_far
  where
    next : List Answered
    next = told_from cs (one_more_of entry.who (told_by cs old)) (drop (i + 1) history)

    same : (rest : List Answered) → history_line entry.who line entry.reply ++ history_text (told_from cs (told_by cs new) (drop (i + 1) history))
        ≡ history_text (told_from cs (told_by cs old) (drop i history))
    same rest =
        ap (λ (told : List Answered). history_line entry.who line entry.reply ++ history_text told)
        (told_alike cs (told_by cs new) (one_more_of entry.who (told_by cs old)) (drop (i + 1) history) tells.alike)
        ∙ ap (λ (n : ℕ). history_line entry.who n entry.reply ++ history_text next) line_said
        ∙ ap (λ (es : List Entry). history_text (told_from cs (told_by cs old) es))
        (sym (drop_more history i entry below ∙ ap (λ (e : Entry). e ∷ drop (i + 1) history) (sym at)))

-- all are told
pub told_last : (cs : Clients) (ns text whole : List ℕ) (history : List Entry) (i : ℕ) → length history ≤ i
    → text ++ history_text (told_from cs (told_by cs ns) (drop i history)) ≡ whole → text ≡ whole
told_last cs ns text whole history i all so_far =
    sym (append-nil text) ∙ ap (λ (es : List Entry). text ++ history_text (told_from cs (told_by cs ns) es)) (sym (drop_all i history all)) ∙ so_far

pub told_long : (cs : Clients) (f : ℕ → ℕ) (entries : List Entry) → length (told_from cs f entries) ≡ length entries
told_long cs f [] = refl
told_long cs f (entry ∷ entries) = ap suc (told_long cs (one_more_of entry.who f) entries)

-- the whole text of a run
pub run_told : (cs : Clients) (history : List Entry) (free : ℕ) (text text' : List ℕ) → text ≡ history_text (told_of cs history)
    → text' ≡ text ++ last_line (length history) free → text' ≡ run_text cs history free
run_told cs history free text text' told last =
    last
    ∙ ap (λ (t : List ℕ). t ++ last_line (length history) free) told
    ∙ ap (λ (n : ℕ). history_text (told_of cs history) ++ last_line n free) (sym (told_long cs (λ who. 0) history))
