-- A run of words that is copied into place, and flushes that are forgotten.
use Rattle.std.proofs.Common.{
  ◌≡◌,
  inl,
  inr,
  ℕ,
  ◌+◌,
  ◌-◌,
  ◌<◌,
  ◌≤◌,
  Bool,
  true,
  false,
  cond,
  List,
  [],
  ◌∷◌,
  ◌++◌,
  length,
  take,
  drop,
  refl,
  sym,
  ◌∙◌,
  ap,
  arith,
  length-append,
  length-take-le,
  length-drop,
  get_or-take,
  get_or-drop,
}
use Rattle.std.specs.Prelude.{slice_index}
use Rattle.std.specs.List.{list_all, filter}
use Rattle.std.proofs.lemmas.Bool.{cases_lt}
use Rattle.std.proofs.lemmas.List.{get_or_append_left, get_or-append_right, take_at}
use Rattle.std.proofs.lemmas.Grind.{same_number_lists}
use Rattle.pm_device.proofs.Remembered.{and_both, both_and}
use Rattle.pm_device.specs.State.{put_run}
use Rattle.pm_device.specs.Words.{cases_in}
use Rattle.pm_device.specs.Runs.{length-put_run, put_run_in, put_run_out}

pub copied : (xs vs : List ℕ) (at : ℕ) → at + length vs ≤ length xs → take at xs ++ (vs ++ drop (length vs) (drop at xs)) ≡ put_run xs at vs
copied xs vs at fits = same_number_lists _ _ same_length each
  where
    front : length (take at xs) ≡ at
    front = length-take-le at xs (omega arith)

    same_length : length (take at xs ++ (vs ++ drop (length vs) (drop at xs))) ≡ length (put_run xs at vs)
    same_length = omega (
      arith,
      length-append (take at xs) (vs ++ drop (length vs) (drop at xs)),
      length-append vs (drop (length vs) (drop at xs)),
      length-drop (length vs) (drop at xs),
      length-drop at xs,
      length-put_run xs at vs,
      front,
    )

    each : (k : ℕ) → k < length (take at xs ++ (vs ++ drop (length vs) (drop at xs)))
        → slice_index (take at xs ++ (vs ++ drop (length vs) (drop at xs))) k ≡ slice_index (put_run xs at vs) k
    each k lt =
        let long = length-put_run xs at vs in
        elim (cases_in at (length vs) k) [
          | inl in_run ↦
              get_or-append_right (take at xs) (vs ++ drop (length vs) (drop at xs)) at k 0 front in_run.0
              ∙ get_or_append_left vs (drop (length vs) (drop at xs)) 0 (k - at) (omega (arith, in_run.0, in_run.1))
              ∙ sym (put_run_in xs at vs k in_run.0 in_run.1 (omega (arith, fits, in_run.1)))
          | inr out ↦ elim (cases_lt k at) [
            | inl low ↦ get_or_append_left (take at xs) (vs ++ drop (length vs) (drop at xs)) 0 k (omega (arith, front, low)) ∙ get_or-take at xs k 0
                low ∙ sym (put_run_out xs at vs k out)
            | inr high ↦
                let past : at + length vs ≤ k = elim (cases_lt k (at + length vs)) [ inl lt ↦ absurd (out (high, lt)) | inr le ↦ le ] in
                let back : at + (length vs + (k - at - length vs)) ≡ k = omega arith in
                get_or-append_right (take at xs) (vs ++ drop (length vs) (drop at xs)) at k 0 front high
                ∙ get_or-append_right vs (drop (length vs) (drop at xs)) (length vs) (k - at) 0 refl (omega arith)
                ∙ get_or-drop (length vs) (drop at xs) (k - at - length vs) 0 ∙ get_or-drop at xs (length vs + (k - at - length vs)) 0
                ∙ ap (slice_index xs) back ∙ sym (put_run_out xs at vs k out)
          ]
        ]

-- so it is where the part is lent and given back
pub copied_back : (words vs part lent : List ℕ) (at n len : ℕ) → lent ≡ words → part ≡ vs → n ≡ length vs → len ≡ length words
    → at + length vs ≤ length words
    → let new = take at lent ++ (part ++ drop n (drop at lent)) in take len (new ++ drop (length new) words) ≡ put_run words at vs
copied_back words vs part lent at n len read given many all fits =
    ap (λ xs. take len ((take at xs ++ (part ++ drop n (drop at xs))) ++ drop (length (take at xs ++ (part ++ drop n (drop at xs)))) words)) read
    ∙ ap (λ xs. take len ((take at words ++ (xs ++ drop n (drop at words))) ++ drop (length (take at words ++ (xs ++ drop n (drop at words)))) words))
    given
    ∙ ap (λ k. take len ((take at words ++ (vs ++ drop k (drop at words))) ++ drop (length (take at words ++ (vs ++ drop k (drop at words)))) words))
    many
    ∙ ap (λ xs. take len (xs ++ drop (length xs) words)) (copied words vs at fits)
    ∙ take_at (put_run words at vs) (drop (length (put_run words at vs)) words) len (omega (arith, all, length-put_run words at vs))

-- a test that all elements pass is passed by those that are kept
pub list_all-filter : {X : Type 0} (p test : X → Bool) (xs : List X) → list_all p xs ≡ true → list_all p (filter test xs) ≡ true
list_all-filter p test [] all = refl
list_all-filter p test (x ∷ xs) all =
    let both = and_both (p x) (list_all p xs) all in
    let rest = list_all-filter p test xs both.1 in
    elim (test x) as (λ b. list_all p (cond b (x ∷ filter test xs) (filter test xs)) ≡ true)
    [ true ↦ both_and (p x) (list_all p (filter test xs)) both.0 rest | false ↦ rest ]
