-- Runs of places that pass a test.
use Rattle.std.proofs.Common.{◌≡◌, inl, inr, ℕ, zero, suc, ◌+◌, ◌-◌, ◌<◌, ◌≤◌, Bool, true, false, refl, sym, ◌∙◌, ap, arith}
use Rattle.std.specs.Prelude.{◌&&◌, not, nat_lt, if◌then◌else◌}
use Rattle.std.proofs.lemmas.Bool.{and_parts, and_from, cases_eq}
use Rattle.std.proofs.lemmas.Bool.Decides.{nat_tests}
use Rattle.law_clean.specs.Cleaned.{begins_run, run_len}
use Rattle.law_clean.specs.CleanLaws.{IsMaximalRun, IsInRun, RunsAreMaximal, PlacesAreInRuns}

module _ (test : ℕ → Bool) where
  pub run_len-few : (k n : ℕ) → run_len test k n ≤ n
  run_len-few k zero = omega arith
  run_len-few k (suc n) = by_test (run_len-few (k + 1) n) (test k)
    where
      by_test : run_len test (k + 1) n ≤ n → (b : Bool) → (if b then suc (run_len test (k + 1) n) else 0) ≤ suc n
      by_test rest true = omega arith
      by_test rest false = omega arith

  pub run_len-some : (k n : ℕ) → test k ≡ true → 0 < n → 1 ≤ run_len test k n
  run_len-some k zero t some = absurd (omega arith)
  run_len-some k (suc n) t some = by_test (test k) t
    where
      by_test : (b : Bool) → b ≡ true → 1 ≤ (if b then suc (run_len test (k + 1) n) else 0)
      by_test true t = omega arith
      by_test false t = cc

  pub run_len-pass : (k n j : ℕ) → k ≤ j → j < k + run_len test k n → test j ≡ true
  run_len-pass k zero j low high = absurd (omega arith)
  run_len-pass k (suc n) j low high = by_test (λ lo hi. run_len-pass (k + 1) n j lo hi) (test k) refl high
    where
      by_test : (k + 1 ≤ j → j < k + 1 + run_len test (k + 1) n → test j ≡ true) → (b : Bool) → test k ≡ b
          → j < k + (if b then suc (run_len test (k + 1) n) else 0) → test j ≡ true
      by_test rest true t high = elim (cases_eq k j) [
        | inl e ↦ ap test (sym e) ∙ t
        | inr ne ↦ rest (omega arith) (omega arith)
      ]
      by_test rest false t high = absurd (omega arith)

  -- it ends at the first that fails
  pub run_len-closes : (k n : ℕ) → run_len test k n < n → test (k + run_len test k n) ≡ false
  run_len-closes k zero lt = absurd (omega arith)
  run_len-closes k (suc n) lt = by_test (λ few. run_len-closes (k + 1) n few) (test k) refl lt
    where
      by_test : (run_len test (k + 1) n < n → test (k + 1 + run_len test (k + 1) n) ≡ false) → (b : Bool) → test k ≡ b
          → (if b then suc (run_len test (k + 1) n) else 0) < suc n
          → test (k + (if b then suc (run_len test (k + 1) n) else 0)) ≡ false
      by_test rest true t lt =
          let e : k + suc (run_len test (k + 1) n) ≡ k + 1 + run_len test (k + 1) n = omega arith in
          ap test e ∙ rest (omega arith)
      by_test rest false t lt = let e : k + 0 ≡ k = omega arith in ap test e ∙ t

  -- a place is reached where all up to it pass
  pub run_len-reaches : (k n j : ℕ) → k ≤ j → j < k + n → ((i : ℕ) → k ≤ i → i ≤ j → test i ≡ true) → j < k + run_len test k n
  run_len-reaches k zero j low high all = absurd (omega arith)
  run_len-reaches k (suc n) j low high all =
      by_test (λ lo. run_len-reaches (k + 1) n j lo (omega arith) (λ i from to. all i (omega arith) to)) (test k) (all k (omega arith) low)
    where
      by_test : (k + 1 ≤ j → j < k + 1 + run_len test (k + 1) n) → (b : Bool) → b ≡ true
          → j < k + (if b then suc (run_len test (k + 1) n) else 0)
      by_test rest true t = elim (cases_eq k j) [
        | inl e ↦ omega arith
        | inr ne ↦ let reached = rest (omega arith) in omega (arith, reached)
      ]
      by_test rest false t = cc

  -- the two parts of what begins a run
  pub begins-passes : (first k : ℕ) → begins_run test first k ≡ true → test k ≡ true
  begins-passes first k b = (and_parts (test k) (not (nat_lt first k && test (k - 1))) b).0

  pub begins-opens : (first k : ℕ) → begins_run test first k ≡ true → first < k → test (k - 1) ≡ false
  begins-opens first k b lt = by_test (test (k - 1)) refl
    where
      first_lt : nat_lt first k ≡ true
      first_lt = grind (arith, nat_tests)

      not_both : not (nat_lt first k && test (k - 1)) ≡ true
      not_both = (and_parts (test k) (not (nat_lt first k && test (k - 1))) b).1

      by_test : (t : Bool) → test (k - 1) ≡ t → test (k - 1) ≡ false
      by_test true t =
          let both : (nat_lt first k && test (k - 1)) ≡ true = and_from (nat_lt first k) (test (k - 1)) first_lt t in
          let clash : false ≡ true = ap not (sym both) ∙ not_both in cc
      by_test false t = t

  begins_from : (first k : ℕ) → test k ≡ true → (nat_lt first k && test (k - 1)) ≡ false → begins_run test first k ≡ true
  begins_from first k t alone = and_from (test k) (not (nat_lt first k && test (k - 1))) t (ap not alone)

  -- where the run of a place begins
  record Start (first k : ℕ) : Type 0 where
    from : ℕ
    low : first ≤ from
    before : from ≤ k
    begins : begins_run test first from ≡ true
    all : (i : ℕ) → from ≤ i → i ≤ k → test i ≡ true

  start_of : (first n k : ℕ) → first ≤ k → k ≤ first + n → test k ≡ true → Start first k
  start_of first zero k low high t = record {
    from = k;
    low = low;
    before = omega arith;
    begins = begins_from first k t (ap (λ (b : Bool). b && test (k - 1)) none);
    all = λ i lo hi. let e : i ≡ k = omega arith in ap test e ∙ t;
  }
    where
      none : nat_lt first k ≡ false
      none = grind (arith, nat_tests)
  start_of first (suc n) k low high t =
      by_test (λ lo hi passes. start_of first n (k - 1) lo hi passes) (nat_lt first k && test (k - 1)) refl
    where
      by_test : (first ≤ k - 1 → k - 1 ≤ first + n → test (k - 1) ≡ true → Start first (k - 1)) → (b : Bool)
          → (nat_lt first k && test (k - 1)) ≡ b → Start first k
      by_test earlier false alone = record {
        from = k;
        low = low;
        before = omega arith;
        begins = begins_from first k t alone;
        all = λ i lo hi. let e : i ≡ k = omega arith in ap test e ∙ t;
      }
      by_test earlier true both =
          let parts = and_parts (nat_lt first k) (test (k - 1)) both in
          let above : first < k = lt_from parts.0 in
          let rest : Start first (k - 1) = earlier (omega arith) (omega arith) parts.1 in
          record {
            from = rest.from;
            low = rest.low;
            before = omega (arith, rest.before);
            begins = rest.begins;
            all = λ i lo hi. elim (cases_eq i k) [
              | inl e ↦ ap test e ∙ t
              | inr ne ↦ rest.all i lo (omega arith)
            ];
          }
        where
          lt_from : nat_lt first k ≡ true → first < k
          lt_from e = grind (arith, nat_tests)

  pub in_run : (first end k : ℕ) → first ≤ k → k < end → test k ≡ true → IsInRun test first end k
  in_run first end k low high t =
      let start : Start first k = start_of first (k - first) k low (omega arith) t in
      record {
        from = start.from;
        low = start.low;
        begins = start.begins;
        before = start.before;
        inside = run_len-reaches start.from (end - start.from) k start.before (omega (arith, start.before)) start.all;
      }

  pub is_maximal : (first end from : ℕ) → first ≤ from → from < end → begins_run test first from ≡ true
      → IsMaximalRun test first end from (run_len test from (end - from))
  is_maximal first end from low lt b =
      let few = run_len-few from (end - from) in
      record {
        some = run_len-some from (end - from) (begins-passes first from b) (omega arith);
        low = low;
        high = omega arith;
        pass = λ k lo hi. run_len-pass from (end - from) k lo hi;
        opens = λ above. begins-opens first from b above;
        closes = λ before. run_len-closes from (end - from) (omega arith);
      }

pub runs_are_maximal : RunsAreMaximal
runs_are_maximal = is_maximal

pub places_are_in_runs : PlacesAreInRuns
places_are_in_runs = in_run
