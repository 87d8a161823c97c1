-- Counting the uses of a page, one after another.
use Rattle.std.proofs.Common.{
  take,
  drop,
  take_all,
  ◌++◌,
  append-nil,
  ◌≡◌,
  ◌≢◌,
  inl,
  inr,
  ℕ,
  zero,
  suc,
  ◌+◌,
  ◌<◌,
  ◌≤◌,
  Bool,
  true,
  false,
  List,
  length,
  get_or,
  refl,
  sym,
  ◌∙◌,
  ap,
  arith,
}
use Rattle.std.specs.Prelude.{slice_index, Option, Some, None, IfSome, Any, if◌then◌else◌, ◌==◌}
use Rattle.std.specs.List.{list_any}
use Rattle.std.proofs.lemmas.Bool.{cases_eq, eqb-true, eq-eqb, ne_eqb}
use Rattle.std.proofs.lemmas.Bool.Decides.{Decides-eqb}
use Rattle.std.proofs.lemmas.List.{drop_all}
use Rattle.std.proofs.lemmas.List.Folds.{Any-from_list_any, list_any_at}
use Rattle.std.proofs.lemmas.Grind.{get_or_default_zero}
use Rattle.std.proofs.lemmas.Map.Steps.{length-le_from_distinct_below}
use Rattle.std.proofs.lemmas.Map.Made.{IsDistinct-from_AllPairs}
use Rattle.dn_model.specs.Counts.{total}
use Rattle.law_write.proofs.Counting.{total-zero, total-one, term-le}
use Rattle.image_logs.specs.Usage.{page_hit, listed, CountsPages}

pub hit-le-one : (p : ℕ) (o : Option ℕ) → page_hit p o ≤ 1
hit-le-one p None = omega arith
hit-le-one p (Some q) = by_test (q == p)
  where
    by_test : (b : Bool) → (if b then 1 else 0) ≤ 1
    by_test true = omega arith
    by_test false = omega arith

-- n terms, each at most 1
pub total-few : (f : ℕ → ℕ) (n : ℕ) → ((k : ℕ) → f k ≤ 1) → total n f ≤ n
unfolding total
total-few f zero one = omega arith
total-few f (suc n) one = omega (arith, total-few f n one, one n)

pub hits-few : (p : ℕ) (f : ℕ → Option ℕ) (n : ℕ) → total n (λ k. page_hit p (f k)) ≤ n
hits-few p f n = total-few (λ k. page_hit p (f k)) n (λ k. hit-le-one p (f k))

-- one term more
pub total-next : (f : ℕ → ℕ) (n : ℕ) → total (n + 1) f ≡ total n f + f n
unfolding total
total-next f n = ap (λ (m : ℕ). total m f) one ∙ here
  where
    one : n + 1 ≡ suc n
    one = omega arith

    here : total (suc n) f ≡ total n f + f n
    here = refl

pub total-none : (f : ℕ → ℕ) → total 0 f ≡ 0
unfolding total
total-none f = refl

-- terms past the end of those that count
pub total-past : (f : ℕ → ℕ) (e n : ℕ) → e ≤ n → ((k : ℕ) → e ≤ k → k < n → f k ≡ 0) → total n f ≡ total e f
unfolding total
total-past f e zero le none = ap (λ (m : ℕ). total m f) (let z : 0 ≡ e = omega arith in z)
total-past f e (suc n) le none = elim (cases_eq e (suc n)) [
  | inl all ↦ ap (λ (m : ℕ). total m f) (sym all)
  | inr fewer ↦ omega (arith, total-past f e n (omega arith) (λ k low high. none k low (omega arith)), none n (omega arith) (omega arith))
]

pub counts-none : (f : ℕ → Option ℕ) (counts : List ℕ) → CountsPages f 0 counts counts
counts-none f counts = record { long = refl; each = λ p lt. omega (arith, total-none (λ k. page_hit p (f k))) }

module _ (f : ℕ → Option ℕ) (n : ℕ) (old mid : List ℕ) (so_far : CountsPages f n old mid) where
  pub counts-next : (o : Option ℕ) → o ≡ f n → (new : List ℕ) → length new ≡ length mid
      → ((p : ℕ) → p < length mid → slice_index new p ≡ slice_index mid p + page_hit p o) → CountsPages f (n + 1) old new
  counts-next o is new long each = record {
    long = long ∙ so_far.long;
    each = λ p lt. omega (arith, each p (omega (arith, lt, so_far.long)), so_far.each p lt, total-next (λ k. page_hit p (f k)) n, ap (page_hit p) is);
  }

  pub may-count : (bound : ℕ) → n < bound → ((p : ℕ) → p < length old → slice_index old p + bound < 4294967296) → (p : ℕ) → p < length old
      → (p < length mid) × (slice_index mid p + 1 < 4294967296)
  may-count bound lt room p inside = (omega (arith, inside, so_far.long), omega (arith, so_far.each p inside, hits-few p f n, room p inside, lt))

  pub may-count_at : (bound : ℕ) → n < bound → ((p : ℕ) → p < length old → slice_index old p + bound < 4294967296)
      → ((q : ℕ) → f n ≡ Some q → q < length old)
      → (o : Option ℕ) → o ≡ f n → IfSome o (λ p. (p < length mid) × (slice_index mid p + 1 < 4294967296))
  may-count_at bound lt room inside None is = tt
  may-count_at bound lt room inside (Some p) is = may-count bound lt room p (inside p (sym is))

  -- and no more where no more is counted
  pub counts-past : (end : ℕ) → n ≤ end → ((k : ℕ) → n ≤ k → k < end → f k ≡ None) → CountsPages f end old mid
  counts-past end le none = record {
    long = so_far.long;
    each = λ p lt. so_far.each p lt ∙ ap (λ (t : ℕ). slice_index old p + t)
        (sym (total-past (λ k. page_hit p (f k)) n end le (λ k low high. ap (page_hit p) (none k low high))));
  }

-- pages none of which comes twice
module _ (pages : List ℕ) (apart : (j k : ℕ) → j < length pages → k < length pages → slice_index pages j ≡ slice_index pages k → j ≡ k) where
  -- each is counted once
  pub listed-once : (p : ℕ) → total (length pages) (λ k. page_hit p (listed pages k)) ≡ (if list_any (λ (q : ℕ). q == p) pages then 1 else 0)
  listed-once p = by_test (list_any (λ (q : ℕ). q == p) pages) refl
    where
      hits : ℕ → ℕ
      hits k = if slice_index pages k == p then 1 else 0

      one : (k : ℕ) → slice_index pages k ≡ p → hits k ≡ 1
      one k e = ap (λ (b : Bool). if b then 1 else 0) (eq-eqb (slice_index pages k) p e)

      other : (k : ℕ) → slice_index pages k ≢ p → hits k ≡ 0
      other k ne = ap (λ (b : Bool). if b then 1 else 0) (ne_eqb (slice_index pages k) p ne)

      by_test : (b : Bool) → list_any (λ (q : ℕ). q == p) pages ≡ b → total (length pages) hits ≡ (if b then 1 else 0)
      by_test true any =
          let found = Any-from_list_any (λ (q : ℕ). q == p) pages any in
          let at : slice_index pages found.0 ≡ p = sym (get_or_default_zero pages found.0 found.1 found.2) ∙ found.3 ∙ eqb-true found.1 p found.4 in
          let most = total-one hits (length pages) found.0 (λ j lt ne. other j (λ e. ne (apart j found.0 lt found.2 (e ∙ sym at)))) in
          omega (arith, most, term-le hits (length pages) found.0 found.2, one found.0 at)
      by_test false any = total-zero hits (length pages)
          (λ j lt. other j (λ e. true_false (sym (list_any_at (λ (q : ℕ). q == p) pages j 0 lt (eq-eqb (slice_index pages j) p e)) ∙ any)))
        where
          true_false : true ≡ false → ⊥
          true_false e = cc

  -- so there are no more of them than numbers below a bound
  pub pages-few : (n : ℕ) → ((k : ℕ) → k < length pages → slice_index pages k < n) → length pages ≤ n
  pages-few n below = length-le_from_distinct_below pages n (IsDistinct-from_AllPairs Decides-eqb pages pairs)
      (λ q any. small q (Any-from_list_any (λ (x : ℕ). q == x) pages any))
    where
      pairs : (i j d : ℕ) → i < j → j < length pages → get_or pages i d ≢ get_or pages j d
      pairs i j d lt inside e =
          let same : slice_index pages i ≡ slice_index pages j = sym (get_or_default_zero pages i d (omega arith)) ∙ e ∙ get_or_default_zero pages j d
          inside in
          omega (arith, apart i j (omega arith) inside same)

      small : (q : ℕ) → Any (λ (x : ℕ). (q == x) ≡ true) pages → q < n
      small q found =
          let at : slice_index pages found.0 ≡ found.1 = sym (get_or_default_zero pages found.0 found.1 found.2) ∙ found.3 in
          let same : q ≡ found.1 = eqb-true q found.1 found.4 in
          omega (arith, at, same, below found.0 found.2)

-- counts written over as many
pub refilled : (n : ℕ) (xs ws : List ℕ) → length ws ≡ n → length xs ≡ n → take n (ws ++ drop (length ws) xs) ≡ ws
refilled n xs ws long same =
    ap (λ (ys : List ℕ). take n (ws ++ ys)) (drop_all (length ws) xs (omega arith)) ∙ ap (take n) (append-nil ws) ∙ take_all n ws (omega arith)
