-- How many runs cells have, and what changes of them make of it.
use Rattle.std.proofs.Common.{◌≡◌, ◌≢◌, ℕ, zero, suc, ◌+◌, ◌-◌, ◌/◌, ◌<◌, ◌≤◌, Bool, true, false, List, [], length, Option, Some, None, refl, sym, ap, subst, ◌∙◌, inl, inr, arith}
use Rattle.std.specs.Prelude.{if◌then◌else◌, ◌==◌}
use Rattle.std.specs.FinMap.{get}
use Rattle.std.proofs.lemmas.Bool.{cases_lt, cases_eq}
use Rattle.file_index.specs.declared.page_map.Mapping.{Mapping}
use Rattle.file_index.specs.Radix.{look, written, radix_map, OpensNode, OpensRoot, ClearsFrom}
use Rattle.file_index.specs.Runs.{run_begins, before_of, begins_at, begins_near, runs_below, runs_of, IsCounted}
use Rattle.file_index.proofs.Radix.{look-written_other, length-written, look_past, get-radix}
use Rattle.file_index.proofs.PageMaps.{few_nodes, opened_long}

pub begins-few : (here before : Option Mapping) → run_begins here before ≤ 1
begins-few None before = omega arith
begins-few (Some this) None = omega arith
begins-few (Some this) (Some last) = by_test (last.slot == this.slot)
  where
    by_test : (b : Bool) → (if b then 0 else 1) ≤ 1
    by_test true = omega arith
    by_test false = omega arith

one_more : (a b n : ℕ) → a ≤ n → b ≤ 1 → a + b ≤ suc n
one_more a b n few one = omega arith

pub runs_below-few : (cell : ℕ → Option Mapping) (n : ℕ) → runs_below cell n ≤ n
unfolding runs_below
runs_below-few cell zero = omega arith
runs_below-few cell (suc n) =
    one_more (runs_below cell n) (begins_at cell n) n (runs_below-few cell n) (begins-few (cell n) (before_of cell n))

pub runs_below-none : (cell : ℕ → Option Mapping) → runs_below cell zero ≡ 0
unfolding runs_below
runs_below-none cell = refl

pub runs_below-more : (cell : ℕ → Option Mapping) (n : ℕ) → runs_below cell (suc n) ≡ runs_below cell n + begins_at cell n
unfolding runs_below
runs_below-more cell n = refl

-- cells that are the same
before-same : (f g : ℕ → Option Mapping) (n : ℕ) → ((k : ℕ) → suc k ≡ n → f k ≡ g k) → before_of f n ≡ before_of g n
before-same f g zero same = refl
before-same f g (suc k) same = same k refl

begins-same : (f g : ℕ → Option Mapping) (n : ℕ) → f n ≡ g n → before_of f n ≡ before_of g n → begins_at f n ≡ begins_at g n
begins-same f g n here before = λ i. run_begins (here i) (before i)

pub runs-same : (f g : ℕ → Option Mapping) (n : ℕ) → ((k : ℕ) → k < n → f k ≡ g k) → runs_below f n ≡ runs_below g n
runs-same f g zero same = runs_below-none f ∙ sym (runs_below-none g)
runs-same f g (suc n) same =
    let rest : runs_below f n ≡ runs_below g n = runs-same f g n (λ k lt. same k (omega arith)) in
    let before : before_of f n ≡ before_of g n = before-same f g n (λ k e. same k (omega (arith, e))) in
    let here : begins_at f n ≡ begins_at g n = begins-same f g n (same n (omega arith)) before in
    runs_below-more f n ∙ (λ i. rest i + here i) ∙ sym (runs_below-more g n)

-- where nothing is mapped no run begins
no_more : (a b c : ℕ) → a ≡ c → b ≡ 0 → a + b ≡ c
no_more a b c same none = omega arith

pub runs-none : (cell : ℕ → Option Mapping) (a n : ℕ) → a ≤ n → ((k : ℕ) → a ≤ k → k < n → cell k ≡ None) → runs_below cell n ≡ runs_below cell a
runs-none cell a zero le none = let e : zero ≡ a = omega arith in ap (runs_below cell) e
runs-none cell a (suc n) le none =
    elim (cases_lt n a) [
      | inl below ↦ let e : suc n ≡ a = omega arith in ap (runs_below cell) e
      | inr past ↦
          let rest : runs_below cell n ≡ runs_below cell a = runs-none cell a n past (λ k low high. none k low (omega arith)) in
          let nothing : begins_at cell n ≡ 0 = ap (λ (o : Option Mapping). run_begins o (before_of cell n)) (none n past (omega arith)) in
          runs_below-more cell n ∙ no_more (runs_below cell n) (begins_at cell n) (runs_below cell a) rest nothing
    ]

pub runs-ends : (cell : ℕ → Option Mapping) (a b : ℕ) → ((k : ℕ) → a ≤ k → cell k ≡ None) → ((k : ℕ) → b ≤ k → cell k ≡ None)
    → runs_below cell a ≡ runs_below cell b
runs-ends cell a b past_a past_b =
    elim (cases_lt a b) [
      | inl below ↦ sym (runs-none cell a b (omega arith) (λ k low high. past_a k low))
      | inr above ↦ runs-none cell b a above (λ k low high. past_b k low)
    ]

-- one place and then places that lead nowhere
pub runs-over : (cell : ℕ → Option Mapping) (k n : ℕ) → k < n → ((j : ℕ) → k < j → j < n → cell j ≡ None)
    → runs_below cell n ≡ runs_below cell k + begins_at cell k
runs-over cell k n lt none = runs-none cell (suc k) n (omega arith) (λ j low high. none j (omega arith) high) ∙ runs_below-more cell k

-- one cell changes
module _ (f g : ℕ → Option Mapping) (q : ℕ) (others : (p : ℕ) → p ≢ q → g p ≡ f p) where
  shuffle : (x y a b c d : ℕ) → x ≡ y → x + a + b + (c + d) ≡ y + c + d + (a + b)
  shuffle x y a b c d same = omega arith

  step : (x y a b c d : ℕ) → x + c ≡ y + d → a ≡ b → x + a + c ≡ y + b + d
  step x y a b c d same also = omega arith

  changed_near : runs_below g (suc (suc q)) + begins_near f q ≡ runs_below f (suc (suc q)) + begins_near g q
  unfolding runs_below
  changed_near =
      shuffle (runs_below g q) (runs_below f q) (begins_at g q) (begins_at g (suc q)) (begins_at f q) (begins_at f (suc q))
      (runs-same g f q (λ k lt. others k (λ e. omega (arith, e))))

  changed_to : (n : ℕ) → suc (suc q) ≤ n → runs_below g n + begins_near f q ≡ runs_below f n + begins_near g q
  changed_to zero le = absurd (omega arith)
  changed_to (suc m) le =
      elim (cases_eq m (suc q)) [
        | inl last ↦ subst (λ k. runs_below g (suc k) + begins_near f q ≡ runs_below f (suc k) + begins_near g q) (sym last) changed_near
        | inr more ↦
            let rest = changed_to m (omega (arith, more)) in
            let before : before_of g m ≡ before_of f m = before-same g f m (λ k e. others k (λ same. omega (arith, e, same, more))) in
            let here : begins_at g m ≡ begins_at f m = begins-same g f m (others m (λ same. omega (arith, same))) before in
            ap (λ x. x + begins_near f q) (runs_below-more g m)
            ∙ step (runs_below g m) (runs_below f m) (begins_at g m) (begins_at f m) (begins_near f q) (begins_near g q) rest here
            ∙ ap (λ x. x + begins_near g q) (sym (runs_below-more f m))
      ]

  pub changed : (end : ℕ) → q < end → ((k : ℕ) → end ≤ k → f k ≡ None) → ((k : ℕ) → end ≤ k → g k ≡ None)
      → runs_below g end + begins_near f q ≡ runs_below f end + begins_near g q
  changed end lt f_none g_none =
      let f_end : runs_below f (suc end) ≡ runs_below f end = runs-none f end (suc end) (omega arith) (λ k low high. f_none k low) in
      let g_end : runs_below g (suc end) ≡ runs_below g end = runs-none g end (suc end) (omega arith) (λ k low high. g_none k low) in
      ap (λ x. x + begins_near f q) (sym g_end) ∙ changed_to (suc end) (omega arith) ∙ ap (λ x. x + begins_near g q) f_end

-- the runs of nodes
abbrev pub node_runs : List (List (Option Mapping)) → ℕ
node_runs nodes = runs_below (look nodes) 4096

no_cells : (nodes : List (List (Option Mapping))) → length nodes ≤ 64 → (k : ℕ) → 4096 ≤ k → look nodes k ≡ None
no_cells nodes few k past = look_past nodes k (omega arith)

pub runs_of_map : (nodes spare : List (List (Option Mapping))) (runs : ℕ) → IsCounted nodes spare runs → runs ≡ runs_of (radix_map nodes)
unfolding runs_of
runs_of_map nodes spare runs is =
    is.counted ∙ sym (runs-same (get (radix_map nodes)) (look nodes) 4096 (λ k lt. get-radix nodes (few_nodes nodes spare is.radix) k))

pub new_counted : IsCounted [] [] 0
new_counted = record {
  radix = record { root = λ some. absurd (omega arith); whole = λ k d lt. absurd (omega arith); fresh = λ k d lt. absurd (omega arith) };
  counted = sym (runs-none (look []) 0 4096 (omega arith) (λ k low high. look_past [] k (omega arith)) ∙ runs_below-none (look []));
}

pub root_runs : (old new : List (List (Option Mapping))) → OpensRoot old new → node_runs new ≡ node_runs old
root_runs old new opens = runs-same (look new) (look old) 4096 (λ k lt. opens.same k)

module _ (nodes spare : List (List (Option Mapping))) (runs : ℕ) (is : IsCounted nodes spare runs) where
  pub runs-few : runs ≤ 4096
  runs-few = let few = runs_below-few (look nodes) 4096 in subst (λ n. n ≤ 4096) (sym is.counted) few

  -- a cell is written, after its node was opened
  pub set_runs : (q : ℕ) (mid rest : List (List (Option Mapping))) (x : Mapping) → q < 4096 → OpensNode (q / 64) nodes mid spare rest
      → node_runs (written mid q (Some x)) + begins_near (look mid) q ≡ runs + begins_near (look (written mid q (Some x))) q
  set_runs q mid rest x below opens =
      changed (look mid) (look new) q (λ p differ. look-written_other mid q (Some x) p (omega (arith, long)) differ) 4096 below
      (no_cells mid (omega (arith, long))) (no_cells new (omega (arith, long, length-written mid q (Some x))))
      ∙ ap (λ n. n + begins_near (look new) q)
      (runs-same (look mid) (look nodes) 4096 (λ k lt. opens.same k) ∙ sym is.counted)
    where
      new : List (List (Option Mapping))
      new = written mid q (Some x)

      long : length mid ≡ 64
      long = opened_long (q / 64) nodes mid spare rest opens

  balanced : (after before was now new : ℕ) → new + was ≡ runs + now → before ≡ was → after ≡ now
      → (before ≤ runs + after) × (runs + after - before ≡ new)
  balanced after before was now new sums before_is after_is = (omega arith, omega arith)

  -- by how many runs begin near it before and after
  pub set_balance : (q : ℕ) (mid rest : List (List (Option Mapping))) (x : Mapping) (before after : ℕ) → q < 4096 → OpensNode (q / 64) nodes mid spare rest
      → before ≡ begins_near (look mid) q → after ≡ begins_near (look (written mid q (Some x))) q
      → (before ≤ runs + after) × (runs + after - before ≡ node_runs (written mid q (Some x)))
  set_balance q mid rest x before after below opens before_is after_is =
      balanced after before (begins_near (look mid) q) (begins_near (look (written mid q (Some x))) q) (node_runs (written mid q (Some x)))
      (set_runs q mid rest x below opens) before_is after_is

  -- the cells from one on are cleared
  pub cut_runs : (from gone : ℕ) (new : List (List (Option Mapping))) → ClearsFrom from nodes new
      → gone + runs_below (look nodes) from ≡ node_runs nodes → runs ≡ node_runs new + gone
  cut_runs from gone new clears count =
      let few = few_nodes nodes spare is.radix in
      let ends : node_runs new ≡ runs_below (look new) from =
      runs-ends (look new) 4096 from (no_cells new (omega (arith, few, clears.long))) clears.gone in
      let same : runs_below (look new) from ≡ runs_below (look nodes) from = runs-same (look new) (look nodes) from clears.below in
      is.counted ∙ sum (node_runs nodes) (node_runs new) (runs_below (look nodes) from) gone (ends ∙ same) count
    where
      sum : (a b c d : ℕ) → b ≡ c → d + c ≡ a → a ≡ b + d
      sum a b c d same count = omega arith
