-- Where a key is among entries that rise, and what an edit there leaves.
use Rattle.std.proofs.Common.{◌≡◌, ◌≢◌, ℕ, suc, ◌+◌, ◌-◌, ◌<◌, ◌≤◌, List, ◌∷◌, ◌++◌, length, get_or, take, drop, set, Some, None, Result, Ok, Err, IfOk, IfErr, sym, ap, subst, ◌∙◌, inl, inr, arith, take-append-drop, drop-cons}
use Rattle.std.specs.Prelude.{AllPairs}
use Rattle.std.specs.List.{AllWithin, insert, remove}
use Rattle.std.specs.List.Sorted.{IsSearchInRange, IsBinarySearchResult, IsSortedBy}
use Rattle.std.specs.Ordering.{is_lt, ordering_reverse}
use Rattle.std.specs.declared.cmp.Ordering.{Ordering}
use Rattle.std.specs.declared.cmp.Ordering.TheVariants.{Less, Equal}
use Rattle.std.specs.Cmp.{IsTotalOrder, tied_itself}
use Rattle.std.specs.FinMap.{find, IsAntisymmetric}
use Rattle.std.proofs.lemmas.Bool.{cases_eq, cases_lt}
use Rattle.std.proofs.lemmas.List.{set_split}
use Rattle.std.proofs.lemmas.List.Edits.{length-insert, get_or-insert_below, get_or-insert_at, get_or-insert_above}
use Rattle.std.proofs.lemmas.List.Sorted.{searchable_from_sorted}
use Rattle.file_index.specs.Entries.{IsRising, HasKey, IsGap}
use Rattle.file_index.proofs.Lookups.{all_front, all_back, IsFree, find-free, find-append_front, find-middle_other, find-middle, other_below, turned, other_above, other}

-- an item between lower and higher ones
pub all_pairs_insert : {X : Type 0} (R : X → X → Type 0) (xs : List X) (n : ℕ) (y : X) → n ≤ length xs → AllPairs R xs → AllWithin (λ x. R x y) xs 0 n → AllWithin (λ x. R y x) xs n (length xs) → AllPairs R (insert xs n y)
all_pairs_insert {X = X} R xs n y within all lower higher i j d lt in_range =
    elim (cases_lt i n) [
      | inl i_below ↦ subst (λ x. R x (get_or new j d)) (sym (get_or-insert_below xs n y d i i_below within)) (
          elim (cases_lt j n) [
            | inl j_below ↦ subst (R (get_or xs i d)) (sym (get_or-insert_below xs n y d j j_below within)) (all i j d lt (omega arith))
            | inr j_above ↦ elim (cases_eq j n) [
              | inl j_at ↦ subst (λ k. R (get_or xs i d) (get_or new k d)) (sym j_at) (subst (R (get_or xs i d)) (sym (get_or-insert_at xs n y d within)) (lower i d (omega arith) i_below))
              | inr j_past ↦ subst (R (get_or xs i d)) (sym (moved j (omega arith))) (all i (j - 1) d (omega arith) (omega (arith, long)))
            ]
          ])
      | inr i_above ↦ elim (cases_eq i n) [
        | inl i_at ↦ subst (λ x. R x (get_or new j d)) (sym (ap (λ k. get_or new k d) i_at ∙ get_or-insert_at xs n y d within)) (
            subst (R y) (sym (moved j (omega arith))) (higher (j - 1) d (omega arith) (omega (arith, long))))
        | inr i_past ↦ subst (λ x. R x (get_or new j d)) (sym (moved i (omega arith))) (
            subst (R (get_or xs (i - 1) d)) (sym (moved j (omega arith))) (all (i - 1) (j - 1) d (omega arith) (omega (arith, long))))
      ]
    ]
  where
    new : List X
    new = insert xs n y

    long : length (insert xs n y) ≡ length xs + 1
    long = length-insert xs n y within

    moved : (k : ℕ) → n < k → get_or (insert xs n y) k d ≡ get_or xs (k - 1) d
    moved k above = subst (λ m. get_or (insert xs n y) m d ≡ get_or xs (k - 1) d) {x = k - 1 + 1} (omega arith) (get_or-insert_above xs n y d (k - 1) (omega arith) within)

module _ {K X : Type 0} {R : K → K → Ordering} (o : IsTotalOrder R) (es : List (K × X)) (key : K) where
  -- the answers of a comparison with the key rise along the entries
  is_sorted : IsRising R es → IsSortedBy (λ a b. is_lt (R a.0 b.0)) es
  is_sorted rising k d low high = ap is_lt (turned R o _ _ (rising k (k + 1) d (omega arith) high))

  -- a binary search ends at the key, or at the place where it would go
  pub searched : IsAntisymmetric R → IsRising R es → (r : Result ℕ ℕ) → IsSearchInRange r (length es) → IsBinarySearchResult (λ e. R e.0 key) es r → record { found : IfOk r (HasKey es key); absent : IfErr r (IsGap R es key) }
  searched same rising (Ok at) within equal = record { found = record { within = within; key_is = λ d. same _ _ (equal d) }; absent = tt }
  searched same rising (Err at) within parted =
      let sides = parted (searchable_from_sorted o (λ e. e.0) es key (is_sorted rising)) in
      record {
        found = tt;
        absent = record {
          within = within;
          lower = sides.0;
          higher = λ k d low high. o.antisymm _ _ ∙ ap ordering_reverse (sides.1 k d low high);
        };
      }

module _ {K X : Type 0} {R : K → K → Ordering} (o : IsTotalOrder R) (same : IsAntisymmetric R) (es : List (K × X)) (key : K) (at : ℕ) where
  module _ (gap : IsGap R es key at) where
    front_free : find R key (take at es) ≡ None
    front_free = find-free R key _ (all_front (IsFree R key) es at (λ k d low high. other_above R o _ _ (gap.lower k d low high)))

    pub find_in_gap : find R key es ≡ None
    find_in_gap =
        sym (ap (find R key) (take-append-drop at es)) ∙ find-append_front R key (take at es) (drop at es) front_free
        ∙ find-free R key _ (all_back (IsFree R key) es at (λ k d low high. other_below R _ _ (gap.higher k d low high)))

    pub find-inserted : (value : X) → find R key (insert es at (key, value)) ≡ Some value
    find-inserted value = find-middle R key (take at es) (key, value) (drop at es) front_free (tied_itself o key)

    pub find-inserted_other : (value : X) (q : K) → q ≢ key → find R q (insert es at (key, value)) ≡ find R q es
    find-inserted_other value q differ =
        find-middle_other R q (take at es) (key, value) (drop at es) (other R same q key differ) ∙ ap (find R q) (take-append-drop at es)

    pub rising_inserted : (value : X) → IsRising R es → IsRising R (insert es at (key, value))
    rising_inserted value rising = all_pairs_insert (λ a b. R a.0 b.0 ≡ Less) es at (key, value) gap.within rising gap.lower gap.higher

  module _ (rising : IsRising R es) (has : HasKey es key at) where
    before : find R key (take at es) ≡ None
    before =
        find-free R key _ (all_front (IsFree R key) es at (λ k d low high. other_above R o _ _ (subst (λ x. R (get_or es k d).0 x ≡ Less) (has.key_is d) (rising k at d high has.within))))

    after : find R key (drop (suc at) es) ≡ None
    after =
        find-free R key _ (all_back (IsFree R key) es (suc at) (λ k d low high. other_below R _ _ (subst (λ x. R x (get_or es k d).0 ≡ Less) (has.key_is d) (rising at k d (omega arith) high))))

    split : (d : K × X) → take at es ++ get_or es at d ∷ drop (suc at) es ≡ es
    split d = ap (λ ys. take at es ++ ys) (sym (drop-cons es at d has.within)) ∙ take-append-drop at es

    tied : (e : K × X) → e.0 ≡ key → R key e.0 ≡ Equal
    tied e is = subst (λ x. R key x ≡ Equal) (sym is) (tied_itself o key)

    free : (e : K × X) → e.0 ≡ key → (q : K) → q ≢ key → IsFree R q e
    free e is q differ = other R same q e.0 (λ at_e. differ (at_e ∙ is))

    pub find_at : (d : K × X) → find R key es ≡ Some (get_or es at d).1
    find_at d = sym (ap (find R key) (split d)) ∙ find-middle R key (take at es) (get_or es at d) (drop (suc at) es) before (tied (get_or es at d) (has.key_is d))

    pub find-removed : find R key (remove es at) ≡ None
    find-removed = find-append_front R key (take at es) (drop (suc at) es) before ∙ after

    pub find-removed_other : (d : K × X) (q : K) → q ≢ key → find R q (remove es at) ≡ find R q es
    find-removed_other d q differ =
        sym (find-middle_other R q (take at es) (get_or es at d) (drop (suc at) es) (free (get_or es at d) (has.key_is d) q differ)) ∙ ap (find R q) (split d)

    pub find-set : (e : K × X) → e.0 ≡ key → find R key (set es at e) ≡ Some e.1
    find-set e is = ap (find R key) (set_split es at e has.within) ∙ find-middle R key (take at es) e (drop (suc at) es) before (tied e is)

    pub find-set_other : (e : K × X) → e.0 ≡ key → (q : K) → q ≢ key → find R q (set es at e) ≡ find R q es
    find-set_other e is q differ =
        ap (find R q) (set_split es at e has.within) ∙ find-middle_other R q (take at es) e (drop (suc at) es) (free e is q differ) ∙ find-removed_other e q differ
