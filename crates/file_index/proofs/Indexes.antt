-- What the calls of an index make of it.
use Rattle.std.proofs.Common.{◌≡◌, ℕ, suc, ◌+◌, ◌<◌, ◌≤◌, List, [], ◌∷◌, cond, length, get_or, set, map, Some, None, IsSome, refl, sym, ap, subst, ◌∙◌, arith}
use mathlib.Core.Bool.{false≢true}
use Rattle.std.specs.Prelude.{Contains}
use Rattle.std.specs.List.{insert, remove}
use Rattle.std.specs.Ordering.{is_eq, nat_cmp}
use Rattle.std.specs.declared.cmp.Ordering.{Ordering}
use Rattle.std.specs.declared.cmp.Ordering.TheVariants.{Less, Equal, Greater}
use Rattle.std.specs.Cmp.{IsTotalOrder, tied_itself}
use Rattle.std.specs.Cmp.Lexicographic.{slice_cmp, nat_list_cmp_total}
use Rattle.std.specs.FinMap.{get, find, from_entries, get-from_entries, IsAntisymmetric, nat_cmp-IsAntisymmetric, slice_cmp-IsAntisymmetric}
use Rattle.std.proofs.lemmas.List.{get_or-map, get_or_read, length-map}
use Rattle.file_index.specs.Entries.{IsRising, HasKey, IsGap}
use Rattle.file_index.specs.Index.{Index, Puts, Drops, ListsNames, ListsEntries}
use Rattle.file_index.proofs.Lookups.{find_some}
use Rattle.file_index.proofs.Placed.{find_in_gap, find-inserted, find-inserted_other, find_at, find-removed, find-removed_other, find-set, find-set_other}

-- the index with these entries
abbrev pub index_of : {K X : Type 0} (R : K → K → Ordering) → List (K × X) → ℕ → Index R X
index_of R es room = record { map = from_entries es; room = room }

module _ {K X : Type 0} {R : K → K → Ordering} (o : IsTotalOrder R) (same : IsAntisymmetric R) (es : List (K × X)) (key : K) (at : ℕ) where
  module _ (gap : IsGap R es key at) where
    pub get_in_gap : get (from_entries {R = R} es) key ≡ None
    get_in_gap = get-from_entries o es key ∙ find_in_gap o same es key at gap

    pub puts_new : (value : X) (room room' : ℕ) → room ≤ room' + 1 → Puts key value (index_of R es room) (index_of R (insert es at (key, value)) room')
    puts_new value room room' le = record {
      there = get-from_entries o _ key ∙ find-inserted o same es key at gap value;
      others = λ q differ. get-from_entries o _ q ∙ find-inserted_other o same es key at gap value q differ ∙ sym (get-from_entries o es q);
      room = le;
      room_stays = λ some. let none : IsSome {T = X} None = subst IsSome get_in_gap some in absurd (false≢true none);
    }

    pub drops_none : (room : ℕ) → Drops key (index_of R es room) (index_of R es room)
    drops_none room = record { gone = get_in_gap; others = λ q differ. refl; room = omega arith }

  module _ (rising : IsRising R es) (has : HasKey es key at) where
    pub get_at : (d : K × X) → get (from_entries {R = R} es) key ≡ Some (get_or es at d).1
    get_at d = get-from_entries o es key ∙ find_at o same es key at rising has d

    pub puts_over : (e : K × X) → e.0 ≡ key → (room room' : ℕ) → room ≤ room' → Puts key e.1 (index_of R es room) (index_of R (set es at e) room')
    puts_over e is room room' le = record {
      there = get-from_entries o _ key ∙ find-set o same es key at rising has e is;
      others = λ q differ. get-from_entries o _ q ∙ find-set_other o same es key at rising has e is q differ ∙ sym (get-from_entries o es q);
      room = omega arith;
      room_stays = λ some. le;
    }

    pub drops_at : (d : K × X) (room room' : ℕ) → room ≤ room' → Drops key (index_of R es room) (index_of R (remove es at) room')
    drops_at d room room' le = record {
      gone = get-from_entries o _ key ∙ find-removed o same es key at rising has;
      others = λ q differ. get-from_entries o _ q ∙ find-removed_other o same es key at rising has d q differ ∙ sym (get-from_entries o es q);
      room = le;
    }

-- a name that is found is listed
contains_found : (es : List (List ℕ × ℕ)) (name : List ℕ) → IsSome (find (slice_cmp nat_cmp) name es) → Contains (map (λ e. e.0) es) name
contains_found [] name some = absurd (false≢true some)
contains_found (e ∷ es) name some =
    elim (slice_cmp nat_cmp name e.0) as (λ r. slice_cmp nat_cmp name e.0 ≡ r → IsSome (cond (is_eq r) (Some e.1) (find (slice_cmp nat_cmp) name es)) → Contains (e.0 ∷ map (λ x. x.0) es) name) [
      | Less ↦ λ _ rest. later e.0 (map (λ x. x.0) es) name (contains_found es name rest)
      | Equal ↦ λ same _. (0, omega arith, sym (slice_cmp-IsAntisymmetric nat_cmp-IsAntisymmetric name e.0 same))
      | Greater ↦ λ _ rest. later e.0 (map (λ x. x.0) es) name (contains_found es name rest)
    ] refl some
  where
    later : (x : List ℕ) (xs : List (List ℕ)) (y : List ℕ) → Contains xs y → Contains (x ∷ xs) y
    later x xs y (k, lt, is) = (suc k, omega arith, is)

pub lists_names : (es : List (List ℕ × ℕ)) → IsRising (slice_cmp nat_cmp) es → ListsNames (from_entries {R = slice_cmp nat_cmp} es) (map (λ e. e.0) es)
lists_names es rising = record {
  in_order = λ i j d lt within.
      let long = length-map es (λ (e : List ℕ × ℕ). e.0) in
      let inside : j < length es = omega arith in
      subst (λ x. slice_cmp nat_cmp x (get_or (map (λ (e : List ℕ × ℕ). e.0) es) j d) ≡ Less) (sym (key i d (omega arith)))
      (subst (λ y. slice_cmp nat_cmp (get_or es i (d, 0)).0 y ≡ Less) (sym (key j d inside)) (rising i j (d, 0) lt inside));
  all = λ name. (
    λ (k, lt, is).
        let long = length-map es (λ (e : List ℕ × ℕ). e.0) in
        let inside : k < length es = omega arith in
        subst IsSome (sym (get-from_entries nat_list_cmp_total es name)) (find_some (slice_cmp nat_cmp) name es k (name, 0) inside
        (subst (λ x. slice_cmp nat_cmp name x ≡ Equal) (sym (sym (key k name inside) ∙ is)) (tied_itself nat_list_cmp_total name))),
    λ some. contains_found es name (subst IsSome (get-from_entries nat_list_cmp_total es name) some),
  );
}
  where
    key : (k : ℕ) (d : List ℕ) → k < length es → get_or (map (λ (e : List ℕ × ℕ). e.0) es) k d ≡ (get_or es k (d, 0)).0
    key k d lt = get_or-map (λ (e : List ℕ × ℕ). e.0) es k (d, 0) d lt

-- an entry that is found is listed
entry_found : (es : List (List ℕ × ℕ)) (name : List ℕ) (value : ℕ) → find (slice_cmp nat_cmp) name es ≡ Some value → Contains es (name, value)
entry_found [] name value e = absurd (none_some value e)
  where
    none_some : (v : ℕ) → None ≡ Some v → ⊥
    none_some v e = cc
entry_found (e ∷ es) name value found =
    elim (slice_cmp nat_cmp name e.0) as (λ r. slice_cmp nat_cmp name e.0 ≡ r → cond (is_eq r) (Some e.1) (find (slice_cmp nat_cmp) name es) ≡ Some value → Contains (e ∷ es) (name, value)) [
      | Less ↦ λ _ rest. later (entry_found es name value rest)
      | Equal ↦ λ same here. (0, omega arith, pair (sym (slice_cmp-IsAntisymmetric nat_cmp-IsAntisymmetric name e.0 same)) (some_one e.1 value here))
      | Greater ↦ λ _ rest. later (entry_found es name value rest)
    ] refl found
  where
    later : Contains es (name, value) → Contains (e ∷ es) (name, value)
    later (k, lt, is) = (suc k, omega arith, is)

    some_one : (a b : ℕ) → Some a ≡ Some b → a ≡ b
    some_one a b e = cc

    pair : e.0 ≡ name → e.1 ≡ value → e ≡ (name, value)
    pair x y = λ i. (x i, y i)

pub lists_entries : (es : List (List ℕ × ℕ)) → IsRising (slice_cmp nat_cmp) es → ListsEntries (from_entries {R = slice_cmp nat_cmp} es) es
lists_entries es rising = record {
  in_order = rising;
  all = λ name value. (
    λ (k, lt, is).
        let o = nat_list_cmp_total in
        let same = slice_cmp-IsAntisymmetric nat_cmp-IsAntisymmetric in
        get-from_entries o es name
        ∙ find_at o same es name k rising (record { within = lt; key_is = λ d. sym (ap (λ (e : List ℕ × ℕ). e.0) (get_or_read es k (name, value) lt (sym is) d)) }) (name, value)
        ∙ sym (ap (λ (e : List ℕ × ℕ). Some e.1) (get_or_read es k (name, value) lt (sym is) (name, value))),
    λ found. entry_found es name value (sym (get-from_entries nat_list_cmp_total es name) ∙ found),
  );
}
