-- The map that a list of files is, as files come, change and go.
use Rattle.std.proofs.Common.{
  ◌≡◌,
  ◌≢◌,
  ℕ,
  suc,
  ◌+◌,
  ◌<◌,
  Bool,
  true,
  false,
  List,
  [],
  ◌∷◌,
  ◌++◌,
  length,
  get_or,
  take,
  drop,
  set,
  is_ok,
  IsTrue,
  Option,
  Some,
  None,
  IsSome,
  Result,
  Ok,
  Err,
  IfOk,
  IfErr,
  refl,
  sym,
  ap,
  subst,
  ◌∙◌,
  inl,
  inr,
  arith,
  take-append-drop,
  drop-cons,
  get_or-take,
  get_or-drop,
  length-take,
  length-drop,
}
use Rattle.std.specs.Prelude.{All, if◌then◌else◌}
use Rattle.std.specs.List.{AllWithin, insert, remove}
use Rattle.std.specs.List.Sorted.{IsSearchInRange, IsBinarySearchResult, IsSortedBy}
use Rattle.std.specs.Ordering.{is_lt, ordering_reverse, nat_cmp}
use Rattle.std.specs.Cmp.Lexicographic.{slice_cmp, nat_list_cmp_total}
use Rattle.std.specs.declared.cmp.Ordering.{Ordering}
use Rattle.std.specs.declared.cmp.Ordering.TheVariants.{Less, Equal}
use Rattle.std.specs.Cmp.{tied_itself}
use Rattle.std.specs.FinMap.{nat_cmp-IsAntisymmetric, slice_cmp-IsAntisymmetric}
use Rattle.std.proofs.lemmas.Bool.{cases_Bool}
use Rattle.std.proofs.lemmas.List.{set_split}
use Rattle.std.proofs.lemmas.List.Elements.{All-head, All-tail}
use Rattle.std.proofs.lemmas.List.Sorted.{searchable_from_sorted}
use Rattle.file_index.proofs.Placed.{all_pairs_insert}
use Rattle.log_entry.specs.Name.{same_name}
use Rattle.log_entry.proofs.SameName.{same_name-true, same_name-same}
use Rattle.dn_model.specs.Files.{IsSameFiles}
use Rattle.dn_model.specs.Apply.{with_file}
use Rattle.dn_files.specs.FileLists.{files_of, AreRising, IsFileAt, IsPlaceFor}
use Rattle.dn_files.specs.declared.files.FileText.{FileText}

abbrev compare : List ℕ → List ℕ → Ordering
compare = slice_cmp nat_cmp

-- names in order differ
not_itself : (x : List ℕ) → compare x x ≡ Less → ⊥
not_itself x less = let e : Less ≡ Equal = sym less ∙ tied_itself nat_list_cmp_total x in cc

other_test : (n m : List ℕ) → n ≢ m → same_name n m ≡ false
other_test n m differ = elim (cases_Bool (same_name n m)) [ inl same ↦ absurd (differ (same_name-true n m same)) | inr other ↦ other ]

lower_other : (n m : List ℕ) → compare n m ≡ Less → same_name n m ≡ false
lower_other n m less = other_test n m (λ e. not_itself m (subst (λ (x : List ℕ). compare x m ≡ Less) e less))

higher_other : (n m : List ℕ) → compare m n ≡ Less → same_name n m ≡ false
higher_other n m less = other_test n m (λ e. not_itself m (subst (λ (x : List ℕ). compare m x ≡ Less) e less))

-- the file has another name
abbrev IsOther : List ℕ → FileText → Type 0
IsOther q file = same_name file.name q ≡ false

none_of_others : (q : List ℕ) (xs : List FileText) → All (IsOther q) xs → files_of xs q ≡ None
none_of_others q [] others = refl
none_of_others q (x ∷ xs) others =
    ap (λ (b : Bool). if b then Some x.bytes else files_of xs q) (All-head (IsOther q) x xs others) ∙ none_of_others q xs
    (All-tail (IsOther q) x xs others)

past_others : (q : List ℕ) (xs ys : List FileText) → All (IsOther q) xs → files_of (xs ++ ys) q ≡ files_of ys q
past_others q [] ys others = refl
past_others q (x ∷ xs) ys others =
    ap (λ (b : Bool). if b then Some x.bytes else files_of (xs ++ ys) q) (All-head (IsOther q) x xs others) ∙ past_others q xs ys
    (All-tail (IsOther q) x xs others)

without_other : (q : List ℕ) (xs : List FileText) (e : FileText) (ys : List FileText) → IsOther q e → files_of (xs ++ e ∷ ys) q ≡ files_of (xs ++ ys)
    q
without_other q [] e ys other = ap (λ (b : Bool). if b then Some e.bytes else files_of ys q) other
without_other q (x ∷ xs) e ys other = ap (λ (r : Option (List ℕ)). if same_name x.name q then Some x.bytes else r) (without_other q xs e ys other)

at_first : (xs : List FileText) (e : FileText) (ys : List FileText) → All (IsOther e.name) xs → files_of (xs ++ e ∷ ys) e.name ≡ Some e.bytes
at_first xs e ys others =
    past_others e.name xs (e ∷ ys) others ∙ ap (λ (b : Bool). if b then Some e.bytes else files_of ys e.name) (same_name-same e.name)

all_front : (P : FileText → Type 0) (xs : List FileText) (n : ℕ) → AllWithin P xs 0 n → All P (take n xs)
all_front P xs n within k d lt =
    let below : k < n = omega (arith, length-take n xs) in subst P (sym (get_or-take n xs k d below)) (within k d (omega arith) below)

all_back : (P : FileText → Type 0) (xs : List FileText) (n : ℕ) → AllWithin P xs n (length xs) → All P (drop n xs)
all_back P xs n within k d lt = subst P (sym (get_or-drop n xs k d)) (within (n + k) d (omega arith) (omega (arith, length-drop n xs)))

-- A search ends at the file, or at the place where it would go.
pub record Ends (list : List FileText) (name : List ℕ) (r : Result ℕ ℕ) : Type 0 where
  pub found : IfOk r (IsFileAt list name)
  pub absent : IfErr r (IsPlaceFor list name)

is_sorted : (list : List FileText) → AreRising list → IsSortedBy (λ a b. is_lt (compare a.name b.name)) list
is_sorted list rising k d low high = ap is_lt (nat_list_cmp_total.antisymm (get_or list (k + 1) d).name (get_or list k d).name ∙ ap ordering_reverse
    (rising k (k + 1) d (omega arith) high))

pub searched : (list : List FileText) (name : List ℕ) → AreRising list → (r : Result ℕ ℕ) → IsSearchInRange r (length list)
    → IsBinarySearchResult (λ file. compare file.name name) list r → Ends list name r
searched list name rising (Ok at) within equal = record {
  found = record { within = within; name_is = λ d. slice_cmp-IsAntisymmetric nat_cmp-IsAntisymmetric _ _ (equal d) };
  absent = tt;
}
searched list name rising (Err at) within parted =
    let sides = parted (searchable_from_sorted nat_list_cmp_total (λ (file : FileText). file.name) list name (is_sorted list rising)) in
    record {
      found = tt;
      absent = record {
        within = within;
        lower = sides.0;
        higher = λ k d low high. nat_list_cmp_total.antisymm name (get_or list k d).name ∙ ap ordering_reverse (sides.1 k d low high);
      };
    }

module _ (list : List FileText) (name : List ℕ) (at : ℕ) where
  module _ (place : IsPlaceFor list name at) where
    front_other : All (IsOther name) (take at list)
    front_other = all_front (IsOther name) list at (λ k d low high. lower_other _ name (place.lower k d low high))

    back_other : All (IsOther name) (drop at list)
    back_other = all_back (IsOther name) list at (λ k d low high. higher_other _ name (place.higher k d low high))

    pub none_there : files_of list name ≡ None
    none_there =
        sym (ap (λ (xs : List FileText). files_of xs name) (take-append-drop at list)) ∙ past_others name (take at list) (drop at list) front_other ∙
        none_of_others name (drop at list) back_other

    pub inserted : (e : FileText) → e.name ≡ name → IsSameFiles (files_of (insert list at e)) (with_file (files_of list) name (Some e.bytes))
    inserted e is q = by_test (same_name name q) refl
      where
        by_test : (t : Bool) → same_name name q ≡ t → files_of (insert list at e) q ≡ with_file (files_of list) name (Some e.bytes) q
        by_test true same =
            let q_is : e.name ≡ q = is ∙ same_name-true name q same in
            let others : All (IsOther e.name) (take at list) = subst (λ (n : List ℕ). All (IsOther n) (take at list)) (sym is) front_other in
            subst (λ (n : List ℕ). files_of (insert list at e) n ≡ Some e.bytes) q_is (at_first (take at list) e (drop at list) others)
            ∙ sym (ap (λ (b : Bool). if b then Some e.bytes else files_of list q) same)
        by_test false other =
            without_other q (take at list) e (drop at list) (subst (λ (n : List ℕ). same_name n q ≡ false) (sym is) other)
            ∙ ap (λ (xs : List FileText). files_of xs q) (take-append-drop at list)
            ∙ sym (ap (λ (b : Bool). if b then Some e.bytes else files_of list q) other)

    pub rising_inserted : (e : FileText) → e.name ≡ name → AreRising list → AreRising (insert list at e)
    rising_inserted e is rising = all_pairs_insert (λ (a b : FileText). compare a.name b.name ≡ Less) list at e place.within rising
        (λ k d low high. subst (λ (n : List ℕ). compare (get_or list k d).name n ≡ Less) (sym is) (place.lower k d low high))
        (λ k d low high. subst (λ (n : List ℕ). compare n (get_or list k d).name ≡ Less) (sym is) (place.higher k d low high))

    -- dropping a name that no file has changes nothing
    pub none_dropped : IsSameFiles (files_of list) (with_file (files_of list) name None)
    none_dropped q = by_test (same_name name q) refl
      where
        by_test : (t : Bool) → same_name name q ≡ t → files_of list q ≡ with_file (files_of list) name None q
        by_test true same =
            subst (λ (n : List ℕ). files_of list n ≡ None) (same_name-true name q same) none_there ∙ sym
            (ap (λ (b : Bool). if b then None else files_of list q) same)
        by_test false other = sym (ap (λ (b : Bool). if b then None else files_of list q) other)

  module _ (rising : AreRising list) (there : IsFileAt list name at) where
    before : All (IsOther name) (take at list)
    before = all_front (IsOther name) list at (λ k d low high. lower_other _ name (subst (λ (n : List ℕ). compare (get_or list k d).name n ≡ Less)
        (there.name_is d) (rising k at d high there.within)))

    after : All (IsOther name) (drop (suc at) list)
    after = all_back (IsOther name) list (suc at)
        (λ k d low high. higher_other _ name (subst (λ (n : List ℕ). compare n (get_or list k d).name ≡ Less) (there.name_is d)
        (rising at k d (omega arith) high)))

    split : (d : FileText) → take at list ++ get_or list at d ∷ drop (suc at) list ≡ list
    split d = ap (λ (ys : List FileText). take at list ++ ys) (sym (drop-cons list at d there.within)) ∙ take-append-drop at list

    pub file_there : (d : FileText) → files_of list name ≡ Some (get_or list at d).bytes
    file_there d =
        let is : (get_or list at d).name ≡ name = there.name_is d in
        let others : All (IsOther (get_or list at d).name) (take at list) = subst (λ (n : List ℕ). All (IsOther n) (take at list)) (sym is) before in
        ap (λ (xs : List FileText). files_of xs name) (sym (split d))
        ∙ subst (λ (n : List ℕ). files_of (take at list ++ get_or list at d ∷ drop (suc at) list) n ≡ Some (get_or list at d).bytes) is
        (at_first (take at list) (get_or list at d) (drop (suc at) list) others)

    rest_same : (d : FileText) (q : List ℕ) → same_name name q ≡ false → files_of (take at list ++ drop (suc at) list) q ≡ files_of list q
    rest_same d q other =
        sym (without_other q (take at list) (get_or list at d) (drop (suc at) list) (subst (λ (n : List ℕ). same_name n q ≡ false)
        (sym (there.name_is d)) other))
        ∙ ap (λ (xs : List FileText). files_of xs q) (split d)

    pub removed : FileText → IsSameFiles (files_of (remove list at)) (with_file (files_of list) name None)
    removed d q = by_test (same_name name q) refl
      where
        by_test : (t : Bool) → same_name name q ≡ t → files_of (remove list at) q ≡ with_file (files_of list) name None q
        by_test true same =
            subst (λ (n : List ℕ). files_of (remove list at) n ≡ None) (same_name-true name q same)
            (past_others name (take at list) (drop (suc at) list) before ∙ none_of_others name (drop (suc at) list) after)
            ∙ sym (ap (λ (b : Bool). if b then None else files_of list q) same)
        by_test false other = rest_same d q other ∙ sym (ap (λ (b : Bool). if b then None else files_of list q) other)

    pub replaced : (e : FileText) → e.name ≡ name → IsSameFiles (files_of (set list at e)) (with_file (files_of list) name (Some e.bytes))
    replaced e is q = by_test (same_name name q) refl
      where
        by_test : (t : Bool) → same_name name q ≡ t → files_of (set list at e) q ≡ with_file (files_of list) name (Some e.bytes) q
        by_test true same =
            let q_is : e.name ≡ q = is ∙ same_name-true name q same in
            let others : All (IsOther e.name) (take at list) = subst (λ (n : List ℕ). All (IsOther n) (take at list)) (sym is) before in
            ap (λ (xs : List FileText). files_of xs q) (set_split list at e there.within)
            ∙ subst (λ (n : List ℕ). files_of (take at list ++ e ∷ drop (suc at) list) n ≡ Some e.bytes) q_is
            (at_first (take at list) e (drop (suc at) list) others)
            ∙ sym (ap (λ (b : Bool). if b then Some e.bytes else files_of list q) same)
        by_test false other =
            ap (λ (xs : List FileText). files_of xs q) (set_split list at e there.within)
            ∙ without_other q (take at list) e (drop (suc at) list) (subst (λ (n : List ℕ). same_name n q ≡ false) (sym is) other)
            ∙ rest_same e q other
            ∙ sym (ap (λ (b : Bool). if b then Some e.bytes else files_of list q) other)

no_file : FileText
no_file = record { name = []; bytes = [] }

-- a search tells whether the name leads to a file
pub search_tells : (list : List FileText) (name : List ℕ) → AreRising list → (r : Result ℕ ℕ) → IfOk r (IsFileAt list name)
    → IfErr r (IsPlaceFor list name)
    → (IsTrue (is_ok r) → IsSome (files_of list name)) × (IsSome (files_of list name) → IsTrue (is_ok r))
search_tells list name rising (Ok at) there place = (λ _. subst IsSome (sym (file_there list name at rising there no_file)) refl, λ _. refl)
search_tells list name rising (Err at) there place = (
  λ wrong. cc,
  λ some. absurd (none_some (files_of list name) (none_there list name at place)
      some),
)
  where
    none_some : (o : Option (List ℕ)) → o ≡ None → IsSome o → ⊥
    none_some None none some = cc
    none_some (Some x) none some = cc
