-- The bitmap and its summary after a call marked a page and the word that holds its bit.
use Rattle.std.proofs.Common.{◌≡◌, inl, inr, ℕ, ◌+◌, ◌-◌, ◌*◌, ◌/◌, ◌%◌, ◌<◌, Bool, true, false, not, eqb, List, [], ◌∷◌, length, get_or, Vec, refl, sym, ◌∙◌, ap, subst, arith}
use Rattle.std.specs.Prelude.{Contains, slice_index, nat_lt}
use Rattle.std.specs.Int.{bit_at}
use Rattle.std.proofs.lemmas.Bool.{cases_eq, cases_lt, true≢false, false_from_ne_true, lt-ltb, ltb-true, ne_eqb}
use Rattle.std.specs.Vec.{with_items}
use Rattle.std.proofs.lemmas.List.{get_or_default, get_or_past, with_items_is}
use Rattle.std.proofs.lemmas.Nat.Bits.{bit_at-zero}
use Rattle.page_alloc.specs.Free.{Takes, GivesBack}
use Rattle.page_alloc.specs.Bitmap.{is_marked, marked, IsFirstMarked, MarksAs, IsSummary, IsBitmap}
use Rattle.page_alloc.proofs.Sets.{set_of, Contains-marked, length-marked-le, marked-none, gives_back, takes}

-- a word that is 0 holds no page
pub zero_holds_none : (words : List ℕ) (q : ℕ) → slice_index words (q / 64) ≡ 0 → is_marked words q ≡ false
zero_holds_none words q zero = rw (zero, bit_at-zero (q % 64)) refl

pub filled : (words : List ℕ) (q : ℕ) → is_marked words q ≡ true → 0 < slice_index words (q / 64)
filled words q is = elim (cases_eq (slice_index words (q / 64)) 0) [
  | inl e ↦ absurd (true≢false (sym is ∙ zero_holds_none words q e))
  | inr ne ↦ omega arith
]

-- the first place is the lowest bit of the first word that isn't 0
pub first_at : (words : List ℕ) (i b : ℕ) → i < length words → b < 64 → bit_at (slice_index words i) b ≡ 1
    → ((k : ℕ) → k < b → bit_at (slice_index words i) k ≡ 0) → ((k : ℕ) → k < i → slice_index words k ≡ 0) → IsFirstMarked words (64 * i + b)
first_at words i b inside small one lowest zeros = record {
  inside = omega arith;
  is = let in_word : (64 * i + b) / 64 ≡ i = omega arith in let at_bit : (64 * i + b) % 64 ≡ b = omega arith in rw (in_word, at_bit, one) refl;
  none_before = λ q less. elim (cases_lt (q / 64) i) [
    | inl lt ↦ zero_holds_none words q (zeros (q / 64) lt)
    | inr le ↦ let in_word : q / 64 ≡ i = omega arith in rw (in_word, lowest (q % 64) (omega arith)) refl
  ];
}

module _ (words summary : List ℕ) (pages count : ℕ) (bitmap : IsBitmap words summary pages count) where
  -- what the summary says of a word
  pub told : (k : ℕ) → is_marked summary k ≡ true → (0 < slice_index words k) × (k < length words)
  told k is =
      let some : 0 < slice_index words k = ltb-true 0 _ (sym (bitmap.summed.tells k) ∙ is) in
      (some, elim (cases_lt k (length words)) [ inl lt ↦ lt | inr le ↦ let zero = get_or_past words k 0 le in absurd (omega arith) ])

  pub told_not : (k : ℕ) → is_marked summary k ≡ false → slice_index words k ≡ 0
  told_not k isnt = elim (cases_eq (slice_index words k) 0) [
    | inl e ↦ e
    | inr ne ↦ absurd (true≢false (sym (bitmap.summed.tells k ∙ lt-ltb 0 _ (omega arith)) ∙ isnt))
  ]

  -- no word of the summary tells of any
  pub none_told : ((k : ℕ) → slice_index summary k ≡ 0) → marked words pages ≡ []
  none_told none = marked-none words pages (λ k. told_not k (zero_holds_none summary k (none (k / 64))))

  -- the summary after a page and its word were marked
  summed-after : (words' summary' : List ℕ) (page : ℕ) (on : Bool) → MarksAs on page words words'
      → MarksAs (nat_lt 0 (slice_index words' (page / 64))) (page / 64) summary summary' → IsSummary words' summary'
  summed-after words' summary' page on marks sums = record {
    covers = let l = marks.length in let m = sums.length in let was = bitmap.summed.covers in omega arith;
    tells = λ k. elim (cases_eq k (page / 64)) [
      | inl e ↦ ap (is_marked summary') e ∙ sums.here ∙ ap (λ (n : ℕ). nat_lt 0 (slice_index words' n)) (sym e)
      | inr ne ↦ sums.others k ne ∙ bitmap.summed.tells k ∙ ap (nat_lt 0) (sym (marks.other_words k ne))
    ];
  }

  -- a page is given back
  module _ (page : ℕ) (below : page < pages) (taken : Contains (marked words pages) page → ⊥) where
    pub give-inside : page / 64 < length words
    give-inside = let c = bitmap.covers in omega arith

    pub give-summary_inside : page / 64 / 64 < length summary
    give-summary_inside = let c = bitmap.covers in let d = bitmap.summed.covers in omega arith

    unmarked : is_marked words page ≡ false
    unmarked = false_from_ne_true _ (λ is. taken (Contains-marked words pages page below is))

    module _ (words' : List ℕ) (marks : MarksAs true page words words') where
      pub give-gives_back : GivesBack page (set_of words pages) (set_of words' pages)
      give-gives_back = gives_back words words' pages page below marks.others unmarked marks.here

      pub give-count_lt : count < pages
      give-count_lt =
          let more = give-gives_back.count in
          let most = length-marked-le words' pages in
          let had = bitmap.counted in
          omega arith

      pub give-bitmap : (summary' : List ℕ) → MarksAs true (page / 64) summary summary' → IsBitmap words' summary' pages (count + 1)
      give-bitmap summary' sums = record {
        covers = let l = marks.length in let c = bitmap.covers in omega arith;
        exist = λ q is. elim (cases_eq q page) [ inl e ↦ omega arith | inr ne ↦ bitmap.exist q (sym (marks.others q ne) ∙ is) ];
        counted = let more = give-gives_back.count in let had = bitmap.counted in omega arith;
        summed = summed-after words' summary' page true marks (rw (lt-ltb 0 _ (filled words' page marks.here)) sums);
      }

  -- the least page is taken: the lowest bit of the first word that holds any
  module _ (at b word : ℕ) (found : IsFirstMarked summary at) (read : word ≡ get_or words at word) (small : b < 64) (one : bit_at word b ≡ 1)
      (lowest : (k : ℕ) → k < b → bit_at word k ≡ 0) where
    at_word : word ≡ slice_index words at
    at_word = read ∙ get_or_default words at word 0 (told at found.is).1

    pub take-first : IsFirstMarked words (64 * at + b)
    take-first = first_at words at b (told at found.is).1 small (rw at_word at one) (rw at_word at lowest) (λ k lt. told_not k (found.none_before k lt))

    pub take-lt : 64 * at + b < pages
    take-lt = bitmap.exist _ take-first.is

    module _ (words' : List ℕ) (marks : MarksAs false (64 * at + b) words words') where
      pub take-takes : Takes (64 * at + b) (set_of words pages) (set_of words' pages)
      take-takes = takes words words' pages (64 * at + b) take-lt marks.others take-first.is marks.here take-first.none_before

      pub take-some : 0 < count
      take-some = let had = bitmap.counted in let e = ap length take-takes.rest in omega arith

      pub take-bitmap : (summary' : List ℕ) (still : Bool) → still ≡ nat_lt 0 (slice_index words' at) → MarksAs still at summary summary' → IsBitmap words' summary' pages (count - 1)
      take-bitmap summary' still is sums = record {
        covers = let l = marks.length in let c = bitmap.covers in omega arith;
        exist = λ q still. elim (cases_eq q (64 * at + b)) [
          | inl e ↦ absurd (true≢false (sym still ∙ ap (is_marked words') e ∙ marks.here))
          | inr ne ↦ bitmap.exist q (sym (marks.others q ne) ∙ still)
        ];
        counted = let had = bitmap.counted in let e = ap length take-takes.rest in omega arith;
        summed = let in_word : (64 * at + b) / 64 ≡ at = omega arith in summed-after words' summary' (64 * at + b) false marks (rw (in_word, ← is) sums);
      }

-- the fields hold what was written through borrows of them
pub refilled : {Z : Type 0} (words summary : Vec ℕ Z) (ws ss : List ℕ) (pages count : ℕ) → length ws ≡ length words.items → length ss ≡ length summary.items
    → IsBitmap ws ss pages count → IsBitmap (with_items words ws).items (with_items summary ss).items pages count
refilled words summary ws ss pages count long long' bitmap =
    subst (λ (xs : List ℕ). IsBitmap xs (with_items summary ss).items pages count) (sym (with_items_is words ws (long ∙ sym words.ok.0)))
    (subst (λ (ys : List ℕ). IsBitmap ws ys pages count) (sym (with_items_is summary ss (long' ∙ sym summary.ok.0))) bitmap)

pub refilled_words : {Z : Type 0} (words : Vec ℕ Z) (ws : List ℕ) → length ws ≡ length words.items → (with_items words ws).items ≡ ws
refilled_words words ws long = with_items_is words ws (long ∙ sym words.ok.0)

pub not_empty : {xs ys : List ℕ} {x : ℕ} → xs ≡ x ∷ ys → xs ≡ [] → ⊥
not_empty e none = cc

-- the test of a word that was read after it was written through a borrow
pub nonzero_read : (xs ws : List ℕ) (at w : ℕ) → xs ≡ ws → at < length ws → w ≡ get_or xs at w → not (eqb w 0) ≡ nat_lt 0 (slice_index ws at)
nonzero_read xs ws at w same inside read = nonzero w ∙ ap (nat_lt 0) (rw same at read ∙ get_or_default ws at w 0 inside)
  where
    nonzero : (n : ℕ) → not (eqb n 0) ≡ nat_lt 0 n
    nonzero n = elim (cases_eq n 0) [ inl e ↦ rw e refl | inr ne ↦ rw (ne_eqb n 0 ne, lt-ltb 0 n (omega arith)) refl ]
