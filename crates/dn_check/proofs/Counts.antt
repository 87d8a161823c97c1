-- A number of pages as a sum over all pages.
use Rattle.std.proofs.Common.{◌≡◌, ◌≢◌, inl, inr, ⊎_elim, ℕ, zero, suc, ◌<◌, ◌≤◌, Bool, List, [], ◌∷◌, length, refl, sym, ◌∙◌, ap, subst, arith}
use Rattle.std.specs.Prelude.{◌==◌, if◌then◌else◌, AllPairs, Contains, get_or}
use Rattle.std.proofs.lemmas.Bool.{cases_eq}
use Rattle.std.proofs.lemmas.Bool.Decides.{Decides-eqb}
use Rattle.std.proofs.lemmas.Cmp.{nat_eq_equiv}
use Rattle.std.proofs.lemmas.List.Elements.{Contains-get_or}
use Rattle.std.proofs.lemmas.Map.Made.{length-le_from_is_member, IsDistinct-from_AllPairs, is_member-Decides}
use Rattle.dn_model.specs.Disk.{Disk, IsMapped}
use Rattle.dn_model.specs.Counts.{total, mappings}
use Rattle.law_unique.proofs.Counted.{counts_mappings}
use Rattle.law_unique.proofs.Listings.{here, later, none_listed, cons_cases}
use Rattle.law_table.proofs.Rows.{same_test, other_test}
use Rattle.image_uses.specs.Uses.{HasSo}
use Rattle.dn_model.specs.Numbers.{mapped_in}

abbrev IsOther : ℕ → ℕ → Type 0
IsOther p q = p ≢ q

different_more : (p : ℕ) (ps : List ℕ) → ((q : ℕ) → Contains ps q → p ≢ q) → AllPairs IsOther ps → AllPairs IsOther (p ∷ ps)
different_more p ps apart pairs i zero d lt jl = absurd (omega (arith, lt))
different_more p ps apart pairs zero (suc j) d lt jl = apart (get_or ps j d) (Contains-get_or ps j d (omega (arith, jl)))
different_more p ps apart pairs (suc i) (suc j) d lt jl = pairs i j d (omega (arith, lt)) (omega (arith, jl))

-- the numbers below n at which f isn't 0, each once
module _ (f : ℕ → ℕ) where
  abbrev one_at : ℕ → ℕ
  one_at k = if f k == 0 then 0 else 1

  record Listed (n : ℕ) : Type 0 where
    list : List ℕ
    small : (k : ℕ) → Contains list k → k < n
    some : (k : ℕ) → Contains list k → f k ≢ 0
    all : (k : ℕ) → k < n → f k ≢ 0 → Contains list k
    different : AllPairs IsOther list
    count : length list ≡ total n one_at

  listed : (n : ℕ) → Listed n
  unfolding total
  listed zero = record {
    list = [];
    small = λ k has. absurd (none_listed k has);
    some = λ k has. absurd (none_listed k has);
    all = λ k lt is. absurd (omega (arith, lt));
    different = λ i j k lt jl. absurd (omega (arith, jl));
    count = refl;
  }
  listed (suc n) = let old = listed n in elim (cases_eq (f n) 0) [
    | inl none ↦ record {
      list = old.list;
      small = λ k has. omega (arith, old.small k has);
      some = old.some;
      all = λ k lt is. ⊎_elim (λ (e : n ≡ k). absurd (is (ap f (sym e) ∙ none))) (λ (ne : n ≡ k → ⊥). old.all k (omega (arith, lt, ne)) is)
          (cases_eq n k);
      different = old.different;
      count = let last : one_at n ≡ 0 = ap (λ (b : Bool). if b then 0 else 1) (same_test (f n) 0 none) in omega (arith, old.count, last);
    }
    | inr is ↦ record {
      list = n ∷ old.list;
      small = λ k has. ⊎_elim (λ (e : n ≡ k). omega (arith, e)) (λ (more : Contains old.list k). omega (arith, old.small k more))
          (cons_cases n k old.list has);
      some = λ k has. ⊎_elim (λ (e : n ≡ k). subst (λ (j : ℕ). f j ≢ 0) e is) (old.some k) (cons_cases n k old.list has);
      all = λ k lt some. ⊎_elim
          (λ (e : n ≡ k). subst (Contains (n ∷ old.list)) e (here n old.list))
          (λ (ne : n ≡ k → ⊥). later n k old.list (old.all k (omega (arith, lt, ne)) some)) (cases_eq n k);
      different = different_more n old.list (λ k has e. omega (arith, e, old.small k has)) old.different;
      count = let last : one_at n ≡ 1 = ap (λ (b : Bool). if b then 0 else 1) (other_test (f n) 0 is) in omega (arith, old.count, last);
    }
  ]

-- lists of the same numbers, each once, have the same length
distinct-le : (xs ys : List ℕ) → AllPairs IsOther xs → ((x : ℕ) → Contains xs x → Contains ys x) → length xs ≤ length ys
distinct-le xs ys apart has = length-le_from_is_member nat_eq_equiv xs ys (IsDistinct-from_AllPairs Decides-eqb xs apart)
    (λ q member. (is_member-Decides Decides-eqb ys q).1 (has q ((is_member-Decides Decides-eqb xs q).0 member)))

pub mapped_total : (d : Disk) (n : ℕ) → ((page : ℕ) → IsMapped d page → page < d.geometry.pages) → HasSo (IsMapped d) n → n ≡ mapped_in d
unfolding mapped_in
mapped_total d n inside so =
    let all = listed (mappings d) d.geometry.pages in
    let more = distinct-le so.0 all.list so.2 (λ page has. let is = (so.1 page).0 has in all.all page (inside page is)
    (λ none. let some = (counts_mappings d page).1 is in omega (arith, some, none))) in
    let less = distinct-le all.list so.0 all.different (λ page has. let some = all.some page has in
    (so.1 page).1 ((counts_mappings d page).0 (omega (arith, some)))) in
    omega (arith, more, less, so.3, all.count)
