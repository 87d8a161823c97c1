-- The free pages are counted.
use Rattle.std.proofs.Common.{◌≡◌, ◌≢◌, inl, inr, ⊎_elim, ℕ, zero, suc, ◌<◌, ◌≤◌, List, [], ◌∷◌, length, get_or, refl, sym, subst, arith}
use Rattle.std.specs.Prelude.{Contains, AllPairs}
use Rattle.std.proofs.lemmas.Bool.{cases_lt, cases_eq}
use Rattle.std.proofs.lemmas.List.Elements.{Contains-get_or}
use Rattle.dn_model.specs.Disk.{Disk}
use Rattle.dn_model.specs.Counts.{IsFree}
use Rattle.dn_model.specs.Faults.{HasFree}
use Rattle.law_unique.proofs.Listings.{here, later, none_listed, cons_cases}
use Rattle.law_table_read.proofs.Decisions.{Decided}
use Rattle.law_image_fault.specs.Rules.{FreePages, are_few, are_two, FreePagesAreCounted}
use Rattle.law_image_fault.proofs.Pages.{decide_free}

abbrev IsOther : ℕ → ℕ → Type 0
IsOther p q = p ≢ q

-- a number before others that are different, and different from it
different_more : (p : ℕ) (ps : List ℕ) → ((q : ℕ) → Contains ps q → p ≢ q) → AllPairs IsOther ps → AllPairs IsOther (p ∷ ps)
different_more p ps apart pairs i zero d lt jl = absurd (omega (arith, lt))
different_more p ps apart pairs zero (suc j) d lt jl = apart (get_or ps j d) (Contains-get_or ps j d (omega (arith, jl)))
different_more p ps apart pairs (suc i) (suc j) d lt jl = pairs i j d (omega (arith, lt)) (omega (arith, jl))

module _ (d : Disk) where
  -- the free pages below n, each once
  record FreeBelow (n : ℕ) : Type 0 where
    pages : List ℕ
    small : (p : ℕ) → Contains pages p → p < n
    free : (p : ℕ) → Contains pages p → IsFree d p
    all : (p : ℕ) → p < n → IsFree d p → Contains pages p
    different : AllPairs IsOther pages

  module _ (n : ℕ) (below : FreeBelow n) where
    with_free : IsFree d n → FreeBelow (suc n)
    with_free is = record {
      pages = n ∷ below.pages;
      small = λ p has. ⊎_elim (λ (e : n ≡ p). omega (arith, e)) (λ (old : Contains below.pages p). omega (arith, below.small p old))
          (cons_cases n p below.pages has);
      free = λ p has. ⊎_elim (λ (e : n ≡ p). subst (IsFree d) e is) (below.free p) (cons_cases n p below.pages has);
      all = λ p lt is_free. ⊎_elim
          (λ (e : n ≡ p). subst (Contains (n ∷ below.pages)) e (here n below.pages))
          (λ (ne : n ≡ p → ⊥). later n p below.pages (below.all p (omega (arith, lt, ne)) is_free)) (cases_eq n p);
      different = different_more n below.pages (λ q has e. omega (arith, e, below.small q has)) below.different;
    }

    without : (IsFree d n → ⊥) → FreeBelow (suc n)
    without not = record {
      pages = below.pages;
      small = λ p has. omega (arith, below.small p has);
      free = below.free;
      all = λ p lt is_free. ⊎_elim (λ (e : n ≡ p). absurd (not (subst (IsFree d) (sym e) is_free)))
          (λ (ne : n ≡ p → ⊥). below.all p (omega (arith, lt, ne)) is_free) (cases_eq n p);
      different = below.different;
    }

    one_more : Decided (IsFree d n) → FreeBelow (suc n)
    one_more (inl is) = with_free is
    one_more (inr not) = without not

  frees : (n : ℕ) → FreeBelow n
  frees zero = record {
    pages = [];
    small = λ p has. absurd (none_listed p has);
    free = λ p has. absurd (none_listed p has);
    all = λ p lt is. absurd (omega (arith, lt));
    different = λ i j k lt jl. absurd (omega (arith, jl));
  }
  frees (suc n) = one_more n (frees n) (decide_free d n)

  module _ (f : FreeBelow d.geometry.pages) where
    counted : HasFree d (length f.pages)
    counted = (f.pages, (λ page. (f.free page, (λ is. f.all page is.data_page.high is))), f.different, refl)

    -- the first two of them
    by_list : (ps : List ℕ) → AllPairs IsOther ps → ((p : ℕ) → Contains ps p → IsFree d p) → 2 ≤ length ps → FreePages d
    by_list [] different free long = absurd (omega (arith, long))
    by_list (p ∷ []) different free long = absurd (omega (arith, long))
    by_list (p ∷ q ∷ ps) different free long =
        are_two p q (different 0 1 p (omega arith) (omega arith)) (free p (here p (q ∷ ps))) (free q (later p q (q ∷ ps) (here q ps)))

    few_or_two : FreePages d
    few_or_two = elim (cases_lt (length f.pages) 2) [
      | inl few ↦ are_few (length f.pages) counted few
      | inr long ↦ by_list f.pages f.different f.free long
    ]

pub free_pages_are_counted : FreePagesAreCounted
free_pages_are_counted d = few_or_two d (frees d d.geometry.pages)
