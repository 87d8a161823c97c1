-- An actor comes to hold inodes, one after another.
use Rattle.std.proofs.Common.{◌≡◌, ◌≢◌, ⊎_elim, ℕ, zero, suc, ◌+◌, ◌<◌, List, [], ◌∷◌, length, take, refl, sym, ◌∙◌, ap, subst, arith, Option, Some}
use Rattle.std.specs.Prelude.{Contains, get_or, slice_get, slice_set}
use Rattle.std.proofs.lemmas.Bool.{cases_eq}
use Rattle.std.proofs.lemmas.List.{take_more, length-set}
use Rattle.std.proofs.lemmas.List.Elements.{Contains-append_cases, Contains-append_left, Contains-push}
use Rattle.std.proofs.lemmas.Option.{slice_get-get_or}
use Rattle.law_unique.proofs.Listings.{none_listed, cons_cases}
use Rattle.dn_volume.specs.declared.volume.InodeState.{InodeState}
use Rattle.dn_volume.specs.Kept.{OfInodes}
use Rattle.begin_steps.specs.Starting.{TakesHold}

pub get_here : {X : Type 0} (xs : List X) (k : ℕ) (x : X) → k < length xs → slice_get (slice_set xs k x) k ≡ Some x
get_here [] k x lt = absurd (omega (arith, lt))
get_here (y ∷ ys) zero x lt = refl
get_here (y ∷ ys) (suc k) x lt = get_here ys k x (omega (arith, lt))

pub get_there : {X : Type 0} (xs : List X) (k j : ℕ) (x : X) → j ≢ k → slice_get (slice_set xs k x) j ≡ slice_get xs j
get_there [] k j x ne = refl
get_there (y ∷ ys) zero zero x ne = absurd (ne refl)
get_there (y ∷ ys) zero (suc j) x ne = refl
get_there (y ∷ ys) (suc k) zero x ne = refl
get_there (y ∷ ys) (suc k) (suc j) x ne = get_there ys k j x (λ e. ne (ap (λ (n : ℕ). suc n) e))

some_is : {X : Type 0} (o : Option X) (x y : X) → o ≡ Some x → o ≡ Some y → x ≡ y
some_is o x y one other = cc

-- none is held anew
pub hold_none : (who : ℕ) (ns : List InodeState) (held : List ℕ) → OfInodes (TakesHold who (take 0 held)) ns ns
hold_none who ns held = record {
  all = refl;
  each = λ ino n n' at at'. same ino n n' (some_is (slice_get ns ino) n n' at at');
}
  where
    same : (ino : ℕ) (n n' : InodeState) → n ≡ n' → TakesHold who (take 0 held) ino n n'
    same ino n n' is = subst (λ (m : InodeState). TakesHold who (take 0 held) ino n m) is
        (record { node = refl; mine = λ has. absurd (none_listed ino has); kept = λ out. refl })

-- one more is
module _ (who : ℕ) (olds nows : List InodeState) (held : List ℕ) (i x : ℕ) (lt : i < length held)
    (so_far : OfInodes (TakesHold who (take i held)) olds nows) (inside : get_or held i x < length nows) (was next : InodeState) (e : InodeState)
    (was_is : was ≡ get_or nows (get_or held i x) e) (next_is : next ≡ record was { holder = Some who }) where
  abbrev ino : ℕ
  ino = get_or held i x

  before_or_last : (j : ℕ) → Contains (take (i + 1) held) j → (Contains (take i held) j → ⊥) → j ≡ ino
  before_or_last j has out = ⊎_elim (λ before. absurd (out before)) (λ last. ⊎_elim (λ same. sym same) (λ none. absurd (none_listed j none))
      (cons_cases ino j [] last))
      (Contains-append_cases (take i held) (ino ∷ []) j (subst (λ (xs : List ℕ). Contains xs j) (take_more held i x lt) has))

  still_in : (j : ℕ) → Contains (take i held) j → Contains (take (i + 1) held) j
  still_in j has = subst (λ (xs : List ℕ). Contains xs j) (sym (take_more held i x lt)) (Contains-append_left (take i held) (ino ∷ []) j has)

  now_in : Contains (take (i + 1) held) ino
  now_in = subst (λ (xs : List ℕ). Contains xs ino) (sym (take_more held i x lt)) (Contains-push (take i held) ino)

  at_was : slice_get nows ino ≡ Some was
  at_was = slice_get-get_or nows ino e inside ∙ ap (λ (n : InodeState). Some n) (sym was_is)

  here : (n : InodeState) → slice_get olds ino ≡ Some n → (n' : InodeState) → next ≡ n' → TakesHold who (take (i + 1) held) ino n n'
  here n at n' is = subst (λ (m : InodeState). TakesHold who (take (i + 1) held) ino n m) (sym next_is ∙ is) (record {
    node = ap (λ (m : InodeState). record m { holder = Some who }) (so_far.each ino n was at at_was).node;
    mine = λ has. refl;
    kept = λ out. absurd (out now_in);
  })

  there : (j : ℕ) (n n' : InodeState) → j ≢ ino → TakesHold who (take i held) j n n' → TakesHold who (take (i + 1) held) j n n'
  there j n n' other takes = record {
    node = takes.node;
    mine = λ has. takes.mine (⊎_elim (λ before. before) (λ last. ⊎_elim (λ same. absurd (other (sym same))) (λ none. absurd (none_listed j none))
        (cons_cases ino j [] last))
        (Contains-append_cases (take i held) (ino ∷ []) j (subst (λ (xs : List ℕ). Contains xs j) (take_more held i x lt) has)));
    kept = λ out. takes.kept (λ before. out (still_in j before));
  }

  pub hold_next : OfInodes (TakesHold who (take (i + 1) held)) olds (slice_set nows ino next)
  hold_next = record {
    all = length-set nows ino next ∙ so_far.all;
    each = λ j n n' at at'. ⊎_elim
        (λ same. subst (λ (k : ℕ). TakesHold who (take (i + 1) held) k n n') (sym same)
        (here n (subst (λ (k : ℕ). slice_get olds k ≡ Some n) same at) n'
        (some_is (slice_get (slice_set nows ino next) ino) next n' (get_here nows ino next inside)
        (subst (λ (k : ℕ). slice_get (slice_set nows ino next) k ≡ Some n') same at'))))
        (λ other. there j n n' other (so_far.each j n n' at (sym (get_there nows ino j next other) ∙ at')))
        (cases_eq j ino);
  }
