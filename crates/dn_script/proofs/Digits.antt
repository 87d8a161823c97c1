-- Digits that are read from the left.
use Rattle.std.proofs.Common.{
  ◌≡◌,
  ℕ,
  ◌+◌,
  ◌-◌,
  ◌*◌,
  ◌<◌,
  ◌≤◌,
  Bool,
  true,
  false,
  ◌&&◌,
  cond,
  ltb,
  List,
  [],
  ◌∷◌,
  length,
  get_or,
  drop,
  Option,
  Some,
  None,
  refl,
  sym,
  ap,
  ◌∙◌,
  inl,
  inr,
  arith,
}
use Rattle.std.specs.Char.{is_ascii_digit}
use Rattle.std.specs.List.{list_all}
use Rattle.std.specs.Option.{option_and_then}
use Rattle.std.proofs.lemmas.Bool.{cases_lt, lt-ltb, le-ltb}
use Rattle.std.proofs.lemmas.List.{drop_more, drop_all}
use Rattle.dn_script.specs.Text.{digits_after, next_of, value_after}

-- more digits make no less
value_after-ge : (n : ℕ) (ds : List ℕ) → n ≤ value_after n ds
unfolding value_after
value_after-ge n [] = omega arith
value_after-ge n (d ∷ ds) = omega (arith, value_after-ge (10 * n + (d - 48)) ds)

-- one digit of several, where m is the number with it, and v the number with all of them
one_digit : (f : ℕ → Option ℕ) (digit rest : Bool) (m v limit : ℕ) → m ≤ v → f m ≡ cond (rest && ltb v limit) (Some v) None →
    cond ((digit && rest) && ltb v limit) (Some v) None ≡ option_and_then f (cond (digit && ltb m limit) (Some m) None)
one_digit f false rest m v limit less next = refl
one_digit f true rest m v limit less next = elim (cases_lt m limit) [
  | inl below ↦ rw (lt-ltb m limit below) (sym next)
  | inr above ↦
      let v_above : limit ≤ v = omega arith in
      rw (le-ltb m limit above, le-ltb v limit v_above) (elim rest as (λ t. cond (t && false) (Some v) None ≡ None) [ true ↦ refl | false ↦ refl ])
]

digits_after-cons : (n d : ℕ) (ds : List ℕ) → digits_after n (d ∷ ds) ≡ option_and_then (λ m. digits_after m ds) (next_of n d)
unfolding value_after
digits_after-cons n d ds =
    let m = 10 * n + (d - 48) in
    one_digit (λ k. digits_after k ds) (is_ascii_digit d) (list_all is_ascii_digit ds) m (value_after m ds) 18446744073709551616 (value_after-ge m ds)
    refl

-- the next digit of those that are left
digits_more : (n : ℕ) (ds : List ℕ) (i : ℕ) → i < length ds → digits_after n (drop i ds) ≡ option_and_then (λ m. digits_after m (drop (i + 1) ds))
    (next_of n (get_or ds i 0))
digits_more n ds i inside = ap (digits_after n) (drop_more ds i 0 inside) ∙ digits_after-cons n (get_or ds i 0) (drop (i + 1) ds)

pub digits_stop : (n : ℕ) (ds : List ℕ) (i : ℕ) → i < length ds → next_of n (get_or ds i 0) ≡ None → digits_after n (drop i ds) ≡ None
digits_stop n ds i inside stops = digits_more n ds i inside ∙ ap (option_and_then (λ m. digits_after m (drop (i + 1) ds))) stops

pub digits_go : (n m : ℕ) (ds : List ℕ) (i : ℕ) → i < length ds → next_of n (get_or ds i 0) ≡ Some m → digits_after n (drop i ds) ≡ digits_after m
    (drop (i + 1) ds)
digits_go n m ds i inside goes = digits_more n ds i inside ∙ ap (option_and_then (λ k. digits_after k (drop (i + 1) ds))) goes

pub digits_end : (n : ℕ) (ds : List ℕ) (i : ℕ) → length ds ≤ i → n < 18446744073709551616 → digits_after n (drop i ds) ≡ Some n
unfolding value_after
digits_end n ds i all small = rw (drop_all i ds all, lt-ltb n 18446744073709551616 small) refl
