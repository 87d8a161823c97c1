-- Which images are one image once they are rolled.
use Rattle.std.proofs.Common.{
  ◌≡◌,
  ◌≢◌,
  ◌⊎◌,
  inl,
  inr,
  ⊎_elim,
  ℕ,
  zero,
  suc,
  ◌+◌,
  ◌*◌,
  ◌<◌,
  ◌≤◌,
  List,
  length,
  sym,
  ◌∙◌,
  subst,
  arith,
  length-set,
  get_or-set_same,
  get_or-set_other,
}
use Rattle.std.specs.Prelude.{slice_index}
use Rattle.std.proofs.lemmas.Bool.{cases_eq}
use Rattle.std.proofs.lemmas.Grind.{same_number_lists}
use Rattle.pm_layout.specs.Geometry.{gate_word}
use Rattle.dn_model.specs.Rolled.{rolled, put_back, pair_address, pair_value, IsGate, IsJournaled}
use Rattle.dn_model.proofs.RollBack.{length-put_back, put_back_other, put_back_at}
use Rattle.name_journal.specs.Pairs.{CanRoll}
use Rattle.name_journal.proofs.Named.{journaled_low}

pub length-rolled : (c : List ℕ) → length (rolled c) ≡ length c
unfolding rolled
length-rolled c = length-set (put_back c (slice_index c gate_word) c) gate_word 0 ∙ length-put_back c c (slice_index c gate_word)

pub rolled_gate : (c : List ℕ) → 513 ≤ length c → slice_index (rolled c) gate_word ≡ 0
unfolding rolled
rolled_gate c long = get_or-set_same (put_back c (slice_index c gate_word) c) gate_word 0 0
    (omega (arith, long, length-put_back c c (slice_index c gate_word)))

-- a word that no pair names stays
pub rolled_other : (c : List ℕ) (a : ℕ) → a ≢ gate_word → ((i : ℕ) → i < slice_index c gate_word → a ≢ pair_address c i)
    → slice_index (rolled c) a ≡ slice_index c a
unfolding rolled
rolled_other c a ne none = get_or-set_other (put_back c (slice_index c gate_word) c) gate_word a 0 0 ne ∙ put_back_other c c (slice_index c gate_word)
    a none

-- a word that a pair names has the pair's value
pub rolled_pair : (c : List ℕ) (i : ℕ) → i < slice_index c gate_word → pair_address c i ≢ gate_word → pair_address c i < length c
    → ((h k : ℕ) → h < slice_index c gate_word → k < slice_index c gate_word → pair_address c h ≡ pair_address c k → h ≡ k)
    → slice_index (rolled c) (pair_address c i) ≡ pair_value c i
unfolding rolled
rolled_pair c i lt ne within apart =
    get_or-set_other (put_back c (slice_index c gate_word) c) gate_word (pair_address c i) 0 0 ne ∙ put_back_at c c (slice_index c gate_word) i lt
    within apart

-- some of the first n places is this one, or none is
pub cases_at : (f : ℕ → ℕ) (a n : ℕ) → ((i : ℕ) × (i < n) × (a ≡ f i)) ⊎ ((i : ℕ) → i < n → a ≢ f i)
cases_at f a zero = inr (λ i lt. absurd (omega arith))
cases_at f a (suc n) = elim (cases_eq a (f n)) [
  | inl e ↦ inl (n, omega arith, e)
  | inr ne ↦ ⊎_elim (λ found. inl (found.0, omega (arith, found.1), found.2))
      (λ none. inr (λ i lt. ⊎_elim (λ (e : i ≡ n). subst (λ (k : ℕ). a ≢ f k) (sym e) ne) (λ (other : i ≢ n). none i (omega arith)) (cases_eq i n)))
      (cases_at f a n)
]

pub cases_named : (c : List ℕ) (a n : ℕ) → ((i : ℕ) × (i < n) × (a ≡ pair_address c i)) ⊎ ((i : ℕ) → i < n → a ≢ pair_address c i)
cases_named c = cases_at (pair_address c)

-- The pairs of w are put back, some of them or all, and then the gate is closed.
pub record IsRolling (w c : List ℕ) : Type 0 where
  pub size : length c ≡ length w
  pub gate : (slice_index c gate_word ≡ slice_index w gate_word)
      ⊎ ((slice_index c gate_word ≡ 0) × ((i : ℕ) → i < slice_index w gate_word → slice_index c (pair_address w i) ≡ pair_value w i))
  pub others : (a : ℕ) → a < length w → a ≢ gate_word → ((i : ℕ) → i < slice_index w gate_word → a ≢ pair_address w i) → slice_index c a ≡ slice_index
      w a

pub can_roll : (inodes : ℕ) (w : List ℕ) → IsGate inodes w → ((a : ℕ) → IsJournaled inodes a → a < length w) → CanRoll w
can_roll inodes w is table = record {
  few = is.few;
  high = λ i lt. journaled_low inodes (pair_address w i) (is.addresses i lt);
  within = λ i lt. table (pair_address w i) (is.addresses i lt);
  apart = is.apart;
}

module _ (w : List ℕ) (is : CanRoll w) (long : 1024 ≤ length w) where
  not_gate : (i : ℕ) → i < slice_index w gate_word → pair_address w i ≢ gate_word
  not_gate i lt e = omega (arith, is.high i lt, e)

  here : (i : ℕ) → i < slice_index w gate_word → slice_index (rolled w) (pair_address w i) ≡ pair_value w i
  here i lt = rolled_pair w i lt (not_gate i lt) (is.within i lt) is.apart

  -- word by word
  by_words : (c : List ℕ) → length c ≡ length w → slice_index c gate_word ≡ 0
      → ((i : ℕ) → i < slice_index w gate_word → slice_index c (pair_address w i) ≡ pair_value w i)
      → ((a : ℕ) → a < length w → a ≢ gate_word → ((i : ℕ) → i < slice_index w gate_word → a ≢ pair_address w i) → slice_index c a ≡ slice_index w a)
      → c ≡ rolled w
  by_words c size shut pairs others = same_number_lists c (rolled w) (size ∙ sym (length-rolled w)) (λ a lt. elim (cases_eq a gate_word) [
    | inl e ↦ subst (λ (b : ℕ). slice_index c b ≡ slice_index (rolled w) b) (sym e) (shut ∙ sym (rolled_gate w (omega (arith, long))))
    | inr ne ↦ ⊎_elim
        (λ (found : (i : ℕ) × (i < slice_index w gate_word) × (a ≡ pair_address w i)).
        subst (λ (b : ℕ). slice_index c b ≡ slice_index (rolled w) b) (sym found.2) (pairs found.0 found.1 ∙ sym (here found.0 found.1)))
        (λ (none : (i : ℕ) → i < slice_index w gate_word → a ≢ pair_address w i). others a (omega (arith, lt, size)) ne none ∙ sym
        (rolled_other w a ne none))
        (cases_named w a (slice_index w gate_word))
  ])

  -- the words of the journal's page are no pair's
  page_word : (k : ℕ) → k < 1024 → (i : ℕ) → i < slice_index w gate_word → k ≢ pair_address w i
  page_word k lt i few e = omega (arith, is.high i few, e, lt)

  module _ (c : List ℕ) (rolling : IsRolling w c) where
    shut_rolled : slice_index c gate_word ≡ 0 → (a : ℕ) → a ≢ gate_word → slice_index (rolled c) a ≡ slice_index c a
    shut_rolled shut a ne = rolled_other c a ne (λ i lt. absurd (omega (arith, lt, shut)))

    pub rolled_same_shut : slice_index c gate_word ≡ 0 → ((i : ℕ) → i < slice_index w gate_word → slice_index c (pair_address w i) ≡ pair_value w i)
        → rolled c ≡ rolled w
    rolled_same_shut shut pairs = by_words (rolled c) (length-rolled c ∙ rolling.size) (rolled_gate c (omega (arith, long, rolling.size)))
        (λ i lt. shut_rolled shut (pair_address w i) (not_gate i lt) ∙ pairs i lt) (λ a lt ne none. shut_rolled shut a ne ∙ rolling.others a lt ne
        none)

    module _ (opened : slice_index c gate_word ≡ slice_index w gate_word) where
      address_same : (i : ℕ) → i < slice_index w gate_word → pair_address c i ≡ pair_address w i
      address_same i lt = rolling.others (520 + 2 * i) (omega (arith, lt, is.few, long)) (λ e. omega (arith, e))
          (page_word (520 + 2 * i) (omega (arith, lt, is.few)))

      value_same : (i : ℕ) → i < slice_index w gate_word → pair_value c i ≡ pair_value w i
      value_same i lt = rolling.others (521 + 2 * i) (omega (arith, lt, is.few, long)) (λ e. omega (arith, e))
          (page_word (521 + 2 * i) (omega (arith, lt, is.few)))

      apart : (h k : ℕ) → h < slice_index c gate_word → k < slice_index c gate_word → pair_address c h ≡ pair_address c k → h ≡ k
      apart h k hl kl e = is.apart h k (omega (arith, hl, opened)) (omega (arith, kl, opened))
          (sym (address_same h (omega (arith, hl, opened))) ∙ e ∙ address_same k (omega (arith, kl, opened)))

      put : (i : ℕ) → i < slice_index w gate_word → slice_index (rolled c) (pair_address w i) ≡ pair_value w i
      put i lt = subst (λ (a : ℕ). slice_index (rolled c) a ≡ pair_value w i) (address_same i lt)
          (rolled_pair c i (omega (arith, lt, opened)) (λ e. not_gate i lt (sym (address_same i lt) ∙ e))
          (omega (arith, address_same i lt, is.within i lt, rolling.size)) apart ∙ value_same i lt)

      pub rolled_same_open : rolled c ≡ rolled w
      rolled_same_open = by_words (rolled c) (length-rolled c ∙ rolling.size) (rolled_gate c (omega (arith, long, rolling.size))) put
          (λ a lt ne none. rolled_other c a ne (λ i few e. none i (omega (arith, few, opened)) (e ∙ address_same i (omega (arith, few, opened)))) ∙
          rolling.others a lt ne none)

    pub rolled_same : rolled c ≡ rolled w
    rolled_same = ⊎_elim (λ (opened : slice_index c gate_word ≡ slice_index w gate_word). rolled_same_open opened)
        (λ (shut : (slice_index c gate_word ≡ 0) × ((i : ℕ) → i < slice_index w gate_word → slice_index c (pair_address w i) ≡ pair_value w i)).
        rolled_same_shut shut.0 shut.1) rolling.gate

  -- where all is put back and the gate is closed, it is the rolled image
  pub is_rolled : (c : List ℕ) → length c ≡ length w → slice_index c gate_word ≡ 0
      → ((i : ℕ) → i < slice_index w gate_word → slice_index c (pair_address w i) ≡ pair_value w i)
      → ((a : ℕ) → a < length w → a ≢ gate_word → ((i : ℕ) → i < slice_index w gate_word → a ≢ pair_address w i) → slice_index c a ≡ slice_index w a)
      → c ≡ rolled w
  is_rolled = by_words
