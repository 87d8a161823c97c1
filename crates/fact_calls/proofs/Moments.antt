-- Moments of calls that are made one after another, and what images have at each.
use Rattle.std.proofs.Common.{◌≡◌, inl, inr, ℕ, ◌+◌, ◌<◌, ◌≤◌, List, [], ◌∷◌, ◌++◌, length, refl, sym, ◌∙◌, ap, subst, arith, length-append}
use Rattle.std.specs.Prelude.{slice_index}
use Rattle.std.proofs.lemmas.List.{get_or_append_left, get_or_at}
use Rattle.std.proofs.lemmas.Bool.{cases_lt}
use Rattle.pm_device.specs.Past.{Left, moment}
use Rattle.pm_device.specs.State.{State}
use Rattle.pm_device.specs.Settled.{Extends}
use Rattle.pm_device.proofs.Only.{left-extends}
use Rattle.dn_model.specs.Course.{IsCountAt}
use Rattle.law_course.proofs.Course.{moment-extends, left-moment, count-append}
use Rattle.fact_calls.specs.Made.{HasMoments}

-- where none is later all are counted
counted : (moments : List ℕ) (last m k : ℕ) → ((i : ℕ) → i < length moments → slice_index moments i ≤ last) → last ≤ m → IsCountAt moments m k
    → k ≡ length moments
counted moments last m k bound here count = elim (cases_lt k (length moments)) [
  | inl few ↦ omega (arith, here, count.after k (omega arith) few, bound k few)
  | inr enough ↦ omega (arith, enough, count.few)
]

-- no call was made yet
pub moments_begin : (s : State) (H : ℕ → List ℕ → Type 0) → ((c : List ℕ) → Left s.past (moment s.past) c → H 0 c)
    → HasMoments (moment s.past) 0 s H
moments_begin s H now = record {
  moments = [];
  one_each = refl;
  rising = λ i j le lt. omega (arith, lt);
  bounds = λ i lt. omega (arith, lt);
  images = λ m k c late left count.
      let here : m ≡ moment s.past = omega (arith, late, left-moment s.past m c left) in
      let none : k ≡ 0 = omega (arith, count.few) in
      subst (λ (j : ℕ). H j c) (sym none) (now c (subst (λ (j : ℕ). Left s.past j c) here left));
}

pub moments_weaken : (start n : ℕ) (s : State) (H K : ℕ → List ℕ → Type 0)
    → ((m k : ℕ) (c : List ℕ) → start ≤ m → Left s.past m c → H k c → K k c) → HasMoments start n s H → HasMoments start n s K
moments_weaken start n s H K gives has = record {
  moments = has.moments;
  one_each = has.one_each;
  rising = has.rising;
  bounds = has.bounds;
  images = λ m k c late left count. gives m k c late left (has.images m k c late left count);
}

module _ (start n : ℕ) (s t : State) (H : ℕ → List ℕ → Type 0) (has : HasMoments start n s H) (begun : start ≤ moment s.past)
    (extends : Extends s.past t.past) (each : (m : ℕ) (c : List ℕ) → moment s.past ≤ m → Left t.past m c → H n c) where
  later : moment s.past ≤ moment t.past
  later = moment-extends s.past t.past extends

  stays : (m k : ℕ) (c : List ℕ) → start ≤ m → Left t.past m c → IsCountAt has.moments m k → H k c
  stays m k c late left count = elim (cases_lt m (moment s.past)) [
    | inl early ↦ has.images m k c late (left-extends s.past t.past m c extends (omega (arith, early)) left) count
    | inr here ↦ subst (λ (j : ℕ). H j c)
        (sym (counted has.moments (moment s.past) m k (λ i lt. (has.bounds i lt).1) here count ∙ has.one_each)) (each m c here left)
  ]

  -- one call more was begun
  pub moments_stay : HasMoments start n t H
  moments_stay = record {
    moments = has.moments;
    one_each = has.one_each;
    rising = has.rising;
    bounds = λ i lt. let b = has.bounds i lt in (b.0, omega (arith, b.1, later));
    images = stays;
  }

  -- and made
  module _ (ends : (c : List ℕ) → Left t.past (moment t.past) c → H (n + 1) c) where
    abbrev all : List ℕ
    all = has.moments ++ moment t.past ∷ []

    long : length all ≡ n + 1
    long = length-append has.moments (moment t.past ∷ []) ∙ ap (λ (k : ℕ). k + 1) has.one_each

    at_old : (i : ℕ) → i < n → slice_index all i ≡ slice_index has.moments i
    at_old i lt = get_or_append_left has.moments (moment t.past ∷ []) 0 i (omega (arith, lt, has.one_each))

    at_new : (i : ℕ) → n ≡ i → slice_index all i ≡ moment t.past
    at_new i is = get_or_at has.moments (moment t.past) [] 0 i (has.one_each ∙ is)

    bounded : (i : ℕ) → i < length all → (start ≤ slice_index all i) × (slice_index all i ≤ moment t.past)
    bounded i lt = elim (cases_lt i n) [
      | inl inside ↦
          let b = has.bounds i (omega (arith, inside, has.one_each)) in
          (omega (arith, at_old i inside, b.0), omega (arith, at_old i inside, b.1, later))
      | inr past ↦ let here = at_new i (omega (arith, past, lt, long)) in (omega (arith, here, begun, later), omega (arith, here))
    ]

    rises : (i j : ℕ) → i ≤ j → j < length all → slice_index all i ≤ slice_index all j
    rises i j le lt = elim (cases_lt j n) [
      | inl inside ↦ omega (
        arith,
        at_old i (omega (arith, le, inside)),
        at_old j inside,
        has.rising i j le (omega (arith, inside, has.one_each)),
      )
      | inr past ↦ omega (arith, at_new j (omega (arith, past, lt, long)), (bounded i (omega (arith, le, lt))).1)
    ]

    pub moments_on : HasMoments start (n + 1) t H
    moments_on = record {
      moments = all;
      one_each = long;
      rising = rises;
      bounds = bounded;
      images = λ m k c late left count. elim (cases_lt m (moment t.past)) [
        | inl before ↦ stays m k c late left
            (count-append has.moments (moment t.past) m k before (λ i lt. omega (arith, later, (has.bounds i lt).1)) count)
        | inr end ↦
            let m_is : m ≡ moment t.past = omega (arith, end, left-moment t.past m c left) in
            let k_is : k ≡ n + 1 = counted all (moment t.past) m k (λ i lt. (bounded i lt).1) end count ∙ long in
            subst (λ (j : ℕ). H j c) (sym k_is) (ends c (subst (λ (j : ℕ). Left t.past j c) m_is left))
      ];
    }
