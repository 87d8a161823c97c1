-- An image that a stop might have left is still one that it might have left, as the run goes on.
use Rattle.std.proofs.Common.{◌≡◌, ℕ, ◌≤◌, List, length, refl, sym, ◌∙◌, ap, subst, arith, length-append}
use Rattle.std.specs.Prelude.{slice_index, take, Option, Some, None}
use Rattle.std.proofs.lemmas.List.{take-append-le}
use Rattle.pm_device.specs.Past.{Past, MayHold, Left, LeftOf, steps, fresh, word_at, moment}
use Rattle.pm_device.specs.State.{State, IsSame}
use Rattle.pm_device.specs.Settled.{GoesOn, Extends, LeavesOnly, LeavesNow}
use Rattle.pm_device.proofs.Moments.{started}

left_goes_on : (p q : Past) (m : ℕ) (c : List ℕ) → GoesOn p q → m ≤ length p.calls → LeftOf p m c → LeftOf q m c
unfolding word_at
left_goes_on p q m c on le left = record {
  past = omega (arith, le, ap length on.calls, length-append p.calls on.more);
  size = left.size ∙ sym (ap length on.first);
  each = λ a lt. subst (λ w. MayHold w (slice_index c a)) (same a) (left.each a (omega (arith, lt, ap length on.first)));
}
  where
    same : (a : ℕ) → steps a (fresh (slice_index p.first a)) (take m p.calls) ≡ steps a (fresh (slice_index q.first a)) (take m q.calls)
    same a = sym (ap (λ xs. steps a (fresh (slice_index xs a)) (take m q.calls)) on.first
        ∙ ap (steps a (fresh (slice_index p.first a))) (ap (take m) on.calls ∙ take-append-le m p.calls on.more le))

pub left_later : (p q : Option Past) (m : ℕ) (c : List ℕ) → Extends p q → m ≤ moment p → Left p m c → Left q m c
left_later None q m c on le left = absurd left
left_later (Some p) None m c on le left = absurd on
left_later (Some p) (Some q) m c on le left = left_goes_on p q m c on le left

pub moment_later : (p q : Option Past) → Extends p q → moment p ≤ moment q
moment_later None None on = omega arith
moment_later None (Some q) on = absurd on
moment_later (Some p) None on = absurd on
moment_later (Some p) (Some q) on = omega (arith, ap length on.calls, length-append p.calls on.more)

-- where the past is told afterwards, it was told before
pub told_before : (p q : Option Past) → Extends p q → (x : Past) → q ≡ Some x → (y : Past) × (p ≡ Some y)
told_before None None on x is = absurd (cc is)
told_before None (Some q) on x is = absurd on
told_before (Some p) q on x is = (p, refl)

-- a call that does nothing
pub leaves_same : (s t : State) (P : List ℕ → Type 0) → IsSame s t → LeavesNow s P → LeavesOnly s t P
leaves_same s t P same now =
    let here = started s P now in
    record {
      extends = subst (λ (o : Option Past). Extends s.past o) (sym same.past) here.extends;
      each = λ m c late left. here.each m c late (subst (λ (o : Option Past). Left o m c) same.past left);
    }
