-- What is known of an image where the past is told.
use Rattle.std.proofs.Common.{◌≡◌, ℕ, ◌-◌, ◌<◌, List, length, sym, ◌∙◌, ap, arith}
use Rattle.std.specs.Prelude.{slice_index, Option, Some, None, Result, Ok, Err, OnOk}
use Rattle.pm_device.specs.Past.{Past, MayHold, Left}
use Rattle.pm_device.specs.State.{State, Agree}
use Rattle.pm_device.specs.Settled.{Each, Extends, OfWord, MayLeave, IsSettled, LeavesOnly, StoresOnly, IsOldBut, word_now}
use Rattle.pm_device.specs.MemLaws.{placed_now}
use Rattle.pm_device.specs.Runs.{length-read_after, now_ends_in}

abbrev pub IsTold : Option Past → Type 0
IsTold None = ⊥
IsTold (Some p) = Unit {0}

-- the past was told, and the image has the device's size
pub record IsImage (s : State) (c : List ℕ) : Type 0 where
  pub told : IsTold s.past
  pub size : length c ≡ length s.now

image_of : (s : State) (q : Option Past) (m : ℕ) (c : List ℕ) → Agree s.now s.past → Extends s.past q → Left q m c → IsImage s c
image_of s q m c agree on left = let both = go s.past q agree on left in record { told = both.0; size = both.1 }
  where
    go : (p q : Option Past) → Agree s.now p → Extends p q → Left q m c → IsTold p × (length c ≡ length s.now)
    go p None agree on left = absurd left
    go None (Some q) agree on left = absurd on
    go (Some p) (Some q) agree on left = (tt, left.size ∙ ap length on.first ∙ sym (ap length agree ∙ length-read_after p.first p.calls))

-- a fact of each image gives another, of which the size and the told past are known
pub leaves_only-image : (s t : State) (P Q : List ℕ → Type 0) → Agree s.now s.past → ((c : List ℕ) → IsImage s c → P c → Q c) → LeavesOnly s t P
    → LeavesOnly s t Q
leaves_only-image s t P Q agree gives only = record {
  extends = only.extends;
  each = λ m c late left. gives c
      (image_of s t.past m c agree only.extends left) (only.each m c late left);
}

pub leaves_only-both : (s t : State) (P Q : List ℕ → Type 0) → LeavesOnly s t P → LeavesOnly s t Q → LeavesOnly s t (λ c. P c × Q c)
leaves_only-both s t P Q one other = record { extends = one.extends; each = λ m c late left. (one.each m c late left, other.each m c late left) }

pub stores_leave : (W : ℕ → Type 0) (s t : State) → StoresOnly W s t → LeavesOnly s t (IsOldBut W s)
stores_leave W s t only = record { extends = only.extends; each = λ m c late left. only.images m c late left }

-- a value that a stop may leave in a settled word is the one that is read
pub settled_value_is : (s : State) (a v : ℕ) → IsTold s.past → MayLeave s a v → IsSettled s a → v ≡ slice_index s.now a
settled_value_is s a v told may settled = go s.past told may settled
  where
    go : (p : Option Past) → IsTold p → OfWord p a (λ w. MayHold w v) → OfWord p a (Each (λ x. x ≡ slice_index s.now a)) → v ≡ slice_index s.now a
    go None told may settled = absurd told
    go (Some p) told may settled = sym may.value ∙ settled may.place may.late may.known

-- the value that is read is one that a stop may leave
pub now_may_stay : (s : State) (a : ℕ) → Agree s.now s.past → a < length s.now → MayLeave s a (slice_index s.now a)
now_may_stay s a agree lt = go s.past agree
  where
    go : (p : Option Past) → Agree s.now p → OfWord p a (λ w. MayHold w (slice_index s.now a))
    go None agree = tt
    go (Some p) agree =
        let here : length p.first ≡ length s.now = sym (ap length agree ∙ length-read_after p.first p.calls) in
        let ends = now_ends_in p a (omega (arith, here, lt)) in
        let placed = placed_now p a in
        record {
          place = length (word_now p a).values - 1;
          late = omega (arith, placed.durable);
          known = omega (arith, placed.durable);
          value = ends.last ∙ ap (λ xs. slice_index xs a) (sym agree);
        }

pub on_ok_map : {T E : Type 0} (r : Result T E) (P Q : Type 0) → (P → Q) → OnOk r P → OnOk r Q
on_ok_map (Ok x) P Q gives holds = gives holds
on_ok_map (Err e) P Q gives holds = tt
