-- Copies of words: devices with no store that is undecided.
use Rattle.std.proofs.Common.{◌≡◌, ◌<◌, ◌∷◌, [], ℕ, zero, suc, ◌*◌, ◌%◌, List, length, get_or, Some, None, sym, ◌∙◌, ap, subst, arith}
use Rattle.std.specs.Prelude.{Option}
use Rattle.pm_device.specs.Past.{Past, Left, word_at}
use Rattle.pm_device.specs.State.{State, Agree}
use Rattle.pm_device.specs.Settled.{Still, OfWord, Each, IsRead}
use Rattle.pm_device.specs.New.{IsNew}
use Rattle.pm_device.specs.Runs.{length-read_after}
use Rattle.dn_volume.specs.declared.volume.Volume.{Volume}
use Rattle.dn_volume.specs.Agrees.{Agrees, agrees_with, is_stopped}

only_value : (v w i : ℕ) → v ≡ w → i < length (v ∷ []) → get_or (v ∷ []) i 0 ≡ w
only_value v w zero same inside = same
only_value v w (suc i) same inside = absurd (omega arith)

word_settled : (words : List ℕ) (s : State) (a : ℕ) → s.now ≡ words → OfWord (Some (record { first = words; calls = [] })) a (Each (IsRead s a))
unfolding word_at
word_settled words s a same = λ i late inside. only_value (get_or words a 0) (get_or s.now a 0) i (ap (λ (xs : List ℕ). get_or xs a 0) (sym same))
    inside

pub new_still : (words : List ℕ) (s : State) → IsNew words s → Still s
new_still words s new = λ a inside. subst (λ (p : Option Past). OfWord p a (Each (IsRead s a))) (sym new.past) (word_settled words s a new.now)

-- an image has as many words as are read
pub left_length : (now : List ℕ) (p : Option Past) (m : ℕ) (c : List ℕ) → Agree now p → Left p m c → length c ≡ length now
left_length now None m c agree left = absurd left
left_length now (Some p) m c agree left = left.size ∙ sym (ap length agree ∙ length-read_after p.first p.calls)

whole_pages : (n pages : ℕ) → n ≡ 512 * pages → n % 512 ≡ 0
whole_pages n pages is = omega (arith, is)

-- those of a volume are whole pages
pub volume_even : {D F : Type 0} (state : D → State) (v : Volume D F) → Agrees state v → length (state v.device).now % 512 ≡ 0
volume_even state v (agrees_with d volume) = whole_pages (length (state v.device).now) d.geometry.pages volume.fast.long
volume_even state v (is_stopped stopped) = whole_pages (length (state v.device).now) v.parts.geometry.pages stopped.long

-- and those of an image that its device leaves
pub left_even : {D F : Type 0} (state : D → State) (v : Volume D F) → Agrees state v → Agree (state v.device).now (state v.device).past
    → (m : ℕ) (c : List ℕ) → Left (state v.device).past m c → length c % 512 ≡ 0
left_even state v agrees agree m c left =
    ap (λ (n : ℕ). n % 512) (left_length (state v.device).now (state v.device).past m c agree left) ∙ volume_even state v agrees

-- what is read of a device that was just made is what its past leaves
pub new_agrees : (words : List ℕ) (s : State) → IsNew words s → Agree s.now s.past
new_agrees words s new = subst (λ (p : Option Past). Agree s.now p) (sym new.past) new.now
