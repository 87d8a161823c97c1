-- Devices with no store that is undecided.
use Rattle.std.proofs.Common.{◌≡◌, ◌<◌, ◌∷◌, [], ℕ, zero, suc, List, length, get_or, Option, Some, sym, ap, subst, arith}
use Rattle.pm_device.specs.Past.{Past, word_at}
use Rattle.pm_device.specs.State.{State}
use Rattle.pm_device.specs.Settled.{Still, OfWord, Each, IsRead}
use Rattle.pm_device.specs.New.{IsNew}

only_value : (v w i : ℕ) → v ≡ w → i < length (v ∷ []) → get_or (v ∷ []) i 0 ≡ w
only_value v w zero same inside = same
only_value v w (suc i) same inside = absurd (omega arith)

word_settled : (words : List ℕ) (s : State) (a : ℕ) → s.now ≡ words → OfWord (Some (record { first = words; calls = [] })) a (Each (IsRead s a))
unfolding word_at
word_settled words s a same = λ i late inside. only_value (get_or words a 0) (get_or s.now a 0) i (ap (λ (xs : List ℕ). get_or xs a 0) (sym same))
    inside

-- one that was just made
pub new_still : (words : List ℕ) (s : State) → IsNew words s → Still s
new_still words s new = λ a inside. subst (λ (p : Option Past). OfWord p a (Each (IsRead s a))) (sym new.past) (word_settled words s a new.now)
