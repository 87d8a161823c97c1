-- Numbers that are read word by word.
use Rattle.std.proofs.Common.{◌≡◌, ℕ, List, [], ◌∷◌, ◌++◌, Option, Some, None, refl, sym, ap, ◌∙◌, append_assoc}
use Rattle.std.specs.Option.{option_map}
use Rattle.std.proofs.lemmas.List.{append-nil}
use Rattle.dn_script.specs.Text.{number_of}
use Rattle.dn_script.specs.Line.{numbers_of, ◌>>=◌}

-- numbers that are read already, before those that are to come
abbrev pub with_read : List ℕ → Option (List ℕ) → Option (List ℕ)
with_read front more = option_map (λ ns. front ++ ns) more

pub with_read-none : (more : Option (List ℕ)) → with_read [] more ≡ more
with_read-none None = refl
with_read-none (Some ns) = refl

-- one number more
with_read_more : (front : List ℕ) (n : ℕ) (more : Option (List ℕ)) → with_read front (more >>= (λ ns. Some (n ∷ ns))) ≡ with_read (front ++ n ∷ [])
    more
with_read_more front n None = refl
with_read_more front n (Some ns) = ap Some (sym (append_assoc front (n ∷ []) ns))

pub with_read_next : (front : List ℕ) (all ws : List (List ℕ)) (w : List ℕ) (n : ℕ) → all ≡ w ∷ ws → number_of w ≡ Some n
    → with_read front (numbers_of all) ≡ with_read (front ++ n ∷ []) (numbers_of ws)
with_read_next front all ws w n e found =
    ap (λ a. with_read front (numbers_of a)) e ∙ ap (λ o. with_read front (o >>= (λ m. numbers_of ws >>= (λ ns. Some (m ∷ ns)))))
    found ∙ with_read_more front n (numbers_of ws)

pub with_read_bad : (front : List ℕ) (all ws : List (List ℕ)) (w : List ℕ) → all ≡ w ∷ ws → number_of w ≡ None
    → with_read front (numbers_of all) ≡ None
with_read_bad front all ws w e none =
    ap (λ a. with_read front (numbers_of a)) e ∙ ap (λ o. with_read front (o >>= (λ m. numbers_of ws >>= (λ ns. Some (m ∷ ns))))) none

pub with_read_all : (front : List ℕ) (all : List (List ℕ)) → all ≡ [] → with_read front (numbers_of all) ≡ Some front
with_read_all front all e = ap (λ a. with_read front (numbers_of a)) e ∙ ap Some (append-nil front)

pub ruleset number_steps = (with_read-none, with_read_next, with_read_bad, with_read_all)
