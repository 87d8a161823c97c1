-- Commands by the clients that they belong to.
use Rattle.std.proofs.Common.{◌≡◌, ◌≢◌, ℕ, ◌+◌, ◌<◌, cond, eqb, List, [], ◌∷◌, ◌++◌, refl, sym, ap, ◌∙◌, inl, inr, arith, add-one}
use Rattle.std.specs.Option.{option_to_list}
use Rattle.std.proofs.lemmas.Bool.{cases_eq, eq-eqb, ne_eqb}
use Rattle.dn_script.specs.declared.job.Line.{Line}
use Rattle.dn_script.specs.declared.draft.Owned.{Owned}
use Rattle.dn_script.specs.Job.{lines_of, others_of, client_with, clients_to}

-- one command more
pub lines_of_own : (n : ℕ) (os : List Owned) (o : Owned) → o.who ≡ n → lines_of n (os ++ o ∷ []) ≡ lines_of n os ++ o.line ∷ []
lines_of_own n [] o e = rw (eq-eqb o.who n e) refl
lines_of_own n (x ∷ os) o e = elim (cases_eq x.who n) [
  | inl same ↦ rw (eq-eqb x.who n same) (ap (λ ls. x.line ∷ ls) (lines_of_own n os o e))
  | inr other ↦ rw (ne_eqb x.who n other) (lines_of_own n os o e)
]

pub lines_of_other : (n : ℕ) (os : List Owned) (o : Owned) → o.who ≢ n → lines_of n (os ++ o ∷ []) ≡ lines_of n os
lines_of_other n [] o ne = rw (ne_eqb o.who n ne) refl
lines_of_other n (x ∷ os) o ne = elim (cases_eq x.who n) [
  | inl same ↦ rw (eq-eqb x.who n same) (ap (λ ls. x.line ∷ ls) (lines_of_other n os o ne))
  | inr other ↦ rw (ne_eqb x.who n other) (lines_of_other n os o ne)
]

pub others_of_own : (n : ℕ) (os : List Owned) (o : Owned) → o.who ≡ n → others_of n (os ++ o ∷ []) ≡ others_of n os
others_of_own n [] o e = rw (eq-eqb o.who n e) refl
others_of_own n (x ∷ os) o e = elim (cases_eq x.who n) [
  | inl same ↦ rw (eq-eqb x.who n same) (others_of_own n os o e)
  | inr other ↦ rw (ne_eqb x.who n other) (ap (λ ys. x ∷ ys) (others_of_own n os o e))
]

pub others_of_other : (n : ℕ) (os : List Owned) (o : Owned) → o.who ≢ n → others_of n (os ++ o ∷ []) ≡ others_of n os ++ o ∷ []
others_of_other n [] o ne = rw (ne_eqb o.who n ne) refl
others_of_other n (x ∷ os) o ne = elim (cases_eq x.who n) [
  | inl same ↦ rw (eq-eqb x.who n same) (others_of_other n os o ne)
  | inr other ↦ rw (ne_eqb x.who n other) (ap (λ ys. x ∷ ys) (others_of_other n os o ne))
]

-- the commands of the others have all that isn't this client's
lines_of_others : (m n : ℕ) (os : List Owned) → m ≢ n → lines_of m (others_of n os) ≡ lines_of m os
lines_of_others m n [] ne = refl
lines_of_others m n (x ∷ os) ne = elim (cases_eq x.who n) [
  | inl same ↦
      let other : x.who ≢ m = λ e. ne (sym e ∙ same) in
      rw (eq-eqb x.who n same, ne_eqb x.who m other) (lines_of_others m n os ne)
  | inr other ↦ rw (ne_eqb x.who n other) (ap (λ ls. cond (eqb x.who m) (x.line ∷ ls) ls) (lines_of_others m n os ne))
]

-- one client more
clients_to_more : (n : ℕ) (named : List ℕ) (owned : List Owned) → clients_to (n + 1) named owned ≡ clients_to n named owned ++ option_to_list
    (client_with named (n + 1) (lines_of (n + 1) owned))
unfolding clients_to
clients_to_more n named owned = rw add-one refl

pub clients_to_next : (n : ℕ) (named : List ℕ) (owned : List Owned) (clients new : List (ℕ × List Line)) (own : List Line) →
    clients ≡ clients_to n named owned → own ≡ lines_of (n + 1) owned → new ≡ clients ++ option_to_list (client_with named (n + 1) own) →
    new ≡ clients_to (n + 1) named owned
clients_to_next n named owned clients new own before lines pushed =
    pushed ∙ ap (λ cs. cs ++ option_to_list (client_with named (n + 1) own)) before
    ∙ ap (λ ls. clients_to n named owned ++ option_to_list (client_with named (n + 1) ls)) lines ∙ sym (clients_to_more n named owned)

-- what the others keep of a later client
pub lines_of_left : (m n : ℕ) (left others owned : List Owned) → n + 1 < m → others ≡ others_of (n + 1) left → lines_of m left ≡ lines_of m owned
    → lines_of m others ≡ lines_of m owned
lines_of_left m n left others owned later kept same =
    let apart : m ≢ n + 1 = omega arith in
    ap (lines_of m) kept ∙ lines_of_others m (n + 1) left apart ∙ same

pub clients_to_none : (named : List ℕ) (owned : List Owned) → clients_to 0 named owned ≡ []
unfolding clients_to
clients_to_none named owned = refl
