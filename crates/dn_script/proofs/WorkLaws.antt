-- Lemmas on generated operations.
use Rattle.std.proofs.Common.{◌≡◌, ◌∙◌, ℕ, suc, List, [], ◌∷◌, ◌++◌, ◌<◌, ◌≤◌, ◌-◌, ◌+◌, ◌*◌, ◌/◌, ◌%◌, refl, sym, subst, arith, replicate, append_assoc}
use Rattle.std.proofs.lemmas.Bool.Decides.{nat_tests}
use Rattle.std.proofs.lemmas.List.{append-nil}
use Rattle.dn_model.specs.declared.op.Op.{Op}
use Rattle.dn_model.specs.declared.op.Op.TheVariants.{Create, Write, Cut, Remove, Rename}
use Rattle.dn_script.specs.Work.{next_state, work_name, op_of, op_picked, ops_after}

-- the operation of each kind
pub is_create : (k f p v : ℕ) → k ≡ 0 → op_of k f p v ≡ Create (work_name f)
is_create k f p v is = rw is refl

pub is_write : (k f p v : ℕ) → 1 ≤ k → k ≤ 4 → op_of k f p v ≡ Write (work_name f) (p * 4096) (replicate 4096 (v + 1))
is_write k f p v low high = grind (arith, nat_tests)

pub is_cut : (k f p v : ℕ) → k ≡ 5 → op_of k f p v ≡ Cut (work_name f) (p * 4096)
is_cut k f p v is = rw is refl

pub is_remove : (k f p v : ℕ) → k ≡ 6 → op_of k f p v ≡ Remove (work_name f)
is_remove k f p v is = rw is refl

pub is_rename : (k f p v : ℕ) → 6 < k → op_of k f p v ≡ Rename (work_name f) (work_name ((f + p) % 16))
is_rename k f p v high = grind (arith, nat_tests)

-- the operation of a choice that a number makes
pub is_picked : (r k f p v : ℕ) (op : Op) → op ≡ op_of k f p v → k ≡ r % 8 → f ≡ r / 8 % 16 → p ≡ r / 128 % 32 → v ≡ r / 4096 % 4 → op ≡ op_picked r
is_picked r k f p v op made kind file page value = made ∙ rw kind (rw file (rw page (rw value refl)))

-- one operation goes from those that are left to those that were made
pub one_made : (made : List Op) (left x : ℕ) → (made ++ op_picked (next_state x / 4294967296) ∷ []) ++ ops_after left (next_state x) ≡ made ++ ops_after (suc left) x
unfolding ops_after
one_made made left x = append_assoc made (op_picked (next_state x / 4294967296) ∷ []) (ops_after left (next_state x))

-- what was made and what is left stays all, where one more is made
pub made_more : (old new all : List Op) (n k x y : ℕ) (op : Op) → k < n → y ≡ next_state x → op ≡ op_picked (y / 4294967296) → new ≡ old ++ op ∷ []
    → old ++ ops_after (n - k) x ≡ all → new ++ ops_after (n - (k + 1)) y ≡ all
made_more old new all n k x y op more next picked pushed before =
    let left : n - k ≡ suc (n - (k + 1)) = omega arith in
    let same : old ++ ops_after (suc (n - (k + 1))) x ≡ all = subst (λ m. old ++ ops_after m x ≡ all) left before in
    rw pushed (rw picked (rw next (one_made old (n - (k + 1)) x ∙ same)))

-- and in the end nothing is left
pub made_all : (made all : List Op) (n k x : ℕ) → n ≤ k → made ++ ops_after (n - k) x ≡ all → made ≡ all
unfolding ops_after
made_all made all n k x over before =
    let left : n - k ≡ 0 = omega arith in
    let same : made ++ ops_after 0 x ≡ all = subst (λ m. made ++ ops_after m x ≡ all) left before in
    sym (append-nil made) ∙ same
