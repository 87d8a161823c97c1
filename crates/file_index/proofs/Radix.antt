-- What the cells of a radix index hold, and the map that they make.
use Rattle.std.proofs.Common.{◌≡◌, ◌≢◌, ℕ, zero, suc, ◌/◌, ◌%◌, ◌<◌, ◌≤◌, cond, List, [], ◌++◌, length, get_or, set, Option, Some, None, refl, sym, ap, subst, ◌∙◌, inl, inr, arith}
use Rattle.std.specs.Ordering.{is_eq, nat_cmp}
use Rattle.std.specs.Cmp.{nat_cmp_total, tied_itself}
use Rattle.std.specs.FinMap.{get, find, get-from_entries, nat_cmp-IsAntisymmetric}
use Rattle.std.proofs.lemmas.Bool.{cases_lt, cases_eq}
use Rattle.std.proofs.lemmas.List.{get_or-set_same, get_or-set_other, get_or_past, length-set}
use Rattle.file_index.specs.Radix.{look, written, entry_of, placed, radix_map}
use Rattle.file_index.proofs.Lookups.{other}

module _ {X : Type 0} where
  -- a write, at its place and elsewhere
  pub look-written : (nodes : List (List (Option X))) (q : ℕ) (cell : Option X)
      → q / 64 < length nodes → q % 64 < length (get_or nodes (q / 64) []) → look (written nodes q cell) q ≡ cell
  unfolding look written
  look-written nodes q cell in_root in_node =
      let new = set (get_or nodes (q / 64) []) (q % 64) cell in
      ap (λ n. get_or n (q % 64) None) (get_or-set_same nodes (q / 64) new [] in_root)
      ∙ get_or-set_same (get_or nodes (q / 64) []) (q % 64) cell None in_node

  pub look-written_other : (nodes : List (List (Option X))) (q : ℕ) (cell : Option X) (p : ℕ)
      → q / 64 < length nodes → p ≢ q → look (written nodes q cell) p ≡ look nodes p
  unfolding look written
  look-written_other nodes q cell p in_root differ =
      let new = set (get_or nodes (q / 64) []) (q % 64) cell in
      elim (cases_eq (p / 64) (q / 64)) [
        | inl same ↦
            ap (λ i. get_or (get_or (set nodes (q / 64) new) i []) (p % 64) None) same
            ∙ ap (λ n. get_or n (p % 64) None) (get_or-set_same nodes (q / 64) new [] in_root)
            ∙ get_or-set_other (get_or nodes (q / 64) []) (q % 64) (p % 64) cell None (λ e. differ (omega arith))
            ∙ ap (λ i. get_or (get_or nodes i []) (p % 64) None) (sym same)
        | inr other ↦ ap (λ n. get_or n (p % 64) None) (get_or-set_other nodes (q / 64) (p / 64) new [] other)
      ]

  pub length-written : (nodes : List (List (Option X))) (q : ℕ) (cell : Option X) → length (written nodes q cell) ≡ length nodes
  unfolding written
  length-written nodes q cell = length-set nodes (q / 64) (set (get_or nodes (q / 64) []) (q % 64) cell)

  pub node-written : (nodes : List (List (Option X))) (q : ℕ) (cell : Option X) (k : ℕ)
      → q / 64 < length nodes → length (get_or (written nodes q cell) k []) ≡ length (get_or nodes k [])
  unfolding written
  node-written nodes q cell k in_root =
      let new = set (get_or nodes (q / 64) []) (q % 64) cell in
      elim (cases_eq k (q / 64)) [
        | inl same ↦
            ap (λ i. length (get_or (set nodes (q / 64) new) i [])) same ∙ ap length (get_or-set_same nodes (q / 64) new [] in_root)
            ∙ length-set (get_or nodes (q / 64) []) (q % 64) cell ∙ ap (λ i. length (get_or nodes i [])) (sym same)
        | inr differ ↦ ap length (get_or-set_other nodes (q / 64) k new [] differ)
      ]

  -- a place without a node holds nothing
  pub look_outside : (nodes : List (List (Option X))) (q : ℕ) → length (get_or nodes (q / 64) []) ≡ 0 → look nodes q ≡ None
  unfolding look
  look_outside nodes q none = get_or_past (get_or nodes (q / 64) []) (q % 64) None (omega arith)

  pub look_past : (nodes : List (List (Option X))) (q : ℕ) → length nodes ≤ q / 64 → look nodes q ≡ None
  look_past nodes q past = look_outside nodes q (ap length (get_or_past nodes (q / 64) [] past))

  -- nodes that agree at a place's cell
  pub look_in : (nodes : List (List (Option X))) (q : ℕ) → look nodes q ≡ get_or (get_or nodes (q / 64) []) (q % 64) None
  unfolding look
  look_in nodes q = refl

  find-entry_other : (q n : ℕ) (o : Option X) (rest : List (ℕ × X)) → q ≢ n → find nat_cmp q (entry_of n o ++ rest) ≡ find nat_cmp q rest
  unfolding entry_of
  find-entry_other q n None rest differ = refl
  find-entry_other q n (Some x) rest differ = ap (λ b. cond b (Some x) (find nat_cmp q rest)) (other nat_cmp nat_cmp-IsAntisymmetric q n differ)

  find-entry : (n : ℕ) (o : Option X) (rest : List (ℕ × X)) → find nat_cmp n rest ≡ None → find nat_cmp n (entry_of n o ++ rest) ≡ o
  unfolding entry_of
  find-entry n None rest none = none
  find-entry n (Some x) rest none = ap (λ r. cond (is_eq r) (Some x) (find nat_cmp n rest)) (tied_itself nat_cmp_total n)

  find-past : (cell : ℕ → Option X) (n q : ℕ) → n ≤ q → find nat_cmp q (placed cell n) ≡ None
  unfolding placed
  find-past cell zero q past = refl
  find-past cell (suc n) q past = find-entry_other q n (cell n) (placed cell n) (λ e. omega arith) ∙ find-past cell n q (omega arith)

  find-placed : (cell : ℕ → Option X) (n q : ℕ) → q < n → find nat_cmp q (placed cell n) ≡ cell q
  unfolding placed
  find-placed cell zero q below = absurd (omega arith)
  find-placed cell (suc n) q below =
      elim (cases_eq q n) [
        | inl same ↦
            subst (λ k. find nat_cmp k (entry_of n (cell n) ++ placed cell n) ≡ cell k) (sym same)
            (find-entry n (cell n) (placed cell n) (find-past cell n n (omega arith)))
        | inr differ ↦ find-entry_other q n (cell n) (placed cell n) differ ∙ find-placed cell n q (omega arith)
      ]

  -- the map leads each place to what its cell holds
  pub get-radix : (nodes : List (List (Option X))) → length nodes ≤ 64 → (q : ℕ) → get (radix_map nodes) q ≡ look nodes q
  unfolding radix_map
  get-radix nodes few q =
      get-from_entries nat_cmp_total (placed (look nodes) 4096) q
      ∙ elim (cases_lt q 4096) [
        | inl below ↦ find-placed (look nodes) 4096 q below
        | inr past ↦ find-past (look nodes) 4096 q past ∙ sym (look_past nodes q (omega arith))
      ]
