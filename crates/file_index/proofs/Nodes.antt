-- What the steps on the nodes of a radix index do.
use Rattle.std.proofs.Common.{◌≡◌, ℕ, zero, suc, ◌+◌, ◌-◌, ◌/◌, ◌%◌, ◌<◌, ◌≤◌, List, [], ◌∷◌, ◌++◌, length, get_or, set, take, replicate, Option, Some, None, Vec, refl, sym, ap, subst, ◌∙◌, inl, inr, arith}
use Rattle.std.specs.Prelude.{All, IfNone}
use Rattle.std.specs.declared.alloc.Global.{Global}
use Rattle.std.proofs.lemmas.Bool.{cases_lt, cases_eq}
use Rattle.std.proofs.lemmas.List.{get_or-set_same, get_or-set_other, get_or_past, get_or-replicate, get_or-map, length-replicate, length-set, length_push, map-set, length-map, length-take, map-append}
use Rattle.std.proofs.lemmas.List.Elements.{All-get_or, All-set, All-pop, All-push, All-weaker, All-head, All-tail, All-nil}
use Rattle.file_index.specs.Radix.{cells, look, written, filled, occupied, IsNode, IsFresh, IsRadix, OpensNode, OpensRoot}
use Rattle.file_index.proofs.Radix.{look_in, look_outside, look_past}
use Rattle.file_index.proofs.Rooms.{occupied_one, occupied_none, filled-set, filled-le, room_more}

pub filled_start : (X : Type 0) → 64 + filled {X = X} [] ≡ 64
unfolding filled
filled_start X = refl

module _ {X : Type 0} where
  pub written_by : (nodes : List (Vec (Option X) Global)) (q : ℕ) (cell : Option X) (v w : Vec (Option X) Global)
      → q / 64 < length nodes → v ≡ get_or nodes (q / 64) v → w.items ≡ set v.items (q % 64) cell
      → cells (set nodes (q / 64) w) ≡ written (cells nodes) q cell
  unfolding written
  written_by nodes q cell v w in_root read is =
      let there : v.items ≡ get_or (cells nodes) (q / 64) [] =
      ap (λ v. v.items) read ∙ sym (get_or-map (λ (v : Vec (Option X) Global). v.items) nodes (q / 64) v [] in_root) in
      map-set (λ (v : Vec (Option X) Global). v.items) nodes (q / 64) w
      ∙ ap (set (cells nodes) (q / 64)) (is ∙ ap (λ n. set n (q % 64) cell) there)

  module _ (at : ℕ) (nodes spare rest : List (List (Option X))) (node : List (Option X)) (valid : IsRadix nodes spare)
      (within : at < length nodes) (none : length (get_or nodes at []) ≡ 0) (popped : spare ≡ rest ++ node ∷ []) where
    long_node : length node ≡ 64
    long_node = ap length (All-pop IsFresh spare rest (Some node) popped valid.fresh).1 ∙ length-replicate {A = Option X} 64 None

    same_look : (q : ℕ) → look (set nodes at node) q ≡ look nodes q
    same_look q =
        elim (cases_eq (q / 64) at) [
          | inl same ↦
              look_in (set nodes at node) q ∙ ap (λ i. get_or (get_or (set nodes at node) i []) (q % 64) None) same
              ∙ ap (λ n. get_or n (q % 64) None)
              (get_or-set_same nodes at node [] within ∙ (All-pop IsFresh spare rest (Some node) popped valid.fresh).1)
              ∙ get_or-replicate 64 (q % 64) None None (omega arith)
              ∙ sym (look_outside nodes q (ap (λ i. length (get_or nodes i [])) same ∙ none))
          | inr differ ↦
              look_in (set nodes at node) q ∙ ap (λ n. get_or n (q % 64) None) (get_or-set_other nodes at (q / 64) node [] differ)
              ∙ sym (look_in nodes q)
        ]

    one_more : filled (set nodes at node) ≡ filled nodes + 1
    one_more = omega (arith, filled-set nodes at node within, occupied_none (get_or nodes at []) none, occupied_one node (omega (arith, long_node)))

    one_less : length spare ≡ length rest + 1
    one_less = ap length popped ∙ length_push rest node

    pub opens_one : OpensNode at nodes (set nodes at node) spare rest
    opens_one = record {
      valid = record {
        root = λ _. length-set nodes at node ∙ valid.root (omega arith);
        whole = All-set IsNode nodes at node (λ _. long_node) valid.whole;
        fresh = (All-pop IsFresh spare rest (Some node) popped valid.fresh).0;
      };
      long = ap length (get_or-set_same nodes at node [] within) ∙ long_node;
      same = same_look;
      room = room_more (filled nodes) (length spare) (filled (set nodes at node)) (length rest) 1
          (omega (arith, one_less)) (λ full. omega (arith, one_less, one_more));
      room_stays = λ some. absurd (omega arith);
    }

  filled_none : (nodes : List (List (Option X))) → All (λ n. length n ≡ 0) nodes → filled nodes ≡ 0
  unfolding filled
  filled_none [] none = refl
  filled_none (n ∷ ns) none =
      omega (arith, occupied_none n (All-head (λ n. length n ≡ 0) n ns none), filled_none ns (All-tail (λ n. length n ≡ 0) n ns none))

  none_there : (nodes : List (List (Option X))) (k : ℕ) → All (λ n. length n ≡ 0) nodes → length (get_or nodes k []) ≡ 0
  none_there nodes k none =
      elim (cases_lt k (length nodes)) [
        | inl within ↦ All-get_or (λ n. length n ≡ 0) nodes k [] within none
        | inr past ↦ ap length (get_or_past nodes k [] past)
      ]

  pub opens_root : (nodes : List (List (Option X))) → length nodes ≡ 64 → All (λ n. length n ≡ 0) nodes → OpensRoot [] nodes
  opens_root nodes long none = record {
    long = long;
    whole = λ _. All-weaker (λ n. length n ≡ 0) IsNode (λ n is some. absurd (omega arith)) nodes none;
    same = λ q. look_outside nodes q (none_there nodes (q / 64) none) ∙ sym (look_outside [] q refl);
    filled = filled_none nodes none ∙ sym (filled_none [] (All-nil (λ n. length n ≡ 0)));
  }

  filled_next : (nodes : List (List (Option X))) (i : ℕ) → i < length nodes
      → filled (take (suc i) nodes) ≡ filled (take i nodes) + occupied (get_or nodes i [])
  unfolding filled
  filled_next [] i within = absurd (omega arith)
  filled_next (n ∷ ns) zero within = omega arith
  filled_next (n ∷ ns) (suc i) within = omega (arith, filled_next ns i (omega arith))

  pub filled_more : (nodes : List (List (Option X))) (i : ℕ) → i < length nodes
      → filled (take (i + 1) nodes) ≡ filled (take i nodes) + occupied (get_or nodes i [])
  filled_more nodes i within =
      let is : suc i ≡ i + 1 = omega arith in
      subst (λ m. filled (take m nodes) ≡ filled (take i nodes) + occupied (get_or nodes i [])) is (filled_next nodes i within)

  pub node_len : (nodes : List (Vec (Option X) Global)) (at : ℕ) (v : Vec (Option X) Global)
      → at < length nodes → v ≡ get_or nodes at v → length (get_or (cells nodes) at []) ≡ v.len
  node_len nodes at v within read =
      ap length (get_or-map (λ (v : Vec (Option X) Global). v.items) nodes at v [] within)
      ∙ ap (λ (v : Vec (Option X) Global). length v.items) (sym read) ∙ sym v.ok.0

  pub opens_popped : (at : ℕ) (nodes spare rest : List (Vec (Option X) Global)) (node : Vec (Option X) Global) → IsRadix (cells nodes) (cells spare)
      → at < length nodes → length (get_or (cells nodes) at []) ≡ 0 → spare ≡ rest ++ node ∷ []
      → OpensNode at (cells nodes) (cells (set nodes at node)) (cells spare) (cells rest)
  opens_popped at nodes spare rest node valid within none popped =
      let f = λ (v : Vec (Option X) Global). v.items in
      let inside : at < length (cells nodes) = omega (arith, length-map nodes f) in
      subst (λ ns. OpensNode at (cells nodes) ns (cells spare) (cells rest)) (sym (map-set f nodes at node))
      (opens_one at (cells nodes) (cells spare) (cells rest) node.items valid inside none (ap cells popped ∙ map-append f rest (node ∷ [])))

  pub missing_step : (nodes : List (Vec (Option X) Global)) (i : ℕ) (v : Vec (Option X) Global) (m r : ℕ) → length nodes ≤ 64 → i < length nodes
      → v ≡ get_or nodes i v → m + filled (take i (cells nodes)) ≡ 64 → r ≡ occupied v.items
      → (r ≤ m) × (m - r + filled (take (i + 1) (cells nodes)) ≡ 64)
  missing_step nodes i v m r few within read so_far is =
      let f = λ (v : Vec (Option X) Global). v.items in
      let long = length-map nodes f in
      let there : get_or (cells nodes) i [] ≡ v.items = get_or-map f nodes i v [] within ∙ ap f (sym read) in
      let next : filled (take (i + 1) (cells nodes)) ≡ filled (take i (cells nodes)) + r =
      filled_more (cells nodes) i (omega arith) ∙ ap (λ o. filled (take i (cells nodes)) + o) (ap occupied there ∙ sym is) in
      let least : filled (take (i + 1) (cells nodes)) ≤ 64 =
      omega (arith, filled-le (take (i + 1) (cells nodes)), length-take (i + 1) (cells nodes)) in
      (omega arith, omega arith)

  -- what is read of a node is what its cells hold
  pub node_read : (nodes : List (Vec (Option X) Global)) (at : ℕ) (v : Vec (Option X) Global)
      → at < length nodes → v ≡ get_or nodes at v → get_or (cells nodes) at [] ≡ v.items
  node_read nodes at v within read =
      let f = λ (v : Vec (Option X) Global). v.items in
      get_or-map f nodes at v [] within ∙ ap f (sym read)

  pub look_node : (nodes : List (Vec (Option X) Global)) (q : ℕ) (v : Vec (Option X) Global)
      → q / 64 < length nodes → v ≡ get_or nodes (q / 64) v → look (cells nodes) q ≡ get_or v.items (q % 64) None
  look_node nodes q v within read = look_in (cells nodes) q ∙ ap (λ n. get_or n (q % 64) None) (node_read nodes (q / 64) v within read)

  pub look_short : (nodes : List (Vec (Option X) Global)) (q : ℕ) (v : Vec (Option X) Global)
      → q / 64 < length nodes → v ≡ get_or nodes (q / 64) v → v.len ≤ q % 64 → None ≡ look (cells nodes) q
  look_short nodes q v within read short =
      sym (look_node nodes q v within read ∙ get_or_past v.items (q % 64) None (omega (arith, v.ok.0)))

  pub look_beyond : (nodes : List (Vec (Option X) Global)) (q : ℕ) → length nodes ≤ q / 64 → look (cells nodes) q ≡ None
  look_beyond nodes q past = look_past (cells nodes) q (omega (arith, length-map nodes (λ (v : Vec (Option X) Global). v.items)))

  -- the places of a node without cells hold nothing
  pub none_in_node : (nodes : List (List (Option X))) (q k : ℕ) → length (get_or nodes (q / 64) []) ≡ 0 → q - q % 64 ≤ k → k < q → look nodes k ≡ None
  none_in_node nodes q k none low high =
      let same : q / 64 ≡ k / 64 = omega arith in
      look_outside nodes k (ap (λ i. length (get_or nodes i [])) (sym same) ∙ none)

  -- one more spare node
  pub fresh_more : (nodes : List (Vec (Option X) Global)) (v : Vec (Option X) Global) → All IsFresh (cells nodes) → v.items ≡ replicate 64 None
      → All IsFresh (cells (nodes ++ v ∷ []))
  fresh_more nodes v fresh is =
      let f = λ (v : Vec (Option X) Global). v.items in
      subst (All IsFresh) (sym (map-append f nodes (v ∷ []))) (All-push IsFresh (cells nodes) v.items fresh is)

-- what follows from an absence follows from what it says
pub none_then : {X : Type 0} (r : Option X) {P Q : Type 0} → IfNone r P → (P → Q) → IfNone r Q
none_then None is then_ = then_ is
none_then (Some x) is then_ = is
