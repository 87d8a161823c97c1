-- What the calls of a page map make of it.
use Rattle.std.proofs.Common.{◌≡◌, ℕ, ◌+◌, ◌-◌, ◌/◌, ◌%◌, ◌*◌, ◌^◌, ◌<◌, ◌≤◌, List, [], length, get_or, set, Option, Vec, Some, None, IsSome, refl, sym, ap, subst, ◌∙◌, inl, inr, arith, min}
use Rattle.std.specs.Prelude.{All}
use Rattle.std.specs.Ordering.{nat_cmp}
use Rattle.std.specs.declared.alloc.Global.{Global}
use Rattle.std.specs.Cmp.{nat_cmp_total}
use Rattle.std.specs.FinMap.{get, empty, get-empty, same_map, nat_cmp-IsAntisymmetric}
use Rattle.std.proofs.lemmas.Bool.{cases_lt, false≢true}
use Rattle.std.proofs.lemmas.List.{length-map, length-set, get_or_past}
use Rattle.std.proofs.lemmas.List.Elements.{All-get_or, All-from_get_or}
use Rattle.file_index.specs.Index.{Index, Puts, CutsOff, IsLastBelow}
use Rattle.file_index.specs.Radix.{cells, look, written, filled, occupied, radix_map, radix_room, IsNode, IsRadix, OpensNode, OpensRoot, Clears, ClearsFrom, IsLastCell}
use Rattle.file_index.proofs.Radix.{look-written, look-written_other, length-written, node-written, look_outside, look_past, get-radix}
use Rattle.file_index.proofs.Rooms.{occupied_one, occupied_none, filled-set, filled-le, filled_gap, room_more, room_spare, room_enough}

module _ {X : Type 0} where
  -- the index with these nodes and so many spare ones
  abbrev pub radix_index : List (List (Option X)) → ℕ → Index nat_cmp X
  radix_index nodes spare = record { map = radix_map nodes; room = radix_room (filled nodes) spare }

  pub few_nodes : (nodes spare : List (List (Option X))) → IsRadix nodes spare → length nodes ≤ 64
  few_nodes nodes spare valid =
      elim (cases_lt 0 (length nodes)) [ inl some ↦ omega (arith, valid.root (omega arith)) | inr none ↦ omega arith ]

  pub cells_long : (nodes : List (Vec (Option X) Global)) → length (cells nodes) ≡ length nodes
  cells_long nodes = length-map nodes (λ (v : Vec (Option X) Global). v.items)

  pub opened_long : (at : ℕ) (nodes mid spare rest : List (List (Option X))) → OpensNode at nodes mid spare rest → length mid ≡ 64
  opened_long at nodes mid spare rest opens =
      elim (cases_lt 0 (length mid)) [
        | inl some ↦ opens.valid.root (omega arith)
        | inr none ↦
            let past : get_or mid at [] ≡ [] = get_or_past mid at [] (omega arith) in
            absurd (omega (arith, opens.long, ap length past))
      ]

  pub new_empty : radix_map {X = X} [] ≡ empty
  new_empty =
      same_map nat_cmp_total nat_cmp-IsAntisymmetric (radix_map []) empty
      (λ q. get-radix [] (omega arith) q ∙ look_past [] q (omega arith) ∙ sym (get-empty nat_cmp q))

  same_occupied : (a b : List (Option X)) → length a ≡ length b → occupied a ≡ occupied b
  same_occupied a b same =
      elim (cases_lt 0 (length a)) [
        | inl some ↦ occupied_one a some ∙ sym (occupied_one b (omega arith))
        | inr none ↦ occupied_none a (omega arith) ∙ sym (occupied_none b (omega arith))
      ]

  filled-written : (nodes : List (List (Option X))) (q : ℕ) (cell : Option X) → q / 64 < length nodes → filled (written nodes q cell) ≡ filled nodes
  unfolding written
  filled-written nodes q cell in_root =
      let old = get_or nodes (q / 64) [] in
      omega (
        arith,
        filled-set nodes (q / 64) (set old (q % 64) cell) in_root,
        same_occupied (set old (q % 64) cell) old (length-set old (q % 64) cell),
      )

  whole-written : (nodes : List (List (Option X))) (q : ℕ) (cell : Option X)
      → q / 64 < length nodes → All IsNode nodes → All IsNode (written nodes q cell)
  whole-written nodes q cell in_root whole =
      All-from_get_or IsNode (written nodes q cell) [] (λ i lt some.
      let same = node-written nodes q cell i in_root in
      let inside : i < length nodes = omega (arith, length-written nodes q cell) in
      same ∙ All-get_or IsNode nodes i [] inside whole (omega arith))

  pub radix-written : (nodes spare : List (List (Option X))) (q : ℕ) (cell : Option X)
      → q / 64 < length nodes → IsRadix nodes spare → IsRadix (written nodes q cell) spare
  radix-written nodes spare q cell in_root valid = record {
    root = λ _. length-written nodes q cell ∙ valid.root (omega arith);
    whole = whole-written nodes q cell in_root valid.whole;
    fresh = valid.fresh;
  }

  module _ (nodes spare : List (List (Option X))) (q : ℕ) (valid : IsRadix nodes spare) where
    reads : (p : ℕ) → get (radix_map nodes) p ≡ look nodes p
    reads p = get-radix nodes (few_nodes nodes spare valid) p

    module _ (room : get (radix_map nodes) q ≡ None → 0 < radix_room (filled nodes) (length spare)) where
      pub root_long : length nodes ≡ 64
      root_long =
          elim (cases_lt 0 (length nodes)) [
            | inl some ↦ valid.root (omega arith)
            | inr none ↦
                let some = room (reads q ∙ look_past nodes q (omega arith)) in
                let spares = room_spare (filled nodes) (length spare) (omega (arith, filled-le nodes)) some in
                valid.root (omega arith)
          ]

      pub spare_there : q < 4096 → get_or nodes (q / 64) [] ≡ [] → 0 < length spare
      spare_there below none =
          let some = room (reads q ∙ look_outside nodes q (ap length none)) in
          let gap = filled_gap nodes (q / 64) (omega (arith, root_long)) (ap length none) in
          room_spare (filled nodes) (length spare) (omega (arith, root_long)) some

      pub set_puts : (mid rest : List (List (Option X))) (x : X) → q < 4096 → OpensNode (q / 64) nodes mid spare rest
          → Puts q x (radix_index nodes (length spare)) (radix_index (written mid q (Some x)) (length rest))
      set_puts mid rest x below opens = record {
        there = reads_now q ∙ look-written mid q (Some x) in_root (omega (arith, opens.long));
        others = λ p differ. reads_now p ∙ look-written_other mid q (Some x) p in_root differ ∙ opens.same p ∙ sym (reads p);
        room = subst (λ f. radix_room (filled nodes) (length spare) ≤ radix_room f (length rest) + 1) (sym filled_is) opens.room;
        room_stays = λ some.
            subst (λ f. radix_room (filled nodes) (length spare) ≤ radix_room f (length rest)) (sym filled_is) (opens.room_stays (has some));
      }
        where
          in_root : q / 64 < length mid
          in_root = omega (arith, opened_long (q / 64) nodes mid spare rest opens)

          reads_now : (p : ℕ) → get (radix_map (written mid q (Some x))) p ≡ look (written mid q (Some x)) p
          reads_now p =
              get-radix (written mid q (Some x)) (omega (arith, length-written mid q (Some x), opened_long (q / 64) nodes mid spare rest opens)) p

          filled_is : filled (written mid q (Some x)) ≡ filled mid
          filled_is = filled-written mid q (Some x) in_root

          has : IsSome (get (radix_map nodes) q) → 0 < length (get_or nodes (q / 64) [])
          has some =
              elim (cases_lt 0 (length (get_or nodes (q / 64) []))) [
                | inl more ↦ more
                | inr none ↦
                    let nothing : IsSome {T = X} None = subst IsSome (reads q ∙ look_outside nodes q (omega arith)) some in
                    absurd (false≢true nothing)
              ]

    pub get_is : get (radix_map nodes) q ≡ look nodes q
    get_is = reads q

    pub cut_off : (new : List (List (Option X))) → ClearsFrom q nodes new
        → CutsOff q (radix_index nodes (length spare)) (radix_index new (length spare))
    cut_off new clears = record {
      gone = λ k le. reads_new k ∙ clears.gone k le;
      below = λ k lt. reads_new k ∙ clears.below k lt ∙ sym (reads k);
      room = subst (λ f. radix_room (filled nodes) (length spare) ≤ radix_room f (length spare)) (sym clears.filled) (omega arith);
    }
      where
        reads_new : (k : ℕ) → get (radix_map new) k ≡ look new k
        reads_new k = get-radix new (omega (arith, few_nodes nodes spare valid, clears.long)) k

    pub radix_cleared : (new : List (List (Option X))) → ClearsFrom q nodes new → IsRadix new spare
    radix_cleared new clears = record {
      root = λ some. clears.long ∙ valid.root (omega (arith, clears.long));
      whole = clears.whole valid.whole;
      fresh = valid.fresh;
    }

    pub last_is : (last : ℕ) → IsLastCell q nodes last → IsLastBelow q (radix_map nodes) last
    last_is last is = record {
      below = is.below;
      mapped = subst IsSome (sym (reads last)) is.mapped;
      between = λ k low high. reads k ∙ is.between k low high;
    }

    pub none_is : ((k : ℕ) → k < q → look nodes k ≡ None) → (k : ℕ) → k < q → get (radix_map nodes) k ≡ None
    none_is none k lt = reads k ∙ none k lt

  pub clears_all : (from to : ℕ) (old new : List (List (Option X))) → Clears from to old new → length old ≤ to / 64 → ClearsFrom from old new
  clears_all from to old new clears end = record {
    whole = clears.whole;
    long = clears.long;
    filled = clears.filled;
    gone = λ k le. elim (cases_lt k to) [ inl lt ↦ clears.gone k le lt | inr past ↦ look_past new k (omega (arith, clears.long)) ];
    below = clears.below;
  }

  pub clears_none : (from : ℕ) (nodes : List (List (Option X))) → Clears from from nodes nodes
  clears_none from nodes = record { whole = λ w. w; long = refl; filled = refl; gone = λ k le lt. absurd (omega arith); below = λ k lt. refl }

  pub clears_on : (from mid to : ℕ) (a b c : List (List (Option X))) → from ≤ mid → Clears from mid a b → Clears mid to b c → Clears from to a c
  clears_on from mid to a b c le first then_ = record {
    whole = λ w. then_.whole (first.whole w);
    long = then_.long ∙ first.long;
    filled = then_.filled ∙ first.filled;
    gone = λ k low high. elim (cases_lt k mid) [ inl lt ↦ then_.below k lt ∙ first.gone k low lt | inr past ↦ then_.gone k past high ];
    below = λ k lt. then_.below k (omega arith) ∙ first.below k lt;
  }

  pub clears_one : (q : ℕ) (nodes : List (List (Option X))) → q / 64 < length nodes
      → 0 < length (get_or nodes (q / 64) []) → All IsNode nodes → Clears q (q + 1) nodes (written nodes q None)
  clears_one q nodes in_root some whole = record {
    whole = λ w. whole-written nodes q None in_root w;
    long = length-written nodes q None;
    filled = filled-written nodes q None in_root;
    gone = λ k low high.
        let same : q ≡ k = omega arith in
        let full = All-get_or IsNode nodes (q / 64) [] in_root whole some in
        subst (λ p. look (written nodes q None) p ≡ None) same (look-written nodes q None in_root (omega arith));
    below = λ k lt. look-written_other nodes q None k in_root (λ e. omega arith);
  }

  pub clears_node : (q : ℕ) (nodes : List (List (Option X))) → length (get_or nodes (q / 64) []) ≡ 0 → Clears q ((q / 64 + 1) * 64) nodes nodes
  clears_node q nodes none = record {
    whole = λ w. w;
    long = refl;
    filled = refl;
    gone = λ k low high.
        let same : q / 64 ≡ k / 64 = omega arith in
        look_outside nodes k (ap (λ i. length (get_or nodes i [])) (sym same) ∙ none);
    below = λ k lt. refl;
  }

  -- a root that was opened, and more spare nodes
  module _ (nodes spare new more : List (List (Option X))) (valid : IsRadix nodes spare) (opens : OpensRoot nodes new) where
    reads_new : (k : ℕ) → get (radix_map new) k ≡ look new k
    reads_new k = get-radix new (omega (arith, opens.long)) k

    pub same_radix : radix_map new ≡ radix_map nodes
    same_radix =
        same_map nat_cmp_total nat_cmp-IsAntisymmetric (radix_map new) (radix_map nodes)
        (λ k. reads_new k ∙ opens.same k ∙ sym (get-radix nodes (few_nodes nodes spare valid) k))

    pub room_grows : length spare ≤ length more → radix_room (filled nodes) (length spare) ≤ radix_room (filled new) (length more)
    room_grows le =
        let wider = room_more (filled nodes) (length spare) (filled new) (length more) 0 (omega arith) (λ full. omega (arith, opens.filled)) in
        omega arith

    pub room_is : length more ≡ length spare → radix_room (filled new) (length more) ≡ radix_room (filled nodes) (length spare)
    room_is same = λ i. radix_room (opens.filled i) (same i)

    pub index_is : length more ≡ length spare → radix_index new (length more) ≡ radix_index nodes (length spare)
    index_is same = λ i. record { map = same_radix i; room = room_is same i }

    pub room_now : (wanted : ℕ) → wanted < 2 ^ 64 → min (64 - filled nodes) wanted ≤ length more → wanted ≤ radix_room (filled new) (length more)
    room_now wanted fits enough = room_enough (filled new) (length more) wanted fits (omega (arith, opens.filled))
