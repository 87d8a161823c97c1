-- The runs that an item begins are those that begin at places that it maps.
use Rattle.std.proofs.Common.{◌≡◌, ℕ, zero, suc, ◌+◌, ◌-◌, ◌<◌, ◌≤◌, Bool, true, false, cond, length, refl, sym, ◌∙◌, ap, arith}
use Rattle.std.specs.Prelude.{Option, Some, None, ◌&&◌, ◌==◌, not, nat_lt, if◌then◌else◌, filter}
use Rattle.std.specs.Option.{option_map}
use Rattle.std.specs.List.{range_with_len}
use Rattle.std.proofs.lemmas.Bool.{eqb-true, eq-eqb}
use Rattle.std.proofs.lemmas.Bool.Decides.{nat_tests}
use Rattle.std.proofs.lemmas.List.{length-map}
use Rattle.pm_layout.specs.declared.Geometry.{Geometry}
use Rattle.log_entry.specs.declared.item.LogItem.{LogItem}
use Rattle.log_entry.specs.declared.item.LogItem.TheVariants.{Write, Size, Add, Forget}
use Rattle.dn_model.specs.Log.{Log, Placed, placed}
use Rattle.dn_model.specs.Maps.{Mapping, mapping, size_of}
use Rattle.dn_model.specs.Valid.{IsLog}
use Rattle.law_write.proofs.MappedPlaces.{mapping-below, size-small}
use Rattle.file_index.specs.declared.page_map.Mapping.{Mapping as KeptMapping}
use Rattle.file_index.specs.Runs.{run_begins, begins_at}
use Rattle.file_content.specs.Content.{kept}
use Rattle.law_clean.specs.Cleaned.{is_by, begins_run, run_len, part_of, parts_of}
use Rattle.law_clean.proofs.Among.{Among}
use Rattle.law_clean.proofs.Mappers.{Maps, maps_by}
use Rattle.law_clean_count.proofs.Totals.{total, total-none, total-zeros, total-ends, passing}

module _ (log : Log) where
  -- what is kept of a place
  abbrev pub cell : ℕ → Option KeptMapping
  cell k = option_map kept (mapping log k)

  -- 1 for a place that the item at this slot maps, and at which a run begins
  abbrev pub hit : ℕ → ℕ → ℕ
  hit slot k = if is_by slot (mapping log k) then begins_at cell k else 0

  abbrev test : ℕ → ℕ → Bool
  test slot k = is_by slot (mapping log k)

  hit_none : (slot k : ℕ) → test slot k ≡ false → hit slot k ≡ 0
  hit_none slot k t = ap (λ (b : Bool). if b then begins_at cell k else 0) t

  hit_some : (slot k : ℕ) → test slot k ≡ true → hit slot k ≡ begins_at cell k
  hit_some slot k t = ap (λ (b : Bool). if b then begins_at cell k else 0) t

  -- a place that is mapped by the item at a slot
  pub record By (slot k : ℕ) : Type 0 where
    to : Mapping
    is : mapping log k ≡ Some to
    at : to.slot ≡ slot

  by_test : (slot k : ℕ) → test slot k ≡ true → By slot k
  by_test slot k t = by_case (mapping log k) refl t
    where
      by_case : (o : Option Mapping) → mapping log k ≡ o → is_by slot o ≡ true → By slot k
      by_case None is t = cc
      by_case (Some m) is t = record { to = m; is = is; at = eqb-true m.slot slot t }

  -- no place from 4,096 on is mapped
  pub unmapped : (g : Geometry) (ino : ℕ) → IsLog g ino log → (k : ℕ) → 4096 ≤ k → mapping log k ≡ None
  unmapped g ino good k past = by_case (mapping log k) refl
    where
      by_case : (o : Option Mapping) → mapping log k ≡ o → mapping log k ≡ None
      by_case None is = is
      by_case (Some m) is = absurd (omega (arith, mapping-below log k m is, size-small log good.spelled))

  module _ (g : Geometry) (ino : ℕ) (good : IsLog g ino log) (p : Placed) (among : Among p (placed log)) where
    maps : (k : ℕ) (by : By p.slot k) → Maps p k by.to
    maps k by = maps_by g log good.paged p k by.to among by.is by.at

    -- the place before is by this item too, or a run begins
    pub fresh : (first k : ℕ) (m : Mapping) (o : Option Mapping) (b : Bool) → is_by p.slot o ≡ b → m.slot ≡ p.slot → (b ≡ true → first < k)
        → run_begins (Some (kept m)) (option_map kept o) ≡ cond (not (nat_lt first k && b)) 1 0
    fresh first k m None true t slot low = cc
    fresh first k m None false t slot low = by_low (nat_lt first k)
      where
        by_low : (l : Bool) → ◌≡◌ {A = ℕ} 1 (cond (not (l && false)) 1 0)
        by_low true = refl
        by_low false = refl
    fresh first k m (Some o) true t slot low =
        let same : (o.slot == m.slot) ≡ true = eq-eqb o.slot m.slot (eqb-true o.slot p.slot t ∙ sym slot) in
        let above : first < k = low refl in
        let lt : nat_lt first k ≡ true = grind (arith, nat_tests) in
        ap (λ (b : Bool). if b then 0 else 1) same ∙ sym (ap (λ (b : Bool). cond (not (b && true)) 1 0) lt)
    fresh first k m (Some o) false t slot low =
        let other : (o.slot == m.slot) ≡ false = ap (λ (s : ℕ). o.slot == s) slot ∙ t in
        ap (λ (b : Bool). if b then 0 else 1) other ∙ by_low (nat_lt first k)
      where
        by_low : (l : Bool) → ◌≡◌ {A = ℕ} 1 (cond (not (l && false)) 1 0)
        by_low true = refl
        by_low false = refl

    module _ (first : ℕ) (low : (j : ℕ) → test p.slot j ≡ true → first ≤ j) where
      starts : (k : ℕ) → (m : Mapping) → mapping log k ≡ Some m → m.slot ≡ p.slot
          → begins_at cell k ≡ cond (not (nat_lt first k && test p.slot (k - 1))) 1 0
      starts zero m is slot =
          let first_none : nat_lt first zero ≡ false = grind (arith, nat_tests) in
          ap (λ (o : Option Mapping). run_begins (option_map kept o) None) is
          ∙ sym (ap (λ (b : Bool). cond (not (b && test p.slot (zero - 1))) 1 0) first_none)
      starts (suc j) m is slot =
          let e : suc j - 1 ≡ j = omega arith in
          ap (λ (o : Option Mapping). run_begins (option_map kept o) (option_map kept (mapping log j))) is
          ∙ fresh first (suc j) m (mapping log j) (test p.slot j) refl slot (λ t. omega (arith, low j t))
          ∙ ap (λ (i : ℕ). cond (not (nat_lt first (suc j) && test p.slot i)) 1 0) (sym e)

      pub hit_begins : (k : ℕ) → hit p.slot k ≡ cond (begins_run (test p.slot) first k) 1 0
      hit_begins k = by_case (test p.slot k) refl
        where
          by_case : (b : Bool) → test p.slot k ≡ b → hit p.slot k ≡ cond (begins_run (test p.slot) first k) 1 0
          by_case false t =
              hit_none p.slot k t ∙ sym (ap (λ (b : Bool). cond (b && not (nat_lt first k && test p.slot (k - 1))) 1 0) t)
          by_case true t =
              let by = by_test p.slot k t in
              hit_some p.slot k t ∙ starts k by.to by.is by.at
              ∙ sym (ap (λ (b : Bool). cond (b && not (nat_lt first k && test p.slot (k - 1))) 1 0) t)

    -- an item has as many parts as runs begin at places that it maps
    none_hit : ((k : ℕ) → By p.slot k → ⊥) → total (hit p.slot) 4096 ≡ 0
    none_hit never = total-zeros (hit p.slot) 0 4096 (omega arith) (λ k low high. zero_at k (test p.slot k) refl) ∙ total-none (hit p.slot)
      where
        zero_at : (k : ℕ) (b : Bool) → test p.slot k ≡ b → hit p.slot k ≡ 0
        zero_at k true t = absurd (never k (by_test p.slot k t))
        zero_at k false t = hit_none p.slot k t

    -- a Write maps places of its own alone
    module _ (first count : ℕ) (own : (k : ℕ) → By p.slot k → (first ≤ k) × (k < first + count)) where
      outside : (k : ℕ) → ((first ≤ k) × (k < first + count) → ⊥) → hit p.slot k ≡ 0
      outside k out = by_case (test p.slot k) refl
        where
          by_case : (b : Bool) → test p.slot k ≡ b → hit p.slot k ≡ 0
          by_case true t = absurd (out (own k (by_test p.slot k t)))
          by_case false t = hit_none p.slot k t

      past : (k : ℕ) → 4096 ≤ k → hit p.slot k ≡ 0
      past k high = ap (λ (o : Option Mapping). if is_by p.slot o then begins_at cell k else 0) (unmapped g ino good k high)

      pub write_hits : length (filter (begins_run (test p.slot) first) (range_with_len first count)) ≡ total (hit p.slot) 4096
      write_hits =
          let passes = passing (begins_run (test p.slot) first) (hit p.slot) first count
          (λ k low high. hit_begins first (λ j t. (own j (by_test p.slot j t)).0) k) in
          let before : total (hit p.slot) first ≡ 0 =
          total-zeros (hit p.slot) 0 first (omega arith) (λ k low high. outside k (λ in'. omega (arith, in'.0))) ∙ total-none (hit p.slot) in
          let end : total (hit p.slot) (first + count) ≡ total (hit p.slot) 4096 =
          total-ends (hit p.slot) (first + count) 4096 (λ k low. outside k (λ in'. omega (arith, in'.1))) past in
          all (length (filter (begins_run (test p.slot) first) (range_with_len first count))) (total (hit p.slot) first) passes before ∙ end
        where
          all : (a b : ℕ) {c : ℕ} → a + b ≡ c → b ≡ 0 → a ≡ c
          all a b sum none = omega (arith, sum)

    pub parts_hits : (x : LogItem) → p.item ≡ x → length (parts_of (test p.slot) (size_of log) x) ≡ total (hit p.slot) 4096
    parts_hits (Write first count block was flag mask) is =
        length-map (filter (begins_run (test p.slot) first) (range_with_len first count))
        (λ from. part_of (size_of log) first block flag mask from (run_len (test p.slot) from (first + count - from)))
        ∙ write_hits first count own
      where
        own : (k : ℕ) → By p.slot k → (first ≤ k) × (k < first + count)
        own k by =
            let m = maps k by in
            let same : Write first count block was flag mask ≡ Write m.first m.count m.block m.size by.to.flag by.to.mask = sym is ∙ m.item_is in
            let first_is : first ≡ m.first = cc in
            let count_is : count ≡ m.count = cc in
            (omega (arith, m.low, first_is), omega (arith, m.high, first_is, count_is))
    parts_hits (Size size) is = sym (none_hit (λ k by. let clash : Size size ≡ Write (maps k by).first (maps k by).count (maps k by).block (maps k by).size by.to.flag by.to.mask = sym is ∙ (maps k by).item_is in cc))
    parts_hits (Add new name) is = sym (none_hit (λ k by. let clash : Add new name ≡ Write (maps k by).first (maps k by).count (maps k by).block (maps k by).size by.to.flag by.to.mask = sym is ∙ (maps k by).item_is in cc))
    parts_hits (Forget name) is = sym (none_hit (λ k by. let clash : Forget name ≡ Write (maps k by).first (maps k by).count (maps k by).block (maps k by).size by.to.flag by.to.mask = sym is ∙ (maps k by).item_is in cc))
