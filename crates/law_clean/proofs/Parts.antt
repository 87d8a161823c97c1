-- The Writes of a cleaned log: each is a part of a Write of the log, and what a place maps one of them maps.
use Rattle.std.proofs.Common.{◌≡◌, inl, inr, ℕ, suc, ◌+◌, ◌-◌, ◌/◌, ◌%◌, ◌^◌, ◌<◌, ◌≤◌, Bool, true, List, [], ◌∷◌, length, min, refl, sym, ◌∙◌, ap, subst, arith}
use Rattle.std.specs.Prelude.{◌↔◌, filter, Option, Some, None, IsBitSet}
use Rattle.std.specs.Int.{bit_at}
use Rattle.std.specs.List.{range_with_len}
use Rattle.std.proofs.lemmas.Bool.{eqb-true, eq-eqb}
use Rattle.std.proofs.lemmas.Nat.{pow_pos, shr-shr, and_mask, bit_set_by_shift, mod_below}
use Rattle.std.proofs.lemmas.Nat.Bits.{bit_at_and, bit_at_ones, bit_at-lt, shr_and_one}
use Rattle.pm_layout.specs.declared.Geometry.{Geometry}
use Rattle.pm_layout.specs.Geometry.{InData}
use Rattle.log_entry.specs.Spelling.{spelling, pages_of, IsSpelled}
use Rattle.log_entry.specs.declared.item.Flag.{Flag}
use Rattle.log_entry.specs.declared.item.LogItem.{LogItem}
use Rattle.log_entry.specs.declared.item.LogItem.TheVariants.{Write, Size, Add, Forget}
use Rattle.dn_model.specs.Log.{Log, Placed, placed, placed_from}
use Rattle.dn_model.specs.Maps.{Mapping, mapping, size_of}
use Rattle.dn_model.specs.Own.{IsAlone}
use Rattle.dn_model.specs.Valid.{IsLog, MayStand}
use Rattle.law_write.proofs.MappedPlaces.{mapping-below, size-small}
use Rattle.law_clean.specs.Cleaned.{is_by, begins_run, run_len, part_of, parts_of, still_mapped}
use Rattle.law_clean.specs.CleanLaws.{IsMaximalRun}
use Rattle.law_clean.proofs.Among.{Among, among_map, of_map, among_filter, of_filter, among_range, of_range, among_flat_map, of_flat_map, All-among}
use Rattle.law_clean.proofs.Runs.{is_maximal, in_run, run_len-few}
use Rattle.law_clean.proofs.Mappers.{Maps, mapped_by, maps_by}

-- the bits of a part of a mask
part_bit : (mask a n i : ℕ) → i < n → bit_at (mask / 2 ^ a % 2 ^ n) i ≡ bit_at mask (a + i)
part_bit mask a n i lt =
    ap (λ (x : ℕ). bit_at x i) (sym (and_mask (mask / 2 ^ a) n))
    ∙ bit_at_and (mask / 2 ^ a) (2 ^ n - 1) i
    ∙ least (bit_at (mask / 2 ^ a) i) (bit_at (2 ^ n - 1) i) (bit_at-lt (mask / 2 ^ a) i) (bit_at_ones n i lt)
    ∙ ap (λ (x : ℕ). x % 2) (shr-shr mask a i)
  where
    least : (x y : ℕ) → x < 2 → y ≡ 1 → min x y ≡ x
    least x y small one = omega arith

set_same : (m n i j : ℕ) → bit_at m i ≡ bit_at n j → IsBitSet m i → IsBitSet n j
set_same m n i j e set = (bit_set_by_shift n j).0 (shr_and_one n j ∙ sym e ∙ sym (shr_and_one m i) ∙ (bit_set_by_shift m i).1 set)

part_alone : (mask a n i b : ℕ) → i < n → b ≡ a + i → IsBitSet (mask / 2 ^ a % 2 ^ n) i ↔ IsBitSet mask b
part_alone mask a n i b lt is =
    let same : bit_at (mask / 2 ^ a % 2 ^ n) i ≡ bit_at mask b = part_bit mask a n i lt ∙ ap (bit_at mask) (sym is) in
    (set_same (mask / 2 ^ a % 2 ^ n) mask i b same, set_same mask (mask / 2 ^ a % 2 ^ n) b i (sym same))

-- the item at a slot maps the place
by_some : (slot : ℕ) (o : Option Mapping) → is_by slot o ≡ true → (m : Mapping) × (o ≡ Some m) × (m.slot ≡ slot)
by_some slot None t = cc
by_some slot (Some m) t = (m, refl, eqb-true m.slot slot t)

by_from : (slot : ℕ) (o : Option Mapping) (m : Mapping) → o ≡ Some m → m.slot ≡ slot → is_by slot o ≡ true
by_from slot o m e s = ap (is_by slot) e ∙ eq-eqb m.slot slot s

placed_item : (p : Placed) (pages : List ℕ) (k : ℕ) (items : List LogItem) → Among p (placed_from pages k items) → Among p.item items
placed_item p pages k [] in' = absurd in'
placed_item p pages k (item ∷ items) (inl e) = inl (ap (λ (q : Placed). q.item) e)
placed_item p pages k (item ∷ items) (inr in') = inr (placed_item p pages (k + length (spelling item)) items in')

-- the place lies in this Write
abbrev pub Covers : ℕ → LogItem → Type 0
Covers idx (Write from n block size flag mask) = (from ≤ idx) × (idx < from + n)
Covers idx (Size size) = ⊥
Covers idx (Add ino name) = ⊥
Covers idx (Forget name) = ⊥

-- this Write maps the place as the log does
pub record Fits (log : Log) (idx from block : ℕ) (flag : Flag) (mask : ℕ) : Type 0 where
  pub by : Mapping
  pub is : mapping log idx ≡ Some by
  pub block_is : block + (idx - from) ≡ by.block
  pub flag_is : flag ≡ by.flag
  pub alone : IsBitSet mask (idx - from) ↔ IsAlone by

-- and all its places, and it tells the size
abbrev pub AreKept : Log → LogItem → Type 0
AreKept log (Write from n block size flag mask) =
    (size ≡ size_of log) × ((idx : ℕ) → from ≤ idx → idx < from + n → Fits log idx from block flag mask)
AreKept log (Size size) = ⊥
AreKept log (Add ino name) = ⊥
AreKept log (Forget name) = ⊥

module _ (log : Log) where
  abbrev test : ℕ → ℕ → Bool
  test slot = λ idx. is_by slot (mapping log idx)

  -- a part of a Write
  pub record IsPart (item : LogItem) : Type 0 where
    pub by : Placed
    pub among : Among by (placed log)
    pub first : ℕ
    pub count : ℕ
    pub block : ℕ
    pub was : ℕ
    pub flag : Flag
    pub mask : ℕ
    pub item_is : by.item ≡ Write first count block was flag mask
    pub from : ℕ
    pub low : first ≤ from
    pub high : from < first + count
    pub begins : begins_run (test by.slot) first from ≡ true
    pub is : part_of (size_of log) first block flag mask from (run_len (test by.slot) from (first + count - from)) ≡ item

  part_from : (p : Placed) (item x : LogItem) → Among p (placed log) → p.item ≡ x → Among item (parts_of (test p.slot) (size_of log) x) → IsPart item
  part_from p item (Write first count block was flag mask) in' e there =
      let from = of_map
      (λ from. part_of (size_of log) first block flag mask from (run_len (test p.slot) from (first + count - from))) item
      (filter (begins_run (test p.slot) first) (range_with_len first count)) there in
      let passes = of_filter (begins_run (test p.slot) first) from.0 (range_with_len first count) from.1 in
      let within = of_range first count from.0 passes.0 in
      record {
        by = p;
        among = in';
        first = first;
        count = count;
        block = block;
        was = was;
        flag = flag;
        mask = mask;
        item_is = e;
        from = from.0;
        low = within.0;
        high = within.1;
        begins = passes.1;
        is = from.2;
      }
  part_from p item (Size size) in' e there = absurd there
  part_from p item (Add ino name) in' e there = absurd there
  part_from p item (Forget name) in' e there = absurd there

  pub is_part : (item : LogItem) → Among item (still_mapped log) → IsPart item
  unfolding still_mapped
  is_part item in' =
      let found = of_flat_map (λ (p : Placed). parts_of (test p.slot) (size_of log) p.item) item (placed log) in' in
      part_from found.0 item found.0.item found.1 refl found.2

  -- each mapped place lies in a part
  pub record IsCovered (idx : ℕ) : Type 0 where
    pub item : LogItem
    pub among : Among item (still_mapped log)
    pub covers : Covers idx item

  pub is_covered : (idx : ℕ) (m : Mapping) → mapping log idx ≡ Some m → IsCovered idx
  unfolding still_mapped
  is_covered idx m e =
      let is = mapped_by log idx m e in
      let p = is.by in
      let maps = is.maps in
      let passes = by_from p.slot (mapping log idx) m e maps.slot_is in
      let run = in_run (test p.slot) maps.first (maps.first + maps.count) idx maps.low maps.high passes in
      let n = run_len (test p.slot) run.from (maps.first + maps.count - run.from) in
      let begin = among_filter (begins_run (test p.slot) maps.first) run.from (range_with_len maps.first maps.count)
      (among_range maps.first maps.count run.from run.low (omega (arith, run.before, maps.high))) run.begins in
      let there = among_map
      (λ from. part_of (size_of log) maps.first maps.block m.flag m.mask from (run_len (test p.slot) from (maps.first + maps.count - from)))
      run.from (filter (begins_run (test p.slot) maps.first) (range_with_len maps.first maps.count)) begin in
      let item = part_of (size_of log) maps.first maps.block m.flag m.mask run.from n in
      record {
        item = item;
        among = among_flat_map (λ (q : Placed). parts_of (test q.slot) (size_of log) q.item) p item (placed log) is.among
            (subst (λ (x : LogItem). Among item (parts_of (test p.slot) (size_of log) x)) (sym maps.item_is) there);
        covers = (run.before, run.inside);
      }

  module _ (item : LogItem) (part : IsPart item) where
    abbrev end : ℕ
    end = part.first + part.count

    abbrev n : ℕ
    n = run_len (test part.by.slot) part.from (end - part.from)

    abbrev mask : ℕ
    mask = part.mask / 2 ^ (part.from - part.first) % 2 ^ n

    run : IsMaximalRun (test part.by.slot) part.first end part.from n
    run = is_maximal (test part.by.slot) part.first end part.from part.low part.high part.begins

    -- each of its places is mapped by the Write of which it is a part
    mapped : (idx : ℕ) → part.from ≤ idx → idx < part.from + n → (m : Mapping) × (mapping log idx ≡ Some m) × (m.slot ≡ part.by.slot)
    mapped idx low high = by_some part.by.slot (mapping log idx) (run.pass idx low high)

    pub part_mapped : (idx : ℕ) × (m : Mapping) × (mapping log idx ≡ Some m)
    part_mapped = let at = mapped part.from (omega arith) (omega (arith, run.some)) in (part.from, at.0, at.1)

    below : part.from + n ≤ pages_of (size_of log)
    below =
        let last = mapped (part.from + n - 1) (omega (arith, run.some)) (omega (arith, run.some)) in
        omega (arith, run.some, mapping-below log (part.from + n - 1) last.0 last.1)

    module _ (g : Geometry) (ino : ℕ) (good : IsLog g ino log) where
      fit : (idx : ℕ) (m : Mapping) → part.from ≤ idx → idx < part.from + n → mapping log idx ≡ Some m → Maps part.by idx m
          → Fits log idx part.from (part.block + (part.from - part.first)) part.flag mask
      fit idx m low high e maps =
          let same : Write part.first part.count part.block part.was part.flag part.mask
          ≡ Write maps.first maps.count maps.block maps.size m.flag m.mask = sym part.item_is ∙ maps.item_is in
          let first : part.first ≡ maps.first = cc in
          let block : part.block ≡ maps.block = cc in
          let flag : part.flag ≡ m.flag = cc in
          let bits : part.mask ≡ m.mask = cc in
          let bit : m.bit ≡ part.from - part.first + (idx - part.from) = omega (arith, maps.bit_is, first, part.low) in
          let alone = part_alone part.mask (part.from - part.first) n (idx - part.from) m.bit (omega arith) bit in
          record {
            by = m;
            is = e;
            block_is = omega (arith, maps.block_is, first, block, part.low);
            flag_is = flag;
            alone = (
              λ set. subst (λ (x : ℕ). IsBitSet x m.bit) bits (alone.0 set),
              λ set. alone.1 (subst (λ (x : ℕ). IsBitSet x m.bit) (sym bits) set),
            );
          }

      pub part_kept : AreKept log item
      part_kept = subst (AreKept log) part.is (
        refl,
        λ idx low high.
            let at = mapped idx low high in
            fit idx at.0 low high at.1 (maps_by g log good.paged part.by idx at.0 part.among at.1 at.2),
      )

      -- the Write of which it is a part is spelled, and may stand
      of_log : Among part.by.item log.items
      of_log = placed_item part.by log.pages 0 log.items part.among

      whole_spelled : IsSpelled (Write part.first part.count part.block part.was part.flag part.mask)
      whole_spelled = subst IsSpelled part.item_is (All-among IsSpelled part.by.item log.items good.spelled of_log)

      whole_stands : MayStand g ino (Write part.first part.count part.block part.was part.flag part.mask)
      whole_stands = subst (MayStand g ino) part.item_is (All-among (MayStand g ino) part.by.item log.items good.standing of_log)

      pub part_spelled : IsSpelled item
      part_spelled = subst IsSpelled part.is (
        run.some,
        omega (arith, run_len-few (test part.by.slot) part.from (end - part.from), whole_spelled.1, part.low),
        below,
        size-small log good.spelled,
        mod_below (part.mask / 2 ^ (part.from - part.first)) (2 ^ n) (pow_pos n),
      )

    pub part_stands : (g : Geometry) (k : ℕ) → IsLog g (suc k) log → MayStand g (suc k) item
    part_stands g k good =
        let whole : InData g part.block × InData g (part.block + part.count - 1) = whole_stands g (suc k) good in
        let few = run_len-few (test part.by.slot) part.from (end - part.from) in
        subst (MayStand g (suc k)) part.is (
          record { low = omega (arith, whole.0.low); high = omega (arith, whole.1.high, part.low, part.high) },
          record { low = omega (arith, whole.0.low, run.some); high = omega (arith, whole.1.high, part.low, part.high, few, run.some) },
        )
