-- A file's cleaned log has as many Writes as there are runs.
use Rattle.std.proofs.Common.{◌≡◌, ◌≢◌, inl, inr, ℕ, zero, suc, ◌+◌, ◌≤◌, Bool, true, false, List, [], ◌∷◌, length, refl, sym, ◌∙◌, ap, subst, arith}
use Rattle.std.specs.Prelude.{Option, Some, None, ◌==◌, if◌then◌else◌}
use Rattle.std.specs.Option.{option_map}
use Rattle.std.specs.FinMap.{get}
use Rattle.std.proofs.lemmas.Bool.{eqb-true, eq-eqb}
use Rattle.pm_layout.specs.declared.Geometry.{Geometry}
use Rattle.log_entry.specs.Spelling.{spelling, spelled}
use Rattle.log_entry.specs.declared.item.LogItem.{LogItem}
use Rattle.log_entry.specs.declared.item.LogItem.TheVariants.{Size}
use Rattle.log_entry.proofs.Spelled.{length-spelled-cons}
use Rattle.dn_model.specs.Log.{Log, IsPaged, Placed, placed, placed_from, slot_name, count}
use Rattle.dn_model.specs.Maps.{Mapping, mapping, size_of}
use Rattle.dn_model.specs.Valid.{IsLog}
use Rattle.file_index.specs.declared.page_map.Mapping.{Mapping as KeptMapping}
use Rattle.file_index.specs.Runs.{run_begins, before_of, begins_at, runs_below, runs_of}
use Rattle.file_index.proofs.RunCounts.{runs_below-none, runs_below-more, runs-same}
use Rattle.file_content.specs.Content.{kept}
use Rattle.law_clean.specs.Cleaned.{is_by, parts_of, still_mapped, or_size, cleaned_items}
use Rattle.law_clean.proofs.Among.{Among}
use Rattle.law_clean.proofs.Mappers.{first_apart, mapped_by}
use Rattle.law_clean.proofs.Parts.{IsPart, is_part}
use Rattle.law_clean_count.specs.CountLaws.{or_size_slots, WritesAreRuns, FileTakesRuns}
use Rattle.law_clean_count.proofs.Totals.{total, total-none, total-more, total-same, over, over-none, over-same, length-flat_map, turned}
use Rattle.law_clean_count.proofs.Starts.{cell, hit, parts_hits}

-- runs are a total
runs_total : (c : ℕ → Option KeptMapping) (n : ℕ) → total (begins_at c) n ≡ runs_below c n
runs_total c zero = total-none (begins_at c) ∙ sym (runs_below-none c)
runs_total c (suc n) = total-more (begins_at c) n ∙ ap (λ m. m + begins_at c n) (runs_total c n) ∙ sym (runs_below-more c n)

-- just one item is at the slot of an item
module _ (g : Geometry) (log : Log) (paged : IsPaged g log) where
  abbrev at_slot : ℕ → ℕ → Placed → ℕ
  at_slot slot n p = if slot == p.slot then n else 0

  not_at : (slot n : ℕ) (p : Placed) → p.slot ≢ slot → at_slot slot n p ≡ 0
  not_at slot n p other = by_case (slot == p.slot) refl
    where
      by_case : (b : Bool) → (slot == p.slot) ≡ b → (if b then n else 0) ≡ 0
      by_case true t = absurd (other (sym (eqb-true slot p.slot t)))
      by_case false t = refl

  plus_none : (a b n : ℕ) → a ≡ n → b ≡ 0 → a + b ≡ n
  plus_none a b n is none = omega arith

  none_plus : (a b n : ℕ) → a ≡ 0 → b ≡ n → a + b ≡ n
  none_plus a b n none is = omega arith

  pub just_one : (n slot k : ℕ) (items : List LogItem) (p : Placed) → k + length (spelled items) ≤ count log
      → Among p (placed_from log.pages k items) → p.slot ≡ slot → over (at_slot slot n) (placed_from log.pages k items) ≡ n
  just_one n slot k [] p fits in' is = absurd in'
  just_one n slot k (item ∷ items) p fits (inl e) is =
      let first : Placed = record { slot = slot_name log.pages k; item = item } in
      let rest : List Placed = placed_from log.pages (k + length (spelling item)) items in
      let here : first.slot ≡ slot = ap (λ (q : Placed). q.slot) e ∙ is in
      let one : at_slot slot n first ≡ n = ap (λ (b : Bool). if b then n else 0) (eq-eqb slot first.slot (sym here)) in
      plus_none (at_slot slot n first) (over (at_slot slot n) rest) n one
      (over-none (at_slot slot n) rest (λ q in'. not_at slot n q (λ same. first_apart g log paged k item items q fits in' (here ∙ sym same))))
  just_one n slot k (item ∷ items) p fits (inr in') is =
      let first : Placed = record { slot = slot_name log.pages k; item = item } in
      let rest : List Placed = placed_from log.pages (k + length (spelling item)) items in
      none_plus (at_slot slot n first) (over (at_slot slot n) rest) n
      (not_at slot n first (λ same. first_apart g log paged k item items p fits in' (same ∙ sym is)))
      (just_one n slot (k + length (spelling item)) items p (omega (arith, fits, length-spelled-cons item items)) in' is)

module _ (g : Geometry) (ino : ℕ) (log : Log) (good : IsLog g ino log) where
  whole : 0 + length (spelled log.items) ≤ count log
  unfolding count
  whole = omega arith

  abbrev hits : ℕ → Placed → ℕ
  hits k p = hit log p.slot k

  -- of the items one maps a place at which a run begins
  hits_none : (k : ℕ) → mapping log k ≡ None → over (hits k) (placed log) ≡ begins_at (cell log) k
  hits_none k is =
      over-none (hits k) (placed log) (λ p in'. ap (λ (o : Option Mapping). if is_by p.slot o then begins_at (cell log) k else 0) is)
      ∙ sym (ap (λ (o : Option Mapping). run_begins (option_map kept o) (before_of (cell log) k)) is)

  hits_some : (k : ℕ) (m : Mapping) → mapping log k ≡ Some m → over (hits k) (placed log) ≡ begins_at (cell log) k
  hits_some k m is =
      let by = mapped_by log k m is in
      over-same (hits k) (at_slot g log good.paged m.slot (begins_at (cell log) k)) (placed log)
      (λ p in'. ap (λ (o : Option Mapping). if is_by p.slot o then begins_at (cell log) k else 0) is)
      ∙ just_one g log good.paged (begins_at (cell log) k) m.slot 0 log.items by.by whole by.among (sym by.maps.slot_is)

  hits_at : (k : ℕ) → over (hits k) (placed log) ≡ begins_at (cell log) k
  hits_at k = by_case (mapping log k) refl
    where
      by_case : (o : Option Mapping) → mapping log k ≡ o → over (hits k) (placed log) ≡ begins_at (cell log) k
      by_case None is = hits_none k is
      by_case (Some m) is = hits_some k m is

  abbrev parts : Placed → List LogItem
  parts p = parts_of (λ idx. is_by p.slot (mapping log idx)) (size_of log) p.item

  pub writes_runs : length (still_mapped log) ≡ runs_below (cell log) 4096
  unfolding still_mapped
  writes_runs =
      length-flat_map parts (placed log)
      ∙ over-same (λ (p : Placed). length (parts p)) (λ (p : Placed). total (hit log p.slot) 4096) (placed log)
      (λ p in'. parts_hits log g ino good p in' p.item refl)
      ∙ turned (λ (p : Placed). hit log p.slot) (placed log) 4096
      ∙ total-same (λ k. over (hits k) (placed log)) (begins_at (cell log)) 4096 hits_at
      ∙ runs_total (cell log) 4096

pub writes_are_runs : WritesAreRuns
unfolding runs_of
writes_are_runs g ino log places good kept_is =
    writes_runs g ino log good ∙ sym (runs-same (get places) (cell log) 4096 (λ k lt. kept_is k))

-- each Write takes a slot
part_long : (log : Log) (item : LogItem) (part : IsPart log item) → length (spelling item) ≡ 1
unfolding spelling
part_long log item part = subst (λ (x : LogItem). length (spelling x) ≡ 1) part.is refl

longer : (a b c d : ℕ) → a ≡ b + c → b ≡ 1 → c ≡ d → a ≡ suc d
longer a b c d sum one rest = omega arith

writes_long : (items : List LogItem) → ((item : LogItem) → Among item items → length (spelling item) ≡ 1) → length (spelled items) ≡ length items
writes_long [] each = refl
writes_long (item ∷ items) each =
    longer (length (spelled (item ∷ items))) (length (spelling item)) (length (spelled items)) (length items) (length-spelled-cons item items)
    (each item (inl refl)) (writes_long items (λ x in'. each x (inr in')))

size_long : (size : ℕ) → length (spelled (or_size size [])) ≡ or_size_slots size 0
unfolding spelling
size_long size = by_case (size == 0)
  where
    by_case : (b : Bool) → length (spelled (if b then [] else (Size size ∷ []))) ≡ (if b then 0 else 1)
    by_case true = refl
    by_case false = refl

or_size_long : (size : ℕ) (items : List LogItem) → length (spelled items) ≡ length items
    → length (spelled (or_size size items)) ≡ or_size_slots size (length items)
or_size_long size [] long = size_long size
or_size_long size (item ∷ items) long = long

pub file_takes_runs : FileTakesRuns
unfolding cleaned_items
file_takes_runs g zero log places some good kept_is = absurd (omega arith)
file_takes_runs g (suc ino) log places some good kept_is =
    or_size_long (size_of log) (still_mapped log)
    (writes_long (still_mapped log) (λ item in'. part_long log item (is_part log item in')))
    ∙ ap (or_size_slots (size_of log)) (writes_are_runs g (suc ino) log places good kept_is)
