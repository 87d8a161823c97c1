-- A cut is an event of a write of no place, or of the last page.
use Rattle.std.proofs.Common.{
  ◌≡◌,
  ◌≢◌,
  ◌⊎◌,
  ℕ,
  zero,
  suc,
  ◌+◌,
  ◌-◌,
  ◌/◌,
  ◌<◌,
  ◌≤◌,
  true,
  false,
  List,
  [],
  ◌∷◌,
  length,
  refl,
  sym,
  ◌∙◌,
  ap,
  subst,
  arith,
}
use Rattle.std.specs.Prelude.{if◌then◌else◌, nat_lt, slice_index, Contains, All, Option, Some, None}
use Rattle.std.proofs.lemmas.List.Elements.{All-nil, All-cons, All-append, Contains-get_or}
use Rattle.log_entry.specs.Spelling.{IsSpelled, spelling, spelled, pages_of}
use Rattle.log_entry.specs.declared.item.LogItem.TheVariants.{Size}
use Rattle.dn_model.specs.Log.{IsPaged, count, placed_from}
use Rattle.dn_model.specs.Maps.{Mapping, mapping, mapped_after, cut_to, size_of, size_after}
use Rattle.dn_model.specs.Disk.{Disk, Use, IsUsed, maps, maps_by_use}
use Rattle.dn_model.specs.Counts.{IsFree, Near}
use Rattle.dn_model.specs.Growth.{IsGrown}
use Rattle.dn_model.specs.Valid.{IsLog, MayStand}
use Rattle.dn_model.proofs.Append.{count-grown}
use Rattle.law_write.specs.Events.{Relogs, IsUnused}
use Rattle.law_write.specs.Writing.{Writes, WritesWell, IsNewMapping}
use Rattle.law_write.specs.Runs.{Run, run_items, places_in, block_at, IsChained}
use Rattle.law_write.specs.WithLog.{grown_log}
use Rattle.law_write.proofs.Mapped.{mapping-grown, mapped_after-append, placed_from-append}
use Rattle.law_write.proofs.MappedPlaces.{uncut}
use Rattle.law_write.proofs.RunItems.{runs-own, runs-other, runs-spelled, runs-standing, size-grown}
use Rattle.law_write.proofs.WithLog.{with_log-log, with_log-relogs, with_log-grown}
use Rattle.law_write.proofs.WriteFree.{free-kept}
use Rattle.law_write.proofs.WrittenDisk.{append-apart, append-in_data, near_without_rows}
use Rattle.law_cut.specs.Cutting.{last_page, refill_runs, cut_items, cut_disk, MayRefill, IsNotRefill, IsLeft, MayCut}

pub refill_chained : (size : ℕ) (refill : Option ℕ) → IsChained (last_page size) (refill_runs size refill)
refill_chained size None = tt
refill_chained size (Some page) = (refl, omega arith, omega arith, tt)

-- the page's place lies in the size
pub refill_inside : (d : Disk) (ino : ℕ) (fresh : List ℕ) (size : ℕ) (refill : Option ℕ) → MayRefill d ino fresh size refill
    → last_page size + places_in (refill_runs size refill) ≤ pages_of size
refill_inside d ino fresh size None may = omega arith
refill_inside d ino fresh size (Some page) may = omega (arith, may.0)

-- each of the event's places is the refilled one
pub refill_only : (size : ℕ) (refill : Option ℕ) (i : ℕ) → i < places_in (refill_runs size refill)
    → (i ≡ 0) × ((page : ℕ) × (refill ≡ Some page) × (block_at (refill_runs size refill) i ≡ page))
refill_only size None i lt = absurd (omega (arith, lt))
refill_only size (Some page) zero lt = (refl, (page, refl, omega arith))
refill_only size (Some page) (suc i) lt = absurd (omega (arith, lt))

pub size_last : (n size : ℕ) (refill : Option ℕ) → size_after n (cut_items size refill) ≡ size
size_last n size None = refl
size_last n size (Some page) = refl

-- an item of one slot each
slots : (size : ℕ) (refill : Option ℕ) → length (spelled (cut_items size refill)) ≡ length (cut_items size refill)
unfolding spelling
slots size None = refl
slots size (Some page) = refl

cut_new : (size idx block : ℕ) (m : Option Mapping) → idx < pages_of size → IsNewMapping m block → IsNewMapping (cut_to size idx m) block
cut_new size idx block m lt is = subst (λ (x : Option Mapping). IsNewMapping x block) (sym (uncut size idx m lt)) is

cut_twice : (size idx : ℕ) (m : Option Mapping) → cut_to size idx (cut_to size idx m) ≡ cut_to size idx m
cut_twice size idx m = elim (nat_lt idx (pages_of size)) as (λ b. (if b then (if b then m else None) else None) ≡ (if b then m else None))
    [ true ↦ refl | false ↦ refl ]

module _ (d : Disk) (ino : ℕ) (fresh : List ℕ) (size : ℕ) (refill : Option ℕ) (word : ℕ → ℕ → ℕ) (may : MayCut d ino fresh size refill word) where
  abbrev new : Disk
  new = cut_disk d ino fresh size refill word

  abbrev runs : List Run
  runs = refill_runs size refill

  used : IsUsed (d.inode ino).use_of
  used = subst IsUsed (sym may.live) tt

  pub log_before : IsLog d.geometry ino (d.inode ino).log
  log_before = may.valid.logs ino may.in_table used

  abbrev grown : IsGrown (d.inode ino).log (new.inode ino).log
  grown = with_log-grown d ino fresh (cut_items size refill) word

  pub cut-relogs : Relogs ino d new
  cut-relogs = with_log-relogs d ino (grown_log (d.inode ino).log fresh (cut_items size refill)) word may.words

  abbrev pages : List ℕ
  pages = (new.inode ino).log.pages

  abbrev from : ℕ
  from = count (d.inode ino).log

  -- what the runs make of a place
  abbrev by_runs : ℕ → Option Mapping
  by_runs idx = mapped_after idx (maps d ino idx) (placed_from pages from (run_items runs size))

  maps-items : (idx : ℕ) → maps new ino idx ≡ cut_to size idx (by_runs idx)
  unfolding maps
  maps-items idx =
      ap (λ (u : Use). maps_by_use u (new.inode ino).log idx) (cut-relogs.same_use ∙ may.live)
      ∙ mapping-grown d.geometry (d.inode ino).log (new.inode ino).log grown log_before.paged idx
      ∙ ap (mapped_after idx (mapping (d.inode ino).log idx)) (placed_from-append pages from (run_items runs size) (Size size ∷ []))
      ∙ mapped_after-append idx (mapping (d.inode ino).log idx) (placed_from pages from (run_items runs size))
      (placed_from pages (from + length (spelled (run_items runs size))) (Size size ∷ []))
      ∙ ap (λ (u : Use). cut_to size idx (mapped_after idx (maps_by_use u (d.inode ino).log idx) (placed_from pages from (run_items runs size))))
      (sym may.live)

  pub maps-own : (i : ℕ) → i < places_in runs → IsNewMapping (maps new ino (last_page size + i)) (block_at runs i)
  maps-own i lt = subst (λ (m : Option Mapping). IsNewMapping m (block_at runs i)) (sym (maps-items (last_page size + i)))
      (cut_new size (last_page size + i) (block_at runs i) (by_runs (last_page size + i)) (omega (arith, lt, inside))
      (runs-own size pages from i (maps d ino (last_page size + i)) runs (last_page size) (refill_chained size refill) lt inside))
    where
      inside : last_page size + places_in runs ≤ pages_of size
      inside = refill_inside d ino fresh size refill may.refills

  other_by : (r : Option ℕ) (idx : ℕ) → (idx < last_page size) ⊎ (last_page size + places_in (refill_runs size r) ≤ idx)
      → cut_to size idx (mapped_after idx (maps d ino idx) (placed_from pages from (run_items (refill_runs size r) size))) ≡ cut_to size idx
      (maps d ino idx)
  other_by None idx out = refl
  other_by (Some page) idx out =
      ap (cut_to size idx) (runs-other size pages from idx (maps d ino idx) (record { first = last_page size; count = 1; block = page }) []
      (last_page size) (refill_chained size (Some page)) out) ∙ cut_twice size idx (maps d ino idx)

  pub maps-other : (idx : ℕ) → (idx < last_page size) ⊎ (last_page size + places_in runs ≤ idx) → maps new ino idx ≡ cut_to size idx (maps d ino idx)
  maps-other idx out = maps-items idx ∙ other_by refill idx out

  pub few : (i : ℕ) → i < places_in runs → i ≡ 0
  few i lt = (refill_only size refill i lt).0

  abbrev pub cut-writes : Writes ino d new
  cut-writes = record {
    relogs = cut-relogs;
    grown = grown;
    paged = log_before.paged;
    in_table = may.in_table;
    live = may.live;
    first = last_page size;
    n = places_in runs;
    size = size;
    blocks = block_at runs;
    apart = λ i j il jl e. omega (arith, few i il, few j jl);
    own = maps-own;
    other = maps-other;
    last_size = size-grown (d.inode ino).log (new.inode ino).log grown ∙ size_last (size_of (d.inode ino).log) size refill;
  }

  fresh_page : (k : ℕ) → k < length fresh → IsUnused d (slice_index fresh k)
  fresh_page k lt = may.fresh_unused (slice_index fresh k) (Contains-get_or fresh k 0 lt)

  -- a page of the log isn't fresh
  log_or_fresh : (j k : ℕ) → j < length (d.inode ino).log.pages → k < length fresh → slice_index (d.inode ino).log.pages j ≢ slice_index fresh k
  log_or_fresh j k jl kl same =
      (fresh_page k kl).free.in_no_log (record {
        ino = ino;
        in_table = may.in_table;
        used = used;
        listed = subst (Contains (d.inode ino).log.pages)
            same (Contains-get_or (d.inode ino).log.pages j 0 jl);
      })

  grown_paged : IsPaged d.geometry (grown_log (d.inode ino).log fresh (cut_items size refill))
  grown_paged = record {
    fits = may.room ∙ ap (λ (n : ℕ). (n + 62) / 63) (sym slots_now);
    in_data = append-in_data (d.inode ino).log.pages fresh log_before.paged.apart may.fresh_apart log_or_fresh d.geometry log_before.paged.in_data
        (λ k lt. (fresh_page k lt).free.data_page);
    apart = append-apart (d.inode ino).log.pages fresh log_before.paged.apart may.fresh_apart log_or_fresh;
  }
    where
      slots_now : count (grown_log (d.inode ino).log fresh (cut_items size refill)) ≡ count (d.inode ino).log + length (cut_items size refill)
      slots_now =
          count-grown (d.inode ino).log (grown_log (d.inode ino).log fresh (cut_items size refill))
          (record { fresh = fresh; more = cut_items size refill; pages = refl; items = refl })
          ∙ ap (λ (n : ℕ). count (d.inode ino).log + n) (slots size refill)

  -- the refilled page is unused, and isn't fresh
  refill_unused : (r : Option ℕ) → MayRefill d ino fresh size r → (page : ℕ) → r ≡ Some page → IsUnused d page × (Contains fresh page → ⊥)
  refill_unused None is page e = cc
  refill_unused (Some new_page) is page e = let same : new_page ≡ page = cc in
      (subst (IsUnused d) same is.1, (λ has. is.2 (subst (Contains fresh) (sym same) has)))

  block_unused : (i : ℕ) → i < places_in runs → IsUnused d (block_at runs i) × (Contains fresh (block_at runs i) → ⊥)
  block_unused i lt =
      let only = refill_only size refill i lt in
      let is = refill_unused refill may.refills only.1.0 only.1.1 in
      (subst (IsUnused d) (sym only.1.2) is.0, (λ has. is.1 (subst (Contains fresh) only.1.2 has)))

  not_refill : (r : Option ℕ) (page : ℕ) → IsNotRefill r page → (new_page : ℕ) → r ≡ Some new_page → new_page ≢ page
  not_refill None page not new_page e = cc
  not_refill (Some other) page not new_page e = let same : other ≡ new_page = cc in (λ f. not (same ∙ f))

  pub not_block : (page : ℕ) → IsNotRefill refill page → (i : ℕ) → i < places_in runs → block_at runs i ≢ page
  not_block page not i lt e = let only = refill_only size refill i lt in not_refill refill page not only.1.0 only.1.1 (sym only.1.2 ∙ e)

  stays_free : (page : ℕ) → IsLeft d fresh refill page → IsFree new page
  stays_free page left = free-kept ino d new cut-writes page left.free (not_block page left.no_refill) left.not_fresh

  items_spelled : All IsSpelled (cut_items size refill)
  items_spelled = All-append IsSpelled (run_items runs size) (Size size ∷ [])
      (runs-spelled size runs (last_page size) (refill_chained size refill) (refill_inside d ino fresh size refill may.refills) may.small)
      (All-cons IsSpelled (Size size) [] may.small (All-nil IsSpelled))

  items_standing : All (MayStand d.geometry ino) (cut_items size refill)
  items_standing = subst (λ (i : ℕ). All (MayStand d.geometry i) (cut_items size refill)) (pred ino may.file)
      (All-append (MayStand d.geometry (suc (ino - 1))) (run_items runs size) (Size size ∷ [])
      (runs-standing d.geometry (ino - 1) size runs (last_page size) (refill_chained size refill) (λ i lt. (block_unused i lt).0.free.data_page))
      (All-cons (MayStand d.geometry (suc (ino - 1))) (Size size) [] tt (All-nil (MayStand d.geometry (suc (ino - 1))))))
    where
      pred : (n : ℕ) → 1 ≤ n → suc (n - 1) ≡ n
      pred n some = omega arith

  pub cut-well : Near new → WritesWell ino d new cut-writes
  cut-well near = record {
    valid = may.valid;
    k = ino - 1;
    file = omega (arith, may.file);
    paged' = subst (IsPaged d.geometry) (sym (with_log-log d ino (grown_log (d.inode ino).log fresh (cut_items size refill)) word)) grown_paged;
    spelled = items_spelled;
    standing = items_standing;
    fresh = may.fresh_unused;
    blocks = λ i lt. (block_unused i lt).0;
    apart = λ i lt. (block_unused i lt).1;
    near = near;
    roomy = (may.left.0, may.left.1, may.left.2, stays_free may.left.0 may.left.3, stays_free may.left.1 may.left.4);
  }

  -- where no row stands
  pub cut-near_without_rows : ((p : ℕ) → d.chain p ≡ []) → Near new
  cut-near_without_rows none = near_without_rows new (λ p. cut-relogs.chain p ∙ none p)
