-- The slots of a log's items that the daemon has to do still: those of places that aren't complete are among them; of a
-- cleaned log there are few, and none where each place is complete.
use Rattle.std.proofs.Common.{◌≡◌, inl, inr, ⊎_elim, ℕ, zero, suc, ◌+◌, ◌≤◌, Bool, true, false, List, [], ◌∷◌, length, refl, sym, ◌∙◌, ap, subst, arith}
use Rattle.std.specs.Prelude.{if◌then◌else◌, ◌==◌, Option, Some, None, Contains, slice_get}
use Rattle.std.specs.Option.{option_map}
use Rattle.std.specs.Ordering.{nat_cmp}
use Rattle.std.specs.FinMap.{FinMap, get}
use Rattle.std.specs.List.{list_any}
use Rattle.pm_device.specs.State.{State}
use Rattle.pm_layout.specs.declared.Geometry.{Geometry}
use Rattle.log_entry.specs.Spelling.{spelling, IsSpelled}
use Rattle.log_entry.specs.declared.item.Flag.{Flag}
use Rattle.log_entry.specs.declared.item.Flag.TheVariants.{Needed, InProcess, Complete}
use Rattle.log_entry.specs.declared.item.LogItem.{LogItem}
use Rattle.log_entry.specs.declared.item.LogItem.TheVariants.{Write, Size, Add, Forget}
use Rattle.dedupe_queue.specs.declared.Work.{Work}
use Rattle.file_index.specs.declared.page_map.Mapping.{Mapping as KeptMapping}
use Rattle.file_index.specs.Runs.{run_begins, before_of, runs_below, runs_of}
use Rattle.dn_model.specs.Log.{Log, Placed, placed, placed_from, slot_name}
use Rattle.dn_model.specs.Maps.{Mapping, mapping, size_of}
use Rattle.dn_model.specs.Disk.{Disk, IsUsed, maps, maps_by_use}
use Rattle.dn_model.specs.Valid.{IsLog}
use Rattle.law_table.proofs.Rows.{listed_here, listed_later, listed_cases}
use Rattle.law_clean.specs.Cleaned.{is_of_name, still_mapped, or_size, last_adds, cleaned_items, cleaned_log}
use Rattle.law_clean.proofs.Among.{Among}
use Rattle.law_clean.proofs.Mappers.{mapped_by}
use Rattle.law_clean.proofs.Parts.{AreKept, is_part, part_kept, part_spelled}
use Rattle.law_clean_count.specs.CountLaws.{KeepsPlaces}
use Rattle.law_clean_count.proofs.WriteCounts.{writes_are_runs}
use Rattle.dn_volume.specs.declared.background.Cleaning.{Cleaning}
use Rattle.dn_volume.specs.declared.background.Sharing.{Sharing}
use Rattle.dn_volume.specs.declared.volume.InodeState.{InodeState}
use Rattle.dn_volume.specs.declared.volume.Parts.{Parts}
use Rattle.dn_volume.specs.Agrees.{IsVolume}
use Rattle.dn_volume.specs.Cleans.{new_log, is_due_by, is_due, due_slots, IsCleaning}
use Rattle.dn_volume.specs.Shares.{IsWaiting, in_queue, is_begun}
use Rattle.dn_volume.specs.Works.{DaemonRests}
use Rattle.log_clean.proofs.Begun.{here_at}

-- ITEMS THAT ARE DUE

-- the slot of an item that is due is listed
pub due_listed : (ps : List Placed) (p : Placed) → Among p ps → is_due p.item ≡ true → Contains (due_slots ps) p.slot
due_listed [] p in' due = absurd in'
due_listed (q ∷ ps) p (inl e) due =
    subst (λ (r : Placed). Contains (due_slots (q ∷ ps)) r.slot) e
    (subst (λ (b : Bool). Contains (if b then q.slot ∷ due_slots ps else due_slots ps) q.slot)
    (sym (ap (λ (r : Placed). is_due r.item) e ∙ due)) (listed_here q.slot (due_slots ps)))
due_listed (q ∷ ps) p (inr in') due = by_test (due_listed ps p in' due) (is_due q.item)
  where
    by_test : Contains (due_slots ps) p.slot → (b : Bool) → Contains (if b then q.slot ∷ due_slots ps else due_slots ps) p.slot
    by_test rest true = listed_later q.slot (due_slots ps) p.slot rest
    by_test rest false = rest

-- each slot that is listed is that of such an item
pub record IsDueOf (ps : List Placed) (slot : ℕ) : Type 0 where
  pub by : Placed
  pub among : Among by ps
  pub slot_is : by.slot ≡ slot
  pub due : is_due by.item ≡ true

pub due_of : (ps : List Placed) (slot : ℕ) → Contains (due_slots ps) slot → IsDueOf ps slot
due_of [] slot has = absurd (omega (arith, has.1))
due_of (q ∷ ps) slot has = by_test (λ more. later (due_of ps slot more)) (is_due q.item) refl has
  where
    later : IsDueOf ps slot → IsDueOf (q ∷ ps) slot
    later of = record { by = of.by; among = inr of.among; slot_is = of.slot_is; due = of.due }

    by_test : (Contains (due_slots ps) slot → IsDueOf (q ∷ ps) slot) → (b : Bool) → is_due q.item ≡ b
        → Contains (if b then q.slot ∷ due_slots ps else due_slots ps) slot → IsDueOf (q ∷ ps) slot
    by_test rest true at has =
        ⊎_elim (λ same. record { by = q; among = inl refl; slot_is = same; due = at }) rest (listed_cases q.slot (due_slots ps) slot has)
    by_test rest false at has = rest has

incomplete_due : (flag : Flag) → (flag ≡ Complete → ⊥) → is_due_by flag ≡ true
incomplete_due Needed other = refl
incomplete_due InProcess other = refl
incomplete_due Complete other = absurd (other refl)

-- a place that isn't complete is mapped by an item that is due
pub undone_due : (log : Log) (idx : ℕ) (m : Mapping) → mapping log idx ≡ Some m → (m.flag ≡ Complete → ⊥)
    → Contains (due_slots (placed log)) m.slot
undone_due log idx m is undone =
    let by = mapped_by log idx m is in
    subst (λ (slot : ℕ). Contains (due_slots (placed log)) slot) (sym by.maps.slot_is)
    (due_listed (placed log) by.by by.among (ap is_due by.maps.item_is ∙ incomplete_due m.flag undone))

-- no item is due
pub none_due : (pages : List ℕ) (k : ℕ) (items : List LogItem) → ((item : LogItem) → Among item items → is_due item ≡ false)
    → due_slots (placed_from pages k items) ≡ []
none_due pages k [] none = refl
none_due pages k (item ∷ items) none =
    ap (λ (b : Bool). if b then slot_name pages k ∷ due_slots (placed_from pages (k + length (spelling item)) items)
    else due_slots (placed_from pages (k + length (spelling item)) items)) (none item (inl refl))
    ∙ none_due pages (k + length (spelling item)) items (λ x in'. none x (inr in'))

-- no more slots than items
pub due_fewer : (pages : List ℕ) (k : ℕ) (items : List LogItem) → length (due_slots (placed_from pages k items)) ≤ length items
due_fewer pages k [] = omega arith
due_fewer pages k (item ∷ items) = by_test (is_due item) (due_fewer pages (k + length (spelling item)) items)
  where
    by_test : (b : Bool) → length (due_slots (placed_from pages (k + length (spelling item)) items)) ≤ length items
        → length (if b then slot_name pages k ∷ due_slots (placed_from pages (k + length (spelling item)) items)
        else due_slots (placed_from pages (k + length (spelling item)) items)) ≤ length (item ∷ items)
    by_test true rest = omega (arith, rest)
    by_test false rest = omega (arith, rest)

-- OF A CLEANED LOG

-- of the root's no item is due
adds_rest : (items : List LogItem) (item : LogItem) → Among item (last_adds items) → is_due item ≡ false
adds_rest [] item in' = absurd in'
adds_rest (Write first n block size flag mask ∷ items) item in' = adds_rest items item in'
adds_rest (Size size ∷ items) item in' = adds_rest items item in'
adds_rest (Forget name ∷ items) item in' = adds_rest items item in'
adds_rest (Add ino name ∷ items) item in' = by_test (λ more. adds_rest items item more) (list_any (is_of_name name) items) in'
  where
    by_test : (Among item (last_adds items) → is_due item ≡ false) → (b : Bool)
        → Among item (if b then last_adds items else (Add ino name ∷ last_adds items)) → is_due item ≡ false
    by_test rest true more = rest more
    by_test rest false (inl e) = ap is_due (sym e)
    by_test rest false (inr more) = rest more

-- a size isn't due
size_rests : (size : ℕ) (items : List LogItem) → ((item : LogItem) → Among item items → is_due item ≡ false)
    → (item : LogItem) → Among item (or_size size items) → is_due item ≡ false
size_rests size [] each item in' = by_test (size == 0) in'
  where
    by_test : (b : Bool) → Among item (if b then [] else (Size size ∷ [])) → is_due item ≡ false
    by_test true none = absurd none
    by_test false (inl e) = ap is_due (sym e)
    by_test false (inr none) = absurd none
size_rests size (x ∷ items) each item in' = each item in'

size_fewer : (pages : List ℕ) (size : ℕ) (items : List LogItem) → length (due_slots (placed_from pages 0 (or_size size items))) ≤ length items
size_fewer pages size [] = by_test (size == 0)
  where
    by_test : (b : Bool) → length (due_slots (placed_from pages 0 (if b then [] else (Size size ∷ [])))) ≤ 0
    by_test true = omega arith
    by_test false = omega arith
size_fewer pages size (x ∷ items) = due_fewer pages 0 (x ∷ items)

-- a run begins at a place at most once
begins_few : (here before : Option KeptMapping) → run_begins here before ≤ 1
begins_few None before = omega arith
begins_few (Some this) None = omega arith
begins_few (Some this) (Some last) = by_test (last.slot == this.slot)
  where
    by_test : (b : Bool) → (if b then 0 else 1) ≤ 1
    by_test true = omega arith
    by_test false = omega arith

runs_few : (cell : ℕ → Option KeptMapping) (n : ℕ) → runs_below cell n ≤ n
unfolding runs_below
runs_few cell zero = omega arith
runs_few cell (suc n) = omega (arith, runs_few cell n, begins_few (cell n) (before_of cell n))

few_runs : (places : FinMap nat_cmp KeptMapping) → runs_of places ≤ 4096
unfolding runs_of
few_runs places = runs_few (get places) 4096

module _ (g : Geometry) (log : Log) (pages : List ℕ) where
  -- a part of an item of which each place is complete
  part_rests : ((idx : ℕ) (m : Mapping) → mapping log idx ≡ Some m → m.flag ≡ Complete) → (item : LogItem) → IsSpelled item → AreKept log item
      → is_due item ≡ false
  part_rests done (Write from n block size flag mask) spelled kept =
      let fits = kept.1 from (omega arith) (omega (arith, spelled.0)) in
      ap is_due_by (fits.flag_is ∙ done from fits.by fits.is)
  part_rests done (Size size) spelled kept = refl
  part_rests done (Add ino name) spelled kept = refl
  part_rests done (Forget name) spelled kept = refl

  items_rest : (ino : ℕ) → IsLog g ino log → ((idx : ℕ) (m : Mapping) → mapping log idx ≡ Some m → m.flag ≡ Complete)
      → (item : LogItem) → Among item (cleaned_items ino log) → is_due item ≡ false
  unfolding cleaned_items
  items_rest zero good done = adds_rest log.items
  items_rest (suc k) good done = size_rests (size_of log) (still_mapped log)
      (λ item in'.
      let part = is_part log item in' in
      part_rests done item (part_spelled log item part g (suc k) good) (part_kept log item part g (suc k) good))

  -- none is due where each place is complete
  pub cleaned_rests : (ino : ℕ) → IsLog g ino log → ((idx : ℕ) (m : Mapping) → mapping log idx ≡ Some m → m.flag ≡ Complete)
      → due_slots (placed (cleaned_log ino log pages)) ≡ []
  cleaned_rests ino good done = none_due pages 0 (cleaned_items ino log) (items_rest ino good done)

  -- one for each run of places at most
  pub cleaned_few : (ino : ℕ) (places : FinMap nat_cmp KeptMapping) → IsLog g ino log → KeepsPlaces log places
      → length (due_slots (placed (cleaned_log ino log pages))) ≤ 4096
  unfolding cleaned_items
  cleaned_few zero places good are =
      let none = ap (λ (slots : List ℕ). length slots) (none_due pages 0 (last_adds log.items) (adds_rest log.items)) in
      omega (arith, none)
  cleaned_few (suc k) places good are =
      let runs = writes_are_runs g (suc k) log places good are in
      omega (arith, runs, few_runs places, size_fewer pages (size_of log) (still_mapped log))

-- OF THE CLEANING THAT IS BEGUN

complete_then : (flag : Flag) → ((flag ≡ Complete → ⊥) → ⊥) → flag ≡ Complete
complete_then Needed twice = absurd (twice (λ (e : Needed ≡ Complete). cc))
complete_then InProcess twice = absurd (twice (λ (e : InProcess ≡ Complete). cc))
complete_then Complete twice = refl

none_begun_is : (o : Option Sharing) (x : Sharing) → o ≡ None → o ≡ Some x → ⊥
none_begun_is o x none some = cc

nothing_waits : (b : Parts) (ino slot : ℕ) → DaemonRests b → IsWaiting b ino slot → ⊥
nothing_waits b ino slot rests (in_queue work n has of_ino of_slot at same) =
    let none : Contains [] work = subst (λ (ws : List Work). Contains ws work) rests.none_waits has in
    omega (arith, none.1)
nothing_waits b ino slot rests (is_begun sharing at of_ino of_slot) = none_begun_is b.sharing sharing rests.none_begun at

module _ (d : Disk) (b : Parts) (s : State) (v : IsVolume d b s) (c : Cleaning) (cleans : b.reclaiming.cleaning ≡ Some c) where
  is : IsCleaning d c s
  is = v.cleaning c cleans

  good : IsLog d.geometry c.ino (d.inode c.ino).log
  good = v.fast.valid.logs c.ino is.in_table (subst IsUsed (sym is.live) tt)

  live_maps : (idx : ℕ) → maps d c.ino idx ≡ mapping (d.inode c.ino).log idx
  unfolding maps
  live_maps idx = ap (λ u. maps_by_use u (d.inode c.ino).log idx) is.live

  state : (n : InodeState) × (slice_get b.inodes.items c.ino ≡ Some n)
  state = here_at b.inodes.items c.ino (omega (arith, is.in_table, v.inodes.all))

  -- what is due for the daemon is what the new log maps and isn't complete
  pub due_waits : (idx : ℕ) (m : Mapping) → mapping (new_log d c) idx ≡ Some m → (m.flag ≡ Complete → ⊥) → Contains c.due.items m.slot
  due_waits idx m maps undone = subst (λ (slots : List ℕ). Contains slots m.slot) is.due (undone_due (new_log d c) idx m maps undone)

  -- it is little
  pub due_few : length c.due.items ≤ 4096
  due_few =
      let few = cleaned_few d.geometry (d.inode c.ino).log c.pages.items c.ino state.0.map.map good
      (λ idx. (v.inodes.each c.ino state.0 state.1).places idx ∙ ap (option_map _) (live_maps idx)) in
      omega (arith, few, ap (λ (slots : List ℕ). length slots) is.due)

  -- and nothing, where the daemon rests
  pub due_none : DaemonRests b → c.due.items ≡ []
  due_none rests = sym is.due ∙ cleaned_rests d.geometry (d.inode c.ino).log c.pages.items c.ino good (λ idx m maps_so.
      complete_then m.flag (λ undone. nothing_waits b c.ino m.slot rests
      (v.queue.waits c.ino idx m (record { in_table = is.in_table; live = is.live; maps = live_maps idx ∙ maps_so }) undone)))
