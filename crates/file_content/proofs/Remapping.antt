-- The runs of a write make the same mappings in memory and on the disk.
use Rattle.std.proofs.Common.{
  ◌≡◌,
  inl,
  inr,
  ℕ,
  ◌+◌,
  ◌-◌,
  ◌<◌,
  ◌≤◌,
  Bool,
  true,
  false,
  List,
  [],
  ◌∷◌,
  ◌++◌,
  length,
  refl,
  sym,
  ◌∙◌,
  ap,
  subst,
  arith,
  drop,
}
use Rattle.std.specs.Prelude.{if◌then◌else◌, nat_le, nat_lt, ◌&&◌, get_or, Option, Some, None}
use Rattle.std.specs.Option.{option_map}
use Rattle.std.specs.Ordering.{nat_cmp}
use Rattle.std.specs.FinMap.{FinMap, get}
use Rattle.std.proofs.lemmas.Bool.{cases_lt}
use Rattle.std.proofs.lemmas.Bool.Decides.{nat_tests}
use Rattle.std.proofs.lemmas.List.{drop_more, drop_all}
use Rattle.log_entry.specs.Spelling.{spelling, pages_of}
use Rattle.log_entry.specs.declared.item.Flag.TheVariants.{Needed}
use Rattle.pm_layout.specs.declared.Geometry.{Geometry}
use Rattle.dn_model.specs.Log.{Log, IsPaged, count, tail_at, slot_name, Placed, placed_from}
use Rattle.dn_model.specs.Maps.{Mapping as DiskMapping, mapping, mapped_after, remapped}
use Rattle.dn_model.specs.Disk.{Disk, Use, maps, maps_by_use}
use Rattle.dn_model.specs.Growth.{IsGrown}
use Rattle.law_write.specs.Events.{Relogs}
use Rattle.law_write.specs.Runs.{run_item, run_items, places_in, IsChained}
use Rattle.law_write.specs.MayWrite.{MayWrite, written_disk}
use Rattle.law_write.proofs.Mapped.{mapping-grown}
use Rattle.law_write.proofs.MappedPlaces.{uncut, mapping-below}
use Rattle.law_write.proofs.WithLog.{with_log-grown}
use Rattle.law_write.proofs.WriteRuns.{size-last}
use Rattle.law_write.proofs.WrittenDisk.{log_before, written-relogs}
use Rattle.file_index.specs.Index.{Index}
use Rattle.file_index.specs.declared.page_map.Mapping.{Mapping}
use Rattle.file_content.specs.declared.runs.Run.{Run}
use Rattle.file_content.specs.Content.{kept, IsFileOf}
use Rattle.file_content.specs.Runs.{seen, all_seen, mapped_by, mapped_by_all}
use Rattle.file_content.specs.RemapLoop.{MapsRun, MapsTo}

past_test : (a b : ℕ) → b ≤ a → nat_lt a b ≡ false
past_test a b le = grind (arith, nat_tests)

past_range : (first n idx : ℕ) → first + n ≤ idx → (nat_le first idx && nat_lt idx (first + n)) ≡ false
past_range first n idx le = grind (arith, nat_tests)

-- one run
module _ (size slot : ℕ) (run : Run) (idx : ℕ) (m : Option DiskMapping) where
  abbrev here : Placed
  here = record { slot = slot; item = run_item size (seen run) }

  abbrev set_here : DiskMapping
  set_here = record { block = run.block + (idx - run.first); slot = slot; bit = idx - run.first; flag = Needed; mask = 0 }

  past_size : pages_of size ≤ idx → remapped idx m here ≡ None
  past_size le = ap (λ (b : Bool). if b then (if nat_le run.first idx && nat_lt idx (run.first + run.count) then Some set_here else m) else None)
      (past_test idx (pages_of size) le)

  below_size : idx < pages_of size → option_map kept (remapped idx m here) ≡ mapped_by run.first run.count run.block slot idx (option_map kept m)
  below_size lt =
      ap (option_map kept) (uncut size idx (if nat_le run.first idx && nat_lt idx (run.first + run.count) then Some set_here else m) lt)
      ∙ by_test (nat_le run.first idx && nat_lt idx (run.first + run.count))
    where
      by_test : (b : Bool) → option_map kept (if b then Some set_here else m) ≡ (if b then Some (kept set_here) else option_map kept m)
      by_test true = refl
      by_test false = refl

  -- a run within the size
  pub same_step : run.first + run.count ≤ pages_of size → (pages_of size ≤ idx → m ≡ None) → option_map kept (remapped idx m here) ≡ mapped_by
      run.first run.count run.block slot idx (option_map kept m)
  same_step inside none = elim (cases_lt idx (pages_of size)) [
    | inl low ↦ below_size low
    | inr high ↦
        ap (option_map kept) (past_size high ∙ sym (none high))
        ∙ sym (ap (λ (b : Bool). if b then Some (kept set_here) else option_map kept m)
        (past_range run.first run.count idx (omega (arith, inside, high))))
  ]

-- runs one after another, whose items go on from slot k of these pages
module _ (size : ℕ) (pages : List ℕ) (idx : ℕ) where
  pub same_mappings : (k first : ℕ) (m : Option DiskMapping) (runs : List Run) → IsChained first (all_seen runs)
      → first + places_in (all_seen runs) ≤ pages_of size → (pages_of size ≤ idx → m ≡ None)
      → option_map kept (mapped_after idx m (placed_from pages k (run_items (all_seen runs) size))) ≡ mapped_by_all (slot_name pages) k idx
      (option_map kept m) runs
  unfolding spelling
  same_mappings k first m [] chained inside none = refl
  same_mappings k first m (run ∷ runs) chained inside none =
      same_mappings (k + 1) (first + run.count) (remapped idx m (here size (slot_name pages k) run idx m)) runs chained.3 (omega arith)
      (past_size size (slot_name pages k) run idx m)
      ∙ ap (λ (x : Option Mapping). mapped_by_all (slot_name pages) (k + 1) idx x runs) (same_step size (slot_name pages k) run idx m
      (omega (arith, chained.0)) none)

module _ (d : Disk) (ino old_size size first : ℕ) (fresh : List ℕ) (runs : List Run) (word : ℕ → ℕ → ℕ) (old new : FinMap nat_cmp Mapping)
    (is : IsFileOf d ino old_size old) (may : MayWrite d ino fresh first size (all_seen runs) word) where
  abbrev log : Log
  log = (d.inode ino).log

  abbrev after : Disk
  after = written_disk d ino fresh size (all_seen runs) word

  abbrev grown : IsGrown log (after.inode ino).log
  grown = with_log-grown d ino fresh (run_items (all_seen runs) size) word

  relogs : Relogs ino d after
  relogs = written-relogs d ino fresh first size (all_seen runs) word may

  paged : IsPaged d.geometry log
  paged = (log_before d ino fresh first size (all_seen runs) word may).paged

  maps_after : (idx : ℕ) → maps after ino idx ≡ mapped_after idx (maps d ino idx) (placed_from (log.pages ++ fresh) (count log)
      (run_items (all_seen runs) size))
  unfolding maps
  maps_after idx =
      ap (λ (u : Use). maps_by_use u (after.inode ino).log idx) (relogs.same_use ∙ may.live)
      ∙ mapping-grown d.geometry log (after.inode ino).log grown paged idx
      ∙ ap (λ (ps : List ℕ). mapped_after idx (mapping log idx) (placed_from ps (count log) (run_items (all_seen runs) size))) grown.pages
      ∙ ap (λ (u : Use). mapped_after idx (maps_by_use u log idx) (placed_from (log.pages ++ fresh) (count log) (run_items (all_seen runs) size)))
      (sym may.live)

  mapped_below : (idx : ℕ) (x : DiskMapping) → maps d ino idx ≡ Some x → idx < pages_of old_size
  unfolding maps
  mapped_below idx x e = subst (λ (n : ℕ). idx < pages_of n) is.size_is
      (mapping-below log idx x (ap (λ (u : Use). maps_by_use u log idx) (sym may.live) ∙ e))

  none_past : old_size ≤ size → (idx : ℕ) → pages_of size ≤ idx → maps d ino idx ≡ None
  none_past le idx high = by_case (maps d ino idx) refl
    where
      by_case : (m : Option DiskMapping) → maps d ino idx ≡ m → maps d ino idx ≡ None
      by_case None e = e
      by_case (Some x) e = absurd (let below = mapped_below idx x e in omega (arith, below, le, high))

  -- what is kept of the file is so after the commit
  pub file_after : old_size ≤ size → ((idx : ℕ) → get new idx ≡ mapped_by_all (slot_name (log.pages ++ fresh)) (count log) idx (get old idx) runs)
      → IsFileOf after ino size new
  file_after le each = record {
    live = relogs.same_use ∙ is.live;
    in_table = subst (λ (g : Geometry). ino < g.inodes) (sym relogs.geometry) is.in_table;
    size_is = size-last ino d after relogs grown paged may.live first size (all_seen runs) refl may.some may.chained;
    small = may.small;
    places = λ idx.
        each idx ∙ ap (λ (m : Option Mapping). mapped_by_all (slot_name (log.pages ++ fresh)) (count log) idx m runs) (is.places idx)
        ∙ sym (same_mappings size (log.pages ++ fresh) idx (count log) first (maps d ino idx) runs may.chained may.in_size (none_past le idx))
        ∙ sym (ap (option_map kept) (maps_after idx));
  }

-- one run more is mapped
module _ (tail : ℕ) (fresh : List ℕ) (runs : List Run) (j : ℕ) (start old new : Index nat_cmp Mapping) (lt : j < length runs)
    (to : MapsTo tail fresh runs j start old) where
  abbrev run : Run
  run = get_or runs j (record { first = 0; count = 0; block = 0 })

  splits : drop j runs ≡ run ∷ drop (j + 1) runs
  splits = drop_more runs j (record { first = 0; count = 0; block = 0 }) lt

  pub maps-next : (slot : ℕ) → ((g : Geometry) (log : Log) → IsPaged g log → tail ≡ tail_at log.pages (count log)
      → slot ≡ slot_name (log.pages ++ fresh) (count log + j)) → MapsRun run.first run.count run.block slot old new
      → MapsTo tail fresh runs (j + 1) start new
  maps-next slot slot_is maps = record {
    each = λ g log paged tail_is idx.
        let name : ℕ → ℕ = slot_name (log.pages ++ fresh) in
        let further : count log + (j + 1) ≡ count log + j + 1 = omega arith in
        ap (λ (k : ℕ). mapped_by_all name k idx (get new.map idx) (drop (j + 1) runs)) further
        ∙ ap (λ (m : Option Mapping). mapped_by_all name (count log + j + 1) idx m (drop (j + 1) runs)) (maps.each idx)
        ∙ ap (λ (s : ℕ). mapped_by_all name (count log + j + 1) idx (mapped_by run.first run.count run.block s idx (get old.map idx))
        (drop (j + 1) runs)) (slot_is g log paged tail_is)
        ∙ sym (ap (mapped_by_all name (count log + j) idx (get old.map idx)) splits)
        ∙ to.each g log paged tail_is idx;
    room = let e = ap (λ (rs : List Run). places_in (all_seen rs)) splits in omega (arith, e, to.room, maps.room);
  }

-- all are mapped
module _ (tail : ℕ) (fresh : List ℕ) (runs : List Run) (j : ℕ) (old new : Index nat_cmp Mapping) (to : MapsTo tail fresh runs j old new)
    (all : length runs ≤ j) where
  none_left : drop j runs ≡ []
  none_left = drop_all j runs all

  pub maps-all : (d : Disk) (ino old_size size first : ℕ) (word : ℕ → ℕ → ℕ) → IsFileOf d ino old_size old.map → MayWrite d ino fresh first size
      (all_seen runs) word → tail ≡ tail_at (d.inode ino).log.pages (count (d.inode ino).log) → old_size ≤ size
      → IsFileOf (written_disk d ino fresh size (all_seen runs) word) ino size new.map
  maps-all d ino old_size size first word is may tail_is le =
      file_after d ino old_size size first fresh runs word old.map new.map is may le
      (λ idx. sym (ap (mapped_by_all (slot_name ((d.inode ino).log.pages ++ fresh)) (count (d.inode ino).log + j) idx (get new.map idx)) none_left)
      ∙ to.each d.geometry (d.inode ino).log (log_before d ino fresh first size (all_seen runs) word may).paged tail_is idx)
