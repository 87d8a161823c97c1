-- A log that grows by the items of runs: the event that it is.
use Rattle.std.proofs.Common.{◌≡◌, ◌⊎◌, inl, inr, ℕ, ◌+◌, ◌<◌, ◌≤◌, List, [], ◌∷◌, length, refl, sym, ◌∙◌, ap, subst, arith}
use Rattle.std.specs.Prelude.{Option}
use Rattle.log_entry.specs.Spelling.{pages_of}
use Rattle.log_entry.specs.declared.item.LogItem.{LogItem}
use Rattle.dn_model.specs.Log.{IsPaged, count, placed_from}
use Rattle.dn_model.specs.Maps.{Mapping, mapping, mapped_after, cut_to, size_of, size_after}
use Rattle.dn_model.specs.Disk.{Disk, Use, Live, maps, maps_by_use}
use Rattle.dn_model.specs.Growth.{IsGrown}
use Rattle.law_write.specs.Events.{Relogs}
use Rattle.law_write.specs.Writing.{IsNewMapping, Writes}
use Rattle.law_write.specs.Runs.{Run, run_items, places_in, block_at, IsChained}
use Rattle.law_write.proofs.Mapped.{mapping-grown}
use Rattle.law_write.proofs.RunItems.{IsOutside, runs-own, runs-other, size_after-runs, size-grown, block_at-here}

some_other : (size : ℕ) (pages : List ℕ) (k idx : ℕ) (m : Option Mapping) (runs : List Run) (first : ℕ) → 1 ≤ length runs → IsChained first runs
    → IsOutside first (places_in runs) idx
    → mapped_after idx m (placed_from pages k (run_items runs size)) ≡ cut_to size idx m
some_other size pages k idx m [] first some chained out = absurd (omega arith)
some_other size pages k idx m (run ∷ runs) first some chained out = runs-other size pages k idx m run runs first chained out

some_size : (n size : ℕ) (runs : List Run) → 1 ≤ length runs → size_after n (run_items runs size) ≡ size
some_size n size [] some = absurd (omega arith)
some_size n size (run ∷ runs) some = size_after-runs n size run runs

module _ (ino : ℕ) (old new : Disk) (relogs : Relogs ino old new) (grown : IsGrown (old.inode ino).log (new.inode ino).log)
    (paged : IsPaged old.geometry (old.inode ino).log) (live : (old.inode ino).use_of ≡ Live)
    (first size : ℕ) (runs : List Run) (more : grown.more ≡ run_items runs size) (some : 1 ≤ length runs) (chained : IsChained first runs) where
  -- the mapping of a place, by the items that came
  maps-items : (idx : ℕ) → maps new ino idx ≡ mapped_after idx (maps old ino idx) (placed_from (new.inode ino).log.pages (count (old.inode ino).log)
      (run_items runs size))
  unfolding maps
  maps-items idx =
      ap (λ (u : Use). maps_by_use u (new.inode ino).log idx) (relogs.same_use ∙ live)
      ∙ mapping-grown old.geometry (old.inode ino).log (new.inode ino).log grown paged idx
      ∙ ap (λ (xs : List LogItem). mapped_after idx (mapping (old.inode ino).log idx)
      (placed_from (new.inode ino).log.pages (count (old.inode ino).log) xs)) more
      ∙ ap (λ (u : Use). mapped_after idx (maps_by_use u (old.inode ino).log idx) (placed_from (new.inode ino).log.pages (count (old.inode ino).log)
      (run_items runs size))) (sym live)

  pub maps-own : first + places_in runs ≤ pages_of size → (i : ℕ) → i < places_in runs → IsNewMapping (maps new ino (first + i)) (block_at runs i)
  maps-own inside i lt = subst (λ (m : Option Mapping). IsNewMapping m (block_at runs i)) (sym (maps-items (first + i)))
      (runs-own size (new.inode ino).log.pages (count (old.inode ino).log) i (maps old ino (first + i)) runs first chained lt inside)

  pub maps-other : (idx : ℕ) → (idx < first) ⊎ (first + places_in runs ≤ idx) → maps new ino idx ≡ cut_to size idx (maps old ino idx)
  maps-other idx out = maps-items idx ∙ some_other size (new.inode ino).log.pages (count (old.inode ino).log) idx (maps old ino idx) runs first some
      chained out

  pub size-last : size_of (new.inode ino).log ≡ size
  size-last = size-grown (old.inode ino).log (new.inode ino).log grown ∙ ap (size_after (size_of (old.inode ino).log)) more ∙ some_size
      (size_of (old.inode ino).log) size runs some

  abbrev pub writes_runs : ino < old.geometry.inodes → first + places_in runs ≤ pages_of size → ((i j : ℕ) → i < places_in runs → j < places_in runs
      → block_at runs i ≡ block_at runs j → i ≡ j) → Writes ino old new
  writes_runs in_table inside apart = record {
    relogs = relogs;
    grown = grown;
    paged = paged;
    in_table = in_table;
    live = live;
    first = first;
    n = places_in runs;
    size = size;
    blocks = block_at runs;
    apart = apart;
    own = maps-own inside;
    other = maps-other;
    last_size = size-last;
  }

-- one run alone: its places go to consecutive pages
module _ (ino : ℕ) (old new : Disk) (relogs : Relogs ino old new) (grown : IsGrown (old.inode ino).log (new.inode ino).log)
    (paged : IsPaged old.geometry (old.inode ino).log) (live : (old.inode ino).use_of ≡ Live)
    (size : ℕ) (run : Run) (more : grown.more ≡ run_items (run ∷ []) size) (some : 1 ≤ run.count) (few : run.count ≤ 17) where
  pub run_chained : IsChained run.first (run ∷ [])
  run_chained = (refl, some, few, tt)

  abbrev pub writes_run : ino < old.geometry.inodes → run.first + run.count ≤ pages_of size → Writes ino old new
  writes_run in_table inside = record {
    relogs = relogs;
    grown = grown;
    paged = paged;
    in_table = in_table;
    live = live;
    first = run.first;
    n = run.count;
    size = size;
    blocks = λ i. run.block + i;
    apart = λ i j il jl e. omega arith;
    own = λ i lt. subst (IsNewMapping (maps new ino (run.first + i))) (block_at-here run [] i lt)
        (maps-own ino old new relogs grown paged live run.first size (run ∷ []) more (omega arith) run_chained (omega arith) i (omega arith));
    other = λ idx out. maps-other ino old new relogs grown paged live run.first size (run ∷ []) more (omega arith) run_chained idx (outside idx out);
    last_size = size-last ino old new relogs grown paged live run.first size (run ∷ []) more (omega arith) run_chained;
  }
    where
      outside : (idx : ℕ) → (idx < run.first) ⊎ (run.first + run.count ≤ idx) → (idx < run.first) ⊎ (run.first + (run.count + 0) ≤ idx)
      outside idx (inl low) = inl low
      outside idx (inr high) = inr (omega arith)
