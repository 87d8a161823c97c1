-- The pages that the daemon is to look at next lie in the image.
use Rattle.std.proofs.Common.{◌≡◌, inl, ℕ, ◌+◌, ◌*◌, ◌^◌, ◌<◌, ◌≤◌, Bool, true, false, List, [], ◌∷◌, length, refl, sym, ◌∙◌, ap, subst, arith}
use Rattle.std.specs.Prelude.{slice_get, slice_index_or, Option, Some, None, All, take, flat_map, filter_map, if◌then◌else◌, ◌==◌, ◌&&◌}
use Rattle.std.specs.List.{range_with_len, cons_option}
use Rattle.std.specs.FinMap.{get}
use Rattle.std.proofs.lemmas.Bool.Decides.{nat_tests}
use Rattle.std.proofs.lemmas.List.Elements.{All-nil, All-cons, All-append}
use Rattle.pm_device.specs.State.{State}
use Rattle.file_index.specs.declared.page_map.Mapping.{Mapping as KeptMapping}
use Rattle.file_content.specs.Content.{kept}
use Rattle.dedupe_queue.specs.declared.Work.{Work}
use Rattle.dn_model.specs.Disk.{Disk, maps}
use Rattle.law_write.specs.Events.{IsReadPage}
use Rattle.law_write.proofs.MappedPlaces.{maps-in_file}
use Rattle.dn_volume.specs.declared.background.Sharing.{Sharing}
use Rattle.dn_volume.specs.declared.volume.InodeState.{InodeState}
use Rattle.dn_volume.specs.declared.volume.InodeUse.{InodeUse}
use Rattle.dn_volume.specs.declared.volume.InodeUse.TheVariants as used
use Rattle.dn_volume.specs.declared.volume.Parts.{Parts}
use Rattle.dn_volume.specs.declared.volume.Volume.{Volume}
use Rattle.dn_volume.specs.Agrees.{IsVolume, Agrees}
use Rattle.dn_volume.proofs.Tables.{running_disk}
use Rattle.reclaim.proofs.DyingFound.{read_at}
use Rattle.reclaim.proofs.NextPlace.{inside_list}
use Rattle.reclaim.proofs.NodesChanged.{same_some}
use Rattle.dedupe_daemon.specs.Fronts.{IsFreshWork, item_at}
use Rattle.dedupe_daemon.specs.Copies.{IsInside}
use Rattle.dedupe_daemon.specs.Ahead.{page_by, item_pages, node_pages, begun_pages, is_live, waiting_pages, work_pages, all_pages}
use Rattle.dedupe_daemon.proofs.Fronts.{of_file, work_inside, slot_small, first_is, count_is}
use Rattle.dedupe_daemon.proofs.ItemAt as at
use Rattle.dedupe_daemon.proofs.ItemFew as few
use Rattle.dedupe_daemon.proofs.PagesRead.{page_small, page_inside}
use Rattle.dedupe_daemon.proofs.RelogDisk.{some_of}

test_true : (a b : ℕ) → a ≡ b → (a == b) ≡ true
test_true a b same = grind (arith, nat_tests)

true_same : (a b : ℕ) → (a == b) ≡ true → a ≡ b
true_same a b is = grind (arith, nat_tests)

-- a mapping by the item is found
record IsBy (slot page : ℕ) (o : Option KeptMapping) : Type 0 where
  by : KeptMapping
  there : o ≡ Some by
  by_item : by.slot ≡ slot
  on_page : by.block ≡ page

found_by : (slot page : ℕ) (o : Option KeptMapping) → page_by slot o ≡ Some page → IsBy slot page o
found_by slot page None is = cc
found_by slot page (Some m) is = by_test (m.slot == slot) refl is
  where
    by_test : (t : Bool) → (m.slot == slot) ≡ t → (if t then Some m.block else None) ≡ Some page → IsBy slot page (Some m)
    by_test true test is = record { by = m; there = refl; by_item = true_same m.slot slot test; on_page = same_some (Some m.block) m.block page refl is }
    by_test false test is = cc

-- what holds of each page that is found
module _ (P : ℕ → Type 0) where
  all_found : (h : ℕ → Option ℕ) (xs : List ℕ) → ((x page : ℕ) → h x ≡ Some page → P page) → All P (filter_map h xs)
  all_found h [] each = All-nil P
  all_found h (x ∷ xs) each = by_found (all_found h xs each) (h x) refl
    where
      by_found : All P (filter_map h xs) → (o : Option ℕ) → h x ≡ o → All P (cons_option o (filter_map h xs))
      by_found rest None is = rest
      by_found rest (Some page) is = All-cons P page (filter_map h xs) (each x page is) rest

  all_flat : {X : Type 0} (f : X → List ℕ) (xs : List X) → ((x : X) → All P (f x)) → All P (flat_map f xs)
  all_flat f [] each = All-nil P
  all_flat f (x ∷ xs) each = All-append P (f x) (flat_map f xs) (each x) (all_flat f xs each)

none_found : (h : ℕ → Option ℕ) (xs : List ℕ) → ((x page : ℕ) → h x ≡ Some page → ⊥) → filter_map h xs ≡ []
none_found h [] none = refl
none_found h (x ∷ xs) none = by_found (none_found h xs none) (h x) refl
  where
    by_found : filter_map h xs ≡ [] → (o : Option ℕ) → h x ≡ o → cons_option o (filter_map h xs) ≡ []
    by_found rest None is = rest
    by_found rest (Some page) is = absurd (none x page is)

module _ (d : Disk) (b : Parts) (s : State) (v : IsVolume d b s) where
  abbrev inodes : List InodeState
  inodes = b.inodes.items

  -- a mapping of an inode is the disk's
  module _ (ino : ℕ) (node : InodeState) (there : slice_get b.inodes.items ino ≡ Some node) (idx : ℕ) (m : KeptMapping)
      (mapped : get node.map.map idx ≡ Some m) where
    abbrev was : (n : _) × (maps d ino idx ≡ Some n) × (m ≡ kept n)
    was = some_of kept (maps d ino idx) m (sym ((v.inodes.each ino node there).places idx) ∙ mapped)

    in_table : ino < d.geometry.inodes
    in_table = let inside = inside_list b.inodes.items ino node there in omega (arith, inside, v.inodes.all)

    in_file : idx < 4096
    in_file = maps-in_file d v.fast.valid ino idx was.0 in_table was.1

    mapped_read : IsReadPage d m.block
    mapped_read = inl (record {
      ino = ino;
      idx = idx;
      maps_to = record {
        in_table = in_table;
        in_file = in_file;
        by = was.0;
        is = was.1;
        block = ap (λ (k : KeptMapping). k.block) (sym was.2);
      };
    })

    mapped_inside : IsInside s.now m.block
    mapped_inside = record { small = page_small d b s v m.block mapped_read; inside = page_inside d b s v m.block mapped_read }

  item_inside : (item : Sharing) (ino : ℕ) (node : InodeState) → slice_get b.inodes.items ino ≡ Some node → All (IsInside s.now) (item_pages item
      node.map.map)
  item_inside item ino node there = all_found (IsInside s.now) (λ (idx : ℕ). page_by item.work.slot (get node.map.map idx))
      (range_with_len item.first item.count)
      (λ idx page is.
      let by = found_by item.work.slot page (get node.map.map idx) is in
      subst (IsInside s.now) by.on_page (mapped_inside ino node there idx by.by by.there))

  begun_inside : All (IsInside s.now) (begun_pages b.inodes.items b.sharing)
  begun_inside = by_begun b.sharing
    where
      by_node : (item : Sharing) (o : Option InodeState) → slice_get b.inodes.items item.work.ino ≡ o → All (IsInside s.now) (node_pages item o)
      by_node item None is = All-nil (IsInside s.now)
      by_node item (Some node) is = item_inside item item.work.ino node is

      by_begun : (o : Option Sharing) → All (IsInside s.now) (begun_pages b.inodes.items o)
      by_begun None = All-nil (IsInside s.now)
      by_begun (Some item) = by_node item (slice_get b.inodes.items item.work.ino) refl

  waiting_inside : (work : Work) → All (IsInside s.now) (work_pages s.now b.inodes.items work)
  waiting_inside work = by_node (slice_get b.inodes.items work.ino) refl
    where
      by_test : (node : InodeState) → slice_get b.inodes.items work.ino ≡ Some node → (t : Bool)
          → All (IsInside s.now) (if t then item_pages (item_at s.now work) node.map.map else [])
      by_test node is true = item_inside (item_at s.now work) work.ino node is
      by_test node is false = All-nil (IsInside s.now)

      by_node : (o : Option InodeState) → slice_get b.inodes.items work.ino ≡ o → All (IsInside s.now) (waiting_pages s.now work o)
      by_node None is = All-nil (IsInside s.now)
      by_node (Some node) is = by_test node is (is_live node.used && (work.round == node.round))

  all_inside : (most : ℕ) → All (IsInside s.now) (all_pages most b s.now)
  all_inside most = All-append (IsInside s.now) (begun_pages b.inodes.items b.sharing)
      (flat_map (work_pages s.now b.inodes.items) (take most b.queue.items)) begun_inside
      (all_flat (IsInside s.now) (work_pages s.now b.inodes.items) (take most b.queue.items) waiting_inside)

  -- the item that is begun
  begun_there : (item : Sharing) → b.sharing ≡ Some item → (item.work.ino < length b.inodes.items) × (item.first + item.count < 2 ^ 64)
  begun_there item is =
      let begun = (v.sharing item is).begun in
      let spelled = few.item_spelled d v.fast.valid item begun in
      (omega (arith, begun.in_table, v.inodes.all), omega (arith, spelled.1, spelled.2, spelled.3))

  module _ (work : Work) where
    module _ (fresh : IsFreshWork b.inodes.items work) where
      waiting_small : (item : Sharing) → item ≡ item_at s.now work → item.first + item.count < 2 ^ 64
      waiting_small item is =
          let of = of_file d b s v work fresh in
          let spelled = at.item_spelled d v.fast.valid work.ino work.slot of.first of.n of.block of.size of.m.flag of.m.mask of.has in
          let first = ap (λ (x : Sharing). x.first) is ∙ first_is d b s v work of in
          let count = ap (λ (x : Sharing). x.count) is ∙ count_is d b s v work of in
          omega (arith, spelled.1, spelled.2, spelled.3, first, count)

    fresh_none : (IsFreshWork b.inodes.items work → ⊥) → (words : List ℕ) → work_pages words b.inodes.items work ≡ []
    fresh_none stale words = by_node (slice_get b.inodes.items work.ino) refl
      where
        live : (u : InodeUse) → is_live u ≡ true → u ≡ used.Live
        live used.Free is = cc
        live used.Live is = refl
        live (used.Dying cut) is = cc

        both : (x y : Bool) → (x && y) ≡ true → (x ≡ true) × (y ≡ true)
        both true true is = (refl, refl)
        both true false is = cc
        both false y is = cc

        no_page : (node : InodeState) → slice_get b.inodes.items work.ino ≡ Some node → (is_live node.used && (work.round == node.round)) ≡ true
            → (idx page : ℕ) → page_by work.slot (get node.map.map idx) ≡ Some page → ⊥
        no_page node there test idx page is =
            let by = found_by work.slot page (get node.map.map idx) is in
            let halves = both (is_live node.used) (work.round == node.round) test in
            stale (record {
              node = node;
              there = there;
              has = record {
                live = live node.used halves.0;
                round = true_same work.round node.round halves.1;
                place = record {
                  idx = idx;
                  in_file = in_file work.ino node there idx by.by by.there;
                  is = record { by = by.by; mapped = by.there; by_item = by.by_item };
                };
              };
            })

        by_test : (node : InodeState) → slice_get b.inodes.items work.ino ≡ Some node → (t : Bool) → (is_live node.used && (work.round == node.round)) ≡ t
            → (if t then item_pages (item_at words work) node.map.map else []) ≡ []
        by_test node there true test = none_found (λ (idx : ℕ). page_by work.slot (get node.map.map idx))
            (range_with_len (item_at words work).first (item_at words work).count) (no_page node there test)
        by_test node there false test = refl

        by_node : (o : Option InodeState) → slice_get b.inodes.items work.ino ≡ o → waiting_pages words work o ≡ []
        by_node None is = refl
        by_node (Some node) is = by_test node is (is_live node.used && (work.round == node.round)) refl

-- what is found of a fresh item
pub fresh_pages : (nodes : List InodeState) (work : Work) (words : List ℕ) (fresh : IsFreshWork nodes work) (node : InodeState)
    → node ≡ slice_index_or nodes work.ino node
    → (item : Sharing) → item ≡ item_at words work → item_pages item node.map.map ≡ work_pages words nodes work
fresh_pages nodes work words fresh node is item of =
    let there = read_at nodes work.ino node (inside_list nodes work.ino fresh.node fresh.there) is in
    let same = same_some (slice_get nodes work.ino) fresh.node node fresh.there there in
    let live = ap is_live (ap (λ (n : InodeState). n.used) (sym same) ∙ fresh.has.live) in
    let round = test_true work.round node.round (fresh.has.round ∙ ap (λ (n : InodeState). n.round) same) in
    ap (λ (x : Sharing). item_pages x node.map.map) of
    ∙ sym (ap (waiting_pages words work) there
    ∙ ap (λ (t : Bool). if t && (work.round == node.round) then item_pages (item_at words work) node.map.map else []) live
    ∙ ap (λ (t : Bool). if true && t then item_pages (item_at words work) node.map.map else []) round)

-- what is found of the item that is begun
pub begun_found : (nodes : List InodeState) (begun : Option Sharing) (item : Sharing) → begun ≡ Some item → item.work.ino < length nodes
    → (node : InodeState) → node ≡ slice_index_or nodes item.work.ino node → item_pages item node.map.map ≡ begun_pages nodes begun
begun_found nodes begun item is lt node at = sym (ap (begun_pages nodes) is ∙ ap (node_pages item) (read_at nodes item.work.ino node lt at))

module _ {D F : Type 0} (state : D → State) (w : Volume D F) (agrees : Agrees state w) (running : w.parts.stopped ≡ false) where
  abbrev found : (d : Disk) × IsVolume d w.parts (state w.device)
  found = running_disk state w running agrees

  pub begun_fits : (item : Sharing) → w.parts.sharing ≡ Some item
      → (item.work.ino < length w.parts.inodes.items) × (item.first + item.count < 2 ^ 64)
  begun_fits item is = begun_there found.0 w.parts (state w.device) found.1 item is

  pub pages_fit : (most : ℕ) → All (IsInside (state w.device).now) (all_pages most w.parts (state w.device).now)
  pages_fit most = all_inside found.0 w.parts (state w.device) found.1 most

  module _ (work : Work) where
    pub work_none : (IsFreshWork w.parts.inodes.items work → ⊥) → work_pages (state w.device).now w.parts.inodes.items work ≡ []
    work_none stale = fresh_none found.0 w.parts (state w.device) found.1 work stale (state w.device).now

    module _ (fresh : IsFreshWork w.parts.inodes.items work) where
      pub work_small : work.slot < 2 ^ 32
      work_small = slot_small found.0 w.parts (state w.device) found.1 work (of_file found.0 w.parts (state w.device) found.1 work fresh)

      pub work_fits : 8 * work.slot + 8 ≤ length (state w.device).now
      work_fits = work_inside found.0 w.parts (state w.device) found.1 work (of_file found.0 w.parts (state w.device) found.1 work fresh)

      pub work_there : work.ino < length w.parts.inodes.items
      work_there = inside_list w.parts.inodes.items work.ino fresh.node fresh.there

      pub work_item : (item : Sharing) → item ≡ item_at (state w.device).now work → item.first + item.count < 2 ^ 64
      work_item item is = waiting_small found.0 w.parts (state w.device) found.1 work fresh item is
