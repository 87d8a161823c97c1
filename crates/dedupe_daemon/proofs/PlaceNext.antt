-- The place that the daemon looks at: what is kept of it, and what the disk has.
use Rattle.std.proofs.Common.{◌≡◌, ◌≢◌, inl, inr, ℕ, ◌+◌, ◌*◌, ◌^◌, ◌<◌, ◌≤◌, Bool, false, List, [], ◌∷◌, length, refl, sym, ◌∙◌, ap, subst, arith}
use Rattle.std.specs.Prelude.{slice_get, slice_index, slice_index_or, Option, Some, None, Contains, IsNone, IsBitSet, if◌then◌else◌, ◌==◌, ◌↔◌}
use Rattle.std.specs.Option.{option_map}
use Rattle.std.specs.FinMap.{get}
use Rattle.std.proofs.lemmas.Bool.Decides.{nat_tests}
use Rattle.pm_device.specs.State.{State}
use Rattle.pm_layout.specs.declared.Geometry.{Geometry}
use Rattle.log_entry.specs.declared.item.Flag.TheVariants.{InProcess}
use Rattle.file_index.specs.declared.page_map.Mapping.{Mapping as KeptMapping}
use Rattle.file_content.specs.Content.{kept}
use Rattle.dn_model.specs.Maps.{Mapping}
use Rattle.dn_model.specs.Table.{Row, row_of}
use Rattle.dn_model.specs.Disk.{Disk, maps, rows}
use Rattle.dn_model.specs.Own.{IsAlone, HasRow}
use Rattle.law_table.proofs.Rows.{row_found, listed_here, listed_later}
use Rattle.law_write.specs.Events.{IsReadPage}
use Rattle.law_write.proofs.MappedPlaces.{maps-in_file}
use Rattle.law_write.proofs.Unread.{read_in_data}
use Rattle.fact_table.specs.Table.{HasTable, HasNoneOf, IsOfPage}
use Rattle.dn_volume.specs.declared.background.Sharing.{Sharing}
use Rattle.dn_volume.specs.declared.volume.InodeState.{InodeState}
use Rattle.dn_volume.specs.declared.volume.Parts.{Parts}
use Rattle.dn_volume.specs.declared.volume.Volume.{Volume}
use Rattle.dn_volume.specs.Shares.{IsBegun}
use Rattle.dn_volume.specs.Agrees.{IsVolume, Agrees}
use Rattle.dn_volume.proofs.Tables.{is_table, running_disk}
use Rattle.reclaim.proofs.DyingFound.{read_at}
use Rattle.reclaim.proofs.NodesChanged.{there_at, same_some}
use Rattle.dedupe_daemon.specs.Looked.{IsLooking, IsAtPlace, IsPassed, IsNextPlace}
use Rattle.dedupe_daemon.proofs.ItemAt.{item_spelled, slot_in_data, slot_inside, word_is, places_of}
use Rattle.dedupe_daemon.proofs.RelogDisk.{some_of}
use Rattle.dedupe_daemon.proofs.PassEnds.{begun_write}

-- a page of which no row is found
pub none_found : (rs : List Row) (page : ℕ) → ((row : Row) → Contains rs row → row.page ≢ page) → IsNone (row_of rs page)
none_found [] page none = refl
none_found (x ∷ rs) page none = subst (λ (t : Bool). IsNone (if t then Some x else row_of rs page))
    (sym (other x.page page (none x (listed_here x rs)))) (none_found rs page (λ row has. none row (listed_later x rs row has)))
  where
    other : (a b : ℕ) → a ≢ b → (a == b) ≡ false
    other a b ne = grind (arith, nat_tests)

-- what is found at a place of the list
module _ (inodes : List InodeState) (sharing : Sharing) (node : InodeState) (lt : sharing.work.ino < length inodes)
    (is : node ≡ slice_index_or inodes sharing.work.ino node) where
  pub next_found : (m : KeptMapping) → get node.map.map (sharing.first + sharing.done) ≡ Some m → m.slot ≡ sharing.work.slot
      → IsNextPlace inodes sharing m
  next_found m mapped by = record { node = node; there = read_at inodes sharing.work.ino node lt is; mapped = mapped; by_item = by }

  same_node : (n : InodeState) → slice_get inodes sharing.work.ino ≡ Some n → n ≡ node
  same_node n at = same_some (slice_get inodes sharing.work.ino) n node at (read_at inodes sharing.work.ino node lt is)

  pub next_other : (m : KeptMapping) → get node.map.map (sharing.first + sharing.done) ≡ Some m → (m.slot ≡ sharing.work.slot → ⊥) → (n : KeptMapping)
      → IsNextPlace inodes sharing n → ⊥
  next_other m mapped other n next =
      let same : get next.node.map.map (sharing.first + sharing.done) ≡ get node.map.map (sharing.first + sharing.done) =
      ap (λ (x : InodeState). get x.map.map (sharing.first + sharing.done)) (same_node next.node next.there) in
      let one : n ≡ m = same_some (get node.map.map (sharing.first + sharing.done)) n m (sym same ∙ next.mapped) mapped in
      other (ap (λ (x : KeptMapping). x.slot) (sym one) ∙ next.by_item)

  pub next_none : get node.map.map (sharing.first + sharing.done) ≡ None → (n : KeptMapping) → IsNextPlace inodes sharing n → ⊥
  next_none none n next =
      clash (get node.map.map (sharing.first + sharing.done)) n none
      (sym (ap (λ (x : InodeState). get x.map.map (sharing.first + sharing.done)) (same_node next.node next.there)) ∙ next.mapped)
    where
      clash : (o : Option KeptMapping) (x : KeptMapping) → o ≡ None → o ≡ Some x → ⊥
      clash o x none some = cc

module _ (d : Disk) (b : Parts) (s : State) (v : IsVolume d b s) (sharing : Sharing) (looking : IsLooking b sharing) where
  abbrev begun : IsBegun d sharing
  begun = (v.sharing sharing looking.begun).begun

  pub next_mapped : (m : KeptMapping) → IsNextPlace b.inodes.items sharing m
      → (n : Mapping) × (maps d sharing.work.ino (sharing.first + sharing.done) ≡ Some n) × (m ≡ kept n)
  next_mapped m next = some_of kept (maps d sharing.work.ino (sharing.first + sharing.done)) m
      (sym ((v.inodes.each sharing.work.ino next.node next.there).places (sharing.first + sharing.done)) ∙ next.mapped)

  next_so : (n : Mapping) → maps d sharing.work.ino (sharing.first + sharing.done) ≡ Some n → n.slot ≡ sharing.work.slot
      → IsNextPlace b.inodes.items sharing (kept n)
  next_so n mapped by =
      let at = there_at b.inodes.items sharing.work.ino (omega (arith, begun.in_table, v.inodes.all)) in
      record {
        node = at.0;
        there = at.1;
        mapped = (v.inodes.each sharing.work.ino at.0 at.1).places (sharing.first + sharing.done) ∙ ap (option_map kept) mapped;
        by_item = by;
      }

  -- the item maps it no more
  pub passed_none : ((m : KeptMapping) → IsNextPlace b.inodes.items sharing m → ⊥) → IsPassed d sharing
  passed_none none n mapped by = absurd (none (kept n) (next_so n mapped by))

  -- what the words of the item tell
  pub item_small : (sharing.work.slot < 2 ^ 32) × (sharing.done < 64) × (sharing.first + sharing.done < 2 ^ 64) × (8 * sharing.work.slot + 8 ≤ length
      s.now)
  item_small =
      let spelled = item_spelled d v.fast.valid sharing.work.ino sharing.work.slot sharing.first sharing.count begun.block begun.size InProcess
      begun.mask
      (begun_write d sharing begun) in
      let page = slot_in_data d v.fast.valid sharing.work.ino sharing.work.slot sharing.first sharing.count begun.block begun.size InProcess
      begun.mask
      (begun_write d sharing begun) in (
        omega (arith, page.high, v.fast.valid.accepted.few_pages),
        omega (arith, spelled.1, looking.some),
        omega (arith, spelled.2, spelled.3, looking.some),
        slot_inside d v.fast.valid sharing.work.ino sharing.work.slot sharing.first sharing.count begun.block begun.size InProcess begun.mask
            (begun_write d sharing begun) b.geometry s v.fast,
      )

  mask_word : slice_index s.now (8 * sharing.work.slot + 6) ≡ begun.mask
  mask_word = word_is d v.fast.valid sharing.work.ino sharing.work.slot sharing.first sharing.count begun.block begun.size InProcess begun.mask
      (begun_write d sharing begun) b.geometry s v.fast 6 (omega arith)

  -- its bit of the mask
  pub alone_so : (n : Mapping) → maps d sharing.work.ino (sharing.first + sharing.done) ≡ Some n → n.slot ≡ sharing.work.slot
      → IsBitSet (slice_index s.now (8 * sharing.work.slot + 6)) sharing.done ↔ IsAlone n
  alone_so n mapped by =
      let of = places_of d v.fast.valid sharing.work.ino sharing.work.slot sharing.first sharing.count begun.block begun.size InProcess begun.mask
      (begun_write d sharing begun) (sharing.first + sharing.done) n mapped by in
      let bit : sharing.done ≡ n.bit = omega (arith, of.bit_is) in
      let word : slice_index s.now (8 * sharing.work.slot + 6) ≡ n.mask = mask_word ∙ sym of.mask_is in (
        (λ set. subst (λ (k : ℕ). IsBitSet k n.bit) word (subst (IsBitSet (slice_index s.now (8 * sharing.work.slot + 6))) bit set)),
        (λ alone. subst (IsBitSet (slice_index s.now (8 * sharing.work.slot + 6))) (sym bit)
            (subst (λ (k : ℕ). IsBitSet k n.bit) (sym word) alone)),
      )

  pub mapped_read : (n : Mapping) → maps d sharing.work.ino (sharing.first + sharing.done) ≡ Some n → IsReadPage d n.block
  mapped_read n mapped = inl (record {
    ino = sharing.work.ino;
    idx = sharing.first + sharing.done;
    maps_to = record {
      in_table = begun.in_table;
      in_file = maps-in_file d v.fast.valid sharing.work.ino (sharing.first + sharing.done) n begun.in_table mapped;
      by = n;
      is = mapped;
      block = refl;
    };
  })

  module _ (m : KeptMapping) (next : IsNextPlace b.inodes.items sharing m) where
    one_mapping : (n k : Mapping) → maps d sharing.work.ino (sharing.first + sharing.done) ≡ Some n
        → maps d sharing.work.ino (sharing.first + sharing.done) ≡ Some k → n ≡ k
    one_mapping n k there here = same_some (maps d sharing.work.ino (sharing.first + sharing.done)) n k there here

    pub passed_alone : IsBitSet (slice_index s.now (8 * sharing.work.slot + 6)) sharing.done → IsPassed d sharing
    passed_alone set n mapped by = inl ((alone_so n mapped by).0 set)

    pub passed_row : (row : Row) → IsOfPage d m.block row → IsPassed d sharing
    passed_row row of n mapped by =
        let was = next_mapped m next in
        let same : m.block ≡ n.block = ap (λ (k : KeptMapping). k.block) was.2 ∙ ap (λ (k : Mapping). k.block) (one_mapping was.0 n was.1 mapped) in
        inr (subst (HasRow d) (of.page_is ∙ same) (row_found (rows d) row of.there))

    pub at_place : (IsBitSet (slice_index s.now (8 * sharing.work.slot + 6)) sharing.done → ⊥) → HasNoneOf d m.block → IsAtPlace d sharing m.block
    at_place unset none =
        let was = next_mapped m next in
        let by : was.0.slot ≡ sharing.work.slot = ap (λ (k : KeptMapping). k.slot) (sym was.2) ∙ next.by_item in
        record {
          by = was.0;
          mapped = was.1;
          by_item = by;
          on_page = ap (λ (k : KeptMapping). k.block) (sym was.2);
          unmasked = λ alone. unset ((alone_so was.0 was.1 by).1 alone);
          no_row = none_found (rows d) m.block none;
        }

    pub block_small : m.block < b.fact.geometry.pages
    block_small =
        let was = next_mapped m next in
        let inside = read_in_data d v.fast.valid was.0.block (mapped_read was.0 was.1) in
        let pages = ap (λ (g : Geometry). g.pages) v.table.geometry in
        let same = ap (λ (k : KeptMapping). k.block) was.2 in
        omega (arith, inside.high, pages, same)

module _ {D F : Type 0} (state : D → State) (w : Volume D F) (agrees : Agrees state w) (running : w.parts.stopped ≡ false) (sharing : Sharing)
    (looking : IsLooking w.parts sharing) where
  abbrev found : (d : Disk) × IsVolume d w.parts (state w.device)
  found = running_disk state w running agrees

  pub place_there : sharing.work.ino < length w.parts.inodes.items
  place_there = omega (arith, (found.1.sharing sharing looking.begun).begun.in_table, found.1.inodes.all)

  pub place_small : (sharing.work.slot < 2 ^ 32) × (sharing.done < 64) × (sharing.first + sharing.done < 2 ^ 64) × (8 * sharing.work.slot + 8 ≤ length
      (state w.device).now)
  place_small = item_small found.0 w.parts (state w.device) found.1 sharing looking

  pub place_table : HasTable (state w.device).now w.parts.fact
  place_table = record { disk = found.0; is = is_table found.0 w.parts (state w.device) found.1 }

  pub place_page : (m : KeptMapping) → IsNextPlace w.parts.inodes.items sharing m → m.block < w.parts.fact.geometry.pages
  place_page m next = block_small found.0 w.parts (state w.device) found.1 sharing looking m next
