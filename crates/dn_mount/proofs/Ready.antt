-- What was read of a device becomes the scan of the words that a repair leaves.
use Rattle.std.proofs.Common.{◌≡◌, inr, ℕ, zero, suc, ◌*◌, ◌<◌, ◌≤◌, List, [], ◌∷◌, length, map, get_or, refl, sym, ◌∙◌, ap, subst, arith}
use Rattle.std.specs.Prelude.{slice_index, slice_get, Some, Contains, All}
use Rattle.std.proofs.lemmas.List.{length-map, get_or-map}
use Rattle.std.proofs.lemmas.List.Elements.{Contains-get_or}
use Rattle.std.proofs.lemmas.Option.{slice_get-get_or}
use Rattle.pm_device.specs.State.{State, Agree}
use Rattle.pm_device.specs.Settled.{Still, LeavesOnly}
use Rattle.pm_layout.specs.declared.Geometry.{Geometry}
use Rattle.pm_layout.specs.Geometry.{directs, slots}
use Rattle.log_entry.specs.declared.item.Flag.TheVariants.{Complete}
use Rattle.log_entry.specs.declared.item.LogItem.TheVariants.{Write}
use Rattle.page_alloc.specs.Free.{FreePages}
use Rattle.dn_model.specs.Maps.{Mapping, mapping}
use Rattle.dn_model.specs.Log.{Placed}
use Rattle.dn_model.specs.Table.{Row}
use Rattle.dn_model.specs.Disk.{Disk, Use, of_inodes, of_logs, of_chains, maps, maps_by_use, rows}
use Rattle.dn_model.specs.Counts.{mappings}
use Rattle.dn_model.specs.Files.{named}
use Rattle.dn_model.specs.Own.{LivePlace}
use Rattle.law_table.specs.Changes.{with_table}
use Rattle.law_table.proofs.Rows.{row_found}
use Rattle.law_table.proofs.TableRows.{good_of}
use Rattle.law_table_on_disk.proofs.NextDisk.{table_said}
use Rattle.law_write.proofs.Unread.{read_in_data}
use Rattle.fact_scan.specs.Seen.{as_row}
use Rattle.fact_scan.specs.Scan.{HasRows}
use Rattle.fact_scan.specs.declared.row.Row.{Row as RowValue}
use Rattle.fact_table.specs.Table.{Table, IsTable}
use Rattle.fact_table.specs.Loaded.{HasRowsOf}
use Rattle.fact_table.proofs.Whole.{slot_small, all_found}
use Rattle.image_logs.specs.Logs.{IsSaid}
use Rattle.image_logs.proofs.Hits.{pages-few}
use Rattle.image_uses.specs.Uses.{IsCounted}
use Rattle.image_keep.specs.Needed.{IsMappedBy}
use Rattle.image_keep.specs.Free.{AreFreePages}
use Rattle.image_keep.specs.Waiting.{IsOpenItem, WaitBelow, work_for}
use Rattle.image_keep.specs.Keeping.{AreKeptOf, AreKeptTo}
use Rattle.image_keep.specs.declared.keep.Kept.{Kept}
use Rattle.image_keep.proofs.Items.{mapped_by_item}
use Rattle.image_keep.proofs.Queued.{waits_below}
use Rattle.dn_check.specs.Passing.{IsWhole}
use Rattle.dn_volume.specs.declared.volume.InodeState.{InodeState}
use Rattle.dn_volume.specs.Reclaims.{mapped_places}
use Rattle.table_repair.specs.Later.{HasLater}
use Rattle.table_repair.specs.Settling.{SettlesFrom, IsTableToSettle, TableIsSettled}
use Rattle.table_repair.proofs.Changes.{settles_same}
use Rattle.table_repair.proofs.Later.{leaves_none}
use Rattle.dn_mount.specs.declared.read.WholeRead.{WholeRead}
use Rattle.dn_mount.specs.Scanned.{Waits, IsScanOf}
use Rattle.dn_mount.specs.Reading.{IsReadyOf}

abbrev no_row : Row
no_row = record { slot = 0; print = []; page = 0; rfc = 0; uc = 0 }

-- what speaks of inodes and their logs alone is the same of a disk with another table
kept_with : (d : Disk) (chain : ℕ → List Row) (pointer : ℕ → ℕ) (k : ℕ) (kept : Kept) → AreKeptOf d k kept → AreKeptOf (with_table d chain pointer) k
    kept
unfolding maps mapped_places
kept_with d chain pointer k kept are = record {
  each = λ ino n at. let is = are.each ino n at in record {
    use_is = is.use_is;
    size_is = is.size_is;
    small = is.small;
    log_pages = is.log_pages;
    places = is.places;
  };
  queue = are.queue;
  waiting = are.waiting;
}

names_with : (d : Disk) (chain : ℕ → List Row) (pointer : ℕ → ℕ) (name : List ℕ) → named (with_table d chain pointer) name ≡ named d name
unfolding named
names_with d chain pointer name = refl

mappings_with : (d : Disk) (chain : ℕ → List Row) (pointer : ℕ → ℕ) (page : ℕ) → mappings (with_table d chain pointer) page ≡ mappings d page
unfolding mappings maps
mappings_with d chain pointer page = refl

free_with : (d : Disk) (chain : ℕ → List Row) (pointer : ℕ → ℕ) (set : FreePages) → AreFreePages d set → AreFreePages (with_table d chain pointer) set
free_with d chain pointer set are = record {
  pages = are.pages;
  in_order = are.in_order;
  free = λ page. (
    λ has. let is = (are.free page).0 has in record {
      data_page = is.data_page;
      in_no_log = λ in_log. is.in_no_log (record { ino = in_log.ino; in_table = in_log.in_table; used = in_log.used; listed = in_log.listed });
      unmapped = mappings_with d chain pointer page ∙ is.unmapped;
    },
    λ is. (are.free page).1 (record {
      data_page = is.data_page;
      in_no_log = λ in_log. is.in_no_log (record { ino = in_log.ino; in_table = in_log.in_table; used = in_log.used; listed = in_log.listed });
      unmapped = sym (mappings_with d chain pointer page) ∙ is.unmapped;
    }),
  );
}

some_at : {X : Type 0} (xs : List X) (k : ℕ) → k < length xs → (x : X) × (slice_get xs k ≡ Some x)
some_at [] k lt = absurd (omega (arith, lt))
some_at (x ∷ xs) zero lt = (x, refl)
some_at (x ∷ xs) (suc k) lt = some_at xs k (omega (arith, lt))

-- the places of a live file that aren't complete wait
module _ (d : Disk) (kept : Kept) (all : length kept.inodes.items ≡ d.geometry.inodes) (works : WaitBelow d.inode d.geometry.inodes kept.work.items)
    (round : (ino : ℕ) (n : InodeState) → slice_get kept.inodes.items ino ≡ Some n → n.round ≡ 0) where
  live_maps : (ino idx : ℕ) (m : Mapping) → LivePlace d ino idx m → mapping (d.inode ino).log idx ≡ Some m
  unfolding maps
  live_maps ino idx m place = ap (λ (u : Use). maps_by_use u (d.inode ino).log idx) (sym place.live) ∙ place.maps

  kept_waits : (ino idx : ℕ) (m : Mapping) → LivePlace d ino idx m → (m.flag ≡ Complete → ⊥)
      → Waits kept.work.items kept.inodes.items ino m.slot
  kept_waits ino idx m place incomplete =
      let by : IsMappedBy (d.inode ino).log idx m = mapped_by_item (d.inode ino).log idx m (live_maps ino idx m place) in
      let p : Placed = record { slot = m.slot; item = Write by.first by.count by.block by.size m.flag m.mask } in
      let is : IsOpenItem (d.inode ino).log p = record {
        first = by.first;
        count = by.count;
        block = by.block;
        size = by.size;
        flag = m.flag;
        mask = m.mask;
        item = refl;
        incomplete = incomplete;
        place = idx;
        low = by.low;
        high = by.high;
        by = m;
        mapped = live_maps ino idx m place;
        slot_is = refl;
      } in
      let at = some_at kept.inodes.items ino (omega (arith, place.in_table, all)) in
      record {
        item = work_for ino p;
        listed = waits_below d.inode d.geometry.inodes kept.work.items works ino place.in_table place.live p by.listed is;
        ino_is = refl;
        slot_is = refl;
        node = at.0;
        at = at.1;
        round_is = sym (round ino at.0 at.1);
      }

module _ (d : Disk) (g : Geometry) (s : State) (read : WholeRead) (is : IsReadyOf d g s read) where
  abbrev found : List RowValue
  found = read.image.table.rows.items

  has_rows : HasRows d.geometry s.now (directs d.geometry) (rows d)
  unfolding rows
  has_rows = record {
    chain = d.chain;
    read = record {
      reads = λ q lt a v told. is.fast.stands.reads a v (of_chains (record { prefix = q; direct = lt; says = told }));
      valid = λ q k row lt at. is.fast.valid.table q k row lt at;
      apart = is.fast.valid.rows_apart;
    };
    rows_are = refl;
  }

  pub slots_small : All (λ (row : RowValue). row.slot < slots g) found
  slots_small = all_found found (λ row. row.slot < slots g) (λ row has. subst (λ (h : Geometry). row.slot < slots h) is.fast.geometry
      (slot_small d.geometry s.now (rows d) has_rows row (subst (λ (rs : List Row). Contains rs row) is.read_of.rows_are has)))

  page_in : (row : Row) → Contains (rows d) row → row.page < d.geometry.pages
  page_in row has = (read_in_data d is.fast.valid row.page (inr (row_found (rows d) row has))).high

  -- there are no more rows than pages
  abbrev pages : List ℕ
  pages = map (λ (row : Row). row.page) (rows d)

  row_at : (j : ℕ) → j < length pages → (j < length (rows d)) × (slice_index pages j ≡ (get_or (rows d) j no_row).page)
  row_at j lt =
      let small : j < length (rows d) = omega (arith, lt, length-map (rows d) (λ (row : Row). row.page)) in
      (small, get_or-map (λ (row : Row). row.page) (rows d) j no_row 0 small)

  pages_apart : (j k : ℕ) → j < length pages → k < length pages → slice_index pages j ≡ slice_index pages k → j ≡ k
  pages_apart j k lj lk same =
      let a = row_at j lj in
      let b = row_at k lk in
      is.fast.valid.rows_apart.page j k (get_or (rows d) j no_row) (get_or (rows d) k no_row) (slice_get-get_or (rows d) j no_row a.0)
      (slice_get-get_or (rows d) k no_row b.0) (sym a.1 ∙ same ∙ b.1)

  pub rows_few : length found ≤ g.pages
  rows_few =
      let few = pages-few pages pages_apart d.geometry.pages (λ k lt. let at = row_at k lt in
      omega (arith, at.1, page_in (get_or (rows d) k no_row) (Contains-get_or (rows d) k no_row at.0))) in
      omega (
        arith,
        few,
        length-map (rows d) (λ (row : Row). row.page),
        length-map found as_row,
        ap length is.read_of.rows_are,
        ap (λ (h : Geometry). h.pages) is.fast.geometry,
      )

  pub rows_of : HasRowsOf d g s.now (map as_row found)
  rows_of = record {
    geometry = is.fast.geometry;
    size = is.fast.long ∙ ap (λ (h : Geometry). 512 * h.pages) is.fast.geometry;
    says = λ a v told. is.fast.stands.reads a v (table_said d a v told);
    good = good_of d is.fast.valid;
    rows_are = sym is.read_of.rows_are;
  }

  pub to_settle : (t : Table) → IsTable d s.now t → IsTableToSettle d t found read.image.logs.mapped.items s
  to_settle t table = record {
    stands = record { valid = is.fast.valid; stands = is.fast.stands; table = table };
    rows_are = is.read_of.rows_are;
    counted = λ row has. is.read_of.counted.mapped row.page (page_in row has);
  }

  pub nothing_settled : Agree s.now s.past → LeavesOnly s s (HasLater SettlesFrom d)
  nothing_settled agree = leaves_none SettlesFrom d s (settles_same d) is.fast.valid is.fast.stands agree is.fast.long

  pages_same : d.geometry.pages ≡ g.pages
  pages_same = ap (λ (h : Geometry). h.pages) is.fast.geometry

  module _ (whole : IsWhole g read.image) where
    pub is_counted : IsCounted d read.image.logs.in_logs.items read.image.logs.mapped.items
    is_counted = record {
      long_logs = whole.long_logs ∙ sym pages_same;
      long_mapped = whole.long_mapped ∙ sym pages_same;
      logs = is.read_of.counted.in_logs;
      places = is.read_of.counted.mapped;
    }

  said_is : IsSaid g s.now d
  said_is = record {
    geometry = is.fast.geometry;
    inodes = λ a v told. is.fast.stands.reads a v (of_inodes told);
    root = is.fast.valid.root;
    logs = λ a v told. is.fast.stands.reads a v (of_logs told);
    valid = is.fast.valid.logs;
  }

  module _ (kept : AreKeptTo g s.now g.inodes read.kept) (free : FreePages) (are_free : AreFreePages d free) (t : Table) (u : State)
      (long : length u.now ≡ length s.now) (still : Still u) (settled : TableIsSettled d t u) where
    abbrev e : Disk
    e = settled.disk

    -- so it is of the disk of after
    along : (P : Disk → Type 0) → ((chain : ℕ → List Row) (pointer : ℕ → ℕ) → P (with_table d chain pointer)) → P e
    along P all = subst P (sym settled.settles.same) (all e.chain e.pointer)

    geometry_is : e.geometry ≡ g
    geometry_is = along (λ x. x.geometry ≡ g) (λ chain pointer. is.fast.geometry)

    inodes_is : e.geometry.inodes ≡ g.inodes
    inodes_is = ap (λ (h : Geometry). h.inodes) geometry_is

    are_kept : AreKeptOf e e.geometry.inodes read.kept
    are_kept = subst (λ (k : ℕ). AreKeptOf e k read.kept) (sym inodes_is)
        (along (λ x. AreKeptOf x g.inodes read.kept) (λ chain pointer. kept_with d chain pointer g.inodes read.kept (kept.of_disk d said_is)))

    all_kept : length read.kept.inodes.items ≡ e.geometry.inodes
    all_kept = kept.all ∙ sym inodes_is

    pub is_scan : IsScanOf e (record {
      geometry = g;
      free = free;
      names = read.image.logs.names;
      inodes = read.kept.inodes;
      work = read.kept.work;
      fact = t;
      waiting = read.kept.waiting;
    }) u
    is_scan = record {
      fast = record {
        geometry = geometry_is;
        long = long ∙ is.fast.long ∙ along (λ x. 512 * d.geometry.pages ≡ 512 * x.geometry.pages) (λ chain pointer. refl);
        valid = settled.stands.valid;
        stands = settled.stands.stands;
      };
      still = still;
      exact = settled.exact;
      pointers = record { none = λ page lt some no. settled.none_stale page (record { in_image = lt; some = some; no_row = no }) };
      free = along (λ x. AreFreePages x free) (λ chain pointer. free_with d chain pointer free are_free);
      names = record {
        leads = λ name. is.read_of.counted.names name ∙ along (λ x. named d name ≡ named x name) (λ chain pointer. sym
            (names_with d chain pointer name));
      };
      inodes = record { all = all_kept; each = are_kept.each };
      unheld = kept.unheld;
      table = record {
        geometry = settled.stands.table.geometry;
        set = settled.stands.table.set;
        free = settled.stands.table.free;
        taken = settled.stands.table.taken;
      };
      waits = λ ino idx m place incomplete. kept_waits e read.kept all_kept are_kept.queue kept.round ino idx m place incomplete;
      queue = are_kept.queue;
      waiting = are_kept.waiting;
    }
