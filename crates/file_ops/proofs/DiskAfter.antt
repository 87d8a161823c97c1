-- The disk that the end of a write leads to.
use Rattle.std.proofs.Common.{
  ◌≡◌,
  inl,
  inr,
  ℕ,
  ◌+◌,
  ◌-◌,
  ◌*◌,
  ◌/◌,
  ◌%◌,
  ◌^◌,
  ◌<◌,
  ◌≤◌,
  Bool,
  true,
  false,
  List,
  [],
  ◌∷◌,
  length,
  refl,
  sym,
  ◌∙◌,
  ap,
  subst,
  arith,
}
use Rattle.std.specs.Prelude.{slice_index, if◌then◌else◌, ◌==◌, ◌&&◌, nat_le, nat_lt, max, Option, IsSome, Contains}
use Rattle.std.proofs.lemmas.Bool.{cases_lt}
use Rattle.std.proofs.lemmas.Bool.Decides.{nat_tests}
use Rattle.std.proofs.lemmas.List.{take_all}
use Rattle.std.proofs.lemmas.List.Elements.{All-nil, All-cons, All-contains, Contains-get_or}
use Rattle.std.specs.Option.{option_map}
use Rattle.log_entry.specs.Name.{IsLegal}
use Rattle.pm_device.specs.State.{State}
use Rattle.pm_device.specs.Settled.{IsFlushed}
use Rattle.pm_device.specs.Reading.{Stands}
use Rattle.pm_layout.specs.declared.Geometry.{Geometry}
use Rattle.page_bytes.specs.Bytes.{page_byte}
use Rattle.log_entry.specs.Spelling.{spelled}
use Rattle.dn_model.specs.Log.{count}
use Rattle.dn_model.specs.Maps.{size_of}
use Rattle.dn_model.specs.Table.{Row, row_of}
use Rattle.dn_model.specs.Disk.{Disk, DiskSays, IsUsed, of_pages, rows}
use Rattle.dn_model.specs.Counts.{IsNear, Near}
use Rattle.dn_model.specs.Files.{bytes, byte_of, files, IsSameFiles}
use Rattle.dn_model.specs.Own.{Print, IsOwn}
use Rattle.dn_model.specs.Apply.{after_op, IsGranted}
use Rattle.dn_model.specs.History.{touched}
use Rattle.dn_model.specs.declared.op.Op.{Op}
use Rattle.dn_model.specs.declared.op.Op.TheVariants.{Write}
use Rattle.law_write.specs.Events.{IsReadPage, IsUnused}
use Rattle.law_write.specs.Writing.{Writes, WritesWell, WritesBytes}
use Rattle.law_write.specs.Runs.{Run, run_items, places_in, block_at}
use Rattle.law_write.specs.MayWrite.{MayWrite, IsLeft, written_disk}
use Rattle.law_write.proofs.MappedPlaces.{size-small}
use Rattle.law_write.proofs.RunItems.{length-spelled-runs}
use Rattle.law_write.proofs.WithLog.{with_log-word}
use Rattle.law_write.proofs.WriteBytes.{length-bytes}
use Rattle.law_write.proofs.WriteFiles.{files-written}
use Rattle.law_write.proofs.WriteOwn.{own-written}
use Rattle.law_write.proofs.WriteValid.{rows_kept}
use Rattle.law_write.proofs.WrittenDisk.{written-writes, written-well}
use Rattle.law_table.proofs.Rows.{all_listed, row_found, none_or_some}
use Rattle.law_table_on_disk.specs.BalanceLaws.{IsBalanced}
use Rattle.file_content.specs.Content.{merged_byte}
use Rattle.file_content.specs.Runs.{all_seen}
use Rattle.law_cut.specs.DropLaws.{Drops, dropped_from}
use Rattle.law_cut.proofs.Dropped.{drop_written, drop_mappings}
use Rattle.dn_volume.specs.declared.flight.Flight.{Flight}
use Rattle.dn_volume.specs.declared.flight.Change.TheVariants.{Data}
use Rattle.dn_volume.specs.declared.flight.DataChange.{DataChange}
use Rattle.dn_volume.specs.declared.volume.Parts.{Parts}
use Rattle.dn_volume.specs.Parties.{Flies, for_client, flight_at, taken_by}
use Rattle.dn_volume.specs.Cleans.{IsLeft as IsLeftTo}
use Rattle.dn_volume.specs.Planned.{data_items, new_byte, PlansData, PlansWrite}
use Rattle.dn_volume.specs.Balance.{times, raised_by, raised, added, dropped}
use Rattle.dn_volume.specs.Flights.{IsDataFlight}
use Rattle.dn_volume.specs.Agrees.{IsVolume}
use Rattle.law_write.proofs.Counting.{term-le}
use Rattle.file_commit.specs.Append.{IsReadyToAppend}
use Rattle.file_ops.specs.Ends.{ChangesData}
use Rattle.dn_volume.proofs.Replaced.{flight_within}
use Rattle.file_ops.proofs.Counts.{times-slots}
use Rattle.begin_steps.proofs.Cleanings.{left_unused}
use Rattle.file_ops.proofs.Taken.{fresh_taken, block_taken, fresh_apart, blocks_apart, fresh_no_block}

some_runs : (runs : List Run) → 1 ≤ places_in runs → 1 ≤ length runs
some_runs [] some = absurd (omega arith)
some_runs (run ∷ runs) some = omega arith

-- the places that some bytes touch
pub touched_is : (at count : ℕ) → 1 ≤ count → touched at count ≡ (at + count + 4095) / 4096 - at / 4096
touched_is at count some = let none : (count == 0) ≡ false = grind (arith, nat_tests) in
    ap (λ (b : Bool). if b then 0 else (at + count + 4095) / 4096 - at / 4096) none

merged-in : (old : List ℕ) (at : ℕ) (text : List ℕ) (j : ℕ) → at ≤ j → j < at + length text → merged_byte old at text j ≡ slice_index text (j - at)
merged-in old at text j low high =
    let yes : (nat_le at j && nat_lt j (at + length text)) ≡ true = grind (arith, nat_tests) in
    ap (λ (b : Bool). if b then slice_index text (j - at) else slice_index old j) yes

merged-out : (old : List ℕ) (at : ℕ) (text : List ℕ) (j : ℕ) → (at ≤ j → j < at + length text → ⊥) → merged_byte old at text j ≡ slice_index old j
merged-out old at text j out =
    let not_in : (nat_le at j && nat_lt j (at + length text)) ≡ false = outside at (at + length text) j out in
    ap (λ (b : Bool). if b then slice_index text (j - at) else slice_index old j) not_in
  where
    outside : (low high j : ℕ) → (low ≤ j → j < high → ⊥) → (nat_le low j && nat_lt j high) ≡ false
    outside low high j out = elim (cases_lt j low) [
      | inl lt ↦ grind (arith, nat_tests)
      | inr le ↦ elim (cases_lt j high) [ inl lt ↦ absurd (out le lt) | inr ge ↦ grind (arith, nat_tests) ]
    ]

-- the words of pages as they are read now
abbrev pub words_now : Disk → List ℕ → ℕ → ℕ → ℕ
words_now d now page k = if nat_lt k 512 then slice_index now (512 * page + k) else d.word page k

pub words-here : (d : Disk) (now : List ℕ) (page k : ℕ) → k < 512 → words_now d now page k ≡ slice_index now (512 * page + k)
words-here d now page k lt = ap (λ (b : Bool). if b then slice_index now (512 * page + k) else d.word page k) (test k lt)
  where
    test : (k : ℕ) → k < 512 → nat_lt k 512 ≡ true
    test k lt = grind (arith, nat_tests)

words-past : (d : Disk) (now : List ℕ) (page k : ℕ) → 512 ≤ k → words_now d now page k ≡ d.word page k
words-past d now page k le = ap (λ (b : Bool). if b then slice_index now (512 * page + k) else d.word page k) (test k le)
  where
    test : (k : ℕ) → 512 ≤ k → nat_lt k 512 ≡ false
    test k le = grind (arith, nat_tests)

pub words-keep : (d : Disk) (s : State) → Stands (DiskSays d) s → (page k : ℕ) → IsReadPage d page → words_now d s.now page k ≡ d.word page k
words-keep d s stands page k read = elim (cases_lt k 512) [
  | inl lt ↦ words-here d s.now page k lt ∙ stands.reads (512 * page + k) (d.word page k)
      (of_pages (record { page = page; k = k; in_page = lt; read = read; place = refl; value = refl }))
  | inr le ↦ words-past d s.now page k le
]

module _ (d : Disk) (b : Parts) (s : State) (who : ℕ) (f : Flight) (c : DataChange) (v : IsVolume d b s) (flies : Flies b who f)
    (kind : f.change ≡ Data c) (is : IsDataFlight d who f c s)
    (name : List ℕ) (at : ℕ) (text : List ℕ) (op_is : f.op ≡ Write name at text) (all_filled : c.filled ≡ length c.blocks.items)
    (all_raised : f.raised ≡ length f.rows.items) where
  pub plans : PlansWrite d f c name at text
  plans = subst (PlansData d f c) op_is is.plans

  abbrev runs : List Run
  runs = all_seen c.runs.items

  abbrev word : ℕ → ℕ → ℕ
  word = words_now d s.now

  abbrev pub after : Disk
  after = written_disk d f.ino f.fresh.items c.size runs word

  items_are : spelled (run_items runs c.size) ≡ f.slots.items
  items_are = ap (λ (op : Op). spelled (data_items op runs c.size)) (sym op_is) ∙ is.slots

  n_is : places_in runs ≡ (at + length text + 4095) / 4096 - at / 4096
  n_is = is.covers ∙ plans.places ∙ touched_is at (length text) plans.some

  pub back : (i : ℕ) → i < places_in runs → i < length c.blocks.items
  back i lt = omega (arith, is.covers, lt)

  taken_unused : (page : ℕ) → Contains (taken_by f) page → IsUnused d page
  taken_unused page has = v.space.unused page (λ none. let his = v.space.takes who page (for_client f flies has) in let some = flies.client in
      omega (arith, his, none, some))

  block_in : (i : ℕ) → i < places_in runs → Contains c.blocks.items (block_at runs i)
  block_in i lt = subst (Contains c.blocks.items) (sym (is.blocks i (back i lt))) (Contains-get_or c.blocks.items i 0 (back i lt))

  used : IsUsed (d.inode f.ino).use_of
  used = subst IsUsed (sym is.grows.live) tt

  old_small : size_of (d.inode f.ino).log ≤ 16777216
  old_small = size-small (d.inode f.ino).log (v.fast.valid.logs f.ino is.grows.in_table used).spelled

  -- a page that is left to the volume is left beside this
  left_page : (page : ℕ) → IsLeftTo b page → IsLeft d f.fresh.items runs page
  left_page page there =
      let left = left_unused d b s v who f flies page there in
      record {
        free = left.0.free;
        no_block = λ i lt same. left.1 (block_taken f c kind page (subst (Contains c.blocks.items) same (block_in i lt)));
        not_fresh = λ fresh. left.1 (fresh_taken f c kind page fresh);
      }

  pub may : MayWrite d f.ino f.fresh.items c.first c.size runs word
  may = record {
    valid = v.fast.valid;
    file = is.file;
    in_table = is.grows.in_table;
    live = is.grows.live;
    some = some_runs runs (omega (arith, n_is, plans.some));
    chained = is.chained;
    in_size = omega (arith, plans.first, n_is, plans.size_is);
    small = omega (arith, plans.size_is, plans.fits, old_small);
    blocks = λ i lt. taken_unused (block_at runs i) (block_taken f c kind (block_at runs i) (block_in i lt));
    blocks_apart = λ i j il jl e. blocks_apart f c kind is.grows.apart i j (back i il) (back j jl) (sym (is.blocks i (back i il)) ∙ e ∙ is.blocks j
        (back j jl));
    fresh_unused = λ page has. taken_unused page (fresh_taken f c kind page has);
    fresh_apart = fresh_apart f c kind is.grows.apart;
    apart = λ i lt has. fresh_no_block f c kind is.grows.apart (block_at runs i) has (block_in i lt);
    room = is.grows.room ∙ ap (λ (k : ℕ). (count (d.inode f.ino).log + k + 62) / 63) (sym (ap length items_are) ∙ length-spelled-runs c.size runs);
    words = words-keep d s v.fast.stands;
    left = (
      v.space.left.one,
      v.space.left.other,
      v.space.left.apart,
      left_page v.space.left.one v.space.left.one_left,
      left_page v.space.left.other v.space.left.other_left,
    );
  }

  abbrev pub event : Writes f.ino d after
  event = written-writes d f.ino f.fresh.items c.first c.size runs word may

  pub old_fits : size_of (d.inode f.ino).log ≤ c.size
  old_fits = omega (arith, plans.size_is)

  pub drops : Drops f.ino d after event c.first (length c.blocks.items)
  drops = subst (λ (n : ℕ). Drops f.ino d after event c.first n) is.covers
      (drop_written f.ino d after event old_fits (omega (arith, may.in_size, may.small)))

  -- the counts of rows stay near: as many updates of each row are raised
  near_row : (row : Row) → Contains (rows d) row → IsNear after row
  near_row row has =
      let fell = drop_mappings f.ino d after event c.first (length c.blocks.items) drops row.page
      (λ i lt same. none_or_some (row_of (rows d) (block_at runs i)) (may.blocks i lt).no_row (subst (λ (p : ℕ). IsSome (row_of (rows d) p))
      (sym same) (row_found (rows d) row has))) in
      let as_often : times row.slot f.rows.items ≡ dropped_from d f.ino c.first (length c.blocks.items) row.page =
      ap (times row.slot) plans.rows ∙ times-slots d v.fast.valid row has f.ino c.first (length c.blocks.items) in
      let was = All-contains (λ (r : Row). IsBalanced d r (raised b r.slot) (added b r.slot) (dropped b r.slot)) (rows d) row v.counts.balanced has in
      let his = term-le (λ j. times row.slot (raised_by (flight_at b.flights.items j))) 14 (who - 1)
      (omega (arith, v.flights.clients, flight_within b.flights.items (who - 1) f flies.is)) in
      let mine : times row.slot (raised_by (flight_at b.flights.items (who - 1))) ≡ times row.slot f.rows.items =
      ap (λ (r : Option Flight). times row.slot (raised_by r)) flies.is ∙ ap (λ (xs : List ℕ). times row.slot xs)
      (take_all f.raised f.rows.items (omega (arith, all_raised))) in
      let some : times row.slot f.rows.items ≤ raised b row.slot = omega (arith, his, mine) in
      both _ _ _ _ _ _ _ _ _ fell as_often was.updates was.references some
    where
      both : (now fall before t rfc uc up add drop : ℕ) → now + fall ≡ before → t ≡ fall → uc ≡ up + add + drop → before + drop ≡ rfc + add → t ≤ up
          → (now ≤ rfc + uc) × (rfc ≤ now + uc)
      both now fall before t rfc uc up add drop e1 e2 e3 e4 le = (omega arith, omega arith)

  near : Near after
  near = all_listed (IsNear after) (rows after) (λ row has. near_row row (subst (λ (rs : List Row). Contains rs row) (rows_kept f.ino d after event)
      has))

  pub well : WritesWell f.ino d after event
  well = written-well d f.ino f.fresh.items c.first c.size runs word may near

  abbrev pub changes : ChangesData d after f c c.first (length c.blocks.items)
  changes = record {
    event = event;
    well = well;
    drops = drops;
    rows_are = plans.rows;
    takes = refl;
    places = is.covers;
    blocks = λ i lt. is.blocks i (back i lt);
    ends = refl;
  }

  -- its pages' words stand and are flushed
  block_page : (i : ℕ) → i < places_in runs → IsUnused d (block_at runs i)
  block_page = may.blocks

  pub ready : IsReadyToAppend d.geometry who f.ino f.fresh.items f.slots.items d after event s
  ready = record {
    geometry = refl;
    well = well;
    stands = v.fast.stands;
    ready = record {
      within = λ a x told. omega (
        arith,
        told.place,
        told.in_page,
        (block_page told.i told.below).free.data_page.high,
        v.fast.long,
        ap (λ (g : Geometry). g.pages) v.fast.geometry,
      );
      reads = λ a x told.
          ap (slice_index s.now) told.place ∙ sym (words-here d s.now (block_at runs told.i) told.k told.in_page)
          ∙ sym (with_log-word d f.ino _ word (block_at runs told.i) told.k) ∙ sym told.value;
      flushed = λ a x told. subst (IsFlushed who s) (sym told.place)
          (subst (λ (p : ℕ). IsFlushed who s (512 * p + told.k)) (sym (is.blocks told.i (back told.i told.below)))
          ((is.filled told.i (omega (arith, all_filled, back told.i told.below))).flushed told.k told.in_page));
    };
    slots_are = items_are;
    fresh_are = refl;
  }

  -- and are the text's
  byte_is : (i k : ℕ) → i < places_in runs → k < 4096 → byte_of after (block_at runs i) k ≡ merged_byte (bytes d f.ino) at text
      (4096 * (c.first + i) + k)
  byte_is i k lt small =
      ap (λ (w : ℕ). w / 256 ^ (k % 8) % 256) (with_log-word d f.ino _ word (block_at runs i) (k / 8) ∙ words-here d s.now (block_at runs i) (k / 8)
      (omega (arith, small)))
      ∙ ap (λ (p : ℕ). page_byte s.now p k) (is.blocks i (back i lt))
      ∙ (is.filled i (omega (arith, all_filled, back i lt))).bytes_are k small
      ∙ ap (λ (op : Op). new_byte op (bytes d f.ino) (4096 * (c.first + i) + k)) op_is

  pub writes_bytes : (print : Print) → IsOwn print d → WritesBytes f.ino d after event at text
  writes_bytes print own = record {
    size = plans.size_is ∙ ap (λ (n : ℕ). max n (at + length text)) (sym (length-bytes d f.ino));
    covers = λ j low high. (omega (arith, plans.first, low), omega (arith, plans.first, n_is, low, high));
    inside = λ k i lt small low high. byte_is k i lt small ∙ merged-in (bytes d f.ino) at text (4096 * (c.first + k) + i) low high;
    outside = λ k i lt small out. byte_is k i lt small ∙ merged-out (bytes d f.ino) at text (4096 * (c.first + k) + i) out;
    zeros = λ idx k m mapped small past. own.zeros f.ino idx k m (record { in_table = is.grows.in_table; live = is.grows.live; maps = mapped }) past
        small;
  }

  pub own_after : (print : Print) → IsOwn print d → IsOwn print after
  own_after print own = own-written print f.ino d after event well at text (writes_bytes print own) own

  pub files_after : (print : Print) → IsOwn print d → IsSameFiles (files after) (after_op (files d) f.op)
  files_after print own = subst (λ (op : Op). IsSameFiles (files after) (after_op (files d) op)) (sym op_is)
      (by_text text plans.some (writes_bytes print own))
    where
      by_text : (t : List ℕ) → 1 ≤ length t → WritesBytes f.ino d after event at t → IsSameFiles (files after) (after_op (files d) (Write name at t))
      by_text [] some w = absurd (omega arith)
      by_text (x ∷ t) some w = files-written f.ino d after event well name plans.leads at x t w

  -- nothing stood in its way
  pub granted : IsGranted (files d) f.op
  granted = subst (IsGranted (files d)) (sym op_is) (record {
    legal = All-cons IsLegal name [] plans.legal (All-nil IsLegal);
    finds = subst (λ (o : Option ℕ). IsSome (option_map (bytes d) o)) (sym plans.leads) refl;
    short = plans.short;
    fits = inr plans.fits;
  })
