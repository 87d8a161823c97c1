-- The disk that the end of a cut leads to.
use Rattle.std.proofs.Common.{
  ◌≡◌,
  ◌⊎◌,
  inl,
  inr,
  ⊎_elim,
  ℕ,
  ◌+◌,
  ◌-◌,
  ◌*◌,
  ◌/◌,
  ◌%◌,
  ◌<◌,
  ◌≤◌,
  Bool,
  true,
  false,
  List,
  [],
  ◌∷◌,
  ◌++◌,
  length,
  refl,
  sym,
  ◌∙◌,
  ap,
  subst,
  arith,
}
use Rattle.std.specs.Prelude.{slice_index, if◌then◌else◌, ◌==◌, ◌&&◌, not, nat_lt, is_some, Option, Some, None, IsSome, Contains}
use Rattle.std.proofs.lemmas.Bool.{cases_eq}
use Rattle.std.proofs.lemmas.Bool.Decides.{nat_tests}
use Rattle.std.proofs.lemmas.List.{take_all}
use Rattle.std.proofs.lemmas.List.Elements.{All-contains, Contains-get_or}
use Rattle.pm_device.specs.State.{State}
use Rattle.log_entry.specs.Spelling.{spelling, spelled}
use Rattle.log_entry.specs.declared.item.LogItem.TheVariants.{Size as SizeItem}
use Rattle.dn_model.specs.Log.{count}
use Rattle.dn_model.specs.Maps.{Mapping, size_of}
use Rattle.dn_model.specs.Table.{Row, row_of}
use Rattle.dn_model.specs.Disk.{Disk, maps, rows}
use Rattle.dn_model.specs.Counts.{IsNear, Near}
use Rattle.dn_model.specs.History.{refilled, inode_of}
use Rattle.dn_model.specs.declared.op.Op.{Op}
use Rattle.dn_model.specs.declared.op.Op.TheVariants.{Cut}
use Rattle.law_write.specs.Events.{IsUnused}
use Rattle.law_write.specs.Writing.{Writes, WritesWell}
use Rattle.law_write.specs.Runs.{Run, run_items, places_in, block_at, IsChained}
use Rattle.law_write.proofs.Counting.{term-le}
use Rattle.law_write.proofs.MappedPlaces.{maps-in_file}
use Rattle.law_write.proofs.WriteValid.{rows_kept}
use Rattle.law_table.proofs.Rows.{all_listed, row_found, none_or_some}
use Rattle.law_table_on_disk.specs.BalanceLaws.{IsBalanced}
use Rattle.file_content.specs.Runs.{all_seen}
use Rattle.std.proofs.Common.{◌^◌}
use Rattle.std.specs.Option.{option_map}
use Rattle.std.proofs.lemmas.List.Elements.{All-nil, All-cons}
use Rattle.pm_device.specs.Settled.{IsFlushed}
use Rattle.pm_layout.specs.declared.Geometry.{Geometry}
use Rattle.page_bytes.specs.Bytes.{page_byte}
use Rattle.log_entry.specs.Name.{IsLegal}
use Rattle.dn_model.specs.Files.{bytes, byte_of, files, IsSameFiles}
use Rattle.dn_model.specs.Own.{Print, IsOwn}
use Rattle.dn_model.specs.Apply.{after_op, IsGranted}
use Rattle.law_write.proofs.WithLog.{with_log-word}
use Rattle.dn_volume.specs.Planned.{new_byte}
use Rattle.file_commit.specs.Append.{IsReadyToAppend}
use Rattle.law_cut.specs.Cutting.{Refills, last_page, refill_runs, cut_items, cut_disk, MayRefill, MayCut, IsLeft, IsNotRefill}
use Rattle.law_cut.specs.CutLaws.{CutsPlaces}
use Rattle.law_cut.specs.DropLaws.{Drops, dropped_from}
use Rattle.law_cut.proofs.Cutting.{cut-writes, cut-well}
use Rattle.law_cut.proofs.CutBytes.{cuts_places, cut_files, cut_own}
use Rattle.law_cut.proofs.Dropped.{drop_mappings}
use Rattle.dn_volume.specs.declared.flight.Flight.{Flight}
use Rattle.dn_volume.specs.declared.flight.Change.TheVariants.{Data}
use Rattle.dn_volume.specs.declared.flight.DataChange.{DataChange}
use Rattle.dn_volume.specs.declared.volume.Parts.{Parts}
use Rattle.dn_volume.specs.Parties.{Flies, for_client, flight_at, taken_by}
use Rattle.dn_volume.specs.Cleans.{IsLeft as IsLeftTo}
use Rattle.dn_volume.specs.Planned.{row_slots, data_items, gone_from, PlansData, PlansCut}
use Rattle.dn_volume.specs.Balance.{times, raised_by, raised, added, dropped}
use Rattle.dn_volume.specs.Flights.{IsDataFlight}
use Rattle.dn_volume.specs.Agrees.{IsVolume}
use Rattle.file_ops.specs.Ends.{ChangesData}
use Rattle.dn_volume.proofs.Replaced.{flight_within}
use Rattle.file_ops.proofs.Counts.{times-slots}
use Rattle.file_ops.proofs.DiskAfter.{words_now, words-here, words-keep}
use Rattle.begin_steps.proofs.Cleanings.{left_unused}
use Rattle.file_ops.proofs.Taken.{fresh_taken, block_taken, fresh_apart, fresh_no_block}

abbrev pub refill_of : List ℕ → Option ℕ
refill_of [] = None
refill_of (block ∷ blocks) = Some block

-- runs of one place at most are that place's
runs_are : (first : ℕ) (runs : List Run) (blocks : List ℕ) (size : ℕ) → first ≡ last_page size → IsChained first runs → places_in runs ≡ length blocks
    → length blocks ≤ 1
    → ((i : ℕ) → i < length blocks → block_at runs i ≡ slice_index blocks i) → runs ≡ refill_runs size (refill_of blocks)
runs_are first [] [] size e chained covers few at = refl
runs_are first [] (x ∷ xs) size e chained covers few at = absurd (omega (arith, covers))
runs_are first (run ∷ runs) [] size e chained covers few at = absurd (omega (arith, covers, chained.1))
runs_are first (run ∷ runs) (x ∷ xs) size e chained covers few at =
    let one : run.count ≡ 1 = omega (arith, covers, few, chained.1) in
    let none : places_in runs ≡ 0 = omega (arith, covers, few, chained.1) in
    let here : run.block ≡ x = first_block (at 0 (omega arith)) one in
    ap (λ (rs : List Run). run ∷ rs) (no_runs (first + run.count) runs chained.3 none) ∙ ap (λ (r : Run). r ∷ [])
    (run_is run (last_page size) x (chained.0 ∙ e) one here)
  where
    no_runs : (k : ℕ) (rs : List Run) → IsChained k rs → places_in rs ≡ 0 → rs ≡ []
    no_runs k [] ch zr = refl
    no_runs k (r ∷ rs) ch zr = absurd (omega (arith, zr, ch.1))

    first_block : block_at (run ∷ runs) 0 ≡ x → run.count ≡ 1 → run.block ≡ x
    first_block is one =
        let test : nat_lt 0 run.count ≡ true = grind (arith, nat_tests) in
        omega (arith, sym (ap (λ (b : Bool). if b then run.block + 0 else block_at runs (0 - run.count)) test) ∙ is)

    run_is : (r : Run) (first block : ℕ) → r.first ≡ first → r.count ≡ 1 → r.block ≡ block → r ≡ record { first = first; count = 1; block = block }
    run_is r first block a b c = (λ i. record { first = a i; count = b i; block = c i })

-- what is filled anew
none_of : (p q r : Bool) (n : ℕ) → n ≡ (if not p && q && r then 1 else 0) → n ≡ 0 → (p ≡ true) ⊎ (q ≡ false) ⊎ (r ≡ false)
none_of true q r n e zr = inl refl
none_of false false r n e zr = inr (inl refl)
none_of false true false n e zr = inr (inr refl)
none_of false true true n e zr = absurd (omega (arith, e, zr))

one_of : (p q r : Bool) (n : ℕ) → n ≡ (if not p && q && r then 1 else 0) → 1 ≤ n → p ≡ false
one_of true q r n e some = absurd (omega (arith, e, some))
one_of false q r n e some = refl

none_mapped : (m : Option Mapping) → is_some m ≡ false → m ≡ None
none_mapped None e = refl
none_mapped (Some m) e = cc

whole_page : (a : ℕ) → (a == 0) ≡ true → a ≡ 0
whole_page a e = grind (arith, nat_tests)

part_page : (a : ℕ) → (a == 0) ≡ false → 1 ≤ a
part_page a e = grind (arith, nat_tests)

longer : (a b : ℕ) → nat_lt a b ≡ false → b ≤ a
longer a b e = grind (arith, nat_tests)

gone_some : (o : Option Mapping) (m : Mapping) → o ≡ None → o ≡ Some m → ⊥
gone_some o m gone there = cc

same_block : (o : Option Mapping) (m x : Mapping) → o ≡ Some m → o ≡ Some x → m.block ≡ x.block
same_block o m x a b = let e : m ≡ x = cc in ap (λ (y : Mapping). y.block) e

-- each item of a cut takes one slot
slots_of : (size : ℕ) (refill : Option ℕ) → length (spelled (cut_items size refill)) ≡ length (cut_items size refill)
unfolding spelling
slots_of size None = refl
slots_of size (Some page) = refl

module _ (d e : Disk) (b : Parts) (who : ℕ) (f : Flight) (w : Writes f.ino d e) (from n : ℕ) (drops : Drops f.ino d e w from n)
    (flies : Flies b who f) (clients : length b.flights.items ≡ 14)
    (all_raised : f.raised ≡ length f.rows.items) (rows_are : f.rows.items ≡ row_slots d f.ino from n) (unused : (i : ℕ) → i < w.n
    → IsUnused d (w.blocks i)) (s : State) (v : IsVolume d b s) where
  -- the counts of rows stay near: as many updates of each row are raised
  near_row : (row : Row) → Contains (rows d) row → IsNear e row
  near_row row has =
      let fell = drop_mappings f.ino d e w from n drops row.page
      (λ i lt same. none_or_some (row_of (rows d) (w.blocks i)) (unused i lt).no_row (subst (λ (p : ℕ). IsSome (row_of (rows d) p)) (sym same)
      (row_found (rows d) row has))) in
      let as_often : times row.slot f.rows.items ≡ dropped_from d f.ino from n row.page = ap (times row.slot) rows_are ∙ times-slots d v.fast.valid
      row has f.ino from n in
      let was = All-contains (λ (r : Row). IsBalanced d r (raised b r.slot) (added b r.slot) (dropped b r.slot)) (rows d) row v.counts.balanced has in
      let his = term-le (λ j. times row.slot (raised_by (flight_at b.flights.items j))) 14 (who - 1)
      (omega (arith, clients, flight_within b.flights.items (who - 1) f flies.is)) in
      let mine : times row.slot (raised_by (flight_at b.flights.items (who - 1))) ≡ times row.slot f.rows.items =
      ap (λ (r : Option Flight). times row.slot (raised_by r)) flies.is ∙ ap (λ (xs : List ℕ). times row.slot xs)
      (take_all f.raised f.rows.items (omega (arith, all_raised))) in
      let some : times row.slot f.rows.items ≤ raised b row.slot = omega (arith, his, mine) in
      both _ _ _ _ _ _ _ _ _ fell as_often was.updates was.references some
    where
      both : (now fall before t rfc uc up add drop : ℕ) → now + fall ≡ before → t ≡ fall → uc ≡ up + add + drop → before + drop ≡ rfc + add → t ≤ up
          → (now ≤ rfc + uc) × (rfc ≤ now + uc)
      both now fall before t rfc uc up add drop e1 e2 e3 e4 le = (omega arith, omega arith)

  pub near_after : Near e
  near_after = all_listed (IsNear e) (rows e) (λ row has. near_row row (subst (λ (rs : List Row). Contains rs row) (rows_kept f.ino d e w) has))

module _ (d : Disk) (b : Parts) (s : State) (who : ℕ) (f : Flight) (c : DataChange) (v : IsVolume d b s) (flies : Flies b who f)
    (kind : f.change ≡ Data c) (is : IsDataFlight d who f c s)
    (name : List ℕ) (to : ℕ) (op_is : f.op ≡ Cut name to) (all_filled : c.filled ≡ length c.blocks.items)
    (all_raised : f.raised ≡ length f.rows.items) where
  pub plans : PlansCut d f c name to
  plans = subst (PlansData d f c) op_is is.plans

  abbrev refill : Option ℕ
  refill = refill_of c.blocks.items

  abbrev word : ℕ → ℕ → ℕ
  word = words_now d s.now

  abbrev pub after : Disk
  after = cut_disk d f.ino f.fresh.items to refill word

  taken_unused : (page : ℕ) → Contains (taken_by f) page → IsUnused d page
  taken_unused page has = v.space.unused page (λ none. let his = v.space.takes who page (for_client f flies has) in let some = flies.client in
      omega (arith, his, none, some))

  refills_is : length c.blocks.items ≡ (if not (to % 4096 == 0) && nat_lt to (size_of (d.inode f.ino).log) && is_some (maps d f.ino (to / 4096)) then
      1 else 0)
  refills_is =
      plans.places
      ∙ ap (λ (r : Option ℕ). if not (to % 4096 == 0) && nat_lt to (size_of (d.inode (inode_of r)).log) && is_some (maps d (inode_of r) (to / 4096))
      then 1 else 0) plans.leads

  few_blocks : length c.blocks.items ≤ 1
  few_blocks = few (not (to % 4096 == 0) && nat_lt to (size_of (d.inode f.ino).log) && is_some (maps d f.ino (to / 4096))) refills_is
    where
      few : (t : Bool) → length c.blocks.items ≡ (if t then 1 else 0) → length c.blocks.items ≤ 1
      few true e = omega (arith, e)
      few false e = omega (arith, e)

  may_refill : (blocks : List ℕ) → blocks ≡ c.blocks.items → MayRefill d f.ino f.fresh.items to (refill_of blocks)
  may_refill [] same = ⊎_elim (λ (e : (to % 4096 == 0) ≡ true). inl (whole_page (to % 4096) e))
      (λ rest. inr (⊎_elim (λ (e : nat_lt to (size_of (d.inode f.ino).log) ≡ false). inl (longer to (size_of (d.inode f.ino).log) e))
      (λ (e : is_some (maps d f.ino (to / 4096)) ≡ false). inr (none_mapped (maps d f.ino (to / 4096)) e)) rest))
      (none_of (to % 4096 == 0) (nat_lt to (size_of (d.inode f.ino).log)) (is_some (maps d f.ino (to / 4096))) (length c.blocks.items) refills_is
      (sym (ap length same)))
  may_refill (block ∷ blocks) same =
      let has : Contains c.blocks.items block = subst (λ (xs : List ℕ). Contains xs block) same (0, omega arith, refl) in
      let some = ap length same in (
        part_page (to % 4096) (one_of (to % 4096 == 0) (nat_lt to (size_of (d.inode f.ino).log)) (is_some (maps d f.ino (to / 4096)))
            (length c.blocks.items) refills_is (omega (arith, some))),
        taken_unused block (block_taken f c kind block has),
        (λ fresh. fresh_no_block f c kind is.grows.apart block fresh has),
      )

  pub runs_here : all_seen c.runs.items ≡ refill_runs to refill
  runs_here = runs_are c.first (all_seen c.runs.items) c.blocks.items to plans.first is.chained is.covers few_blocks is.blocks

  items_are : spelled (cut_items to refill) ≡ f.slots.items
  items_are =
      ap (λ (rs : List Run). spelled (run_items rs to ++ SizeItem to ∷ [])) (sym runs_here)
      ∙ ap (λ (n : ℕ). spelled (run_items (all_seen c.runs.items) n ++ SizeItem n ∷ [])) (sym plans.size_is)
      ∙ ap (λ (op : Op). spelled (data_items op (all_seen c.runs.items) c.size)) (sym op_is) ∙ is.slots

  not_refill : (blocks : List ℕ) (page : ℕ) → blocks ≡ c.blocks.items → (Contains (taken_by f) page → ⊥) → IsNotRefill (refill_of blocks) page
  not_refill [] page same out = tt
  not_refill (block ∷ blocks) page same out = λ e. out
      (block_taken f c kind page (subst (λ (xs : List ℕ). Contains xs page) same (0, omega arith, e)))

  left_page : (page : ℕ) → IsLeftTo b page → IsLeft d f.fresh.items refill page
  left_page page there =
      let left = left_unused d b s v who f flies page there in
      record {
        free = left.0.free;
        no_refill = not_refill c.blocks.items page refl left.1;
        not_fresh = λ fresh. left.1 (fresh_taken f c kind page fresh);
      }

  pub may : MayCut d f.ino f.fresh.items to refill word
  may = record {
    valid = v.fast.valid;
    file = is.file;
    in_table = is.grows.in_table;
    live = is.grows.live;
    small = plans.fits;
    refills = may_refill c.blocks.items refl;
    fresh_unused = λ page has. taken_unused page (fresh_taken f c kind page has);
    fresh_apart = fresh_apart f c kind is.grows.apart;
    room = is.grows.room ∙ ap (λ (k : ℕ). (count (d.inode f.ino).log + k + 62) / 63) (sym (ap length items_are) ∙ slots_of to refill);
    words = words-keep d s v.fast.stands;
    left = (
      v.space.left.one,
      v.space.left.other,
      v.space.left.apart,
      left_page v.space.left.one v.space.left.one_left,
      left_page v.space.left.other v.space.left.other_left,
    );
  }

  abbrev pub event : Writes f.ino d after
  event = cut-writes d f.ino f.fresh.items to refill word may

  pub cut : CutsPlaces d after f.ino to refill
  cut = cuts_places d f.ino f.fresh.items to refill word may

  abbrev from : ℕ
  from = gone_from to c.blocks.items

  from_fits : (blocks : List ℕ) → gone_from to blocks ≤ 4096
  from_fits [] = omega (arith, plans.fits)
  from_fits (x ∷ xs) = omega (arith, plans.fits)

  -- a place before the first that goes is the old one's
  kept_by : (blocks : List ℕ) → blocks ≡ c.blocks.items → MayRefill d f.ino f.fresh.items to (refill_of blocks) → (idx : ℕ)
      → idx < gone_from to blocks → maps after f.ino idx ≡ maps d f.ino idx
  kept_by [] same fills idx lt = cut.kept idx lt (inl (ap refill_of (sym same)))
  kept_by (x ∷ xs) same fills idx lt = cut.kept idx (omega (arith, lt)) (inr (omega (arith, lt)))

  -- one from there on is filled anew, or nothing is mapped there
  anew_by : (blocks : List ℕ) → blocks ≡ c.blocks.items → (idx : ℕ) (m : Mapping) → gone_from to blocks ≤ idx → maps after f.ino idx ≡ Some m
      → (i : ℕ) × (i < event.n) × (m.block ≡ event.blocks i)
  anew_by [] same idx m past mapped = absurd (gone_some (maps after f.ino idx) m (cut.gone idx past) mapped)
  anew_by (x ∷ xs) same idx m past mapped = elim (cases_eq idx (last_page to)) [
    | inl last ↦
        let here = cut.anew x (ap refill_of (sym same)) in (
          0,
          subst (λ (r : Option ℕ). 0 < places_in (refill_runs to r)) (ap refill_of same) (omega arith),
          same_block (maps after f.ino idx) m here.by mapped (ap (maps after f.ino) last ∙ here.is) ∙ here.page ∙ at_zero x (refill_of c.blocks.items)
              (ap refill_of (sym same)),
        )
    | inr ne ↦ absurd (gone_some (maps after f.ino idx) m (cut.gone idx (omega (arith, past, ne))) mapped)
  ]
    where
      at_zero : (x : ℕ) (r : Option ℕ) → r ≡ Some x → x ≡ block_at (refill_runs to r) 0
      at_zero x r e = subst (λ (o : Option ℕ). x ≡ block_at (refill_runs to o) 0) (sym e) (omega arith)

  past_file : (idx : ℕ) → 4096 ≤ idx → maps after f.ino idx ≡ maps d f.ino idx
  past_file idx past = nothing (maps after f.ino idx) refl ∙ sym (none_old (maps d f.ino idx) refl)
    where
      nothing : (m : Option Mapping) → maps after f.ino idx ≡ m → maps after f.ino idx ≡ None
      nothing m is_m = cut_past (cut.gone idx (omega (arith, past, plans.fits)))
        where
          cut_past : maps after f.ino idx ≡ None → maps after f.ino idx ≡ None
          cut_past e = e

      none_old : (m : Option Mapping) → maps d f.ino idx ≡ m → maps d f.ino idx ≡ None
      none_old None is_m = is_m
      none_old (Some m) is_m = absurd (omega (arith, past, maps-in_file d v.fast.valid f.ino idx m is.grows.in_table is_m))

  pub drops : Drops f.ino d after event from (4096 - from)
  drops = record {
    in_file = omega (arith, from_fits c.blocks.items);
    kept = λ idx out. ⊎_elim (λ low. kept_by c.blocks.items refl (may_refill c.blocks.items refl) idx low)
        (λ high. past_file idx (omega (arith, high, from_fits c.blocks.items))) out;
    anew = λ idx m low high mapped. anew_by c.blocks.items refl idx m low mapped;
  }

  block_unused : (i : ℕ) → i < event.n → IsUnused d (event.blocks i)
  block_unused i lt = subst (IsUnused d) (ap (λ (rs : List Run). block_at rs i) runs_here)
      (subst (IsUnused d) (sym (is.blocks i (below i lt))) (taken_unused (slice_index c.blocks.items i)
      (block_taken f c kind (slice_index c.blocks.items i) (Contains-get_or c.blocks.items i 0 (below i lt)))))
    where
      below : (i : ℕ) → i < event.n → i < length c.blocks.items
      below i lt = let same = ap places_in runs_here in omega (arith, lt, same, is.covers)

  pub well : WritesWell f.ino d after event
  well = cut-well d f.ino f.fresh.items to refill word may
      (near_after d after b who f event from (4096 - from) drops flies v.flights.clients all_raised plans.rows block_unused s v)

  abbrev pub changes : ChangesData d after f c from (4096 - from)
  changes = record {
    event = event;
    well = well;
    drops = drops;
    rows_are = plans.rows;
    takes = refl;
    places = let same = ap places_in runs_here in omega (arith, same, is.covers);
    blocks = λ i lt. ap (λ (rs : List Run). block_at rs i) (sym runs_here) ∙ is.blocks i (let same = ap places_in runs_here in
        omega (arith, lt, same, is.covers));
    ends = sym plans.size_is;
  }

  n_same : event.n ≡ length c.blocks.items
  n_same = changes.places

  -- its pages' words stand and are flushed
  pub ready : IsReadyToAppend d.geometry who f.ino f.fresh.items f.slots.items d after event s
  ready = record {
    geometry = refl;
    well = well;
    stands = v.fast.stands;
    ready = record {
      within = λ a x told. omega (
        arith,
        told.place,
        told.in_page,
        (block_unused told.i told.below).free.data_page.high,
        v.fast.long,
        ap (λ (g : Geometry). g.pages) v.fast.geometry,
      );
      reads = λ a x told.
          ap (slice_index s.now) told.place ∙ sym (words-here d s.now (event.blocks told.i) told.k told.in_page)
          ∙ sym (with_log-word d f.ino _ word (event.blocks told.i) told.k) ∙ sym told.value;
      flushed = λ a x told. subst (IsFlushed who s) (sym told.place)
          (subst (λ (p : ℕ). IsFlushed who s (512 * p + told.k)) (sym (changes.blocks told.i told.below))
          ((is.filled told.i (omega (arith, all_filled, told.below, n_same))).flushed told.k told.in_page));
    };
    slots_are = items_are;
    fresh_are = refl;
  }

  -- the page that is filled anew has the old bytes below the size, and zeros from it on
  byte_is : (page : ℕ) → refill_of c.blocks.items ≡ Some page → (k : ℕ) → k < 4096
      → byte_of after page k ≡ (if nat_lt (4096 * (c.first + 0) + k) to then slice_index (bytes d f.ino) (4096 * (c.first + 0) + k) else 0)
  byte_is page refilled k small =
      let at = first_of c.blocks.items page refilled in
      ap (λ (w : ℕ). w / 256 ^ (k % 8) % 256) (with_log-word d f.ino _ word page (k / 8) ∙ words-here d s.now page (k / 8) (omega (arith, small)))
      ∙ ap (λ (p : ℕ). page_byte s.now p k) (sym at.1)
      ∙ (is.filled 0 (omega (arith, all_filled, at.0))).bytes_are k small
      ∙ ap (λ (op : Op). new_byte op (bytes d f.ino) (4096 * (c.first + 0) + k)) op_is
    where
      first_of : (blocks : List ℕ) (page : ℕ) → refill_of blocks ≡ Some page → (1 ≤ length blocks) × (slice_index blocks 0 ≡ page)
      first_of [] page e = absurd (cc)
      first_of (x ∷ xs) page e = (omega arith, some_page x page e)
        where
          some_page : (x page : ℕ) → Some x ≡ Some page → x ≡ page
          some_page x page e = cc

  refills_page : (r : Option ℕ) → r ≡ refill_of c.blocks.items → Refills d after f.ino to r
  refills_page None e = tt
  refills_page (Some page) e = record {
    kept = λ k lt.
        byte_is page (sym e) k (omega (arith, lt)) ∙ below (4096 * (c.first + 0) + k) to (omega (arith, lt, plans.first))
        (slice_index (bytes d f.ino) (4096 * (c.first + 0) + k))
        ∙ ap (slice_index (bytes d f.ino)) (omega_place k);
    zeros = λ k le small. byte_is page (sym e) k small ∙ past (4096 * (c.first + 0) + k) to (omega (arith, le, plans.first))
        (slice_index (bytes d f.ino) (4096 * (c.first + 0) + k));
  }
    where
      omega_place : (k : ℕ) → 4096 * (c.first + 0) + k ≡ 4096 * last_page to + k
      omega_place k = omega (arith, plans.first)

      below : (a b : ℕ) → a < b → (x : ℕ) → (if nat_lt a b then x else 0) ≡ x
      below a b lt x = let t : nat_lt a b ≡ true = grind (arith, nat_tests) in ap (λ (q : Bool). if q then x else 0) t

      past : (a b : ℕ) → b ≤ a → (x : ℕ) → (if nat_lt a b then x else 0) ≡ 0
      past a b le x = let t : nat_lt a b ≡ false = grind (arith, nat_tests) in ap (λ (q : Bool). if q then x else 0) t

  pub own_after : (print : Print) → IsOwn print d → IsOwn print after
  own_after print own = cut_own d f.ino f.fresh.items to refill word may well print (refills_page refill refl) own

  pub files_after : (print : Print) → IsOwn print d → IsSameFiles (files after) (after_op (files d) f.op)
  files_after print own = subst (λ (op : Op). IsSameFiles (files after) (after_op (files d) op)) (sym op_is)
      (cut_files d f.ino f.fresh.items to refill word may well (refills_page refill refl)
      (λ idx k m mapped small past. own.zeros f.ino idx k m (record { in_table = is.grows.in_table; live = is.grows.live; maps = mapped }) past small)
      name plans.leads)

  pub granted : IsGranted (files d) f.op
  granted = subst (IsGranted (files d)) (sym op_is) (record {
    legal = All-cons IsLegal name [] plans.legal (All-nil IsLegal);
    finds = subst (λ (o : Option ℕ). IsSome (option_map (bytes d) o)) (sym plans.leads) refl;
    short = tt;
    fits = plans.fits;
  })
