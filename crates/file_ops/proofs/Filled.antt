-- A page more of an operation in flight is filled: nothing that the disk reads is stored to.
use Rattle.std.proofs.Common.{◌≡◌, ◌≢◌, inl, ⊎_elim, ℕ, ◌+◌, ◌*◌, ◌<◌, ◌≤◌, List, [], ◌++◌, length}
use Rattle.std.proofs.Common.{refl, sym, ◌∙◌, ap, subst, arith, Some}
use Rattle.std.specs.Prelude.{Contains, All, slice_get, slice_index, vec_len, vec_capacity}
use Rattle.std.specs.VecDeque.{deque_len, deque_capacity}
use Rattle.std.proofs.lemmas.Bool.{cases_lt}
use Rattle.std.proofs.lemmas.List.{append-nil}
use Rattle.std.proofs.lemmas.List.Elements.{Contains-get_or}
use Rattle.pm_device.specs.State.{State, Agree}
use Rattle.pm_device.specs.Settled.{LeavesOnly}
use Rattle.pm_device.specs.Reading.{Stands}
use Rattle.pm_device.specs.Pages.{IsInPage}
use Rattle.pm_device.proofs.Only.{stores_only-weaken}
use Rattle.pm_device.proofs.OneWord.{stands-stores}
use Rattle.pm_device.proofs.Layers.{leaves_only-stores}
use Rattle.pm_device.proofs.Moments.{leaves_only-weaken}
use Rattle.pm_layout.specs.declared.Geometry.{Geometry}
use Rattle.pm_layout.specs.Geometry.{slots}
use Rattle.dn_model.specs.Counts.{total}
use Rattle.dn_model.specs.Disk.{Disk, DiskSays}
use Rattle.dn_model.specs.Files.{bytes}
use Rattle.dn_model.specs.History.{needed}
use Rattle.dn_model.specs.Image.{StandsFor}
use Rattle.dn_model.specs.Own.{Print}
use Rattle.dn_model.specs.declared.op.CountChange.{CountChange}
use Rattle.dn_model.specs.declared.op.Op.{Op}
use Rattle.dn_model.specs.declared.op.Op.TheVariants.{Create, Write, Read, Cut, Remove, Rename, Size, List as ListAll}
use Rattle.law_write.specs.Events.{IsUnused}
use Rattle.law_write.proofs.Unread.{unused_unsaid}
use Rattle.law_write.proofs.WriteEvent.{length-left, stands_for_read}
use Rattle.file_content.specs.Content.{IsFilledBy}
use Rattle.file_content.specs.Pages.{AreApart}
use Rattle.file_content.proofs.FillSteps.{filled-stores}
use Rattle.dn_volume.specs.declared.units.TheConstants.{FILL_UNITS}
use Rattle.dn_volume.specs.declared.flight.Flight.{Flight}
use Rattle.dn_volume.specs.declared.flight.Change.{Change}
use Rattle.dn_volume.specs.declared.flight.Change.TheVariants.{Data}
use Rattle.dn_volume.specs.declared.flight.DataChange.{DataChange}
use Rattle.dn_volume.specs.declared.volume.InodeState.{InodeState}
use Rattle.dn_volume.specs.declared.volume.Parts.{Parts}
use Rattle.dn_volume.specs.Parties.{Flies, for_client, SameOthers, taken_by, blocks_of}
use Rattle.dn_volume.specs.Inodes.{AreNamesOf, AreInodesOf}
use Rattle.dn_volume.specs.Space.{AreSlotsOf}
use Rattle.dn_volume.specs.Planned.{PlansData, new_byte}
use Rattle.dn_volume.specs.Flights.{IsFlight, IsFlightOf, IsDataFlight, GrowsBy}
use Rattle.dn_volume.specs.Reserve.{HasRoom, owed_to, units_by, runs_by}
use Rattle.dn_volume.specs.Reclaims.{one_if, dying_units}
use Rattle.dn_volume.specs.Agrees.{StandsFast, IsVolume}
use Rattle.dn_volume.specs.Rely.{IsWordOf, of_page, LeavesRest, KeepsRest, StayInHand}
use Rattle.dn_volume.specs.Events.{IsBetween}
use Rattle.dn_volume.specs.Steps.{StepsOn}
use Rattle.dn_volume.proofs.Kept.{quiet_alone, quiet_accounts}
use Rattle.dn_volume.proofs.OthersStay.{others_stay}
use Rattle.dn_volume.proofs.Stills.{still_flushes}
use Rattle.dn_volume.proofs.Stepped.{others_same, ops_kept, same_holders, same_space, owes_on, same_counts, same_queue}
use Rattle.dn_volume.proofs.Replaced.{few, flies_new, each_flight, each_room, owed_moved}
use Rattle.file_ops.specs.Filling.{next_block, one_filled, StoresFill, Fills, FillsMove}
use Rattle.file_ops.proofs.Taken.{block_taken, right_apart}

-- what was planned stays planned
plans_filled : (d : Disk) (f : Flight) (c : DataChange) (op : Op)
    → PlansData d f c op → PlansData d (one_filled f c) (record c { filled = c.filled + 1 }) op
plans_filled d f c (Create name) is = absurd is
plans_filled d f c (Write name at text) is = record {
  held = is.held;
  legal = is.legal;
  leads = is.leads;
  some = is.some;
  short = is.short;
  fits = is.fits;
  first = is.first;
  places = is.places;
  size_is = is.size_is;
  rows = is.rows;
}
plans_filled d f c (Read name at count) is = absurd is
plans_filled d f c (Cut name to) is = record {
  held = is.held;
  legal = is.legal;
  leads = is.leads;
  fits = is.fits;
  first = is.first;
  places = is.places;
  size_is = is.size_is;
  rows = is.rows;
}
plans_filled d f c (Remove name) is = absurd is
plans_filled d f c (Rename from to) is = absurd is
plans_filled d f c (Size name) is = absurd is
plans_filled d f c ListAll is = absurd is

module _ (d : Disk) (b b' : Parts) (s t : State) (who : ℕ) (f : Flight) (c : DataChange) (volume : IsVolume d b s) (agree : Agree t.now t.past)
    (flies : Flies b who f) (kind : f.change ≡ Data c) (some : c.filled < length c.blocks.items) (stores : StoresFill d who f c s t)
    (fills : Fills who f c b b') where
  abbrev c' : DataChange
  c' = record c { filled = c.filled + 1 }

  abbrev f' : Flight
  f' = one_filled f c

  abbrev st : StepsOn who f f' b b'
  st = fills.steps

  fact : IsDataFlight d who f c s
  fact = subst (λ (x : Change). IsFlightOf d who f s x) kind (volume.flights.each who f flies)

  page : ℕ
  page = next_block c

  taken : (i : ℕ) → i < length c.blocks.items → Contains (taken_by f) (slice_index c.blocks.items i)
  taken i lt = block_taken f c kind (slice_index c.blocks.items i) (Contains-get_or c.blocks.items i 0 lt)

  unused_of : (p : ℕ) → Contains (taken_by f) p → IsUnused d p
  unused_of p has = volume.space.unused p (λ none.
      let his = volume.space.takes who p (for_client f flies has) in let client = flies.client in omega (arith, his, none, client))

  unused : (i : ℕ) → i < length c.blocks.items → IsUnused d (slice_index c.blocks.items i)
  unused i lt = unused_of (slice_index c.blocks.items i) (taken i lt)

  unsaid : (a v : ℕ) → DiskSays d a v → IsInPage (next_block c) a → ⊥
  unsaid a v told here = unused_unsaid d volume.fast.valid (next_block c) (unused c.filled some) a v here told

  long_t : length t.now ≡ 512 * d.geometry.pages
  long_t = stores.only.words ∙ volume.fast.long

  stands_t : Stands (DiskSays d) t
  stands_t = stands-stores (IsInPage (next_block c)) s t stores.only (DiskSays d) unsaid volume.fast.stands

  pub images : LeavesOnly s t (λ x. StandsFor x d)
  images = record {
    extends = stores.only.extends;
    each = λ m x late left. stands_for_read d x volume.fast.valid
        ((leaves_only-stores (IsInPage (next_block c)) s t (DiskSays d) stores.only unsaid volume.fast.stands).each m x late left)
        (length-left t.past t.now m x agree left ∙ long_t);
  }

  fast : StandsFast d b'.geometry t
  fast = record { geometry = volume.fast.geometry ∙ sym st.geometry; long = long_t; valid = volume.fast.valid; stands = stands_t }

  -- the operation itself
  taken_same : blocks_of f.change ≡ c.blocks.items
  taken_same = ap blocks_of kind

  grows : GrowsBy d f'
  grows = record {
    in_table = fact.grows.in_table;
    live = fact.grows.live;
    holds = fact.grows.holds;
    room = fact.grows.room;
    apart = subst (λ (xs : List ℕ). AreApart (f.fresh.items ++ f.spare.items ++ xs)) taken_same fact.grows.apart;
    takes = subst (λ (xs : List ℕ). length (f.fresh.items ++ f.spare.items ++ xs) ≡ needed d f.op) taken_same fact.grows.takes;
    undying = fact.grows.undying;
  }

  block-inside : (i : ℕ) → i < length c.blocks.items → 512 * slice_index c.blocks.items i + 512 ≤ length s.now
  block-inside i lt = let high = (unused i lt).free.data_page.high in omega (arith, high, volume.fast.long)

  block-apart : (i : ℕ) → i < c.filled → slice_index c.blocks.items i ≢ next_block c
  block-apart i lt same =
      let both = right_blocks i c.filled (omega (arith, lt, some)) some same in
      omega (arith, lt, both)
    where
      all_apart : AreApart (f.fresh.items ++ f.spare.items ++ c.blocks.items)
      all_apart = subst (λ (xs : List ℕ). AreApart (f.fresh.items ++ f.spare.items ++ xs)) taken_same fact.grows.apart

      right_blocks : AreApart c.blocks.items
      right_blocks = right_apart (f.fresh.items ++ f.spare.items) c.blocks.items all_apart

  own_filled : (i : ℕ) → i < c.filled + 1
      → IsFilledBy who t (slice_index c.blocks.items i) (λ k. new_byte f.op (bytes d f.ino) (4096 * (c.first + i) + k))
  own_filled i lt = ⊎_elim
      (λ (low : i < c.filled). filled-stores who s t (slice_index c.blocks.items i) (next_block c)
      (λ k. new_byte f.op (bytes d f.ino) (4096 * (c.first + i) + k))
      (block-apart i low) (block-inside i (omega (arith, low, some))) stores.only stores.keeps (fact.filled i low))
      (λ (high : c.filled ≤ i). let here : c.filled ≡ i = omega (arith, lt, high) in
      subst (λ (j : ℕ). IsFilledBy who t (slice_index c.blocks.items j) (λ k. new_byte f.op (bytes d f.ino) (4096 * (c.first + j) + k))) here
      stores.filled)
      (cases_lt i c.filled)

  own_flight : IsFlight d who f' t
  own_flight = record {
    file = fact.file;
    grows = grows;
    plans = plans_filled d f c f.op fact.plans;
    chained = fact.chained;
    covers = fact.covers;
    blocks = fact.blocks;
    few = fact.few;
    slots = fact.slots;
    filled_few = omega (arith, some);
    filled = own_filled;
    raised_few = fact.raised_few;
    in_turn = λ raised. let all = fact.in_turn raised in absurd (omega (arith, all, some));
  }

  -- what is left to others
  rest : KeepsRest [] (taken_by f) d d
  rest = record {
    geometry = refl;
    inode = λ i out. refl;
    named_so = λ i other named out. ((λ is. is), (λ is. is));
    word = λ p k read. refl;
    unused = λ p out is. is;
    slots = λ i idx m table out is. refl;
    counting = λ row has counts. record { still = row; there = has; slot = refl; page = refl; print = refl };
  }

  of_block : (a : ℕ) → IsInPage (next_block c) a → IsWordOf [] (taken_by f) d a
  of_block a here = of_page (next_block c) (taken c.filled some) here

  leaves : LeavesRest who [] (taken_by f) d d s t
  leaves = record {
    rest = rest;
    only = stores_only-weaken (IsInPage (next_block c)) (IsWordOf [] (taken_by f) d) s t of_block stores.only;
    others = λ q a other out lt flushed. stores.keeps.flushed q a tt (λ here. out (of_block a here)) lt flushed;
  }

  pub same : SameOthers who b b'
  same = others_same who f f' b b' st

  stay : ((q : ℕ) (g : Flight) → q ≢ who → Flies b' q g → IsFlight d q g t) × StayInHand who d b' t
  stay = others_stay who [] (taken_by f) d d b b' s t volume (subst (λ (g : Geometry). StandsFast d g t) st.geometry fast)
      (record {
        inode = λ i has. absurd (omega (arith, has.1));
        page = λ p has. inl (for_client f flies has);
      })
      leaves same (λ other. ap (λ r. r.raised) st.reclaiming)

  is_it : (g : Flight) → Some f' ≡ Some g → f' ≡ g
  is_it g is = cc

  each : (q : ℕ) (g : Flight) → Flies b' q g → IsFlight d q g t
  each = each_flight who st.client (Some f) (Some f') b b' st.replaces d t
      (λ g is. subst (λ (h : Flight). IsFlight d who h t) (is_it g is) own_flight) stay.0

  -- room
  units_was : (owed_to (Some f)).units ≡ (owed_to (Some f')).units + FILL_UNITS
  units_was = ap (units_by f) kind ∙ omega (arith, some)

  room : HasRoom b' t
  room =
      let was = volume.room in
      let o_units = st.owed.units in
      let o_trace = st.owed.trace in
      let o_history = st.owed.history in
      let o_queue = st.owed.queue in
      let runs = ap runs_by kind in
      let o_releases = st.owed.releases in
      let spare = stores.spare in
      record {
        owes = owes_on who f f' b b' st was.owes;
        units = let there = was.units in omega (arith, there, o_units, units_was, spare);
        trace = subst (λ x. vec_len x + b'.owed.trace ≤ vec_capacity x) (sym fills.trace) (let there = was.trace in omega (arith, there, o_trace));
        history = subst (λ x. vec_len x + b'.owed.history ≤ vec_capacity x) (sym fills.history)
            (let there = was.history in omega (arith, there, o_history));
        queue = subst (λ x. b'.owed.queue ≤ x.room) (sym st.queue) (let there = was.queue in omega (arith, there, o_queue, runs));
        releases = subst (λ x. deque_len x.releases + b'.owed.releases ≤ deque_capacity x.releases) (sym st.reclaiming)
            (let there = was.releases in omega (arith, there, o_releases));
        names = subst (λ x. b'.owed.history ≤ x.room) (sym st.names) (let there = was.names in omega (arith, there, o_history));
        places = each_room who st.client (Some f) (Some f') b b' st.replaces (λ g x n is kind_is at. own_room g x n (is_it g is) kind_is (there g n at))
            (λ q g n other g_flies at. (n, there g n at, omega arith)) volume.room.places;
      }
    where
      there : (g : Flight) (n : InodeState) → slice_get b'.inodes.items g.ino ≡ Some n → slice_get b.inodes.items g.ino ≡ Some n
      there g n at = subst (λ xs. slice_get xs.items g.ino ≡ Some n) st.inodes at

      data_is : (x y : DataChange) → Data x ≡ Data y → x ≡ y
      data_is x y e = cc

      own_room : (g : Flight) (x : DataChange) (n : InodeState) → f' ≡ g → g.change ≡ Data x → slice_get b.inodes.items g.ino ≡ Some n
          → length x.blocks.items ≤ n.map.room
      own_room g x n one kind_is at =
          let change : c' ≡ x = data_is c' x (ap (λ (h : Flight). h.change) one ∙ kind_is) in
          subst (λ (y : DataChange). length y.blocks.items ≤ n.map.room) change
          (volume.room.places who f c n flies kind (subst (λ (h : Flight). slice_get b.inodes.items h.ino ≡ Some n) (sym one) at))

  pub filled_volume : IsVolume d b' t
  filled_volume = record {
    fast = fast;
    running = st.running;
    names = subst (λ x. AreNamesOf d x.map) (sym st.names) volume.names;
    inodes = subst (λ x. AreInodesOf d x.items) (sym st.inodes) volume.inodes;
    holders = same_holders who f f' b b' st d volume.holders;
    space = same_space who f f' b b' st d volume.space;
    table = subst (AreSlotsOf d) (sym st.fact) volume.table;
    counts = same_counts who f f' b b' st (record { raised = refl })
        (let same' = owed_moved who st.client (Some f) (Some f') b b' st.replaces (λ r. r.releases) in omega (arith, same')) d volume.counts;
    flights = record { clients = st.replaces.clients ∙ volume.flights.clients; each = each };
    queue = same_queue who f f' b b' st d volume.queue;
    sharing = stay.1.sharing (λ same'. let small = few who st.client (Some f) (Some f') b b' st.replaces in omega (arith, small, same'));
    reclaiming = record {
      waiting = subst (λ r. r.waiting + one_if r.raised ≡ one_if r.zero_check + 2 * length r.releases.items + total d.geometry.inodes (dying_units d))
          (sym st.reclaiming) volume.reclaiming.waiting;
      zero_check = λ slot is. volume.reclaiming.zero_check slot (ap (λ r. r.zero_check) (sym st.reclaiming) ∙ is);
      raised = stay.1.raised (λ same'. let small = few who st.client (Some f) (Some f') b b' st.replaces in omega (arith, small, same'));
    };
    cleaning = stay.1.cleaning (λ same'. let small = few who st.client (Some f) (Some f') b b' st.replaces in omega (arith, small, same'));
    pointers = volume.pointers;
    room = room;
    trace = subst (λ (g : Geometry). All (λ (x : CountChange). x.slot < slots g) b'.trace.items) (sym st.geometry)
        (subst (λ xs. All (λ (x : CountChange). x.slot < slots b.geometry) xs.items) (sym fills.trace) volume.trace);
    still = still_flushes who f' b b' s t stores.flushes (flies_new who st.client (Some f) (Some f') b b' st.replaces f' refl) same volume.still;
  }

  pub between : (print : Print) → LeavesOnly s t (IsBetween print d d)
  between print = leaves_only-weaken s t _ _ (λ x stands. in_between x stands) images
    where
      in_between : (x : List ℕ) → StandsFor x d → IsBetween print d d x
      in_between x stands = record { disk = d; stands_for = stands; own = λ is. is; same = inl (λ other. refl) }

pub fills_move : {D F : Type 0} (state : D → State) → FillsMove D F state
fills_move state print v v' d who f c volume agree flies kind some stores fills counts = record {
  after = d;
  moves = record {
    volume = filled_volume d v.parts v'.parts (state v.device) (state v'.device) who f c volume agree flies kind some stores fills;
    images = between d v.parts v'.parts (state v.device) (state v'.device) who f c volume agree flies kind some stores fills print;
    own = λ own. own;
    accounts = λ own. quiet_accounts print d;
    alone = λ by_reclaim. quiet_alone d;
    traces = record { more = []; trace = ap (λ xs. xs.items) fills.trace ∙ sym (append-nil v.parts.trace.items); words = λ slot. refl };
    others = same d v.parts v'.parts (state v.device) (state v'.device) who f c volume agree flies kind some stores fills;
    counts = counts;
    geometry = fills.steps.geometry;
    faults = stores.faults;
  };
  quiet = λ other. refl;
  ops = ops_kept who f (one_filled f c) v.parts v'.parts fills.steps;
  history = ap (λ xs. xs.items) fills.history;
}
