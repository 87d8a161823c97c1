-- The first advance of an operation on names: it is prepared, and nothing that is read changes.
use Rattle.std.proofs.Common.{
  ◌≡◌,
  ◌≢◌,
  ◌⊎◌,
  inl,
  inr,
  ⊎_elim,
  ℕ,
  ◌+◌,
  ◌-◌,
  ◌*◌,
  ◌<◌,
  ◌≤◌,
  Bool,
  List,
  [],
  ◌++◌,
  length,
  refl,
  sym,
  ◌∙◌,
  ap,
  subst,
  arith,
  Some,
}
use Rattle.std.specs.Prelude.{◌/◌, Contains, All, slice_get, slice_index, vec_len, vec_capacity}
use Rattle.std.specs.VecDeque.{deque_len, deque_capacity}
use Rattle.std.proofs.lemmas.List.{append-nil}
use Rattle.std.proofs.lemmas.List.Elements.{Contains-append_cases}
use Rattle.std.proofs.lemmas.Grind.{get_or_default_zero}
use Rattle.pm_device.specs.State.{State, Agree}
use Rattle.pm_device.specs.Settled.{LeavesOnly}
use Rattle.pm_device.specs.Reading.{Said, IsReady}
use Rattle.pm_device.specs.Words.{IsIn}
use Rattle.pm_device.specs.Pages.{IsInPage}
use Rattle.pm_device.proofs.Only.{stores_only-weaken, stores_only-then}
use Rattle.pm_device.proofs.Layers.{leaves_only-then}
use Rattle.pm_device.proofs.Moments.{leaves_only-weaken}
use Rattle.pm_layout.specs.declared.Geometry.{Geometry}
use Rattle.pm_layout.specs.Geometry.{inode_word, slots}
use Rattle.dn_model.specs.Log.{Log, count, tail_at}
use Rattle.dn_model.specs.Growth.{Prepared, new_head, new_footer, new_slot}
use Rattle.dn_model.specs.Disk.{Disk, IsUsed}
use Rattle.dn_model.specs.Image.{StandsFor}
use Rattle.dn_model.specs.Own.{Print}
use Rattle.dn_model.specs.declared.op.Op.{Op}
use Rattle.dn_model.specs.declared.op.Op.TheVariants.{Create, Write, Read, Cut, Remove, Rename, Size, List as ListAll}
use Rattle.law_names.specs.NameChange.{NameChange as DiskChange, Turn as DiskTurn, Stays, Comes, Goes, MayChange, FreshNames, root_after}
use Rattle.law_names.specs.NameChange.{turn_field, turn_words}
use Rattle.law_names.specs.Operations.{creation, removal, renaming}
use Rattle.law_names.specs.NameLaws.{StandsStill}
use Rattle.law_names.proofs.ChangedValid.{root_paged}
use Rattle.law_names.proofs.Places.{prepared_place, high_not_inode}
use Rattle.law_names.proofs.Commits.{root_stores, turn_stores, turn_ready, fresh_ready}
use Rattle.dn_volume.specs.declared.units.TheConstants.{SLOT_UNITS, TURN_UNITS, NAMES_UNITS}
use Rattle.dn_volume.specs.declared.flight.Flight.{Flight}
use Rattle.dn_volume.specs.declared.flight.Change.TheVariants.{Data, Names}
use Rattle.dn_volume.specs.declared.flight.DataChange.{DataChange}
use Rattle.dn_volume.specs.declared.flight.NameChange.{NameChange}
use Rattle.dn_model.specs.declared.op.CountChange.{CountChange}
use Rattle.dn_volume.specs.declared.volume.Parts.{Parts}
use Rattle.dn_volume.specs.Parties.{Flies, by_client, SameOthers, KeepsOps, blocks_of}
use Rattle.dn_volume.specs.Inodes.{AreNamesOf, AreInodesOf}
use Rattle.dn_volume.specs.Space.{AreSlotsOf}
use Rattle.dn_model.specs.Counts.{total}
use Rattle.dn_model.specs.History.{needed}
use Rattle.file_content.specs.Pages.{AreApart}
use Rattle.dn_volume.specs.PlannedNames.{PlansNames}
use Rattle.dn_volume.specs.Flights.{IsFlight, IsNameFlight, GrowsBy}
use Rattle.dn_volume.specs.Reserve.{slots_of, HasRoom, owed_to, units_by, prepared_units, runs_by}
use Rattle.dn_volume.specs.Reclaims.{one_if, dying_units}
use Rattle.dn_volume.specs.Agrees.{StandsFast, IsVolume}
use Rattle.dn_volume.specs.Rely.{IsWordOf, of_inode, of_log, of_page, LeavesRest, KeepsRest, StayInHand}
use Rattle.dn_volume.specs.Events.{IsBetween}
use Rattle.dn_volume.specs.Steps.{StepsOn}
use Rattle.dn_volume.proofs.Kept.{quiet_accounts, quiet_alone}
use Rattle.dn_volume.proofs.OthersStay.{others_stay}
use Rattle.dn_volume.proofs.Stills.{still_flushes}
use Rattle.dn_volume.proofs.Stepped.{others_same, ops_kept, same_holders, same_space, owes_on, same_counts, same_queue}
use Rattle.dn_volume.proofs.Replaced.{few, flies_new, each_flight, each_room, owed_moved}
use Rattle.name_ops.specs.Preparing.{StoresNames, with_change, prepared_change, Prepares, IsToPrepare, NamesPrepare}
use Rattle.name_ops.proofs.NameFlight.{may, fresh_is, fresh_taken_by, holds_root, holds_ino}

-- the words of an inode that turns
turn_fits : (turn : DiskTurn) (log : Log) → turn_field turn + length (turn_words turn log) ≤ 4
turn_fits Stays log = omega arith
turn_fits Comes log = omega arith
turn_fits Goes log = omega arith

turn_starts : (turn : DiskTurn) → 1 ≤ turn_field turn
turn_starts Stays = omega arith
turn_starts Comes = omega arith
turn_starts Goes = omega arith

-- what was planned is so of an operation that holds the same and makes the same
plans_then : (d : Disk) (f f' : Flight) (change : DiskChange) (op : Op) → f'.held ≡ f.held → f'.fresh ≡ f.fresh → PlansNames d f change op
    → PlansNames d f' change op
plans_then d f f' change (Create name) held fresh plan = record {
  legal = plan.legal;
  unnamed = plan.unnamed;
  free = plan.free;
  held = ap (λ xs. xs.items) held ∙ plan.held;
  is = plan.is ∙ ap (λ xs. creation name change.ino xs.items) (sym fresh);
}
plans_then d f f' change (Write name at text) held fresh plan = absurd plan
plans_then d f f' change (Read name at count') held fresh plan = absurd plan
plans_then d f f' change (Cut name to) held fresh plan = absurd plan
plans_then d f f' change (Remove name) held fresh plan = record {
  legal = plan.legal;
  leads = plan.leads;
  held = ap (λ xs. xs.items) held ∙ plan.held;
  is = plan.is ∙ ap (λ xs. removal name change.ino xs.items) (sym fresh);
}
plans_then d f f' change (Rename from to) held fresh plan = record {
  legal_from = plan.legal_from;
  legal_to = plan.legal_to;
  apart = plan.apart;
  ino = plan.ino;
  leads = plan.leads;
  replaced = plan.replaced;
  replaces = plan.replaces;
  held = ap (λ xs. xs.items) held ∙ plan.held;
  is = plan.is ∙ ap (λ xs. renaming from to plan.ino plan.replaced xs.items) (sym fresh);
}
plans_then d f f' change (Size name) held fresh plan = absurd plan
plans_then d f f' change ListAll held fresh plan = absurd plan

module _ (d : Disk) (b b' : Parts) (s u t : State) (who : ℕ) (f : Flight) (c : NameChange) (tail : ℕ) (fl : IsNameFlight d who f c s)
    (volume : IsVolume d b s) (agree_u : Agree u.now u.past) (agree_t : Agree t.now t.past)
    (to : IsToPrepare b who f c)
    (stores : StoresNames d who fl.change (SLOT_UNITS * slots_of f + TURN_UNITS) s u t)
    (tail_is : tail ≡ tail_at (root_after d fl.change).pages (count (root_after d fl.change)))
    (prepares : Prepares who f c tail b b') where
  abbrev change : DiskChange
  change = fl.change

  abbrev f' : Flight
  f' = with_change f (Names (prepared_change c tail))

  abbrev st : StepsOn who f f' b b'
  st = prepares.steps

  can : MayChange d change
  can = may d b s who f c volume to.flies to.change_is fl

  fresh_same : change.fresh ≡ f.fresh.items
  fresh_same = fresh_is d b s who f c volume to.flies to.change_is fl

  abbrev new : Log
  new = root_after d change

  abbrev Root : ℕ → Type 0
  Root = Said (Prepared 0 (d.inode 0).log new)

  abbrev Turn' : ℕ → Type 0
  Turn' = IsIn (inode_word change.ino (turn_field change.turn)) (length (turn_words change.turn (d.inode change.ino).log))

  long_u : length u.now ≡ 512 * d.geometry.pages
  long_u = stores.prepared.only.words ∙ volume.fast.long

  long_t : length t.now ≡ 512 * d.geometry.pages
  long_t = stores.turned.only.words ∙ long_u

  root_still : StandsStill d s u
  root_still = root_stores d change can s u stores.prepared.only volume.fast.stands agree_u long_u

  turn_still : StandsStill d u t
  turn_still = turn_stores d change can u t stores.turned.only root_still.stands agree_t long_t

  pub images : LeavesOnly s t (λ c. StandsFor c d)
  images = leaves_only-then s u t (λ c. StandsFor c d) root_still.images turn_still.images

  fast : StandsFast d b'.geometry t
  fast = record { geometry = volume.fast.geometry ∙ sym st.geometry; long = long_t; valid = volume.fast.valid; stands = turn_still.stands }

  -- what was prepared still stands once the inode is cleared
  not_turned : (a v : ℕ) → Prepared 0 (d.inode 0).log new a v → Turn' a → ⊥
  not_turned a v told here =
      let starts = turn_starts change.turn in
      let fits = turn_fits change.turn (d.inode change.ino).log in
      let low = here.0 in
      let high' = here.1 in
      ⊎_elim
      (λ head. let file = can.file in omega (arith, head, file, low, starts))
      (λ high. high_not_inode d.geometry a change.ino (a - inode_word change.ino 0) high can.in_table (omega (arith, low, high', fits))
      (omega (arith, low)))
      (prepared_place d.geometry 0 (d.inode 0).log new a v (root_paged d change can) told)

  root_ready : IsReady who (Prepared 0 (d.inode 0).log new) t
  root_ready =
      let was = stores.prepared.ready in
      record {
        within = λ a v told. let lt = was.within a v told in let same = stores.turned.only.words in omega (arith, lt, same);
        reads = λ a v told. stores.turned.only.read a (not_turned a v told) ∙ was.reads a v told;
        flushed = λ a v told. stores.turned.keeps.flushed who a tt (not_turned a v told) (was.within a v told) (was.flushed a v told);
      }

  ready : IsReady who (FreshNames d change) t
  ready = fresh_ready d change who t root_ready (turn_ready d change can who u t long_u stores.turned)

  taken_same : blocks_of f.change ≡ []
  taken_same = ap blocks_of to.change_is

  grows : GrowsBy d f'
  grows = record {
    in_table = fl.grows.in_table;
    live = fl.grows.live;
    holds = fl.grows.holds;
    room = fl.grows.room;
    apart = subst (λ (xs : List ℕ). AreApart (f.fresh.items ++ f.spare.items ++ xs)) taken_same fl.grows.apart;
    takes = subst (λ (xs : List ℕ). length (f.fresh.items ++ f.spare.items ++ xs) ≡ needed d f.op) taken_same fl.grows.takes;
    undying = fl.grows.undying;
  }

  own_flight : IsFlight d who f' t
  own_flight = record {
    root = fl.root;
    grows = grows;
    change = fl.change;
    plans = plans_then d f f' fl.change f.op refl refl fl.plans;
    node_is = fl.node_is;
    turn_is = fl.turn_is;
    file = fl.file;
    node_in_table = fl.node_in_table;
    holds_node = fl.holds_node;
    slots = fl.slots;
    no_rows = fl.no_rows;
    put_is = fl.put_is;
    ready = λ set. ready;
    tail = λ set. tail_is;
  }

  -- what is left to others
  abbrev inodes : List ℕ
  inodes = f.held.items

  in_root : Contains inodes 0
  in_root = holds_root d b s who f c volume to.flies to.change_is fl

  in_node : Contains inodes change.ino
  in_node = holds_ino d b s who f c volume to.flies to.change_is fl

  pages_of_new : (k : ℕ) → k < length new.pages → Contains ((d.inode 0).log.pages) (slice_index new.pages k) ⊎ Contains change.fresh
      (slice_index new.pages k)
  pages_of_new k lt = Contains-append_cases (d.inode 0).log.pages change.fresh (slice_index new.pages k)
      (k, lt, get_or_default_zero new.pages k (slice_index new.pages k) lt)

  in_pages : (k : ℕ) → k < length new.pages → Contains ((d.inode 0).log.pages) (slice_index new.pages k) ⊎ Contains f.fresh.items
      (slice_index new.pages k)
  in_pages k lt = ⊎_elim (λ old. inl old) (λ fresh. inr (subst (λ (xs : List ℕ). Contains xs (slice_index new.pages k)) fresh_same fresh))
      (pages_of_new k lt)

  of_new_page : (k a : ℕ) → k < length new.pages → IsInPage (slice_index new.pages k) a → IsWordOf inodes f.fresh.items d a
  of_new_page k a lt here = ⊎_elim
      (λ old. of_log 0 (slice_index new.pages k) in_root (let few = fl.node_in_table in omega (arith, few))
      (subst IsUsed (sym volume.fast.valid.root) tt) old here)
      (λ fresh. of_page (slice_index new.pages k) fresh here) (in_pages k lt)

  of_root : (a : ℕ) → Root a → IsWordOf inodes f.fresh.items d a
  of_root a said = by_case said.value said.told
    where
      by_case : (v : ℕ) → Prepared 0 (d.inode 0).log new a v → IsWordOf inodes f.fresh.items d a
      by_case v (new_head none some place value) = of_inode 0 in_root (let few = fl.node_in_table in omega (arith, few))
          (omega (arith, place), omega (arith, place))
      by_case v (new_footer k late lt place value) = of_new_page k a (omega (arith, lt)) (omega (arith, place), omega (arith, place))
      by_case v (new_slot k j late lt word place value) =
          let fits = (root_paged d change can).fits in
          of_new_page (k / 63) a (omega (arith, lt, fits)) (omega (arith, place, word), omega (arith, place, word))

  of_turn : (a : ℕ) → Turn' a → IsWordOf inodes f.fresh.items d a
  of_turn a here =
      let starts = turn_starts change.turn in
      let fits = turn_fits change.turn (d.inode change.ino).log in
      let low = here.0 in
      let high = here.1 in
      of_inode change.ino in_node can.in_table (omega (arith, low), omega (arith, high, fits))

  rest : KeepsRest inodes f.fresh.items d d
  rest = record {
    geometry = refl;
    inode = λ i out. refl;
    named_so = λ i other some out. ((λ is. is), (λ is. is));
    word = λ page k read. refl;
    unused = λ page out unused. unused;
    slots = λ i idx m in_table out is. refl;
    counting = λ row has some. record { still = row; there = has; slot = refl; page = refl; print = refl };
  }

  leaves : LeavesRest who inodes f.fresh.items d d s t
  leaves = record {
    rest = rest;
    only = stores_only-then (IsWordOf inodes f.fresh.items d) s u t (stores_only-weaken Root (IsWordOf inodes f.fresh.items d) s u of_root
        stores.prepared.only)
        (stores_only-weaken Turn' (IsWordOf inodes f.fresh.items d) u t of_turn stores.turned.only);
    others = λ q a other out lt flushed.
        stores.turned.keeps.flushed q a tt (λ here. out (of_turn a here)) (let same = stores.prepared.only.words in omega (arith, lt, same))
        (stores.prepared.keeps.flushed q a tt (λ said. out (of_root a said)) lt flushed);
  }

  same : SameOthers who b b'
  same = others_same who f f' b b' st

  stay : ((q : ℕ) (g : Flight) → q ≢ who → Flies b' q g → IsFlight d q g t) × StayInHand who d b' t
  stay = others_stay who inodes f.fresh.items d d b b' s t volume (subst (λ (g : Geometry). StandsFast d g t) st.geometry fast)
      (record {
        inode = λ i has. inl (by_client f to.flies has);
        page = λ page has. inl (fresh_taken_by d b s who f c volume to.flies to.change_is fl page has);
      })
      leaves same (λ other. ap (λ r. r.raised) st.reclaiming)

  is_it : (g : Flight) → Some f' ≡ Some g → f' ≡ g
  is_it g is = cc

  each : (q : ℕ) (g : Flight) → Flies b' q g → IsFlight d q g t
  each = each_flight who st.client (Some f) (Some f') b b' st.replaces d t
      (λ g is. subst (λ (h : Flight). IsFlight d who h t) (is_it g is) own_flight) stay.0

  -- room
  units_was : (owed_to (Some f)).units ≡ (SLOT_UNITS * slots_of f + TURN_UNITS) + NAMES_UNITS
  units_was = ap (units_by f) to.change_is ∙ ap (λ (x : Bool). prepared_units x (slots_of f) + NAMES_UNITS) to.unprepared

  room : HasRoom b' t
  room =
      let was = volume.room in
      let o_units = st.owed.units in
      let o_trace = st.owed.trace in
      let o_history = st.owed.history in
      let o_queue = st.owed.queue in
      let runs = ap runs_by to.change_is in
      let o_releases = st.owed.releases in
      let spare = stores.spare in
      record {
        owes = owes_on who f f' b b' st was.owes;
        units = let there = was.units in omega (arith, there, o_units, units_was, spare);
        trace = subst (λ x. vec_len x + b'.owed.trace ≤ vec_capacity x) (sym prepares.trace) (let there = was.trace in omega (arith, there, o_trace));
        history = subst (λ x. vec_len x + b'.owed.history ≤ vec_capacity x) (sym prepares.history) (let there = was.history in
            omega (arith, there, o_history));
        queue = subst (λ x. b'.owed.queue ≤ x.room) (sym st.queue) (let there = was.queue in omega (arith, there, o_queue, runs));
        releases = subst (λ x. deque_len x.releases + b'.owed.releases ≤ deque_capacity x.releases) (sym st.reclaiming) (let there = was.releases in
            omega (arith, there, o_releases));
        names = subst (λ x. b'.owed.history ≤ x.room) (sym st.names) (let there = was.names in omega (arith, there, o_history));
        places = each_room who st.client (Some f) (Some f') b b' st.replaces
            (λ g x n is data_is at. absurd (no_data x (ap (λ (h : Flight). h.change) (is_it g is) ∙ data_is)))
            (λ q g n other flies at. (n, subst (λ xs. slice_get xs.items g.ino ≡ Some n) st.inodes at, omega arith)) volume.room.places;
      }
    where
      no_data : (x : DataChange) → Names (prepared_change c tail) ≡ Data x → ⊥
      no_data x is = cc is

  pub prepared_volume : IsVolume d b' t
  prepared_volume = record {
    fast = fast;
    running = st.running;
    names = subst (λ x. AreNamesOf d x.map) (sym st.names) volume.names;
    inodes = subst (λ x. AreInodesOf d x.items) (sym st.inodes) volume.inodes;
    holders = same_holders who f f' b b' st d volume.holders;
    space = same_space who f f' b b' st d volume.space;
    table = subst (AreSlotsOf d) (sym st.fact) volume.table;
    counts = same_counts who f f' b b' st (record { raised = refl }) (let same' = owed_moved who st.client (Some f) (Some f') b b' st.replaces
        (λ r. r.releases) in omega (arith, same')) d
        volume.counts;
    flights = record { clients = st.replaces.clients ∙ volume.flights.clients; each = each };
    queue = same_queue who f f' b b' st d volume.queue;
    sharing = stay.1.sharing (λ same'. let small = few who st.client (Some f) (Some f') b b' st.replaces in omega (arith, small, same'));
    cleaning = stay.1.cleaning (λ same'. let small = few who st.client (Some f) (Some f') b b' st.replaces in omega (arith, small, same'));
    reclaiming = record {
      waiting = subst (λ r. r.waiting + one_if r.raised ≡ one_if r.zero_check + 2 * length r.releases.items + total d.geometry.inodes (dying_units d))
          (sym st.reclaiming) volume.reclaiming.waiting;
      zero_check = λ slot is. volume.reclaiming.zero_check slot (ap (λ r. r.zero_check) (sym st.reclaiming) ∙ is);
      raised = stay.1.raised (λ same'. let small = few who st.client (Some f) (Some f') b b' st.replaces in omega (arith, small, same'));
    };
    pointers = volume.pointers;
    room = room;
    trace = subst (λ (g : Geometry). All (λ (x : CountChange). x.slot < slots g) b'.trace.items) (sym st.geometry)
        (subst (λ xs. All (λ (x : CountChange). x.slot < slots b.geometry) xs.items) (sym prepares.trace) volume.trace);
    still = still_flushes who f' b b' s t stores.flushes (flies_new who st.client (Some f) (Some f') b b' st.replaces f' refl) same volume.still;
  }

  pub moved : (print : Print) → IsVolume d b' t × LeavesOnly s t (IsBetween print d d)
  moved print = (prepared_volume, leaves_only-weaken s t _ _ (λ x stands. between x stands) images)
    where
      between : (x : List ℕ) → StandsFor x d → IsBetween print d d x
      between x stands = record { disk = d; stands_for = stands; own = λ is. is; same = inl (λ other. refl) }

  pub ops : KeepsOps b b'
  ops = ops_kept who f f' b b' st

  pub others : SameOthers who b b'
  others = same

pub names_prepare : {D F : Type 0} (state : D → State) → NamesPrepare D F state
names_prepare state print v v' u d who f c tail fl volume agree_u agree_t to stores tail_is prepares counts = record {
  after = d;
  moves = record {
    volume = (moved d v.parts v'.parts (state v.device) u (state v'.device) who f c tail fl volume agree_u agree_t to stores tail_is prepares
        print).0;
    images = (moved d v.parts v'.parts (state v.device) u (state v'.device) who f c tail fl volume agree_u agree_t to stores tail_is prepares
        print).1;
    own = λ own. own;
    accounts = λ own. quiet_accounts print d;
    alone = λ is. quiet_alone d;
    traces = record { more = []; trace = ap (λ xs. xs.items) prepares.trace ∙ sym (append-nil v.parts.trace.items); words = λ slot. refl };
    others = others d v.parts v'.parts (state v.device) u (state v'.device) who f c tail fl volume agree_u agree_t to stores tail_is prepares;
    counts = counts;
    geometry = prepares.steps.geometry;
    faults = stores.faults;
  };
  quiet = λ other. refl;
  ops = ops d v.parts v'.parts (state v.device) u (state v'.device) who f c tail fl volume agree_u agree_t to stores tail_is prepares;
  history = ap (λ xs. xs.items) prepares.history;
}
