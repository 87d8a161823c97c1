-- The last event of an operation on names: what it needs is there, and what it does to the parts is what lands it.
use Rattle.std.proofs.Common.{
  ◌≡◌,
  ◌≢◌,
  ◌⊎◌,
  inl,
  inr,
  ⊎_elim,
  ℕ,
  zero,
  suc,
  ◌+◌,
  ◌-◌,
  ◌*◌,
  ◌<◌,
  ◌≤◌,
  Bool,
  true,
  false,
  List,
  [],
  ◌∷◌,
  ◌++◌,
  length,
  refl,
  sym,
  ◌∙◌,
  ap,
  subst,
  arith,
  Option,
  Some,
  None,
  get_or,
  length-append,
}
use Rattle.std.specs.FinMap.{get}
use Rattle.page_alloc.specs.Free.{IsInOrder}
use Rattle.std.specs.Prelude.{◌↔◌, IsSome, Contains, slice_get, slice_index, is_some, if◌then◌else◌, vec_len, vec_capacity}
use Rattle.std.proofs.lemmas.List.{append-nil}
use Rattle.std.proofs.lemmas.List.Elements.{Contains-get_or, Contains-append_left, Contains-append_right}
use Rattle.std.proofs.lemmas.Bool.{cases_eq}
use Rattle.pm_device.specs.State.{State, Agree}
use Rattle.pm_layout.specs.declared.Geometry.{Geometry}
use Rattle.file_content.specs.Pages.{AreApart}
use Rattle.dn_model.specs.Counts.{total}
use Rattle.dn_model.specs.Disk.{Disk, Use, Free, Live, Dying, maps}
use Rattle.law_write.specs.Events.{IsUnused}
use Rattle.dn_volume.specs.declared.units.TheConstants.{NAMES_UNITS}
use Rattle.dn_volume.specs.declared.flight.Flight.{Flight}
use Rattle.dn_volume.specs.declared.flight.Change.{Change}
use Rattle.dn_volume.specs.declared.flight.Change.TheVariants.{Names}
use Rattle.dn_volume.specs.declared.flight.NameChange.{NameChange}
use Rattle.dn_volume.specs.declared.flight.Turn.{Turn}
use Rattle.dn_volume.specs.declared.flight.Turn.TheVariants as kept_turn
use Rattle.dn_volume.specs.declared.volume.InodeState.{InodeState}
use Rattle.dn_volume.specs.declared.volume.Parts.{Parts}
use Rattle.dn_volume.specs.Parties.{Flies, by_client, for_client, Takes, flight_at, blocks_of}
use Rattle.dn_volume.specs.Flights.{IsNameFlight, left_by, left_of}
use Rattle.dn_volume.specs.Reclaims.{mapped_places, units_by_use, dying_units, one_if}
use Rattle.dn_volume.specs.Reserve.{owed_to, prepared_units, slots_of, units_by, runs_by}
use Rattle.dn_volume.specs.Agrees.{IsVolume}
use Rattle.dn_volume.specs.Begins.{IsNamesOp}
use Rattle.dn_volume.proofs.Replaced.{ends_at}
use Rattle.pm_device.specs.State.{Rose}
use Rattle.pm_device.specs.Settled.{LeavesOnly, StoresOnly, IsSettled}
use Rattle.pm_layout.specs.Geometry.{gate_word}
use Rattle.name_journal.specs.Changes.{IsTouched}
use Rattle.name_journal.specs.AllOrNone.{AllOrNone}
use Rattle.dn_model.specs.Disk.{of_head, at_gate}
use Rattle.dn_model.specs.Own.{Print}
use Rattle.dn_model.specs.declared.op.Reply.TheVariants.{Done}
use Rattle.dn_volume.specs.declared.volume.Volume.{Volume}
use Rattle.dn_volume.specs.Events.{Counts, Answers, Breaks, answered_by}
use Rattle.count_events.proofs.Flown.{same_flight}
use Rattle.name_ops.specs.Landing.{names_after, flight_changes, CommitsAll, Stops, LandsChange, IsToCommit, turn_units, places_kept}
use Rattle.name_ops.specs.Ending.{MovesSome, CanLand, FinishesNames, IsNextToCommit}
use Rattle.name_ops.proofs.Answering.{names_answer, names_break}
use Rattle.name_ops.proofs.Put.{same_names}
use Rattle.name_ops.proofs.Counted.{few_places}
use Rattle.law_names.specs.NameChange.{MayChange, root_after}
use Rattle.law_names.proofs.ChangedValid.{root_paged}
use Rattle.name_ops.proofs.RootLog.{paged_few, root_used}
use Rattle.name_ops.proofs.NameFlight.{flight_of, may, fresh_is, of_kind, units_owed, owed_part}

right_apart : (xs ys : List ℕ) → AreApart (xs ++ ys) → AreApart ys
right_apart [] ys apart = apart
right_apart (x ∷ xs) ys apart = right_apart xs ys (λ i j il jl same.
    let next = apart (suc i) (suc j) (omega (arith, il)) (omega (arith, jl)) same in omega (arith, next))

same_counts : (b mid b' : Parts) → b'.made ≡ mid.made → Counts b mid → Counts b b'
same_counts b mid b' same (inl more) = inl (same ∙ more)
same_counts b mid b' same (inr full) = inr (full.0, same ∙ full.1)

-- a sum of so many that are at most 16385 each
few_summed : (f : ℕ → ℕ) (n : ℕ) → ((j : ℕ) → f j ≤ 16385) → total n f ≤ 16385 * n
unfolding total
few_summed f zero few = omega arith
few_summed f (suc n) few = omega (arith, few_summed f n few, few n)

few_mapped : (d : Disk) (ino : ℕ) → mapped_places d ino ≤ 4096
unfolding mapped_places total
few_mapped d ino = below 4096
  where
    one_at_most : (x : Bool) → (if x then 1 else 0) ≤ 1
    one_at_most true = omega arith
    one_at_most false = omega arith

    below : (n : ℕ) → total n (λ idx. if is_some (maps d ino idx) then 1 else 0) ≤ n
    below zero = omega arith
    below (suc n) = omega (arith, below n, one_at_most (is_some (maps d ino n)))

few_dying : (d : Disk) (ino : ℕ) → dying_units d ino ≤ 16385
few_dying d ino = by (d.inode ino).use_of
  where
    by : (u : Use) → units_by_use u (mapped_places d ino) ≤ 16385
    by Free = omega arith
    by Live = omega arith
    by (Dying cut) = omega (arith, few_mapped d ino)

few_turned : (k : Turn) (n : InodeState) → turn_units k (places_kept n) ≤ 16385
few_turned kept_turn.Stays n = omega arith
few_turned kept_turn.Comes n = omega arith
few_turned kept_turn.Goes n = omega (arith, few_places n.map.map)

-- what stays while the flight is out
pub record IsOut (b mid : Parts) : Type 0 where
  pub geometry : mid.geometry ≡ b.geometry
  pub free : mid.free ≡ b.free
  pub names : mid.names ≡ b.names
  pub inodes : mid.inodes ≡ b.inodes
  pub fact : mid.fact ≡ b.fact
  pub queue : mid.queue ≡ b.queue
  pub sharing : mid.sharing ≡ b.sharing
  pub reclaiming : mid.reclaiming ≡ b.reclaiming
  pub history : mid.history ≡ b.history
  pub trace : mid.trace ≡ b.trace
  pub stopped : mid.stopped ≡ b.stopped
  pub owed : mid.owed ≡ b.owed

module _ (d : Disk) (b : Parts) (s : State) (who : ℕ) (f : Flight) (c : NameChange) (volume : IsVolume d b s) (to : IsToCommit b who f c) where
  flight : IsNameFlight d who f c s
  flight = flight_of d b s who f c volume to.flies to.change_is

  takes_spare : (page : ℕ) → Contains f.spare.items page → Takes b who page
  takes_spare page has = for_client f to.flies (Contains-append_left (f.fresh.items ++ f.spare.items) (blocks_of f.change) page
      (Contains-append_right f.fresh.items f.spare.items page has))

  spare_unused : (page : ℕ) → Contains f.spare.items page → IsUnused d page
  spare_unused page has = volume.space.unused page (λ none. let his = volume.space.takes who page (takes_spare page has) in
      let some = to.flies.client in
      omega (arith, none, his, some))

  abbrev to_flies : Flies b who f
  to_flies = to.flies

  names_units : prepared_units c.prepared (slots_of f) ≡ 0
  names_units = ap (λ x. prepared_units x (slots_of f)) to.prepared

  owed_history : 1 ≤ b.owed.history
  owed_history =
      let part = owed_part d b s who f c volume to.flies to.change_is flight (λ r. r.history) in
      let all = volume.room.owes.history in
      omega (arith, part, all)

  pub units_there : NAMES_UNITS ≤ b.owed.units
  units_there = let owed = units_owed d b s who f c volume to.flies to.change_is flight in let none = names_units in omega (arith, owed, none)

  pub spare_there : NAMES_UNITS ≤ s.spare
  spare_there = let owed = units_there in let all = volume.room.units in omega (arith, owed, all)

  few_waiting : (n : InodeState) → b.reclaiming.waiting + turn_units c.turn (places_kept n) < 18446744073709551616
  few_waiting n =
      let is = volume.reclaiming.waiting in
      let few = volume.counts.few in
      let sum = few_summed (dying_units d) d.geometry.inodes (few_dying d) in
      let inodes = volume.fast.valid.accepted.few_inodes in
      let turned = few_turned c.turn n in
      let zero_check = one_at_most b.reclaiming.zero_check in
      omega (arith, is, few, sum, inodes, turned, zero_check)
    where
      one_at_most : (x : Option ℕ) → one_if x ≤ 1
      one_at_most None = omega arith
      one_at_most (Some y) = omega arith

  moves : MovesSome f.op (get b.names.map)
  moves = of_kind d b s who f c volume to.flies to.change_is flight (λ op x. MovesSome op (get b.names.map)) (λ name plan. tt) (λ name plan. tt)
      (λ from to' plan. subst IsSome (sym (volume.names.leads from ∙ plan.leads)) refl)

  -- the root's log has few pages, with those that it gets
  few_root : (n : InodeState) → slice_get b.inodes.items 0 ≡ Some n → n.log_pages + length f.fresh.items < 18446744073709551616
  few_root n at =
      let can : MayChange d flight.change = may d b s who f c volume to.flies to.change_is flight in
      let few : length ((d.inode 0).log.pages ++ flight.change.fresh) ≤ d.geometry.pages =
      paged_few d.geometry (root_after d flight.change) (root_paged d flight.change can) in
      let long = length-append (d.inode 0).log.pages flight.change.fresh in
      let same = ap length (fresh_is d b s who f c volume to.flies to.change_is flight) in
      let is = (volume.inodes.each 0 n at).log_pages (root_used d b s volume) in
      let small = volume.fast.valid.accepted.few_pages in
      omega (arith, few, long, same, is, small)

  pub can_land : IsNamesOp f.op → (mid : Parts) → IsOut b mid → CanLand f c mid
  can_land kind mid out = record {
    kind = kind;
    moves = subst (λ (x : _). MovesSome f.op (get x.map)) (sym out.names) moves;
    change_is = to.change_is;
    put_is = flight.put_is;
    file = flight.file;
    root = λ n at. few_root n (subst (λ (xs : _). slice_get xs.items 0 ≡ Some n) out.inodes at);
    node = subst (λ (xs : _). c.node < length xs.items) (sym out.inodes) (let few = flight.node_in_table in let all = volume.inodes.all in
        omega (arith, few, all));
    held = λ k x lt. let few = volume.holders.in_table (get_or f.held.items k x) who (by_client f to.flies (Contains-get_or f.held.items k x lt)) in
        let all = volume.inodes.all in let same = ap (λ xs. length xs.items) out.inodes in omega (arith, few, all, same);
    small = λ n at. (volume.inodes.each c.node n (subst (λ (xs : _). slice_get xs.items c.node ≡ Some n) out.inodes at)).small;
    spare_below = λ page has. subst (λ (x : _). page < x.pages) (sym out.free) (let high = (spare_unused page has).free.data_page.high in
        let same = volume.space.pages in omega (arith, high, same));
    spare_taken = λ page has there. (let his = volume.space.takes who page (takes_spare page has) in let some = to.flies.client in
        let none = ((volume.space.free page).0 (subst (λ (x : _). Contains x.free page) out.free there)).1 in omega (arith, his, some, none));
    spare_apart = right_apart f.fresh.items f.spare.items (subst AreApart (append-nil (f.fresh.items ++ f.spare.items))
        (subst AreApart (ap (λ (x : Change). (f.fresh.items ++ f.spare.items) ++ blocks_of x) to.change_is) flight.grows.apart));
    in_order = subst IsInOrder (sym out.free) volume.space.in_order;
    waiting = λ n at. subst (λ (r : _). r.waiting + turn_units c.turn (places_kept n) < 18446744073709551616) (sym out.reclaiming) (few_waiting n);
    units = subst (λ (o : _). NAMES_UNITS ≤ o.units) (sym out.owed) units_there;
    owed_history = subst (λ (o : _). 1 ≤ o.history) (sym out.owed) owed_history;
    names_room = subst (λ (x : _). 0 < x.room) (sym out.names) (let owed = owed_history in let all = volume.room.names in omega (arith, owed, all));
    history = subst (λ (x : _). vec_len x < vec_capacity x) (sym out.history) (let owed = owed_history in let all = volume.room.history in
        omega (arith, owed, all));
  }

  pub no_rows_owed : length f.rows.items ≡ 0
  no_rows_owed = ap length flight.no_rows

  -- so it has landed
  module _ (mid b' : Parts) (out : IsOut b mid) (clients : length mid.flights.items ≡ length b.flights.items)
      (landed : flight_at mid.flights.items (who - 1) ≡ None)
      (others : (k : ℕ) → k ≢ who - 1 → flight_at mid.flights.items k ≡ flight_at b.flights.items k) (finish : FinishesNames who f c mid b') where
    units_owed_are : (owed_to (Some f)).units ≡ NAMES_UNITS
    units_owed_are = ap (units_by f) to.change_is ∙ ap (λ (x : Bool). prepared_units x (slots_of f) + NAMES_UNITS) to.prepared

    pub lands : LandsChange who f c b b'
    lands = record {
      lands = record {
        lands = record {
          geometry = finish.geometry ∙ out.geometry;
          running = finish.stopped ∙ out.stopped ∙ volume.running;
          replaces = ends_at b b' who f volume.flights.clients (ap (λ xs. length xs.items) finish.flights ∙ clients) to.flies.is
              (ap (λ xs. flight_at xs.items (who - 1)) finish.flights ∙ landed)
              (λ k ne. ap (λ xs. flight_at xs.items k) finish.flights ∙ others k ne) (finish.sharing ∙ out.sharing)
              (finish.cleaning ∙ ap (λ r. r.cleaning) out.reclaiming);
          owed = record {
            units = let is = units_owed_are in let told = finish.units in let same = ap (λ o. o.units) out.owed in omega (arith, is, told, same);
            trace = let rows = no_rows_owed in let told = finish.owed_trace in let same = ap (λ o. o.trace) out.owed in
                omega (arith, rows, told, same);
            history = let told = finish.owed_history in let same = ap (λ o. o.history) out.owed in omega (arith, told, same);
            queue = let none : (owed_to (Some f)).queue ≡ 0 = ap runs_by to.change_is in let told = finish.owed_queue in
                let same = ap (λ o. o.queue) out.owed in omega (arith, none, told, same);
            releases = let rows = no_rows_owed in let told = finish.owed_releases in let same = ap (λ o. o.releases) out.owed in
                omega (arith, rows, told, same);
          };
          pages = finish.free.pages ∙ ap (λ x. x.pages) out.free;
          in_order = finish.free.in_order;
          free = λ page. subst (λ (x : _). Contains b'.free.free page ↔ (Contains x.free page ⊎ Contains f.spare.items page)) out.free
              (finish.free.free page);
          free_more = subst (λ (x : _). length x.free ≤ length b'.free.free) out.free finish.free.no_less;
          history_len = finish.history_len ∙ ap (λ x. vec_len x + 1) out.history;
          history_room = finish.history_capacity ∙ ap (λ x. vec_capacity x) out.history;
        };
        fact = finish.fact ∙ out.fact;
        queue = finish.queue ∙ out.queue;
        trace = finish.trace ∙ out.trace;
        names_room = subst (λ (x : _). x.room ≤ b'.names.room + 1) out.names finish.names_room;
        inodes = finish.all ∙ ap (λ xs. length xs.items) out.inodes;
      };
      names = λ other. finish.names other ∙ ap (λ x. names_after f.op (get x.map) c.node other) out.names;
      each = λ ino n' at. let was = finish.each ino n' at in (was.0, ap (λ xs. slice_get xs.items ino) (sym out.inodes) ∙ was.1, was.2, was.3);
      raised = finish.raised ∙ ap (λ r. r.raised) out.reclaiming;
      zero_check = finish.zero_check ∙ ap (λ r. r.zero_check) out.reclaiming;
      releases = finish.releases ∙ ap (λ r. r.releases) out.reclaiming;
      waiting = λ n at. finish.waiting n (ap (λ xs. slice_get xs.items c.node) out.inodes ∙ at)
          ∙ ap (λ r. r.waiting + turn_units c.turn (places_kept n))
          out.reclaiming;
    }

-- the operation that is taken out is the one that is to be committed
pub to_commit : (b : Parts) (who : ℕ) → IsNextToCommit b who → (f : Flight) → flight_at b.flights.items (who - 1) ≡ Some f → (c : NameChange)
    → f.change ≡ Names c → IsToCommit b who f c × IsNamesOp f.op
to_commit b who next f was c names =
    let same : next.flight ≡ f = same_flight b who next.flight f next.is.flies (record { client = next.is.flies.client; is = was }) in
    let change : next.change ≡ c = same_names f.change next.change c (ap (λ (g : Flight). g.change) (sym same) ∙ next.is.change_is) names in (
      subst (λ (g : Flight). IsToCommit b who g c) same (subst (λ (y : NameChange). IsToCommit b who next.flight y) change next.is),
      subst (λ (g : Flight). IsNamesOp g.op) same next.kind,
    )

pub is_next : (b : Parts) (who : ℕ) → IsNextToCommit b who → IsSome (flight_at b.flights.items (who - 1))
is_next b who next = subst IsSome (sym next.is.flies.is) refl

pub one_left : (b : Parts) (who : ℕ) (f : Flight) (c : NameChange) → IsToCommit b who f c → left_of f ≡ 1
one_left b who f c to = ap (left_by f) to.change_is ∙ ap (λ (x : Bool). if x then 1 else 2) to.prepared

module _ (d : Disk) (b : Parts) (s : State) (who : ℕ) (f : Flight) (c : NameChange) (volume : IsVolume d b s) (to : IsToCommit b who f c) where
  is_flight : IsNameFlight d who f c s
  is_flight = flight_of d b s who f c volume to.flies to.change_is

  pub node_file : 1 ≤ c.node
  node_file = is_flight.file

  pub node_there : c.node < b.geometry.inodes
  node_there = let few = is_flight.node_in_table in let same = ap (λ (g : Geometry). g.inodes) volume.fast.geometry in omega (arith, few, same)

  pub gate_closed : slice_index s.now gate_word ≡ 0
  gate_closed = volume.fast.stands.reads gate_word 0 (of_head (at_gate refl refl))

  pub gate_settled : IsSettled s gate_word
  gate_settled = volume.fast.stands.settled gate_word 0 (of_head (at_gate refl refl))

module _ {D F : Type 0} (state : D → State) (print : Print) (v v' : Volume D F) (who : ℕ) (f : Flight) (c : NameChange)
    (to : IsToCommit v.parts who f c) (agree : Agree (state v.device).now (state v.device).past) where
  pub commit_answers : CommitsAll v.parts.geometry.inodes who (flight_changes c) (state v.device) (state v'.device) → IsNamesOp f.op → (mid : Parts)
      → IsOut v.parts mid
      → length mid.flights.items ≡ length v.parts.flights.items → flight_at mid.flights.items (who - 1) ≡ None
      → ((k : ℕ) → k ≢ who - 1 → flight_at mid.flights.items k ≡ flight_at v.parts.flights.items k)
      → (CanLand f c mid → FinishesNames who f c mid v'.parts) → Counts v.parts mid → (d : Disk) → IsVolume d v.parts (state v.device)
      → Answers state print who f.op Done v v' d
  commit_answers commit kind mid out clients landed others finish counts d volume =
      let can = can_land d v.parts (state v.device) who f c volume to kind mid out in
      let done = finish can in
      names_answer state print v v' d who f c volume agree to
      (subst (λ (g : Geometry). CommitsAll g.inodes who (flight_changes c) (state v.device) (state v'.device)) (sym volume.fast.geometry) commit)
      (lands d v.parts (state v.device) who f c volume to mid v'.parts out clients landed others done)
      (record {
        entry = record { who = who; op = f.op; reply = Done };
        history = done.history ∙ ap (λ xs. xs.items ++ record { who = who; op = f.op; reply = Done } ∷ []) out.history;
        who_is = refl;
        op_is = refl;
        reply_is = refl;
      })
      (same_counts v.parts mid v'.parts done.made counts)

  pub commit_breaks : LeavesOnly (state v.device) (state v'.device) (AllOrNone v.parts.geometry.inodes who (flight_changes c) (state v.device))
      → StoresOnly (IsTouched (flight_changes c)) (state v.device) (state v'.device) → Rose (state v.device).faults (state v'.device).faults
      → (state v.device).faults ≤ (state v'.device).faults → Stops v.parts v'.parts → Counts v.parts v'.parts → (d : Disk)
      → IsVolume d v.parts (state v.device) → Breaks state print who (Some f.op) v v' d
  commit_breaks images only rose faults stops counts d volume = names_break state print v v' d who f c volume agree to (record {
    images = subst (λ (g : Geometry). LeavesOnly (state v.device) (state v'.device) (AllOrNone g.inodes who (flight_changes c) (state v.device)))
        (sym volume.fast.geometry) images;
    only = only;
    rose = rose;
    faults = faults;
  }) stops counts

  -- of the operation that is in flight, whatever it is called
  pub breaks_of : (d : Disk) (g : Flight) → Flies v.parts who g → Breaks state print who (Some f.op) v v' d
      → Breaks state print who (answered_by (left_of g) g.op) v v' d
  breaks_of d g flies breaks = subst (λ (h : Flight). Breaks state print who (answered_by (left_of h) h.op) v v' d)
      (same_flight v.parts who f g to.flies flies)
      (subst (λ (n : ℕ). Breaks state print who (answered_by n f.op) v v' d) (sym (one_left v.parts who f c to)) breaks)

  pub answers_of : (d : Disk) (g : Flight) → Flies v.parts who g → Answers state print who f.op Done v v' d
      → Answers state print who g.op Done v v' d × (left_of g ≡ 1)
  answers_of d g flies answers = (
    subst (λ (h : Flight). Answers state print who h.op Done v v' d) (same_flight v.parts who f g to.flies flies) answers,
    subst (λ (h : Flight). left_of h ≡ 1) (same_flight v.parts who f g to.flies flies) (one_left v.parts who f c to),
  )

-- a flight that was taken out and put back
pub back_again : (xs ys zs : List (Option Flight)) (who : ℕ) (f : Flight) → flight_at xs (who - 1) ≡ Some f
    → ((k : ℕ) → k ≢ who - 1 → flight_at ys k ≡ flight_at xs k) → flight_at zs (who - 1) ≡ Some f
    → ((k : ℕ) → k ≢ who - 1 → flight_at zs k ≡ flight_at ys k) → (k : ℕ) → flight_at zs k ≡ flight_at xs k
back_again xs ys zs who f was out here back k = ⊎_elim
    (λ at. subst (λ (j : ℕ). flight_at zs j ≡ flight_at xs j) (sym at) (here ∙ sym was)) (λ away. back k away ∙ out k away) (cases_eq k (who - 1))
