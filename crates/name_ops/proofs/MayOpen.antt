-- An operation on names that nothing stands in the way of may start.
use Rattle.std.proofs.Common.{◌≡◌, ◌⊎◌, inl, inr, ⊎_elim, ℕ, zero, suc, ◌+◌, ◌-◌, ◌/◌, ◌<◌, ◌≤◌, Bool, true}
use Rattle.std.proofs.Common.{false, List, [], ◌∷◌, ◌++◌, length, refl, sym, ◌∙◌, ap, subst, arith, Option, Some, None, length-append}
use Rattle.std.specs.Prelude.{Contains, All, get_or}
use Rattle.std.specs.Option.{option_map}
use Rattle.std.proofs.lemmas.Bool.{cases_eq, cases_lt}
use Rattle.std.proofs.lemmas.List.{append-nil}
use Rattle.pm_device.specs.State.{State, IsSame, Agree}
use Rattle.std.specs.List.Sorted.{IsStrictlyIncreasing}
use Rattle.page_alloc.specs.Free.{FreePages}
use Rattle.file_write.specs.Take.{TakesFirst}
use Rattle.file_write.proofs.Taking.{left-apart, took-length}
use Rattle.file_content.specs.Pages.{AreApart}
use Rattle.log_entry.specs.Spelling.{spelled}
use Rattle.log_entry.specs.declared.item.LogItem.{LogItem}
use Rattle.dn_model.specs.Log.{count}
use Rattle.dn_model.specs.Disk.{Disk, IsUsed}
use Rattle.dn_model.specs.Files.{named, bytes}
use Rattle.dn_model.specs.History.{needed, reserve}
use Rattle.dn_model.specs.declared.op.Op.{Op}
use Rattle.dn_model.specs.declared.op.Op.TheVariants.{Create, Write, Read, Cut, Remove, Rename, Size, List as ListAll}
use Rattle.law_names.specs.NameChange.{NameChange as DiskChange}
use Rattle.law_names.proofs.Operating.{named_file}
use Rattle.dn_volume.specs.declared.flight.Flight.{Flight}
use Rattle.dn_volume.specs.declared.flight.Change.{Change}
use Rattle.dn_volume.specs.declared.flight.Change.TheVariants.{Names}
use Rattle.dn_volume.specs.declared.volume.Parts.{Parts}
use Rattle.dn_volume.specs.declared.volume.Room.{Room}
use Rattle.dn_volume.specs.declared.volume.Volume.{Volume}
use Rattle.dn_volume.specs.Kept.{IsSameInode}
use Rattle.dn_volume.specs.Parties.{flight_at, taken_by, blocks_of}
use Rattle.dn_volume.specs.PlannedNames.{PlansNames, inode_list, name_put}
use Rattle.dn_volume.specs.Flights.{IsFlight, IsFlightOf, left_by, left_of}
use Rattle.dn_volume.specs.Reserve.{owed_to, units_by, runs_by}
use Rattle.dn_volume.specs.Agrees.{IsVolume}
use Rattle.dn_volume.specs.Begins.{MayBegin, IsUnhindered, IsFreshChange, lost_rows, IsUntouched, IsLast, HasBegun}
use Rattle.begin_steps.specs.Answering.{KeepsRoom}
use Rattle.begin_steps.specs.Room.{HasRoomFor, MakesRoom}
use Rattle.begin_steps.specs.Starting.{IsFew, IsFewChange, Starts}
use Rattle.begin_steps.specs.Begun.{MayStart, HasPlacesFor}
use Rattle.begin_steps.proofs.RoomKept.{inode_was}
use Rattle.begin_steps.proofs.Answered.{untouched_room, has_all_last}
use Rattle.begin_steps.proofs.Opened.{keeps_made_room, units_kept, begun}
use Rattle.name_ops.specs.declared.plan.NamesPlan.{NamesPlan}
use Rattle.name_ops.specs.Finding.{Aims, IsNewFlight, CanOpen, change_of, op_slots, owed_names}
use Rattle.name_ops.proofs.Aimed.{IsHoldable, holdable, needs_extra, extra_few, loses_none, reserve_two}
use Rattle.name_ops.proofs.NameSlots.{grown_fits, has_slots}

-- its pages are no part of what it does
same_but_fresh : (op : Op) (ino : ℕ) (other : Option ℕ) (fresh : List ℕ) →
    ((change_of op ino other fresh).ino ≡ (change_of op ino other []).ino) ×
    ((change_of op ino other fresh).turn ≡ (change_of op ino other []).turn) ×
    ((change_of op ino other fresh).more ≡ (change_of op ino other []).more)
same_but_fresh (Create name) ino other fresh = (refl, refl, refl)
same_but_fresh (Write name at text) ino other fresh = (refl, refl, refl)
same_but_fresh (Read name at n) ino other fresh = (refl, refl, refl)
same_but_fresh (Cut name to) ino other fresh = (refl, refl, refl)
same_but_fresh (Remove name) ino other fresh = (refl, refl, refl)
same_but_fresh (Rename from to) ino None fresh = (refl, refl, refl)
same_but_fresh (Rename from to) ino (Some k) fresh = (refl, refl, refl)
same_but_fresh (Size name) ino other fresh = (refl, refl, refl)
same_but_fresh ListAll ino other fresh = (refl, refl, refl)

no_file : (d : Disk) (o : Option ℕ) → option_map (bytes d) o ≡ None → o ≡ None
no_file d None none = refl
no_file d (Some i) none = absurd (cc none)

-- the inode that turns is one that it holds, and is a file's
module _ (d : Disk) (b : Parts) (s : State) (v : IsVolume d b s) where
  turns_held : (op : Op) (ino : ℕ) (other : Option ℕ) → Aims d b op ino other → (1 ≤ (change_of op ino other []).ino)
      × Contains (0 ∷ ino ∷ inode_list other) (change_of op ino other []).ino
  turns_held (Create name) ino other aims = (aims.file, (1, omega arith, refl))
  turns_held (Write name at text) ino other aims = absurd aims
  turns_held (Read name at n) ino other aims = absurd aims
  turns_held (Cut name to) ino other aims = absurd aims
  turns_held (Remove name) ino other aims = ((named_file d v.fast.valid name ino aims.leads).0, (1, omega arith, refl))
  turns_held (Rename from to) ino None aims = ((named_file d v.fast.valid from ino aims.leads).0, (1, omega arith, refl))
  turns_held (Rename from to) ino (Some k) aims = ((named_file d v.fast.valid to k aims.replaces).0, (2, omega arith, refl))
  turns_held (Size name) ino other aims = absurd aims
  turns_held ListAll ino other aims = absurd aims

  -- it is planned so
  planned_so : (op : Op) (ino : ℕ) (other : Option ℕ) (f : Flight) → IsUnhindered d b op → Aims d b op ino other
      → f.held.items ≡ 0 ∷ ino ∷ inode_list other → PlansNames d f (change_of op ino other f.fresh.items) op
  planned_so (Create name) ino other f free aims held = record {
    legal = free.granted.legal 0 [] (omega arith);
    unnamed = no_file d (named d name) free.granted.finds;
    free = aims.free;
    held = held ∙ ap (λ (o : Option ℕ). 0 ∷ ino ∷ inode_list o) aims.alone;
    is = refl;
  }
  planned_so (Write name at text) ino other f free aims held = absurd aims
  planned_so (Read name at n) ino other f free aims held = absurd aims
  planned_so (Cut name to) ino other f free aims held = absurd aims
  planned_so (Remove name) ino other f free aims held = record {
    held = held ∙ ap (λ (o : Option ℕ). 0 ∷ ino ∷ inode_list o) aims.alone;
    legal = free.granted.legal 0 [] (omega arith);
    leads = aims.leads;
    is = refl;
  }
  planned_so (Rename from to) ino other f free aims held = record {
    legal_from = free.granted.legal 0 [] (omega arith);
    legal_to = free.granted.legal 1 [] (omega arith);
    apart = aims.apart;
    ino = ino;
    leads = aims.leads;
    replaced = other;
    replaces = aims.replaces;
    held = held;
    is = refl;
  }
  planned_so (Size name) ino other f free aims held = absurd aims
  planned_so ListAll ino other f free aims held = absurd aims

none_or : (n : ℕ) → (n ≡ 0) ⊎ (0 < n)
none_or n = ⊎_elim (λ same. inl same) (λ other. inr (omega (arith, other))) (cases_eq n 0)

same_room : (r : Room) (units : ℕ) → r.units ≡ units → r.trace ≡ 0 → r.history ≡ 1 → r.queue ≡ 0 → r.releases ≡ 0
    → r ≡ record { units = units; trace = 0; history = 1; queue = 0; releases = 0 }
same_room r units u t h q e =
    ap (λ (n : ℕ). record { units = n; trace = r.trace; history = r.history; queue = r.queue; releases = r.releases }) u
    ∙ ap (λ (n : ℕ). record { units = units; trace = n; history = r.history; queue = r.queue; releases = r.releases }) t
    ∙ ap (λ (n : ℕ). record { units = units; trace = 0; history = n; queue = r.queue; releases = r.releases }) h
    ∙ ap (λ (n : ℕ). record { units = units; trace = 0; history = 1; queue = n; releases = r.releases }) q
    ∙ ap (λ (n : ℕ). record { units = units; trace = 0; history = 1; queue = 0; releases = n }) e

-- few slots and pages
module _ (d : Disk) (b : Parts) (s : State) (v : IsVolume d b s) (op : Op) (plan : NamesPlan) (pages : ℕ) (can : CanOpen d b op plan pages) where
  pub pages_few : pages ≤ 1
  pages_few =
      let few = extra_few (op_slots op) (d.inode 0).log in
      let same = can.needs ∙ needs_extra d b op can.ino can.other can.roomy.aims in
      omega (arith, few, same)

  pub pages_there : pages ≤ length b.free.free
  pages_there = ⊎_elim (λ none. omega (arith, none))
      (λ some. ⊎_elim (λ less. absurd (can.roomy.has.space (
        (let is = can.needs in omega (arith, is, some)),
        (let is = can.needs in omega (arith, is, less)),
      ))) (λ enough. enough) (cases_lt (length b.free.free) pages)) (none_or pages)

  -- the pages that are left, where it needs some
  left_two : (left : ℕ) → 0 < pages → length b.free.free ≡ pages + left → 2 ≤ left
  left_two left some is = ⊎_elim (λ less. absurd (can.roomy.has.space (
    (let same = can.needs in omega (arith, same, some)),
    (let same = can.needs in omega (arith, same, less)),
  ))) (λ enough. let two = reserve_two op in omega (arith, enough, two, is)) (cases_lt (length b.free.free) (pages + reserve op))

  -- the slots of the plan, as of any operation planned so
  abbrev any : Flight
  any = record {
    op = op;
    held = plan.held;
    ino = 0;
    slots = plan.slots;
    fresh = plan.held;
    spare = plan.held;
    rows = plan.held;
    raised = 0;
    change = Names (record { node = plan.node; turn = plan.turn; prepared = false; tail = 0; put = plan.put });
  }

  plan_slots : length plan.slots.items ≡ op_slots op
  plan_slots =
      sym (ap length (ap (λ (xs : List LogItem). spelled xs) (same_but_fresh op can.ino can.other plan.held.items).2 ∙ can.planned.slots))
      ∙ (has_slots d any (change_of op can.ino can.other plan.held.items) op
      (planned_so d b s v op can.ino can.other any can.roomy.has.unhindered can.roomy.aims can.planned.held)).slots

  pub plan_few : length plan.slots.items ≤ 63
  plan_few =
      let few = (has_slots d any (change_of op can.ino can.other plan.held.items) op
      (planned_so d b s v op can.ino can.other any can.roomy.has.unhindered can.roomy.aims can.planned.held)).few in
      let same = plan_slots in omega (arith, few, same)

  -- An operation planned so, that has these pages.
  module _ (fresh : List ℕ) (f : Flight) (new : IsNewFlight op plan fresh f) where
    abbrev change : DiskChange
    change = change_of op can.ino can.other f.fresh.items

    held_is : f.held.items ≡ 0 ∷ can.ino ∷ inode_list can.other
    held_is = new.held ∙ can.planned.held

    plans : PlansNames d f change op
    plans = planned_so d b s v op can.ino can.other f can.roomy.has.unhindered can.roomy.aims held_is

    pub may_hold : (i : ℕ) → Contains f.held.items i → IsHoldable d b i
    may_hold i has = holdable d b s v op can.ino can.other can.roomy.has.unhindered can.roomy.aims i
        (subst (λ (xs : List ℕ). Contains xs i) held_is has)

    slots_are : spelled change.more ≡ f.slots.items
    slots_are = ap (λ (xs : List LogItem). spelled xs) (same_but_fresh op can.ino can.other f.fresh.items).2 ∙ can.planned.slots ∙ sym new.slots

    slots_long : length f.slots.items ≡ op_slots op
    slots_long = sym (ap length slots_are) ∙ (has_slots d f change op plans).slots

    pub slots_few : length f.slots.items ≤ 63
    slots_few = let few = (has_slots d f change op plans).few in let same = slots_long in omega (arith, few, same)

    taken_is : taken_by f ≡ fresh
    taken_is = ap (λ (xs : List ℕ). (f.fresh.items ++ xs) ++ blocks_of f.change) new.spare
        ∙ ap (λ (x : Change). (f.fresh.items ++ []) ++ blocks_of x) new.change_is
        ∙ append-nil (f.fresh.items ++ []) ∙ append-nil f.fresh.items ∙ new.fresh

    has_root : Contains f.held.items 0
    has_root = subst (λ (xs : List ℕ). Contains xs 0) (sym held_is) (0, omega arith, refl)

    fresh_long : length fresh ≡ pages → length f.fresh.items ≡ needed d op
    fresh_long count = ap length new.fresh ∙ count ∙ can.needs

    enough_room : length fresh ≡ pages → length ((d.inode 0).log.pages ++ f.fresh.items) ≡ (count (d.inode 0).log + length f.slots.items + 62) / 63
    enough_room count_is =
        let fits = (v.fast.valid.logs 0 (may_hold 0 has_root).small (subst IsUsed (sym v.fast.valid.root) tt)).paged.fits in
        let has = has_slots d f change op plans in
        length-append (d.inode 0).log.pages f.fresh.items
        ∙ grown_fits (length (d.inode 0).log.pages) (count (d.inode 0).log) (op_slots op) (length f.fresh.items) has.some has.few fits
        (fresh_long count_is ∙ has.needs)
        ∙ ap (λ (n : ℕ). (count (d.inode 0).log + n + 62) / 63) (sym slots_long)

    turns : (1 ≤ (change_of op can.ino can.other []).ino) × Contains (0 ∷ can.ino ∷ inode_list can.other) (change_of op can.ino can.other []).ino
    turns = turns_held d b s v op can.ino can.other can.roomy.aims

    has_node : Contains f.held.items plan.node
    has_node = subst (Contains f.held.items) can.planned.node
        (subst (λ (xs : List ℕ). Contains xs (change_of op can.ino can.other []).ino) (sym held_is) turns.1)

    clash : (x : Bool) → x ≡ false → x ≡ true → ⊥
    clash x low high = cc

    own_flight : (who : ℕ) (t : State) → length fresh ≡ pages → AreApart fresh → IsFlight d who f t
    own_flight who t count_is apart = subst (IsFlightOf d who f t) (sym new.change_is) (record {
      root = new.ino;
      grows = record {
        in_table = let few = (may_hold 0 has_root).small in let root = new.ino in omega (arith, few, root);
        live = ap (λ (i : ℕ). (d.inode i).use_of) new.ino ∙ v.fast.valid.root;
        holds = subst (Contains f.held.items) (sym new.ino) has_root;
        room = subst (λ (i : ℕ). length ((d.inode i).log.pages ++ f.fresh.items) ≡ (count (d.inode i).log + length f.slots.items + 62) / 63)
            (sym new.ino) (enough_room count_is);
        apart = subst AreApart (sym taken_is) apart;
        takes = ap length taken_is ∙ count_is ∙ can.needs ∙ ap (needed d) (sym new.op_is);
        undying = λ i cut has is. (may_hold i has).undying cut is;
      };
      change = change;
      plans = subst (PlansNames d f change) (sym new.op_is) plans;
      node_is = (same_but_fresh op can.ino can.other f.fresh.items).0 ∙ can.planned.node;
      turn_is = (same_but_fresh op can.ino can.other f.fresh.items).1 ∙ can.planned.turn;
      file = let some = turns.0 in let same = can.planned.node in omega (arith, some, same);
      node_in_table = (may_hold plan.node has_node).small;
      holds_node = has_node;
      slots = slots_are;
      no_rows = new.rows;
      put_is = can.planned.put ∙ ap name_put (sym new.op_is);
      ready = λ set. absurd (clash false refl set);
      tail = λ set. absurd (clash false refl set);
    })

    -- what it is owed
    pub owed_is : length fresh ≡ pages → owed_to (Some f) ≡ owed_names (length plan.slots.items) pages
    owed_is count_is =
        let rows : length f.rows.items ≡ 0 = ap length new.rows in
        let slots : length f.slots.items ≡ length plan.slots.items = ap length new.slots in
        let log : length f.fresh.items ≡ pages = ap length new.fresh ∙ count_is in
        same_room (owed_to (Some f)) (owed_names (length plan.slots.items) pages).units
        (ap (units_by f) new.change_is ∙ (omega (arith, slots, log)))
        (omega (arith, rows)) refl (ap runs_by new.change_is) rows

    pub few : length fresh ≡ pages → IsFew f
    few count_is = record {
      rows = let rows : length f.rows.items ≡ 0 = ap length new.rows in omega (arith, rows);
      slots = let less = slots_few in omega (arith, less);
      fresh = let log : length f.fresh.items ≡ pages = ap length new.fresh ∙ count_is in let less = pages_few in omega (arith, log, less);
      change = subst IsFewChange (sym new.change_is) tt;
    }

    pub is_fresh : IsFreshChange f.change
    is_fresh = subst IsFreshChange (sym new.change_is) refl

    pub left_is : 2 ≡ left_of f
    left_is = sym (ap (left_by f) new.change_is)

    -- so it may start where room was made
    module _ (who : ℕ) (b1 : Parts) (t : State) (free' : FreePages) (begins : MayBegin b who) (keeps : KeepsRoom b b1)
        (takes : TakesFirst b1.free free' fresh) (count_is : length fresh ≡ pages) (more : Room)
        (more_is : more ≡ owed_names (length plan.slots.items) pages)
        (room : HasRoomFor more b1) (units : b1.owed.units + more.units ≤ t.spare) where
      takes_here : TakesFirst b.free free' fresh
      takes_here = subst (λ (x : FreePages). TakesFirst x free' fresh) keeps.same.free takes

      fresh_apart : AreApart fresh
      fresh_apart = left-apart fresh free'.free (subst IsStrictlyIncreasing takes_here.split v.space.in_order.rising)

      all_more : more ≡ owed_to (Some f)
      all_more = more_is ∙ sym (owed_is count_is)

      pub may_start : MayStart d who f free' b1 t
      may_start = record {
        begins = record {
          some = begins.some;
          few = begins.few;
          idle = ap (λ fs. flight_at fs (who - 1)) keeps.same.flights ∙ begins.idle;
        };
        plans = own_flight who t count_is fresh_apart;
        unraised = new.unraised;
        takes = subst (TakesFirst b1.free free') (sym taken_is) takes;
        left = λ some. left_two (length free'.free) (let same = ap length taken_is in omega (arith, some, same, count_is))
            (let all = took-length b.free free' fresh takes_here in omega (arith, all, count_is));
        inside = λ ino has. let small = (may_hold ino has).small in let all = v.inodes.all in let same = keeps.same.inodes.all in
            omega (arith, small, all, same);
        loose = λ ino n has at. let was = inode_was IsSameInode b.inodes.items b1.inodes.items keeps.same.inodes ino n at in
            was.2.holder ∙ (may_hold ino has).loose was.0 was.1;
        few = ⊎_elim (λ many. absurd (can.roomy.has.releases many))
            (λ few. let rows : length f.rows.items ≡ 0 = ap length new.rows in
            let same : length b1.reclaiming.releases.items ≡ length b.reclaiming.releases.items = ap length keeps.same.work.releases in
            let none : length (lost_rows d op) ≡ 0 = ap length (loses_none d b op can.ino can.other can.roomy.aims) in
            omega (arith, few, rows, same, none))
            (cases_lt 1048576 (length b.reclaiming.releases.items + length (lost_rows d op)));
        room = subst (λ (r : Room). HasRoomFor r b1) all_more room;
        units = let same : more.units ≡ (owed_to (Some f)).units = ap (λ (r : Room). r.units) all_more in omega (arith, units, same);
        places = subst (λ (x : Change). HasPlacesFor f x b1) (sym new.change_is) tt;
      }

-- Room was made for it.
module _ {D F : Type 0} (state : D → State) (who : ℕ) (op : Op) (plan : NamesPlan) (pages : ℕ) (v v1 : Volume D F) (d : Disk)
    (volume : IsVolume d v.parts (state v.device)) (begins : MayBegin v.parts who) (can : CanOpen d v.parts op plan pages)
    (agree : Agree (state v.device).now (state v.device).past) (agree1 : Agree (state v1.device).now (state v1.device).past)
    (device : IsSame (state v.device) (state v1.device))
    (spare : ((state v1.device).spare ≡ (state v.device).spare) ⊎ (v.parts.owed.units ≤ (state v1.device).spare))
    (makes : MakesRoom v.parts v1.parts) where
  keeps : KeepsRoom v.parts v1.parts
  keeps = keeps_made_room v.parts v1.parts makes

  units : v.parts.owed.units ≤ (state v1.device).spare
  units = units_kept v.parts.owed.units (state v.device).spare (state v1.device).spare volume.room.units spare

  made : v1.parts.made ≡ v.parts.made
  made = ap (λ (p : Parts). p.made) makes.parts

  -- nothing was taken
  pub room_alone : (v' : Volume D F) → v' ≡ v1 → IsUntouched state v v' d
  room_alone v' same = subst (λ (x : Volume D F). IsUntouched state v x d) (sym same)
      (untouched_room state v d volume v1 agree device keeps units makes.history made)

  pub last : IsLast d v.parts op
  last = has_all_last d v.parts op can.roomy.has

  module _ (fresh : List ℕ) (free' : FreePages) (takes : TakesFirst v1.parts.free free' fresh) (count_is : length fresh ≡ pages) (f : Flight)
      (new : IsNewFlight op plan fresh f) (more : Room)
      (more_is : more ≡ owed_names (length plan.slots.items) pages)
      (room : HasRoomFor more v1.parts) (enough : v1.parts.owed.units + more.units ≤ (state v1.device).spare) where
    pub held_inside : All (λ i. i < length v1.parts.inodes.items) f.held.items
    held_inside = λ k x lt.
        (may_start d v.parts (state v.device) volume op plan pages can fresh f new who v1.parts (state v1.device) free' begins keeps
        takes count_is more more_is room enough).inside (get_or f.held.items k x) (listed f.held.items k x lt)
      where
        listed : (ys : List ℕ) (k x : ℕ) → k < length ys → Contains ys (get_or ys k x)
        listed ys k x lt = (k, lt, same ys k x lt)
          where
            same : (ys : List ℕ) (k x : ℕ) → k < length ys → get_or ys k (get_or ys k x) ≡ get_or ys k x
            same [] k x lt = absurd (omega (arith, lt))
            same (y ∷ ys) zero x lt = refl
            same (y ∷ ys) (suc k) x lt = same ys k x (omega (arith, lt))

    pub has_begun : (v' : Volume D F) → v'.device ≡ v1.device → Starts who f (record v1.parts { free = free' }) v'.parts
        → HasBegun state who op 2 v v' d
    has_begun v' same starts = begun state who op 2 f free' v v1 v' d volume agree agree1 device keeps units makes.history made same
        (may_start d v.parts (state v.device) volume op plan pages can fresh f new who v1.parts (state v1.device) free' begins keeps takes count_is
        more more_is room enough) starts can.roomy.has new.op_is (left_is d v.parts (state v.device) volume op plan pages can fresh f new)
        (is_fresh d v.parts (state v.device) volume op plan pages can fresh f new)
        (λ i j has free some less is. (may_hold d v.parts (state v.device) volume op plan pages can fresh f new i has).least j free some less is)
