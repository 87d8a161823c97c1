-- An operation on names in flight, whichever it is: it may change the disk so, other names lead where they lead, and
-- the files are those after it.
use Rattle.std.proofs.Common.{
  ◌≡◌,
  ◌≢◌,
  ⊎_elim,
  ℕ,
  ◌+◌,
  ◌<◌,
  ◌≤◌,
  List,
  [],
  ◌∷◌,
  ◌++◌,
  length,
  refl,
  sym,
  ◌∙◌,
  ap,
  subst,
  arith,
  Option,
  Some,
  None,
  length-append,
}
use Rattle.std.specs.Prelude.{◌/◌, ◌-◌, ◌*◌, ◌↔◌, Bool, true, false, nat_lt, if◌then◌else◌, Contains}
use Rattle.std.proofs.lemmas.List.{get_or_append_left}
use Rattle.std.proofs.lemmas.List.Elements.{Contains-append_left}
use Rattle.pm_device.specs.State.{State}
use Rattle.log_entry.specs.Spelling.{spelled}
use Rattle.log_entry.specs.declared.item.LogItem.{LogItem}
use Rattle.log_entry.specs.declared.item.LogItem.TheVariants.{Add, Forget}
use Rattle.file_content.specs.Pages.{AreApart}
use Rattle.name_journal.specs.declared.change.Change.{Change as Word}
use Rattle.pm_layout.specs.Geometry.{inode_word}
use Rattle.dn_model.specs.Log.{count, tail_at}
use Rattle.dn_model.specs.Disk.{Disk}
use Rattle.dn_model.specs.Files.{named, files, IsSameFiles}
use Rattle.dn_model.specs.Apply.{IsGranted, Grants, after_op}
use Rattle.dn_model.specs.declared.op.Op.{Op}
use Rattle.dn_model.specs.declared.op.Op.TheVariants.{Create, Write, Read, Cut, Remove, Rename, Size, List as ListAll}
use Rattle.dn_model.specs.declared.op.Reply.TheVariants.{Done}
use Rattle.law_write.specs.Events.{IsUnused}
use Rattle.law_names.specs.NameChange.{
  NameChange as DiskChange,
  Turn as DiskTurn,
  MayChange,
  MayGrowRoot,
  IsSpared,
  root_after,
  state_changes,
  name_changes,
  names_changed,
}
use Rattle.law_names.specs.Operations.{MayCreate, MayRemove, MayRename, renaming, with_name}
use Rattle.law_names.proofs.Links.{names_eq, with_name-here, with_name-other}
use Rattle.law_names.proofs.Operating.{may_create, may_remove, may_rename, named_created, named_removed, named_renamed}
use Rattle.law_names.proofs.OperatedFiles.{files_created, files_removed, files_renamed}
use Rattle.dn_volume.specs.declared.flight.Flight.{Flight}
use Rattle.dn_volume.specs.declared.flight.Change.TheVariants.{Names}
use Rattle.dn_volume.specs.declared.flight.NameChange.{NameChange}
use Rattle.dn_volume.specs.declared.volume.Parts.{Parts}
use Rattle.dn_volume.specs.Parties.{Flies, Takes, for_client, blocks_of, flight_at, taken_by}
use Rattle.dn_volume.specs.PlannedNames.{PlansCreate, PlansRemove, PlansRename, PlansNames, inode_list}
use Rattle.dn_volume.specs.Flights.{IsFlightOf, IsNameFlight, as_turn}
use Rattle.dn_volume.specs.Cleans.{IsLeft}
use Rattle.dn_volume.specs.Agrees.{IsVolume}
use Rattle.dn_volume.proofs.FlightsGranted.{flights_granted}
use Rattle.begin_steps.proofs.Cleanings.{left_unused}
use Rattle.count_events.proofs.Flown.{in_range}
use Rattle.law_write.proofs.Counting.{term-le}
use Rattle.dn_model.specs.History.{needed}
use Rattle.dn_volume.specs.declared.units.TheConstants.{SLOT_UNITS, TURN_UNITS, NAMES_UNITS}
use Rattle.dn_volume.specs.declared.volume.Room.{Room}
use Rattle.dn_volume.specs.Reserve.{slots_of, prepared_units, units_by, owed_to, owed_sum}
use Rattle.name_ops.specs.Landing.{names_after, flight_changes}
use Rattle.name_ops.specs.Finding.{op_slots}
use Rattle.name_ops.proofs.NameSlots.{has_slots}

apart_left : (xs ys : List ℕ) → AreApart (xs ++ ys) → AreApart xs
apart_left xs ys apart i j il jl same =
    apart i j (omega (arith, il, length-append xs ys)) (omega (arith, jl, length-append xs ys)) (get_or_append_left xs ys 0 i il ∙ same ∙ sym
    (get_or_append_left xs ys 0 j jl))

-- the items and pages of a renaming
renaming_more : (from to : List ℕ) (ino : ℕ) (replaced : Option ℕ) (fresh : List ℕ) → (renaming from to ino replaced fresh).more ≡ Forget from ∷ Add
    ino to ∷ []
renaming_more from to ino None fresh = refl
renaming_more from to ino (Some other) fresh = refl

renaming_fresh : (from to : List ℕ) (ino : ℕ) (replaced : Option ℕ) (fresh : List ℕ) → (renaming from to ino replaced fresh).fresh ≡ fresh
renaming_fresh from to ino None fresh = refl
renaming_fresh from to ino (Some other) fresh = refl

-- another name leads there as before, where neither the name's inode of before nor that of after is this one
so_with : (f : List ℕ → Option ℕ) (name : List ℕ) (found : Option ℕ) (other : List ℕ) (i : ℕ) → (found ≡ Some i → ⊥) → (f name ≡ Some i → ⊥)
    → (with_name f name found other ≡ Some i) ↔ (f other ≡ Some i)
so_with f name found other i after before = ⊎_elim (λ at. at_name at.1) (λ away. at_other away.1) (names_eq name other)
  where
    at_name : other ≡ name → (with_name f name found other ≡ Some i) ↔ (f other ≡ Some i)
    at_name same = (
      λ is. absurd (after (sym (with_name-here f name found) ∙ ap (with_name f name found) (sym same) ∙ is)),
      λ is. absurd (before (ap f (sym same) ∙ is)),
    )

    at_other : other ≢ name → (with_name f name found other ≡ Some i) ↔ (f other ≡ Some i)
    at_other away = (λ is. sym (with_name-other f name found other away) ∙ is, λ is. with_name-other f name found other away ∙ is)

none_some : (r : Option ℕ) (i : ℕ) → r ≡ None → r ≡ Some i → ⊥
none_some r i none some = cc

some_eq : (r : Option ℕ) (i j : ℕ) → r ≡ Some i → r ≡ Some j → i ≡ j
some_eq r i j one other = cc

-- it is as far as it tells
pub flight_of : (d : Disk) (b : Parts) (s : State) (who : ℕ) (f : Flight) (c : NameChange) → IsVolume d b s → Flies b who f → f.change ≡ Names c
    → IsNameFlight d who f c s
flight_of d b s who f c volume flies change_is = subst (IsFlightOf d who f s) change_is (volume.flights.each who f flies)

module _ (d : Disk) (b : Parts) (s : State) (who : ℕ) (f : Flight) (c : NameChange) (volume : IsVolume d b s) (flies : Flies b who f)
    (change_is : f.change ≡ Names c) (flight : IsNameFlight d who f c s) where
  abbrev pub change : DiskChange
  change = flight.change

  fresh_taken : (page : ℕ) → Contains f.fresh.items page → Contains (taken_by f) page
  fresh_taken page has = Contains-append_left (f.fresh.items ++ f.spare.items) (blocks_of f.change) page
      (Contains-append_left f.fresh.items f.spare.items page has)

  pub fresh_taken_by : (page : ℕ) → Contains f.fresh.items page → Takes b who page
  fresh_taken_by page has = for_client f flies (fresh_taken page has)

  pub unused_fresh : (page : ℕ) → Contains f.fresh.items page → IsUnused d page
  unused_fresh page has = let client = flies.client in volume.space.unused page (λ none. let his = volume.space.takes who page
      (fresh_taken_by page has) in omega (arith, client, his, none))

  spared : (page : ℕ) → IsLeft b page → IsSpared d f.fresh.items page
  spared page left =
      let is = left_unused d b s volume who f flies page left in
      record { free = is.0.free; not_fresh = λ fresh. is.1 (fresh_taken page fresh) }

  grows_root : (more : List LogItem) → change.more ≡ more → MayGrowRoot d f.fresh.items more
  grows_root more is = record {
    valid = volume.fast.valid;
    fresh_unused = unused_fresh;
    fresh_apart = apart_left f.fresh.items f.spare.items (apart_left (f.fresh.items ++ f.spare.items) (blocks_of f.change) flight.grows.apart);
    room = subst (λ (i : ℕ). length ((d.inode i).log.pages ++ f.fresh.items) ≡ (count (d.inode i).log + length (spelled more) + 62) / 63) flight.root
        (subst (λ (xs : List LogItem). length ((d.inode f.ino).log.pages ++ f.fresh.items) ≡ (count (d.inode f.ino).log + length (spelled xs) + 62)
        / 63) is
        (flight.grows.room ∙ ap (λ (xs : List (List ℕ)). (count (d.inode f.ino).log + length xs + 62) / 63) (sym flight.slots)));
    left = let two = volume.space.left in
        (two.one, two.other, two.apart, spared two.one two.one_left, spared two.other two.other_left);
  }

  created : (name : List ℕ) → PlansCreate d f name change → MayCreate d name change.ino f.fresh.items
  created name plan = record {
    root = grows_root (Add change.ino name ∷ []) (ap (λ (x : DiskChange). x.more) plan.is);
    legal = plan.legal;
    unnamed = plan.unnamed;
    file = let some = flight.file in let same = flight.node_is in omega (arith, some, same);
    in_table = let few = flight.node_in_table in let same = flight.node_is in omega (arith, few, same);
    free = plan.free;
  }

  removed : (name : List ℕ) → PlansRemove d f name change → MayRemove d name change.ino f.fresh.items
  removed name plan = record {
    root = grows_root (Forget name ∷ []) (ap (λ (x : DiskChange). x.more) plan.is);
    legal = plan.legal;
    leads = plan.leads;
  }

  renamed : (from to : List ℕ) (plan : PlansRename d f from to change) → MayRename d from to plan.ino plan.replaced f.fresh.items
  renamed from to plan = record {
    root = grows_root (Forget from ∷ Add plan.ino to ∷ []) (ap (λ (x : DiskChange). x.more) plan.is ∙ renaming_more from to plan.ino plan.replaced
        f.fresh.items);
    legal_from = plan.legal_from;
    legal_to = plan.legal_to;
    apart = plan.apart;
    leads = plan.leads;
    replaces = plan.replaces;
  }

  -- what holds of each kind
  module _ (P : Op → DiskChange → Type 0) (of_create : (name : List ℕ) → PlansCreate d f name change → P (Create name) change)
      (of_remove : (name : List ℕ) → PlansRemove d f name change → P (Remove name) change)
      (of_rename : (from to : List ℕ) → PlansRename d f from to change → P (Rename from to) change) where
    by_kind : (op : Op) → PlansNames d f change op → P op change
    by_kind (Create name) plan = of_create name plan
    by_kind (Write name at text) plan = absurd plan
    by_kind (Read name at count') plan = absurd plan
    by_kind (Cut name to) plan = absurd plan
    by_kind (Remove name) plan = of_remove name plan
    by_kind (Rename from to) plan = of_rename from to plan
    by_kind (Size name) plan = absurd plan
    by_kind ListAll plan = absurd plan

    pub of_kind : P f.op change
    of_kind = by_kind f.op flight.plans

  pub may : MayChange d change
  may = of_kind (λ op x. MayChange d x)
      (λ name plan. subst (MayChange d) (sym plan.is) (may_create d name change.ino f.fresh.items (created name plan)))
      (λ name plan. subst (MayChange d) (sym plan.is) (may_remove d name change.ino f.fresh.items (removed name plan)))
      (λ from to plan. subst (MayChange d) (sym plan.is) (may_rename d from to plan.ino plan.replaced f.fresh.items (renamed from to plan)))

  pub fresh_is : change.fresh ≡ f.fresh.items
  fresh_is = of_kind (λ op x. x.fresh ≡ f.fresh.items)
      (λ name plan. ap (λ (x : DiskChange). x.fresh) plan.is)
      (λ name plan. ap (λ (x : DiskChange). x.fresh) plan.is)
      (λ from to plan. ap (λ (x : DiskChange). x.fresh) plan.is ∙ renaming_fresh from to plan.ino plan.replaced f.fresh.items)

  pub named_then : (other : List ℕ) → named (names_changed d change) other ≡ names_after f.op (named d) change.ino other
  named_then other = of_kind (λ op x. named (names_changed d x) other ≡ names_after op (named d) x.ino other)
      (λ name plan. subst (λ (x : DiskChange). named (names_changed d x) other ≡ names_after (Create name) (named d) change.ino other) (sym plan.is)
      (named_created d name change.ino f.fresh.items (created name plan) other))
      (λ name plan. subst (λ (x : DiskChange). named (names_changed d x) other ≡ names_after (Remove name) (named d) change.ino other) (sym plan.is)
      (named_removed d name change.ino f.fresh.items (removed name plan) other))
      (λ from to plan. subst (λ (x : DiskChange). named (names_changed d x) other ≡ with_name (with_name (named d) from None) to (named d from) other)
      (sym plan.is)
      (named_renamed d from to plan.ino plan.replaced f.fresh.items other ∙ ap (λ r. with_name (with_name (named d) from None) to r other)
      (sym plan.leads)))

  pub files_then : IsSameFiles (files (names_changed d change)) (after_op (files d) f.op)
  files_then = of_kind (λ op x. IsSameFiles (files (names_changed d x)) (after_op (files d) op))
      (λ name plan. subst (λ (x : DiskChange). IsSameFiles (files (names_changed d x)) (after_op (files d) (Create name))) (sym plan.is)
      (files_created d name change.ino f.fresh.items (created name plan)))
      (λ name plan. subst (λ (x : DiskChange). IsSameFiles (files (names_changed d x)) (after_op (files d) (Remove name))) (sym plan.is)
      (files_removed d name change.ino f.fresh.items (removed name plan)))
      (λ from to plan. subst (λ (x : DiskChange). IsSameFiles (files (names_changed d x)) (after_op (files d) (Rename from to))) (sym plan.is)
      (files_renamed d from to plan.ino plan.replaced f.fresh.items (renamed from to plan)))

  pub grants_done : Grants (files d) f.op Done
  grants_done = of_kind (λ op x. Grants (files d) op Done) (λ name plan. refl) (λ name plan. refl) (λ from to plan. refl)

  pub granted : IsGranted (files d) f.op
  granted = (flights_granted d who f s (volume.flights.each who f flies)).0

  pub holds_root : Contains f.held.items 0
  holds_root = subst (Contains f.held.items) flight.root flight.grows.holds

  pub holds_ino : Contains f.held.items change.ino
  holds_ino = subst (Contains f.held.items) (sym flight.node_is) flight.holds_node

  -- a name that leads to an inode that isn't held leads there afterwards, and no other does
  pub named_so : (i : ℕ) (other : List ℕ) → (Contains f.held.items i → ⊥) → (named (names_changed d change) other ≡ Some i) ↔ (named d other ≡ Some i)
  named_so i other out = (λ is. so.0 (sym (named_then other) ∙ is), λ is. named_then other ∙ so.1 is)
    where
      not_ino : (j : ℕ) → Contains f.held.items j → j ≡ i → ⊥
      not_ino j has same = out (subst (Contains f.held.items) same has)

      here_one : change.ino ≡ i → ⊥
      here_one = not_ino change.ino holds_ino

      replaced_held : (x : ℕ) (r : Option ℕ) (j : ℕ) → r ≡ Some j → Contains (0 ∷ x ∷ inode_list r) j
      replaced_held x None j is = absurd (none_some None j refl is)
      replaced_held x (Some k) j is = (2, omega arith, some_eq (Some k) k j refl is)

      so : (names_after f.op (named d) change.ino other ≡ Some i) ↔ (named d other ≡ Some i)
      so = of_kind (λ op x. (names_after op (named d) x.ino other ≡ Some i) ↔ (named d other ≡ Some i))
          (λ name plan. so_with (named d) name (Some change.ino) other i (λ is. here_one (some_eq (Some change.ino) change.ino i refl is))
          (λ is. none_some (named d name) i plan.unnamed is))
          (λ name plan. so_with (named d) name None other i (λ is. none_some None i refl is)
          (λ is. here_one (some_eq (named d name) change.ino i plan.leads is)))
          (λ from to plan.
          let moved : named d from ≡ Some i → ⊥ = λ is. not_ino plan.ino (subst (λ (xs : List ℕ). Contains xs plan.ino) (sym plan.held)
          (1, omega arith, refl)) (some_eq (named d from) plan.ino i plan.leads is) in
          let gone : named d to ≡ Some i → ⊥ = λ is. out (subst (λ (xs : List ℕ). Contains xs i) (sym plan.held)
          (replaced_held plan.ino plan.replaced i (sym plan.replaces ∙ is))) in
          let first = so_with (named d) from None other i (λ is. none_some None i refl is) moved in
          let at_to = so_with (named d) from None to i (λ is. none_some None i refl is) moved in
          let second = so_with (with_name (named d) from None) to (named d from) other i moved (λ is. gone (at_to.0 is)) in
          (λ is. first.0 (second.0 is), λ is. second.1 (first.1 is)))

  -- the words of the commit are those that the flight keeps
  pub changes_are : c.prepared ≡ true → name_changes d change ≡ flight_changes c
  changes_are set = both c.tail (tail_at (root_after d change).pages (count (root_after d change))) (flight.tail set)
      (state_changes change.turn change.ino) (state_changes (as_turn c.turn) c.node)
      (ap (λ (x : DiskTurn). state_changes x change.ino) flight.turn_is ∙ ap (state_changes (as_turn c.turn)) flight.node_is)
    where
      both : (x y : ℕ) → x ≡ y → (xs ys : List Word) → xs ≡ ys → record { at = inode_word 0 2; value = y } ∷ xs ≡ record {
        at =
            inode_word 0 2;
        value = x;
      } ∷ ys
      both x y one xs ys other = ap (λ (n : ℕ). record { at = inode_word 0 2; value = n } ∷ xs) (sym one)
          ∙ ap (λ (zs : List Word). record { at = inode_word 0 2; value = x } ∷ zs) other

  -- the client's place
  pub who_few : who ≤ 14
  who_few = let lt = in_range b who f flies in let all = volume.flights.clients in omega (arith, lt, all)

  -- what it is owed is part of what is owed to all
  pub owed_part : (kind : Room → ℕ) → kind (owed_to (Some f)) ≤ owed_sum b kind
  owed_part kind =
      let client = flies.client in
      let few = who_few in
      let at = term-le (λ k. kind (owed_to (flight_at b.flights.items k))) 14 (who - 1) (omega (arith, client, few)) in
      let here : kind (owed_to (flight_at b.flights.items (who - 1))) ≡ kind (owed_to (Some f)) = ap (λ r. kind (owed_to r)) flies.is in
      omega (arith, at, here)

  pub units_are : (owed_to (Some f)).units ≡ prepared_units c.prepared (slots_of f) + NAMES_UNITS
  units_are = ap (units_by f) change_is

  pub units_owed : prepared_units c.prepared (slots_of f) + NAMES_UNITS ≤ b.owed.units
  units_owed =
      let part = owed_part (λ r. r.units) in
      let is = units_are in
      let all = volume.room.owes.units in
      omega (arith, part, is, all)

  -- its slots and pages are few
  pub few_units : SLOT_UNITS * slots_of f + TURN_UNITS < 1024
  few_units =
      let has = has_slots d f change f.op flight.plans in
      let slots : length f.slots.items ≡ op_slots f.op = sym (ap length flight.slots) ∙ has.slots in
      let few = has.few in
      let taken = flight.grows.takes in
      let needs : needed d f.op ≤ 1 = subst (λ n. n ≤ 1) (sym has.needs) (one_or_none (nat_lt (63 * length (d.inode 0).log.pages - count
      (d.inode 0).log) (op_slots f.op))) in
      let long = length-append f.fresh.items f.spare.items in
      let longer = length-append (f.fresh.items ++ f.spare.items) (blocks_of f.change) in
      omega (arith, slots, few, taken, needs, long, longer)
    where
      one_or_none : (x : Bool) → (if x then 1 else 0) ≤ 1
      one_or_none true = omega arith
      one_or_none false = omega arith
