-- An operation on names in flight stays as far as it is through an event of another actor.
use Rattle.std.proofs.Common.{◌≡◌, ◌≢◌, inl, inr, ℕ, ◌+◌, ◌-◌, ◌*◌, ◌/◌, ◌<◌, List, ◌++◌, length, refl, sym, ◌∙◌, ap, subst, arith}
use Rattle.std.specs.Prelude.{if◌then◌else◌, slice_index, Option, Some, None, Contains}
use Rattle.std.proofs.lemmas.List.Elements.{Contains-get_or, Contains-append_left, Contains-append_cases}
use Rattle.pm_device.specs.State.{State}
use Rattle.pm_device.specs.Reading.{IsReady}
use Rattle.pm_device.specs.Pages.{IsInPage, SaysRun}
use Rattle.pm_device.proofs.Layers.{ready-weaken}
use Rattle.pm_layout.specs.Geometry.{inode_word}
use Rattle.dn_model.specs.Log.{Log, count, tail_at}
use Rattle.dn_model.specs.Growth.{IsGrown, Prepared, new_head, new_footer, new_slot}
use Rattle.dn_model.proofs.Append.{count-grown}
use Rattle.dn_model.specs.Disk.{Disk, Inode, Live, IsUsed}
use Rattle.dn_model.specs.Files.{named, named_after}
use Rattle.dn_model.specs.History.{needed, extra, name_slots}
use Rattle.dn_model.specs.Valid.{IsValid}
use Rattle.dn_model.specs.declared.op.Op.{Op}
use Rattle.dn_model.specs.declared.op.Op.TheVariants.{Create, Write, Read, Cut, Remove, Rename, Size, List as ListAll}
use Rattle.law_write.specs.Events.{IsUnused}
use Rattle.law_names.specs.NameChange.{
  NameChange as DiskChange,
  Turn,
  Stays,
  Comes,
  Goes,
  FreshNames,
  in_root,
  in_inode,
  turn_words,
  turn_field,
  root_after,
}
use Rattle.dn_volume.specs.declared.flight.Flight.{Flight}
use Rattle.dn_volume.specs.declared.flight.NameChange.{NameChange}
use Rattle.dn_volume.specs.Parties.{taken_by, blocks_of}
use Rattle.log_entry.specs.Name.{same_name}
use Rattle.log_entry.specs.Spelling.{spelled}
use Rattle.law_names.specs.Operations.{renaming}
use Rattle.dn_volume.specs.PlannedNames.{PlansNames}
use Rattle.dn_volume.specs.Flights.{IsNameFlight}
use Rattle.dn_volume.specs.Rely.{KeepsRest, LeavesRest, IsWordOf}
use Rattle.dn_volume.proofs.Owned.{page_out, log_out, inode_out}
use Rattle.dn_volume.proofs.DataStays.{grows_same}

-- where the root stays, so do all names, and what an operation on them needs
module _ (inodes pages : List ℕ) (d e : Disk) (valid : IsValid d) (rest : KeepsRest inodes pages d e) (root_out : Contains inodes 0 → ⊥) where
  root_log : (e.inode 0).log ≡ (d.inode 0).log
  root_log = ap (λ (n : Inode). n.log) (rest.inode 0 root_out)

  pub names_same : (name : List ℕ) → named e name ≡ named d name
  unfolding named
  names_same name = ap (λ (log : Log). named_after name None log.items) root_log

  module _ (f : Flight) (change : DiskChange) (node_out : Contains inodes change.ino → ⊥) where
    pub plans_names : (op : Op) → PlansNames d f change op → PlansNames e f change op
    plans_names (Create name) plans = record {
      legal = plans.legal;
      unnamed = names_same name ∙ plans.unnamed;
      free = ap (λ (n : Inode). n.use_of) (rest.inode change.ino node_out) ∙ plans.free;
      held = plans.held;
      is = plans.is;
    }
    plans_names (Write name at text) plans = absurd plans
    plans_names (Read name at count) plans = absurd plans
    plans_names (Cut name to) plans = absurd plans
    plans_names (Remove name) plans = record { legal = plans.legal; held = plans.held; leads = names_same name ∙ plans.leads; is = plans.is }
    plans_names (Rename from to) plans = record {
      legal_from = plans.legal_from;
      legal_to = plans.legal_to;
      apart = plans.apart;
      ino = plans.ino;
      leads = names_same from ∙ plans.leads;
      replaced = plans.replaced;
      replaces = names_same to ∙ plans.replaces;
      held = plans.held;
      is = plans.is;
    }
    plans_names (Size name) plans = absurd plans
    plans_names ListAll plans = absurd plans

    pub names_need : (op : Op) → PlansNames d f change op → needed e op ≡ needed d op
    names_need (Create name) plans = ap (extra (name_slots name)) root_log
    names_need (Write name at text) plans = absurd plans
    names_need (Read name at count) plans = absurd plans
    names_need (Cut name to) plans = absurd plans
    names_need (Remove name) plans = ap (extra (name_slots name)) root_log
    names_need (Rename from to) plans = ap (λ (log : Log). if same_name from to then 0 else extra (name_slots from + name_slots to) log) root_log
    names_need (Size name) plans = absurd plans
    names_need ListAll plans = absurd plans

    -- what has to stand before the commit is the same
    root_after_same : root_after e change ≡ root_after d change
    root_after_same = ap (λ (log : Log). record { pages = log.pages ++ change.fresh; items = log.items ++ change.more }) root_log

    pub fresh_same : (a v : ℕ) → FreshNames e change a v → FreshNames d change a v
    fresh_same a v (in_root said) = in_root
        (subst (λ (log : Log). Prepared 0 log (record { pages = log.pages ++ change.fresh; items = log.items ++ change.more }) a v) root_log said)
    fresh_same a v (in_inode said) =
        in_inode (subst (λ (n : Inode). SaysRun (inode_word change.ino (turn_field change.turn)) (turn_words change.turn n.log) a v)
        (rest.inode change.ino node_out) said)

module _ (who q : ℕ) (inodes pages : List ℕ) (d e : Disk) (s t : State) (f : Flight) (other : q ≢ who) (valid : IsValid d)
    (long : length s.now ≡ 512 * d.geometry.pages) (leaves : LeavesRest who inodes pages d e s t)
    (unused_pages : (page : ℕ) → Contains pages page → IsUnused d page)
    (out : (i : ℕ) → Contains f.held.items i → Contains inodes i → ⊥) (out_pages : (page : ℕ) → Contains (taken_by f) page → Contains pages page → ⊥)
    (unused : (page : ℕ) → Contains (taken_by f) page → IsUnused d page) where
  -- a word of a page of the grown log is none that is stored to
  module _ (change : DiskChange) (live : (d.inode 0).use_of ≡ Live) (root_in : 0 < d.geometry.inodes) (root_held : Contains f.held.items 0)
      (room : length ((d.inode 0).log.pages ++ change.fresh) ≡ (count (root_after d change) + 62) / 63)
      (node_in : change.ino < d.geometry.inodes) (node_held : Contains f.held.items change.ino) (among : (page : ℕ) → Contains change.fresh page
      → Contains (taken_by f) page) where
    used : IsUsed (d.inode 0).use_of
    used = subst IsUsed (sym live) tt

    page_apart : (k a : ℕ) → k < length ((d.inode 0).log.pages ++ change.fresh) → IsInPage (slice_index ((d.inode 0).log.pages ++ change.fresh) k) a
        → IsWordOf inodes pages d a → ⊥
    page_apart k a lt here w =
        let page = slice_index ((d.inode 0).log.pages ++ change.fresh) k in
        elim (Contains-append_cases (d.inode 0).log.pages change.fresh page (Contains-get_or ((d.inode 0).log.pages ++ change.fresh) k 0 lt)) [
          | inl old ↦ log_out inodes pages d valid 0 page a root_in used old (out 0 root_held) unused_pages here w
          | inr new ↦ page_out inodes pages d valid page a (unused page (among page new)) (out_pages page (among page new)) here w
        ]

    prepared_apart : (a v : ℕ) → Prepared 0 (d.inode 0).log (root_after d change) a v → IsWordOf inodes pages d a → ⊥
    prepared_apart a v (new_head none some is value) w = inode_out inodes pages d valid 0 1 a root_in (omega arith) is (out 0 root_held) unused_pages
        w
    prepared_apart a v (new_footer k past lt is value) w = page_apart k a (omega (arith, lt)) (omega (arith, is), omega (arith, is)) w
    prepared_apart a v (new_slot k j past lt small is value) w = page_apart (k / 63) a (fits k lt) (omega (arith, is), omega (arith, is, small)) w
      where
        fits : (k : ℕ) → k < count (root_after d change) → k / 63 < length ((d.inode 0).log.pages ++ change.fresh)
        fits k lt = omega (arith, lt, room)

    turn_apart : (turn : Turn) (log : Log) (a v : ℕ) → SaysRun (inode_word change.ino (turn_field turn)) (turn_words turn log) a v
        → IsWordOf inodes pages d a → ⊥
    turn_apart Stays log a v said w = omega (arith, said.0.0, said.0.1)
    turn_apart Comes log a v said w =
        inode_out inodes pages d valid change.ino (a - inode_word change.ino 0) a node_in (omega (arith, said.0.0, said.0.1))
        (omega (arith, said.0.0)) (out change.ino node_held) unused_pages w
    turn_apart Goes log a v said w =
        inode_out inodes pages d valid change.ino (a - inode_word change.ino 0) a node_in (omega (arith, said.0.0, said.0.1))
        (omega (arith, said.0.0)) (out change.ino node_held) unused_pages w

    fresh_apart : (a v : ℕ) → FreshNames d change a v → IsWordOf inodes pages d a → ⊥
    fresh_apart a v (in_root said) w = prepared_apart a v said w
    fresh_apart a v (in_inode said) w = turn_apart change.turn (d.inode change.ino).log a v said w

    pub ready_same : IsReady q (FreshNames d change) s → IsReady q (FreshNames e change) t
    ready_same ready =
        ready-weaken q t (FreshNames d change) (FreshNames e change) (fresh_same inodes pages d e valid leaves.rest (out 0 root_held) f change
        (out change.ino node_held))
        (record {
          within = λ a v new. omega (arith, ready.within a v new, leaves.only.words);
          reads = λ a v new. leaves.only.read a (fresh_apart a v new) ∙ ready.reads a v new;
          flushed = λ a v new. leaves.others q a other (fresh_apart a v new) (ready.within a v new) (ready.flushed a v new);
        })

  -- its change has the pages that it took for the root
  fresh_is : (change : DiskChange) (op : Op) → PlansNames d f change op → change.fresh ≡ f.fresh.items
  fresh_is change (Create name) plans = ap (λ (c : DiskChange). c.fresh) plans.is
  fresh_is change (Write name at text) plans = absurd plans
  fresh_is change (Read name at count) plans = absurd plans
  fresh_is change (Cut name to) plans = absurd plans
  fresh_is change (Remove name) plans = ap (λ (c : DiskChange). c.fresh) plans.is
  fresh_is change (Rename from to) plans = ap (λ (c : DiskChange). c.fresh) plans.is ∙ renamed from to plans.ino plans.replaced
    where
      renamed : (from to : List ℕ) (ino : ℕ) (replaced : Option ℕ) → (renaming from to ino replaced f.fresh.items).fresh ≡ f.fresh.items
      renamed from to ino None = refl
      renamed from to ino (Some r) = refl
  fresh_is change (Size name) plans = absurd plans
  fresh_is change ListAll plans = absurd plans

  pub names_stay : (c : NameChange) → IsNameFlight d q f c s → IsNameFlight e q f c t
  names_stay c is =
      let root_held : Contains f.held.items 0 = subst (Contains f.held.items) is.root is.grows.holds in
      let node_held : Contains f.held.items is.change.ino = subst (Contains f.held.items) (sym is.node_is) is.holds_node in
      let root_in : 0 < d.geometry.inodes = subst (λ (n : ℕ). n < d.geometry.inodes) is.root is.grows.in_table in
      let live : (d.inode 0).use_of ≡ Live = subst (λ (n : ℕ). (d.inode n).use_of ≡ Live) is.root is.grows.live in
      let fresh = fresh_is is.change f.op is.plans in
      let same = root_after_same inodes pages d e valid leaves.rest (out 0 root_held) f is.change (out is.change.ino node_held) in
      record {
        root = is.root;
        grows = grows_same who q inodes pages d e s t f other valid long leaves out out_pages unused (names_need inodes pages d e valid leaves.rest
            (out 0 root_held) f is.change (out is.change.ino node_held) f.op is.plans) is.grows;
        change = is.change;
        plans = plans_names inodes pages d e valid leaves.rest (out 0 root_held) f is.change (out is.change.ino node_held) f.op is.plans;
        node_is = is.node_is;
        turn_is = is.turn_is;
        file = is.file;
        node_in_table = subst (λ (n : ℕ). c.node < n) (sym (ap (λ g. g.inodes) leaves.rest.geometry)) is.node_in_table;
        holds_node = is.holds_node;
        slots = is.slots;
        no_rows = is.no_rows;
        put_is = is.put_is;
        ready = λ prepared. ready_same is.change live root_in root_held
            (room_of is.change fresh is.slots
            (subst (λ (n : ℕ). length ((d.inode n).log.pages ++ f.fresh.items) ≡ (count (d.inode n).log + length f.slots.items + 62) / 63) is.root
            is.grows.room))
            (subst (λ (n : ℕ). n < d.geometry.inodes) (sym is.node_is) is.node_in_table) node_held
            (λ page has. among page (subst (λ (xs : List ℕ). Contains xs page) fresh has)) (is.ready prepared);
        tail = λ prepared. is.tail prepared ∙ sym (ap (λ (log : Log). tail_at log.pages (count log)) same);
      }
    where
      among : (page : ℕ) → Contains f.fresh.items page → Contains (taken_by f) page
      among page has = Contains-append_left (f.fresh.items ++ f.spare.items) (blocks_of f.change) page
          (Contains-append_left f.fresh.items f.spare.items page has)

      room_of : (change : DiskChange) → change.fresh ≡ f.fresh.items → spelled change.more ≡ f.slots.items
          → length ((d.inode 0).log.pages ++ f.fresh.items) ≡ (count (d.inode 0).log + length f.slots.items + 62) / 63
          → length ((d.inode 0).log.pages ++ change.fresh) ≡ (count (root_after d change) + 62) / 63
      room_of change fresh slots room =
          let grown : IsGrown (d.inode 0).log (root_after d change) = record { fresh = change.fresh; more = change.more; pages = refl; items = refl }
          in
          let more = count-grown (d.inode 0).log (root_after d change) grown in
          let long = ap length slots in
          let pages_are : length ((d.inode 0).log.pages ++ change.fresh) ≡ length ((d.inode 0).log.pages ++ f.fresh.items) = ap
          (λ (xs : List ℕ). length ((d.inode 0).log.pages ++ xs)) fresh in
          omega (arith, room, more, long, pages_are)
