-- An operation on names has landed: the volume in memory agrees with the disk of after.
use Rattle.std.proofs.Common.{
  ◌≡◌,
  ◌≢◌,
  ◌⊎◌,
  inl,
  inr,
  ⊎_elim,
  ℕ,
  zero,
  suc,
  ◌+◌,
  ◌*◌,
  ◌<◌,
  ◌≤◌,
  Bool,
  List,
  [],
  ◌∷◌,
  ◌++◌,
  length,
  refl,
  sym,
  ◌∙◌,
  ap,
  subst,
  arith,
  Option,
  Some,
  None,
  length-append,
}
use Rattle.std.specs.Prelude.{Contains, All, is_some, slice_get, if◌then◌else◌}
use Rattle.std.specs.FinMap.{get}
use Rattle.std.specs.Option.{option_map}
use Rattle.std.proofs.lemmas.Bool.{cases_eq}
use Rattle.std.proofs.lemmas.Option.{slice_get_cases}
use Rattle.pm_device.specs.State.{State, Agree}
use Rattle.pm_device.specs.Reading.{IsReady}
use Rattle.pm_device.proofs.Only.{stores_only-weaken}
use Rattle.pm_layout.specs.declared.Geometry.{Geometry}
use Rattle.pm_layout.specs.Geometry.{slots, inode_word}
use Rattle.pm_device.specs.Words.{IsIn}
use Rattle.log_entry.specs.Name.{same_name}
use Rattle.log_entry.specs.Spelling.{pages_of}
use Rattle.log_entry.specs.declared.item.LogItem.{LogItem}
use Rattle.log_entry.specs.declared.item.LogItem.TheVariants.{Write as WriteItem, Size as SizeItem, Add, Forget}
use Rattle.file_content.specs.Content.{kept}
use Rattle.dn_model.specs.Maps.{size_of, size_after, Mapping}
use Rattle.dn_model.specs.Valid.{MayStand}
use Rattle.dn_model.specs.declared.op.Op.{Op}
use Rattle.dn_model.specs.declared.op.Op.TheVariants.{Create, Write, Read, Cut, Remove, Rename, Size, List as ListAll}
use Rattle.dn_model.specs.Table.{Row}
use Rattle.dn_model.specs.Disk.{Disk, Inode, Use, Dying, IsUsed, rows, maps}
use Rattle.dn_model.specs.Counts.{total}
use Rattle.dn_model.specs.Files.{named}
use Rattle.law_write.proofs.Counting.{total-same, total-change}
use Rattle.law_names.specs.NameChange.{
  NameChange as DiskChange,
  Turn as DiskTurn,
  Stays,
  Comes,
  Goes,
  MayTurn,
  MayChange,
  FreshNames,
  turned,
  root_after,
  state_changes,
  name_changes,
  names_changed,
}
use Rattle.law_names.proofs.Changed.{at_root, at_ino, at_other, same_geometry, same_rows, same_word, Where, where_is, is_root, is_here, elsewhere}
use Rattle.law_names.proofs.Kept.{maps_same, free_kept}
use Rattle.law_names.proofs.ChangedValid.{changed_valid}
use Rattle.law_names.proofs.Commits.{names_all_or_none, names_suffice}
use Rattle.law_names.proofs.AllWords.{all_or_none_stands}
use Rattle.name_journal.specs.Changes.{IsTouched, address}
use Rattle.dn_volume.specs.declared.flight.Flight.{Flight}
use Rattle.dn_volume.specs.declared.flight.NameChange.{NameChange}
use Rattle.dn_volume.specs.declared.flight.Turn.{Turn}
use Rattle.dn_volume.specs.declared.flight.Turn.TheVariants as kept_turn
use Rattle.dn_model.specs.declared.op.CountChange.{CountChange}
use Rattle.dn_volume.specs.declared.volume.InodeState.{InodeState}
use Rattle.dn_volume.specs.declared.volume.Parts.{Parts}
use Rattle.dn_volume.specs.Parties.{Flies, SameOthers, by_client}
use Rattle.dn_volume.specs.Inodes.{IsInodeOf, AreNamesOf, as_use}
use Rattle.dn_volume.specs.Flights.{IsFlight, IsNameFlight, as_turn}
use Rattle.dn_volume.specs.Reclaims.{mapped_places, dying_units, units_by_use, one_if, IsReclaiming}
use Rattle.dn_volume.specs.Agrees.{StandsFast, IsVolume}
use Rattle.dn_volume.specs.Rely.{KeepsRest, IsWordOf, of_journal, of_inode, LeavesRest, IsFor, StayInHand}
use Rattle.dn_volume.proofs.Stills.{still_settles}
use Rattle.dn_volume.proofs.Heads.{none_stale_kept}
use Rattle.dn_volume.proofs.OthersStay.{others_stay}
use Rattle.name_ops.specs.Landing.{
  CommitsAll,
  names_after,
  Turned,
  TurnsInode,
  places_in,
  places_kept,
  turn_units,
  LandsChange,
  IsToCommit,
  flight_changes,
}
use Rattle.name_ops.proofs.NameFlight.{
  may,
  fresh_is,
  fresh_taken_by,
  changes_are,
  named_then,
  named_so,
  holds_root,
  holds_ino,
}
use Rattle.name_ops.proofs.Landed.{same_others, not_who, who_few, space, table, has_row, counts, room, queue, holders}

-- items of names change no size
size-names : (g : Geometry) (n : ℕ) (xs ys : List LogItem) → All (MayStand g 0) ys → size_after n (xs ++ ys) ≡ size_after n xs
size-names g n [] [] stand = refl
size-names g n [] (WriteItem first count' block size flag mask ∷ ys) stand = absurd (stand 0 (SizeItem 0) (omega arith))
size-names g n [] (SizeItem size ∷ ys) stand = absurd (stand 0 (SizeItem 0) (omega arith))
size-names g n [] (Add ino name ∷ ys) stand = size-names g n [] ys (λ k x lt. stand (suc k) x (omega (arith, lt)))
size-names g n [] (Forget name ∷ ys) stand = size-names g n [] ys (λ k x lt. stand (suc k) x (omega (arith, lt)))
size-names g n (WriteItem first count' block size flag mask ∷ xs) ys stand = size-names g size xs ys stand
size-names g n (SizeItem size ∷ xs) ys stand = size-names g size xs ys stand
size-names g n (Add i other ∷ xs) ys stand = size-names g n xs ys stand
size-names g n (Forget other ∷ xs) ys stand = size-names g n xs ys stand

-- names that lead to the same inodes lead to the same afterwards
names_after_same : (op : Op) (f g : List ℕ → Option ℕ) → ((name : List ℕ) → f name ≡ g name) → (node : ℕ) (other : List ℕ)
    → names_after op f node other ≡ names_after op g node other
names_after_same (Create name) f g same node other = ap (λ r. if same_name name other then Some node else r) (same other)
names_after_same (Write name at text) f g same node other = same other
names_after_same (Read name at count') f g same node other = same other
names_after_same (Cut name to) f g same node other = same other
names_after_same (Remove name) f g same node other = ap (λ r. if same_name name other then None else r) (same other)
names_after_same (Rename from to) f g same node other =
    ap (λ r. if same_name to other then r else (if same_name from other then None else f other)) (same from)
    ∙ ap (λ r. if same_name to other then g from else (if same_name from other then None else r)) (same other)
names_after_same (Size name) f g same node other = same other
names_after_same ListAll f g same node other = same other

-- what is kept of an inode that turned
record IsTurned (x : Inode) (turn : DiskTurn) (n' : InodeState) : Type 0 where
  use_is : (turned turn x).use_of ≡ as_use n'.used
  size_is : IsUsed (turned turn x).use_of → size_of (turned turn x).log ≡ n'.size
  small : n'.size ≤ 16777216
  log_pages : IsUsed (turned turn x).use_of → length (turned turn x).log.pages ≡ n'.log_pages

turn_kept : (x : Inode) (n n' : InodeState) (k : Turn) (turn : DiskTurn) → turn ≡ as_turn k → MayTurn turn x.use_of → Turned k n n'
    → x.use_of ≡ as_use n.used → (IsUsed x.use_of → size_of x.log ≡ n.size) → n.size ≤ 16777216
    → (IsUsed x.use_of → length x.log.pages ≡ n.log_pages) → IsTurned x turn n'
unfolding size_of
turn_kept x n n' k turn is can turns use_is size small pages = subst (λ (z : DiskTurn). IsTurned x z n') (sym is)
    (by k (subst (λ (z : DiskTurn). MayTurn z x.use_of) is can) turns)
  where
    by : (z : Turn) → MayTurn (as_turn z) x.use_of → Turned z n n' → IsTurned x (as_turn z) n'
    by kept_turn.Stays can' so = record {
      use_is = use_is ∙ ap as_use (sym so.0);
      size_is = λ used. size used ∙ sym so.1;
      small = let same = so.1 in omega (arith, same, small);
      log_pages = λ used. pages used ∙ sym so.2;
    }
    by kept_turn.Comes can' so = record {
      use_is = ap as_use (sym so.0);
      size_is = λ used. sym so.1;
      small = let none = so.1 in omega (arith, none);
      log_pages = λ used. sym so.2;
    }
    by kept_turn.Goes can' so =
        let is_size : size_of x.log ≡ n.size = size (subst IsUsed (sym can') tt) in
        record {
          use_is = ap (λ (m : ℕ). Dying (pages_of m)) is_size ∙ ap as_use (sym so.0);
          size_is = λ used. is_size ∙ sym so.1;
          small = let same = so.1 in omega (arith, same, small);
          log_pages = λ used. pages (subst IsUsed (sym can') tt) ∙ sym so.2;
        }

units_turned : (x : Inode) (k : Turn) (turn : DiskTurn) → turn ≡ as_turn k → MayTurn turn x.use_of → (places : ℕ)
    → units_by_use (turned turn x).use_of places ≡ units_by_use x.use_of places + turn_units k places
units_turned x k turn is can places = subst (λ (z : DiskTurn). units_by_use (turned z x).use_of places ≡ units_by_use x.use_of places + turn_units k
    places) (sym is) (by k (subst (λ (z : DiskTurn). MayTurn z x.use_of) is can))
  where
    by : (z : Turn) → MayTurn (as_turn z) x.use_of → units_by_use (turned (as_turn z) x).use_of places ≡ units_by_use x.use_of places + turn_units z
        places
    by kept_turn.Stays can' = omega arith
    by kept_turn.Comes can' = let none : units_by_use x.use_of places ≡ 0 = ap (λ (u : Use). units_by_use u places) can' in omega (arith, none)
    by kept_turn.Goes can' = let none : units_by_use x.use_of places ≡ 0 = ap (λ (u : Use). units_by_use u places) can' in omega (arith, none)

-- the places that are kept of an inode are those that are mapped
places_same : (d : Disk) (ino : ℕ) (n : InodeState) → IsInodeOf d ino n → places_kept n ≡ mapped_places d ino
unfolding mapped_places places_in
places_same d ino n is = total-same _ _ 4096 (λ idx lt. ap (λ m. if is_some m then 1 else 0) (is.places idx) ∙ some_kept (maps d ino idx))
  where
    one : Bool → ℕ
    one told = if told then 1 else 0

    some_kept : (m : Option Mapping) → one (is_some (option_map kept m)) ≡ one (is_some m)
    some_kept None = refl
    some_kept (Some x) = refl

-- the word of an inode's state
state_word : (turn : DiskTurn) (ino i a : ℕ) → i < length (state_changes turn ino) → a ≡ address (state_changes turn ino) i
    → IsIn (inode_word ino 0) 16 a
state_word Stays ino i a lt is = absurd (omega (arith, lt))
state_word Comes ino zero a lt is = (omega (arith, is), omega (arith, is))
state_word Comes ino (suc i) a lt is = absurd (omega (arith, lt))
state_word Goes ino zero a lt is = (omega (arith, is), omega (arith, is))
state_word Goes ino (suc i) a lt is = absurd (omega (arith, lt))

module _ (d : Disk) (b b' : Parts) (s t : State) (who : ℕ) (f : Flight) (c : NameChange) (volume : IsVolume d b s)
    (agree : Agree s.now s.past) (to : IsToCommit b who f c) (flight : IsNameFlight d who f c s) where
  abbrev pub change : DiskChange
  change = flight.change

  pub can : MayChange d change
  can = may d b s who f c volume to.flies to.change_is flight

  pub fresh_same : change.fresh ≡ f.fresh.items
  fresh_same = fresh_is d b s who f c volume to.flies to.change_is flight

  pub ready : IsReady who (FreshNames d change) s
  ready = flight.ready to.prepared

  pub words : name_changes d change ≡ flight_changes c
  words = changes_are d b s who f c volume to.flies to.change_is flight to.prepared

  -- the words of the commit
  pub touched_words : (a : ℕ) → IsTouched (name_changes d change) a → IsWordOf f.held.items f.fresh.items d a
  touched_words a (inr page) = of_journal page
  touched_words a (inl named') = by_place named'.i named'.lt named'.is
    where
      by_place : (i : ℕ) → i < length (name_changes d change) → a ≡ address (name_changes d change) i → IsWordOf f.held.items f.fresh.items d a
      by_place zero lt is = of_inode 0 (holds_root d b s who f c volume to.flies to.change_is flight) (let few = can.in_table in
          omega (arith, few)) (omega (arith, is), omega (arith, is))
      by_place (suc i) lt is = of_inode change.ino (holds_ino d b s who f c volume to.flies to.change_is flight) can.in_table (state_word change.turn
          change.ino i a (omega (arith, lt)) is)

  module _ (commit : CommitsAll d.geometry.inodes who (name_changes d change) s t) (lands : LandsChange who f c b b') where
    abbrev e : Disk
    e = names_changed d change

    pub fast : StandsFast e b'.geometry t
    fast = record {
      geometry = same_geometry d change ∙ volume.fast.geometry ∙ sym lands.lands.lands.geometry;
      long = commit.done.size ∙ volume.fast.long ∙ ap (λ (g : Geometry). 512 * g.pages) (sym (same_geometry d change));
      valid = changed_valid d change can;
      stands = all_or_none_stands d e (name_changes d change) (names_all_or_none d change can) who s t agree volume.fast.long volume.fast.stands
          (names_suffice d change can who s ready) commit.done;
    }

    names : AreNamesOf e b'.names.map
    names = record {
      leads = λ other. lands.names other ∙ names_after_same f.op (get b.names.map) (named d) volume.names.leads c.node other
          ∙ ap (λ (i : ℕ). names_after f.op (named d) i other) (sym flight.node_is)
          ∙ sym (named_then d b s who f c volume to.flies to.change_is flight other);
    }

    -- Inodes.
    root_same : size_of (root_after d change) ≡ size_of (d.inode 0).log
    unfolding size_of
    root_same = size-names d.geometry 0 (d.inode 0).log.items change.more can.standing

    node_file : 1 ≤ change.ino
    node_file = can.file

    inode_turned : (ino : ℕ) (n' n : InodeState) → TurnsInode c (length f.fresh.items) ino n n' → IsInodeOf d ino n → IsInodeOf e ino n'
    inode_turned ino n' n turns was = record {
      use_is = by_use (where_is d change ino);
      size_is = by_size (where_is d change ino);
      small = by_small (cases_eq ino c.node);
      log_pages = by_log (where_is d change ino);
      places = λ idx. ap (λ m. get m.map idx) turns.map ∙ was.places idx ∙ ap (option_map kept) (sym (maps_same d change can ino idx));
    }
      where
        apart_root : ino ≡ 0 → ino ≢ c.node
        apart_root root same = let file = flight.file in omega (arith, root, same, file)

        apart_node : ino ≢ change.ino → ino ≢ c.node
        apart_node other same = other (same ∙ sym flight.node_is)

        same_node : ino ≡ change.ino → ino ≡ c.node
        same_node here' = here' ∙ flight.node_is

        turned_so : ino ≡ c.node → IsTurned (d.inode ino) change.turn n'
        turned_so here' = turn_kept (d.inode ino) n n' c.turn change.turn flight.turn_is
            (subst (λ (i : ℕ). MayTurn change.turn (d.inode i).use_of) (flight.node_is ∙ sym here') can.may_turn) (turns.here here')
            was.use_is was.size_is was.small was.log_pages

        root_long : length (e.inode 0).log.pages ≡ length (d.inode 0).log.pages + length f.fresh.items
        root_long = ap (λ (x : Inode). length x.log.pages) (at_root d change) ∙ length-append (d.inode 0).log.pages change.fresh
            ∙ ap (λ (xs : List ℕ). length (d.inode 0).log.pages + length xs) fresh_same

        by_log : Where d change ino → IsUsed (e.inode ino).use_of → length (e.inode ino).log.pages ≡ n'.log_pages
        by_log (is_root root) used =
            let used_root : IsUsed (d.inode ino).use_of = subst (λ (i : ℕ). IsUsed (d.inode i).use_of) (sym root)
            (subst IsUsed (sym volume.fast.valid.root) tt) in
            ap (λ (i : ℕ). length (e.inode i).log.pages) root ∙ root_long
            ∙ ap (λ (i : ℕ). length (d.inode i).log.pages + length f.fresh.items) (sym root)
            ∙ ap (λ (k : ℕ). k + length f.fresh.items) (was.log_pages used_root) ∙ sym (turns.root root)
        by_log (is_here here') used =
            let as_turned : e.inode ino ≡ turned change.turn (d.inode ino) =
            ap (λ (i : ℕ). e.inode i) here' ∙ at_ino d change node_file ∙ ap (λ (i : ℕ). turned change.turn (d.inode i)) (sym here') in
            ap (λ (x : Inode). length x.log.pages) as_turned ∙ (turned_so (same_node here')).log_pages (subst (λ (x : Inode). IsUsed x.use_of)
            as_turned used)
        by_log (elsewhere some other) used =
            ap (λ (x : Inode). length x.log.pages) (at_other d change ino some other) ∙ was.log_pages
            (subst (λ (x : Inode). IsUsed x.use_of) (at_other d change ino some other) used)
            ∙ sym (turns.log (λ none. omega (arith, some, none)) (apart_node other))

        by_use : Where d change ino → (e.inode ino).use_of ≡ as_use n'.used
        by_use (is_root root) =
            ap (λ (i : ℕ). (e.inode i).use_of) root ∙ ap (λ (x : Inode). x.use_of) (at_root d change) ∙ sym (ap (λ (i : ℕ). (d.inode i).use_of) root)
            ∙ was.use_is ∙ ap as_use (sym (turns.elsewhere (apart_root root)).0)
        by_use (is_here here') = ap (λ (i : ℕ). (e.inode i).use_of) here' ∙ ap (λ (x : Inode). x.use_of) (at_ino d change node_file)
            ∙ ap (λ (i : ℕ). (turned change.turn (d.inode i)).use_of) (sym here') ∙ (turned_so (same_node here')).use_is
        by_use (elsewhere some other) = ap (λ (x : Inode). x.use_of) (at_other d change ino some other) ∙ was.use_is ∙ ap as_use
            (sym (turns.elsewhere (apart_node other)).0)

        by_size : Where d change ino → IsUsed (e.inode ino).use_of → size_of (e.inode ino).log ≡ n'.size
        by_size (is_root root) used =
            let used_root : IsUsed (d.inode ino).use_of = subst (λ (i : ℕ). IsUsed (d.inode i).use_of) (sym root)
            (subst IsUsed (sym volume.fast.valid.root) tt) in
            ap (λ (i : ℕ). size_of (e.inode i).log) root ∙ ap (λ (x : Inode). size_of x.log) (at_root d change) ∙ root_same
            ∙ sym (ap (λ (i : ℕ). size_of (d.inode i).log) root) ∙ was.size_is used_root ∙ sym (turns.elsewhere (apart_root root)).1
        by_size (is_here here') used =
            let as_turned : e.inode ino ≡ turned change.turn (d.inode ino) =
            ap (λ (i : ℕ). e.inode i) here' ∙ at_ino d change node_file ∙ ap (λ (i : ℕ). turned change.turn (d.inode i)) (sym here') in
            ap (λ (x : Inode). size_of x.log) as_turned ∙ (turned_so (same_node here')).size_is (subst (λ (x : Inode). IsUsed x.use_of) as_turned
            used)
        by_size (elsewhere some other) used =
            ap (λ (x : Inode). size_of x.log) (at_other d change ino some other) ∙ was.size_is
            (subst (λ (x : Inode). IsUsed x.use_of) (at_other d change ino some other) used) ∙ sym (turns.elsewhere (apart_node other)).1

        by_small : ((ino ≡ c.node) ⊎ (ino ≡ c.node → ⊥)) → n'.size ≤ 16777216
        by_small (inl here') = (turned_so here').small
        by_small (inr other) = let same = (turns.elsewhere other).1 in let few = was.small in omega (arith, same, few)

    inode_is : (ino : ℕ) (n' : InodeState) → slice_get b'.inodes.items ino ≡ Some n' → IsInodeOf e ino n'
    inode_is ino n' at = let from = lands.each ino n' at in inode_turned ino n' from.0 from.2 (volume.inodes.each ino from.0 from.1)

    -- What is left to others.
    abbrev inodes : List ℕ
    inodes = f.held.items

    in_root : Contains inodes 0
    in_root = holds_root d b s who f c volume to.flies to.change_is flight

    in_node : Contains inodes change.ino
    in_node = holds_ino d b s who f c volume to.flies to.change_is flight

    rest : KeepsRest inodes f.fresh.items d e
    unfolding names_changed rows
    rest = record {
      geometry = same_geometry d change;
      inode = λ i out. by_place i out (where_is d change i);
      named_so = λ i other some out. named_so d b s who f c volume to.flies to.change_is flight i other out;
      word = λ page k read. same_word d change page k;
      unused = λ page out unused. record {
        free = free_kept d change can page unused.free (λ has. out (subst (λ (xs : List ℕ). Contains xs page) fresh_same has));
        no_row = unused.no_row;
      };
      slots = λ i idx m in_table out is. refl;
      counting = λ row has some. record { still = row; there = has; slot = refl; page = refl; print = refl };
    }
      where
        by_place : (i : ℕ) → (Contains inodes i → ⊥) → Where d change i → e.inode i ≡ d.inode i
        by_place i out (is_root root) = absurd (out (subst (Contains inodes) (sym root) in_root))
        by_place i out (is_here here') = absurd (out (subst (Contains inodes) (sym here') in_node))
        by_place i out (elsewhere some other) = at_other d change i some other

    leaves : LeavesRest who inodes f.fresh.items d e s t
    leaves = record {
      rest = rest;
      only = stores_only-weaken (IsTouched (name_changes d change)) (IsWordOf inodes f.fresh.items d) s t touched_words commit.only;
      others = λ q a other out lt flushed. commit.others.flushed q a other (λ touched. out (touched_words a touched)) lt flushed;
    }

    for_it : IsFor d b who inodes f.fresh.items
    for_it = record {
      inode = λ i has. inl (by_client f to.flies has);
      page = λ page has. inl (fresh_taken_by d b s who f c volume to.flies to.change_is flight page has);
    }

    same : SameOthers who b b'
    same = same_others d b b' s t who f c change volume can to.flies to.change_is fresh_same lands.lands

    stay : ((q : ℕ) (g : Flight) → q ≢ who → Flies b' q g → IsFlight e q g t) × StayInHand who e b' t
    stay = others_stay who inodes f.fresh.items d e b b' s t volume (subst (λ (g : Geometry). StandsFast e g t) lands.lands.lands.geometry fast)
        for_it
        leaves same
        (λ other. lands.raised)

    -- Reclaim has what it had, and the inode that goes.
    mapped_same : (ino : ℕ) → mapped_places e ino ≡ mapped_places d ino
    unfolding mapped_places
    mapped_same ino = total-same _ _ 4096 (λ idx lt. ap (λ m. if is_some m then 1 else 0) (maps_same d change can ino idx))

    node_there : (n : InodeState) × (slice_get b.inodes.items c.node ≡ Some n)
    node_there = ⊎_elim (λ found. (found.0, found.2))
        (λ past. let few = flight.node_in_table in let all = volume.inodes.all in let long = past.0 in absurd (omega (arith, few, all, long)))
        (slice_get_cases b.inodes.items c.node).1

    units_moved : total d.geometry.inodes (dying_units e) ≡ total d.geometry.inodes (dying_units d) + turn_units c.turn (places_kept node_there.0)
    units_moved =
        let moved = total-change (dying_units d) (dying_units e) d.geometry.inodes change.ino can.in_table (λ ino other. units_same ino other) in
        let here' = units_here in
        omega (arith, moved, here')
      where
        kept_is : places_kept node_there.0 ≡ mapped_places d change.ino
        kept_is = places_same d change.ino node_there.0 (subst (λ (i : ℕ). IsInodeOf d i node_there.0) (sym flight.node_is)
            (volume.inodes.each c.node node_there.0 node_there.1))

        units_here : dying_units e change.ino ≡ dying_units d change.ino + turn_units c.turn (places_kept node_there.0)
        units_here =
            ap (λ (x : Inode). units_by_use x.use_of (mapped_places e change.ino)) (at_ino d change node_file)
            ∙ ap (units_by_use (turned change.turn (d.inode change.ino)).use_of) (mapped_same change.ino)
            ∙ units_turned (d.inode change.ino) c.turn change.turn flight.turn_is can.may_turn (mapped_places d change.ino)
            ∙ ap (λ (n : ℕ). dying_units d change.ino + turn_units c.turn n) (sym kept_is)

        units_same : (ino : ℕ) → ino ≢ change.ino → dying_units e ino ≡ dying_units d ino
        units_same ino other = by_place (where_is d change ino)
          where
            by_place : Where d change ino → dying_units e ino ≡ dying_units d ino
            by_place (is_root root) =
                ap (λ (u : Use). units_by_use u (mapped_places e ino)) (ap (λ (i : ℕ). (e.inode i).use_of) root ∙ ap (λ (x : Inode). x.use_of)
                (at_root d change) ∙ volume.fast.valid.root)
                ∙ sym (ap (λ (u : Use). units_by_use u (mapped_places d ino)) (ap (λ (i : ℕ). (d.inode i).use_of) root ∙ volume.fast.valid.root))
            by_place (is_here here') = absurd (other here')
            by_place (elsewhere some apart) =
                ap (λ (x : Inode). units_by_use x.use_of (mapped_places e ino)) (at_other d change ino some apart) ∙ ap
                (units_by_use (d.inode ino).use_of) (mapped_same ino)

    reclaims : IsReclaiming e b'
    reclaims = record {
      waiting =
          let all : total e.geometry.inodes (dying_units e) ≡ total d.geometry.inodes (dying_units e) =
          ap (λ (g : Geometry). total g.inodes (dying_units e)) (same_geometry d change) in
          let raised_as : one_if b'.reclaiming.raised ≡ one_if b.reclaiming.raised = ap (λ r. one_if r) lands.raised in
          let zero_as : one_if b'.reclaiming.zero_check ≡ one_if b.reclaiming.zero_check = ap (λ r. one_if r) lands.zero_check in
          let releases_as : length b'.reclaiming.releases.items ≡ length b.reclaiming.releases.items = ap (λ r. length r.items) lands.releases in
          let moved = units_moved in
          let more = lands.waiting node_there.0 node_there.1 in
          let was = volume.reclaiming.waiting in
          omega (arith, all, raised_as, zero_as, releases_as, moved, more, was);
      zero_check = λ slot is. has_row d b b' s t who f c change volume can to.flies to.change_is fresh_same lands.lands slot
          (volume.reclaiming.zero_check slot (sym lands.zero_check ∙ is));
      raised = λ p is. stay.1.raised (λ same'. let few = who_few d b b' s t who f c change volume can to.flies to.change_is fresh_same lands.lands in
          omega (arith, few, same')) p is;
    }

    pointers_same : (page : ℕ) → e.pointer page ≡ d.pointer page
    unfolding names_changed
    pointers_same page = refl

    pub landed : IsVolume e b' t
    landed = record {
      still = still_settles who b b' s t (record { words = commit.settles.words; kept = commit.settles.kept; own = commit.settles.own }) same
          volume.still;
      fast = fast;
      running = lands.lands.lands.running;
      names = names;
      inodes = record {
        all = lands.lands.inodes ∙ volume.inodes.all ∙ ap (λ (g : Geometry). g.inodes) (sym (same_geometry d change));
        each = inode_is;
      };
      holders = holders d b b' s t who f c change volume can to.flies to.change_is fresh_same lands.lands (λ ino n' at. let was =
          lands.each ino n' at in
          (was.0, was.1, was.3));
      space = space d b b' s t who f c change volume can to.flies to.change_is fresh_same lands.lands;
      table = table d b b' s t who f c change volume can to.flies to.change_is fresh_same lands.lands;
      counts = counts d b b' s t who f c change volume can to.flies to.change_is fresh_same lands.lands lands.raised
          lands.zero_check (ap (λ r. r.items) lands.releases);
      flights = record {
        clients = lands.lands.lands.replaces.clients ∙ volume.flights.clients;
        each = λ q g flies. stay.0 q g (not_who d b b' s t who f c change volume can to.flies to.change_is fresh_same lands.lands q g flies) flies;
      };
      queue = queue d b b' s t who f c change volume can to.flies to.change_is fresh_same lands.lands (λ ino n' at. let was = lands.each ino n' at in
          (was.0, was.1, was.2.round));
      sharing = stay.1.sharing (λ same'. let few = who_few d b b' s t who f c change volume can to.flies to.change_is fresh_same lands.lands in
          omega (arith, few, same'));
      cleaning = stay.1.cleaning (λ same'. let few = who_few d b b' s t who f c change volume can to.flies to.change_is fresh_same lands.lands in
          omega (arith, few, same'));
      reclaiming = reclaims;
      pointers = none_stale_kept d e (same_geometry d change) pointers_same
          (λ row has. record { row = row; there = subst (λ (rs : List Row). Contains rs row) (sym (same_rows d change)) has; page_is = refl })
          volume.pointers;
      room = room d b b' s t who f c change volume can to.flies to.change_is fresh_same lands.lands commit.spare lands.raised lands.zero_check
          lands.releases
          (λ ino n' at. let was = lands.each ino n' at in (was.0, was.1, was.2.map));
      trace = subst (λ (g : Geometry). All (λ (x : CountChange). x.slot < slots g) b'.trace.items) (sym lands.lands.lands.geometry)
          (subst (λ xs. All (λ (x : CountChange). x.slot < slots b.geometry) xs.items) (sym lands.lands.trace) volume.trace);
    }
