-- What a commit of an operation on names leaves, group by group.
use Rattle.std.proofs.Common.{◌≡◌, ◌≢◌, ◌⊎◌, inl, inr, ⊎_elim, ℕ, zero, suc, ◌+◌, ◌<◌, ◌≤◌, List, [], ◌∷◌, ◌++◌, length, take, refl, sym, ◌∙◌, ap, subst, arith, Option, Some, None, length-append}
use Rattle.std.specs.Prelude.{◌↔◌, Contains, IsNone, slice_get, get_or, vec_len, vec_capacity}
use Rattle.std.proofs.lemmas.List.{get_or_append_left}
use Rattle.std.proofs.lemmas.List.Elements.{Contains-append_left, Contains-append_right, Contains-append_cases}
use Rattle.std.proofs.lemmas.Option.{slice_get_cases}
use Rattle.pm_device.specs.State.{State}
use Rattle.pm_layout.specs.declared.Geometry.{Geometry}
use Rattle.dn_model.specs.Table.{Row, row_of}
use Rattle.dn_model.specs.Disk.{Disk}
use Rattle.law_write.specs.Events.{IsUnused}
use Rattle.law_names.specs.NameChange.{NameChange as DiskChange, MayChange, names_changed}
use Rattle.law_names.proofs.Changed.{same_geometry, same_rows}
use Rattle.law_names.proofs.Kept.{mappings_same, free_kept, free_only, fresh_taken}
use Rattle.law_names.proofs.ChangedOwn.{live_was}
use Rattle.file_content.specs.Pages.{AreApart}
use Rattle.fact_table.specs.Table.{HasRow}
use Rattle.dn_volume.specs.declared.background.Sharing.{Sharing}
use Rattle.dn_volume.specs.declared.flight.Flight.{Flight}
use Rattle.dn_volume.specs.declared.flight.Change.{Change}
use Rattle.dn_volume.specs.declared.flight.Change.TheVariants.{Data, Names}
use Rattle.dn_volume.specs.declared.flight.NameChange.{NameChange}
use Rattle.dn_volume.specs.declared.volume.InodeState.{InodeState}
use Rattle.dn_volume.specs.declared.volume.Parts.{Parts}
use Rattle.dn_volume.specs.Parties.{Flies, for_client, SameOthers, taken_by, blocks_of}
use Rattle.dn_volume.specs.Inodes.{AreHolders}
use Rattle.dn_volume.specs.Space.{HasSpace, AreSlotsOf}
use Rattle.dn_volume.specs.Balance.{raised_by, times, added_to_share, AreCounted}
use Rattle.dn_volume.specs.Flights.{IsFlightOf, IsNameFlight}
use Rattle.dn_volume.specs.Shares.{IsWaiting, in_queue, is_begun, IsQueued}
use Rattle.dn_volume.specs.Reserve.{HasRoom, owed_to, units_by}
use Rattle.dn_volume.specs.Agrees.{IsVolume}
use Rattle.std.specs.VecDeque.{deque_len, deque_capacity}
use Rattle.dn_volume.specs.Reclaims.{one_if}
use Rattle.dn_volume.proofs.Lefts.{left_more}
use Rattle.dn_volume.proofs.MappingsMoved.{mappings_counted}
use Rattle.dn_volume.proofs.Replaced.{few, others_same, flies_other, each_room, owed_moved, owes, raised_moved}
use Rattle.dn_volume.proofs.Taken.{contains_or_not, holders_moved, taker_then, taker_gone, taker_kept, space_moved}
use Rattle.begin_steps.proofs.Cleanings.{cleaning_takes}
use Rattle.name_ops.specs.Landing.{Lands, LandsNames, LetsGo}

-- a page of the one list is none of the other, where both together are apart
no_both : (xs ys : List ℕ) (page : ℕ) → AreApart (xs ++ ys) → Contains xs page → Contains ys page → ⊥
no_both xs ys page apart (i, il, is) (j, jl, js) =
    let at_i : get_or (xs ++ ys) i 0 ≡ get_or xs i 0 = get_or_append_left xs ys 0 i il in
    let at_j : get_or (xs ++ ys) (length xs + j) 0 ≡ get_or ys j 0 = behind xs ys j in
    let page_i : get_or xs i 0 ≡ page = with_zero xs i page il is in
    let page_j : get_or ys j 0 ≡ page = with_zero ys j page jl js in
    let same = apart i (length xs + j) (omega (arith, il, length-append xs ys)) (omega (arith, jl, length-append xs ys))
    (at_i ∙ page_i ∙ sym page_j ∙ sym at_j) in
    omega (arith, same, il)
  where
    behind : (xs ys : List ℕ) (j : ℕ) → get_or (xs ++ ys) (length xs + j) 0 ≡ get_or ys j 0
    behind [] ys j = ap (λ (n : ℕ). get_or ys n 0) (omega arith)
    behind (x ∷ xs) ys j = let e : length (x ∷ xs) + j ≡ suc (length xs + j) = omega arith in ap (λ (n : ℕ). get_or (x ∷ (xs ++ ys)) n 0) e ∙ behind
        xs ys j

    with_zero : (xs : List ℕ) (i page : ℕ) → i < length xs → get_or xs i page ≡ page → get_or xs i 0 ≡ page
    with_zero [] i page lt is = omega (arith, lt)
    with_zero (x ∷ xs) zero page lt is = is
    with_zero (x ∷ xs) (suc i) page lt is = with_zero xs i page (omega (arith, lt)) is

module _ (d : Disk) (b b' : Parts) (s t : State) (who : ℕ) (f : Flight) (c : NameChange) (change : DiskChange) (volume : IsVolume d b s)
    (may : MayChange d change)
    (flies : Flies b who f) (is_names : f.change ≡ Names c) (fresh_is : change.fresh ≡ f.fresh.items) (ln : LandsNames who f b b') where
  abbrev e : Disk
  e = names_changed d change

  abbrev l : Lands who f b b'
  l = ln.lands

  pub flight : IsNameFlight d who f c s
  flight = subst (IsFlightOf d who f s) is_names (volume.flights.each who f flies)

  -- Who is in flight.
  pub same_others : SameOthers who b b'
  same_others = others_same who flies.client (Some f) None b b' l.replaces

  pub not_who : (q : ℕ) (g : Flight) → Flies b' q g → q ≢ who
  not_who q g other = (flies_other who flies.client (Some f) None b b' l.replaces refl q g other).0

  pub who_few : who ≤ 14
  who_few = few who flies.client (Some f) None b b' l.replaces

  no_element : (x : ℕ) → Contains [] x → ⊥
  no_element x none = omega (arith, none.1)

  -- Space.
  unused_kept : (page : ℕ) → (Contains f.fresh.items page → ⊥) → IsUnused d page → IsUnused e page
  unused_kept page out unused = record {
    free = free_kept d change may page unused.free (λ has. out (subst (λ (xs : List ℕ). Contains xs page) fresh_is has));
    no_row = subst (λ (rs : List Row). IsNone (row_of rs page)) (sym (same_rows d change)) unused.no_row;
  }

  unused_was : (page : ℕ) → IsUnused e page → IsUnused d page
  unused_was page unused = record {
    free = free_only d change may page unused.free;
    no_row = subst (λ (rs : List Row). IsNone (row_of rs page)) (same_rows d change) unused.no_row;
  }

  not_fresh : (page : ℕ) → IsUnused e page → Contains f.fresh.items page → ⊥
  not_fresh page unused has = fresh_taken d change may page (subst (λ (xs : List ℕ). Contains xs page) (sym fresh_is) has) unused.free

  its_fresh : (page : ℕ) → Contains f.fresh.items page → Contains (taken_by f) page
  its_fresh page has = Contains-append_left (f.fresh.items ++ f.spare.items) (blocks_of f.change) page
      (Contains-append_left f.fresh.items f.spare.items page has)

  its_spare : (page : ℕ) → Contains f.spare.items page → Contains (taken_by f) page
  its_spare page has = Contains-append_left (f.fresh.items ++ f.spare.items) (blocks_of f.change) page
      (Contains-append_right f.fresh.items f.spare.items page has)

  no_blocks : (page : ℕ) (x : Change) → x ≡ Names c → Contains (blocks_of x) page → ⊥
  no_blocks page (Data y) is has = cc is
  no_blocks page (Names y) is has = omega (arith, has.1)

  -- the page is one of the operation's
  fresh_or_spare : (page : ℕ) → Contains (taken_by f) page → Contains f.fresh.items page ⊎ Contains f.spare.items page
  fresh_or_spare page has = ⊎_elim (λ logs. Contains-append_cases f.fresh.items f.spare.items page logs)
      (λ data_page. absurd (no_blocks page f.change is_names data_page))
      (Contains-append_cases (f.fresh.items ++ f.spare.items) (blocks_of f.change) page has)

  spare_not_fresh : (page : ℕ) → Contains f.spare.items page → Contains f.fresh.items page → ⊥
  spare_not_fresh page spare fresh =
      no_both f.fresh.items (f.spare.items ++ blocks_of f.change) page (subst AreApart (assoc f.fresh.items f.spare.items (blocks_of f.change))
      flight.grows.apart) fresh
      (Contains-append_left f.spare.items (blocks_of f.change) page spare)
    where
      assoc : (xs ys zs : List ℕ) → (xs ++ ys) ++ zs ≡ xs ++ (ys ++ zs)
      assoc [] ys zs = refl
      assoc (x ∷ xs) ys zs = ap (λ rest. x ∷ rest) (assoc xs ys zs)

  abbrev taker' : ℕ → ℕ
  taker' page = taker_then who flies.client (Some f) None b b' l.replaces d volume.space page

  taker_stays : (page : ℕ) → (Contains (taken_by f) page → ⊥) → taker' page ≡ volume.space.taker page
  taker_stays page out = taker_kept who flies.client (Some f) None b b' l.replaces d volume.space page (no_element page) out

  -- who has taken a page
  free_page : (page : ℕ) → (Contains b'.free.free page) ↔ (IsUnused e page × (taker' page ≡ 0))
  free_page page = (
    λ has. ⊎_elim of_free of_spare ((l.free page).0 has),
    λ is. (l.free page).1 (⊎_elim (λ his. ⊎_elim (λ fresh. absurd (not_fresh page is.0 fresh)) (λ spare. inr spare) (fresh_or_spare page his))
        (λ out. inl ((volume.space.free page).1 (unused_was page is.0, sym (taker_stays page out) ∙ is.1)))
        (contains_or_not page (taken_by f))),
  )
    where
      his_taker : Contains (taken_by f) page → volume.space.taker page ≡ who
      his_taker has = volume.space.takes who page (for_client f flies has)

      of_free : Contains b.free.free page → IsUnused e page × (taker' page ≡ 0)
      of_free has =
          let free = (volume.space.free page).0 has in
          let none : volume.space.taker page ≡ 0 = free.1 in
          let client = flies.client in
          let out : Contains (taken_by f) page → ⊥ = λ mine. (let his = his_taker mine in omega (arith, his, none, client)) in
          (unused_kept page (λ fresh. out (its_fresh page fresh)) free.0, taker_stays page out ∙ none)

      of_spare : Contains f.spare.items page → IsUnused e page × (taker' page ≡ 0)
      of_spare has =
          let his = his_taker (its_spare page has) in
          let client = flies.client in (
            unused_kept page (spare_not_fresh page has) (volume.space.unused page (λ none. omega (arith, none, his, client))),
            taker_gone who flies.client (Some f) None b b' l.replaces d volume.space page (no_element page) (its_spare page has),
          )

  pub space : HasSpace e b'
  space = space_moved who flies.client (Some f) None b b' l.replaces d volume.space (λ page has. absurd (no_element page has)) e
      (l.pages ∙ volume.space.pages ∙ sym (ap (λ (g : Geometry). g.pages) (same_geometry d change))) l.in_order
      (let was = volume.space.some in let more = l.free_more in omega (arith, was, more))
      (left_more b b' (λ page has. (l.free page).1 (inl has)) (cleaning_takes who flies.client (Some f) None b b' l.replaces) volume.space.left) free_page (λ page has. absurd (no_element page has))
      (λ page out unused. unused_kept page (λ fresh. out (its_fresh page fresh)) unused)

  -- The table and its counts.
  pub has_row : (slot : ℕ) → HasRow d slot → HasRow e slot
  has_row slot has = record {
    row = has.row;
    is = record {
      there = subst (λ (rs : List Row). Contains rs has.row) (sym (same_rows d change))
          has.is.there;
      slot_is = has.is.slot_is;
    };
  }

  pub table : AreSlotsOf e b'.fact
  table = subst (AreSlotsOf e) (sym ln.fact) (record {
    geometry = same_geometry d change ∙ volume.table.geometry;
    set = volume.table.set;
    free = λ k has row there. volume.table.free k has row (subst (λ (rs : List Row). Contains rs row) (same_rows d change) there);
    taken = λ k lt out. has_row _ (volume.table.taken k lt out);
  })

  -- it has raised none
  none_raised : (slot : ℕ) → times slot (raised_by (Some f)) ≡ 0
  none_raised slot = none_of f.raised f.rows.items flight.no_rows
    where
      none_of : (n : ℕ) (xs : List ℕ) → xs ≡ [] → times slot (take n xs) ≡ 0
      none_of zero [] is = refl
      none_of (suc n) [] is = refl
      none_of n (x ∷ xs) is = absurd (cc is)

  module _ (dying_same : b'.reclaiming.raised ≡ b.reclaiming.raised)
      (zero_same : b'.reclaiming.zero_check ≡ b.reclaiming.zero_check)
      (releases_same : b'.reclaiming.releases.items ≡ b.reclaiming.releases.items) where
    pub counts : AreCounted e b'
    counts = mappings_counted d e b b' (λ slot. 0) (λ slot. 0) (record {
      rows_same = same_rows d change;
      mappings_move = λ row has. let same = mappings_same d change may row.page in omega (arith, same);
      raised_move = λ slot. let moved = raised_moved who flies.client (Some f) None b b' l.replaces dying_same slot in let none = none_raised slot in
          omega (arith, moved, none);
      added_move = λ slot. let same = ap (λ (x : Option Sharing). times slot (added_to_share x)) l.replaces.sharing in omega (arith, same);
      dropped_move = λ slot. let same = ap (times slot) releases_same in omega (arith, same);
      zero_same = zero_same;
      few = let was = volume.counts.few in let less = owed_moved who flies.client (Some f) None b b' l.replaces (λ r. r.releases) in
          let same = ap length releases_same in
          let up : one_if b'.reclaiming.raised ≡ one_if b.reclaiming.raised = ap (λ r. one_if r) dying_same in omega (arith, was, less, same, up);
    }) volume.counts

  -- Room.
  enough_units : 25 ≤ (owed_to (Some f)).units
  enough_units = let is : units_by f f.change ≡ units_by f (Names c) = ap (units_by f) is_names in omega (arith, is)

  module _ (units : s.spare ≤ t.spare + 25) (dying_same : b'.reclaiming.raised ≡ b.reclaiming.raised)
      (zero_same : b'.reclaiming.zero_check ≡ b.reclaiming.zero_check) (releases_same : b'.reclaiming.releases ≡ b.reclaiming.releases) (inodes :
      (ino : ℕ) (n' : InodeState)
      → slice_get b'.inodes.items ino ≡ Some n' → (n : InodeState) × (slice_get b.inodes.items ino ≡ Some n) × (n'.map ≡ n.map)) where
    pub room : HasRoom b' t
    room =
        let was = volume.room in
        let o_units = l.owed.units in
        let o_trace = l.owed.trace in
        let o_history = l.owed.history in
        let o_queue = l.owed.queue in
        let o_releases = l.owed.releases in
        record {
          owes = owes who flies.client (Some f) None b b' l.replaces l.owed dying_same zero_same was.owes;
          units = let enough = enough_units in let there = was.units in omega (arith, enough, there, o_units, units);
          trace = subst (λ x. vec_len x + b'.owed.trace ≤ vec_capacity x) (sym ln.trace) (let there = was.trace in omega (arith, there, o_trace));
          history = let there = was.history in let longer = l.history_len in let same = l.history_room in
              omega (arith, there, o_history, longer, same);
          queue = subst (λ x. b'.owed.queue ≤ x.room) (sym ln.queue) (let there = was.queue in omega (arith, there, o_queue));
          releases = subst (λ x. deque_len x + b'.owed.releases ≤ deque_capacity x) (sym releases_same) (let there = was.releases in
              omega (arith, there, o_releases));
          names = let there = was.names in let one = ln.names_room in omega (arith, there, o_history, one);
          places = each_room who flies.client (Some f) None b b' l.replaces (λ g x n is kind at. absurd (none_is g is))
              (λ q g n' other g_flies at. let had = inodes g.ino n' at in
              (had.0, had.1, let same = ap (λ m. m.room) had.2 in omega (arith, same))) was.places;
        }
      where
        none_is : (g : Flight) → None ≡ Some g → ⊥
        none_is g is = cc

  -- Waiting items.
  inode_there : (ino : ℕ) (n : InodeState) → slice_get b.inodes.items ino ≡ Some n → (n' : InodeState) × (slice_get b'.inodes.items ino ≡ Some n')
  inode_there ino n is = ⊎_elim (λ found. (found.0, found.2)) (λ past. absurd (gone past.0)) (slice_get_cases b'.inodes.items ino).1
    where
      gone : length b'.inodes.items ≤ ino → ⊥
      gone past = ⊎_elim (λ found. let lt = found.1 in let same = ln.inodes in omega (arith, lt, same, past))
          (λ none. clash (slice_get b.inodes.items ino) none.1 is) (slice_get_cases b.inodes.items ino).1
        where
          clash : (r : Option InodeState) → r ≡ None → r ≡ Some n → ⊥
          clash r none some = cc

  some_same : (r : Option InodeState) (n m : InodeState) → r ≡ Some n → r ≡ Some m → n ≡ m
  some_same r n m one other = cc

  module _ (rounds : (ino : ℕ) (n' : InodeState) → slice_get b'.inodes.items ino ≡ Some n'
      → (n : InodeState) × (slice_get b.inodes.items ino ≡ Some n) × (n'.round ≡ n.round)) where
    pub queue : IsQueued e b'
    queue = record {
      waits = λ ino idx m place unfinished. waits_on ino m.slot (volume.queue.waits ino idx m (live_was d change may ino idx m place)
          unfinished);
    }
      where
        waits_on : (ino slot : ℕ) → IsWaiting b ino slot → IsWaiting b' ino slot
        waits_on ino slot (in_queue work n has at_ino at_slot at round) =
            let there = inode_there ino n at in
            let was = rounds ino there.0 there.1 in
            in_queue work there.0 (subst (λ x. Contains x.items work) (sym ln.queue) has) at_ino at_slot there.1
            (round ∙ ap (λ (x : InodeState). x.round) (some_same (slice_get b.inodes.items ino) n was.0 at was.1) ∙ sym was.2)
        waits_on ino slot (is_begun sharing is at_ino at_slot) = is_begun sharing (l.replaces.sharing ∙ is) at_ino at_slot

  -- Holders.
  module _ (lets : (ino : ℕ) (n' : InodeState) → slice_get b'.inodes.items ino ≡ Some n' → (n : InodeState) × (slice_get b.inodes.items ino ≡ Some n)
      × LetsGo f ino n n') where
    pub holders : AreHolders e b'
    holders = holders_moved who flies.client (Some f) None b b' l.replaces d e (ap (λ (g : Geometry). g.inodes) (same_geometry d change))
        volume.holders
        (λ ino n' at. let was = lets ino n' at in (
          was.0,
          was.1,
          record {
            loose = λ has. absurd (no_element ino has);
            mine = λ has. absurd (no_element ino has);
            freed = λ had out. was.2.freed had;
            kept = λ none out. was.2.kept none;
          },
        ))
        (λ ino has. absurd (no_element ino has))
