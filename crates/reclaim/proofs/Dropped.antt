-- The raised place of a dying inode is gone.
use Rattle.std.proofs.Common.{◌≡◌, ◌≢◌, inl, inr, ⊎_elim, ℕ, ◌+◌, ◌≤◌, List, [], ◌∷◌, length, length-append, sym, ◌∙◌, ap, subst, arith}
use Rattle.std.specs.Prelude.{Option, Some, None, IsNone, Contains}
use Rattle.std.proofs.lemmas.Bool.{cases_eq}
use Rattle.pm_device.specs.State.{State}
use Rattle.pm_device.specs.Settled.{StoresOnly, KeepsFlushed, Others, SettlesAll}
use Rattle.pm_device.specs.Commit.{IsDone}
use Rattle.pm_layout.specs.Geometry.{inode_word}
use Rattle.dn_model.specs.Table.{Row, row_of}
use Rattle.dn_model.specs.Disk.{Disk, rows}
use Rattle.dn_model.specs.Counts.{total, mappings}
use Rattle.law_write.specs.Events.{IsUnused}
use Rattle.law_table.proofs.Rows.{distinct_same, none_listed}
use Rattle.law_dying.specs.Dying.{Falls, stepped, MayFall}
use Rattle.law_dying.proofs.Steps.{fall_drops}
use Rattle.dn_volume.specs.declared.background.DyingPlace.{DyingPlace}
use Rattle.dn_volume.specs.declared.volume.Parts.{Parts}
use Rattle.dn_volume.specs.Parties.{flight_at}
use Rattle.dn_volume.specs.Balance.{times, raised_by, raised_to_share, raised_to_die, added_to_share, raised, added, AreCounted}
use Rattle.dn_volume.specs.Reclaims.{one_if, IsRaised, IsReclaiming}
use Rattle.dn_volume.specs.Reserve.{units_to_clean}
use Rattle.dn_volume.specs.Agrees.{IsVolume}
use Rattle.dn_volume.proofs.HandsKept.{owed_same}
use Rattle.dn_volume.proofs.MappingsMoved.{mappings_counted}
use Rattle.dn_volume.proofs.RowSlots.{balance_at}
use Rattle.dn_volume.proofs.Times.{times_first, times_other}
use Rattle.dn_volume.proofs.Raises.{times-append}
use Rattle.reclaim.specs.Worked.{DropsPlace}
use Rattle.reclaim.proofs.WorkEvent.{WorkEvent}
use Rattle.reclaim.proofs.SpaceGained.{gives_none}
use Rattle.reclaim.proofs.RoomWorked.{MovesRoom}
use Rattle.reclaim.proofs.Fallen.{fall_living, fall_units, fall_before}
use Rattle.reclaim.proofs.FallEvent.{fall_event, same_rows}

pub no_raised : (p : DyingPlace) (r : Option DyingPlace) → r ≡ None → r ≡ Some p → ⊥
no_raised p r none some = cc

module _ (d : Disk) (b : Parts) (s : State) (v : IsVolume d b s) (p : DyingPlace) (raised_is : b.reclaiming.raised ≡ Some p) where
  abbrev pub raised_place : IsRaised d p
  raised_place = v.reclaiming.raised p raised_is

  pub one_here : times p.slot (raised_to_die b.reclaiming.raised) ≡ 1
  one_here = ap (λ (r : Option DyingPlace). times p.slot (raised_to_die r)) raised_is ∙ times_first p.slot []

  abbrev pub may_drop : MayFall d p.ino p.place
  may_drop = record {
    valid = v.fast.valid;
    in_table = raised_place.in_table;
    before = raised_place.before;
    dying = raised_place.dying;
    by = raised_place.by;
    mapped = raised_place.mapped;
    greatest = raised_place.greatest;
    counted = λ row has page_is.
        let same : row ≡ raised_place.row = distinct_same (λ (x : Row). x.page) (rows d) v.fast.valid.rows_apart.page row raised_place.row has
        raised_place.at_slot.there (page_is ∙ raised_place.page) in
        let slot_is : row.slot ≡ p.slot = ap (λ (x : Row). x.slot) same ∙ raised_place.at_slot.slot_is in
        let balance = balance_at d b s v p.slot row (record { there = has; slot_is = slot_is }) in
        let here : mappings d raised_place.by.block ≡ mappings d row.page = ap (mappings d) (sym page_is) in
        omega (arith, balance.updates, balance.references, here, one_here);
  }

module _ (d : Disk) (b b' : Parts) (s u : State) (v : IsVolume d b s) (p : DyingPlace) (raised_is : b.reclaiming.raised ≡ Some p)
    (change : DropsPlace p b b') where
  abbrev e : Disk
  e = stepped d p.ino (Falls p.place)

  abbrev at : IsRaised d p
  at = v.reclaiming.raised p raised_is

  abbrev may : MayFall d p.ino p.place
  may = may_drop d b s v p raised_is

  abbrev lost : ℕ → ℕ
  lost slot = times slot (p.slot ∷ [])

  move : (row : Row) → Contains (rows d) row → mappings e row.page + lost row.slot ≡ mappings d row.page + 0
  move row has = elim (cases_eq row.slot p.slot) [
    | inl same ↦
        let is : row ≡ at.row = distinct_same (λ (x : Row). x.slot) (rows d) v.fast.valid.rows_apart.slot row at.row has at.at_slot.there
        (same ∙ sym at.at_slot.slot_is) in
        let page_is : row.page ≡ at.by.block = ap (λ (x : Row). x.page) is ∙ sym at.page in
        let one : lost row.slot ≡ 1 = ap lost same ∙ times_first p.slot [] in
        let less = (fall_drops d p.ino p.place may).one_less in
        omega (arith, one, less, ap (mappings e) page_is, ap (mappings d) page_is)
    | inr ne ↦
        let none : lost row.slot ≡ 0 = times_other row.slot p.slot [] ne in
        let other : row.page ≢ at.by.block = λ same. ne
        (ap (λ (x : Row). x.slot) (distinct_same (λ (x : Row). x.page) (rows d) v.fast.valid.rows_apart.page row at.row has at.at_slot.there
        (same ∙ at.page)) ∙ at.at_slot.slot_is) in
        let stays = (fall_drops d p.ino p.place may).others row.page other in
        omega (arith, none, stays)
  ]

  raised_less : (slot : ℕ) → raised b' slot + lost slot + 0 ≡ raised b slot
  raised_less slot =
      let flown : total 14 (λ k. times slot (raised_by (flight_at b'.flights.items k))) ≡ total 14 (λ k. times slot (raised_by (flight_at b.flights.items k))) =
      ap (λ (fs : _). total 14 (λ k. times slot (raised_by (flight_at fs.items k)))) change.kept.flights in
      let shared : times slot (raised_to_share b'.sharing) ≡ times slot (raised_to_share b.sharing) = ap (λ (x : _). times slot (raised_to_share x))
      change.kept.sharing in
      let now : times slot (raised_to_die b'.reclaiming.raised) ≡ 0 = ap (λ (r : Option DyingPlace). times slot (raised_to_die r)) change.raised in
      let was : times slot (raised_to_die b.reclaiming.raised) ≡ lost slot = ap (λ (r : Option DyingPlace). times slot (raised_to_die r)) raised_is in
      omega (arith, flown, shared, now, was)

  one_was : one_if b.reclaiming.raised ≡ 1
  one_was = ap (λ (r : Option DyingPlace). one_if r) raised_is

  none_now : one_if b'.reclaiming.raised ≡ 0
  none_now = ap (λ (r : Option DyingPlace). one_if r) change.raised

  zero_same : one_if b'.reclaiming.zero_check ≡ one_if b.reclaiming.zero_check
  zero_same = ap (λ (r : Option ℕ). one_if r) change.zero_check

  longer : length b'.reclaiming.releases.items ≡ length b.reclaiming.releases.items + 1
  longer = ap (λ (xs : List ℕ). length xs) change.releases ∙ length-append b.reclaiming.releases.items (p.slot ∷ [])

  counts : AreCounted e b'
  counts = mappings_counted d e b b' lost (λ slot. 0) (record {
    rows_same = (fall_living d p.ino p.place may).rows_same;
    mappings_move = move;
    raised_move = raised_less;
    added_move = λ slot. let same : added b' slot ≡ added b slot = ap (λ (x : _). times slot (added_to_share x)) change.kept.sharing in
        omega (arith, same);
    dropped_move = λ slot. ap (times slot) change.releases ∙ times-append slot b.reclaiming.releases.items (p.slot ∷ []);
    zero_same = change.zero_check;
    few = let sum = owed_same b b' (ap (λ (fs : _). fs.items) change.kept.flights) (λ room. room.releases) in
        omega (arith, v.counts.few, longer, sum, one_was, none_now);
  }) v.counts

  reclaiming : IsReclaiming e b'
  reclaiming = record {
    waiting = let units = fall_units d p.ino p.place may in omega (
      arith,
      v.reclaiming.waiting,
      units,
      change.waiting,
      longer,
      one_was,
      none_now,
      zero_same,
    );
    zero_check = λ slot is. same_rows d e (fall_living d p.ino p.place may).rows_same slot
        (v.reclaiming.zero_check slot (sym change.zero_check ∙ is));
    raised = λ q is. absurd (no_raised q b'.reclaiming.raised change.raised is);
  }

  -- the page has its row still
  no_page : (page : ℕ) → IsUnused e page → page ≡ at.by.block → ⊥
  no_page page is same =
      none_listed (rows e) page is.no_row at.row (subst (λ (rs : List Row). Contains rs at.row) (sym (fall_living d p.ino p.place may).rows_same)
      at.at_slot.there) (sym at.page ∙ sym same)

  module _ (spare : s.spare ≤ u.spare + 3) (only : StoresOnly (λ a. a ≡ inode_word p.ino 3) s u)
      (others : KeepsFlushed (Others 16) (λ a. a ≡ inode_word p.ino 3) s u)
      (done : IsDone 16 (inode_word p.ino 3) p.place s u) (settles : SettlesAll 16 s u) where
    moves : MovesRoom b b' s u
    moves = record {
      units = let clean = ap (λ (x : _). units_to_clean x) change.kept.cleaning in omega (arith, change.units, one_was, none_now, zero_same, clean);
      spare = omega (arith, change.units, v.room.units, spare);
      releases = omega (arith, change.owed_releases, one_was, none_now);
      room = omega (arith, change.len, change.owed_releases);
      capacity = omega (arith, change.capacity);
    }

    pub drop_event : WorkEvent (p.ino ∷ []) d e b b' s u
    drop_event = fall_event d b b' s u v p.ino p.place may change.kept change.inodes change.fact (λ page. ⊥)
        (gives_none (λ page. ⊥) b.free b'.free change.free v.space.in_order (λ page none. none))
        (λ page is. record {
          free = (fall_living d p.ino p.place may).free_kept page (⊎_elim (λ (was : IsUnused d page). was) (λ none. absurd none) is).free;
          no_row = subst (λ (rs : List Row). IsNone (row_of rs page)) (sym (fall_living d p.ino p.place may).rows_same)
              (⊎_elim (λ (was : IsUnused d page). was) (λ none. absurd none) is).no_row;
        })
        (λ page is. ⊎_elim (λ was. inl was) (λ same. absurd (no_page page is same)) (fall_before d p.ino p.place may page is))
        (λ page none unused. none) counts reclaiming moves only others done settles
