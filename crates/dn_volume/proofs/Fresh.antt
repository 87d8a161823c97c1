-- A volume that was just mounted from an image without files agrees with it.
use Rattle.std.proofs.Common.{
  ◌≡◌,
  ◌≢◌,
  inl,
  ℕ,
  zero,
  suc,
  ◌+◌,
  ◌-◌,
  ◌<◌,
  ◌≤◌,
  List,
  [],
  ◌∷◌,
  length,
  refl,
  sym,
  ◌∙◌,
  ap,
  subst,
  arith,
  Option,
  Some,
  None,
}
use Rattle.std.specs.Prelude.{IsNone, All, Contains, slice_get}
use Rattle.std.specs.Option.{option_map}
use Rattle.std.proofs.lemmas.List.Elements.{All-nil}
use Rattle.pm_device.specs.Past.{moment}
use Rattle.pm_device.specs.State.{State, Agree}
use Rattle.pm_device.specs.Settled.{Still}
use Rattle.pm_layout.specs.declared.Geometry.{Geometry}
use Rattle.pm_layout.specs.Geometry.{InData, directs, slots}
use Rattle.file_content.specs.Content.{kept}
use Rattle.dn_model.specs.Maps.{Mapping, mapping, size_of}
use Rattle.dn_model.specs.Table.{Row, row_of, rows_from}
use Rattle.dn_model.specs.Disk.{Disk, maps, rows}
use Rattle.dn_model.specs.Counts.{hit, mappings}
use Rattle.dn_model.specs.Files.{files, named}
use Rattle.dn_model.specs.Own.{Print, LivePlace, IsOwn}
use Rattle.dn_model.specs.History.{Legal}
use Rattle.dn_model.specs.OnCourse.{IsOnCourse}
use Rattle.dn_model.specs.Empty.{empty_inode, empty_disk}
use Rattle.dn_model.specs.declared.op.Entry.{Entry}
use Rattle.law_write.specs.Events.{IsUnused}
use Rattle.law_write.proofs.Counting.{total-zero}
use Rattle.law_course.proofs.Course.{begins}
use Rattle.dn_volume.specs.declared.flight.Flight.{Flight}
use Rattle.dn_model.specs.declared.op.CountChange.{CountChange}
use Rattle.dn_volume.specs.declared.volume.Parts.{Parts}
use Rattle.dn_volume.specs.declared.volume.Room.{Room}
use Rattle.dn_volume.specs.Parties.{Flies, Holds, by_client, by_daemon, by_cleaning, Takes, for_client, for_cleaning, flight_at, opened}
use Rattle.dn_volume.specs.Inodes.{as_use}
use Rattle.dn_volume.specs.Balance.{raised, added, dropped, raised_by, times, raised_to_share, raised_to_die, added_to_share}
use Rattle.dn_volume.specs.Reclaims.{dying_units, one_if}
use Rattle.dn_volume.specs.Reserve.{HasRoom, owed_sum, owed_to, units_to_share, changes_to_share, units_to_clean, queue_to_clean}
use Rattle.dn_volume.specs.Agrees.{StandsFast, IsVolume}
use Rattle.dn_volume.specs.Events.{word_at, word_after}
use Rattle.dn_volume.specs.Sound.{IsSound}
use Rattle.dn_volume.proofs.Lefts.{two_left}
use Rattle.dn_volume.specs.Fresh.{fresh_use, IsFresh, FreshVolumesAgree, FreshVolumesAreSound}
use Rattle.dn_volume.proofs.SoundStays.{image_now}

module _ (g : Geometry) where
  abbrev d : Disk
  d = empty_disk g

  maps-empty : (ino idx : ℕ) → maps d ino idx ≡ None
  unfolding maps mapping
  maps-empty zero idx = refl
  maps-empty (suc k) idx = refl

  pub named-empty : (name : List ℕ) → named d name ≡ None
  unfolding named
  named-empty name = refl

  mappings-empty : (page : ℕ) → mappings d page ≡ 0
  unfolding mappings
  mappings-empty page = total-zero _ g.inodes (λ ino lt. total-zero _ 4096 (λ idx small. ap (hit page) (maps-empty ino idx)))

  none_from : (p n : ℕ) → rows_from d.chain p n ≡ []
  none_from p zero = refl
  none_from p (suc n) = none_from (p + 1) n

  rows-empty : rows d ≡ []
  unfolding rows
  rows-empty = none_from 0 (directs g)

  pub no_row_in : (row : Row) → Contains (rows d) row → ⊥
  no_row_in row has = let none = subst (λ (rs : List Row). Contains rs row) rows-empty has in omega (arith, none.1)

  no_row : (page : ℕ) → IsNone (row_of (rows d) page)
  no_row page = subst (λ (rs : List Row). IsNone (row_of rs page)) (sym rows-empty) refl

  not_listed : (ino page : ℕ) → Contains (empty_inode ino).log.pages page → ⊥
  not_listed zero page (k, lt, e) = omega arith
  not_listed (suc i) page (k, lt, e) = omega arith

  unused : (page : ℕ) → InData g page → IsUnused d page
  unused page data_page = record {
    free = record { data_page = data_page; in_no_log = λ p. not_listed p.ino page p.listed; unmapped = mappings-empty page };
    no_row = no_row page;
  }

  live_place : (ino idx : ℕ) (m : Mapping) → LivePlace d ino idx m → ⊥
  live_place ino idx m p = let none : None ≡ Some m = sym (maps-empty ino idx) ∙ p.maps in cc

  same_use : (ino : ℕ) → (empty_inode ino).use_of ≡ as_use (fresh_use ino)
  same_use zero = refl
  same_use (suc k) = refl

  no_size : (ino : ℕ) → size_of (empty_inode ino).log ≡ 0
  unfolding size_of
  no_size zero = refl
  no_size (suc k) = refl

  pub no_units : (ino : ℕ) → dying_units d ino ≡ 0
  no_units zero = refl
  no_units (suc k) = refl

-- the logs of the empty disk have no page
pub no_log_pages : (ino : ℕ) → length (empty_inode ino).log.pages ≡ 0
no_log_pages zero = refl
no_log_pages (suc k) = refl

-- a list with two members
two_members : (xs : List ℕ) (p q : ℕ) → p ≢ q → Contains xs p → Contains xs q → 2 ≤ length xs
two_members [] p q apart has other = omega (arith, has.1)
two_members (x ∷ []) p q apart (zero, lt, is) (zero, lt', is') = absurd (apart (sym is ∙ is'))
two_members (x ∷ []) p q apart (suc k, lt, is) other = omega (arith, lt)
two_members (x ∷ []) p q apart (zero, lt, is) (suc k, lt', is') = omega (arith, lt')
two_members (x ∷ y ∷ xs) p q apart has other = omega arith

module _ (g : Geometry) (b : Parts) (s : State) (fresh : IsFresh g b) (fast : StandsFast (empty_disk g) g s) where
  pub none_at : (k : ℕ) → flight_at b.flights.items k ≡ None
  none_at k = by (slice_get b.flights.items k) refl
    where
      by : (r : Option (Option Flight)) → slice_get b.flights.items k ≡ r → opened r ≡ None
      by None at = refl
      by (Some x) at = fresh.idle k x at

  pub none_flies : (who : ℕ) (f : Flight) → Flies b who f → ⊥
  none_flies who f flies = let none = none_at (who - 1) in let some = flies.is in cc

  holds_none : (who ino : ℕ) → Holds b who ino → ⊥
  holds_none who ino (by_client f flies has) = none_flies who f flies
  holds_none who ino (by_daemon sharing is shares same) = let none = fresh.sharing in cc
  holds_none who ino (by_cleaning cleaning is cleans same) = let none = fresh.cleaning in cc

  takes_none : (who page : ℕ) → Takes b who page → ⊥
  takes_none who page (for_client f flies has) = none_flies who f flies
  takes_none who page (for_cleaning cleaning is cleans has) = let none = fresh.cleaning in cc

  nothing_owed : (kind : Room → ℕ) → kind (owed_to None) ≡ 0 → owed_sum b kind ≡ 0
  nothing_owed kind none = total-zero _ 14 (λ k lt. ap (λ r. kind (owed_to r)) (none_at k) ∙ none)

  abbrev e : Disk
  e = empty_disk g

  none_raised : (slot : ℕ) → raised b slot ≡ 0
  none_raised slot =
      let flights = total-zero (λ k. times slot (raised_by (flight_at b.flights.items k))) 14 (λ k lt. ap (λ r. times slot (raised_by r)) (none_at k))
      in
      let shared : times slot (raised_to_share b.sharing) ≡ 0 = ap (λ r. times slot (raised_to_share r)) fresh.sharing in
      let died : times slot (raised_to_die b.reclaiming.raised) ≡ 0 = ap (λ r. times slot (raised_to_die r)) fresh.raised in
      omega (arith, flights, shared, died)

  none_added : (slot : ℕ) → added b slot ≡ 0
  none_added slot = ap (λ r. times slot (added_to_share r)) fresh.sharing

  none_dropped : (slot : ℕ) → dropped b slot ≡ 0
  none_dropped slot = ap (times slot) fresh.releases

  two_free : 2 ≤ length b.free.free
  two_free =
      let roomy = fast.valid.roomy in
      two_members b.free.free roomy.0 roomy.1 roomy.2 ((fresh.free roomy.0).1 roomy.3.data_page) ((fresh.free roomy.1).1 roomy.4.data_page)

  pub room_is : HasRoom b s
  room_is =
      let owes = fresh.owed in
      let o_units = ap (λ (r : Room). r.units) owes in
      let o_trace = ap (λ (r : Room). r.trace) owes in
      let o_history = ap (λ (r : Room). r.history) owes in
      let o_queue = ap (λ (r : Room). r.queue) owes in
      let o_releases = ap (λ (r : Room). r.releases) owes in
      let raised' = ap one_if fresh.raised in
      let checks = ap one_if fresh.zero_check in
      let cleans = ap units_to_clean fresh.cleaning in
      let due = ap queue_to_clean fresh.cleaning in
      let shares = ap units_to_share fresh.sharing in
      let changes = ap changes_to_share fresh.sharing in
      let n_trace = ap length fresh.trace in
      let n_history = ap length fresh.history in
      let n_releases = ap length fresh.releases in
      let s_units = nothing_owed (λ room. room.units) refl in
      let s_trace = nothing_owed (λ room. room.trace) refl in
      let s_history = nothing_owed (λ room. room.history) refl in
      let s_queue = nothing_owed (λ room. room.queue) refl in
      let s_releases = nothing_owed (λ room. room.releases) refl in
      record {
        owes = record {
          units = omega (arith, s_units, shares, raised', checks, cleans, o_units);
          trace = omega (arith, s_trace, changes, o_trace);
          history = omega (arith, s_history, o_history);
          queue = omega (arith, s_queue, due, o_queue);
          releases = omega (arith, s_releases, raised', o_releases);
        };
        units = omega (arith, o_units);
        trace = omega (arith, o_trace, n_trace);
        history = omega (arith, o_history, n_history);
        queue = omega (arith, o_queue);
        releases = omega (arith, o_releases, n_releases);
        names = omega (arith, o_history);
        places = λ who f c n flies. absurd (none_flies who f flies);
      }

  pub agrees : Still s → IsVolume e b s
  agrees still = record {
    still = record { each = λ a lt. inl (still a lt) };
    fast = subst (λ (h : Geometry). StandsFast e h s) (sym fresh.geometry) fast;
    running = fresh.running;
    names = record { leads = λ name. fresh.names name ∙ sym (named-empty g name) };
    inodes = record {
      all = fresh.inodes;
      each = λ ino n is. let at = fresh.each ino n is in record {
        use_is = same_use g ino ∙ ap as_use (sym at.used_is);
        size_is = λ used. no_size g ino ∙ sym at.size_is;
        small = omega (arith, at.size_is);
        log_pages = λ used. no_log_pages ino ∙ sym at.log_pages_is;
        places = λ idx. at.no_places idx ∙ ap (option_map kept) (sym (maps-empty g ino idx));
      };
    };
    holders = record {
      told = λ ino who n is. ((λ held. let none = (fresh.each ino n is).unheld in absurd (cc)), λ holds. absurd (holds_none who ino holds));
      in_table = λ ino who holds. absurd (holds_none who ino holds);
    };
    space = record {
      pages = fresh.pages;
      in_order = fresh.in_order;
      taker = λ page. 0;
      free = λ page. ((λ has. (unused g page ((fresh.free page).0 has), refl)), (λ is. (fresh.free page).1 is.0.free.data_page));
      takes = λ who page takes. absurd (takes_none who page takes);
      taken = λ page some. absurd (some refl);
      unused = λ page some. absurd (some refl);
      some = omega (arith, two_free);
      left = two_left b fresh.in_order two_free;
    };
    table = record {
      geometry = sym fresh.table;
      set = fresh.slots ∙ ap (λ h. h.pages) (sym fresh.table);
      free = λ k has row there. absurd (no_row_in g row there);
      taken = λ k lt out. absurd (out (fresh.all_slots k (subst (λ (h : Geometry). k < h.pages) fresh.table lt)));
    };
    counts = record {
      balanced = λ k row lt. absurd (let none = ap length (rows-empty g) in omega (arith, lt, none));
      there = λ slot some. absurd (omega (arith, some, none_raised slot, none_added slot, none_dropped slot));
      zero_checked = λ row has. absurd (no_row_in g row has);
      few = let none = ap length fresh.releases in let owes = nothing_owed (λ room. room.releases) refl in let up = ap one_if fresh.raised in
          omega (arith, none, owes, up);
    };
    flights = record { clients = fresh.clients; each = λ who f flies. absurd (none_flies who f flies) };
    queue = record { waits = λ ino idx m place. absurd (live_place g ino idx m place) };
    sharing = λ sharing is. let none = fresh.sharing in absurd (cc);
    cleaning = λ c is. let none = fresh.cleaning in absurd (cc);
    reclaiming = record {
      waiting =
          let units = total-zero (dying_units e) g.inodes (λ ino lt. no_units g ino) in
          let none = ap length fresh.releases in let zero' = ap one_if fresh.zero_check in let raised' = ap one_if fresh.raised in
          let waits = fresh.waiting in omega (arith, units, none, zero', raised', waits);
      zero_check = λ slot is. let none = fresh.zero_check in absurd (cc);
      raised = λ p is. let none = fresh.raised in absurd (cc);
    };
    pointers = record { none = λ page lt some none. some refl };
    room = room_is;
    trace = subst (All (λ (change : CountChange). change.slot < slots b.geometry)) (sym fresh.trace)
        (All-nil (λ (change : CountChange). change.slot < slots b.geometry));
  }

  pub sound : (print : Print) → IsOwn print e → Agree s.now s.past → IsSound print (record { disk = e; start = moment s.past; faults = s.faults }) e b
      s
  sound print own agree = record {
    own = own;
    legal = subst (λ (h : List Entry). Legal (files e) h (files e)) (sym fresh.history) (λ name. refl);
    course = subst (λ (h : List Entry). IsOnCourse print (files e) (moment s.past) h (files e) s) (sym fresh.history)
        (begins print (files e) s (image_now print e b s (subst (λ (h : Geometry). StandsFast e h s) (sym fresh.geometry) fast) own agree));
    traced = λ slot. ap (λ (xs : List CountChange). word_after xs slot (word_at e slot)) (sym fresh.trace);
    short = λ p told. record {
      space = λ k needed free entry is. absurd (no_entry k entry is);
      inode = λ k entry is. absurd (no_entry k entry is);
    };
    alone = λ ino idx m place. absurd (live_place g ino idx m place);
    row_pages = λ row has. absurd (no_row_in g row has);
    begun = omega arith;
    faults = omega arith;
  }
    where
      no_entry : (k : ℕ) (entry : Entry) → slice_get b.history.items k ≡ Some entry → ⊥
      no_entry k entry is = let none : slice_get [] k ≡ Some entry = subst (λ (h : List Entry). slice_get h k ≡ Some entry) fresh.history is in
          cc none

pub fresh_volumes_agree : FreshVolumesAgree
fresh_volumes_agree g b s fresh fast still = agrees g b s fresh fast still

pub fresh_volumes_are_sound : FreshVolumesAreSound
fresh_volumes_are_sound g print b s fresh fast own agree = sound g b s fresh fast print own agree
