-- An event of the daemon that leaves rows, mappings and free pages: the volume of after, from what the event has to
-- show of the disk and of what is kept in memory.
use Rattle.std.proofs.Common.{◌≡◌, ◌≢◌, ℕ, ◌+◌, ◌-◌, ◌*◌, ◌<◌, ◌≤◌, List, [], length, refl, sym, ◌∙◌, ap, subst, arith}
use Rattle.std.specs.Prelude.{Option, Some, None, All, Contains, IsNone}
use Rattle.std.specs.FinMap.{get}
use Rattle.std.proofs.lemmas.List.{append-nil}
use Rattle.pm_device.specs.State.{State, Rose}
use Rattle.pm_device.specs.Settled.{LeavesOnly, StoresOnly}
use Rattle.pm_layout.specs.declared.Geometry.{Geometry}
use Rattle.pm_layout.specs.Geometry.{IsAccepted, slots}
use Rattle.page_alloc.specs.Free.{FreePages, IsInOrder}
use Rattle.dn_model.specs.Table.{Row, row_of}
use Rattle.dn_model.specs.Disk.{Disk, Use, Live, Dying, rows}
use Rattle.dn_model.specs.Counts.{total, mappings, IsFree}
use Rattle.dn_model.specs.Files.{files, named, IsSameFiles}
use Rattle.dn_model.specs.Own.{Print, IsOwn}
use Rattle.dn_model.specs.declared.op.CountChange.{CountChange}
use Rattle.law_write.specs.Events.{IsUnused}
use Rattle.fact_table.specs.Table.{HasRow}
use Rattle.dn_volume.specs.declared.flight.Flight.{Flight}
use Rattle.dn_volume.specs.declared.background.Cleaning.{Cleaning}
use Rattle.dn_volume.specs.declared.volume.Parts.{Parts}
use Rattle.dn_volume.specs.declared.volume.Volume.{Volume}
use Rattle.dn_volume.specs.Parties.{Flies, Takes, for_client, for_cleaning, SameOthers, flight_at}
use Rattle.dn_volume.specs.Inodes.{AreInodesOf, AreHolders}
use Rattle.dn_volume.specs.Space.{HasSpace}
use Rattle.dn_volume.specs.Balance.{times, raised_by, raised_to_die, raised_to_share, added_to_share, raised, AreCounted}
use Rattle.dn_volume.specs.Flights.{IsFlight}
use Rattle.dn_volume.specs.Shares.{IsQueued, Shares}
use Rattle.dn_volume.specs.Reclaims.{one_if, dying_units, IsReclaiming}
use Rattle.dn_volume.specs.Reserve.{HasRoom}
use Rattle.dn_volume.specs.Accounts.{AccountsFor}
use Rattle.dn_volume.specs.Agrees.{StandsFast, IsVolume, IsStopped, NamesSlots, HasHead}
use Rattle.dn_volume.specs.Events.{IsBetween, MovesOn, Breaks, word_in}
use Rattle.dn_volume.specs.Rely.{LeavesRest}
use Rattle.dn_volume.specs.Stills.{IsStillBut}
use Rattle.dn_volume.proofs.Heads.{head_of, head_kept, none_stale_kept}
use Rattle.dn_volume.proofs.Kept.{ops_same}
use Rattle.dn_volume.proofs.HandsKept.{owed_same, flies_before, flies_still}
use Rattle.dn_volume.proofs.FlightsStay.{flights_stay}
use Rattle.dn_volume.proofs.InHand.{raised_stays}
use Rattle.dn_volume.proofs.MappingsMoved.{mappings_counted}
use Rattle.count_events.specs.Released.{Stops}
use Rattle.dn_volume.proofs.Lefts.{left_still}
use Rattle.count_events.proofs.CleaningKept.{cleaning_kept}
use Rattle.count_events.proofs.Settled.{no_client}
use Rattle.reclaim.proofs.SpaceGained.{slots_stay}
use Rattle.dedupe_daemon.specs.Daemon.{KeepsAll}

-- what such an event leaves of the disk
pub record KeepsDisk (d e : Disk) : Type 0 where
  pub geometry : e.geometry ≡ d.geometry
  pub names : (name : List ℕ) → named e name ≡ named d name
  pub rows_same : rows e ≡ rows d
  pub mappings_same : (page : ℕ) → mappings e page ≡ mappings d page
  pub free_kept : (page : ℕ) → IsFree d page → IsFree e page
  pub free_only : (page : ℕ) → IsFree e page → IsFree d page
  pub pointer : (page : ℕ) → e.pointer page ≡ d.pointer page
  pub units : total e.geometry.inodes (dying_units e) ≡ total d.geometry.inodes (dying_units d)
  pub files_same : IsSameFiles (files e) (files d)

-- What holds of every such event. The inodes that it changes are live, no operation holds one of them, and the log of
-- none is being cleaned.
pub record DaemonEvent (inodes : List ℕ) (d e : Disk) (b b' : Parts) (s u : State) : Type 0 where
  pub fast : StandsFast e b.geometry u
  pub leaves : LeavesRest 15 inodes [] d e s u
  pub live : (i : ℕ) → Contains inodes i → (d.inode i).use_of ≡ Live
  pub loose : (q : ℕ) (f : Flight) → Flies b q f → (i : ℕ) → Contains f.held.items i → Contains inodes i → ⊥
  pub apart : (c : Cleaning) → b.reclaiming.cleaning ≡ Some c → Contains inodes c.ino → ⊥
  pub disk : KeepsDisk d e
  pub kept : KeepsAll b b'
  pub inodes_are : AreInodesOf e b'.inodes.items
  pub holders : AreHolders e b'
  pub queue : IsQueued e b'
  pub sharing : Shares e b'
  pub raises : (slot : ℕ) → times slot (raised_to_share b'.sharing) ≡ times slot (raised_to_share b.sharing)
  pub adds : (slot : ℕ) → times slot (added_to_share b'.sharing) ≡ times slot (added_to_share b.sharing)
  pub room : HasRoom b' u
  pub still : IsStillBut b' u

module _ (d e : Disk) (disk : KeepsDisk d e) where
  unused_on : (page : ℕ) → IsUnused d page → IsUnused e page
  unused_on page is = record {
    free = disk.free_kept page is.free;
    no_row = subst (λ (rs : List Row). IsNone (row_of rs page)) (sym disk.rows_same) is.no_row;
  }

  unused_back : (page : ℕ) → IsUnused e page → IsUnused d page
  unused_back page is = record {
    free = disk.free_only page is.free;
    no_row = subst (λ (rs : List Row). IsNone (row_of rs page)) disk.rows_same is.no_row;
  }

module _ (b b' : Parts) (kept : KeepsAll b b') where
  pub flights_same : b'.flights.items ≡ b.flights.items
  flights_same = ap (λ (fs : _). fs.items) kept.flights

  pub cleaning_same : b'.reclaiming.cleaning ≡ b.reclaiming.cleaning
  cleaning_same = ap (λ (r : _). r.cleaning) kept.reclaiming

  pub others_kept : SameOthers 15 b b'
  others_kept = record {
    flights = λ q some ne. ap (λ (fs : List (Option Flight)). flight_at fs (q - 1)) flights_same;
    sharing = λ ne. absurd (ne refl);
    cleaning = λ ne. cleaning_same;
  }

  takes_on : (who page : ℕ) → Takes b who page → Takes b' who page
  takes_on who page (for_client f flies has) = for_client f (flies_still b b' flights_same who f flies) has
  takes_on who page (for_cleaning c him is has) = for_cleaning c him (cleaning_same ∙ is) has

  takes_back : (who page : ℕ) → Takes b' who page → Takes b who page
  takes_back who page (for_client f flies has) = for_client f (flies_before b b' flights_same who f flies) has
  takes_back who page (for_cleaning c him is has) = for_cleaning c him (sym cleaning_same ∙ is) has

  pub raised_kept : ((slot : ℕ) → times slot (raised_to_share b'.sharing) ≡ times slot (raised_to_share b.sharing)) → (slot : ℕ) → raised b' slot ≡
      raised b slot
  raised_kept same slot =
      let flown = ap (λ (fs : _). total 14 (λ k. times slot (raised_by (flight_at fs k)))) flights_same in
      let died = ap (λ (r : _). times slot (raised_to_die r.raised)) kept.reclaiming in
      omega (arith, flown, died, same slot)

  space_kept : (d e : Disk) → KeepsDisk d e → HasSpace d b → HasSpace e b'
  space_kept d e disk space = record {
    pages = ap (λ (f : FreePages). f.pages) kept.free ∙ space.pages ∙ ap (λ (g : Geometry). g.pages) (sym disk.geometry);
    in_order = subst IsInOrder (sym kept.free) space.in_order;
    taker = space.taker;
    free = λ page. (
      (λ there. let both = (space.free page).0 (subst (λ (f : FreePages). Contains f.free page) kept.free there) in
          (unused_on d e disk page both.0, both.1)),
      (λ both. subst (λ (f : FreePages). Contains f.free page) (sym kept.free)
          ((space.free page).1 (unused_back d e disk page both.0, both.1))),
    );
    takes = λ who page takes. space.takes who page (takes_back who page takes);
    taken = λ page some. takes_on (space.taker page) page (space.taken page some);
    unused = λ page some. unused_on d e disk page (space.unused page some);
    some = let long = ap (λ (f : FreePages). length f.free) kept.free in omega (arith, space.some, long);
    left = left_still b b' kept.free (takes_on 16) space.left;
  }

module _ (inodes : List ℕ) (d e : Disk) (b b' : Parts) (s u : State) (v : IsVolume d b s) (is : DaemonEvent inodes d e b b' s u) where
  below : (q : ℕ) (f : Flight) → Flies b q f → q ≢ 15
  below q f flies me = no_client b q f v.flights.clients (omega (arith, me)) flies

  flies_on : (q : ℕ) (f : Flight) → Flies b' q f → IsFlight e q f u
  flies_on q f flies' =
      let flies = flies_before b b' (flights_same b b' is.kept) q f flies' in
      flights_stay 15 q inodes [] d e s u f (below q f flies) v.fast.valid v.fast.long is.leaves (λ page has. absurd (omega (arith, has.1)))
      (λ i held has. is.loose q f flies i held has) (λ page taken has. absurd (omega (arith, has.1)))
      (λ page has. v.space.unused page (λ none. let at = v.space.takes q page (for_client f flies has) in let some = flies.client in
      omega (arith, at, none, some))) (v.flights.each q f flies)

  counts_after : AreCounted e b'
  counts_after = mappings_counted d e b b' (λ slot. 0) (λ slot. 0) (record {
    rows_same = is.disk.rows_same;
    mappings_move = λ row has. omega (arith, is.disk.mappings_same row.page);
    raised_move = λ slot. omega (arith, raised_kept b b' is.kept is.raises slot);
    added_move = λ slot. omega (arith, is.adds slot);
    dropped_move = λ slot. let same = ap (λ (r : _). times slot r.releases.items) is.kept.reclaiming in omega (arith, same);
    zero_same = ap (λ (r : _). r.zero_check) is.kept.reclaiming;
    few =
        let long = ap (λ (r : _). length r.releases.items) is.kept.reclaiming in
        let one = ap (λ (r : _). one_if r.raised) is.kept.reclaiming in
        let owed = owed_same b b' (flights_same b b' is.kept) (λ room. room.releases) in
        omega (arith, v.counts.few, long, one, owed);
  }) v.counts

  row_on : (slot : ℕ) → HasRow d slot → HasRow e slot
  row_on slot has = record {
    row = has.row;
    is = record { there = subst (λ (rs : List Row). Contains rs has.row) (sym is.disk.rows_same) has.is.there; slot_is = has.is.slot_is };
  }

  live_or_dying : (x : Use) (cut : ℕ) → x ≡ Live → x ≡ Dying cut → ⊥
  live_or_dying x cut live dying = cc

  reclaiming_after : IsReclaiming e b'
  reclaiming_after = record {
    waiting =
        let waits = ap (λ (r : _). r.waiting + one_if r.raised) is.kept.reclaiming in
        let sums = ap (λ (r : _). one_if r.zero_check + 2 * length r.releases.items) is.kept.reclaiming in
        omega (arith, v.reclaiming.waiting, waits, sums, is.disk.units);
    zero_check = λ slot at. row_on slot (v.reclaiming.zero_check slot (ap (λ (r : _). r.zero_check) (sym is.kept.reclaiming) ∙ at));
    raised = λ p at.
        let was = ap (λ (r : _). r.raised) (sym is.kept.reclaiming) ∙ at in
        let dies = v.reclaiming.raised p was in
        raised_stays inodes [] d e v.fast.valid is.leaves.rest b v.counts p was
        (λ has. live_or_dying (d.inode p.ino).use_of dies.before (is.live p.ino has) dies.dying) dies;
  }

  trace_after : NamesSlots b'
  trace_after = subst (λ (g : Geometry). All (λ (c : CountChange). c.slot < slots g) b'.trace.items) (sym is.kept.geometry)
      (subst (λ (t : _). All (λ (c : CountChange). c.slot < slots b.geometry) t.items) (sym is.kept.trace) v.trace)

  pub daemon_volume : IsVolume e b' u
  daemon_volume = record {
    fast = subst (λ (g : Geometry). StandsFast e g u) (sym is.kept.geometry) is.fast;
    running = is.kept.stopped ∙ v.running;
    names = record { leads = λ name. ap (λ (ns : _). get ns.map name) is.kept.names ∙ v.names.leads name ∙ sym (is.disk.names name) };
    inodes = is.inodes_are;
    holders = is.holders;
    space = space_kept b b' is.kept d e is.disk v.space;
    table = slots_stay d e b.fact b'.fact is.disk.geometry is.disk.rows_same is.kept.fact v.table;
    counts = counts_after;
    flights = record { clients = ap (λ (fs : _). length fs.items) is.kept.flights ∙ v.flights.clients; each = flies_on };
    queue = is.queue;
    sharing = is.sharing;
    reclaiming = reclaiming_after;
    cleaning = cleaning_kept inodes [] d e b b' s u v is.leaves.rest is.leaves.only (cleaning_same b b' is.kept) is.apart
        (λ c at page took has. absurd (omega (arith, has.1)));
    pointers = none_stale_kept d e is.disk.geometry is.disk.pointer
        (λ row has. record { row = row; there = subst (λ (rs : List Row). Contains rs row) (sym is.disk.rows_same) has; page_is = refl }) v.pointers;
    room = is.room;
    trace = trace_after;
    still = is.still;
  }

-- what the event's promise speaks of beside that
pub record DaemonShown (print : Print) (d e : Disk) (s u : State) : Type 0 where
  pub images : LeavesOnly s u (IsBetween print d e)
  pub own : IsOwn print d → IsOwn print e
  pub accounts : IsOwn print d → AccountsFor print d e
  pub faults : s.faults ≤ u.faults

module _ {D F : Type 0} (state : D → State) (print : Print) (w w' : Volume D F) (d e : Disk) (v : IsVolume d w.parts (state w.device))
    (shown : DaemonShown print d e (state w.device) (state w'.device)) where
  pub daemon_moves : (inodes : List ℕ) → DaemonEvent inodes d e w.parts w'.parts (state w.device) (state w'.device) → MovesOn state print 15 w w' d
  daemon_moves inodes is = record {
    after = e;
    moves = record {
      volume = daemon_volume inodes d e w.parts w'.parts (state w.device) (state w'.device) v is;
      images = shown.images;
      own = shown.own;
      accounts = shown.accounts;
      alone = λ me. absurd (omega (arith, me));
      traces = record {
        more = [];
        trace = ap (λ (t : _). t.items) is.kept.trace ∙ sym (append-nil w.parts.trace.items);
        words = λ slot. ap (λ (rs : List Row). word_in rs slot) is.disk.rows_same;
      };
      others = others_kept w.parts w'.parts is.kept;
      counts = is.kept.made;
      geometry = is.kept.geometry;
      faults = shown.faults;
    };
    quiet = is.disk.files_same;
    ops = ops_same w.parts w'.parts (flights_same w.parts w'.parts is.kept);
    history = ap (λ (h : _). h.items) is.kept.history;
  }

  module _ (quiet : IsSameFiles (files e) (files d)) (stops : Stops w.parts w'.parts) (W : ℕ → Type 0)
      (only : StoresOnly W (state w.device) (state w'.device)) (high : (a : ℕ) → a < 4 → W a → ⊥) where
    pub daemon_stopped : IsStopped w'.parts (state w'.device)
    daemon_stopped = record {
      stopped = stops.stopped;
      accepted = subst IsAccepted (v.fast.geometry ∙ sym stops.geometry) v.fast.valid.accepted;
      long = only.words ∙ v.fast.long ∙ ap (λ (g : Geometry). 512 * g.pages) (v.fast.geometry ∙ sym stops.geometry);
      head = head_kept W w'.parts.geometry (state w.device) (state w'.device) high only
          (subst (λ (g : Geometry). HasHead g (state w.device).now) (sym stops.geometry) (head_of d w.parts.geometry (state w.device) v.fast));
      trace = subst (λ (g : Geometry). All (λ (c : CountChange). c.slot < slots g) w'.parts.trace.items) (sym stops.geometry)
          (subst (All (λ (c : CountChange). c.slot < slots w.parts.geometry)) (sym stops.trace) v.trace);
    }

    pub daemon_breaks : Rose (state w.device).faults (state w'.device).faults → Breaks state print 15 None w w' d
    daemon_breaks rose = record {
      stopped = daemon_stopped;
      after = e;
      images = shown.images;
      rose = rose;
      quiet = λ none. quiet;
      ops = ops_same w.parts w'.parts stops.flights;
      others = record {
        flights = λ q some other. ap (λ (fs : List (Option Flight)). flight_at fs (q - 1)) stops.flights;
        sharing = λ other. stops.sharing;
        cleaning = λ other. stops.cleaning;
      };
      trace = record { more = []; trace = stops.trace ∙ sym (append-nil w.parts.trace.items) };
      geometry = stops.geometry;
      answering = λ op none. cc;
      answered = λ op none. cc;
      history = stops.history;
      counts = stops.made;
      faults = shown.faults;
    }
