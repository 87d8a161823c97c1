-- An event of reclaim that leaves what operations and the daemon have: the volume of after, from what the event has to
-- show of the disk and of what is kept in memory.
use Rattle.std.proofs.Common.{◌≡◌, ◌≢◌, inr, ℕ, ◌-◌, ◌*◌, ◌<◌, ◌≤◌, List, [], length, refl, sym, ◌∙◌, ap, subst, arith}
use Rattle.std.specs.Prelude.{slice_get, Option, Some, None, All, Contains}
use Rattle.std.specs.FinMap.{get}
use Rattle.std.proofs.lemmas.List.{append-nil}
use Rattle.pm_device.specs.State.{State, Rose}
use Rattle.pm_device.specs.Settled.{LeavesOnly, StoresOnly}
use Rattle.pm_layout.specs.declared.Geometry.{Geometry}
use Rattle.pm_layout.specs.Geometry.{IsAccepted, slots}
use Rattle.dn_model.specs.Maps.{Mapping}
use Rattle.dn_model.specs.Disk.{Disk, Use, Live, Dying}
use Rattle.dn_model.specs.Files.{files, named, IsSameFiles}
use Rattle.dn_model.specs.Own.{Print, IsOwn, LivePlace}
use Rattle.dn_volume.specs.declared.flight.Flight.{Flight}
use Rattle.dn_model.specs.declared.op.CountChange.{CountChange}
use Rattle.dn_volume.specs.declared.background.Cleaning.{Cleaning}
use Rattle.dn_volume.specs.declared.volume.InodeState.{InodeState}
use Rattle.dn_volume.specs.declared.volume.Parts.{Parts}
use Rattle.dn_volume.specs.declared.volume.Volume.{Volume}
use Rattle.dn_volume.specs.Parties.{Flies, Holds, by_client, by_daemon, by_cleaning, Takes, for_client, for_cleaning, SameOthers, KeepsOps, flight_at}
use Rattle.dn_volume.specs.Inodes.{AreInodesOf, AreHolders}
use Rattle.dn_volume.specs.Space.{HasSpace, AreSlotsOf}
use Rattle.dn_volume.specs.Balance.{AreCounted}
use Rattle.dn_volume.specs.Flights.{IsFlight}
use Rattle.dn_volume.specs.Shares.{IsWaiting, in_queue, is_begun}
use Rattle.dn_volume.specs.Reclaims.{IsReclaiming}
use Rattle.dn_volume.specs.Reserve.{HasRoom}
use Rattle.dn_volume.specs.Accounts.{AccountsFor, KeepsAlone}
use Rattle.dn_volume.specs.Agrees.{StandsFast, IsVolume, IsStopped, NamesSlots, HasHead, HasNoStale}
use Rattle.dn_volume.specs.Events.{IsBetween, MovesOn, Breaks, word_at}
use Rattle.dn_volume.specs.Rely.{IsFor, LeavesRest, StayInHand}
use Rattle.dn_volume.specs.Stills.{IsStillBut}
use Rattle.dn_volume.proofs.Heads.{head_of, head_kept}
use Rattle.dn_volume.proofs.Kept.{ops_same}
use Rattle.dn_volume.proofs.OthersStay.{others_stay}
use Rattle.count_events.specs.Released.{Stops}
use Rattle.reclaim.specs.Worked.{KeepsWork}
use Rattle.count_events.proofs.Settled.{no_client}
use Rattle.count_events.proofs.CleaningKept.{cleaning_kept}

-- who holds an inode, and how often its log was replaced, is what it was
pub record KeepsNodes (old new : List InodeState) : Type 0 where
  pub all : length new ≡ length old
  pub back : (i : ℕ) (y : InodeState) → slice_get new i ≡ Some y → (x : InodeState) × (slice_get old i ≡ Some x) × (y.holder ≡ x.holder)
  pub on : (i : ℕ) (x : InodeState) → slice_get old i ≡ Some x → (y : InodeState) × (slice_get new i ≡ Some y) × (y.round ≡ x.round)

-- what holds of every such event: the inodes that it changes are dying
pub record WorkEvent (inodes : List ℕ) (d e : Disk) (b b' : Parts) (s u : State) : Type 0 where
  pub fast : StandsFast e b.geometry u
  pub dying : (i : ℕ) → Contains inodes i → (cut : ℕ) × ((d.inode i).use_of ≡ Dying cut)
  pub leaves : LeavesRest 16 inodes [] d e s u
  pub names : (name : List ℕ) → named e name ≡ named d name
  pub live : (ino idx : ℕ) (m : Mapping) → LivePlace e ino idx m → LivePlace d ino idx m
  pub kept : KeepsWork b b'
  pub nodes : KeepsNodes b.inodes.items b'.inodes.items
  pub inodes_are : AreInodesOf e b'.inodes.items
  pub space : HasSpace e b'
  pub table : AreSlotsOf e b'.fact
  pub counts : AreCounted e b'
  pub reclaiming : IsReclaiming e b'
  pub pointers : HasNoStale e
  pub room : HasRoom b' u
  pub still : IsStillBut b' u

module _ (b b' : Parts) (kept : KeepsWork b b') where
  pub flight_same : (k : ℕ) → flight_at b'.flights.items k ≡ flight_at b.flights.items k
  flight_same k = ap (λ (fs : _). flight_at fs.items k) kept.flights

  pub flies_on : (who : ℕ) (f : Flight) → Flies b who f → Flies b' who f
  flies_on who f flies = record { client = flies.client; is = flight_same _ ∙ flies.is }

  pub flies_back : (who : ℕ) (f : Flight) → Flies b' who f → Flies b who f
  flies_back who f flies = record { client = flies.client; is = sym (flight_same _) ∙ flies.is }

  pub holds_on : (who ino : ℕ) → Holds b who ino → Holds b' who ino
  holds_on who ino (by_client f flies has) = by_client f (flies_on who f flies) has
  holds_on who ino (by_daemon item him is same) = by_daemon item him (kept.sharing ∙ is) same
  holds_on who ino (by_cleaning c him is same) = by_cleaning c him (kept.cleaning ∙ is) same

  pub holds_back : (who ino : ℕ) → Holds b' who ino → Holds b who ino
  holds_back who ino (by_client f flies has) = by_client f (flies_back who f flies) has
  holds_back who ino (by_daemon item him is same) = by_daemon item him (sym kept.sharing ∙ is) same
  holds_back who ino (by_cleaning c him is same) = by_cleaning c him (sym kept.cleaning ∙ is) same

  pub takes_on : (who page : ℕ) → Takes b who page → Takes b' who page
  takes_on who page (for_client f flies has) = for_client f (flies_on who f flies) has
  takes_on who page (for_cleaning c him is has) = for_cleaning c him (kept.cleaning ∙ is) has

  pub takes_back : (who page : ℕ) → Takes b' who page → Takes b who page
  takes_back who page (for_client f flies has) = for_client f (flies_back who f flies) has
  takes_back who page (for_cleaning c him is has) = for_cleaning c him (sym kept.cleaning ∙ is) has

  pub others_same : (who : ℕ) → SameOthers who b b'
  others_same who = record { flights = λ q some ne. flight_same _; sharing = λ ne. kept.sharing; cleaning = λ ne. kept.cleaning }

  pub ops_kept : KeepsOps b b'
  ops_kept = ops_same b b' (ap (λ (fs : _). fs.items) kept.flights)

module _ (inodes : List ℕ) (d e : Disk) (b b' : Parts) (s u : State) (v : IsVolume d b s) (is : WorkEvent inodes d e b b' s u) where
  for_it : IsFor d b 16 inodes []
  for_it = record { inode = λ i has. let dies = is.dying i has in inr (refl, dies.0, dies.1); page = λ page has. absurd (omega (arith, has.1)) }

  stay : ((q : ℕ) (f : Flight) → q ≢ 16 → Flies b' q f → IsFlight e q f u) × StayInHand 16 e b' u
  stay = others_stay 16 inodes [] d e b b' s u v is.fast for_it is.leaves (others_same b b' is.kept 16) (λ ne. absurd (ne refl))

  -- the log that is being cleaned is that of a live inode
  clean_apart : (c : Cleaning) → b.reclaiming.cleaning ≡ Some c → Contains inodes c.ino → ⊥
  clean_apart c at has = let dies = is.dying c.ino has in clash (d.inode c.ino).use_of dies.0 (v.cleaning c at).live dies.1
    where
      clash : (use_is : Use) (cut : ℕ) → use_is ≡ Live → use_is ≡ Dying cut → ⊥
      clash use_is cut live dying = cc

  below : (q : ℕ) (f : Flight) → Flies b' q f → q ≢ 16
  below q f flies me = no_client b q f v.flights.clients (omega (arith, me)) (flies_back b b' is.kept q f flies)

  waits_on : (ino slot : ℕ) → IsWaiting b ino slot → IsWaiting b' ino slot
  waits_on ino slot (in_queue work n has of_ino of_slot at round) =
      let now = is.nodes.on ino n at in
      in_queue work now.0 (subst (λ (q : _). Contains q.items work) (sym is.kept.queue) has) of_ino of_slot now.1 (round ∙ sym now.2)
  waits_on ino slot (is_begun item at of_ino of_slot) = is_begun item (is.kept.sharing ∙ at) of_ino of_slot

  holders_after : AreHolders e b'
  holders_after = record {
    told = λ ino who n at.
        let was = is.nodes.back ino n at in
        let one = v.holders.told ino who was.0 was.1 in
        ((λ holder. holds_on b b' is.kept who ino (one.0 (sym was.2 ∙ holder))), (λ holds. was.2 ∙ one.1 (holds_back b b' is.kept who ino holds)));
    in_table = λ ino who holds. subst (λ (g : Geometry). ino < g.inodes) (sym is.leaves.rest.geometry)
        (v.holders.in_table ino who (holds_back b b' is.kept who ino holds));
  }

  trace_after : NamesSlots b'
  trace_after = subst (λ (g : Geometry). All (λ (c : CountChange). c.slot < slots g) b'.trace.items) (sym is.kept.geometry)
      (subst (λ (t : _). All (λ (c : CountChange). c.slot < slots b.geometry) t.items) (sym is.kept.trace) v.trace)

  pub volume_worked : IsVolume e b' u
  volume_worked = record {
    fast = subst (λ (g : Geometry). StandsFast e g u) (sym is.kept.geometry) is.fast;
    running = is.kept.stopped ∙ v.running;
    names = record { leads = λ name. ap (λ (ns : _). get ns.map name) is.kept.names ∙ v.names.leads name ∙ sym (is.names name) };
    inodes = is.inodes_are;
    holders = holders_after;
    space = is.space;
    table = is.table;
    counts = is.counts;
    flights = record {
      clients = ap (λ (fs : _). length fs.items) is.kept.flights ∙ v.flights.clients;
      each = λ q f flies. stay.0 q f (below q f flies) flies;
    };
    queue = record { waits = λ ino idx m place undone. waits_on ino m.slot (v.queue.waits ino idx m (is.live ino idx m place) undone) };
    sharing = stay.1.sharing (omega arith);
    reclaiming = is.reclaiming;
    cleaning = cleaning_kept inodes [] d e b b' s u v is.leaves.rest is.leaves.only is.kept.cleaning clean_apart
        (λ c at page took has. absurd (omega (arith, has.1)));
    pointers = is.pointers;
    room = is.room;
    trace = trace_after;
    still = is.still;
  }

-- what of the device and the disk the event's promise speaks of beside that
pub record WorkShown (print : Print) (d e : Disk) (s u : State) : Type 0 where
  pub images : LeavesOnly s u (IsBetween print d e)
  pub quiet : IsSameFiles (files e) (files d)
  pub own : IsOwn print d → IsOwn print e
  pub accounts : AccountsFor print d e
  pub alone : KeepsAlone d e
  pub words : (slot : ℕ) → word_at e slot ≡ word_at d slot
  pub faults : s.faults ≤ u.faults

module _ {D F : Type 0} (state : D → State) (print : Print) (w w' : Volume D F) (d e : Disk) (v : IsVolume d w.parts (state w.device))
    (shown : WorkShown print d e (state w.device) (state w'.device)) where
  pub work_moves : (inodes : List ℕ) → WorkEvent inodes d e w.parts w'.parts (state w.device) (state w'.device) → MovesOn state print 16 w w' d
  work_moves inodes is = record {
    after = e;
    moves = record {
      volume = volume_worked inodes d e w.parts w'.parts (state w.device) (state w'.device) v is;
      images = shown.images;
      own = shown.own;
      accounts = λ own. shown.accounts;
      alone = λ is. shown.alone;
      traces = record { more = []; trace = ap (λ (t : _). t.items) is.kept.trace ∙ sym (append-nil w.parts.trace.items); words = shown.words };
      others = others_same w.parts w'.parts is.kept 16;
      counts = is.kept.made;
      geometry = is.kept.geometry;
      faults = shown.faults;
    };
    quiet = shown.quiet;
    ops = ops_kept w.parts w'.parts is.kept;
    history = ap (λ (h : _). h.items) is.kept.history;
  }

  module _ (stops : Stops w.parts w'.parts) (W : ℕ → Type 0) (only : StoresOnly W (state w.device) (state w'.device)) (high : (a : ℕ) → a < 4 → W a
      → ⊥) where
    pub work_stopped : IsStopped w'.parts (state w'.device)
    work_stopped = record {
      stopped = stops.stopped;
      accepted = subst IsAccepted (v.fast.geometry ∙ sym stops.geometry) v.fast.valid.accepted;
      long = only.words ∙ v.fast.long ∙ ap (λ (g : Geometry). 512 * g.pages) (v.fast.geometry ∙ sym stops.geometry);
      head = head_kept W w'.parts.geometry (state w.device) (state w'.device) high only
          (subst (λ (g : Geometry). HasHead g (state w.device).now) (sym stops.geometry) (head_of d w.parts.geometry (state w.device) v.fast));
      trace = subst (λ (g : Geometry). All (λ (c : CountChange). c.slot < slots g) w'.parts.trace.items) (sym stops.geometry)
          (subst (All (λ (c : CountChange). c.slot < slots w.parts.geometry)) (sym stops.trace) v.trace);
    }

    pub work_breaks : Rose (state w.device).faults (state w'.device).faults → Breaks state print 16 None w w' d
    work_breaks rose = record {
      stopped = work_stopped;
      after = e;
      images = shown.images;
      rose = rose;
      quiet = λ none. shown.quiet;
      ops = ops_same w.parts w'.parts stops.flights;
      others = record {
        flights = λ q some other. ap (λ (fs : List (Option Flight)). flight_at fs (q - 1)) stops.flights;
        sharing = λ other. stops.sharing;
        cleaning = λ other. stops.cleaning;
      };
      trace = record { more = []; trace = stops.trace ∙ sym (append-nil w.parts.trace.items) };
      geometry = stops.geometry;
      answering = λ op none. cc;
      answered = λ op none. cc;
      history = stops.history;
      counts = stops.made;
      faults = shown.faults;
    }
