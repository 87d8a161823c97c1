-- What the last event of a write or a cut makes of the parts.
use Rattle.std.proofs.Common.{◌≡◌, inl, inr, ⊎_elim, ℕ, ◌+◌, ◌-◌, ◌*◌, ◌<◌, ◌≤◌, List, [], ◌∷◌, ◌++◌, length, refl, sym, ◌∙◌, ap, subst, arith}
use Rattle.std.specs.Prelude.{slice_get, Option, Some, None, Contains, vec_len, vec_capacity}
use Rattle.std.specs.VecDeque.{deque_len, deque_capacity}
use Rattle.std.proofs.lemmas.List.{length-map}
use Rattle.pm_device.specs.State.{State}
use Rattle.file_content.specs.Runs.{seen, all_seen}
use Rattle.dn_model.specs.Log.{count, tail_at, slot_name}
use Rattle.dn_model.specs.Maps.{Mapping}
use Rattle.dn_model.specs.Disk.{Disk, maps}
use Rattle.dn_model.specs.Files.{files, IsSameFiles}
use Rattle.dn_model.specs.Own.{Print, IsOwn}
use Rattle.dn_model.specs.Apply.{IsGranted, Grants, after_op}
use Rattle.dn_model.specs.declared.op.Op.{Op}
use Rattle.dn_model.specs.declared.op.Op.TheVariants.{Write}
use Rattle.dn_model.specs.declared.op.Reply.TheVariants.{Done}
use Rattle.dn_volume.specs.declared.flight.Flight.{Flight}
use Rattle.dn_volume.specs.declared.flight.Change.TheVariants.{Data}
use Rattle.dn_volume.specs.declared.flight.DataChange.{DataChange}
use Rattle.dn_volume.specs.declared.volume.InodeState.{InodeState}
use Rattle.dn_volume.specs.declared.volume.Parts.{Parts}
use Rattle.dn_volume.specs.Parties.{Flies, flight_at}
use Rattle.dn_volume.specs.Flights.{IsDataFlight}
use Rattle.dn_volume.specs.Reserve.{units_by, runs_by}
use Rattle.dn_volume.specs.Agrees.{IsVolume}
use Rattle.file_commit.specs.Append.{IsReadyToAppend}
use Rattle.dn_volume.specs.Replaces.{Replaces}
use Rattle.file_ops.specs.Ends.{ChangesData, ChangesInode, Ends, GivesPages}
use Rattle.file_ops.specs.Giving.{Gives, IsUnsharedAmong}
use Rattle.file_ops.specs.Ending.{MapsAt, FinishesBy}
use Rattle.file_ops.proofs.DiskAfter.{after, may, changes, ready, old_fits, own_after, files_after, granted}
use Rattle.file_ops.proofs.Nodes.{log_grown}
use Rattle.file_ops.proofs.Ready.{file_is, freed_is, is_freed}
use Rattle.file_ops.proofs.Slots.{mapped_slot}

some_same : (o : Option InodeState) (x y : InodeState) → o ≡ Some x → o ≡ Some y → x ≡ y
some_same o x y a b = cc

-- what a volume keeps while its flight is out: fewer flights, more free pages, and one call more
pub record IsOut (b mid : Parts) : Type 0 where
  pub geometry : mid.geometry ≡ b.geometry
  pub names : mid.names ≡ b.names
  pub fact : mid.fact ≡ b.fact
  pub trace : mid.trace ≡ b.trace
  pub stopped : mid.stopped ≡ b.stopped
  pub inodes : mid.inodes ≡ b.inodes
  pub queue : mid.queue ≡ b.queue
  pub reclaiming : mid.reclaiming ≡ b.reclaiming
  pub owed : mid.owed ≡ b.owed
  pub history : mid.history ≡ b.history

-- The disk to which the last event of a write or a cut leads: n places from this one on are mapped to the flight's pages, or go.
pub record Decides (d : Disk) (s : State) (who : ℕ) (f : Flight) (c : DataChange) (e : Disk) (from n : ℕ) : Type 0 where
  pub all_filled : c.filled ≡ length c.blocks.items
  pub all_raised : f.raised ≡ length f.rows.items
  pub changes : ChangesData d e f c from n
  pub ready : IsReadyToAppend d.geometry who f.ino f.fresh.items f.slots.items d e changes.event s
  pub own : (print : Print) → IsOwn print d → IsOwn print e
  pub files_after : (print : Print) → IsOwn print d → IsSameFiles (files e) (after_op (files d) f.op)
  pub granted : IsGranted (files d) f.op
  pub grants : Grants (files d) f.op Done
  -- the item of a place that is mapped anew is that of one of the runs, past the log's tail
  pub slots : (idx : ℕ) (m : Mapping) → from ≤ idx → idx < from + n → maps e f.ino idx ≡ Some m
      → (j : ℕ) × (j < length c.runs.items) × (m.slot ≡ slot_name ((d.inode f.ino).log.pages ++ f.fresh.items) (count (d.inode f.ino).log + j))

module _ (d : Disk) (b : Parts) (s : State) (who : ℕ) (f : Flight) (c : DataChange) (v : IsVolume d b s) (flies : Flies b who f)
    (kind : f.change ≡ Data c) (is : IsDataFlight d who f c s) (e : Disk) (from n : ℕ) (decides : Decides d s who f c e from n)
    (node : InodeState) (node_is : slice_get b.inodes.items f.ino ≡ Some node)
    (mid b' : Parts) (tail : ℕ) (tail_is : tail ≡ tail_at (d.inode f.ino).log.pages (count (d.inode f.ino).log)) (out : IsOut b mid)
    (ended : Replaces (who - 1) (Some f) None b mid)
    (gives : Gives (IsUnsharedAmong d node.map.map from n) b.free mid.free) (inodes_end : List InodeState → List InodeState → Type 0)
    (finish : FinishesBy inodes_end who tail f c mid b') (inode : ChangesInode e f.ino c.size mid b')
  where
    disk : ChangesData d e f c from n
    disk = decides.changes

    pub pages_given : GivesPages d f from n b b'
    pages_given = record {
      pages = finish.free.pages ∙ gives.pages;
      in_order = finish.free.in_order;
      free = λ page. (
        (λ there. ⊎_elim
            (λ (mid_free : Contains mid.free.free page). ⊎_elim (λ was. inl was)
            (λ a. inr (inr (freed_is d b s who f c v flies kind is node node_is from n page a)))
            ((gives.free page).0 mid_free))
            (λ spare. inr (inl spare)) ((finish.free.free page).0 there)),
        (λ h. (finish.free.free page).1 (⊎_elim (λ was. inl ((gives.free page).1 (inl was)))
            (λ more. ⊎_elim (λ spare. inr spare)
            (λ freed. inl ((gives.free page).1 (inr (is_freed d b s who f c v flies kind is node node_is from n page
            freed)))) more) h)),
      );
      no_less = omega (arith, finish.free.no_less, gives.no_less);
    }

    mid_state : (x : InodeState) → slice_get b.inodes.items f.ino ≡ Some x → slice_get mid.inodes.items f.ino ≡ Some x
    mid_state x was = ap (λ (ns : _). slice_get ns.items f.ino) out.inodes ∙ was

    pub all_ends : Ends d e who f c from n b b'
    all_ends =
        let q = finish.queue node (mid_state node node_is) in
        record {
          keeps = record {
            geometry = finish.geometry ∙ out.geometry;
            names = finish.names ∙ out.names;
            fact = finish.fact ∙ out.fact;
            trace = finish.trace ∙ out.trace;
            stopped = finish.stopped ∙ out.stopped;
            raised = finish.raised ∙ ap (λ (r : _). r.raised) out.reclaiming;
            zero_check = finish.zero_check ∙ ap (λ (r : _). r.zero_check) out.reclaiming;
          };
          flight = record {
            place = ended.place;
            clients = ap (λ (fs : _). length fs.items) finish.flights ∙ ended.clients;
            was = ended.was;
            now = ap (λ (fs : _). flight_at fs.items (who - 1)) finish.flights ∙ ended.now;
            others = λ k ne. ap (λ (fs : _). flight_at fs.items k) finish.flights ∙ ended.others k ne;
            sharing = finish.sharing ∙ ended.sharing;
            cleaning = finish.cleaning ∙ ended.cleaning;
          };
          inode = record {
            all = inode.all ∙ ap (λ (ns : _). length ns.items) out.inodes;
            others = λ i ne. inode.others i ne ∙ ap (λ (ns : _). slice_get ns.items i) out.inodes;
            here = λ old new was now. inode.here old new (mid_state old was) now;
          };
          pages = pages_given;
          releases = record {
            items = finish.releases ∙ ap (λ (r : _). r.releases.items ++ f.rows.items) out.reclaiming;
            waiting = finish.waiting ∙ ap (λ (r : _). r.waiting + 2 * length f.rows.items) out.reclaiming;
            room = finish.releases_len ∙ ap (λ (r : _). deque_len r.releases + length f.rows.items) out.reclaiming;
            capacity = let same = finish.releases_capacity ∙ ap (λ (r : _). deque_capacity r.releases) out.reclaiming in omega (arith, same);
          };
          queue = record {
            more = q.more;
            items = q.items ∙ ap (λ (w : _). w.items ++ q.more) out.queue;
            each = λ idx m x low high mapped was.
                let slot = decides.slots idx m low high mapped in
                let same = some_same (slice_get b.inodes.items f.ino) node x node_is was in
                subst (λ (y : InodeState). Contains q.more (record { ino = f.ino; round = y.round; slot = m.slot })) same
                (subst (λ (k : ℕ). Contains q.more (record { ino = f.ino; round = node.round; slot = k })) (sym slot.2)
                (q.each d.geometry (d.inode f.ino).log disk.event.paged tail_is slot.0 slot.1));
            room = let same = ap (λ (w : _). w.room) out.queue in omega (arith, q.room, same);
          };
          history = (
            record { who = who; op = f.op; reply = Done },
            record {
              items = finish.history ∙ ap (λ (h : _). h.items ++ record { who = who; op = f.op; reply = Done } ∷ []) out.history;
              room = finish.history_len ∙ ap (λ (h : _). vec_len h + 1) out.history;
              capacity = let same = finish.history_capacity ∙ ap (λ (h : _). vec_capacity h) out.history in omega (arith, same);
            },
          );
          owed = record {
            units = let spent = ap (units_by f) kind in let same = finish.units ∙ ap (λ (o : _). o.units) out.owed in
                omega (arith, spent, same, decides.all_filled, decides.all_raised);
            trace = let same = finish.owed_trace ∙ ap (λ (o : _). o.trace) out.owed in omega (arith, same, decides.all_raised);
            history = let same = finish.owed_history ∙ ap (λ (o : _). o.history) out.owed in omega (arith, same);
            queue = let runs = ap runs_by kind in let same = finish.owed_queue ∙ ap (λ (o : _). o.queue) out.owed in omega (arith, runs, same);
            releases = let same = finish.owed_releases ∙ ap (λ (o : _). o.releases) out.owed in omega (arith, same);
          };
        }

-- a write
module _ (d : Disk) (b : Parts) (s : State) (who : ℕ) (f : Flight) (c : DataChange) (v : IsVolume d b s) (flies : Flies b who f)
    (kind : f.change ≡ Data c) (is : IsDataFlight d who f c s)
    (name : List ℕ) (at : ℕ) (text : List ℕ) (op_is : f.op ≡ Write name at text) (all_filled : c.filled ≡ length c.blocks.items)
    (all_raised : f.raised ≡ length f.rows.items) where
  abbrev e : Disk
  e = after d b s who f c v flies kind is name at text op_is all_filled all_raised

  abbrev changed : ChangesData d e f c c.first (length c.blocks.items)
  changed = changes d b s who f c v flies kind is name at text op_is all_filled all_raised

  -- the slot of a place's item, past the log's tail
  slot_waits : (idx : ℕ) (m : Mapping) → c.first ≤ idx → idx < c.first + length c.blocks.items → maps e f.ino idx ≡ Some m
      → (j : ℕ) × (j < length c.runs.items) × (m.slot ≡ slot_name ((d.inode f.ino).log.pages ++ f.fresh.items) (count (d.inode f.ino).log + j))
  slot_waits idx m low high mapped =
      let by = changed.drops.anew idx m low high mapped in
      let found = mapped_slot f.ino d e changed.event changed.well c.size (all_seen c.runs.items) refl idx m mapped by.0 by.1 by.2 in (
        found.0,
        omega (arith, found.1, length-map c.runs.items seen),
        found.2 ∙ ap (λ (ps : List ℕ). slot_name ps (count (d.inode f.ino).log + found.0)) changed.event.grown.pages,
      )

  pub write_decides : Decides d s who f c e c.first (length c.blocks.items)
  write_decides = record {
    all_filled = all_filled;
    all_raised = all_raised;
    changes = changed;
    ready = ready d b s who f c v flies kind is name at text op_is all_filled all_raised;
    own = own_after d b s who f c v flies kind is name at text op_is all_filled all_raised;
    files_after = files_after d b s who f c v flies kind is name at text op_is all_filled all_raised;
    granted = granted d b s who f c v flies kind is name at text op_is all_filled all_raised;
    grants = subst (λ (o : Op). Grants (files d) o Done) (sym op_is) refl;
    slots = slot_waits;
  }

  pub write_inode : (mid b' : Parts) (tail : ℕ) → tail ≡ tail_at (d.inode f.ino).log.pages (count (d.inode f.ino).log) → mid.inodes ≡ b.inodes
      → MapsAt f.ino c.size tail f.fresh.items c.runs.items mid.inodes.items b'.inodes.items → ChangesInode e f.ino c.size mid b'
  write_inode mid b' tail tail_is inodes maps_at = record {
    all = maps_at.all;
    others = maps_at.others;
    here = λ old new was now.
        let maps_it = maps_at.here old new was now in
        let here = ap (λ (ns : _). slice_get ns.items f.ino) (sym inodes) ∙ was in
        let held = file_is d b s who f c v flies kind is old here in
        record {
          used = maps_it.used;
          size_is = maps_it.size_is;
          log_pages = log_grown d e f c c.first (length c.blocks.items) changed old new (v.inodes.each f.ino old here) maps_it.log_pages;
          round = maps_it.round;
          holder = maps_it.holder;
          places = (maps_it.file d old.size c.first _ held (may d b s who f c v flies kind is name at text op_is all_filled all_raised) tail_is
              (omega (arith, held.size_is, old_fits d b s who f c v flies kind is name at text op_is all_filled all_raised))).places;
        };
  }
