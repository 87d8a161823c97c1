-- The volume, once a write or a cut is ended.
use Rattle.std.proofs.Common.{◌≡◌, ◌≢◌, inl, ℕ, ◌+◌, ◌*◌, ◌<◌, ◌≤◌, List, [], ◌∷◌, length, refl, sym, ◌∙◌, ap, subst, arith}
use Rattle.std.specs.Prelude.{Some, None, Contains, All}
use Rattle.std.specs.FinMap.{get}
use Rattle.pm_device.specs.State.{State}
use Rattle.pm_device.specs.Settled.{SettlesAll}
use Rattle.pm_device.specs.Reading.{Stands}
use Rattle.pm_layout.specs.declared.Geometry.{Geometry}
use Rattle.pm_layout.specs.Geometry.{slots}
use Rattle.dn_model.specs.Table.{Row}
use Rattle.dn_model.specs.Disk.{Disk, DiskSays, rows}
use Rattle.law_write.proofs.WriteValid.{named_same, written_valid}
use Rattle.file_commit.specs.Append.{AppendsOnly}
use Rattle.dn_volume.specs.declared.flight.Flight.{Flight}
use Rattle.dn_volume.specs.declared.flight.Change.{Change}
use Rattle.dn_volume.specs.declared.flight.Change.TheVariants.{Data, Names}
use Rattle.dn_volume.specs.declared.flight.DataChange.{DataChange}
use Rattle.dn_model.specs.declared.op.CountChange.{CountChange}
use Rattle.dn_volume.specs.declared.volume.Parts.{Parts}
use Rattle.dn_volume.specs.Parties.{Flies, Holds, by_client, for_client, taken_by}
use Rattle.dn_volume.specs.Flights.{IsDataFlight, IsFlight, IsFlightOf, GrowsBy}
use Rattle.dn_volume.specs.Space.{AreSlotsOf}
use Rattle.dn_volume.specs.Reserve.{units_by}
use Rattle.dn_volume.specs.Rely.{StayInHand}
use Rattle.dn_volume.specs.Agrees.{StandsFast, IsVolume, NamesSlots}
use Rattle.dn_volume.proofs.Heads.{none_stale_kept}
use Rattle.dn_volume.proofs.OthersStay.{others_stay}
use Rattle.dn_volume.proofs.Stills.{still_settles}
use Rattle.file_ops.specs.Ends.{ChangesData, Ends}
use Rattle.dn_volume.proofs.Replaced.{few, others_same, flies_other}
use Rattle.file_ops.proofs.Basics.{held_is}
use Rattle.file_ops.proofs.Freed.{rows_same}
use Rattle.file_ops.proofs.Frame.{leaves_rest}
use Rattle.file_ops.proofs.Space.{space_after}
use Rattle.file_ops.proofs.Counts.{counted_after}
use Rattle.file_ops.proofs.Nodes.{inodes_after, holders_after, let_go}
use Rattle.file_ops.proofs.Waiting.{queued_after, reclaiming_after}
use Rattle.file_ops.proofs.Owed.{room_after}

module _ (d e : Disk) (b b' : Parts) (s t : State) (who : ℕ) (f : Flight) (c : DataChange) (from n : ℕ) (v : IsVolume d b s) (flies : Flies b who f)
    (kind : f.change ≡ Data c)
    (is : IsDataFlight d who f c s) (all_raised : f.raised ≡ length f.rows.items) (disk : ChangesData d e f c from n)
    (ends : Ends d e who f c from n b b')
    (stands : Stands (DiskSays e) t) (appends : AppendsOnly who f.ino d e s t) (settles : SettlesAll who s t)
    (units : s.spare ≤ t.spare + units_by f (Data c)) where
  held : f.held.items ≡ f.ino ∷ []
  held = held_is d f c f.op is.plans

  pub fast_after : StandsFast e b.geometry t
  fast_after = record {
    geometry = disk.event.relogs.geometry ∙ v.fast.geometry;
    long = appends.only.words ∙ v.fast.long ∙ sym (ap (λ (g : Geometry). 512 * g.pages) disk.event.relogs.geometry);
    valid = written_valid f.ino d e disk.event disk.well;
    stands = stands;
  }

  mine : (i : ℕ) → Contains (f.ino ∷ []) i → Holds b who i
  mine i has = by_client f flies (subst (λ (xs : List ℕ). Contains xs i) (sym held) has)

  -- what others have in flight, and in hand
  pub others_after : ((q : ℕ) (g : Flight) → q ≢ who → Flies b' q g → IsFlight e q g t) × StayInHand who e b' t
  others_after = others_stay who (f.ino ∷ []) (taken_by f) d e b b' s t v fast_after
      (record { inode = λ i has. inl (mine i has); page = λ page has. inl (for_client f flies has) })
      (leaves_rest d e f c from n kind disk who s t appends) (others_same who flies.client (Some f) None b b' ends.flight) (λ ne. ends.keeps.raised)

  client : who ≤ 14
  client = few who flies.client (Some f) None b b' ends.flight

  -- a flight of another actor is not for this inode
  other_file : (q : ℕ) (g : Flight) → Flies b' q g → g.ino ≢ f.ino
  other_file q g g_flies same =
      let before = (flies_other who flies.client (Some f) None b b' ends.flight refl q g g_flies).1 in
      let_go d e b b' f c from n v.inodes disk ends.inode who v.holders flies.client held ends.flight q
      (by_client g g_flies (subst (Contains g.held.items) same (by_change g.change (v.flights.each q g before)).holds))
    where
      by_change : (x : Change) → IsFlightOf d q g s x → GrowsBy d g
      by_change (Data x) fact = fact.grows
      by_change (Names x) fact = fact.grows

  rows_still : rows e ≡ rows d
  rows_still = rows_same f.ino d e disk.event disk.well from n disk.drops

  table_after : AreSlotsOf e b'.fact
  table_after = subst (AreSlotsOf e) (sym ends.keeps.fact) (record {
    geometry = disk.event.relogs.geometry ∙ v.table.geometry;
    set = v.table.set;
    free = λ k there row has. v.table.free k there row (subst (λ (rs : List Row). Contains rs row) rows_still has);
    taken = λ k lt not.
        let found = v.table.taken k lt not in
        record {
          row = found.row;
          is = record {
            there = subst (λ (rs : List Row). Contains rs found.row) (sym rows_still) found.is.there;
            slot_is = found.is.slot_is;
          };
        };
  })

  trace_after : NamesSlots b'
  trace_after = subst (λ (g : Geometry). All (λ (change : CountChange). change.slot < slots g) b'.trace.items) (sym ends.keeps.geometry)
      (subst (λ trace. All (λ (change : CountChange). change.slot < slots b.geometry) trace.items) (sym ends.keeps.trace) v.trace)

  pub volume_after : IsVolume e b' t
  volume_after = record {
    fast = subst (λ (g : Geometry). StandsFast e g t) (sym ends.keeps.geometry) fast_after;
    running = ends.keeps.stopped ∙ v.running;
    names = record {
      leads = λ name. ap (λ names. get names.map name) ends.keeps.names ∙ v.names.leads name ∙ sym
          (named_same f.ino d e disk.event disk.well name);
    };
    inodes = inodes_after d e b b' f c from n v.inodes disk ends.inode;
    holders = holders_after d e b b' f c from n v.inodes disk ends.inode who v.holders flies.client held ends.flight;
    space = space_after d e b b' who f c from n v.space flies kind is.grows.apart disk ends.flight ends.pages;
    table = table_after;
    counts = counted_after d e b b' who f c from n v.fast.valid v.counts flies all_raised disk ends.keeps ends.flight ends.releases;
    flights = record {
      clients = ends.flight.clients ∙ v.flights.clients;
      each = λ q g g_flies. others_after.0 q g (flies_other who flies.client (Some f) None b b' ends.flight refl q g g_flies).0 g_flies;
    };
    queue = queued_after d e b b' f c from n (length c.runs.items) v.inodes disk ends.keeps ends.flight.sharing ends.inode ends.queue v.queue;
    sharing = others_after.1.sharing (λ him. omega (arith, him, client));
    reclaiming = reclaiming_after d e b b' f c from n (length c.runs.items) v.inodes disk ends.keeps ends.flight.sharing ends.inode ends.releases
        (others_after.1.raised (λ him. omega (arith, him, client))) v.reclaiming;
    cleaning = others_after.1.cleaning (λ him. omega (arith, him, client));
    pointers = none_stale_kept d e disk.event.relogs.geometry disk.event.relogs.pointer
        (λ row has. record { row = row; there = subst (λ (rs : List Row). Contains rs row) (sym rows_still) has; page_is = refl }) v.pointers;
    room = room_after b b' who f flies.client ends.keeps ends.flight ends.owed e c s t kind ends.history.0 from n ends.inode ends.releases
        ends.queue ends.history.1 units other_file v.room;
    trace = trace_after;
    still = still_settles who b b' s t (record { words = settles.words; kept = settles.kept; own = settles.own })
        (others_same who flies.client (Some f) None b b' ends.flight) v.still;
  }
