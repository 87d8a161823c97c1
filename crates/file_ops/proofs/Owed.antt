-- The room that is owed, once a flight is ended.
use Rattle.std.proofs.Common.{◌≡◌, ◌≢◌, ℕ, ◌+◌, ◌-◌, ◌≤◌, length, refl, sym, ◌∙◌, ap, subst, arith}
use Rattle.std.specs.Prelude.{Some, None, vec_len, vec_capacity}
use Rattle.pm_device.specs.State.{State}
use Rattle.dn_model.specs.declared.op.Entry.{Entry}
use Rattle.dn_volume.specs.declared.flight.Flight.{Flight}
use Rattle.dn_volume.specs.declared.flight.Change.TheVariants.{Data}
use Rattle.dn_volume.specs.declared.flight.DataChange.{DataChange}
use Rattle.dn_volume.specs.declared.volume.Parts.{Parts}
use Rattle.dn_volume.specs.Parties.{Flies}
use Rattle.dn_volume.specs.Reserve.{owed_to, runs_by, units_by, HasRoom}
use Rattle.dn_volume.specs.Replaces.{Replaces, MovesOwed}
use Rattle.dn_volume.proofs.Replaced.{owes, flies_other}
use Rattle.file_ops.specs.Ends.{KeepsParts, ChangesInode, Releases, Queues, Enters}
use Rattle.dn_model.specs.Disk.{Disk}

module _ (b b' : Parts) (who : ℕ) (f : Flight) (client : 1 ≤ who) (keeps : KeepsParts b b') (ended : Replaces (who - 1) (Some f) None b b')
    (owed : MovesOwed (Some f) None b b') where
  -- the flight of another actor is on another inode
  module _ (e : Disk) (c : DataChange) (s t : State) (kind : f.change ≡ Data c) (entry : Entry) (from n : ℕ)
      (change : ChangesInode e f.ino c.size b b') (releases : Releases f b b')
      (queues : Queues e f.ino from n (length c.runs.items) b b') (enters : Enters entry b b') (units : s.spare ≤ t.spare + units_by f (Data c))
      (others : (q : ℕ) (g : Flight) → Flies b' q g → g.ino ≢ f.ino) where
    pub room_after : HasRoom b s → HasRoom b' t
    room_after was =
        let runs : (owed_to (Some f)).queue ≡ length c.runs.items = ap runs_by kind in
        let spent : (owed_to (Some f)).units ≡ units_by f (Data c) = ap (units_by f) kind in
        let room = ap (λ (index : _). index) keeps.names in
        record {
          owes = owes who client (Some f) None b b' ended owed keeps.raised keeps.zero_check was.owes;
          units = omega (arith, was.units, owed.units, spent, units);
          trace = subst (λ v. vec_len v + b'.owed.trace ≤ vec_capacity v) (sym keeps.trace) (omega (arith, was.trace, owed.trace));
          history = omega (arith, was.history, owed.history, enters.room, enters.capacity);
          queue = omega (arith, was.queue, owed.queue, runs, queues.room);
          releases = omega (arith, was.releases, owed.releases, releases.room, releases.capacity);
          names = subst (λ names. b'.owed.history ≤ names.room) (sym keeps.names) (omega (arith, was.names, owed.history));
          places = λ q g h x g_flies kind' is. was.places q g h x (flies_other who client (Some f) None b b' ended refl q g g_flies).1 kind'
              (sym (change.others g.ino (others q g g_flies)) ∙ is);
        }
