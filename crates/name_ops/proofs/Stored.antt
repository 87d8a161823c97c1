-- What the first advance of an operation on names stores is what has to stand.
use Rattle.std.proofs.Common.{◌≡◌, ℕ, ◌+◌, ◌*◌, ◌<◌, ◌≤◌, List, [], ◌∷◌, length, refl, sym, ◌∙◌, ap, subst, arith, Some}
use Rattle.std.specs.Prelude.{slice_get}
use Rattle.pm_device.specs.State.{State, Agree}
use Rattle.pm_device.specs.Settled.{FlushesAll}
use Rattle.pm_device.specs.Lines.{StoresRun}
use Rattle.pm_device.proofs.AllFlushed.{flushes-then}
use Rattle.pm_layout.specs.declared.Geometry.{Geometry}
use Rattle.pm_layout.specs.Geometry.{inode_word}
use Rattle.log_entry.specs.Spelling.{pages_of}
use Rattle.inode_log.specs.Prepare.{IsToPrepare as IsToPrepareLog, CanPrepare, IsPreparedBy, Prepares as PreparesLog, IsNextTail}
use Rattle.dn_model.specs.Log.{Log, count, tail_at, at_tail}
use Rattle.dn_model.specs.Maps.{size_of}
use Rattle.dn_model.specs.Disk.{Disk, IsUsed, Live, of_logs}
use Rattle.law_names.specs.NameChange.{Turn as DiskTurn, MayTurn, MayChange, root_after, turn_field, turn_words}
use Rattle.law_names.proofs.ChangedValid.{root_paged}
use Rattle.dn_volume.specs.declared.units.TheConstants.{SLOT_UNITS, TURN_UNITS}
use Rattle.dn_volume.specs.declared.flight.Flight.{Flight}
use Rattle.dn_volume.specs.declared.flight.NameChange.{NameChange}
use Rattle.dn_volume.specs.declared.flight.Turn.{Turn}
use Rattle.dn_volume.specs.declared.flight.Turn.TheVariants as kept_turn
use Rattle.dn_volume.specs.declared.volume.InodeState.{InodeState}
use Rattle.dn_volume.specs.declared.volume.Parts.{Parts}
use Rattle.dn_volume.specs.Flights.{IsNameFlight, as_turn}
use Rattle.dn_volume.specs.Agrees.{IsVolume}
use Rattle.name_ops.specs.Preparing.{IsToPrepare, kept_words, StoresFlight}
use Rattle.name_ops.proofs.NameFlight.{may, fresh_is}

-- the words of an inode that turns, from its size
words_kept : (k : Turn) (turn : DiskTurn) (log : Log) (size : ℕ) → turn ≡ as_turn k → (turn_words turn log ≡ turn_words (as_turn k) log)
    → (k ≡ kept_turn.Goes → size_of log ≡ size) → kept_words k size ≡ turn_words turn log
words_kept kept_turn.Stays turn log size is same goes = sym same
words_kept kept_turn.Comes turn log size is same goes = sym same
words_kept kept_turn.Goes turn log size is same goes = ap (λ (n : ℕ). pages_of n ∷ []) (sym (goes refl)) ∙ sym same

module _ (d : Disk) (b : Parts) (s : State) (who : ℕ) (f : Flight) (c : NameChange) (fl : IsNameFlight d who f c s) (volume : IsVolume d b s)
    (to : IsToPrepare b who f c) where
  can : MayChange d fl.change
  can = may d b s who f c volume to.flies to.change_is fl

  root_live : (d.inode 0).use_of ≡ Live
  root_live = volume.fast.valid.root

  in_table : 0 < d.geometry.inodes
  in_table = let few = can.in_table in omega (arith, few)

  pub to_prepare : IsToPrepareLog b.geometry f.ino f.slots.items f.fresh.items (d.inode 0).log (root_after d fl.change) s
  to_prepare = subst (λ (h : Geometry). IsToPrepareLog h f.ino f.slots.items f.fresh.items (d.inode 0).log (root_after d fl.change) s)
      volume.fast.geometry
      (subst (λ (i : ℕ). IsToPrepareLog d.geometry i f.slots.items f.fresh.items (d.inode 0).log (root_after d fl.change) s) (sym fl.root) (record {
        grown = record { fresh = fl.change.fresh; more = fl.change.more; pages = refl; items = refl };
        paged = (volume.fast.valid.logs 0 in_table (subst IsUsed (sym root_live) tt)).paged;
        paged' = root_paged d fl.change can;
        slots_are = fl.slots;
        fresh_are = fresh_is d b s who f c volume to.flies to.change_is fl;
        tail = volume.fast.stands.reads (inode_word 0 2) (tail_at (d.inode 0).log.pages (count (d.inode 0).log))
            (of_logs (record { ino = 0; in_table = in_table; used = subst IsUsed (sym root_live) tt; says = at_tail refl refl }));
      }))

  pub can_prepare : CanPrepare b.geometry f.ino f.slots.items f.fresh.items s
  can_prepare = record { old = (d.inode 0).log; new = root_after d fl.change; is = to_prepare }

  pub root_there : f.ino < b.geometry.inodes
  root_there = let few = in_table in let root = fl.root in let same = ap (λ (g : Geometry). g.inodes) volume.fast.geometry in
      omega (arith, few, root, same)

  pub node_there : c.node < b.geometry.inodes
  node_there = let few = fl.node_in_table in let same = ap (λ (g : Geometry). g.inodes) volume.fast.geometry in omega (arith, few, same)

  pub node_kept : c.node < length b.inodes.items
  node_kept = let few = fl.node_in_table in let all = volume.inodes.all in omega (arith, few, all)

  -- what is stored is what has to stand
  module _ (u t : State) (agree : Agree u.now u.past) (prepared : PreparesLog b.geometry who f.ino f.slots.items f.fresh.items s u) (tail : ℕ)
      (tail_is : IsNextTail b.geometry f.ino f.slots.items f.fresh.items s tail)
      (flushes_u : FlushesAll who s u) (spare_u : s.spare ≤ u.spare + SLOT_UNITS * (length f.slots.items + length f.fresh.items))
      (faults_u : s.faults ≤ u.faults)
      (n : InodeState) (at : slice_get b.inodes.items c.node ≡ Some n)
      (stored : StoresRun who (inode_word c.node (turn_field (as_turn c.turn))) (kept_words c.turn n.size) u t) (flushes_t : FlushesAll who u t)
      (spare_t : u.spare ≤ t.spare + TURN_UNITS) (faults_t : u.faults ≤ t.faults) where
    words_are : kept_words c.turn n.size ≡ turn_words fl.change.turn (d.inode fl.change.ino).log
    words_are = words_kept c.turn fl.change.turn (d.inode fl.change.ino).log n.size fl.turn_is
        (ap (λ (x : DiskTurn). turn_words x (d.inode fl.change.ino).log) fl.turn_is) goes
      where
        goes : c.turn ≡ kept_turn.Goes → size_of (d.inode fl.change.ino).log ≡ n.size
        goes is =
            let live : (d.inode fl.change.ino).use_of ≡ Live = subst (λ (x : DiskTurn). MayTurn x (d.inode fl.change.ino).use_of) (fl.turn_is ∙ ap
            as_turn is) can.may_turn in
            (volume.inodes.each fl.change.ino n (ap (slice_get b.inodes.items) fl.node_is ∙ at)).size_is (subst IsUsed (sym live) tt)

    field_is : inode_word c.node (turn_field (as_turn c.turn)) ≡ inode_word fl.change.ino (turn_field fl.change.turn)
    field_is = ap (λ (i : ℕ). inode_word i (turn_field (as_turn c.turn))) (sym fl.node_is) ∙ ap (λ (x : DiskTurn). inode_word fl.change.ino
        (turn_field x)) (sym fl.turn_is)

    pub stores_flight : StoresFlight d who f fl.change tail s t
    stores_flight = record {
      mid = u;
      agree = agree;
      stores = record {
        prepared = subst (λ (i : ℕ). IsPreparedBy who i (d.inode 0).log (root_after d fl.change) s u) fl.root
            (prepared (d.inode 0).log (root_after d fl.change) to_prepare);
        turned = subst (λ (a : ℕ). StoresRun who a (turn_words fl.change.turn (d.inode fl.change.ino).log) u t) field_is
            (subst (λ (xs : List ℕ). StoresRun who (inode_word c.node (turn_field (as_turn c.turn))) xs u t) words_are stored);
        flushes = flushes-then who s u t flushes_u flushes_t;
        spare = omega (arith, spare_u, spare_t);
        faults = omega (arith, faults_u, faults_t);
      };
      tail_is = tail_is (d.inode 0).log (root_after d fl.change) to_prepare;
    }
