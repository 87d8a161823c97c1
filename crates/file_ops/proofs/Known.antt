-- What is known where the last event of a write or a cut is made.
use Rattle.std.proofs.Common.{◌≡◌, ◌⊎◌, inl, inr, ℕ, ◌+◌, ◌-◌, ◌*◌, ◌<◌, ◌≤◌, List, length, get_or, refl, sym, ◌∙◌, ap, subst, arith}
use Rattle.std.specs.Prelude.{slice_get, slice_index, Some}
use Rattle.std.proofs.lemmas.Option.{slice_get_read}
use Rattle.pm_device.specs.State.{State}
use Rattle.pm_layout.specs.declared.Geometry.{Geometry}
use Rattle.pm_layout.specs.Geometry.{inode_word}
use Rattle.dn_model.specs.Log.{count, tail_at, at_tail}
use Rattle.dn_model.specs.Disk.{Disk, IsUsed, of_logs}
use Rattle.dn_model.specs.declared.op.Op.TheVariants.{Write}
use Rattle.dn_volume.specs.declared.flight.Flight.{Flight}
use Rattle.dn_volume.specs.declared.flight.Change.{Change}
use Rattle.dn_volume.specs.declared.flight.Change.TheVariants.{Data}
use Rattle.dn_volume.specs.declared.flight.DataChange.{DataChange}
use Rattle.dn_volume.specs.declared.volume.InodeState.{InodeState}
use Rattle.dn_volume.specs.declared.volume.Parts.{Parts}
use Rattle.dn_volume.specs.Parties.{Flies, flight_at}
use Rattle.dn_volume.specs.Flights.{IsDataFlight, IsFlightOf}
use Rattle.dn_volume.specs.Reserve.{units_by, owed_sum}
use Rattle.dn_volume.specs.Agrees.{IsVolume}
use Rattle.file_commit.specs.Append.{CanAppend, IsReadyToAppend}
use Rattle.file_ops.specs.Ending.{IsLastOfWrite}
use Rattle.file_ops.proofs.Basics.{same_flight}
use Rattle.file_ops.proofs.Changed.{data_same}
use Rattle.file_ops.proofs.DiskAfter.{may}
use Rattle.file_ops.proofs.Nodes.{state_at}
use Rattle.file_ops.proofs.Ended.{Decides, write_decides}
use Rattle.file_ops.proofs.Ready.{owed_part}

-- this flight is the client's, and all its pages are filled and all its rows are raised
pub record IsLast (b : Parts) (who : ℕ) (f : Flight) (c : DataChange) : Type 0 where
  pub flies : Flies b who f
  pub kind : f.change ≡ Data c
  pub name : List ℕ
  pub at : ℕ
  pub text : List ℕ
  pub op_is : f.op ≡ Write name at text
  pub all_filled : c.filled ≡ length c.blocks.items
  pub all_raised : f.raised ≡ length f.rows.items

pub is_last : (b : Parts) (who : ℕ) (f : Flight) (c : DataChange) → IsLastOfWrite b who → flight_at b.flights.items (who - 1) ≡ Some f
    → f.change ≡ Data c → IsLast b who f c
is_last b who f c last was kind =
    let same = same_flight (flight_at b.flights.items (who - 1)) last.flight f last.flies.is was in
    let datum = data_same f.change last.change c (ap (λ (x : Flight). x.change) (sym same) ∙ last.kind) kind in
    record {
      flies = record { client = last.flies.client; is = was };
      kind = kind;
      name = last.name;
      at = last.at;
      text = last.text;
      op_is = ap (λ (x : Flight). x.op) (sym same) ∙ last.op_is;
      all_filled = subst (λ (x : DataChange). x.filled ≡ length x.blocks.items) datum last.all_filled;
      all_raised = subst (λ (x : Flight). x.raised ≡ length x.rows.items) same last.all_raised;
    }

-- of any write or cut in flight
module _ (d : Disk) (b : Parts) (s : State) (who : ℕ) (f : Flight) (c : DataChange) (v : IsVolume d b s) (flies : Flies b who f)
    (kind : f.change ≡ Data c) where
  pub fact_of : IsDataFlight d who f c s
  fact_of = subst (λ (x : Change). IsFlightOf d who f s x) kind (v.flights.each who f flies)

  pub in_table_of : f.ino < b.geometry.inodes
  in_table_of = subst (λ (g : Geometry). f.ino < g.inodes) v.fast.geometry fact_of.grows.in_table

  pub in_nodes_of : f.ino < length b.inodes.items
  in_nodes_of = omega (arith, fact_of.grows.in_table, v.inodes.all)

  used : IsUsed (d.inode f.ino).use_of
  used = subst IsUsed (sym fact_of.grows.live) tt

  pub tail_within_of : inode_word f.ino 2 < length s.now
  tail_within_of = v.fast.stands.within (inode_word f.ino 2) (tail_at (d.inode f.ino).log.pages (count (d.inode f.ino).log))
      (of_logs (record { ino = f.ino; in_table = fact_of.grows.in_table; used = used; says = at_tail refl refl }))

  pub tail_read_of : slice_index s.now (inode_word f.ino 2) ≡ tail_at (d.inode f.ino).log.pages (count (d.inode f.ino).log)
  tail_read_of = v.fast.stands.reads (inode_word f.ino 2) (tail_at (d.inode f.ino).log.pages (count (d.inode f.ino).log))
      (of_logs (record { ino = f.ino; in_table = fact_of.grows.in_table; used = used; says = at_tail refl refl }))

  pub units_there_of : 9 * (length f.slots.items + length f.fresh.items) + 4 ≤ s.spare
  units_there_of =
      let part : units_by f (Data c) ≤ owed_sum b (λ room. room.units) = subst (λ (x : Change). units_by f x ≤ owed_sum b (λ room. room.units))
      kind (owed_part d b s who f c v flies kind fact_of (node_of).0 (node_of).1 (λ room. room.units)) in
      omega (arith, part, v.room.owes.units, v.room.units)
    where
      node_of : (n : InodeState) × (slice_get b.inodes.items f.ino ≡ Some n)
      node_of = state_at b.inodes.items f.ino in_nodes_of

  -- its items may be appended
  pub can_append_of : (e : Disk) (from n : ℕ) → Decides d s who f c e from n → CanAppend b.geometry who f.ino f.fresh.items f.slots.items s
  can_append_of e from n decides = record {
    old = d;
    new = e;
    event = decides.changes.event;
    is = subst (λ (g : Geometry). IsReadyToAppend g who f.ino f.fresh.items f.slots.items d e decides.changes.event s) v.fast.geometry decides.ready;
  }

-- of a write
module _ (d : Disk) (b : Parts) (s : State) (who : ℕ) (f : Flight) (c : DataChange) (v : IsVolume d b s) (last : IsLast b who f c) where
  pub fact : IsDataFlight d who f c s
  fact = fact_of d b s who f c v last.flies last.kind

  pub in_table : f.ino < b.geometry.inodes
  in_table = in_table_of d b s who f c v last.flies last.kind

  pub in_nodes : f.ino < length b.inodes.items
  in_nodes = in_nodes_of d b s who f c v last.flies last.kind

  pub tail_within : inode_word f.ino 2 < length s.now
  tail_within = tail_within_of d b s who f c v last.flies last.kind

  pub tail_read : slice_index s.now (inode_word f.ino 2) ≡ tail_at (d.inode f.ino).log.pages (count (d.inode f.ino).log)
  tail_read = tail_read_of d b s who f c v last.flies last.kind

  pub places_in_file : c.first + length c.blocks.items ≤ 4096
  places_in_file =
      let m = may d b s who f c v last.flies last.kind fact last.name last.at last.text last.op_is last.all_filled last.all_raised in
      omega (arith, m.in_size, m.small, fact.covers)

  pub can_append : CanAppend b.geometry who f.ino f.fresh.items f.slots.items s
  can_append = can_append_of d b s who f c v last.flies last.kind _ _ _
      (write_decides d b s who f c v last.flies last.kind fact last.name last.at last.text last.op_is last.all_filled last.all_raised)

  pub units_there : 9 * (length f.slots.items + length f.fresh.items) + 4 ≤ s.spare
  units_there = units_there_of d b s who f c v last.flies last.kind

-- what a list holds at a place
pub node_read : (nodes : List InodeState) (ino : ℕ) (x : InodeState) → ino < length nodes → x ≡ get_or nodes ino x → slice_get nodes ino ≡ Some x
node_read nodes ino x lt is = slice_get_read nodes (length nodes) ino x refl lt is

pub both : (P : List ℕ → List (List ℕ) → Type 0) (fresh fresh' : List ℕ) (slots slots' : List (List ℕ)) → fresh' ≡ fresh → slots' ≡ slots
    → P fresh' slots' → P fresh slots
both P fresh fresh' slots slots' e1 e2 h = subst (λ (xs : List ℕ). P xs slots) e1 (subst (λ (ys : List (List ℕ)). P fresh' ys) e2 h)

-- a count of calls that stops at the greatest number
pub same_count : (made more then_made : ℕ) → then_made ≡ more → (more ≡ made + 1) ⊎ ((made ≡ 18446744073709551615) × (more ≡ made))
    → (then_made ≡ made + 1) ⊎ ((made ≡ 18446744073709551615) × (then_made ≡ made))
same_count made more then_made same (inl one) = inl (same ∙ one)
same_count made more then_made same (inr top) = inr (top.0, same ∙ top.1)
