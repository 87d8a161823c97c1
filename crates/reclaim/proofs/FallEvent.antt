-- What both falls of a cut have in common: the event, once the pages that come free, the counts, the units of work and
-- the room are shown.
use Rattle.std.proofs.Common.{◌≡◌, ◌≢◌, ◌⊎◌, ⊎_elim, ℕ, ◌≤◌, List, [], ◌∷◌, length, sym, ◌∙◌, subst, arith}
use Rattle.std.specs.Prelude.{slice_get, Some, Contains}
use Rattle.pm_device.specs.State.{State}
use Rattle.pm_device.specs.Settled.{StoresOnly, KeepsFlushed, Others, SettlesAll}
use Rattle.pm_device.specs.Commit.{IsDone}
use Rattle.pm_layout.specs.Geometry.{inode_word}
use Rattle.dn_model.specs.Table.{Row}
use Rattle.dn_model.specs.Disk.{Disk, Use, Live, Dying, rows}
use Rattle.law_write.specs.Events.{IsUnused}
use Rattle.law_table.proofs.Rows.{listed_cases}
use Rattle.law_dying.specs.Dying.{Falls, stepped, MayFall}
use Rattle.law_dying.proofs.Stepped.{same_geometry}
use Rattle.fact_table.specs.Table.{HasRow}
use Rattle.dn_volume.specs.declared.flight.Flight.{Flight}
use Rattle.dn_volume.specs.declared.flight.Change.{Change}
use Rattle.dn_volume.specs.declared.flight.Change.TheVariants.{Data, Names}
use Rattle.dn_volume.specs.declared.flight.DataChange.{DataChange}
use Rattle.dn_volume.specs.declared.volume.InodeState.{InodeState}
use Rattle.dn_volume.specs.declared.volume.Parts.{Parts}
use Rattle.dn_volume.specs.Parties.{Flies}
use Rattle.dn_volume.specs.Flights.{GrowsBy, IsFlightOf}
use Rattle.dn_volume.specs.Balance.{AreCounted}
use Rattle.dn_volume.specs.Reclaims.{IsReclaiming}
use Rattle.dn_volume.specs.Agrees.{IsVolume}
use Rattle.dn_volume.proofs.Stills.{still_settles}
use Rattle.reclaim.specs.Worked.{FallsTo, ChangesOne, Gives, KeepsWork}
use Rattle.reclaim.proofs.WorkEvent.{WorkEvent, others_same}
use Rattle.reclaim.proofs.NodesChanged.{nodes_kept}
use Rattle.reclaim.proofs.SpaceGained.{space_gained, slots_stay}
use Rattle.reclaim.proofs.RoomWorked.{MovesRoom, room_worked}
use Rattle.reclaim.proofs.SteppedDisk.{step_pointers, step_leaves, step_fast}
use Rattle.reclaim.proofs.Fallen.{fall_one, fall_living, fall_nodes}

live_or_dying : (u : Use) (cut : ℕ) → u ≡ Live → u ≡ Dying cut → ⊥
live_or_dying u cut live dying = cc

-- no operation in flight is for a dying inode
pub flight_apart : (d : Disk) (b : Parts) (s : State) → IsVolume d b s → (ino cut : ℕ) → (d.inode ino).use_of ≡ Dying cut → (who : ℕ) (f : Flight)
    → Flies b who f → f.ino ≢ ino
flight_apart d b s v ino cut dying who f flies same = live_or_dying (d.inode ino).use_of cut (subst (λ (i : ℕ). (d.inode i).use_of ≡ Live) same
    (by_change f.change (v.flights.each who f flies)).live) dying
  where
    by_change : (c : Change) → IsFlightOf d who f s c → GrowsBy d f
    by_change (Data c) is = is.grows
    by_change (Names c) is = is.grows

-- so the room of its index stays
pub other_room : (d : Disk) (b b' : Parts) (s : State) → IsVolume d b s → (R : InodeState → InodeState → Type 0) (ino cut : ℕ)
    → (d.inode ino).use_of ≡ Dying cut → ChangesOne R ino b.inodes.items b'.inodes.items
    → (who : ℕ) (f : Flight) (c : DataChange) (y : InodeState) → Flies b who f → f.change ≡ Data c → slice_get b'.inodes.items f.ino ≡ Some y
    → length c.blocks.items ≤ y.map.room
other_room d b b' s v R ino cut dying change who f c y flies is at = v.room.places who f c y flies is
    (sym (change.others f.ino (flight_apart d b s v ino cut dying who f flies)) ∙ at)

pub same_rows : (d e : Disk) → rows e ≡ rows d → (slot : ℕ) → HasRow d slot → HasRow e slot
same_rows d e same slot has = record {
  row = has.row;
  is = record {
    there = subst (λ (rs : List Row). Contains rs has.row) (sym same) has.is.there;
    slot_is = has.is.slot_is;
  };
}

module _ (d : Disk) (b b' : Parts) (s u : State) (v : IsVolume d b s) (ino cut : ℕ) (may : MayFall d ino cut) (kept : KeepsWork b b')
    (change : ChangesOne (FallsTo cut) ino b.inodes.items b'.inodes.items)
    (fact : b'.fact ≡ b.fact) where
  abbrev e : Disk
  e = stepped d ino (Falls cut)

  fell : (i : ℕ) → Contains (ino ∷ []) i → (c : ℕ) × ((d.inode i).use_of ≡ Dying c)
  fell i has = (
    may.before,
    subst (λ (j : ℕ). (d.inode j).use_of ≡ Dying may.before) (⊎_elim (λ same. same) (λ later. absurd (omega (arith, later.1)))
        (listed_cases ino [] i has)) may.dying,
  )

  module _ (given : ℕ → Type 0) (gives : Gives given b.free b'.free) (then : (page : ℕ) → IsUnused d page ⊎ given page → IsUnused e page)
      (before : (page : ℕ) → IsUnused e page → IsUnused d page ⊎ given page) (was_used : (page : ℕ) → given page → IsUnused d page → ⊥)
      (counts : AreCounted e b') (reclaiming : IsReclaiming e b') (moves : MovesRoom b b' s u) (only : StoresOnly (λ a. a ≡ inode_word ino 3) s u)
      (others : KeepsFlushed (Others 16) (λ a. a ≡ inode_word ino 3) s u) (done : IsDone 16 (inode_word ino 3) cut s u) (settles : SettlesAll 16 s u)
    where
      pub fall_event : WorkEvent (ino ∷ []) d e b b' s u
      fall_event = record {
        fast = step_fast d ino (Falls cut) 3 cut (omega arith) (fall_one d ino cut may) (fall_living d ino cut may) may.in_table s u b.geometry v.fast
            only done;
        dying = fell;
        leaves = step_leaves d ino (Falls cut) 3 cut (omega arith) (fall_one d ino cut may) (fall_living d ino cut may) may.in_table s u b.geometry
            v.fast only others;
        names = (fall_living d ino cut may).names;
        live = (fall_living d ino cut may).live_only;
        kept = kept;
        nodes = nodes_kept (FallsTo cut) ino b.inodes.items b'.inodes.items change (omega (arith, may.in_table, v.inodes.all))
            (λ x y falls. falls.holder) (λ x y falls. falls.round);
        inodes_are = fall_nodes d ino cut may b.inodes.items b'.inodes.items change v.inodes;
        space = space_gained d e b b' kept given (same_geometry d ino (Falls cut)) gives then before was_used v.space;
        table = slots_stay d e b.fact b'.fact (same_geometry d ino (Falls cut)) (fall_living d ino cut may).rows_same fact v.table;
        counts = counts;
        reclaiming = reclaiming;
        pointers = step_pointers d ino (Falls cut) 3 cut (omega arith) (fall_one d ino cut may) (fall_living d ino cut may) may.in_table v.pointers;
        room = room_worked b b' s u kept moves v.room (other_room d b b' s v (FallsTo cut) ino may.before may.dying change);
        still = still_settles 16 b b' s u settles (others_same b b' kept 16) v.still;
      }
