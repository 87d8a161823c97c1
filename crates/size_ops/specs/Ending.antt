-- A cut ends in what is kept in memory.
use Rattle.std.specs.Prelude.{
  ◌≡◌,
  ◌≢◌,
  ◌⊎◌,
  ℕ,
  ◌+◌,
  ◌/◌,
  ◌<◌,
  ◌≤◌,
  List,
  [],
  ◌++◌,
  length,
  slice_get,
  slice_index,
  Some,
  None,
}
use Rattle.std.specs.Ordering.{nat_cmp}
use Rattle.std.specs.FinMap.{FinMap, get}
use Rattle.file_index.specs.declared.page_map.Mapping.{Mapping}
use Rattle.law_write.specs.Runs.{places_in}
use Rattle.file_content.specs.Runs.{all_seen}
use Rattle.dn_model.specs.Log.{Log, IsPaged, count, tail_at, slot_name}
use Rattle.pm_layout.specs.declared.Geometry.{Geometry}
use Rattle.dn_model.specs.declared.op.Op.TheVariants.{Cut}
use Rattle.dn_volume.specs.declared.flight.Flight.{Flight}
use Rattle.dn_volume.specs.declared.flight.Change.TheVariants.{Data}
use Rattle.dn_volume.specs.declared.flight.DataChange.{DataChange}
use Rattle.dn_volume.specs.declared.volume.InodeState.{InodeState}
use Rattle.dn_volume.specs.declared.volume.Parts.{Parts}
use Rattle.dn_volume.specs.Parties.{Flies}
use Rattle.dn_volume.specs.Planned.{gone_from}
use Rattle.file_ops.specs.Ending.{CanFinish, FinishesBy}

-- the client's cut is in flight, its page is filled, and all its rows are raised
pub record IsLastOfCut (b : Parts) (who : ℕ) : Type 0 where
  pub flight : Flight
  pub flies : Flies b who flight
  pub change : DataChange
  pub kind : flight.change ≡ Data change
  pub name : List ℕ
  pub to : ℕ
  pub op_is : flight.op ≡ Cut name to
  pub all_filled : change.filled ≡ length change.blocks.items
  pub all_raised : flight.raised ≡ length flight.rows.items

-- The size is that of a file, the place that is filled anew is its last one, and a map with so much
-- room has room for it.
pub record CanCut (c : DataChange) (room : ℕ) : Type 0 where
  pub small : c.size ≤ 16777216
  pub first : c.first ≡ c.size / 4096
  pub in_file : 1 ≤ length c.blocks.items → c.first < 4096
  pub few : length c.blocks.items ≤ room

-- The places below the first that goes are mapped as they were; the one that is filled anew is
-- mapped by the item past this tail, and the others nowhere.
pub record CutsMap (c : DataChange) (tail : ℕ) (fresh : List ℕ) (old new : FinMap nat_cmp Mapping) :
    Type 0 where
  pub kept : (idx : ℕ) → idx < gone_from c.size c.blocks.items → get new idx ≡ get old idx
  pub gone : (idx : ℕ) → gone_from c.size c.blocks.items ≤ idx
      → (c.blocks.items ≡ []) ⊎ (idx ≢ c.first) → get new idx ≡ None
  pub anew : 1 ≤ length c.blocks.items → (g : Geometry) (log : Log) → IsPaged g log
      → tail ≡ tail_at log.pages (count log) → get new c.first ≡ Some (record {
        block = slice_index c.blocks.items 0;
        slot = slot_name (log.pages ++ fresh) (count log + 0);
        bit = 0;
      })

-- the inode has the new size and is let go, its log has these pages more, and its places are cut
pub record CutsState (c : DataChange) (tail : ℕ) (fresh : List ℕ) (old new : InodeState) : Type 0
  where
    pub used : new.used ≡ old.used
    pub size_is : new.size ≡ c.size
    pub log_pages : new.log_pages ≡ old.log_pages + length fresh
    pub round : new.round ≡ old.round
    pub holder : new.holder ≡ None
    pub places : CutsMap c tail fresh old.map.map new.map.map

-- that of others is what it was
pub record CutsAt (ino : ℕ) (c : DataChange) (tail : ℕ) (fresh : List ℕ)
    (old new : List InodeState) : Type 0 where
  pub all : length new ≡ length old
  pub others : (i : ℕ) → i ≢ ino → slice_get new i ≡ slice_get old i
  pub here : (x y : InodeState) → slice_get old ino ≡ Some x → slice_get new ino ≡ Some y
      → CutsState c tail fresh x y

-- What the end of a cut does to the parts, after the pages that come free and the flight itself.
abbrev pub FinishesCut : (who tail : ℕ) → Flight → DataChange → Parts → Parts → Type 0
FinishesCut who tail f c b b' = FinishesBy (CutsAt f.ino c tail f.fresh.items) who tail f c b b'

-- there is room for all of it
pub record CanFinishCut (tail : ℕ) (f : Flight) (c : DataChange) (b : Parts) : Type 0 where
  pub can : CanFinish tail f c b
  pub small : c.size ≤ 16777216
  pub first : c.first ≡ c.size / 4096
  pub in_file : 1 ≤ length c.blocks.items → c.first < 4096
  pub covers : places_in (all_seen c.runs.items) ≡ length c.blocks.items
