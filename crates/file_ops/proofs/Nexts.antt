-- What is known where the next page of an operation in flight is filled.
use Rattle.std.proofs.Common.{◌≡◌, ℕ, ◌+◌, ◌-◌, ◌*◌, ◌/◌, ◌%◌, ◌<◌, ◌≤◌, Bool, true, false, length, refl, sym, ◌∙◌, ap, subst, arith}
use Rattle.std.specs.Prelude.{slice_get, get_or, nat_lt, ◌&&◌, ◌==◌, not, is_some, if◌then◌else◌, Option, Some, Contains}
use Rattle.std.proofs.lemmas.Bool.Decides.{nat_tests}
use Rattle.std.proofs.lemmas.List.Elements.{Contains-get_or}
use Rattle.pm_device.specs.State.{State}
use Rattle.pm_device.specs.Settled.{StoresOnly, KeepsFlushed, Anyone, FlushesAll}
use Rattle.pm_device.specs.Pages.{IsInPage}
use Rattle.pm_layout.specs.declared.Geometry.{Geometry}
use Rattle.dn_model.specs.Maps.{size_of}
use Rattle.dn_model.specs.Disk.{Disk, IsUsed, maps}
use Rattle.dn_model.specs.Files.{bytes}
use Rattle.dn_model.specs.History.{inode_of}
use Rattle.dn_model.specs.declared.op.Op.{Op}
use Rattle.dn_model.specs.declared.op.Op.TheVariants.{Create, Write, Read, Cut, Remove, Rename, Size, List as ListAll}
use Rattle.law_write.specs.Events.{IsUnused}
use Rattle.law_write.proofs.Counting.{term-le}
use Rattle.file_content.specs.Content.{IsFileOf, IsFilledBy}
use Rattle.dn_volume.specs.declared.units.TheConstants.{FILL_UNITS}
use Rattle.dn_volume.specs.declared.flight.Flight.{Flight}
use Rattle.dn_volume.specs.declared.flight.Change.{Change}
use Rattle.dn_volume.specs.declared.flight.Change.TheVariants.{Data}
use Rattle.dn_volume.specs.declared.flight.DataChange.{DataChange}
use Rattle.dn_volume.specs.declared.volume.InodeState.{InodeState}
use Rattle.dn_volume.specs.declared.volume.Parts.{Parts}
use Rattle.dn_volume.specs.Parties.{Flies, for_client, taken_by, flight_at}
use Rattle.dn_volume.specs.Planned.{PlansData, new_byte}
use Rattle.dn_volume.specs.Flights.{IsDataFlight, IsFlightOf}
use Rattle.dn_volume.specs.Reserve.{units_by, owed_to, owed_sum}
use Rattle.dn_volume.proofs.Replaced.{flight_within}
use Rattle.dn_volume.specs.Agrees.{IsVolume}
use Rattle.file_ops.specs.Filling.{FillsBytes, FillsByOp, IsToFill, StoresFill, StoresNext, next_block}
use Rattle.file_ops.proofs.Flying.{at_client, one_flight, one_data, same_flight}
use Rattle.file_ops.proofs.Taken.{block_taken}
use Rattle.file_ops.proofs.DiskAfter.{touched_is}

-- a cut that fills a page lies within its file
cut_within : (p q r : Bool) (n : ℕ) → n ≡ (if not p && q && r then 1 else 0) → 1 ≤ n → q ≡ true
cut_within true q r n e some = absurd (omega (arith, e, some))
cut_within false true r n e some = refl
cut_within false false r n e some = absurd (omega (arith, e, some))

-- whether the place in which a cut falls is filled anew
abbrev refills_at : Disk → ℕ → ℕ → Bool
refills_at d ino to = not (to % 4096 == 0) && nat_lt to (size_of (d.inode ino).log) && is_some (maps d ino (to / 4096))

strictly : (a b : ℕ) → nat_lt a b ≡ true → a < b
strictly a b e = grind (arith, nat_tests)

less : (a b : ℕ) → nat_lt a b ≡ true → a ≤ b
less a b e = let lt = strictly a b e in omega (arith, lt)

one_at_most : (t : Bool) (n : ℕ) → n ≡ (if t then 1 else 0) → n ≤ 1
one_at_most true n e = omega (arith, e)
one_at_most false n e = omega (arith, e)

module _ (d : Disk) (f : Flight) (c : DataChange) (some : c.filled < length c.blocks.items) where
  fills_of : (op : Op) → PlansData d f c op → FillsBytes op (size_of (d.inode f.ino).log)
  fills_of (Create name) is = absurd is
  fills_of (Write name at text) is = tt
  fills_of (Read name at count) is = absurd is
  fills_of (Cut name to) is =
      let refills : length c.blocks.items ≡ (if refills_at d f.ino to then 1 else 0)
      = is.places ∙ ap (λ (r : Option ℕ). if refills_at d (inode_of r) to then 1 else 0) is.leads in
      less to (size_of (d.inode f.ino).log)
      (cut_within (to % 4096 == 0) (nat_lt to (size_of (d.inode f.ino).log)) (is_some (maps d f.ino (to / 4096))) (length c.blocks.items) refills
      (omega (arith, some)))
  fills_of (Remove name) is = absurd is
  fills_of (Rename from to) is = absurd is
  fills_of (Size name) is = absurd is
  fills_of ListAll is = absurd is

-- the place that is filled is one of a file
module _ (d : Disk) (f : Flight) (c : DataChange) (some : c.filled < length c.blocks.items) (few : size_of (d.inode f.ino).log ≤ 16777216) where
  placed : (op : Op) → PlansData d f c op → c.first + c.filled < 4096
  placed (Create name) is = absurd is
  placed (Write name at text) is = omega (arith, is.first, is.places, touched_is at (length text) is.some, is.fits, is.some, some)
  placed (Read name at count) is = absurd is
  placed (Cut name to) is =
      let refills : length c.blocks.items ≡ (if refills_at d f.ino to then 1 else 0)
      = is.places ∙ ap (λ (r : Option ℕ). if refills_at d (inode_of r) to then 1 else 0) is.leads in
      let one = one_at_most (refills_at d f.ino to) (length c.blocks.items) refills in
      let test = cut_within (to % 4096 == 0) (nat_lt to (size_of (d.inode f.ino).log)) (is_some (maps d f.ino (to / 4096))) (length c.blocks.items)
      refills (omega (arith, some)) in
      let lt = strictly to (size_of (d.inode f.ino).log) test in
      omega (arith, is.first, one, some, lt, few)
  placed (Remove name) is = absurd is
  placed (Rename from to) is = absurd is
  placed (Size name) is = absurd is
  placed ListAll is = absurd is

module _ (d : Disk) (b : Parts) (s : State) (who : ℕ) (f : Flight) (c : DataChange) (v : IsVolume d b s) (flies : Flies b who f)
    (kind : f.change ≡ Data c) where
  pub fact : IsDataFlight d who f c s
  fact = subst (λ (x : Change). IsFlightOf d who f s x) kind (v.flights.each who f flies)

  pub in_inodes : f.ino < length b.inodes.items
  in_inodes = omega (arith, fact.grows.in_table, v.inodes.all)

  pub left_few : (c.filled ≤ length c.blocks.items) × (f.raised ≤ length f.rows.items)
  left_few = (fact.filled_few, fact.raised_few)

  -- its file, as it is kept in memory
  module _ (n : InodeState) (at : slice_get b.inodes.items f.ino ≡ Some n) where
    pub file_of : IsFileOf d f.ino n.size n.map.map
    file_of =
        let is = v.inodes.each f.ino n at in
        record {
          live = fact.grows.live;
          in_table = fact.grows.in_table;
          size_is = is.size_is (subst IsUsed (sym fact.grows.live) tt);
          small = is.small;
          places = is.places;
        }

    module _ (some : c.filled < length c.blocks.items) where
      pub op_fills : FillsBytes f.op n.size
      op_fills = subst (FillsBytes f.op) file_of.size_is (fills_of d f c some f.op fact.plans)

  module _ (some : c.filled < length c.blocks.items) where
    taken : Contains (taken_by f) (next_block c)
    taken = block_taken f c kind (next_block c) (Contains-get_or c.blocks.items c.filled 0 some)

    pub block_unused : IsUnused d (next_block c)
    block_unused = v.space.unused (next_block c) (λ none.
        let his = v.space.takes who (next_block c) (for_client f flies taken) in let client = flies.client in omega (arith, his, none, client))

    pub block_inside : next_block c < b.geometry.pages
    block_inside = let high = block_unused.free.data_page.high in omega (arith, high, ap (λ (g : Geometry). g.pages) v.fast.geometry)

    pub place_small : (n : InodeState) → slice_get b.inodes.items f.ino ≡ Some n → c.first + c.filled < 4096
    place_small n at = let is = file_of n at in placed d f c some (subst (λ (m : ℕ). m ≤ 16777216) (sym is.size_is) is.small) f.op fact.plans

    units_part : units_by f (Data c) ≤ owed_sum b (λ room. room.units)
    units_part =
        let part = term-le (λ k. (owed_to (flight_at b.flights.items k)).units) 14 (who - 1)
        (omega (arith, v.flights.clients, flight_within b.flights.items (who - 1) f flies.is)) in
        subst (λ (x : Change). units_by f x ≤ owed_sum b (λ room. room.units)) kind
        (subst (λ (o : Option Flight). (owed_to o).units ≤ owed_sum b (λ room. room.units)) flies.is part)

    pub units_owed : FILL_UNITS ≤ b.owed.units
    units_owed = omega (arith, units_part, v.room.owes.units, some)

    pub units_there : FILL_UNITS ≤ s.spare
    units_there = omega (arith, units_owed, v.room.units)

-- the operation that is found at the client's place fills
pub found_next : (b : Parts) (who : ℕ) → IsToFill b who → (f : Flight) (c : DataChange) (x : Option Flight) → x ≡ get_or b.flights.items (who - 1) x
    → x ≡ Some f → f.change ≡ Data c → Flies b who f × (c.filled < length c.blocks.items)
found_next b who to f c x is found kind =
    let same = one_flight x to.flight f (at_client b who to.flight to.flies x is) found in
    let one = one_data f.change to.data_change c (ap (λ (h : Flight). h.change) (sym same) ∙ to.is_data) kind in (
      subst (Flies b who) same to.flies,
      subst (λ (e : DataChange). e.filled < length e.blocks.items) one to.some,
    )

-- what the call that fills a page gives
pub stores_next : (b : Parts) (s t : State) (who : ℕ) (f : Flight) (c : DataChange) → Flies b who f → f.change ≡ Data c
    → (n : InodeState) → slice_get b.inodes.items f.ino ≡ Some n → (block : ℕ) → block ≡ next_block c
    → FillsByOp b.geometry who n.map.map n.size f.op (c.first + c.filled) block s t → StoresOnly (IsInPage block) s t
    → KeepsFlushed Anyone (IsInPage block) s t → FlushesAll who s t → s.spare ≤ t.spare + FILL_UNITS → s.faults ≤ t.faults → StoresNext who b s t
stores_next b s t who f c flies kind n at block block_is filled only keeps flushes spare faults =
    λ d g e v g_flies g_kind.
    let same = same_flight b who f g flies g_flies in
    let one = one_data g.change c e (ap (λ (h : Flight). h.change) (sym same) ∙ kind) g_kind in
    subst (λ (h : Flight). StoresFill d who h e s t) same
    (subst (λ (x : DataChange). StoresFill d who f x s t) one
    (record {
      filled = subst (λ (p : ℕ). IsFilledBy who t p (λ k. new_byte f.op (bytes d f.ino) (4096 * (c.first + c.filled) + k))) block_is
          (filled d f.ino (file_of d b s who f c v flies kind n at) v.fast.valid v.fast.geometry v.fast.stands);
      only = subst (λ (p : ℕ). StoresOnly (IsInPage p) s t) block_is only;
      keeps = subst (λ (p : ℕ). KeepsFlushed Anyone (IsInPage p) s t) block_is keeps;
      flushes = flushes;
      spare = spare;
      faults = faults;
    }))
