-- How many events an operation has left as it is begun.
use Rattle.std.proofs.Common.{◌≡◌, ◌≢◌, ℕ, zero, suc, ◌+◌, ◌-◌, ◌/◌, ◌%◌, ◌≤◌, Bool, true, false}
use Rattle.std.proofs.Common.{not, ◌&&◌, List, [], ◌∷◌, length, refl, sym, ap, subst, ◌∙◌, arith, length-append}
use Rattle.std.specs.Prelude.{Option, Some, None, is_some, if◌then◌else◌, ◌==◌, nat_lt}
use Rattle.std.proofs.lemmas.Bool.{eqb-false}
use Rattle.pm_device.specs.State.{State}
use Rattle.log_entry.specs.Spelling.{pages_of}
use Rattle.dn_model.specs.Maps.{Mapping, size_of}
use Rattle.dn_model.specs.Table.{Row, row_of}
use Rattle.dn_model.specs.Disk.{Disk, maps, rows}
use Rattle.dn_model.specs.Files.{named}
use Rattle.dn_model.specs.History.{touched, refilled, inode_of, log_of}
use Rattle.dn_model.specs.declared.op.Op.{Op}
use Rattle.dn_model.specs.declared.op.Op.TheVariants.{Create, Write, Read, Cut, Remove, Rename, Size, List as ListAll}
use Rattle.law_names.specs.NameChange.{NameChange as DiskChange}
use Rattle.dn_volume.specs.declared.flight.Flight.{Flight}
use Rattle.dn_volume.specs.declared.flight.Change.{Change}
use Rattle.dn_volume.specs.declared.flight.Change.TheVariants.{Data, Names}
use Rattle.dn_volume.specs.declared.flight.DataChange.{DataChange}
use Rattle.dn_volume.specs.Planned.{PlansData, row_slots, slot_of, slot_of_row, gone_from}
use Rattle.dn_volume.specs.PlannedNames.{PlansNames}
use Rattle.dn_volume.specs.Flights.{IsFlight, IsFlightOf, left_by, left_of}
use Rattle.dn_volume.specs.Begins.{IsFreshChange}
use Rattle.job_runs.specs.Plays.{mapped_from, filled, replaced, MayLeave}

-- a row at most for each place that is mapped
one_row : (r : Option Row) → length (slot_of_row r) ≤ 1
one_row None = omega arith
one_row (Some row) = omega arith

one_slot : (d : Disk) (m : Option Mapping) → length (slot_of d m) ≤ (if is_some m then 1 else 0)
one_slot d None = omega arith
one_slot d (Some m) = one_row (row_of (rows d) m.block)

rows_few : (d : Disk) (ino from n : ℕ) → length (row_slots d ino from n) ≤ mapped_from d ino from n
unfolding row_slots
rows_few d ino from zero = omega arith
rows_few d ino from (suc n) =
    let long = length-append (slot_of d (maps d ino from)) (row_slots d ino (from + 1) n) in
    let one = one_slot d (maps d ino from) in
    let rest = rows_few d ino (from + 1) n in
    omega (arith, long, one, rest)

-- the places that a cut takes away begin behind the page that it fills again
set_low : (a b c : Bool) → 1 ≤ (if not a && b && c then 1 else 0) → a ≡ false
set_low true b c some = absurd (omega (arith, some))
set_low false b c some = refl

set_few : (t : Bool) → (if t then 1 else 0) ≤ 1
set_few true = omega arith
set_few false = omega arith

refilled_few : (d : Disk) (name : List ℕ) (to : ℕ) → refilled d name to ≤ 1
refilled_few d name to =
    set_few (not (to % 4096 == 0) && nat_lt to (size_of (log_of d name)) && is_some (maps d (inode_of (named d name)) (to / 4096)))

refilled_within : (d : Disk) (name : List ℕ) (to : ℕ) → 1 ≤ refilled d name to → to % 4096 ≢ 0
refilled_within d name to some =
    eqb-false (to % 4096) 0
    (set_low (to % 4096 == 0) (nat_lt to (size_of (log_of d name))) (is_some (maps d (inode_of (named d name)) (to / 4096))) some)

less_none : (n k : ℕ) → k ≡ 0 → n ≡ n - k
less_none n k none = omega (arith, none)

page_within : (to k : ℕ) → to % 4096 ≢ 0 → k ≡ 1 → to / 4096 ≡ (to + 4095) / 4096 - k
page_within to k ne one = omega (arith, ne, one)

gone_is : (d : Disk) (name : List ℕ) (to : ℕ) (blocks : List ℕ) → length blocks ≡ refilled d name to
    → gone_from to blocks ≡ pages_of to - refilled d name to
gone_is d name to [] long = less_none (pages_of to) (refilled d name to) (sym long)
gone_is d name to (block ∷ blocks) long =
    let few = refilled_few d name to in
    let some : 1 ≤ refilled d name to = omega (arith, long) in
    page_within to (refilled d name to) (refilled_within d name to some) (omega (arith, few, some))

-- nothing is filled or raised yet
fresh_left : (blocks filled rows raised places most : ℕ) → filled ≡ 0 → raised ≡ 0 → blocks ≡ places → rows ≤ most
    → (places + 1 ≤ (blocks - filled) + (rows - raised) + 1) × ((blocks - filled) + (rows - raised) + 1 ≤ places + 1 + most)
fresh_left blocks filled rows raised places most none unraised all few =
    (omega (arith, none, unraised, all, few), omega (arith, none, unraised, all, few))

module _ (d : Disk) (f : Flight) (unraised : f.raised ≡ 0) where
  data_left : (c : DataChange) (op : Op) → PlansData d f c op → c.filled ≡ 0 → MayLeave d op (left_by f (Data c))
  data_left c (Create name) plans fresh = absurd plans
  data_left c (Write name at text) plans fresh = fresh_left (length c.blocks.items) c.filled (length f.rows.items) f.raised (touched at (length text))
      (replaced d (Write name at text)) fresh unraised plans.places few
    where
      rows_are : f.rows.items ≡ row_slots d (inode_of (named d name)) (at / 4096) (touched at (length text))
      rows_are = plans.rows ∙ ap (λ (n : ℕ). row_slots d f.ino c.first n) plans.places
          ∙ ap (λ (k : ℕ). row_slots d f.ino k (touched at (length text))) plans.first
          ∙ ap (λ (o : Option ℕ). row_slots d (inode_of o) (at / 4096) (touched at (length text))) (sym plans.leads)

      few : length f.rows.items ≤ mapped_from d (inode_of (named d name)) (at / 4096) (touched at (length text))
      few = subst (λ (xs : List ℕ). length xs ≤ mapped_from d (inode_of (named d name)) (at / 4096) (touched at (length text))) (sym rows_are)
          (rows_few d (inode_of (named d name)) (at / 4096) (touched at (length text)))
  data_left c (Read name at count) plans fresh = absurd plans
  data_left c (Cut name to) plans fresh = fresh_left (length c.blocks.items) c.filled (length f.rows.items) f.raised (refilled d name to)
      (replaced d (Cut name to)) fresh unraised plans.places few
    where
      rows_are : f.rows.items ≡ row_slots d (inode_of (named d name)) (pages_of to - refilled d name to) (4096 - (pages_of to - refilled d name to))
      rows_are = plans.rows ∙ ap (λ (k : ℕ). row_slots d f.ino k (4096 - k)) (gone_is d name to c.blocks.items plans.places)
          ∙ ap (λ (o : Option ℕ). row_slots d (inode_of o) (pages_of to - refilled d name to) (4096 - (pages_of to - refilled d name to)))
          (sym plans.leads)

      few : length f.rows.items ≤ mapped_from d (inode_of (named d name)) (pages_of to - refilled d name to)
          (4096 - (pages_of to - refilled d name to))
      few = subst (λ (xs : List ℕ). length xs ≤ mapped_from d (inode_of (named d name)) (pages_of to - refilled d name to)
          (4096 - (pages_of to - refilled d name to))) (sym rows_are)
          (rows_few d (inode_of (named d name)) (pages_of to - refilled d name to) (4096 - (pages_of to - refilled d name to)))
  data_left c (Remove name) plans fresh = absurd plans
  data_left c (Rename from to) plans fresh = absurd plans
  data_left c (Size name) plans fresh = absurd plans
  data_left c ListAll plans fresh = absurd plans

  names_left : (change : DiskChange) (op : Op) (prepared : Bool) → PlansNames d f change op → prepared ≡ false
      → MayLeave d op (if prepared then 1 else 2)
  names_left change (Create name) prepared plans fresh = ap (λ (t : Bool). if t then 1 else 2) fresh
  names_left change (Write name at text) prepared plans fresh = absurd plans
  names_left change (Read name at count) prepared plans fresh = absurd plans
  names_left change (Cut name to) prepared plans fresh = absurd plans
  names_left change (Remove name) prepared plans fresh = ap (λ (t : Bool). if t then 1 else 2) fresh
  names_left change (Rename from to) prepared plans fresh = ap (λ (t : Bool). if t then 1 else 2) fresh
  names_left change (Size name) prepared plans fresh = absurd plans
  names_left change ListAll prepared plans fresh = absurd plans

  left_so : (who : ℕ) (s : State) (c : Change) → IsFlightOf d who f s c → IsFreshChange c → MayLeave d f.op (left_by f c)
  left_so who s (Data c) is fresh = data_left c f.op is.plans fresh
  left_so who s (Names c) is fresh = names_left is.change f.op c.prepared is.plans fresh

  pub begin_leaves : (who : ℕ) (s : State) → IsFlight d who f s → IsFreshChange f.change → MayLeave d f.op (left_of f)
  begin_leaves who s is fresh = left_so who s f.change is fresh
