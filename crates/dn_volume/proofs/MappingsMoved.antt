-- The counts of all rows where mappings move, where a row comes in, and where one goes.
use Rattle.std.proofs.Common.{◌≡◌, ◌≢◌, inl, inr, ⊎_elim, ℕ, ◌+◌, ◌≤◌, List, sym, ◌∙◌, ap, subst, arith, length}
use Rattle.std.specs.Prelude.{Some, Contains}
use Rattle.std.proofs.lemmas.Bool.{cases_eq}
use Rattle.std.proofs.lemmas.List.Elements.{All-contains}
use Rattle.dn_model.specs.Table.{Row}
use Rattle.dn_model.specs.Disk.{Disk, rows}
use Rattle.dn_model.specs.Counts.{mappings}
use Rattle.law_table.specs.Rows.{PutsRow, TakesRow}
use Rattle.law_table.proofs.Rows.{all_listed}
use Rattle.law_table_on_disk.specs.BalanceLaws.{IsBalanced}
use Rattle.fact_table.specs.Table.{HasRow}
use Rattle.dn_volume.specs.declared.volume.Parts.{Parts}
use Rattle.dn_volume.specs.Reclaims.{one_if}
use Rattle.dn_volume.specs.Reserve.{owed_sum}
use Rattle.dn_volume.specs.Balance.{raised, added, dropped, AreCounted}
use Rattle.dn_volume.proofs.CountsMoved.{SameUnderWay}

abbrev IsFew : Parts → Type 0
IsFew b = length b.reclaiming.releases.items + owed_sum b (λ room. room.releases) + one_if b.reclaiming.raised ≤ 1105920

abbrev IsRight : Disk → Parts → Row → Type 0
IsRight d b row = IsBalanced d row (raised b row.slot) (added b row.slot) (dropped b row.slot)

right_of : (d : Disk) (b : Parts) → AreCounted d b → (row : Row) → Contains (rows d) row → IsRight d b row
right_of d b was row has = All-contains (IsRight d b) (rows d) row was.balanced has

-- Mappings of rows' pages are lost and gained, each by an update that was raised: the commit of a write or a cut, of a
-- sharing, and the fall of a dying inode's cut.
pub record MovesMappings (d e : Disk) (b b' : Parts) (lost gained : ℕ → ℕ) : Type 0 where
  pub rows_same : rows e ≡ rows d
  pub mappings_move : (row : Row) → Contains (rows d) row → mappings e row.page + lost row.slot ≡ mappings d row.page + gained row.slot
  pub raised_move : (slot : ℕ) → raised b' slot + lost slot + gained slot ≡ raised b slot
  pub added_move : (slot : ℕ) → added b' slot ≡ added b slot + gained slot
  pub dropped_move : (slot : ℕ) → dropped b' slot ≡ dropped b slot + lost slot
  pub zero_same : b'.reclaiming.zero_check ≡ b.reclaiming.zero_check
  pub few : IsFew b'

module _ (d e : Disk) (b b' : Parts) (lost gained : ℕ → ℕ) (moves : MovesMappings d e b b' lost gained) (was : AreCounted d b) where
  old : (row : Row) → Contains (rows e) row → Contains (rows d) row
  old row = subst (λ (rs : List Row). Contains rs row) moves.rows_same

  right_moved : (row : Row) → Contains (rows e) row → IsRight e b' row
  right_moved row has =
      let right = right_of d b was row (old row has) in
      record {
        updates = omega (arith, right.updates, moves.raised_move row.slot, moves.added_move row.slot, moves.dropped_move row.slot);
        references = omega (arith, right.references, moves.mappings_move row (old row has), moves.added_move row.slot, moves.dropped_move row.slot);
      }

  there_moved : (slot : ℕ) → 1 ≤ raised b' slot + added b' slot + dropped b' slot → HasRow e slot
  there_moved slot some =
      let has = was.there slot (omega (arith, some, moves.raised_move slot, moves.added_move slot, moves.dropped_move slot)) in
      record {
        row = has.row;
        is = record {
          there = subst (λ (rs : List Row). Contains rs has.row) (sym moves.rows_same) has.is.there;
          slot_is = has.is.slot_is;
        };
      }

  pub mappings_counted : AreCounted e b'
  mappings_counted = record {
    balanced = all_listed (IsRight e b') (rows e) right_moved;
    there = there_moved;
    zero_checked = λ row has none no_update. moves.zero_same ∙ was.zero_checked row (old row has) none no_update;
    few = moves.few;
  }

-- A row comes in, of a page that is mapped once: that mapping is added and not settled.
pub record ComesIn (d e : Disk) (b b' : Parts) (row : Row) : Type 0 where
  pub puts : PutsRow row (rows d) (rows e)
  pub mappings_same : (page : ℕ) → mappings e page ≡ mappings d page
  pub new_slot : (r : Row) → Contains (rows d) r → r.slot ≢ row.slot
  pub once : mappings d row.page ≡ 1
  pub no_reference : row.rfc ≡ 0
  pub one_update : row.uc ≡ 1
  pub none_raised : raised b' row.slot ≡ 0
  pub one_added : added b' row.slot ≡ 1
  pub none_dropped : dropped b' row.slot ≡ 0
  pub others : (slot : ℕ) → slot ≢ row.slot → SameUnderWay b b' slot
  pub zero_same : b'.reclaiming.zero_check ≡ b.reclaiming.zero_check
  pub few : IsFew b'

module _ (d e : Disk) (b b' : Parts) (row : Row) (comes : ComesIn d e b b' row) (was : AreCounted d b) where
  right_in : (r : Row) → Contains (rows e) r → IsRight e b' r
  right_in r has = ⊎_elim
      (λ (here : r ≡ row). subst (IsRight e b') (sym here) (record {
        updates = omega (arith, comes.one_update, comes.none_raised, comes.one_added, comes.none_dropped);
        references = omega (arith, comes.once, comes.mappings_same row.page, comes.no_reference, comes.one_added, comes.none_dropped);
      }))
      (λ (before : Contains (rows d) r).
      let right = right_of d b was r before in
      let same = comes.others r.slot (comes.new_slot r before) in
      record {
        updates = omega (arith, right.updates, same.raised_same, same.added_same, same.dropped_same);
        references = omega (arith, right.references, comes.mappings_same r.page, same.added_same, same.dropped_same);
      }) (comes.puts.only r has)

  there_in : (slot : ℕ) → 1 ≤ raised b' slot + added b' slot + dropped b' slot → HasRow e slot
  there_in slot some = elim (cases_eq slot row.slot) [
    | inl here ↦ record { row = row; is = record { there = comes.puts.here; slot_is = sym here } }
    | inr ne ↦
        let same = comes.others slot ne in
        let has = was.there slot (omega (arith, some, same.raised_same, same.added_same, same.dropped_same)) in
        record { row = has.row; is = record { there = comes.puts.kept has.row has.is.there; slot_is = has.is.slot_is } }
  ]

  zero_in : (r : Row) → Contains (rows e) r → r.rfc ≡ 0 → r.uc ≡ 0 → b'.reclaiming.zero_check ≡ Some r.slot
  zero_in r has none no_update = ⊎_elim
      (λ (here : r ≡ row). absurd (let one = ap (λ (x : Row). x.uc) here in omega (arith, one, no_update, comes.one_update)))
      (λ (before : Contains (rows d) r). comes.zero_same ∙ was.zero_checked r before none no_update) (comes.puts.only r has)

  pub coming_counted : AreCounted e b'
  coming_counted = record { balanced = all_listed (IsRight e b') (rows e) right_in; there = there_in; zero_checked = zero_in; few = comes.few }

-- The row that is looked at goes, as its counts are 0.
pub record GoesOut (d e : Disk) (b b' : Parts) (row : Row) : Type 0 where
  pub takes : TakesRow row (rows d) (rows e)
  pub has : Contains (rows d) row
  pub mappings_same : (page : ℕ) → mappings e page ≡ mappings d page
  pub no_reference : row.rfc ≡ 0
  pub no_update : row.uc ≡ 0
  pub same : (slot : ℕ) → SameUnderWay b b' slot
  pub few : IsFew b'

module _ (d e : Disk) (b b' : Parts) (row : Row) (goes : GoesOut d e b b' row) (was : AreCounted d b) where
  right_out : (r : Row) → Contains (rows e) r → IsRight e b' r
  right_out r has =
      let right = right_of d b was r (goes.takes.only r has).0 in
      let same = goes.same r.slot in
      record {
        updates = omega (arith, right.updates, same.raised_same, same.added_same, same.dropped_same);
        references = omega (arith, right.references, goes.mappings_same r.page, same.added_same, same.dropped_same);
      }

  there_out : (slot : ℕ) → 1 ≤ raised b' slot + added b' slot + dropped b' slot → HasRow e slot
  there_out slot some =
      let same = goes.same slot in
      let found = was.there slot (omega (arith, some, same.raised_same, same.added_same, same.dropped_same)) in
      let right = right_of d b was found.row found.is.there in
      ⊎_elim
      (λ (here : found.row ≡ row). absurd (
      let right_here : IsRight d b row = subst (IsRight d b) here right in
      let slot_here : row.slot ≡ slot = ap (λ (x : Row). x.slot) (sym here) ∙ found.is.slot_is in
      let busy : 1 ≤ raised b row.slot + added b row.slot + dropped b row.slot =
      subst (λ (x : ℕ). 1 ≤ raised b x + added b x + dropped b x) (sym slot_here)
      (omega (arith, some, same.raised_same, same.added_same, same.dropped_same)) in
      omega (arith, right_here.updates, goes.no_update, busy)))
      (λ (still : Contains (rows e) found.row). record { row = found.row; is = record { there = still; slot_is = found.is.slot_is } })
      (goes.takes.kept found.row found.is.there)

  one_checked : (p q : ℕ) → b.reclaiming.zero_check ≡ Some p → b.reclaiming.zero_check ≡ Some q → p ≡ q
  one_checked p q there here = cc

  pub going_counted : AreCounted e b'
  going_counted = record {
    balanced = all_listed (IsRight e b') (rows e) right_out;
    there = there_out;
    zero_checked = λ r has none no_update.
        let only = goes.takes.only r has in
        absurd (only.1 (one_checked r.slot row.slot (was.zero_checked r only.0 none no_update) (was.zero_checked row goes.has goes.no_reference
        goes.no_update)));
    few = goes.few;
  }
