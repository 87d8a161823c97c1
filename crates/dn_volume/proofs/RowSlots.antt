-- The rows at slots are there, and balance with what is under way.
use Rattle.std.proofs.Common.{◌≡◌, ℕ, zero, suc, ◌+◌, Bool, true, false, List, [], ◌∷◌, refl, subst}
use Rattle.std.specs.Prelude.{Option, Some, None, Contains, All, if◌then◌else◌, ◌==◌}
use Rattle.std.proofs.lemmas.List.Elements.{All-nil, All-cons, All-append, All-contains}
use Rattle.pm_device.specs.State.{State}
use Rattle.dn_model.specs.Maps.{Mapping}
use Rattle.dn_model.specs.Table.{Row, row_of}
use Rattle.dn_model.specs.Disk.{Disk, maps, rows}
use Rattle.law_table.proofs.Rows.{listed_here, listed_later}
use Rattle.law_table_on_disk.specs.BalanceLaws.{IsBalanced}
use Rattle.fact_table.specs.Table.{IsAtSlot, HasRow}
use Rattle.dn_volume.specs.declared.volume.Parts.{Parts}
use Rattle.dn_volume.specs.Planned.{slot_of, slot_of_row, row_slots}
use Rattle.dn_volume.specs.Balance.{raised, added, dropped}
use Rattle.dn_volume.specs.Agrees.{IsVolume}

pub found_in : (rs : List Row) (page : ℕ) (row : Row) → row_of rs page ≡ Some row → Contains rs row
found_in [] page row is = cc
found_in (r ∷ rs) page row is = by_test (found_in rs page row) (r.page == page) refl is
  where
    some_same : r ∷ [] ≡ r ∷ [] → Some r ≡ Some row → r ≡ row
    some_same e at = cc

    by_test : (row_of rs page ≡ Some row → Contains rs row) → (b : Bool) → (r.page == page) ≡ b → (if b then Some r else row_of rs page) ≡ Some row
        → Contains (r ∷ rs) row
    by_test later true test at = subst (Contains (r ∷ rs)) (some_same refl at) (listed_here r rs)
    by_test later false test at = listed_later r rs row (later at)

module _ (d : Disk) where
  row_there : (r : Option Row) (page : ℕ) → row_of (rows d) page ≡ r → All (HasRow d) (slot_of_row r)
  row_there None page is = All-nil (HasRow d)
  row_there (Some row) page is = All-cons (HasRow d) row.slot []
      (record { row = row; is = record { there = found_in (rows d) page row is; slot_is = refl } }) (All-nil (HasRow d))

  pub row_slots_there : (ino from n : ℕ) → All (HasRow d) (row_slots d ino from n)
  unfolding row_slots
  row_slots_there ino from zero = All-nil (HasRow d)
  row_slots_there ino from (suc n) = All-append (HasRow d) (slot_of d (maps d ino from)) (row_slots d ino (from + 1) n) (one (maps d ino from))
      (row_slots_there ino (from + 1) n)
    where
      one : (m : Option Mapping) → All (HasRow d) (slot_of d m)
      one None = All-nil (HasRow d)
      one (Some m) = row_there (row_of (rows d) m.block) m.block refl

module _ (d : Disk) (b : Parts) (s : State) (v : IsVolume d b s) where
  -- the row at a slot balances with what is under way there
  pub balance_at : (slot : ℕ) (row : Row) → IsAtSlot d slot row → IsBalanced d row (raised b slot) (added b slot) (dropped b slot)
  balance_at slot row is =
      subst (λ (x : ℕ). IsBalanced d row (raised b x) (added b x) (dropped b x)) is.slot_is
      (All-contains (λ (r : Row). IsBalanced d r (raised b r.slot) (added b r.slot) (dropped b r.slot)) (rows d) row v.counts.balanced is.there)
