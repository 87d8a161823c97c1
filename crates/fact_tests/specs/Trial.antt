-- Which call may be made of a row.
use Rattle.std.specs.Prelude.{◌≡◌}
use Rattle.dn_model.specs.Table.{Row}
use Rattle.fact_counts.specs.Counted.{MayRaise, MaySettleUp, MaySettleDown}
use Rattle.fact_calls.specs.declared.call.TableCall.{TableCall}
use Rattle.fact_calls.specs.declared.call.TableCall.TheVariants.{
  Insert,
  Raise,
  SettleUp,
  SettleDown,
  Recount,
  RemoveZero,
  ClearStale,
}

-- the call is one of this row's slot, and the row's counts allow it
abbrev pub MayBy : Row → TableCall → Type 0
MayBy row (Insert print page) = ⊥
MayBy row (Raise slot) = (row.slot ≡ slot) × MayRaise row
MayBy row (SettleUp slot) = (row.slot ≡ slot) × MaySettleUp row
MayBy row (SettleDown slot) = (row.slot ≡ slot) × MaySettleDown row
MayBy row (Recount slot rfc) = row.slot ≡ slot
MayBy row (RemoveZero slot) = (row.slot ≡ slot) × (row.rfc ≡ 0) × (row.uc ≡ 0)
MayBy row ClearStale = ⊥
