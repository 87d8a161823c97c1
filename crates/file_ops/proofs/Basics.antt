-- What a write or a cut in flight holds.
use Rattle.std.proofs.Common.{◌≡◌, ⊎_elim, ℕ, [], ◌∷◌, sym, arith}
use Rattle.std.specs.Prelude.{Option, Some, Contains}
use Rattle.dn_model.specs.Disk.{Disk}
use Rattle.dn_model.specs.declared.op.Op.{Op}
use Rattle.dn_model.specs.declared.op.Op.TheVariants.{Create, Write, Read, Cut, Remove, Rename, Size, List as ListAll}
use Rattle.law_table.proofs.Rows.{listed_cases}
use Rattle.dn_volume.specs.declared.flight.Flight.{Flight}
use Rattle.dn_volume.specs.declared.flight.DataChange.{DataChange}
use Rattle.dn_volume.specs.Planned.{PlansData}

pub same_flight : (r : Option Flight) (f g : Flight) → r ≡ Some f → r ≡ Some g → f ≡ g
same_flight r f g a b = cc

-- a write or a cut holds its file alone
pub held_is : (d : Disk) (f : Flight) (c : DataChange) (op : Op) → PlansData d f c op → f.held.items ≡ f.ino ∷ []
held_is d f c (Create name) plans = absurd plans
held_is d f c (Write name at text) plans = plans.held
held_is d f c (Read name at count) plans = absurd plans
held_is d f c (Cut name to) plans = plans.held
held_is d f c (Remove name) plans = absurd plans
held_is d f c (Rename from to) plans = absurd plans
held_is d f c (Size name) plans = absurd plans
held_is d f c ListAll plans = absurd plans

pub only_one : (x y : ℕ) → Contains (x ∷ []) y → y ≡ x
only_one x y has = ⊎_elim (λ e. sym e) (λ (none : Contains [] y). absurd (omega (arith, none.1))) (listed_cases x [] y has)
