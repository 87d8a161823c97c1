-- Which machine goes on with an operation in flight.
use Rattle.std.specs.Prelude.{Option, Some, None}
use Rattle.dn_model.specs.declared.op.Op.{Op}
use Rattle.dn_model.specs.declared.op.Op.TheVariants as op
use Rattle.dn_volume.specs.Begins.{IsWriteOp, IsCutOp, IsNamesOp}
use Rattle.dn_volume.specs.declared.kind.FlightKind.{FlightKind}
use Rattle.dn_volume.specs.declared.kind.FlightKind.TheVariants.{Write, Cut, Names}

-- the machine of an operation, unless it is answered in its begin
abbrev pub machine_of : Op → Option FlightKind
machine_of (op.Create name) = Some Names
machine_of (op.Write name at text) = Some Write
machine_of (op.Read name at count) = None
machine_of (op.Cut name to) = Some Cut
machine_of (op.Remove name) = Some Names
machine_of (op.Rename from to) = Some Names
machine_of (op.Size name) = None
machine_of op.List = None

abbrev pub IsServedBy : FlightKind → Op → Type 0
IsServedBy Write done = IsWriteOp done
IsServedBy Cut done = IsCutOp done
IsServedBy Names done = IsNamesOp done
