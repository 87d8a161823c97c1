-- Why an image isn't read, as a mount tells it.
use Rattle.dn_check.specs.declared.read.Halt.{Halt}
use Rattle.dn_check.specs.declared.read.Halt.TheVariants.{Fault, NoMemory as NoRoom}
use Rattle.dn_mount.specs.declared.fault.MountFault.{MountFault}
use Rattle.dn_mount.specs.declared.fault.MountFault.TheVariants.{Image, NoMemory}

abbrev pub fault_of_halt : Halt → MountFault
fault_of_halt (Fault fault) = Image fault
fault_of_halt NoRoom = NoMemory
