-- Why an image is read no further, as parts of the reading tell it.
use Rattle.image_logs.specs.declared.logs.LogsFault.{LogsFault}
use Rattle.image_logs.specs.declared.logs.LogsFault.TheVariants.{
  BadLog as BadLogRead,
  NoMemory as NoMemoryForLogs,
}
use Rattle.fact_scan.specs.declared.scan.ScanFault.{ScanFault}
use Rattle.fact_scan.specs.declared.scan.ScanFault.TheVariants.{
  BadTable as BadRows,
  NoMemory as NoMemoryForRows,
}
use Rattle.dn_model.specs.declared.fault.ImageFault.TheVariants.{BadLog, BadTable}
use Rattle.dn_check.specs.declared.read.Halt.{Halt}
use Rattle.dn_check.specs.declared.read.Halt.TheVariants.{Fault, NoMemory}

abbrev pub halt_of_logs : LogsFault → Halt
halt_of_logs (BadLogRead ino place) = Fault (BadLog ino place)
halt_of_logs NoMemoryForLogs = NoMemory

abbrev pub halt_of_scan : ScanFault → Halt
halt_of_scan (BadRows slot) = Fault (BadTable slot)
halt_of_scan NoMemoryForRows = NoMemory
