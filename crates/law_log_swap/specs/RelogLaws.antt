-- The laws of a log that keeps its places.
use Rattle.std.specs.Prelude.{◌⊎◌, ℕ}
use Rattle.dn_model.specs.Log.{Log, LogSays}
use Rattle.dn_model.specs.Disk.{Disk, DiskSays}
use Rattle.dn_model.specs.Valid.{IsValid}
use Rattle.dn_model.specs.Own.{Print, IsOwn, Settled}
use Rattle.law_log_swap.specs.Relogged.{
  relogged,
  MayRelog,
  IsRelogged,
  KeepsData,
  MovesLog,
  TellsDone,
  KeepsDone,
}

abbrev pub RelogChangesParts : Type 0
RelogChangesParts = (d : Disk) (ino : ℕ) (log : Log) → IsRelogged d ino log (relogged d ino log)

-- a valid disk stays valid
abbrev pub RelogStaysValid : Type 0
RelogStaysValid = (d : Disk) (ino : ℕ) (log : Log) → MayRelog d ino log
    → IsValid (relogged d ino log)

-- it says what it said, and what the log says
abbrev pub RelogSays : Type 0
RelogSays = (d : Disk) (ino : ℕ) (log : Log) → MayRelog d ino log → (a v : ℕ)
    → DiskSays (relogged d ino log) a v → DiskSays d a v ⊎ LogSays ino log a v

abbrev pub RelogKeepsData : Type 0
RelogKeepsData = (d : Disk) (ino : ℕ) (log : Log) → MayRelog d ino log
    → KeepsData d (relogged d ino log) ino

abbrev pub RelogMovesLog : Type 0
RelogMovesLog = (d : Disk) (ino : ℕ) (log : Log) → MayRelog d ino log
    → MovesLog d (relogged d ino log) ino log

-- what every image of this program has stays, where no place is called complete too soon
abbrev pub RelogStaysOwn : Type 0
RelogStaysOwn = (print : Print) (d : Disk) (ino : ℕ) (log : Log) → MayRelog d ino log
    → TellsDone d log → IsOwn print d → IsOwn print (relogged d ino log)

abbrev pub RelogStaysSettled : Type 0
RelogStaysSettled = (d : Disk) (ino : ℕ) (log : Log) → MayRelog d ino log
    → KeepsDone (d.inode ino).log log → Settled d → Settled (relogged d ino log)
