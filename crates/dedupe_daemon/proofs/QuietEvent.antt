-- An event of the daemon that stores nothing.
use Rattle.std.proofs.Common.{[], refl, arith}
use Rattle.pm_device.specs.State.{State, Agree}
use Rattle.pm_device.proofs.Only.{stores_only-none}
use Rattle.dn_model.specs.Disk.{Disk}
use Rattle.dn_model.specs.Own.{Print}
use Rattle.dn_volume.specs.declared.volume.Parts.{Parts}
use Rattle.dn_volume.specs.Agrees.{IsVolume}
use Rattle.dn_volume.specs.Rely.{IsWordOf, LeavesRest}
use Rattle.dn_volume.proofs.Kept.{quiet_accounts}
use Rattle.reclaim.proofs.Zeroed.{images_now}
use Rattle.dedupe_daemon.proofs.DaemonEvent.{KeepsDisk, DaemonShown}

pub disk_same : (d : Disk) → KeepsDisk d d
disk_same d = record {
  geometry = refl;
  names = λ name. refl;
  rows_same = refl;
  mappings_same = λ page. refl;
  free_kept = λ page free. free;
  free_only = λ page free. free;
  pointer = λ page. refl;
  units = refl;
  files_same = λ name. refl;
}

pub leaves_same : (d : Disk) (s : State) → Agree s.now s.past → LeavesRest 15 [] [] d d s s
leaves_same d s agree = record {
  rest = record {
    geometry = refl;
    inode = λ i out. refl;
    named_so = λ i name some out. ((λ x. x), (λ x. x));
    word = λ page k read. refl;
    unused = λ page out unused. unused;
    slots = λ i idx m lt out mapped. refl;
    counting = λ row has some. record { still = row; there = has; slot = refl; page = refl; print = refl };
  };
  only = stores_only-none (IsWordOf [] [] d) s agree;
  others = λ q a ne out inside flushed. flushed;
}

pub shown_same : (print : Print) (d : Disk) (b : Parts) (s : State) → IsVolume d b s → Agree s.now s.past → DaemonShown print d d s s
shown_same print d b s v agree = record {
  images = images_now print d s b.geometry v.fast agree;
  own = λ own. own;
  accounts = λ own. quiet_accounts print d;
  faults = omega arith;
}
