-- What is left of a run: a volume that is drained, or why there is none.
use Rattle.std.specs.Prelude.{◌≡◌, ℕ, List, length, Result, Ok, Err}
use Rattle.pm_device.specs.State.{State, Rose}
use Rattle.dn_model.specs.Disk.{Disk}
use Rattle.dn_model.specs.Image.{HasNoFault}
use Rattle.dn_model.specs.Own.{Print}
use Rattle.dn_model.specs.declared.op.Op.{Op}
use Rattle.dn_model.specs.declared.op.Entry.{Entry}
use Rattle.dn_volume.specs.declared.volume.Volume.{Volume}
use Rattle.dn_volume.specs.Agrees.{IsVolume}
use Rattle.job_runs.specs.declared.plan.Order.{Order}
use Rattle.denova_runs.specs.declared.run.RunEnd.{RunEnd}
use Rattle.denova_runs.specs.declared.run.RunEnd.TheVariants.{Faulty, Failed, Stopped, NoMemory}
use Rattle.denova_runs.specs.Runs.{OfOpening, HasFault, HasRun, HasRunPart, StaysOnCourse}

-- the volume has the history and the free pages, and stands for the disk that is left
pub record TellsOf {D F : Type 0} (state : D → State) (v : Volume D F) (history : List Entry)
    (after : Disk) (free : ℕ) : Type 0 where
  pub history_is : v.parts.history.items ≡ history
  pub volume : IsVolume after v.parts (state v.device)
  pub free_is : length v.parts.free.free ≡ free

pub record HasRunVolume {D F : Type 0} (state : D → State) (print : Print) (order : Order)
    (scripts : List (ℕ × List Op)) (turns : List ℕ) (s : State) (v : Volume D F) : Type 0 where
  pub sound : HasNoFault s.now
  pub run : OfOpening print s
      (λ d. HasRun print order scripts turns d s (state v.device) (TellsOf state v))

-- why there is none: the image has a fault; the device failed while it was mounted, or later, when
-- these were answered; or memory ran out
abbrev pub RunFails : Print → List (ℕ × List Op) → State → State → RunEnd → Type 0
RunFails print scripts s t (Faulty fault) = HasFault s t fault
RunFails print scripts s t Failed =
    Rose s.faults t.faults × OfOpening print s (StaysOnCourse print s t)
RunFails print scripts s t (Stopped history) = Rose s.faults t.faults
    × OfOpening print s (λ d. HasRunPart print scripts d s t (λ h. h ≡ history.items))
RunFails print scripts s t NoMemory =
    OfOpening print s (λ d. HasRunPart print scripts d s t (λ h. Unit {0}))

-- the device that comes back
abbrev pub device_after : {D F : Type 0} → Result (Volume D F) (RunEnd × D) → D
device_after (Ok v) = v.device
device_after (Err back) = back.1
