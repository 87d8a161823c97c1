-- What the steps of a run in threads hand on.
use Rattle.std.specs.declared.alloc.Global.{Global}
use Rattle.std.specs.Prelude.{◌≡◌, ℕ, List, [], Result, Ok, Err, Vec}
use Rattle.pm_device.specs.State.{State, Rose}
use Rattle.dn_model.specs.Image.{HasNoFault}
use Rattle.dn_model.specs.Own.{Print}
use Rattle.dn_script.specs.declared.job.Line.{Line}
use Rattle.dn_volume.specs.declared.volume.Volume.{Volume}
use Rattle.dn_volume.specs.Agrees.{Agrees}
use Rattle.dn_shared.specs.Ends.{AreCountWords}
use Rattle.job_runs.specs.declared.script.RunFault.{RunFault}
use Rattle.job_runs.specs.declared.script.RunFault.TheVariants as fault
use Rattle.job_runs.specs.Playing.{IsNew}
use Rattle.job_texts.specs.Plan.{scripts_in}
use Rattle.thread_runs.specs.declared.reading.Readings.{Readings}
use Rattle.denova_runs.specs.declared.run.RunEnd.{RunEnd}
use Rattle.denova_runs.specs.Runs.{OfOpening, HasRunPart}
use Rattle.denova_runs.specs.Ran.{TellsOf}
use Rattle.denova_runs.specs.Opened.{IsBegun}
use Rattle.denova_session.specs.Counted.{RanCounted}
use Rattle.denova_session.specs.declared.threads.Ran.{Ran}

-- a volume was mounted from a device that was so, and these are the count words of its rows
pub record IsOpened {D F : Type 0} (state : D → State) (print : Print) (s : State)
    (v : Volume D F) (words : List ℕ) : Type 0 where
  pub sound : HasNoFault s.now
  pub agrees : Agrees state v
  pub new : IsNew v.parts
  pub trace : v.parts.trace.items ≡ []
  pub begun : IsBegun state print s v
  pub counts : AreCountWords state v words

abbrev pub opened_device : {D F : Type 0} → Result (Volume D F × Vec ℕ Global) (RunEnd × D) → D
opened_device (Ok opened) = opened.0.device
opened_device (Err back) = back.1

-- how a run on such a volume u ends, with the volume v
abbrev pub EndsThreaded : {D F : Type 0} → (D → State) → Print → List (ℕ × List Line) → State
    → Volume D F → Volume D F → Result (Vec Readings Global) RunFault → Type 0
EndsThreaded state print clients s u v (Ok readings) =
    (words : List ℕ) → AreCountWords state u words → OfOpening print s
    (λ d. RanCounted print clients d s (state v.device) words v.parts.trace.items readings.items
    (TellsOf state v))
EndsThreaded state print clients s u v (Err fault.NoMemory) = OfOpening print s
    (λ d. HasRunPart print (scripts_in clients) d s (state v.device) (λ h. Unit {0}))
EndsThreaded state print clients s u v (Err fault.Stopped) =
    Rose s.faults (state v.device).faults × OfOpening print s
    (λ d. HasRunPart print (scripts_in clients) d s (state v.device)
    (λ h. h ≡ v.parts.history.items))

-- what is left of a run from a device that was so
pub record HasRanThreads {D F : Type 0} (state : D → State) (print : Print)
    (clients : List (ℕ × List Line)) (s : State) (ran : Ran D F) : Type 0 where
  pub sound : HasNoFault s.now
  pub run : OfOpening print s
      (λ d. RanCounted print clients d s (state ran.volume.device) ran.opening.items
      ran.volume.parts.trace.items ran.readings.items (TellsOf state ran.volume))

abbrev pub ran_device : {D F : Type 0} → Result (Ran D F) (RunEnd × D) → D
ran_device (Ok ran) = ran.volume.device
ran_device (Err back) = back.1
