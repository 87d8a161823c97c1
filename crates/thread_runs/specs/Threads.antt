-- What a run of clients in threads promises.
use Rattle.std.specs.Prelude.{◌≡◌, ℕ, false, List, Result, Ok, Err, Vec}
use Rattle.std.specs.declared.alloc.Global.{Global}
use Rattle.pm_device.specs.State.{State, Rose}
use Rattle.pm_layout.specs.Geometry.{slots}
use Rattle.dn_model.specs.declared.op.CountChange.{CountChange}
use Rattle.dn_volume.specs.declared.volume.Volume.{Volume}
use Rattle.dn_volume.specs.Resting.{AllLanded}
use Rattle.dn_core.specs.Rest.{CountsRest}
use Rattle.count_board.specs.Reads.{ReadsFit}
use Rattle.dn_shared.specs.Ends.{AreCountWords, CountsAsTraced}
use Rattle.dn_script.specs.declared.job.Line.{Line}
use Rattle.job_runs.specs.Scripts.{IsScripted, IsFront}
use Rattle.job_runs.specs.Playing.{FlyNext}
use Rattle.job_runs.specs.declared.script.RunFault.{RunFault}
use Rattle.job_runs.specs.declared.script.RunFault.TheVariants as fault
use Rattle.job_texts.specs.Plan.{scripts_in}
use Rattle.thread_runs.specs.declared.reading.Readings.{Readings}
use Rattle.thread_runs.specs.Reading.{Pairs, ReadsLines, seen_in}

-- What a client read: its lines ask for just that, and the counts fit the trace from those words
-- on.
pub record IsReadBy (slots : ℕ) (words : List ℕ) (trace : List CountChange) (c : ℕ × List Line)
    (r : Readings) : Type 0 where
  pub who : r.who ≡ c.0
  pub lines : ReadsLines slots c.1 r.readings.items
  pub fits : ReadsFit words trace (seen_in r.readings.items)

-- so it is of each client, in order
abbrev pub HasReadings : ℕ → List ℕ → List CountChange → List (ℕ × List Line) → List Readings
    → Type 0
HasReadings slots words trace clients readings =
    Pairs (IsReadBy slots words trace) clients readings

-- Every line was run: the history has each client's operations, nothing is in flight, nothing is left
-- for the daemon, and nothing waits to be released.
pub record RanThreads {D F : Type 0} (state : D → State) (clients : List (ℕ × List Line))
    (u v : Volume D F) (readings : List Readings) : Type 0 where
  pub scripted : IsScripted (scripts_in clients) v.parts.history.items
  pub landed : AllLanded v.parts
  pub running : v.parts.stopped ≡ false
  pub rests : CountsRest v.parts
  -- the count word of each slot as the threads began
  pub words : List ℕ
  pub opening : AreCountWords state u words
  pub reads : HasReadings (slots u.parts.geometry) words v.parts.trace.items clients readings
  pub counts : CountsAsTraced state words v

abbrev pub EndsThreads : {D F : Type 0} → (D → State) → List (ℕ × List Line) → Volume D F
    → Volume D F → Result (Vec Readings Global) RunFault → Type 0
EndsThreads state clients u v (Ok readings) = RanThreads state clients u v readings.items
EndsThreads state clients u v (Err fault.NoMemory) =
    IsFront (scripts_in clients) v.parts.history.items × AllLanded v.parts
    × (v.parts.stopped ≡ false)
EndsThreads state clients u v (Err fault.Stopped) =
    Rose (state u.device).faults (state v.device).faults
    × IsFront (scripts_in clients) v.parts.history.items × FlyNext (scripts_in clients) v.parts
