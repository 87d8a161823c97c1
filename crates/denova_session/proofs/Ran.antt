-- How a call ends whose job was run in threads.
use Rattle.std.proofs.Common.{◌≡◌, ℕ, List, length, refl, sym, ◌∙◌, ap, subst}
use Rattle.std.specs.Prelude.{Ok}
use Rattle.pm_device.specs.State.{State, Agree}
use Rattle.pm_device.specs.Settled.{Still}
use Rattle.dn_model.specs.Disk.{Disk}
use Rattle.dn_model.specs.Own.{Print}
use Rattle.dn_model.specs.declared.op.Op.{Op}
use Rattle.dn_model.specs.declared.op.Entry.{Entry}
use Rattle.dn_model.specs.declared.op.CountChange.{CountChange}
use Rattle.law_unique.proofs.OneFault.{fault_none}
use Rattle.dn_script.specs.declared.job.Line.{Line}
use Rattle.call_endings.specs.declared.ending.Ending.{Ending}
use Rattle.call_endings.specs.declared.ending.Ending.TheVariants.{Done, Faulty, Stopped, NoMemory}
use Rattle.dn_volume.specs.declared.volume.Volume.{Volume}
use Rattle.job_texts.specs.Plan.{scripts_in, line_numbers_in}
use Rattle.job_texts.specs.Told.{stopped_run_text}
use Rattle.thread_runs.specs.declared.reading.Readings.{Readings}
use Rattle.thread_texts.specs.declared.lines.CountRead.{CountRead}
use Rattle.thread_texts.specs.Texts.{thread_text}
use Rattle.denova_runs.specs.declared.run.RunEnd.{RunEnd}
use Rattle.denova_runs.specs.declared.run.RunEnd.TheVariants as ended
use Rattle.denova_runs.specs.Ran.{TellsOf, RunFails}
use Rattle.denova_runs.proofs.Mounts.{begins_still}
use Rattle.denova_calls.specs.RunSteps.{EndEnds, WholeEnds}
use Rattle.denova_calls.proofs.Parts.{stays_part, ran_part, part_tells, ran_tells}
use Rattle.denova_session.specs.Reads.{reads_of}
use Rattle.denova_session.specs.Counted.{LeavesWords, RanCounted}
use Rattle.denova_session.specs.Ends.{HasRunThreads, ThreadsEnd}
use Rattle.denova_session.specs.Steps.{HasRanThreads}
use Rattle.denova_session.specs.declared.threads.Ran.{Ran}

-- what is told of a run, in other words
counted_tells : (print : Print) (clients : List (ℕ × List Line)) (d : Disk) (s t : State) (words : List ℕ) (trace : List CountChange)
    (readings : List Readings) (tells other : List Entry → Disk → ℕ → Type 0)
    → ((h : List Entry) (after : Disk) (free : ℕ) → tells h after free → other h after free)
    → RanCounted print clients d s t words trace readings tells
    → RanCounted print clients d s t words trace readings other
counted_tells print clients d s t words trace readings tells other says r = record {
  opened = r.opened;
  same = r.same;
  exact = r.exact;
  opening = r.opening;
  reads = r.reads;
  whole = ran_tells print (scripts_in clients) d s t (λ h after free. LeavesWords words trace after × tells h after free)
      (λ h after free. LeavesWords words trace after × other h after free) r.whole
      (r.whole.tells.0, says r.whole.history r.whole.after r.whole.free r.whole.tells.1);
}

module _ {D F : Type 0} (state : D → State) (print : Print) (clients : List (ℕ × List Line)) (numbers : List (ℕ × List ℕ))
    (are : numbers ≡ line_numbers_in clients) (s : State) where
  abbrev text_by : Ran D F → List (ℕ × List ℕ) → List Entry → ℕ → List ℕ
  text_by ran ns history free =
      thread_text ran.opening.items ns history ran.volume.parts.trace.items (reads_of ran.readings.items) free

  -- the text tells the history and the free pages
  ran_says : (ran : Ran D F) (text : List ℕ) → text ≡ text_by ran numbers ran.volume.parts.history.items (length ran.volume.parts.free.free)
      → (h : List Entry) (after : Disk) (free : ℕ) → TellsOf state ran.volume h after free → text ≡ text_by ran (line_numbers_in clients) h free
  ran_says ran text is h after free told =
      is
      ∙ ap (λ (ns : List (ℕ × List ℕ)). text_by ran ns ran.volume.parts.history.items (length ran.volume.parts.free.free)) are
      ∙ ap (λ (es : List Entry). text_by ran (line_numbers_in clients) es (length ran.volume.parts.free.free)) told.history_is
      ∙ ap (λ (n : ℕ). text_by ran (line_numbers_in clients) h n) told.free_is

  ends_so : (ran : Ran D F) → HasRanThreads state print clients s ran → (e : Ending)
      → WholeEnds (λ text. text ≡ text_by ran numbers ran.volume.parts.history.items (length ran.volume.parts.free.free)) e
      → ThreadsEnd print clients s (state ran.volume.device) e
  ends_so ran has (Done text) ends = (
    has.sound,
    λ d stands own. record {
      words = ran.opening.items;
      trace = ran.volume.parts.trace.items;
      readings = ran.readings.items;
      ran = counted_tells print clients d s (state ran.volume.device) ran.opening.items ran.volume.parts.trace.items ran.readings.items
          (TellsOf state ran.volume)
          (λ h after free. text.items ≡ text_by ran (line_numbers_in clients) h free)
          (λ h after free told. ran_says ran text.items ends h after free told) (has.run d stands own);
    },
  )
  ends_so ran has NoMemory ends = λ d stands own.
      ran_part print (scripts_in clients) d s (state ran.volume.device)
      (λ h after free. LeavesWords ran.opening.items ran.volume.parts.trace.items after × TellsOf state ran.volume h after free)
      (has.run d stands own).whole
  ends_so ran has e ends = absurd ends

  pub ran_ends : (ran : Ran D F) → HasRanThreads state print clients s ran → (device : D) → device ≡ ran.volume.device → (e : Ending)
      → WholeEnds (λ text. text ≡ text_by ran numbers ran.volume.parts.history.items (length ran.volume.parts.free.free)) e
      → ThreadsEnd print clients s (state device) e
  ran_ends ran has device is e ends = subst (λ (x : D). ThreadsEnd print clients s (state x) e) (sym is) (ends_so ran has e ends)

-- a run that didn't come to its end
module _ (print : Print) (clients : List (ℕ × List Line)) (s t : State) where
  abbrev scripts : List (ℕ × List Op)
  scripts = scripts_in clients

  abbrev Ends : Ending → Type 0
  Ends e = ThreadsEnd print clients s t e

  ends_by : (end : RunEnd) (e : Ending) → RunFails print scripts s t end → EndEnds (line_numbers_in clients) end e → Ends e
  ends_by (ended.Faulty f) (Faulty text) fails ends = (f, fails, ends)
  ends_by (ended.Faulty f) NoMemory fails ends =
      λ d stands own. absurd (fault_none s.now f fails.is (record { disk = d; stands_for = stands }))
  ends_by (ended.Faulty f) e fails ends = absurd ends
  ends_by ended.Failed e fails ends = subst Ends (sym ends) fails
  ends_by (ended.Stopped history) (Stopped text) fails ends = (
    fails.0,
    λ d stands own. part_tells print scripts d s t (λ h. h ≡ history.items) (λ h. text.items ≡ stopped_run_text (line_numbers_in clients) h)
        (λ h is. ends ∙ ap (stopped_run_text (line_numbers_in clients)) (sym is)) (fails.1 d stands own),
  )
  ends_by (ended.Stopped history) NoMemory fails ends =
      λ d stands own. part_tells print scripts d s t (λ h. h ≡ history.items) (λ h. Unit {0}) (λ h is. tt) (fails.1 d stands own)
  ends_by (ended.Stopped history) e fails ends = absurd ends
  ends_by ended.NoMemory e fails ends = subst Ends (sym ends) fails

  pub part_ends : (numbers : List (ℕ × List ℕ)) → numbers ≡ line_numbers_in clients → (end : RunEnd) (e : Ending)
      → RunFails print scripts s t end → EndEnds numbers end e → Ends e
  part_ends numbers are end e fails ends =
      ends_by end e fails (subst (λ (ns : List (ℕ × List ℕ)). EndEnds ns end e) are ends)

-- there was no memory for the numbers of the lines
pub no_run : (print : Print) (clients : List (ℕ × List Line)) (s : State) → Agree s.now s.past → Still s → ThreadsEnd print clients s s NoMemory
no_run print clients s agree still =
    λ d stands own. stays_part print (scripts_in clients) d s s (λ h. Unit {0}) tt (begins_still print d s agree still stands own).course
