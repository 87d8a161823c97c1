-- What runs tell of calls.
use Rattle.std.proofs.Common.{◌≡◌, ℕ, List, [], length, ap, ◌∙◌, sym, subst}
use Rattle.pm_device.specs.State.{State, Agree}
use Rattle.pm_device.specs.Settled.{Still}
use Rattle.dn_model.specs.Disk.{Disk}
use Rattle.dn_model.specs.Own.{Print}
use Rattle.dn_model.specs.declared.op.Op.{Op}
use Rattle.dn_model.specs.declared.op.Entry.{Entry}
use Rattle.law_unique.proofs.OneFault.{fault_none}
use Rattle.dn_script.specs.declared.line.JobForm.{JobForm}
use Rattle.dn_report.specs.Listing.{work_text}
use Rattle.call_endings.specs.Call.{Input}
use Rattle.call_endings.specs.declared.ending.Ending.{Ending}
use Rattle.call_endings.specs.declared.ending.Ending.TheVariants.{Done, Faulty, Stopped, NoMemory}
use Rattle.dn_volume.specs.declared.volume.Volume.{Volume}
use Rattle.job_runs.specs.declared.plan.Order.{Order}
use Rattle.job_runs.specs.declared.plan.Order.TheVariants.{Alone, InTurns, WithRest}
use Rattle.job_runs.specs.Scripts.{Suits}
use Rattle.job_texts.specs.Plan.{line_numbers_in, work_scripts, work_numbers}
use Rattle.job_texts.specs.Told.{run_text, stopped_run_text}
use Rattle.job_texts.specs.declared.plan.JobPlan.{JobPlan}
use Rattle.denova_runs.specs.declared.run.RunEnd.{RunEnd}
use Rattle.denova_runs.specs.declared.run.RunEnd.TheVariants as ended
use Rattle.denova_runs.specs.Ran.{TellsOf, HasRunVolume, RunFails}
use Rattle.denova_runs.proofs.Mounts.{begins_still}
use Rattle.denova_calls.specs.RunEnds.{Telling, RunEnds, ScriptEnds, in_run, WorkEnds, work_telling}
use Rattle.denova_calls.specs.Plans.{HasPlan, IsSuited}
use Rattle.denova_calls.specs.RunSteps.{EndEnds, WholeEnds, WorkTextOf, plan_telling}
use Rattle.denova_calls.proofs.Parts.{stays_part, whole_part, part_tells, run_tells}

-- a run that came to its end
module _ {D F : Type 0} (state : D → State) (print : Print) (order : Order) (scripts : List (ℕ × List Op)) (turns : List ℕ) (tells : Telling)
    (s : State) (v : Volume D F) (run : HasRunVolume state print order scripts turns s v) where
  pub whole_ends : (P : List ℕ → Type 0)
      → ((h : List Entry) (after : Disk) (free : ℕ) (text : List ℕ) → TellsOf state v h after free → P text → tells.whole h after free text)
      → (e : Ending)
      → WholeEnds P e → RunEnds print order scripts turns tells s (state v.device) e
  whole_ends P says (Done text) ends = (
    run.sound,
    λ d stands own. run_tells print order scripts turns d s (state v.device) (TellsOf state v)
        (λ h after free. tells.whole h after free text.items)
        (λ h after free told. says h after free text.items told ends) (run.run d stands own),
  )
  whole_ends P says NoMemory ends =
      λ d stands own. whole_part print order scripts turns d s (state v.device) (TellsOf state v) (run.run d stands own)
  whole_ends P says e ends = absurd ends

-- one that didn't
module _ (print : Print) (order : Order) (scripts : List (ℕ × List Op)) (turns : List ℕ) (tells : Telling) (numbers : List (ℕ × List ℕ))
    (s t : State) (says : (h : List Entry) (text : List ℕ) → text ≡ stopped_run_text numbers h → tells.stopped h text) where
  abbrev Ends : Ending → Type 0
  Ends e = RunEnds print order scripts turns tells s t e

  pub part_ends : (end : RunEnd) (e : Ending) → RunFails print scripts s t end → EndEnds numbers end e → Ends e
  part_ends (ended.Faulty f) (Faulty text) fails ends = (f, fails, ends)
  part_ends (ended.Faulty f) NoMemory fails ends =
      λ d stands own. absurd (fault_none s.now f fails.is (record { disk = d; stands_for = stands }))
  part_ends (ended.Faulty f) e fails ends = absurd ends
  part_ends ended.Failed e fails ends = subst Ends (sym ends) fails
  part_ends (ended.Stopped history) (Stopped text) fails ends = (
    fails.0,
    λ d stands own. part_tells print scripts d s t (λ h. h ≡ history.items) (λ h. tells.stopped h text.items)
        (λ h is. says h text.items (ends ∙ ap (stopped_run_text numbers) (sym is))) (fails.1 d stands own),
  )
  part_ends (ended.Stopped history) NoMemory fails ends =
      λ d stands own. part_tells print scripts d s t (λ h. h ≡ history.items) (λ h. Unit {0}) (λ h is. tt) (fails.1 d stands own)
  part_ends (ended.Stopped history) e fails ends = absurd ends
  part_ends ended.NoMemory e fails ends = subst Ends (sym ends) fails

-- a job that was read and run
module _ (print : Print) (form : JobForm) (order : Order) (input : Input) (s t : State) (plan : JobPlan) (has : HasPlan form input plan) where
  suits_by : (o : Order) → IsSuited form o → Suits o plan.scripts
  suits_by Alone suited = has.alone suited
  suits_by InTurns suited = tt
  suits_by WithRest suited = has.alone suited

  pub plan_suits : IsSuited form order → Suits order plan.scripts
  plan_suits suited = suits_by order suited

  pub script_ends : (e : Ending) → RunEnds print order plan.scripts plan.turns.items (plan_telling plan.numbers) s t e
      → ScriptEnds print form order input s t e
  script_ends e ends =
      in_run has.job has.formed has.read
      (subst (λ (x : List (ℕ × List Op)). RunEnds print order x has.job.turns (plan_telling (line_numbers_in has.job.clients)) s t e) has.scripts
      (subst (λ (x : List (ℕ × List ℕ)). RunEnds print order plan.scripts has.job.turns (plan_telling x) s t e) has.numbers
      (subst (λ (x : List ℕ). RunEnds print order plan.scripts x (plan_telling plan.numbers) s t e) has.turns ends)))

-- the text of generated work
work_says : {D F : Type 0} (state : D → State) (v : Volume D F) (n : ℕ) (h : List Entry) (after : Disk) (free : ℕ) (text : List ℕ)
    → TellsOf state v h after free → WorkTextOf state v n text → text ≡ work_text n h after free
work_says state v n h after free text told says =
    says after told.volume ∙ ap (λ (x : List Entry). work_text n x after (length v.parts.free.free)) told.history_is
    ∙ ap (λ (x : ℕ). work_text n h after x) told.free_is

-- and of a job
plan_says : {D F : Type 0} (state : D → State) (v : Volume D F) (numbers : List (ℕ × List ℕ)) (h : List Entry) (after : Disk) (free : ℕ)
    (text : List ℕ) → TellsOf state v h after free
    → text ≡ run_text numbers v.parts.history.items (length v.parts.free.free)
    → text ≡ run_text numbers h free
plan_says state v numbers h after free text told says =
    says ∙ ap (λ (x : List Entry). run_text numbers x (length v.parts.free.free)) told.history_is
    ∙ ap (λ (x : ℕ). run_text numbers h x) told.free_is

-- a plan that was run, and one that wasn't to its end
pub plan_whole : {D F : Type 0} (state : D → State) (print : Print) (order : Order) (scripts : List (ℕ × List Op)) (turns : List ℕ)
    (numbers : List (ℕ × List ℕ)) (s : State) (v : Volume D F) (device : D) → device ≡ v.device
    → (given : List ℕ) → given ≡ turns → HasRunVolume state print order scripts given s v
    → (e : Ending)
    → WholeEnds (λ text. text ≡ run_text numbers v.parts.history.items (length v.parts.free.free)) e
    → RunEnds print order scripts turns (plan_telling numbers) s (state device) e
plan_whole state print order scripts turns numbers s v device is given same run e ends =
    subst (λ (x : _). RunEnds print order scripts turns (plan_telling numbers) s (state x) e) (sym is)
    (whole_ends state print order scripts turns (plan_telling numbers) s v
    (subst (λ (x : List ℕ). HasRunVolume state print order scripts x s v) same run)
    (λ text. text ≡ run_text numbers v.parts.history.items (length v.parts.free.free))
    (λ h after free text told says. plan_says state v numbers h after free text told says) e ends)

pub plan_part : (print : Print) (order : Order) (scripts : List (ℕ × List Op)) (turns : List ℕ) (numbers : List (ℕ × List ℕ)) (s t : State)
    (end : RunEnd) (e : Ending) → RunFails print scripts s t end → EndEnds numbers end e
    → RunEnds print order scripts turns (plan_telling numbers) s t e
plan_part print order scripts turns numbers s t end e fails ends =
    part_ends print order scripts turns (plan_telling numbers) numbers s t (λ h text is. is) end e fails ends

-- generated work that was run, and that wasn't to its end
pub work_whole : {D F : Type 0} (state : D → State) (print : Print) (n : ℕ) (scripts : List (ℕ × List Op)) → scripts ≡ work_scripts n
    → (s : State) (v : Volume D F) (device : D) → device ≡ v.device → HasRunVolume state print WithRest scripts [] s v → (e : Ending)
    → WholeEnds (WorkTextOf state v n) e
    → WorkEnds print n s (state device) e
work_whole state print n scripts are s v device is run e ends =
    subst (λ (x : _). WorkEnds print n s (state x) e) (sym is)
    (whole_ends state print WithRest (work_scripts n) [] (work_telling n) s v
    (subst (λ (x : List (ℕ × List Op)). HasRunVolume state print WithRest x [] s v) are run) (WorkTextOf state v n)
    (λ h after free text told says. work_says state v n h after free text told says) e ends)

pub work_part : (print : Print) (n : ℕ) (scripts : List (ℕ × List Op)) → scripts ≡ work_scripts n → (s t : State) (end : RunEnd) (e : Ending)
    → RunFails print scripts s t end
    → EndEnds (work_numbers n) end e
    → WorkEnds print n s t e
work_part print n scripts are s t end e fails ends =
    part_ends print WithRest (work_scripts n) [] (work_telling n) (work_numbers n) s t (λ h text is. is) end e
    (subst (λ (x : List (ℕ × List Op)). RunFails print x s t end) are fails) ends

-- there was no memory for the operations of generated work
pub no_work : (print : Print) (n : ℕ) (s : State) → Agree s.now s.past → Still s → WorkEnds print n s s NoMemory
no_work print n s agree still =
    λ d stands own. stays_part print (work_scripts n) d s s (λ h. Unit {0}) tt (begins_still print d s agree still stands own).course
