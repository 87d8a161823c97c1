-- What a trial tells of the words that it copied.
use Rattle.std.proofs.Common.{ℕ, List, refl, sym, subst}
use Rattle.pm_device.specs.State.{State, Agree}
use Rattle.pm_device.specs.Settled.{Still, Extends}
use Rattle.pm_device.specs.New.{IsNew}
use Rattle.dn_model.specs.Disk.{Disk}
use Rattle.dn_model.specs.Files.{files}
use Rattle.dn_model.specs.Image.{StandsFor, HasNoFault}
use Rattle.dn_model.specs.Own.{Print, IsOwn}
use Rattle.dn_model.specs.declared.op.Op.{Op}
use Rattle.dn_script.specs.declared.job.Job.{Job}
use Rattle.dn_script.specs.declared.line.JobForm.TheVariants.{Replay}
use Rattle.dn_volume.specs.declared.volume.Volume.{Volume}
use Rattle.call_endings.specs.Call.{Input}
use Rattle.call_endings.specs.declared.ending.Ending.{Ending}
use Rattle.call_endings.specs.declared.ending.Ending.TheVariants.{Done, Faulty, NoMemory}
use Rattle.job_runs.specs.declared.plan.Order.TheVariants.{InTurns}
use Rattle.job_texts.specs.declared.plan.JobPlan.{JobPlan}
use Rattle.job_texts.specs.Plan.{scripts_in}
use Rattle.denova_runs.specs.Runs.{OfOpening, HasRun}
use Rattle.denova_runs.specs.Ran.{HasRunVolume, TellsOf}
use Rattle.denova_calls.specs.Plans.{HasPlan}
use Rattle.denova_calls.specs.LookEnds.{ListsFront, TryEnds, TrialEnds, in_trial}
use Rattle.denova_calls.specs.LookSteps.{ImageListed, FrontListed, HasTriedOn, CopyEnds, IsPickedAt}
use Rattle.denova_calls.proofs.Copies.{new_agrees}
use Rattle.denova_calls.proofs.Parts.{run_tells_of}
use Rattle.denova_calls.proofs.Fronts.{front_listed}

-- the list of an image that was picked
pub front_ends : (print : Print) (calls : ℕ) (s : State) (c : List ℕ) (e : Ending) → IsPickedAt calls s c → ImageListed print c e
    → FrontListed print calls s e
front_ends print calls s c (Done text) picked listed = (c, picked, listed)
front_ends print calls s c NoMemory picked listed = tt
front_ends print calls s c e picked listed = absurd listed

-- a run on a copy, of which an image was picked
module _ (print : Print) (scripts : List (ℕ × List Op)) (turns : List ℕ) (calls : ℕ) (w : List ℕ) {D F : Type 0} (state : D → State) (device : D)
    (new : IsNew w (state device)) (still : Still (state device)) (v : Volume D F) (agree : Agree (state v.device).now (state v.device).past)
    (ran : HasRunVolume state print InTurns scripts turns (state device) v)
    (on : OfOpening print (state device) (λ d. Extends (state device).past (state v.device).past)) where
  -- the run, with what is listed
  listing : (d : Disk) (text : List ℕ) → (r : HasRun print InTurns scripts turns d (state device) (state v.device) (TellsOf state v))
      → ListsFront calls (files d) r.whole.history text
      → HasRun print InTurns scripts turns d (state device) (state v.device) (λ history after free. ListsFront calls (files d) history text)
  listing d text r lists = run_tells_of print InTurns scripts turns d (state device) (state v.device) (TellsOf state v)
      (λ history after free. ListsFront calls (files d) history text) r lists

  pub copy_ends : (e : Ending) → FrontListed print calls (state v.device) e → CopyEnds print scripts turns calls w e
  copy_ends (Done text) (c, picked, listed) = (subst HasNoFault new.now ran.sound, tried)
    where
      tried : (d : Disk) → StandsFor w d → IsOwn print d → HasTriedOn print scripts turns calls d w text.items
      tried d stands own =
          let first : StandsFor (state device).now d = subst (λ (x : List ℕ). StandsFor x d) (sym new.now) stands in
          let r = ran.run d first own in
          record {
            first = state device;
            last = state v.device;
            copied = new.now;
            run = listing d text.items r
                (front_listed print calls w (state device) (state v.device) new still (new_agrees w (state device) new) agree (on d first own) d first
                r.whole.history r.whole.course r.whole.end_files r.whole.legal r.whole.after r.whole.at_rest.stands_for r.whole.at_rest.still r.whole.same
                text.items c picked listed);
          }
  copy_ends NoMemory told = tt
  copy_ends e told = absurd told

-- what was read is a job of clients in turns
module _ (print : Print) (calls : ℕ) (input : Input) (s : State) where
  try_ends : (job : Job) (e : Ending) → CopyEnds print (scripts_in job.clients) job.turns calls s.now e → TryEnds print job calls s e
  try_ends job (Done text) (sound, told) = (
    sound,
    λ d stands own. let t = told d stands own in record { first = t.first; last = t.last; copied = t.copied; run = t.run },
  )
  try_ends job (Faulty text) ends = ends
  try_ends job NoMemory ends = tt
  try_ends job e ends = absurd ends

  pub trial_ends : (plan : JobPlan) (e : Ending) → HasPlan Replay input plan → CopyEnds print plan.scripts plan.turns.items calls s.now e
      → TrialEnds print calls input s s e
  trial_ends plan e has ends = in_trial has.job refl has.formed has.read (try_ends has.job e
      (subst (λ (x : List (ℕ × List Op)). CopyEnds print x has.job.turns calls s.now e) has.scripts
      (subst (λ (x : List ℕ). CopyEnds print plan.scripts x calls s.now e) has.turns ends)))
