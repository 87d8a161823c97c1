-- How a run on a volume that was just mounted ends.
use Rattle.std.proofs.Common.{◌≡◌, ◌⊎◌, ⊎_elim, ℕ, ◌≤◌, Bool, true, false, List, refl, arith}
use Rattle.std.specs.Prelude.{Ok, Err}
use Rattle.pm_device.specs.State.{State, Rose, Agree}
use Rattle.pm_device.specs.Settled.{Extends}
use Rattle.pm_device.proofs.Only.{extends_then}
use Rattle.dn_model.specs.Own.{Print}
use Rattle.dn_model.specs.Course.{Base}
use Rattle.dn_model.specs.declared.op.Op.{Op}
use Rattle.dn_volume.specs.declared.volume.Volume.{Volume}
use Rattle.dn_volume.specs.Agrees.{Agrees}
use Rattle.dn_volume.specs.Sound.{Sound}
use Rattle.dn_volume.proofs.SoundStays.{rose_since}
use Rattle.dn_core.specs.declared.event.DrainFault.TheVariants as drain_fault
use Rattle.dn_core.specs.Rest.{Drained, DrainFails, Rounds}
use Rattle.job_runs.specs.Reaching.{Reaches}
use Rattle.job_runs.specs.declared.script.RunFault.{RunFault}
use Rattle.job_runs.specs.declared.script.RunFault.TheVariants as fault
use Rattle.job_runs.specs.declared.plan.Order.{Order}
use Rattle.job_runs.specs.Scripts.{Rises, Suits}
use Rattle.job_runs.specs.Playing.{IsNew, RunsJob, EndsJob}
use Rattle.denova_runs.specs.Runs.{OfOpening}
use Rattle.denova_runs.specs.Ran.{RunFails}
use Rattle.denova_runs.specs.Opened.{IsBegun, EndsRun, base_at, end_of_run}
use Rattle.denova_runs.proofs.Extending.{runs_extend}
use Rattle.denova_runs.proofs.Landed.{StaysLanded, rounds_on}
use Rattle.denova_runs.proofs.Parted.{so_part, whole_part, run_whole}

clash : (b : Bool) → b ≡ false → b ≡ true → ⊥
clash b low high = cc

rose_of : (b : Bool) (before now : ℕ) → b ≡ false → ((b ≡ true) ⊎ Rose before now) → Rose before now
rose_of b before now running is = ⊎_elim (λ high. absurd (clash b running high)) (λ rose. rose) is

module _ {D F : Type 0} (state : D → State) (print : Print) (order : Order) (scripts : List (ℕ × List Op)) (turns : List ℕ)
    (rises : Rises 0 scripts) (suits : Suits order scripts) (u v : Volume D F) (new : IsNew u.parts)
    (kept : (base : Base) → Sound state print base u → Sound state print base v) where
  -- the scripts weren't all run
  pub play_ends : (why : RunFault) → ((base : Base) → Sound state print base u → RunsJob state order scripts turns base u v (Err why))
      → EndsJob state u v (Err why) → (s : State) → IsBegun state print s u → EndsRun state print order scripts turns s v (Err why)
  play_ends fault.NoMemory runs ends s begun = λ d stood own.
      let base = begun.base d stood own in
      so_part print scripts rises d s base.disk base.same state v order turns (λ h. Unit {0}) (kept _ base.sound) (runs _ base.sound) tt
  play_ends fault.Stopped runs ends s begun = (
    rose_since s.faults (state u.device).faults (state v.device).faults begun.faults
        (rose_of u.parts.stopped (state u.device).faults (state v.device).faults new.running ends),
    λ d stood own.
        let base = begun.base d stood own in
        so_part print scripts rises d s base.disk base.same state v order turns (λ h. h ≡ v.parts.history.items) (kept _ base.sound)
        (runs _ base.sound).0 refl,
  )

  -- all were run, and what is left is drained
  module _ (runs : (base : Base) → Sound state print base u → RunsJob state order scripts turns base u v (Ok tt))
      (ends : EndsJob state u v (Ok tt)) (since : (state u.device).faults ≤ (state v.device).faults) (agrees : Agrees state v)
      (w : Volume D F) (rounds : Rounds state print v w) (history : w.parts.history.items ≡ v.parts.history.items)
      (kept_on : (base : Base) → Sound state print base v → Sound state print base w) where
    pub on : StaysLanded state v w
    on = rounds_on state print v w rounds agrees ends.0

    pub memory_ends : (s : State) → IsBegun state print s u → EndsRun state print order scripts turns s w (Err fault.NoMemory)
    memory_ends s begun = λ d stood own.
        let base = begun.base d stood own in
        whole_part print scripts rises d s base.disk base.same state w order turns v (λ h. Unit {0}) (kept_on _ (kept _ base.sound))
        (runs _ base.sound) history on.landed tt

    pub stopped_ends : DrainFails state v w drain_fault.Stopped → (s : State) → IsBegun state print s u
        → EndsRun state print order scripts turns s w (Err fault.Stopped)
    stopped_ends fails s begun =
        let one = begun.faults in
        let two = since in (
          rose_since s.faults (state v.device).faults (state w.device).faults (omega (arith, one, two))
              (rose_of v.parts.stopped (state v.device).faults (state w.device).faults ends.1 fails),
          λ d stood own.
              let base = begun.base d stood own in
              whole_part print scripts rises d s base.disk base.same state w order turns v (λ h. h ≡ w.parts.history.items)
              (kept_on _ (kept _ base.sound)) (runs _ base.sound) history on.landed refl,
        )

    pub drained_ends : Drained state print w → (s : State) → IsBegun state print s u → EndsRun state print order scripts turns s w (Ok tt)
    drained_ends drained s begun = λ d stood own.
        let base = begun.base d stood own in
        run_whole print scripts rises d s base.disk base.same state w base.alone order turns suits v (kept_on _ (kept _ base.sound))
        (runs _ base.sound) history on.landed drained

-- since the opening, calls were only added
module _ {D F : Type 0} (state : D → State) (agree : (x : D) → Agree (state x).now (state x).past) (print : Print) (u v : Volume D F)
    (reaches : Reaches state print u v) (s : State) (begun : IsBegun state print s u) where
  pub goes_on : OfOpening print s (λ d. Extends s.past (state v.device).past)
  goes_on d stood own =
      let base = begun.base d stood own in
      extends_then s.past (state u.device).past (state v.device).past base.extends
      (runs_extend state agree print (base_at s base.disk) u v reaches.events reaches.outcomes base.sound reaches.run)

  pub goes_further : ((base : Base) → Sound state print base u → Sound state print base v) → (w : Volume D F) → Rounds state print v w
      → OfOpening print s (λ d. Extends s.past (state w.device).past)
  goes_further kept w rounds d stood own =
      let base = begun.base d stood own in
      extends_then s.past (state v.device).past (state w.device).past (goes_on d stood own)
      (runs_extend state agree print (base_at s base.disk) v w rounds.events rounds.outcomes (kept (base_at s base.disk) base.sound) rounds.run)

-- the end and the device that come back
module _ {D F : Type 0} (state : D → State) (v : Volume D F) where
  pub end_tells : (print : Print) (order : Order) (scripts : List (ℕ × List Op)) (turns : List ℕ) (s : State) (why : RunFault)
      → EndsRun state print order scripts turns s v (Err why)
      → RunFails print scripts s (state (end_of_run v why).1) (end_of_run v why).0
  end_tells print order scripts turns s fault.NoMemory ends = ends
  end_tells print order scripts turns s fault.Stopped ends = ends

  pub end_faults : (low : ℕ) (why : RunFault) → low ≤ (state v.device).faults → low ≤ (state (end_of_run v why).1).faults
  end_faults low fault.NoMemory le = le
  end_faults low fault.Stopped le = le
