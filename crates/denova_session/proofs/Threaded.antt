-- How a run in threads ends on a volume that was just mounted.
use Rattle.std.proofs.Common.{◌≡◌, ◌⊎◌, ⊎_elim, ℕ, ◌<◌, ◌≤◌, Bool, true, false, List, [], length, refl, sym, ◌∙◌, ap, subst, arith}
use Rattle.std.specs.Prelude.{Ok, Err, Vec, slice_index}
use Rattle.std.specs.declared.alloc.Global.{Global}
use Rattle.std.proofs.lemmas.Grind.{same_number_lists}
use Rattle.pm_device.specs.State.{State, Rose}
use Rattle.pm_layout.specs.declared.Geometry.{Geometry}
use Rattle.pm_layout.specs.Geometry.{slots}
use Rattle.dn_model.specs.Disk.{Disk}
use Rattle.dn_model.specs.Own.{Print}
use Rattle.dn_model.specs.Course.{Base}
use Rattle.dn_model.specs.declared.op.Op.{Op}
use Rattle.dn_model.specs.declared.op.Entry.{Entry}
use Rattle.dn_model.specs.declared.op.CountChange.{CountChange}
use Rattle.dn_script.specs.declared.job.Line.{Line}
use Rattle.dn_volume.specs.declared.volume.Volume.{Volume}
use Rattle.dn_volume.specs.Agrees.{IsVolume}
use Rattle.dn_volume.specs.Events.{word_at, word_after}
use Rattle.dn_volume.specs.Resting.{AllLanded}
use Rattle.dn_volume.specs.Sound.{Sound, IsSound}
use Rattle.dn_volume.proofs.SoundStays.{rose_since}
use Rattle.dn_core.specs.Rest.{Drained}
use Rattle.dn_shared.specs.Ends.{AreCountWords}
use Rattle.job_runs.specs.declared.script.RunFault.{RunFault}
use Rattle.job_runs.specs.declared.script.RunFault.TheVariants as fault
use Rattle.job_runs.specs.Scripts.{Rises, IsScripted, IsFront}
use Rattle.job_runs.specs.Playing.{FlyNext, IsNew}
use Rattle.job_runs.specs.Turns.{script_of}
use Rattle.job_texts.specs.Plan.{scripts_in}
use Rattle.thread_runs.specs.Threads.{HasReadings, RanThreads, EndsThreads}
use Rattle.thread_runs.specs.declared.reading.Readings.{Readings}
use Rattle.denova_runs.specs.declared.run.RunEnd.TheVariants as end
use Rattle.denova_runs.specs.Runs.{OfOpening, HasRunPart}
use Rattle.denova_runs.specs.Ran.{TellsOf, RunFails}
use Rattle.denova_runs.specs.Opened.{IsBegun, HasBase, base_at, end_of_run}
use Rattle.denova_runs.proofs.Parted.{scripted_front, run_part, ran_whole}
use Rattle.denova_session.specs.Counted.{AreWordsOf, LeavesWords, RanCounted}
use Rattle.denova_session.specs.Steps.{EndsThreaded}

clash : (b : Bool) → b ≡ false → b ≡ true → ⊥
clash b low high = cc

none_next : {D F : Type 0} (scripts : List (ℕ × List Op)) (v : Volume D F) → AllLanded v.parts → FlyNext scripts v.parts
none_next scripts v landed = record { next = λ who f flies. absurd (landed who f flies) }

module _ {D F : Type 0} (state : D → State) (print : Print) where
  -- the count words of a volume that stands for a disk
  words_of : (v : Volume D F) (d : Disk) (words : List ℕ) → IsVolume d v.parts (state v.device) → AreCountWords state v words → AreWordsOf d words
  words_of v d words volume are = record {
    long = are.long ∙ ap slots (sym volume.fast.geometry);
    each = λ slot lt. are.each d slot volume (subst (λ (n : ℕ). slot < n) are.long lt);
  }

  same_words : (v : Volume D F) (d : Disk) (xs ys : List ℕ) → IsVolume d v.parts (state v.device) → AreCountWords state v xs
      → AreCountWords state v ys → xs ≡ ys
  same_words v d xs ys volume first second = same_number_lists xs ys (first.long ∙ sym second.long)
      (λ k lt. let below = subst (λ (n : ℕ). k < n) first.long lt in first.each d k volume below ∙ sym (second.each d k volume below))

  module _ (clients : List (ℕ × List Line)) (rises : Rises 0 (scripts_in clients)) (u v : Volume D F)
      (kept : (base : Base) → Sound state print base u → Sound state print base v) where
    abbrev scripts : List (ℕ × List Op)
    scripts = scripts_in clients

    -- the lines weren't all run
    pub threads_end : (why : RunFault) → EndsThreads state clients u v (Err why) → (s : State) → IsBegun state print s u
        → EndsThreaded state print clients s u v (Err why)
    threads_end fault.NoMemory ends s begun = λ d stood own.
        let base = begun.base d stood own in
        run_part print scripts rises d s base.disk base.same state v (λ h. Unit {0}) (kept _ base.sound) ends.0 (none_next scripts v ends.1) tt
    threads_end fault.Stopped ends s begun = (
      rose_since s.faults (state u.device).faults (state v.device).faults begun.faults ends.0,
      λ d stood own.
          let base = begun.base d stood own in
          run_part print scripts rises d s base.disk base.same state v (λ h. h ≡ v.parts.history.items) (kept _ base.sound) ends.1 ends.2 refl,
    )

    -- all were, and what is left is drained
    module _ (readings : Vec Readings Global) (ran : RanThreads state clients u v readings.items) (w : Volume D F)
        (kept_on : (base : Base) → Sound state print base v → Sound state print base w) (history : w.parts.history.items ≡ v.parts.history.items)
        (landed : AllLanded w.parts) where
      scripted : IsScripted scripts w.parts.history.items
      scripted = subst (IsScripted scripts) (sym history) ran.scripted

      front : IsFront scripts w.parts.history.items
      front = scripted_front scripts w.parts.history.items scripted

      memory_ends : (s : State) → IsBegun state print s u → EndsThreaded state print clients s u w (Err fault.NoMemory)
      memory_ends s begun = λ d stood own.
          let base = begun.base d stood own in
          run_part print scripts rises d s base.disk base.same state w (λ h. Unit {0}) (kept_on _ (kept _ base.sound)) front
          (none_next scripts w landed) tt

      stopped_ends : (state u.device).faults ≤ (state v.device).faults
          → ((v.parts.stopped ≡ true) ⊎ Rose (state v.device).faults (state w.device).faults) → (s : State) → IsBegun state print s u
          → EndsThreaded state print clients s u w (Err fault.Stopped)
      stopped_ends since fails s begun =
          let one = begun.faults in
          let two = since in (
            rose_since s.faults (state v.device).faults (state w.device).faults (omega (arith, one, two))
                (⊎_elim (λ high. absurd (clash v.parts.stopped ran.running high)) (λ rose. rose) fails),
            λ d stood own.
                let base = begun.base d stood own in
                run_part print scripts rises d s base.disk base.same state w (λ h. h ≡ w.parts.history.items) (kept_on _ (kept _ base.sound)) front
                (none_next scripts w landed) refl,
          )

      -- it isn't
      pub rest_ends : (state u.device).faults ≤ (state v.device).faults → (why : RunFault)
          → (why ≡ fault.Stopped → (v.parts.stopped ≡ true) ⊎ Rose (state v.device).faults (state w.device).faults) → (s : State)
          → IsBegun state print s u
          → EndsThreaded state print clients s u w (Err why)
      rest_ends since fault.NoMemory fails s begun = memory_ends s begun
      rest_ends since fault.Stopped fails s begun = stopped_ends since (fails refl) s begun

      -- the words after the last changes
      leaves : (s : State) (disk e : Disk) (words : List ℕ) → IsSound print (base_at s disk) e w.parts (state w.device) → AreWordsOf disk words
          → LeavesWords words w.parts.trace.items e
      leaves s disk e words sound are = λ slot lt. sound.traced slot ∙ ap (word_after w.parts.trace.items slot) (sym (are.each slot lt))

      reads_are : (words : List ℕ) (d : Disk) → IsVolume d u.parts (state u.device) → AreCountWords state u words
          → w.parts.trace.items ≡ v.parts.trace.items
          → HasReadings (length words) words w.parts.trace.items clients readings.items
      reads_are words d volume are trace =
          subst (λ (n : ℕ). HasReadings n words w.parts.trace.items clients readings.items) (sym are.long)
          (subst (λ (xs : List ℕ). HasReadings (slots u.parts.geometry) xs w.parts.trace.items clients readings.items)
          (same_words u d ran.words words volume ran.opening are)
          (subst (λ (changes : List CountChange). HasReadings (slots u.parts.geometry) ran.words changes clients readings.items) (sym trace)
          ran.reads))

      counted : (words : List ℕ) → AreCountWords state u words → w.parts.trace.items ≡ v.parts.trace.items → Drained state print w → (s : State)
          (d : Disk) → (base : HasBase state print s u d) → Sound state print (base_at s base.disk) w
          → RanCounted print clients d s (state w.device) words w.parts.trace.items readings.items (TellsOf state w)
      counted words are trace drained s d base sound =
          let opening = words_of u base.disk words base.volume are in
          record {
            opened = base.disk;
            same = base.same;
            exact = base.exact;
            opening = opening;
            reads = reads_are words base.disk base.volume are trace;
            whole = ran_whole print scripts rises d s base.disk base.same state w base.alone (LeavesWords words w.parts.trace.items)
                (λ e volume sound_of. leaves s base.disk e words sound_of opening) sound scripted landed drained;
          }

      pub drained_ends : w.parts.trace.items ≡ v.parts.trace.items → Drained state print w → (s : State) → IsBegun state print s u
          → EndsThreaded state print clients s u w (Ok readings)
      drained_ends trace drained s begun = λ words are d stood own.
          let base = begun.base d stood own in
          counted words are trace drained s d base (kept_on _ (kept _ base.sound))

  -- no operation was answered
  pub memory_fails : (s : State) (v : Volume D F) → IsNew v.parts → IsBegun state print s v → (device : D) → device ≡ v.device
      → (scripts : List (ℕ × List Op)) → Rises 0 scripts → RunFails print scripts s (state device) end.NoMemory
  memory_fails s v new begun device is scripts rises =
      subst (λ (x : D). RunFails print scripts s (state x) end.NoMemory) (sym is)
      (λ d stood own. let base = begun.base d stood own in
      run_part print scripts rises d s base.disk base.same state v (λ h. Unit {0}) base.sound
      (subst (IsFront scripts) (sym new.history) (record { each = λ who. (script_of scripts who, refl) }))
      (none_next scripts v new.landed) tt)

  -- the end and the device that come back
  pub end_tells : (clients : List (ℕ × List Line)) (s : State) (u v : Volume D F) (why : RunFault)
      → EndsThreaded state print clients s u v (Err why)
      → RunFails print (scripts_in clients) s (state (end_of_run v why).1) (end_of_run v why).0
  end_tells clients s u v fault.NoMemory ends = ends
  end_tells clients s u v fault.Stopped ends = ends
