-- Fronts of runs.
use Rattle.std.proofs.Common.{◌≡◌, inl, ℕ, List, [], Some, None, refl}
use Rattle.std.specs.Prelude.{slice_get}
use Rattle.pm_device.specs.State.{State}
use Rattle.dn_model.specs.Disk.{Disk}
use Rattle.dn_model.specs.Own.{Print}
use Rattle.dn_model.specs.Files.{files}
use Rattle.dn_model.specs.declared.op.Op.{Op}
use Rattle.dn_model.specs.declared.op.Entry.{Entry}
use Rattle.job_runs.specs.declared.plan.Order.{Order}
use Rattle.job_runs.specs.Turns.{script_of}
use Rattle.denova_runs.specs.Runs.{RanWhole, HasRun, HasRunPart, StaysOnCourse}
use Rattle.denova_runs.proofs.Parted.{scripted_front}

no_entry : (k : ℕ) (entry : Entry) → slice_get {X = Entry} [] k ≡ Some entry → ⊥
no_entry k entry is = cc

-- where nothing was answered
pub stays_part : (print : Print) (scripts : List (ℕ × List Op)) (d : Disk) (s t : State) (tells : List Entry → Type 0) → tells []
    → StaysOnCourse print s t d → HasRunPart print scripts d s t tells
stays_part print scripts d s t tells told stays = record {
  history = [];
  front = record { each = λ who. (script_of scripts who, refl) };
  end_files = files d;
  legal = λ name. refl;
  short = λ p past. record {
    space = λ k needed free entry at reply. absurd (no_entry k entry at);
    inode = λ k entry at reply. absurd (no_entry k entry at);
  };
  flying = None;
  next = inl refl;
  course = stays;
  tells = told;
}

-- a whole run
pub ran_part : (print : Print) (scripts : List (ℕ × List Op)) (d : Disk) (s t : State) (tells : List Entry → Disk → ℕ → Type 0)
    → RanWhole print scripts d s t tells
    → HasRunPart print scripts d s t (λ h. Unit {0})
ran_part print scripts d s t tells run = record {
  history = run.history;
  front = scripted_front scripts run.history run.scripted;
  end_files = run.end_files;
  legal = run.legal;
  short = run.short;
  flying = None;
  next = inl refl;
  course = run.course;
  tells = tt;
}

pub whole_part : (print : Print) (order : Order) (scripts : List (ℕ × List Op)) (turns : List ℕ) (d : Disk) (s t : State)
    (tells : List Entry → Disk → ℕ → Type 0)
    → HasRun print order scripts turns d s t tells
    → HasRunPart print scripts d s t (λ h. Unit {0})
whole_part print order scripts turns d s t tells run = ran_part print scripts d s t tells run.whole

-- what is told of a front, in other words
pub part_tells : (print : Print) (scripts : List (ℕ × List Op)) (d : Disk) (s t : State) (tells other : List Entry → Type 0)
    → ((h : List Entry) → tells h → other h) → HasRunPart print scripts d s t tells → HasRunPart print scripts d s t other
part_tells print scripts d s t tells other says part = record {
  history = part.history;
  front = part.front;
  end_files = part.end_files;
  legal = part.legal;
  short = part.short;
  flying = part.flying;
  next = part.next;
  course = part.course;
  tells = says part.history part.tells;
}

-- and of a whole run
abbrev pub ran_tells : (print : Print) (scripts : List (ℕ × List Op)) (d : Disk) (s t : State) (tells other : List Entry → Disk → ℕ → Type 0)
    → (run : RanWhole print scripts d s t tells) → other run.history run.after run.free → RanWhole print scripts d s t other
ran_tells print scripts d s t tells other run told = record {
  history = run.history;
  scripted = run.scripted;
  end_files = run.end_files;
  legal = run.legal;
  short = run.short;
  after = run.after;
  at_rest = run.at_rest;
  settled = run.settled;
  same = run.same;
  left_by = run.left_by;
  course = run.course;
  free = run.free;
  has_free = run.has_free;
  tells = told;
}

pub run_tells_of : (print : Print) (order : Order) (scripts : List (ℕ × List Op)) (turns : List ℕ) (d : Disk) (s t : State)
    (tells other : List Entry → Disk → ℕ → Type 0)
    → (run : HasRun print order scripts turns d s t tells) → other run.whole.history run.whole.after run.whole.free
    → HasRun print order scripts turns d s t other
run_tells_of print order scripts turns d s t tells other run told = record {
  whole = ran_tells print scripts d s t tells other run.whole told;
  moves = run.moves;
  end = run.end;
  opening = run.opening;
  is_opening = run.is_opening;
  played = run.played;
  told = run.told;
}

pub run_tells : (print : Print) (order : Order) (scripts : List (ℕ × List Op)) (turns : List ℕ) (d : Disk) (s t : State)
    (tells other : List Entry → Disk → ℕ → Type 0)
    → ((h : List Entry) (after : Disk) (free : ℕ) → tells h after free → other h after free)
    → HasRun print order scripts turns d s t tells
    → HasRun print order scripts turns d s t other
run_tells print order scripts turns d s t tells other says run = run_tells_of print order scripts turns d s t tells other run
    (says run.whole.history run.whole.after run.whole.free run.whole.tells)
