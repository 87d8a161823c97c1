-- Calls are completed.
use Rattle.std.proofs.Common.{
  ◌≡◌,
  ◌⊎◌,
  inl,
  inr,
  ⊎_elim,
  ◌*◌,
  ℕ,
  List,
  length,
  Option,
  Some,
  None,
  IfSome,
  Result,
  Ok,
  Err,
  IsSome,
  refl,
  ap,
  ◌∙◌,
  sym,
  subst,
  arith,
}
use Rattle.pm_layout.specs.Geometry.{IsAccepted}
use Rattle.log_entry.specs.Name.{IsLegal}
use Rattle.dn_model.specs.Disk.{Disk}
use Rattle.dn_model.specs.Files.{files}
use Rattle.dn_model.specs.Image.{StandsFor, HasNoFault}
use Rattle.dn_model.specs.Faults.{FaultOf}
use Rattle.dn_model.specs.Own.{Print}
use Rattle.dn_model.specs.declared.fault.ImageFault.{ImageFault}
use Rattle.dn_model.specs.declared.op.Op.{Op}
use Rattle.law_unique.proofs.OneFault.{fault_none}
use Rattle.dn_script.specs.Job.{job_of}
use Rattle.dn_script.specs.declared.job.Job.{Job}
use Rattle.dn_script.specs.declared.job.JobFault.{JobFault}
use Rattle.dn_script.specs.declared.job.JobFault.TheVariants as fault
use Rattle.dn_script.specs.declared.line.JobForm.{JobForm}
use Rattle.dn_script.specs.declared.line.JobForm.TheVariants as forms
use Rattle.dn_report.specs.declared.report.Cause.{Cause}
use Rattle.dn_report.specs.declared.report.Cause.TheVariants.{TooFewPages, TooManyPages, BadInodes, WrongSize, BadName, NotFound}
use Rattle.denova_words.specs.Words.{command_of}
use Rattle.denova_words.specs.declared.words.Command.{Command}
use Rattle.denova_words.specs.declared.words.Command.TheVariants.{Format, Apply, Replay, Check, List as ListAll, Cat, Work, Trial, Run}
use Rattle.call_endings.specs.Call.{Call, status_of}
use Rattle.call_endings.specs.declared.ending.Ending.{Ending}
use Rattle.call_endings.specs.declared.ending.Ending.TheVariants.{Done, BadLine, BadTurn, Faulty, Stopped, Failed, Unread, NoMemory, TooLong, Refused}
use Rattle.job_runs.specs.declared.plan.Order.{Order}
use Rattle.denova_calls.specs.RunEnds.{HasRead, JobEnds, Telling, RunEnds, in_job, in_run}
use Rattle.denova_calls.specs.LookEnds.{CatEnds, TryEnds, in_job as in_its_job, in_trial}
use Rattle.denova_calls.specs.Ends.{CheckEnds, geometry, IsCause, MakeEnds, CommandEnds, Answers, unread, no_command, obeyed, Ended}
use Rattle.denova_calls.specs.Statuses.{Asks, form_of, EndsAt, SinkIsWell, DeviceIsWell, TellsJob, HasJobFault, TellsGoodJob, IsReadyFor, IsReady, IsNoFile, AsksForFile, AsksForNoFile, ServesReady, IsWell, IsMakable, IsRefusable}

-- what a source tells it had left was read so
read_told : {A : Type 0} (left : Option (List ℕ)) (text : List ℕ) (f : List ℕ → A) (read : A) → IfSome left (λ x. f x ≡ read) → left ≡ Some text
    → f text ≡ read
read_told (Some x) text f read has told =
    let same : x ≡ text = cc in
    subst (λ (xs : List ℕ). f xs ≡ read) same has
read_told None text f read has told = absurd (cc)

-- numbers that make a file system aren't refused
not_refused : (pages inodes : ℕ) (w : List ℕ) (cause : Cause) → IsAccepted (geometry pages inodes) → length w ≡ 512 * pages
    → IsCause pages inodes w cause → ⊥
not_refused pages inodes w TooFewPages accepted size is = omega (arith, accepted.pages)
not_refused pages inodes w TooManyPages accepted size is = omega (arith, accepted.few_pages)
not_refused pages inodes w BadInodes accepted size is =
    ⊎_elim (λ few. omega (arith, accepted.inodes)) (λ other. ⊎_elim (λ many. omega (arith, accepted.few_inodes))
    (λ room. omega (arith, accepted.room)) other) is.2
not_refused pages inodes w (WrongSize n) accepted size is = absurd (is.1 size)
not_refused pages inodes w BadName accepted size is = absurd is
not_refused pages inodes w NotFound accepted size is = absurd is

abbrev Is : ℕ → ℕ → ℕ → Type 0
Is m n status = (status ≡ m) ⊎ (status ≡ n)

-- a fault and none
no_both : (w : List ℕ) (f : ImageFault) → FaultOf w f → HasNoFault w → ⊥
no_both w f is none = fault_none w f is none

module _ (print : Print) (c : Call) where
  abbrev Does : Command → Ending → Type 0
  Does command e = CommandEnds print command c.input c.before c.after e

  -- what came of a call whose words give a command
  asked_does : (e : Ending) (command : Command) → Asks c command → Answers print (command_of c.words) c.input c.before c.after e
      → (e ≡ NoMemory) ⊎ Does command e
  asked_does e command asks (unread same is) = inl is
  asked_does e command asks (no_command none same is) =
      let clash : ◌≡◌ {A = Option Command} None (Some command) = sym none ∙ asks in
      absurd (cc)
  asked_does e command asks (obeyed other is ends) =
      let both : ◌≡◌ {A = Option Command} (Some other) (Some command) = sym is ∙ asks in
      let same : other ≡ command = cc in
      inr (subst (λ (x : Command). Does x e) same ends)

  asked : (m : ℕ) (e : Ended print c) (command : Command) → Asks c command → (Does command e.ending → Is m 7 (status_of e.ending))
      → Is m 7 (status_of e.ending)
  asked m e command asks does = ⊎_elim (λ is. inr (ap status_of is)) does (asked_does e.ending command asks e.answers)

  told : (m n : ℕ) (e : Ended print c) → SinkIsWell c → Is m n (status_of e.ending) → Is m n c.status
  told m n e well is = ⊎_elim (λ good. subst (Is m n) (sym good.0) is) (λ failed. absurd (well failed.1)) e.told

  -- JOBS

  pub read_so : (form : JobForm) (text : List ℕ) (read : Result Job JobFault) → c.input.left ≡ Some text → HasRead form c.input read
      → job_of form text ≡ read
  read_so form text read left has = read_told c.input.left text (job_of form) read has left

  -- a job with a fault is told so
  pub job_fails : (form : JobForm) (f : JobFault) (e : Ending) → JobEnds form c.input e → TellsJob form c (λ read. read ≡ Err f) → (m : ℕ)
      → ((line : ℕ) → f ≡ fault.BadLine line → m ≡ 2) → (f ≡ fault.TooLong → m ≡ 8) → ((number : ℕ) → f ≡ fault.BadTurn number → m ≡ 9)
      → Is m 7 (status_of e)
  job_fails form f (BadLine text) ends can m line long turn =
      let has = read_so form can.0 _ can.1 ends.1 in
      let both : ◌≡◌ {A = Result Job JobFault} (Err f) (Err (fault.BadLine ends.0)) = sym can.2 ∙ has in
      let same : f ≡ fault.BadLine ends.0 = cc in
      inl (sym (line ends.0 same))
  job_fails form f TooLong ends can m line long turn =
      let has = read_so form can.0 _ can.1 ends in
      let both : ◌≡◌ {A = Result Job JobFault} (Err f) (Err fault.TooLong) = sym can.2 ∙ has in
      let same : f ≡ fault.TooLong = cc in
      inl (sym (long same))
  job_fails form f (BadTurn text) ends can m line long turn =
      let has = read_so form can.0 _ can.1 ends.1 in
      let both : ◌≡◌ {A = Result Job JobFault} (Err f) (Err (fault.BadTurn ends.0)) = sym can.2 ∙ has in
      let same : f ≡ fault.BadTurn ends.0 = cc in
      inl (sym (turn ends.0 same))
  job_fails form f Unread ends can m line long turn = absurd (can.3 ends)
  job_fails form f NoMemory ends can m line long turn = inr refl
  job_fails form f e ends can m line long turn = absurd ends

  -- one that has none isn't run
  pub job_fails_not : (form : JobForm) (f : JobFault) (job : Job) → TellsJob form c (λ read. read ≡ Err f) → HasRead form c.input (Ok job) → ⊥
  job_fails_not form f job can has =
      let read = read_so form can.0 _ can.1 has in
      let both : ◌≡◌ {A = Result Job JobFault} (Err f) (Ok job) = sym can.2 ∙ read in
      absurd (cc)

  by_fault : (form : JobForm) (f : JobFault) (command : Command) → form_of command ≡ Some form → TellsJob form c (λ read. read ≡ Err f) → (m : ℕ)
      → ((line : ℕ) → f ≡ fault.BadLine line → m ≡ 2) → (f ≡ fault.TooLong → m ≡ 8) → ((number : ℕ) → f ≡ fault.BadTurn number → m ≡ 9)
      → (e : Ending) → Does command e → Is m 7 (status_of e)
  by_fault form f (Format pages inodes) has can m line long turn e ends = absurd (cc)
  by_fault form f Apply has can m line long turn e (in_job same ends) =
      let is : forms.Apply ≡ form = cc in
      job_fails form f e (subst (λ (x : JobForm). JobEnds x c.input e) is ends) can m line long turn
  by_fault form f Apply has can m line long turn e (in_run job formed read ends) =
      let is : forms.Apply ≡ form = cc in
      absurd (job_fails_not form f job can (subst (λ (x : JobForm). HasRead x c.input (Ok job)) is read))
  by_fault form f Replay has can m line long turn e (in_job same ends) =
      let is : forms.Replay ≡ form = cc in
      job_fails form f e (subst (λ (x : JobForm). JobEnds x c.input e) is ends) can m line long turn
  by_fault form f Replay has can m line long turn e (in_run job formed read ends) =
      let is : forms.Replay ≡ form = cc in
      absurd (job_fails_not form f job can (subst (λ (x : JobForm). HasRead x c.input (Ok job)) is read))
  by_fault form f Check has can m line long turn e ends = absurd (cc)
  by_fault form f ListAll has can m line long turn e ends = absurd (cc)
  by_fault form f (Cat name) has can m line long turn e ends = absurd (cc)
  by_fault form f (Work n) has can m line long turn e ends = absurd (cc)
  by_fault form f (Trial calls pick) has can m line long turn e (in_its_job same ends) =
      let is : forms.Replay ≡ form = cc in
      job_fails form f e (subst (λ (x : JobForm). JobEnds x c.input e) is ends) can m line long turn
  by_fault form f (Trial calls pick) has can m line long turn e (in_trial job same formed read ends) =
      let is : forms.Replay ≡ form = cc in
      absurd (job_fails_not form f job can (subst (λ (x : JobForm). HasRead x c.input (Ok job)) is read))
  by_fault form f Run has can m line long turn e ends = absurd (cc)

  -- a good job isn't refused
  job_ready : (form : JobForm) (e : Ending) → JobEnds form c.input e → TellsGoodJob form c → status_of e ≡ 7
  job_ready form (BadLine text) ends can =
      let has = read_so form can.0 _ can.1 ends.1 in
      let both : ◌≡◌ {A = Result Job JobFault} (Ok can.2.0) (Err (fault.BadLine ends.0)) = sym can.2.1 ∙ has in
      absurd (cc)
  job_ready form TooLong ends can =
      let has = read_so form can.0 _ can.1 ends in
      let both : ◌≡◌ {A = Result Job JobFault} (Ok can.2.0) (Err fault.TooLong) = sym can.2.1 ∙ has in
      absurd (cc)
  job_ready form (BadTurn text) ends can =
      let has = read_so form can.0 _ can.1 ends.1 in
      let both : ◌≡◌ {A = Result Job JobFault} (Ok can.2.0) (Err (fault.BadTurn ends.0)) = sym can.2.1 ∙ has in
      absurd (cc)
  job_ready form Unread ends can = absurd (can.3 ends)
  job_ready form NoMemory ends can = refl
  job_ready form e ends can = absurd ends

  -- IMAGES WITHOUT A FAULT

  module _ (none : HasNoFault c.before.now) (device : DeviceIsWell c) where
    run_ready : (order : Order) (scripts : List (ℕ × List Op)) (turns : List ℕ) (tells : Telling) (e : Ending)
        → RunEnds print order scripts turns tells c.before c.after e → Is 0 7 (status_of e)
    run_ready order scripts turns tells (Done text) ends = inl refl
    run_ready order scripts turns tells NoMemory ends = inr refl
    run_ready order scripts turns tells (Faulty text) ends = absurd (no_both c.before.now ends.0 ends.1.is none)
    run_ready order scripts turns tells (Stopped text) ends = absurd (device ends.0)
    run_ready order scripts turns tells Failed ends = absurd (device ends.0)
    run_ready order scripts turns tells e ends = absurd ends

    list_ready : (e : Ending) → Does ListAll e → Is 0 7 (status_of e)
    list_ready (Done text) ends = inl refl
    list_ready NoMemory ends = inr refl
    list_ready (Faulty text) ends = absurd (no_both c.before.now ends.0 ends.1.is none)
    list_ready Failed ends = absurd (device ends.0)
    list_ready e ends = absurd ends

    try_ready : (job : Job) (calls : ℕ) (e : Ending) → TryEnds print job calls c.before e → Is 0 7 (status_of e)
    try_ready job calls (Done text) ends = inl refl
    try_ready job calls NoMemory ends = inr refl
    try_ready job calls (Faulty text) ends = absurd (no_both c.before.now ends.0 ends.1 none)
    try_ready job calls e ends = absurd ends

    check_ready : (e : Ending) → CheckEnds c.before.now e → Is 0 7 (status_of e)
    check_ready (Done text) ends = inl refl
    check_ready NoMemory ends = inr refl
    check_ready (Faulty text) ends = absurd (no_both c.before.now ends.0 ends.1 none)
    check_ready e ends = absurd ends

    -- the commands but `cat`
    ready : (command : Command) → IsReadyFor c command → ((name : List ℕ) → command ≡ Cat name → ⊥) → (e : Ending) → Does command e
        → Is 0 7 (status_of e)
    ready (Format pages inodes) can other e ends = absurd can
    ready Apply can other e (in_job same ends) = inr (job_ready forms.Apply e ends can)
    ready Apply can other e (in_run job formed read ends) = run_ready _ _ _ _ e ends
    ready Replay can other e (in_job same ends) = inr (job_ready forms.Replay e ends can)
    ready Replay can other e (in_run job formed read ends) = run_ready _ _ _ _ e ends
    ready Check can other e ends = check_ready e ends.1
    ready ListAll can other e ends = list_ready e ends
    ready (Cat name) can other e ends = absurd (other name refl)
    ready (Work n) can other e ends = run_ready _ _ _ _ e ends
    ready (Trial calls pick) can other e (in_its_job same ends) = inr (job_ready forms.Replay e ends can)
    ready (Trial calls pick) can other e (in_trial job same formed read ends) = try_ready job calls e ends
    ready Run can other e ends = absurd can

    -- a name that no file has, and one that some file has
    cat_served : (name : List ℕ) (e : Ending) → CatEnds print name c.before c.after e
        → Is 0 7 (status_of e) ⊎ ((status_of e ≡ 11) × IsNoFile c.before.now name)
    cat_served name (Done text) ends = inl (inl refl)
    cat_served name NoMemory ends = inl (inr refl)
    cat_served name (Faulty text) ends = absurd (no_both c.before.now ends.0 ends.1.is none)
    cat_served name Failed ends = absurd (device ends.0)
    cat_served name (Refused text) ends = inr (refl, ⊎_elim (λ bad. inl bad.0) (λ lacks. inr lacks.1) ends)
    cat_served name e ends = absurd ends

    file_is_there : (name : List ℕ) → IsLegal name → ((d : Disk) → StandsFor c.before.now d → IsSome (files d name)) → IsNoFile c.before.now name → ⊥
    file_is_there name legal there lacks = ⊎_elim (λ bad. bad legal) (λ (empty : (d : Disk) → StandsFor c.before.now d → files d name ≡ None).
        clash (files none.disk name) (empty none.disk none.stands_for) (there none.disk none.stands_for)) lacks
      where
        clash : {X : Type 0} (o : Option X) → o ≡ None → IsSome o → ⊥
        clash None lack some = cc some
        clash (Some x) lack some = cc lack

    cat_shows : (name : List ℕ) (e : Ending) → IsLegal name → ((d : Disk) → StandsFor c.before.now d → IsSome (files d name))
        → CatEnds print name c.before c.after e → Is 0 7 (status_of e)
    cat_shows name e legal there ends =
        ⊎_elim (λ is. is) (λ lacks. absurd (file_is_there name legal there lacks.1)) (cat_served name e ends)

    cat_lacks : (name : List ℕ) (e : Ending) → IsNoFile c.before.now name → CatEnds print name c.before c.after e → Is 11 7 (status_of e)
    cat_lacks name (Done text) lacks ends = absurd (file_is_there name ends.0 ends.1 lacks)
    cat_lacks name NoMemory lacks ends = inr refl
    cat_lacks name (Faulty text) lacks ends = absurd (no_both c.before.now ends.0 ends.1.is none)
    cat_lacks name Failed lacks ends = absurd (device ends.0)
    cat_lacks name (Refused text) lacks ends = inl refl
    cat_lacks name e lacks ends = absurd ends

  -- IMAGES WITH A FAULT

  module _ (f : ImageFault) (is : FaultOf c.before.now f) (device : DeviceIsWell c) where
    run_faulty : (order : Order) (scripts : List (ℕ × List Op)) (turns : List ℕ) (tells : Telling) (e : Ending)
        → RunEnds print order scripts turns tells c.before c.after e → Is 3 7 (status_of e)
    run_faulty order scripts turns tells (Done text) ends = absurd (no_both c.before.now f is ends.0)
    run_faulty order scripts turns tells NoMemory ends = inr refl
    run_faulty order scripts turns tells (Faulty text) ends = inl refl
    run_faulty order scripts turns tells (Stopped text) ends = absurd (device ends.0)
    run_faulty order scripts turns tells Failed ends = absurd (device ends.0)
    run_faulty order scripts turns tells e ends = absurd ends

    list_faulty : (e : Ending) → Does ListAll e → Is 3 7 (status_of e)
    list_faulty (Done text) ends = absurd (no_both c.before.now f is ends.0)
    list_faulty NoMemory ends = inr refl
    list_faulty (Faulty text) ends = inl refl
    list_faulty Failed ends = absurd (device ends.0)
    list_faulty e ends = absurd ends

    cat_faulty : (name : List ℕ) (e : Ending) → CatEnds print name c.before c.after e → Is 3 7 (status_of e)
    cat_faulty name (Done text) ends = absurd (no_both c.before.now f is ends.2.0)
    cat_faulty name NoMemory ends = inr refl
    cat_faulty name (Faulty text) ends = inl refl
    cat_faulty name Failed ends = absurd (device ends.0)
    cat_faulty name (Refused text) ends =
        ⊎_elim (λ bad. absurd (no_both c.before.now f is bad.1.0)) (λ lacks. absurd (no_both c.before.now f is lacks.2.0)) ends
    cat_faulty name e ends = absurd ends

    try_faulty : (job : Job) (calls : ℕ) (e : Ending) → TryEnds print job calls c.before e → Is 3 7 (status_of e)
    try_faulty job calls (Done text) ends = absurd (no_both c.before.now f is ends.0)
    try_faulty job calls NoMemory ends = inr refl
    try_faulty job calls (Faulty text) ends = inl refl
    try_faulty job calls e ends = absurd ends

    check_faulty : (e : Ending) → CheckEnds c.before.now e → Is 3 7 (status_of e)
    check_faulty (Done text) ends = absurd (no_both c.before.now f is (record { disk = ends.disk; stands_for = ends.stands_for }))
    check_faulty NoMemory ends = inr refl
    check_faulty (Faulty text) ends = inl refl
    check_faulty e ends = absurd ends

    faulty_by : (command : Command) → IsReadyFor c command → (e : Ending) → Does command e → Is 3 7 (status_of e)
    faulty_by (Format pages inodes) can e ends = absurd can
    faulty_by Apply can e (in_job same ends) = inr (job_ready forms.Apply e ends can)
    faulty_by Apply can e (in_run job formed read ends) = run_faulty _ _ _ _ e ends
    faulty_by Replay can e (in_job same ends) = inr (job_ready forms.Replay e ends can)
    faulty_by Replay can e (in_run job formed read ends) = run_faulty _ _ _ _ e ends
    faulty_by Check can e ends = check_faulty e ends.1
    faulty_by ListAll can e ends = list_faulty e ends
    faulty_by (Cat name) can e ends = cat_faulty name e ends
    faulty_by (Work n) can e ends = run_faulty _ _ _ _ e ends
    faulty_by (Trial calls pick) can e (in_its_job same ends) = inr (job_ready forms.Replay e ends can)
    faulty_by (Trial calls pick) can e (in_trial job same formed read ends) = try_faulty job calls e ends
    faulty_by Run can e ends = absurd can

  -- FILE SYSTEMS THAT ARE MADE

  made_of : (pages inodes : ℕ) (e : Ending) → MakeEnds pages inodes c.before c.after e → IsAccepted (geometry pages inodes)
      → length c.before.now ≡ 512 * pages → DeviceIsWell c
      → Is 0 7 (status_of e)
  made_of pages inodes (Done text) ends accepted size well = inl refl
  made_of pages inodes NoMemory ends accepted size well = inr refl
  made_of pages inodes Failed ends accepted size well = absurd (well ends.1)
  made_of pages inodes (Refused text) ends accepted size well = absurd (not_refused pages inodes c.before.now ends.1.0 accepted size ends.1.1)
  made_of pages inodes e ends accepted size well = absurd ends

  refused_of : (pages inodes : ℕ) (cause : Cause) (e : Ending) → MakeEnds pages inodes c.before c.after e → IsCause pages inodes c.before.now cause
      → Is 11 7 (status_of e)
  refused_of pages inodes cause (Refused text) ends is = inl refl
  refused_of pages inodes cause NoMemory ends is = inr refl
  refused_of pages inodes cause (Done text) ends is = absurd (not_refused pages inodes c.before.now cause ends.made.accepted ends.made.size is)
  refused_of pages inodes cause Failed ends is = absurd (not_refused pages inodes c.before.now cause ends.0.accepted ends.0.size is)
  refused_of pages inodes cause e ends is = absurd ends

  -- a command as one that shows a file, or as another
  cat_or : (command : Command) → ((name : List ℕ) × (command ≡ Cat name)) ⊎ ((name : List ℕ) → command ≡ Cat name → ⊥)
  cat_or (Cat name) = inl (name, refl)
  cat_or command = inr (λ name is. absurd (cc))

  served_of : (e : Ending) → Is 0 7 (status_of e) ⊎ ((status_of e ≡ 11) × AsksForNoFile c) → (n : ℕ) → n ≡ status_of e
      → (n ≡ 0) ⊎ ((n ≡ 7) ⊎ ((n ≡ 11) × AsksForNoFile c))
  served_of e is n same =
      ⊎_elim (λ good. ⊎_elim (λ zero. inl (same ∙ zero)) (λ seven. inr (inl (same ∙ seven))) good) (λ lacks. inr (inr (same ∙ lacks.0, lacks.1))) is

  serves_by : (e : Ended print c) → IsReady c → HasNoFault c.before.now → Is 0 7 (status_of e.ending) ⊎ ((status_of e.ending ≡ 11) × AsksForNoFile c)
  serves_by e can none =
      let command = can.asks.0 in
      ⊎_elim
      (λ cat. let asks : Asks c (Cat cat.0) = can.asks.1 ∙ ap (λ (x : Command). Some x) cat.1 in
      ⊎_elim (λ lacks. inl (inr (ap status_of lacks)))
      (λ ends. ⊎_elim (λ is. inl is) (λ no. inr (no.0, (cat.0, asks, no.1))) (cat_served none can.device cat.0 e.ending ends))
      (asked_does e.ending (Cat cat.0) asks e.answers))
      (λ other. inl (asked 0 e command can.asks.1 (ready none can.device command can.asks.2 other e.ending))) (cat_or command)

pub serves : ServesReady
serves print c e can none =
    ⊎_elim (λ good. served_of print c e.ending (serves_by print c e can none) c.status good.0) (λ failed. absurd (can.sink failed.1)) e.told

pub shows : EndsAt 0 7 (λ c. AsksForFile c × IsWell c)
shows print c e can =
    let f = can.0 in
    let well = can.1 in
    told print c 0 7 e well.2 (asked print c 0 e (Cat f.0) f.1 (cat_shows print c well.0 well.1 f.0 e.ending f.2 f.3))

pub lacks : EndsAt 11 7 (λ c. AsksForNoFile c × IsWell c)
lacks print c e can =
    let f = can.0 in
    let well = can.1 in
    told print c 11 7 e well.2 (asked print c 11 e (Cat f.0) f.1 (cat_lacks print c well.0 well.1 f.0 e.ending f.2))

pub makes : EndsAt 0 7 IsMakable
makes print c e can =
    let f = can.0 in
    told print c 0 7 e can.2 (asked print c 0 e (Format f.0 f.1) f.2 (λ ends. made_of print c f.0 f.1 e.ending ends f.3 f.4 can.1))

pub refuses : EndsAt 11 7 IsRefusable
refuses print c e can =
    let f = can.0 in
    told print c 11 7 e can.1 (asked print c 11 e (Format f.0 f.1) f.2 (λ ends. refused_of print c f.0 f.1 f.3.0 e.ending ends f.3.1))

pub images : EndsAt 3 7 (λ c. IsReady c × ((fault : ImageFault) × FaultOf c.before.now fault))
images print c e can =
    let ready = can.0 in
    told print c 3 7 e ready.sink (asked print c 3 e ready.asks.0 ready.asks.1 (faulty_by print c can.1.0 can.1.1 ready.device ready.asks.0
    ready.asks.2 e.ending))

by_job : (f : JobFault) (m : ℕ) → ((line : ℕ) → f ≡ fault.BadLine line → m ≡ 2) → (f ≡ fault.TooLong → m ≡ 8)
    → ((number : ℕ) → f ≡ fault.BadTurn number → m ≡ 9) → EndsAt m 7 (HasJobFault f)
by_job f m line long turn print c e can =
    let asks = can.1 in
    told print c m 7 e can.3 (asked print c m e asks.0 asks.1 (by_fault print c can.0 f asks.0 asks.2 can.2 m line long turn e.ending))

pub bad_lines : EndsAt 2 7 (λ c. (line : ℕ) × HasJobFault (fault.BadLine line) c)
bad_lines print c e can =
    by_job (fault.BadLine can.0) 2 (λ line is. refl) (λ is. absurd (cc)) (λ number is. absurd (cc)) print c e can.1

pub too_long : EndsAt 8 7 (HasJobFault fault.TooLong)
too_long print c e can = by_job fault.TooLong 8 (λ line is. absurd (cc)) (λ is. refl) (λ number is. absurd (cc)) print c e can

pub bad_turns : EndsAt 9 7 (λ c. (number : ℕ) × HasJobFault (fault.BadTurn number) c)
bad_turns print c e can =
    by_job (fault.BadTurn can.0) 9 (λ line is. absurd (cc)) (λ is. absurd (cc)) (λ number is. refl) print c e can.1

pub without_command : EndsAt 1 7 (λ c. ((command_of c.words ≡ None) ⊎ Asks c Run) × SinkIsWell c)
without_command print c e can = told print c 1 7 e can.1 (usage e.ending e.answers)
  where
    usage : (x : Ending) → Answers print (command_of c.words) c.input c.before c.after x → Is 1 7 (status_of x)
    usage x (unread same is) = inr (ap status_of is)
    usage x (no_command none same is) = inl (ap status_of is)
    usage x (obeyed command is ends) =
        ⊎_elim (λ (none : command_of c.words ≡ None).
        let clash : ◌≡◌ {A = Option Command} None (Some command) = sym none ∙ is in
        absurd (cc)) (λ (run : Asks c Run).
        let both : ◌≡◌ {A = Option Command} (Some command) (Some Run) = sym is ∙ run in
        let same : command ≡ Run = cc in
        let done = subst (λ (y : Command). CommandEnds print y c.input c.before c.after x) same ends in
        inl (ap status_of done.1)) can.0
