-- Calls are completed.
use Rattle.std.proofs.Common.{◌≡◌, ◌⊎◌, inl, inr, ⊎_elim, ℕ, List, Some, Result, Ok, Err, refl, ap, ◌∙◌, sym, subst, arith}
use Rattle.dn_model.specs.Image.{HasNoFault}
use Rattle.dn_model.specs.Faults.{FaultOf}
use Rattle.dn_model.specs.Own.{Print}
use Rattle.dn_model.specs.declared.fault.ImageFault.{ImageFault}
use Rattle.law_unique.proofs.OneFault.{fault_none}
use Rattle.dn_script.specs.declared.job.Job.{Job}
use Rattle.dn_script.specs.declared.job.JobFault.{JobFault}
use Rattle.dn_script.specs.declared.job.JobFault.TheVariants as fault
use Rattle.dn_script.specs.declared.line.JobForm.TheVariants as forms
use Rattle.denova_words.specs.Words.{command_of}
use Rattle.denova_words.specs.declared.words.Command.TheVariants.{Run}
use Rattle.call_endings.specs.Call.{Call, status_of}
use Rattle.call_endings.specs.declared.ending.Ending.{Ending}
use Rattle.call_endings.specs.declared.ending.Ending.TheVariants.{Done, BadLine, BadTurn, Faulty, Stopped, Failed, Unread, NoMemory, TooLong}
use Rattle.denova_calls.specs.RunEnds.{JobEnds}
use Rattle.denova_calls.specs.Statuses.{Asks, SinkIsWell, TellsJob}
use Rattle.denova_calls.proofs.Completes.{read_so, job_fails, job_fails_not}
use Rattle.denova_session.specs.Ends.{ThreadsEnd, SessionEnds, in_job, in_run, Answers, unread, not_asked, asked_for, Ended}
use Rattle.denova_session.specs.Statuses.{EndsAt, TellsFault, IsReady}

abbrev Is : ℕ → ℕ → ℕ → Type 0
Is m n status = (status ≡ m) ⊎ (status ≡ n)

module _ (print : Print) (c : Call) where
  abbrev Does : Ending → Type 0
  Does e = SessionEnds print c.input c.before c.after e

  -- what came of a call whose words ask for a run
  asked : (m : ℕ) (e : Ended print c) → Asks c Run → (Does e.ending → Is m 7 (status_of e.ending)) → Is m 7 (status_of e.ending)
  asked m e asks does = by e.answers
    where
      by : Answers print (command_of c.words) c.input c.before c.after e.ending → Is m 7 (status_of e.ending)
      by (unread same is) = inr (ap status_of is)
      by (not_asked none same is) = absurd (none asks)
      by (asked_for is ends) = does ends

  told : (m n : ℕ) (e : Ended print c) → SinkIsWell c → Is m n (status_of e.ending) → Is m n c.status
  told m n e well is = ⊎_elim (λ good. subst (Is m n) (sym good.0) is) (λ failed. absurd (well failed.1)) e.told

  by_fault : (f : JobFault) → TellsJob forms.Run c (λ read. read ≡ Err f) → (m : ℕ) → ((line : ℕ) → f ≡ fault.BadLine line → m ≡ 2)
      → (f ≡ fault.TooLong → m ≡ 8) → ((number : ℕ) → f ≡ fault.BadTurn number → m ≡ 9) → (e : Ending) → Does e → Is m 7 (status_of e)
  by_fault f can m line long turn e (in_job same ends) = job_fails print c forms.Run f e ends can m line long turn
  by_fault f can m line long turn e (in_run job formed read ends) = absurd (job_fails_not print c forms.Run f job can read)

  -- a job without a fault is run
  no_fault : (job : Job) (e : Ending) → TellsJob forms.Run c (λ read. read ≡ Ok job) → JobEnds forms.Run c.input e → e ≡ NoMemory
  no_fault job (BadLine text) can ends =
      let has = read_so print c forms.Run can.0 _ can.1 ends.1 in
      let both : ◌≡◌ {A = Result Job JobFault} (Ok job) (Err (fault.BadLine ends.0)) = sym can.2 ∙ has in
      absurd (cc)
  no_fault job TooLong can ends =
      let has = read_so print c forms.Run can.0 _ can.1 ends in
      let both : ◌≡◌ {A = Result Job JobFault} (Ok job) (Err fault.TooLong) = sym can.2 ∙ has in
      absurd (cc)
  no_fault job (BadTurn text) can ends =
      let has = read_so print c forms.Run can.0 _ can.1 ends.1 in
      let both : ◌≡◌ {A = Result Job JobFault} (Ok job) (Err (fault.BadTurn ends.0)) = sym can.2 ∙ has in
      absurd (cc)
  no_fault job Unread can ends = absurd (can.3 ends)
  no_fault job NoMemory can ends = refl
  no_fault job e can ends = absurd ends

  by_run : (m : ℕ) → IsReady c → (e : Ending) → ((job : Job) → ThreadsEnd print job.clients c.before c.after e → Is m 7 (status_of e)) → Does e
      → Is m 7 (status_of e)
  by_run m ready e runs (in_job same ends) =
      let can = ready.job in
      inr (ap status_of (no_fault can.2.0 e (can.0, can.1, can.2.1, can.3) ends))
  by_run m ready e runs (in_run job formed read ends) = runs job ends

  -- on an image with a fault, and on one without
  runs_faulty : (f : ImageFault) → FaultOf c.before.now f → IsReady c → (job : Job) (e : Ending)
      → ThreadsEnd print job.clients c.before c.after e → Is 3 7 (status_of e)
  runs_faulty f is ready job (Done text) ends = absurd (fault_none c.before.now f is ends.0)
  runs_faulty f is ready job (Faulty text) ends = inl refl
  runs_faulty f is ready job (Stopped text) ends = absurd (ready.device ends.0)
  runs_faulty f is ready job Failed ends = absurd (ready.device ends.0)
  runs_faulty f is ready job NoMemory ends = inr refl
  runs_faulty f is ready job e ends = absurd ends

  runs_sound : HasNoFault c.before.now → IsReady c → (job : Job) (e : Ending) → ThreadsEnd print job.clients c.before c.after e
      → Is 0 7 (status_of e)
  runs_sound none ready job (Done text) ends = inl refl
  runs_sound none ready job (Faulty text) ends = absurd (fault_none c.before.now ends.0 ends.1.is none)
  runs_sound none ready job (Stopped text) ends = absurd (ready.device ends.0)
  runs_sound none ready job Failed ends = absurd (ready.device ends.0)
  runs_sound none ready job NoMemory ends = inr refl
  runs_sound none ready job e ends = absurd ends

  other : (e : Ended print c) → (Asks c Run → ⊥) → Is 1 7 (status_of e.ending)
  other e not = by e.answers
    where
      by : Answers print (command_of c.words) c.input c.before c.after e.ending → Is 1 7 (status_of e.ending)
      by (unread same is) = inr (ap status_of is)
      by (not_asked none same is) = inl (ap status_of is)
      by (asked_for is ends) = absurd (not is)

pub others : EndsAt 1 7 (λ c. (Asks c Run → ⊥) × SinkIsWell c)
others print c e (not, well) = told print c 1 7 e well (other print c e not)

pub bad_lines : EndsAt 2 7 (λ c. (line : ℕ) × TellsFault (fault.BadLine line) c)
bad_lines print c e (line, tells) = told print c 2 7 e tells.2
    (asked print c 2 e tells.0 (by_fault print c (fault.BadLine line) tells.1 2 (λ l is. refl) (λ is. absurd (cc)) (λ n is. absurd (cc)) e.ending))

pub too_long : EndsAt 8 7 (TellsFault fault.TooLong)
too_long print c e tells = told print c 8 7 e tells.2
    (asked print c 8 e tells.0 (by_fault print c fault.TooLong tells.1 8 (λ l is. absurd (cc)) (λ is. refl) (λ n is. absurd (cc)) e.ending))

pub images : EndsAt 3 7 (λ c. IsReady c × ((f : ImageFault) × FaultOf c.before.now f))
images print c e (ready, has) = told print c 3 7 e ready.sink
    (asked print c 3 e ready.asks (by_run print c 3 ready e.ending (λ job ends. runs_faulty print c has.0 has.1 ready job e.ending ends)))

pub completed : EndsAt 0 7 (λ c. IsReady c × HasNoFault c.before.now)
completed print c e (ready, none) = told print c 0 7 e ready.sink
    (asked print c 0 e ready.asks (by_run print c 0 ready e.ending (λ job ends. runs_sound print c none ready job e.ending ends)))
