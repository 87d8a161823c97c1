-- What each status of a call tells.
use Rattle.std.proofs.Common.{◌≡◌, ◌⊎◌, inl, inr, ⊎_elim, ◌≤◌, ℕ, List, refl, ap, ◌∙◌, sym, subst, arith}
use Rattle.dn_model.specs.Own.{Print}
use Rattle.dn_script.specs.Streams.{with_back}
use Rattle.dn_script.specs.declared.line.JobForm.TheVariants as forms
use Rattle.dn_report.specs.Report.{stopped_text}
use Rattle.dn_report.specs.declared.report.Cause.TheVariants.{BadName, NotFound}
use Rattle.denova_words.specs.Words.{command_of}
use Rattle.denova_words.specs.declared.words.Command.{Command}
use Rattle.denova_words.specs.declared.words.Command.TheVariants.{Format, Apply, Replay, Check, List as ListAll, Cat, Work, Trial, Run}
use Rattle.call_endings.specs.Call.{Call, status_of, text_of}
use Rattle.call_endings.specs.declared.ending.Ending.{Ending}
use Rattle.call_endings.specs.declared.ending.Ending.TheVariants.{
  Done,
  Usage,
  BadLine,
  BadTurn,
  Faulty,
  Stopped,
  Failed,
  Unread,
  NoMemory,
  TooLong,
  Refused,
}
use Rattle.denova_calls.specs.RunEnds.{in_job, in_run}
use Rattle.denova_calls.proofs.Parts.{stays_part}
use Rattle.denova_calls.specs.LookEnds.{in_job as in_its_job, in_trial}
use Rattle.denova_calls.specs.Ends.{Answers, unread, no_command, obeyed, CommandEnds, Ended}
use Rattle.denova_calls.specs.Statuses.{
  Asks,
  Wrote,
  At,
  IsDone,
  IsUsage,
  IsBadJob,
  IsFaulty,
  IsStopped,
  IsUnread,
  IsUnwritten,
  IsWithoutMemory,
  IsTooLong,
  IsBadTurn,
  IsRefused,
}

-- no ending has the status of a failed write
never_six : (e : Ending) → status_of e ≡ 6 → ⊥
never_six Usage is = omega (arith, is)
never_six e is = omega (arith, is)

known_status : (e : Ending) → (status_of e ≤ 9) ⊎ (status_of e ≡ 11)
known_status (Refused text) = inr refl
known_status e = inl (omega arith)

module _ (print : Print) (c : Call) where
  abbrev Comes : Ending → Type 0
  Comes e = Answers print (command_of c.words) c.input c.before c.after e

  abbrev Does : Command → Ending → Type 0
  Does command e = CommandEnds print command c.input c.before c.after e

  abbrev Takes : Ending → Type 0
  Takes e = Wrote c (text_of e)

  -- the text that the sink took, in other words
  takes : (text other : List ℕ) → Wrote c text → text ≡ other → Wrote c other
  takes text other w same = w ∙ ap (with_back c.output.had) same

  done : (e : Ending) (command : Command) → Asks c command → Does command e → status_of e ≡ 0 → Takes e → IsDone print c
  done (Done text) (Format pages inodes) is ends st w = (text.items, w, (Format pages inodes, is, ends))
  done (Done text) Apply is (in_job same ends) st w = absurd ends
  done (Done text) Apply is (in_run job formed read ends) st w = (text.items, w, (Apply, is, (job, formed, read, ends)))
  done (Done text) Replay is (in_job same ends) st w = absurd ends
  done (Done text) Replay is (in_run job formed read ends) st w = (text.items, w, (Replay, is, (job, formed, read, ends)))
  done (Done text) Check is ends st w = (text.items, w, (Check, is, ends))
  done (Done text) ListAll is ends st w = (text.items, w, (ListAll, is, ends))
  done (Done text) (Cat name) is ends st w = (text.items, w, (Cat name, is, ends))
  done (Done text) (Work n) is ends st w = (text.items, w, (Work n, is, ends))
  done (Done text) (Trial calls pick) is (in_its_job same ends) st w = absurd ends
  done (Done text) (Trial calls pick) is (in_trial job same formed read ends) st w = (text.items, w, (Trial calls pick, is, (same, (job, formed, read, ends))))
  done (Done text) Run is ends st w = let other = ends.1 in absurd (cc)
  done e command is ends st w = absurd (omega (arith, st))

  usage_by : (e : Ending) (command : Command) → Asks c command → Does command e → status_of e ≡ 1 → Takes e → IsUsage print c
  usage_by Usage (Format pages inodes) is ends st w = absurd ends
  usage_by Usage Apply is (in_job same ends) st w = absurd ends
  usage_by Usage Apply is (in_run job formed read ends) st w = absurd ends
  usage_by Usage Replay is (in_job same ends) st w = absurd ends
  usage_by Usage Replay is (in_run job formed read ends) st w = absurd ends
  usage_by Usage Check is ends st w = absurd ends.1
  usage_by Usage ListAll is ends st w = absurd ends
  usage_by Usage (Cat name) is ends st w = absurd ends
  usage_by Usage (Work n) is ends st w = absurd ends
  usage_by Usage (Trial calls pick) is (in_its_job same ends) st w = absurd ends
  usage_by Usage (Trial calls pick) is (in_trial job same formed read ends) st w = absurd ends
  usage_by Usage Run is ends st w = (inr is, ends.0, w)
  usage_by e command is ends st w = absurd (omega (arith, st))

  usage : (e : Ending) → Comes e → status_of e ≡ 1 → Takes e → IsUsage print c
  usage e (unread same is) st w = absurd (omega (arith, st, ap status_of is))
  usage e (no_command none same is) st w = (inl none, same, takes (text_of e) (text_of Usage) w (ap text_of is))
  usage e (obeyed command is ends) st w = usage_by e command is ends st w

  bad_job : (e : Ending) (command : Command) → Asks c command → Does command e → status_of e ≡ 2 → Takes e → IsBadJob print c
  bad_job (BadLine text) (Format pages inodes) is ends st w = absurd ends
  bad_job (BadLine text) Apply is (in_job same ends) st w = (same, (ends.0, (forms.Apply, (Apply, is, refl), ends.1), takes _ _ w ends.2))
  bad_job (BadLine text) Apply is (in_run job formed read ends) st w = absurd ends
  bad_job (BadLine text) Replay is (in_job same ends) st w = (same, (ends.0, (forms.Replay, (Replay, is, refl), ends.1), takes _ _ w ends.2))
  bad_job (BadLine text) Replay is (in_run job formed read ends) st w = absurd ends
  bad_job (BadLine text) Check is ends st w = absurd ends.1
  bad_job (BadLine text) ListAll is ends st w = absurd ends
  bad_job (BadLine text) (Cat name) is ends st w = absurd ends
  bad_job (BadLine text) (Work n) is ends st w = absurd ends
  bad_job (BadLine text) (Trial calls pick) is (in_its_job same ends) st w = (same, (ends.0, (forms.Replay, (Trial calls pick, is, refl), ends.1), takes _ _ w ends.2))
  bad_job (BadLine text) (Trial calls pick) is (in_trial job same formed read ends) st w = absurd ends
  bad_job (BadLine text) Run is ends st w = let other = ends.1 in absurd (cc)
  bad_job e command is ends st w = absurd (omega (arith, st))

  faulty : (e : Ending) (command : Command) → Asks c command → Does command e → status_of e ≡ 3 → Takes e → IsFaulty print c
  faulty (Faulty text) (Format pages inodes) is ends st w = absurd ends
  faulty (Faulty text) Apply is (in_job same ends) st w = absurd ends
  faulty (Faulty text) Apply is (in_run job formed read ends) st w = (ends.0, takes _ _ w ends.2, (Apply, is, (job, formed, read, ends.1)))
  faulty (Faulty text) Replay is (in_job same ends) st w = absurd ends
  faulty (Faulty text) Replay is (in_run job formed read ends) st w = (ends.0, takes _ _ w ends.2, (Replay, is, (job, formed, read, ends.1)))
  faulty (Faulty text) Check is ends st w = (ends.1.0, takes _ _ w ends.1.2, (Check, is, (ends.0, ends.1.1)))
  faulty (Faulty text) ListAll is ends st w = (ends.0, takes _ _ w ends.2, (ListAll, is, ends.1))
  faulty (Faulty text) (Cat name) is ends st w = (ends.0, takes _ _ w ends.2, (Cat name, is, ends.1))
  faulty (Faulty text) (Work n) is ends st w = (ends.0, takes _ _ w ends.2, (Work n, is, ends.1))
  faulty (Faulty text) (Trial calls pick) is (in_its_job same ends) st w = absurd ends
  faulty (Faulty text) (Trial calls pick) is (in_trial job same formed read ends) st w = (ends.0, takes _ _ w ends.2, (Trial calls pick, is, (same, (job, formed, read, ends.1))))
  faulty (Faulty text) Run is ends st w = let other = ends.1 in absurd (cc)
  faulty e command is ends st w = absurd (omega (arith, st))

  stopped : (e : Ending) (command : Command) → Asks c command → Does command e → status_of e ≡ 4 → Takes e → IsStopped print c
  stopped (Stopped text) (Format pages inodes) is ends st w = absurd ends
  stopped (Stopped text) Apply is (in_job same ends) st w = absurd ends
  stopped (Stopped text) Apply is (in_run job formed read ends) st w = (ends.0, (text.items, w, (Apply, is, (job, formed, read, ends.1))))
  stopped (Stopped text) Replay is (in_job same ends) st w = absurd ends
  stopped (Stopped text) Replay is (in_run job formed read ends) st w = (ends.0, (text.items, w, (Replay, is, (job, formed, read, ends.1))))
  stopped (Stopped text) Check is ends st w = absurd ends.1
  stopped (Stopped text) ListAll is ends st w = absurd ends
  stopped (Stopped text) (Cat name) is ends st w = absurd ends
  stopped (Stopped text) (Work n) is ends st w = (ends.0, (text.items, w, (Work n, is, ends.1)))
  stopped (Stopped text) (Trial calls pick) is (in_its_job same ends) st w = absurd ends
  stopped (Stopped text) (Trial calls pick) is (in_trial job same formed read ends) st w = absurd ends
  stopped (Stopped text) Run is ends st w = let other = ends.1 in absurd (cc)
  stopped Failed (Format pages inodes) is ends st w = (ends.1, (stopped_text, w, (Format pages inodes, is, (refl, ends.0))))
  stopped Failed Apply is (in_job same ends) st w = absurd ends
  stopped Failed Apply is (in_run job formed read ends) st w = (ends.0, (stopped_text, w, (Apply, is, (job, formed, read, λ d stands own. stays_part print _ d c.before c.after _ refl (ends.1 d stands own)))))
  stopped Failed Replay is (in_job same ends) st w = absurd ends
  stopped Failed Replay is (in_run job formed read ends) st w = (ends.0, (stopped_text, w, (Replay, is, (job, formed, read, λ d stands own. stays_part print _ d c.before c.after _ refl (ends.1 d stands own)))))
  stopped Failed Check is ends st w = absurd ends.1
  stopped Failed ListAll is ends st w = (ends.0, (stopped_text, w, (ListAll, is, (refl, ends.1))))
  stopped Failed (Cat name) is ends st w = (ends.0, (stopped_text, w, (Cat name, is, (refl, ends.1))))
  stopped Failed (Work n) is ends st w = (ends.0, (stopped_text, w, (Work n, is, λ d stands own. stays_part print _ d c.before c.after _ refl (ends.1 d stands own))))
  stopped Failed (Trial calls pick) is (in_its_job same ends) st w = absurd ends
  stopped Failed (Trial calls pick) is (in_trial job same formed read ends) st w = absurd ends
  stopped Failed Run is ends st w = let other = ends.1 in absurd (cc)
  stopped e command is ends st w = absurd (omega (arith, st))

  unread_of : (e : Ending) (command : Command) → Asks c command → Does command e → status_of e ≡ 5 → Takes e → IsUnread print c
  unread_of Unread (Format pages inodes) is ends st w = absurd ends
  unread_of Unread Apply is (in_job same ends) st w = (same, ends, (forms.Apply, (Apply, is, refl)), w)
  unread_of Unread Apply is (in_run job formed read ends) st w = absurd ends
  unread_of Unread Replay is (in_job same ends) st w = (same, ends, (forms.Replay, (Replay, is, refl)), w)
  unread_of Unread Replay is (in_run job formed read ends) st w = absurd ends
  unread_of Unread Check is ends st w = absurd ends.1
  unread_of Unread ListAll is ends st w = absurd ends
  unread_of Unread (Cat name) is ends st w = absurd ends
  unread_of Unread (Work n) is ends st w = absurd ends
  unread_of Unread (Trial calls pick) is (in_its_job same ends) st w = (same, ends, (forms.Replay, (Trial calls pick, is, refl)), w)
  unread_of Unread (Trial calls pick) is (in_trial job same formed read ends) st w = absurd ends
  unread_of Unread Run is ends st w = let other = ends.1 in absurd (cc)
  unread_of e command is ends st w = absurd (omega (arith, st))

  no_memory_by : (e : Ending) (command : Command) → Asks c command → Does command e → status_of e ≡ 7 → Takes e → IsWithoutMemory print c
  no_memory_by NoMemory (Format pages inodes) is ends st w = (w, inr (Format pages inodes, is, ends))
  no_memory_by NoMemory Apply is (in_job same ends) st w = (w, inl same)
  no_memory_by NoMemory Apply is (in_run job formed read ends) st w = (w, inr (Apply, is, (job, formed, read, ends)))
  no_memory_by NoMemory Replay is (in_job same ends) st w = (w, inl same)
  no_memory_by NoMemory Replay is (in_run job formed read ends) st w = (w, inr (Replay, is, (job, formed, read, ends)))
  no_memory_by NoMemory Check is ends st w = (w, inl ends.0)
  no_memory_by NoMemory ListAll is ends st w = (w, inr (ListAll, is, ends))
  no_memory_by NoMemory (Cat name) is ends st w = (w, inr (Cat name, is, ends))
  no_memory_by NoMemory (Work n) is ends st w = (w, inr (Work n, is, ends))
  no_memory_by NoMemory (Trial calls pick) is (in_its_job same ends) st w = (w, inl same)
  no_memory_by NoMemory (Trial calls pick) is (in_trial job same formed read ends) st w = (w, inl same)
  no_memory_by NoMemory Run is ends st w = let other = ends.1 in absurd (cc)
  no_memory_by e command is ends st w = absurd (omega (arith, st))

  no_memory : (e : Ending) → Comes e → status_of e ≡ 7 → Takes e → IsWithoutMemory print c
  no_memory e (unread same is) st w = (takes (text_of e) (text_of NoMemory) w (ap text_of is), inl same)
  no_memory e (no_command none same is) st w = absurd (omega (arith, st, ap status_of is))
  no_memory e (obeyed command is ends) st w = no_memory_by e command is ends st w

  too_long : (e : Ending) (command : Command) → Asks c command → Does command e → status_of e ≡ 8 → Takes e → IsTooLong print c
  too_long TooLong (Format pages inodes) is ends st w = absurd ends
  too_long TooLong Apply is (in_job same ends) st w = (same, (forms.Apply, (Apply, is, refl), ends), w)
  too_long TooLong Apply is (in_run job formed read ends) st w = absurd ends
  too_long TooLong Replay is (in_job same ends) st w = (same, (forms.Replay, (Replay, is, refl), ends), w)
  too_long TooLong Replay is (in_run job formed read ends) st w = absurd ends
  too_long TooLong Check is ends st w = absurd ends.1
  too_long TooLong ListAll is ends st w = absurd ends
  too_long TooLong (Cat name) is ends st w = absurd ends
  too_long TooLong (Work n) is ends st w = absurd ends
  too_long TooLong (Trial calls pick) is (in_its_job same ends) st w = (same, (forms.Replay, (Trial calls pick, is, refl), ends), w)
  too_long TooLong (Trial calls pick) is (in_trial job same formed read ends) st w = absurd ends
  too_long TooLong Run is ends st w = let other = ends.1 in absurd (cc)
  too_long e command is ends st w = absurd (omega (arith, st))

  bad_turn : (e : Ending) (command : Command) → Asks c command → Does command e → status_of e ≡ 9 → Takes e → IsBadTurn print c
  bad_turn (BadTurn text) (Format pages inodes) is ends st w = absurd ends
  bad_turn (BadTurn text) Apply is (in_job same ends) st w = (same, (ends.0, (forms.Apply, (Apply, is, refl), ends.1), takes _ _ w ends.2))
  bad_turn (BadTurn text) Apply is (in_run job formed read ends) st w = absurd ends
  bad_turn (BadTurn text) Replay is (in_job same ends) st w = (same, (ends.0, (forms.Replay, (Replay, is, refl), ends.1), takes _ _ w ends.2))
  bad_turn (BadTurn text) Replay is (in_run job formed read ends) st w = absurd ends
  bad_turn (BadTurn text) Check is ends st w = absurd ends.1
  bad_turn (BadTurn text) ListAll is ends st w = absurd ends
  bad_turn (BadTurn text) (Cat name) is ends st w = absurd ends
  bad_turn (BadTurn text) (Work n) is ends st w = absurd ends
  bad_turn (BadTurn text) (Trial calls pick) is (in_its_job same ends) st w = (same, (ends.0, (forms.Replay, (Trial calls pick, is, refl), ends.1), takes _ _ w ends.2))
  bad_turn (BadTurn text) (Trial calls pick) is (in_trial job same formed read ends) st w = absurd ends
  bad_turn (BadTurn text) Run is ends st w = let other = ends.1 in absurd (cc)
  bad_turn e command is ends st w = absurd (omega (arith, st))

  refused : (e : Ending) (command : Command) → Asks c command → Does command e → status_of e ≡ 11 → Takes e → IsRefused print c
  refused (Refused text) (Format pages inodes) is ends st w = (ends.1.0, takes _ _ w ends.1.2, (Format pages inodes, is, (ends.0, ends.1.1)))
  refused (Refused text) Apply is (in_job same ends) st w = absurd ends
  refused (Refused text) Apply is (in_run job formed read ends) st w = absurd ends
  refused (Refused text) Replay is (in_job same ends) st w = absurd ends
  refused (Refused text) Replay is (in_run job formed read ends) st w = absurd ends
  refused (Refused text) Check is ends st w = absurd ends.1
  refused (Refused text) ListAll is ends st w = absurd ends
  refused (Refused text) (Cat name) is ends st w = ⊎_elim (λ bad. (BadName, takes _ _ w bad.2, (Cat name, is, (inl (bad.0, refl), bad.1))))
      (λ none. (NotFound, takes _ _ w none.3, (Cat name, is, (inr (none.0, none.1, refl), none.2)))) ends
  refused (Refused text) (Work n) is ends st w = absurd ends
  refused (Refused text) (Trial calls pick) is (in_its_job same ends) st w = absurd ends
  refused (Refused text) (Trial calls pick) is (in_trial job same formed read ends) st w = absurd ends
  refused (Refused text) Run is ends st w = let other = ends.1 in absurd (cc)
  refused e command is ends st w = absurd (omega (arith, st))

  -- what has another status than 1 and 7 came of a command
  obeyed_of : (e : Ending) (n : ℕ) → Comes e → status_of e ≡ n → (n ≡ 7 → ⊥) → (n ≡ 1 → ⊥) → (command : Command) × Asks c command × Does command e
  obeyed_of e n (unread same is) st seven one = absurd (seven (sym st ∙ ap status_of is))
  obeyed_of e n (no_command none same is) st seven one = absurd (one (sym st ∙ ap status_of is))
  obeyed_of e n (obeyed command is ends) st seven one = (command, is, ends)

  picked : (e : Ended print c) (n : ℕ) → c.status ≡ n → (n ≡ 6 → ⊥) → (status_of e.ending ≡ n) × Takes e.ending
  picked e n is other = ⊎_elim (λ good. (sym good.0 ∙ is, good.1)) (λ failed. absurd (other (sym is ∙ failed.0))) e.told

pub at_0 : At 0 IsDone
at_0 print c e is =
    let p = picked print c e 0 is (λ six. omega arith) in
    let o = obeyed_of print c e.ending 0 e.answers p.0 (λ seven. omega arith) (λ one. omega arith) in
    done print c e.ending o.0 o.1 o.2 p.0 p.1

pub at_2 : At 2 IsBadJob
at_2 print c e is =
    let p = picked print c e 2 is (λ six. omega arith) in
    let o = obeyed_of print c e.ending 2 e.answers p.0 (λ seven. omega arith) (λ one. omega arith) in
    bad_job print c e.ending o.0 o.1 o.2 p.0 p.1

pub at_3 : At 3 IsFaulty
at_3 print c e is =
    let p = picked print c e 3 is (λ six. omega arith) in
    let o = obeyed_of print c e.ending 3 e.answers p.0 (λ seven. omega arith) (λ one. omega arith) in
    faulty print c e.ending o.0 o.1 o.2 p.0 p.1

pub at_4 : At 4 IsStopped
at_4 print c e is =
    let p = picked print c e 4 is (λ six. omega arith) in
    let o = obeyed_of print c e.ending 4 e.answers p.0 (λ seven. omega arith) (λ one. omega arith) in
    stopped print c e.ending o.0 o.1 o.2 p.0 p.1

pub at_5 : At 5 IsUnread
at_5 print c e is =
    let p = picked print c e 5 is (λ six. omega arith) in
    let o = obeyed_of print c e.ending 5 e.answers p.0 (λ seven. omega arith) (λ one. omega arith) in
    unread_of print c e.ending o.0 o.1 o.2 p.0 p.1

pub at_8 : At 8 IsTooLong
at_8 print c e is =
    let p = picked print c e 8 is (λ six. omega arith) in
    let o = obeyed_of print c e.ending 8 e.answers p.0 (λ seven. omega arith) (λ one. omega arith) in
    too_long print c e.ending o.0 o.1 o.2 p.0 p.1

pub at_9 : At 9 IsBadTurn
at_9 print c e is =
    let p = picked print c e 9 is (λ six. omega arith) in
    let o = obeyed_of print c e.ending 9 e.answers p.0 (λ seven. omega arith) (λ one. omega arith) in
    bad_turn print c e.ending o.0 o.1 o.2 p.0 p.1

pub at_11 : At 11 IsRefused
at_11 print c e is =
    let p = picked print c e 11 is (λ six. omega arith) in
    let o = obeyed_of print c e.ending 11 e.answers p.0 (λ seven. omega arith) (λ one. omega arith) in
    refused print c e.ending o.0 o.1 o.2 p.0 p.1

pub at_1 : At 1 IsUsage
at_1 print c e is =
    let p = picked print c e 1 is (λ six. omega arith) in
    usage print c e.ending e.answers p.0 p.1

pub at_7 : At 7 IsWithoutMemory
at_7 print c e is =
    let p = picked print c e 7 is (λ six. omega arith) in
    no_memory print c e.ending e.answers p.0 p.1

pub at_6 : At 6 IsUnwritten
at_6 print c e is =
    ⊎_elim (λ good. absurd (never_six e.ending (sym good.0 ∙ is))) (λ failed. (failed.1, (e.ending, e.answers, failed.2))) e.told

pub known : (print : Print) (c : Call) → Ended print c → (c.status ≤ 9) ⊎ (c.status ≡ 11)
known print c e =
    ⊎_elim (λ good. subst (λ (n : ℕ). (n ≤ 9) ⊎ (n ≡ 11)) (sym good.0) (known_status e.ending)) (λ failed. inl (omega (arith, failed.0))) e.told
