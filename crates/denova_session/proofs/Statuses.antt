-- What each status of a call tells.
use Rattle.std.proofs.Common.{◌≡◌, ◌⊎◌, inl, inr, ⊎_elim, ◌≤◌, ℕ, List, Some, refl, ap, ◌∙◌, sym, subst, arith}
use Rattle.dn_model.specs.Own.{Print}
use Rattle.dn_script.specs.Streams.{with_back}
use Rattle.dn_report.specs.Report.{stopped_text}
use Rattle.denova_words.specs.Words.{command_of}
use Rattle.denova_words.specs.declared.words.Command.TheVariants.{Run}
use Rattle.call_endings.specs.Call.{Call, status_of, text_of}
use Rattle.call_endings.specs.declared.ending.Ending.{Ending}
use Rattle.call_endings.specs.declared.ending.Ending.TheVariants.{
  Done,
  Usage,
  BadLine,
  BadTurn,
  Faulty,
  Stopped,
  Failed,
  Unread,
  NoMemory,
  TooLong,
  Refused,
}
use Rattle.denova_calls.specs.Statuses.{Asks, Wrote}
use Rattle.denova_calls.proofs.Parts.{stays_part}
use Rattle.denova_session.specs.Ends.{SessionEnds, in_job, in_run, Answers, unread, not_asked, asked_for, Ended}
use Rattle.denova_session.specs.Statuses.{
  At,
  IsDone,
  IsUsage,
  IsBadJob,
  IsFaulty,
  IsStopped,
  IsUnread,
  IsUnwritten,
  IsWithoutMemory,
  IsTooLong,
}

-- no ending has the status of a failed write
never_six : (e : Ending) → status_of e ≡ 6 → ⊥
never_six Usage is = omega (arith, is)
never_six e is = omega (arith, is)

module _ (print : Print) (c : Call) where
  abbrev Comes : Ending → Type 0
  Comes e = Answers print (command_of c.words) c.input c.before c.after e

  abbrev Does : Ending → Type 0
  Does e = SessionEnds print c.input c.before c.after e

  abbrev Takes : Ending → Type 0
  Takes e = Wrote c (text_of e)

  -- the text that the sink took, in other words
  takes : (text other : List ℕ) → Wrote c text → text ≡ other → Wrote c other
  takes text other w same = w ∙ ap (with_back c.output.had) same

  done : (e : Ending) → Asks c Run → Does e → status_of e ≡ 0 → Takes e → IsDone print c
  done (Done text) is (in_job same ends) st w = absurd ends
  done (Done text) is (in_run job formed read ends) st w = (is, (text.items, w, (job, formed, read, ends)))
  done e is ends st w = absurd (omega (arith, st))

  usage_by : (e : Ending) → Does e → status_of e ≡ 1 → ⊥
  usage_by Usage (in_job same ends) st = ends
  usage_by Usage (in_run job formed read ends) st = ends
  usage_by e ends st = omega (arith, st)

  usage : (e : Ending) → Comes e → status_of e ≡ 1 → Takes e → IsUsage print c
  usage e (unread same is) st w = absurd (omega (arith, st, ap status_of is))
  usage e (not_asked none same is) st w = (none, same, takes (text_of e) (text_of Usage) w (ap text_of is))
  usage e (asked_for is ends) st w = absurd (usage_by e ends st)

  bad_job : (e : Ending) → Asks c Run → Does e → status_of e ≡ 2 → Takes e → IsBadJob print c
  bad_job (BadLine text) is (in_job same ends) st w = (ends.0, (is, same, ends.1, takes _ _ w ends.2))
  bad_job (BadLine text) is (in_run job formed read ends) st w = absurd ends
  bad_job e is ends st w = absurd (omega (arith, st))

  faulty : (e : Ending) → Asks c Run → Does e → status_of e ≡ 3 → Takes e → IsFaulty print c
  faulty (Faulty text) is (in_job same ends) st w = absurd ends
  faulty (Faulty text) is (in_run job formed read ends) st w = (is, (ends.0, takes _ _ w ends.2, (job, formed, read, ends.1)))
  faulty e is ends st w = absurd (omega (arith, st))

  stopped : (e : Ending) → Asks c Run → Does e → status_of e ≡ 4 → Takes e → IsStopped print c
  stopped (Stopped text) is (in_job same ends) st w = absurd ends
  stopped (Stopped text) is (in_run job formed read ends) st w = (ends.0, (text.items, w, (is, (job, formed, read, ends.1))))
  stopped Failed is (in_job same ends) st w = absurd ends
  stopped Failed is (in_run job formed read ends) st w =
      (ends.0, (stopped_text, w, (is, (job, formed, read, λ d stands own. stays_part print _ d c.before c.after _ refl (ends.1 d stands own)))))
  stopped e is ends st w = absurd (omega (arith, st))

  unread_of : (e : Ending) → Asks c Run → Does e → status_of e ≡ 5 → Takes e → IsUnread print c
  unread_of Unread is (in_job same ends) st w = (is, same, ends, w)
  unread_of Unread is (in_run job formed read ends) st w = absurd ends
  unread_of e is ends st w = absurd (omega (arith, st))

  no_memory_by : (e : Ending) → Asks c Run → Does e → status_of e ≡ 7 → Takes e → IsWithoutMemory print c
  no_memory_by NoMemory is (in_job same ends) st w = (w, inl same)
  no_memory_by NoMemory is (in_run job formed read ends) st w = (w, inr (is, (job, formed, read, ends)))
  no_memory_by e is ends st w = absurd (omega (arith, st))

  no_memory : (e : Ending) → Comes e → status_of e ≡ 7 → Takes e → IsWithoutMemory print c
  no_memory e (unread same is) st w = (takes (text_of e) (text_of NoMemory) w (ap text_of is), inl same)
  no_memory e (not_asked none same is) st w = absurd (omega (arith, st, ap status_of is))
  no_memory e (asked_for is ends) st w = no_memory_by e is ends st w

  too_long : (e : Ending) → Asks c Run → Does e → status_of e ≡ 8 → Takes e → IsTooLong print c
  too_long TooLong is (in_job same ends) st w = (is, same, ends, w)
  too_long TooLong is (in_run job formed read ends) st w = absurd ends
  too_long e is ends st w = absurd (omega (arith, st))

  -- what has another status than 1 and 7 came of a run that was asked for
  obeyed_of : (e : Ending) (n : ℕ) → Comes e → status_of e ≡ n → (n ≡ 7 → ⊥) → (n ≡ 1 → ⊥) → Asks c Run × Does e
  obeyed_of e n (unread same is) st seven one = absurd (seven (sym st ∙ ap status_of is))
  obeyed_of e n (not_asked none same is) st seven one = absurd (one (sym st ∙ ap status_of is))
  obeyed_of e n (asked_for is ends) st seven one = (is, ends)

  picked : (e : Ended print c) (n : ℕ) → c.status ≡ n → (n ≡ 6 → ⊥) → (status_of e.ending ≡ n) × Takes e.ending
  picked e n is other = ⊎_elim (λ good. (sym good.0 ∙ is, good.1)) (λ failed. absurd (other (sym is ∙ failed.0))) e.told

  -- a run has no refusals
  known_by : (e : Ending) → Does e → status_of e ≤ 9
  known_by (Refused text) (in_job same ends) = absurd ends
  known_by (Refused text) (in_run job formed read ends) = absurd ends
  known_by e ends = omega arith

  known_of : (e : Ending) → Comes e → status_of e ≤ 9
  known_of e (unread same is) = omega (arith, ap status_of is)
  known_of e (not_asked none same is) = omega (arith, ap status_of is)
  known_of e (asked_for is ends) = known_by e ends

pub at_0 : At 0 IsDone
at_0 print c e is =
    let p = picked print c e 0 is (λ six. omega arith) in
    let o = obeyed_of print c e.ending 0 e.answers p.0 (λ seven. omega arith) (λ one. omega arith) in
    done print c e.ending o.0 o.1 p.0 p.1

pub at_2 : At 2 IsBadJob
at_2 print c e is =
    let p = picked print c e 2 is (λ six. omega arith) in
    let o = obeyed_of print c e.ending 2 e.answers p.0 (λ seven. omega arith) (λ one. omega arith) in
    bad_job print c e.ending o.0 o.1 p.0 p.1

pub at_3 : At 3 IsFaulty
at_3 print c e is =
    let p = picked print c e 3 is (λ six. omega arith) in
    let o = obeyed_of print c e.ending 3 e.answers p.0 (λ seven. omega arith) (λ one. omega arith) in
    faulty print c e.ending o.0 o.1 p.0 p.1

pub at_4 : At 4 IsStopped
at_4 print c e is =
    let p = picked print c e 4 is (λ six. omega arith) in
    let o = obeyed_of print c e.ending 4 e.answers p.0 (λ seven. omega arith) (λ one. omega arith) in
    stopped print c e.ending o.0 o.1 p.0 p.1

pub at_5 : At 5 IsUnread
at_5 print c e is =
    let p = picked print c e 5 is (λ six. omega arith) in
    let o = obeyed_of print c e.ending 5 e.answers p.0 (λ seven. omega arith) (λ one. omega arith) in
    unread_of print c e.ending o.0 o.1 p.0 p.1

pub at_8 : At 8 IsTooLong
at_8 print c e is =
    let p = picked print c e 8 is (λ six. omega arith) in
    let o = obeyed_of print c e.ending 8 e.answers p.0 (λ seven. omega arith) (λ one. omega arith) in
    too_long print c e.ending o.0 o.1 p.0 p.1

pub at_1 : At 1 IsUsage
at_1 print c e is =
    let p = picked print c e 1 is (λ six. omega arith) in
    usage print c e.ending e.answers p.0 p.1

pub at_7 : At 7 IsWithoutMemory
at_7 print c e is =
    let p = picked print c e 7 is (λ six. omega arith) in
    no_memory print c e.ending e.answers p.0 p.1

pub at_6 : At 6 IsUnwritten
at_6 print c e is =
    ⊎_elim (λ good. absurd (never_six e.ending (sym good.0 ∙ is))) (λ failed. (failed.1, (e.ending, e.answers, failed.2))) e.told

pub known : (print : Print) (c : Call) → Ended print c → c.status ≤ 9
known print c e =
    ⊎_elim (λ good. subst (λ (n : ℕ). n ≤ 9) (sym good.0) (known_of print c e.ending e.answers)) (λ failed. omega (arith, failed.0)) e.told
