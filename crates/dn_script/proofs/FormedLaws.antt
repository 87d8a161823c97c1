-- Every job is formed.
use Rattle.std.proofs.Common.{
  ◌≡◌,
  ◌≢◌,
  ℕ,
  zero,
  suc,
  ◌+◌,
  ◌≤◌,
  Bool,
  true,
  false,
  cond,
  not,
  ◌||◌,
  eqb,
  List,
  [],
  ◌∷◌,
  ◌++◌,
  Option,
  Some,
  None,
  Result,
  Ok,
  Err,
  refl,
  sym,
  ap,
  ◌∙◌,
  subst,
  inl,
  inr,
  arith,
}
use Rattle.std.specs.List.{All, AllByRecursion, list_any}
use Rattle.std.specs.Option.{option_to_list}
use Rattle.std.specs.Result.{IfOk}
use Rattle.std.specs.Prelude.{nat_lt}
use Rattle.std.proofs.lemmas.Bool.{cond_both, ne_eqb}
use Rattle.std.proofs.lemmas.List.{append-nil}
use Rattle.std.proofs.lemmas.List.Elements.{All-nil, All-cons}
use Rattle.dn_script.specs.declared.job.Job.{Job}
use Rattle.dn_script.specs.declared.job.Line.{Line}
use Rattle.dn_script.specs.declared.job.JobFault.{JobFault}
use Rattle.dn_script.specs.declared.job.JobFault.TheVariants as fault
use Rattle.dn_script.specs.declared.draft.Owned.{Owned}
use Rattle.dn_script.specs.declared.line.JobForm.{JobForm}
use Rattle.dn_script.specs.declared.line.JobForm.TheVariants.{Apply, Replay}
use Rattle.dn_script.specs.declared.line.LineMeaning.{LineMeaning}
use Rattle.dn_script.specs.declared.line.LineMeaning.TheVariants.{Skip, Do, Count, Client, Turns, Bad}
use Rattle.dn_script.specs.Text.{lines}
use Rattle.dn_script.specs.Line.{meaning_of}
use Rattle.dn_script.specs.Job.{
  ◌>>=◌,
  Draft,
  start,
  after_line,
  after_lines,
  lines_of,
  has_lines,
  client_with,
  clients_to,
  is_actor,
  checked,
  stranger_of,
  schedule_of,
  job_of_draft,
  Answers,
}
use Rattle.dn_script.specs.Formed.{Rises, IsAlone, IsJob}
use Rattle.dn_script.proofs.Meanings.{Allows, meaning_allowed}

ok_same : {A : Type 0} (x y : A) → ◌≡◌ {A = Result A JobFault} (Ok x) (Ok y) → x ≡ y
ok_same x y e = cc

-- a chain that ends well
bind_ok : {A B : Type 0} (r : Result A JobFault) (f : A → Result B JobFault) (y : B) → (r >>= f) ≡ Ok y → (x : A) × (r ≡ Ok x) × (f x ≡ Ok y)
bind_ok (Ok x) f y e = (x, refl, e)
bind_ok (Err d) f y e = absurd (cc)

guard_ok : {A : Type 0} (t : Bool) (d : JobFault) (r : Result A JobFault) (y : A) → cond t (Err d) r ≡ Ok y → r ≡ Ok y
guard_ok true d r y e = absurd (cc)
guard_ok false d r y e = e

-- ---- clients rise

rises_above : (low n : ℕ) (cs : List (ℕ × List Line)) → Rises low n cs → Rises low (suc n) cs
rises_above low n [] h = tt
rises_above low n (c ∷ cs) h = (h.0, omega arith, rises_above c.0 n cs h.2)

rises_more : (low n : ℕ) (cs : List (ℕ × List Line)) (own : List Line) → low ≤ n → Rises low n cs → Rises low (suc n) (cs ++ (suc n, own) ∷ [])
rises_more low n [] own below h = (omega arith, omega arith, tt)
rises_more low n (c ∷ cs) own below h = (h.0, omega arith, rises_more c.0 n cs own h.1 h.2)

rises_maybe : (n : ℕ) (cs : List (ℕ × List Line)) (named : List ℕ) (own : List Line) → Rises 0 n cs
    → Rises 0 (suc n) (cs ++ option_to_list (client_with named (suc n) own))
rises_maybe n cs named own h =
    cond_both (list_any (λ m. eqb m (suc n)) named || has_lines own) (Some (suc n, own)) None (λ o. Rises 0 (suc n) (cs ++ option_to_list o))
    (λ _. rises_more 0 n cs own (omega arith) h) (λ _. rw append-nil (rises_above 0 n cs h))

clients_rise : (n : ℕ) (named : List ℕ) (owned : List Owned) → Rises 0 n (clients_to n named owned)
unfolding clients_to
clients_rise zero named owned = tt
clients_rise (suc n) named owned = rises_maybe n (clients_to n named owned) named (lines_of (suc n) owned) (clients_rise n named owned)

-- ---- turns are actors'

strange_cases : (actor : Bool) (n : ℕ) (rest : Option ℕ) → cond (not actor) (Some n) rest ≡ None → (actor ≡ true) × (rest ≡ None)
strange_cases true n rest e = (refl, e)
strange_cases false n rest e = absurd (cc)

none_strange : (clients : List (ℕ × List Line)) (turns : List ℕ) → stranger_of clients turns ≡ None → All (λ n. is_actor clients n ≡ true) turns
none_strange clients [] e = All-nil (λ n. is_actor clients n ≡ true)
none_strange clients (n ∷ ns) e =
    let parts = strange_cases (is_actor clients n) n (stranger_of clients ns) e in
    All-cons (λ m. is_actor clients m ≡ true) n ns parts.0 (none_strange clients ns parts.1)

checked_ok : (stranger : Option ℕ) (turns found : List ℕ) → checked stranger turns ≡ Ok found → (stranger ≡ None) × (turns ≡ found)
checked_ok None turns found e = (refl, ok_same turns found e)
checked_ok (Some n) turns found e = absurd (cc)

-- ---- a form keeps what it allows

abbrev OfClientOne : List Owned → Type 0
OfClientOne os = AllByRecursion (λ (o : Owned). o.who ≡ 1) os

one_more : (os : List Owned) (o : Owned) → OfClientOne os → o.who ≡ 1 → OfClientOne (os ++ o ∷ [])
one_more [] o all e = (e, tt)
one_more (x ∷ os) o all e = (all.0, one_more os o all.1 e)

record Kept (form : JobForm) (d : Draft) : Type 0 where
  current : form ≡ Apply → d.current ≡ 1
  named : form ≡ Apply → d.named ≡ []
  owned : form ≡ Apply → OfClientOne d.owned
  turns : form ≢ Replay → d.turns ≡ []

line_keeps : (form : JobForm) (number : ℕ) (m : LineMeaning) (d e : Draft) → Allows form m → Kept form d → after_line number m d ≡ Ok e → Kept form e
line_keeps form number Skip d e allowed kept said = subst (Kept form) (ok_same d e said) kept
line_keeps form number (Do op weight) d e allowed kept said =
    subst (Kept form) (ok_same _ e (guard_ok (nat_lt 268435456 (d.weight + weight)) fault.TooLong _ e said))
    (record { current = kept.current; named = kept.named; owned = λ a. one_more d.owned _ (kept.owned a) (kept.current a); turns = kept.turns })
line_keeps form number (Count slot) d e allowed kept said =
    subst (Kept form) (ok_same _ e said)
    (record { current = kept.current; named = kept.named; owned = λ a. one_more d.owned _ (kept.owned a) (kept.current a); turns = kept.turns })
line_keeps form number (Client n) d e allowed kept said =
    subst (Kept form) (ok_same _ e said)
    (record { current = λ a. absurd (allowed a); named = λ a. absurd (allowed a); owned = kept.owned; turns = kept.turns })
line_keeps form number (Turns ns) d e allowed kept said =
    subst (Kept form) (ok_same _ e said)
    (record { current = kept.current; named = kept.named; owned = kept.owned; turns = λ ne. absurd (ne allowed) })
line_keeps form number Bad d e allowed kept said = absurd (cc)

lines_keep : (form : JobForm) (number : ℕ) (ls : List (List ℕ)) (d e : Draft) → Kept form d → after_lines form number ls d ≡ Ok e → Kept form e
unfolding after_lines
lines_keep form number [] d e kept said = subst (Kept form) (ok_same d e said) kept
lines_keep form number (line ∷ more) d e kept said =
    let step = bind_ok (after_line number (meaning_of form line) d) (after_lines form (number + 1) more) e said in
    lines_keep form (number + 1) more step.0 e (line_keeps form number (meaning_of form line) d step.0 (meaning_allowed form line) kept step.1) step.2

start_kept : (form : JobForm) → Kept form start
start_kept form = record { current = λ _. refl; named = λ _. refl; owned = λ _. tt; turns = λ _. refl }

-- ---- client 1 is alone

no_lines : (n : ℕ) (os : List Owned) → n ≢ 1 → OfClientOne os → lines_of n os ≡ []
no_lines n [] ne all = refl
no_lines n (o ∷ os) ne all =
    let other : o.who ≢ n = λ e. ne (sym e ∙ all.0) in
    rw (ne_eqb o.who n other) (no_lines n os ne all.1)

alone_to : (n : ℕ) (named : List ℕ) (owned : List Owned) → named ≡ [] → OfClientOne owned → IsAlone (clients_to n named owned)
unfolding clients_to
alone_to zero named owned none all = inl refl
alone_to (suc zero) named owned none all =
    cond_both (list_any (λ m. eqb m 1) named || has_lines (lines_of 1 owned)) (Some (1, lines_of 1 owned)) None (λ o. IsAlone (option_to_list o))
    (λ _. inr (lines_of 1 owned, refl)) (λ _. inl refl)
alone_to (suc (suc n)) named owned none all =
    let k = suc (suc n) in
    let later : k ≢ 1 = omega arith in
    let gone : client_with named k (lines_of k owned) ≡ None =
    ap (λ ns. client_with ns k (lines_of k owned)) none ∙ ap (λ ls. client_with [] k ls) (no_lines k owned later all) in
    subst (λ o. IsAlone (clients_to (suc n) named owned ++ option_to_list o)) (sym gone) (rw append-nil (alone_to (suc n) named owned none all))

-- ---- all of it

draft_formed : (form : JobForm) (text : List ℕ) (d : Draft) (job : Job) → after_lines form 1 (lines text) start ≡ Ok d → job_of_draft d ≡ Ok job
    → IsJob form job
draft_formed form text d job read said =
    let clients = clients_to 14 d.named d.owned in
    let kept = lines_keep form 1 (lines text) start d (start_kept form) read in
    let planned = bind_ok (schedule_of clients d.turns) (λ turns. Ok (record { clients = clients; turns = turns })) job said in
    let fits = checked_ok (stranger_of clients d.turns) d.turns planned.0 planned.1 in
    subst (IsJob form) (ok_same _ job planned.2)
    (record {
      clients = clients_rise 14 d.named d.owned;
      turns = subst (λ ts. All (λ n. is_actor clients n ≡ true) ts) fits.1 (none_strange clients d.turns fits.0);
      alone = λ a. alone_to 14 d.named d.owned (kept.named a) (kept.owned a);
      unscheduled = λ ne. sym fits.1 ∙ kept.turns ne;
    })

pub answer_formed : (form : JobForm) (text : List ℕ) (d : Draft) (result : Result Job JobFault) → after_lines form 1 (lines text) start ≡ Ok d
    → Answers result (job_of_draft d) → IfOk result (IsJob form)
answer_formed form text d (Ok job) read said = draft_formed form text d job read said
answer_formed form text d (Err e) read said = tt
