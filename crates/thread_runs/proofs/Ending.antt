-- What is left of a volume once all threads have ended.
use Rattle.std.proofs.Common.{◌≡◌, ◌⊎◌, inl, inr, ⊎_elim, ℕ, zero, suc, ◌+◌, ◌-◌, ◌<◌, ◌≤◌, Bool, true, false, List, [], ◌∷◌, ◌++◌, length, get_or, refl, sym, ◌∙◌, ap, subst, arith}
use Rattle.std.proofs.Common.{append-nil}
use Rattle.std.proofs.lemmas.Bool.{ne_eqb}
use Rattle.std.specs.Prelude.{Option, Some, None, Result, Ok, Err, slice_get, ◌&&◌, ◌||◌, ◌==◌, if◌then◌else◌, Vec}
use Rattle.std.specs.declared.alloc.Global.{Global}
use Rattle.pm_device.specs.State.{State}
use Rattle.pm_layout.specs.Geometry.{slots}
use Rattle.dn_model.specs.declared.op.Op.{Op}
use Rattle.dn_model.specs.declared.op.Entry.{Entry}
use Rattle.dn_script.specs.declared.job.Line.{Line}
use Rattle.dn_volume.specs.declared.flight.Flight.{Flight}
use Rattle.dn_volume.specs.declared.volume.Volume.{Volume}
use Rattle.dn_volume.specs.Parties.{Flies, flight_of}
use Rattle.dn_volume.specs.Resting.{AllLanded}
use Rattle.dn_core.specs.Rest.{CountsRest}
use Rattle.dn_core.specs.declared.event.Event.TheVariants.{Daemon, Reclaim}
use Rattle.count_board.specs.declared.board.Board.{Board}
use Rattle.count_board.specs.declared.pass.Pass.{Pass}
use Rattle.count_board.specs.declared.told.Hand.{Hand}
use Rattle.count_board.specs.declared.told.Hand.TheVariants.{Fly, Gone}
use Rattle.count_board.specs.declared.told.Mark.{Mark}
use Rattle.count_board.specs.declared.view.Account.{Account}
use Rattle.count_board.specs.declared.view.Seen.{Seen}
use Rattle.count_board.specs.Told.{entries_by, IsPast}
use Rattle.count_board.specs.Reads.{ReadsFit, AllPast}
use Rattle.count_board.specs.Boards.{base_of, IsPassOf, AreItsPasses}
use Rattle.count_board.specs.Passes.{account, IsAway, Leads}
use Rattle.count_board.proofs.Fitting.{counts_fit}
use Rattle.dn_shared.specs.declared.call.CallFault.{CallFault}
use Rattle.dn_shared.specs.declared.call.CallFault.TheVariants as fault
use Rattle.dn_shared.specs.declared.site.Site.{Site}
use Rattle.dn_shared.specs.Ends.{HasCalls, HasNoOthers, HasInHand, HasRead, HasSeenPast, OfEach, AreCountWords, CountsAsTraced, StoppedSince, flying}
use Rattle.dn_shared.specs.Marks.{SaysLast, SaysStopped}
use Rattle.dn_shared.specs.Sites.{hand_in, mark_of, is_deserted, daemon_rests, none_released}
use Rattle.dn_shared.specs.Turns.{IsOver}
use Rattle.dn_shared.proofs.Hands.{of_flies}
use Rattle.dn_shared.proofs.Marked.{past_last}
use Rattle.dn_shared.proofs.Past.{or_cases, and_cases, daemon_rested}
use Rattle.job_runs.specs.Turns.{script_of, entries_of, next_op}
use Rattle.job_runs.specs.Scripts.{ops_of, IsScripted, IsFront}
use Rattle.job_runs.specs.Playing.{FlyNext, IsNew}
use Rattle.job_runs.specs.declared.script.RunFault.TheVariants as run_fault
use Rattle.job_texts.specs.Plan.{ops_in, scripts_in}
use Rattle.thread_runs.specs.declared.reading.Reading.{Reading}
use Rattle.thread_runs.specs.declared.reading.Readings.{Readings}
use Rattle.thread_runs.specs.declared.task.Task.{Task}
use Rattle.thread_runs.specs.Reading.{Pairs, ReadsLines, seen_in}
use Rattle.thread_runs.specs.Threads.{IsReadBy, HasReadings, EndsThreads}
use Rattle.thread_runs.specs.Parts.{Each, FliesFirst, RanOps, ReadAll, SaysOver, Ran, IsRun, IsReadIn, ArePassesOf, NoneFails, RisesTo, lines_by, end_from}
use Rattle.thread_runs.proofs.Lists.{Members, pairs_as}

low_high : false ≡ true → ⊥
low_high e = cc

clash : {A : Type 0} (b : Bool) → b ≡ false → b ≡ true → A
clash b low high = absurd (low_high (sym low ∙ high))

eqb_same : (a b : ℕ) → a ≡ b → (a == b) ≡ true
eqb_same a b is = grind arith

-- the entries of a number, either way
pub entries_same : (who : ℕ) (es : List Entry) → entries_of who es ≡ entries_by who es
entries_same who [] = refl
entries_same who (e ∷ es) = by (entries_same who es) (e.who == who) refl
  where
    by : entries_of who es ≡ entries_by who es → (b : Bool) → (e.who == who) ≡ b → entries_of who (e ∷ es) ≡ entries_by who (e ∷ es)
    by same true is = rw is (ap (λ (l : List Entry). e ∷ l) same)
    by same false is = rw is same

-- the script of a client has the operations of its lines
pub script_lines : (clients : List (ℕ × List Line)) (who : ℕ) → script_of (scripts_in clients) who ≡ ops_in (lines_by who clients)
script_lines [] who = refl
script_lines (c ∷ cs) who = by (script_lines cs who) (c.0 == who) refl
  where
    by : script_of (scripts_in cs) who ≡ ops_in (lines_by who cs) → (b : Bool) → (c.0 == who) ≡ b
        → script_of (scripts_in (c ∷ cs)) who ≡ ops_in (lines_by who (c ∷ cs))
    by same true is = rw is refl
    by same false is = rw is same

-- a number beyond the last has no lines
pub lines_beyond : (last low : ℕ) (clients : List (ℕ × List Line)) (who : ℕ) → RisesTo last low clients → (who ≤ low) ⊎ (last < who)
    → lines_by who clients ≡ []
lines_beyond last low [] who rises out = refl
lines_beyond last low (c ∷ cs) who rises out =
    ap (λ (b : Bool). if b then c.1 else lines_by who cs) (ne_eqb c.0 who not)
    ∙ lines_beyond last c.0 cs who rises.2 (⊎_elim (λ (le : who ≤ low). let lt = rises.0 in inl (omega (arith, le, lt))) (λ (lt : last < who). inr lt) out)
  where
    not : c.0 ≡ who → ⊥
    not e = let lt = rises.0 in let le = rises.1 in
        ⊎_elim (λ (down : who ≤ low). omega (arith, down, lt, e)) (λ (up : last < who). omega (arith, up, le, e)) out

-- each client's lines are those of its number
record IsClientOf (last : ℕ) (clients : List (ℕ × List Line)) (c : ℕ × List Line) : Type 0 where
  some : 1 ≤ c.0
  few : c.0 ≤ last
  lines : lines_by c.0 clients ≡ c.1

clients_are : (last low : ℕ) (all cs : List (ℕ × List Line)) → RisesTo last low cs
    → ((who : ℕ) → low < who → lines_by who all ≡ lines_by who cs) → Members (IsClientOf last all) cs
clients_are last low all [] rises same = tt
clients_are last low all (c ∷ cs) rises same = (
  record {
    some = let lt = rises.0 in omega (arith, lt);
    few = rises.1;
    lines = same c.0 rises.0 ∙ ap (λ (b : Bool). if b then c.1 else lines_by c.0 cs) (eqb_same c.0 c.0 refl);
  },
  clients_are last c.0 all cs rises.2 (λ who lt. let low_lt = rises.0 in same who (omega (arith, lt, low_lt))
      ∙ ap (λ (b : Bool). if b then c.1 else lines_by who cs) (ne_eqb c.0 who (λ e. omega (arith, e, lt)))),
)

-- a list that isn't empty has a first member
abbrev some_member : {A : Type 0} (xs : List A) → 0 < length xs → A
some_member [] lt = absurd (omega (arith, lt))
some_member (x ∷ xs) lt = x

hand_none : (f : Option Flight) → hand_in f ≡ None → (g : Flight) → f ≡ Some g → ⊥
hand_none None none g is = cc
hand_none (Some h) none g is = cc

fly_clash : (f : Option Flight) (g : Flight) → f ≡ Some g → hand_in f ≡ None → ⊥
fly_clash f g is none = hand_none f none g is

flying_of : (h : Option Hand) (op : Op) → flying h ≡ Some (Fly op) → h ≡ Some (Fly op)
flying_of None op is = cc
flying_of (Some (Fly o)) op is = is
flying_of (Some Gone) op is = cc

one_op : (a b : Op) → Some (Fly a) ≡ Some (Fly b) → a ≡ b
one_op a b e = cc

none_fly : (op : Op) → None ≡ Some (Fly op) → ⊥
none_fly op e = cc

got_next : (xs : List Entry) (op : Op) (rest : List Op) → slice_get (ops_of xs ++ op ∷ rest) (length xs) ≡ Some op
got_next [] op rest = refl
got_next (x ∷ xs) op rest = got_next xs op rest

module _ {D F : Type 0} (b : Board (Site D F)) (last : ℕ) (clients : List (ℕ × List Line)) (tasks : List (Task D F)) (passes : List (Pass (Site D F)))
    (many : length tasks ≡ last + 2) (many' : length passes ≡ last + 2)
    (ran : Each (λ i t. IsRun b (slots (base_of b).volume.parts.geometry) last clients (last + 2 - i) t) tasks)
    (are : ArePassesOf (last + 2) tasks passes) where
  abbrev any_task : Task D F
  any_task = some_member tasks (omega (arith, many))

  abbrev any_pass : Pass (Site D F)
  any_pass = any_task.pass

  abbrev Slots : ℕ
  Slots = slots (base_of b).volume.parts.geometry

  -- the task of number k
  abbrev task : ℕ → Task D F
  task k = get_or tasks (last + 2 - k) any_task

  ran_at : (k : ℕ) → 1 ≤ k → k ≤ last + 2 → IsRun b Slots last clients k (task k)
  ran_at k some few = subst (λ (n : ℕ). IsRun b Slots last clients n (task k)) (omega (arith, some, few))
      (ran (last + 2 - k) any_task (omega (arith, many, some, few)))

  -- and its pass
  pass_is : (i : ℕ) (d : Pass (Site D F)) → i < last + 2 → get_or passes i d ≡ (task (i + 1)).pass
  pass_is i d lt = are i d (omega (arith, lt, many')) any_task
      ∙ ap (λ (k : ℕ). (get_or tasks k any_task).pass) (omega (arith, lt))

  pub all_passes : AreItsPasses b passes
  all_passes = record {
    each = λ i d lt. let lt' : i < last + 2 = omega (arith, lt, many') in
        let r = ran_at (i + 1) (omega arith) (omega (arith, lt')) in
        subst (λ (p : Pass (Site D F)). IsPassOf b p × IsAway p × Leads (length passes) p) (sym (pass_is i d lt'))
        (r.own, r.away, λ one. r.leads one ∙ sym many');
    first = (0, (omega (arith, many'), λ d. ap (λ (p : Pass (Site D F)). (account p).number) (pass_is 0 d (omega arith)) ∙ (ran_at 1 (omega arith) (omega arith)).number));
  }

  module _ (v : Volume D F) (gone : List Bool) (calls : OfEach (HasCalls v) passes) (others : HasNoOthers v (length passes))
      (hands : OfEach (HasInHand v) passes) (reads : OfEach (HasRead (base_of b).opening.items v) passes)
      (marks : OfEach (HasSeenPast gone v) passes) (rises : RisesTo last 0 clients) where
    -- what is known of the account of number k
    record Settled (k : ℕ) (t : Task D F) : Type 0 where
      entries : entries_by k v.parts.history.items ≡ (account t.pass).calls
      hand : hand_in (flight_of v.parts k) ≡ flying (account t.pass).hand
      fits : ReadsFit (base_of b).opening.items v.parts.trace.items (account t.pass).seen
      past : AllPast (mark_of gone v.parts) (account t.pass).seen
      part : Ran Slots last clients k (account t.pass) t.readings.items t.result

    settled_at : (i : ℕ) → i < last + 2 → Settled (i + 1) (task (i + 1))
    settled_at i lt =
        let r = ran_at (i + 1) (omega arith) (omega (arith, lt)) in
        let lt' : i < length passes = omega (arith, lt, many') in
        let is : get_or passes i any_pass ≡ (task (i + 1)).pass = pass_is i any_pass lt in
        record {
          entries = subst (λ (k : ℕ). entries_by k v.parts.history.items ≡ (account (task (i + 1)).pass).calls) r.number
              (subst (λ (p : Pass (Site D F)). HasCalls v (account p)) is (calls i any_pass lt'));
          hand = subst (λ (k : ℕ). hand_in (flight_of v.parts k) ≡ flying (account (task (i + 1)).pass).hand) r.number
              (subst (λ (p : Pass (Site D F)). HasInHand v (account p)) is (hands i any_pass lt'));
          fits = subst (λ (p : Pass (Site D F)). HasRead (base_of b).opening.items v (account p)) is (reads i any_pass lt');
          past = subst (λ (p : Pass (Site D F)). HasSeenPast gone v (account p)) is (marks i any_pass lt');
          part = r.ran;
        }

    settled : (k : ℕ) → 1 ≤ k → k ≤ last + 2 → Settled k (task k)
    settled k some few = subst (λ (n : ℕ). Settled n (task n)) (omega (arith, some)) (settled_at (k - 1) (omega (arith, some, few)))

    -- a number is one of theirs, or it isn't
    where_is : (who : ℕ) → ((1 ≤ who) × (who ≤ last + 2)) ⊎ ((length passes < who) ⊎ (who ≡ 0))
    where_is zero = inr (inr refl)
    where_is (suc k) = ⊎_elim (λ (le : suc k ≤ last + 2). inl (omega arith, le)) (λ (lt : last + 2 < suc k). inr (inl (omega (arith, lt, many'))))
        (le_or (suc k) (last + 2))
      where
        le_or : (a b : ℕ) → (a ≤ b) ⊎ (b < a)
        le_or zero b = inl (omega arith)
        le_or (suc a) zero = inr (omega arith)
        le_or (suc a) (suc b) = ⊎_elim (λ (le : a ≤ b). inl (omega (arith, le))) (λ (lt : b < a). inr (omega (arith, lt))) (le_or a b)

    -- what a mark that was seen last says is so
    past_of : (a : Account) → AllPast (mark_of gone v.parts) a.seen → (P : Mark → Type 0) (says : SaysLast a P)
        → IsPast says.0 (mark_of gone v.parts)
    past_of a past P says = past_last (mark_of gone v.parts) a.seen None (λ m e. absurd (none_mark m e)) past says.0 says.1
      where
        none_mark : (m : Mark) → None ≡ Some m → ⊥
        none_mark m e = cc

    not_stopped : v.parts.stopped ≡ false → (k : ℕ) (t : Task D F) → Settled k t → SaysStopped (account t.pass) → ⊥
    not_stopped running k t s says =
        clash v.parts.stopped running ((past_of (account t.pass) s.past (λ mark. mark.stopped ≡ true) says).stops says.2)

    -- the entries of a number are those of its script so far
    front_of : (k : ℕ) (a : Account) (r : Result (Unit {0}) CallFault) (ops : List Op) (end : Option Hand) → RanOps ops end a r
        → (rest : List Op) × (ops ≡ ops_of a.calls ++ rest)
    front_of k a (Ok done) ops end is = ([], sym is.0 ∙ sym (append-nil (ops_of a.calls)))
    front_of k a (Err fault.NoMemory) ops end is = (is.0, is.1)
    front_of k a (Err fault.Stopped) ops end is = (is.0, is.1)

    abbrev Scripts : List (ℕ × List Op)
    Scripts = scripts_in clients

    abbrev Entries : List Entry
    Entries = v.parts.history.items

    entries_at : (k : ℕ) (t : Task D F) → Settled k t → entries_of k Entries ≡ (account t.pass).calls
    entries_at k t s = entries_same k Entries ∙ s.entries

    pub fronts : IsFront Scripts Entries
    fronts = record { each = at }
      where
        at : (who : ℕ) → (rest : List Op) × (script_of Scripts who ≡ ops_of (entries_of who Entries) ++ rest)
        at who = ⊎_elim
            (λ inside. let s = settled who inside.0 inside.1 in
            let f = front_of who (account (task who).pass) (task who).result (ops_in (lines_by who clients)) s.part.hand s.part.ops in
            (f.0, script_lines clients who ∙ (f.1 ∙ ap (λ (es : List Entry). ops_of es ++ f.0) (sym (entries_at who (task who) s)))))
            (λ outside. (
              script_of Scripts who,
              ap (λ (es : List Entry). ops_of es ++ script_of Scripts who) (sym (entries_same who Entries ∙ (others who outside).0)),
            ))
            (where_is who)

    -- what a number has in flight follows its entries
    flies_of : (a : Account) (r : Result (Unit {0}) CallFault) (ops : List Op) (end : Option Hand) (op : Op) → flying end ≡ None
        → RanOps ops end a r → a.hand ≡ Some (Fly op) → (rest : List Op) × (ops ≡ ops_of a.calls ++ op ∷ rest)
    flies_of a (Ok done) ops end op lands is flies = absurd (none_fly op (sym lands ∙ ap flying (sym is.1 ∙ flies)))
    flies_of a (Err fault.NoMemory) ops end op lands is flies = absurd (none_fly op (sym lands ∙ ap flying (sym is.2 ∙ flies)))
    flies_of a (Err fault.Stopped) ops end op lands is flies = by is.3
      where
        by : FliesFirst is.0 a.hand → (rest : List Op) × (ops ≡ ops_of a.calls ++ op ∷ rest)
        by (inl none) = absurd (none_fly op (sym none ∙ flies))
        by (inr (first, rest, are, held)) = (
          rest,
          is.1 ∙ ap (λ (l : List Op). ops_of a.calls ++ l) (are ∙ ap (λ (o : Op). o ∷ rest) (one_op first op (sym held ∙ flies))),
        )

    pub flies_next : FlyNext Scripts v.parts
    flies_next = record { next = at }
      where
        inside : (who : ℕ) (f : Flight) → flight_of v.parts who ≡ Some f → Settled who (task who) → next_op Scripts Entries who ≡ Some f.op
        inside who f is s =
            let a = account (task who).pass in
            let flies : a.hand ≡ Some (Fly f.op) = flying_of a.hand f.op (sym s.hand ∙ ap hand_in is) in
            let after = flies_of a (task who).result (ops_in (lines_by who clients)) s.part.hand f.op s.part.lands s.part.ops flies in
            ap (λ (es : List Entry). slice_get (script_of Scripts who) (length es)) (entries_at who (task who) s)
            ∙ (ap (λ (ops : List Op). slice_get ops (length a.calls)) (script_lines clients who ∙ after.1)
            ∙ got_next a.calls f.op after.0)

        at : (who : ℕ) (f : Flight) → Flies v.parts who f → next_op Scripts Entries who ≡ Some f.op
        at who f flies =
            let is = of_flies v.parts who f flies in
            ⊎_elim (λ there. inside who f is (settled who there.0 there.1))
            (λ outside. absurd (none_some f (sym (others who outside).1 ∙ is))) (where_is who)
          where
            none_some : (g : Flight) → None ≡ Some g → ⊥
            none_some g e = cc

    module _ (running : v.parts.stopped ≡ false) where
      -- nothing is in hand
      free_of : (k : ℕ) (t : Task D F) → Settled k t → flying (account t.pass).hand ≡ None
      free_of k t s = by t.result s.part.ops
        where
          by : (r : Result (Unit {0}) CallFault) → RanOps (ops_in (lines_by k clients)) s.part.hand (account t.pass) r
              → flying (account t.pass).hand ≡ None
          by (Ok done) is = ap flying is.1 ∙ s.part.lands
          by (Err fault.NoMemory) is = ap flying is.2 ∙ s.part.lands
          by (Err fault.Stopped) is = absurd (not_stopped running k t s is.2)

      pub landed : AllLanded v.parts
      landed who f flies =
          let is = of_flies v.parts who f flies in
          ⊎_elim
          (λ there. let s = settled who there.0 there.1 in fly_clash (flight_of v.parts who) f is (s.hand ∙ free_of who (task who) s))
          (λ outside. none_some f (sym (others who outside).1 ∙ is)) (where_is who)
        where
          none_some : (g : Flight) → None ≡ Some g → ⊥
          none_some g e = cc

      module _ (whole : NoneFails 0 tasks) where
        ok : (k : ℕ) → 1 ≤ k → k ≤ last + 2 → (task k).result ≡ Ok tt
        ok k some few = whole (last + 2 - k) any_task (omega arith) (omega (arith, many, some, few))

        pub scripted : IsScripted Scripts Entries
        scripted = record { each = at }
          where
            inside : (who : ℕ) → Settled who (task who) → (task who).result ≡ Ok tt → ops_of (entries_of who Entries) ≡ script_of Scripts who
            inside who s is =
                ap ops_of (entries_at who (task who) s)
                ∙ ((subst (λ (r : Result (Unit {0}) CallFault). RanOps (ops_in (lines_by who clients)) s.part.hand (account (task who).pass) r)
                is s.part.ops).0 ∙ sym (script_lines clients who))

            out : (who : ℕ) → (length passes < who) ⊎ (who ≡ 0) → (who ≤ 0) ⊎ (last < who)
            out who (inl lt) = inr (omega (arith, lt, many'))
            out who (inr is) = inl (omega (arith, is))

            at : (who : ℕ) → ops_of (entries_of who Entries) ≡ script_of Scripts who
            at who = ⊎_elim (λ there. inside who (settled who there.0 there.1) (ok who there.0 there.1))
                (λ outside. ap ops_of (entries_same who Entries ∙ (others who outside).0)
                ∙ (sym (ap ops_in (lines_beyond last 0 clients who rises (out who outside))) ∙ sym (script_lines clients who))) (where_is who)

        -- the daemon and reclaim are over
        says_over : (Over : Mark → Type 0) (k : ℕ) (t : Task D F) → SaysOver Over (account t.pass) t.result → t.result ≡ Ok tt
            → SaysLast (account t.pass) Over
        says_over Over k t says is = subst (λ (r : Result (Unit {0}) CallFault). SaysOver Over (account t.pass) r) is says

        over_rests : (rest : Bool) → (v.parts.stopped || (is_deserted gone v.parts && rest)) ≡ true → rest ≡ true
        over_rests rest over = ⊎_elim (λ (is : v.parts.stopped ≡ true). clash v.parts.stopped running is)
            (λ two. (and_cases (is_deserted gone v.parts) rest two).1)
            (or_cases v.parts.stopped (is_deserted gone v.parts && rest) over)

        waits_none : (n : ℕ) → (n == 0) ≡ true → n ≡ 0
        waits_none n is = grind (arith, is)

        daemon_over : (mark_of gone v.parts).daemon_over ≡ true
        daemon_over =
            let k = last + 1 in
            let s = settled k (omega arith) (omega arith) in
            let says = says_over (IsOver Daemon) k (task k) (s.part.daemon refl) (ok k (omega arith) (omega arith)) in
            (past_of (account (task k).pass) s.past (IsOver Daemon) says).daemon says.2

        counts_over : (mark_of gone v.parts).counts_over ≡ true
        counts_over =
            let k = last + 2 in
            let s = settled k (omega arith) (omega arith) in
            let says = says_over (IsOver Reclaim) k (task k) (s.part.reclaim refl) (ok k (omega arith) (omega arith)) in
            (past_of (account (task k).pass) s.past (IsOver Reclaim) says).counts says.2.0

        pub rests : CountsRest v.parts
        rests = record {
          daemon = daemon_rested v.parts (over_rests (daemon_rests v.parts) daemon_over);
          none_waits = waits_none v.parts.reclaiming.waiting (over_rests (none_released v.parts) counts_over);
        }

        read_by : (c : ℕ × List Line) (r : Readings) → IsClientOf last clients c → IsReadIn (last + 2) tasks c r
            → IsReadBy Slots (base_of b).opening.items v.parts.trace.items c r
        read_by c r is own =
            let k = c.0 in
            let few : k ≤ last + 2 = let le = is.few in omega (arith, le) in
            let s = settled k is.some few in
            let done : ReadAll Slots (lines_by k clients) (account (task k).pass) (task k).readings.items (Ok tt) =
            subst (λ (x : Result (Unit {0}) CallFault). ReadAll Slots (lines_by k clients) (account (task k).pass) (task k).readings.items x)
            (ok k is.some few) (s.part.reads is.few) in
            let same : (task k).readings.items ≡ r.readings.items = sym (own.own any_task) in
            record {
              who = own.who;
              lines = subst (λ (l : List Reading). ReadsLines Slots c.1 l) same
                  (subst (λ (l : List Line). ReadsLines Slots l (task k).readings.items) is.lines done.0);
              fits = subst (λ (l : List Reading). ReadsFit (base_of b).opening.items v.parts.trace.items (seen_in l)) same
                  (subst (λ (l : List Seen). ReadsFit (base_of b).opening.items v.parts.trace.items l) done.1
                  (counts_fit (base_of b).opening.items v.parts.trace.items (account (task k).pass).seen s.fits));
            }

        pub readings_are : (rs : List Readings) → Pairs (IsReadIn (last + 2) tasks) clients rs
            → HasReadings Slots (base_of b).opening.items v.parts.trace.items clients rs
        readings_are rs pairs = pairs_as (IsClientOf last clients) (IsReadIn (last + 2) tasks)
            (IsReadBy Slots (base_of b).opening.items v.parts.trace.items) read_by clients rs
            (clients_are last 0 clients clients rises (λ who lt. refl)) pairs

    -- the end of the run
    pub ends : (state : D → State) → AreCountWords state (base_of b).volume (base_of b).opening.items
        → StoppedSince state (base_of b).volume v → CountsAsTraced state (base_of b).opening.items v
        → (whole : Bool) → (whole ≡ true → NoneFails 0 tasks) → (rs : Vec Readings Global)
        → Pairs (IsReadIn (last + 2) tasks) clients rs.items
        → EndsThreads state clients (base_of b).volume v (end_from v.parts.stopped whole rs)
    ends state words since counts whole none rs pairs = by v.parts.stopped refl whole none
      where
        by : (stopped : Bool) → v.parts.stopped ≡ stopped → (w : Bool) → (w ≡ true → NoneFails 0 tasks)
            → EndsThreads state clients (base_of b).volume v (end_from stopped w rs)
        by true is w fails = (since is, fronts, flies_next)
        by false is true fails = record {
          scripted = scripted is (fails refl);
          landed = landed is;
          running = is;
          rests = rests is (fails refl);
          words = (base_of b).opening.items;
          opening = words;
          reads = readings_are is (fails refl) rs.items pairs;
          counts = counts;
        }
        by false is false fails = (fronts, landed is, is)

-- before anything is run
pub ends_none : {D F : Type 0} (state : D → State) (clients : List (ℕ × List Line)) (u : Volume D F) → IsNew u.parts
    → EndsThreads state clients u u (Err run_fault.NoMemory)
ends_none state clients u new = (
  record {
    each = λ who. (
      script_of (scripts_in clients) who,
      ap (λ (es : List Entry). ops_of (entries_of who es) ++ script_of (scripts_in clients) who) (sym new.history),
    );
  },
  new.landed,
  new.running,
)
