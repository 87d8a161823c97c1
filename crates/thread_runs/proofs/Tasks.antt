-- Tasks are made of passes, and taken apart again.
use Rattle.std.proofs.Common.{◌≡◌, ◌⊎◌, inl, inr, ⊎_elim, ℕ, zero, suc, ◌+◌, ◌-◌, ◌<◌, ◌≤◌, le_refl, Bool, true, false, List, [], ◌∷◌, ◌++◌, length, get_or, drop, refl, sym, ◌∙◌, ap, subst, arith}
use Rattle.std.proofs.Common.{append-nil}
use Rattle.std.proofs.Math.Seq.{get_or-append_seam}
use Rattle.std.proofs.lemmas.List.{append_assoc}
use Rattle.std.proofs.lemmas.Option.{slice_get_within, get_or_from_slice_get}
use Rattle.std.specs.Prelude.{Option, Some, None, Ok, slice_get, ◌==◌, Vec}
use Rattle.std.specs.declared.alloc.Global.{Global}
use Rattle.dn_script.specs.declared.job.Line.{Line}
use Rattle.count_board.specs.declared.board.Board.{Board}
use Rattle.count_board.specs.declared.pass.Pass.{Pass}
use Rattle.count_board.specs.Boards.{place_of, base_of, AreNewPasses}
use Rattle.count_board.specs.Passes.{account, AreFresh}
use Rattle.count_board.specs.Kept.{new_account}
use Rattle.dn_shared.specs.declared.site.Site.{Site}
use Rattle.job_runs.specs.Scripts.{Rises}
use Rattle.job_texts.specs.Plan.{scripts_in}
use Rattle.thread_runs.specs.declared.reading.Reading.{Reading}
use Rattle.thread_runs.specs.declared.reading.Readings.{Readings}
use Rattle.thread_runs.specs.declared.task.Task.{Task}
use Rattle.thread_runs.specs.Reading.{Pairs}
use Rattle.thread_runs.specs.Parts.{Each, IsNewPass, IsStart, IsNumbered, IsReadIn, ArePassesOf, NoneFails, RisesTo, noted_in, noted_if}
use Rattle.thread_runs.proofs.Lists.{each_none, each_front, each_end, each_more, length_more}

module _ {D F : Type 0} where
  fresh_each : (b : Board (Site D F)) (made n : ℕ) (ps : List (Pass (Site D F))) → 2 ≤ n → AreFresh (place_of b) (base_of b) n ps
      → Each (λ i p. IsNewPass b made (n + i) p) ps
  fresh_each b made n [] low f i d lt = absurd (omega (arith, lt))
  fresh_each b made n (p ∷ ps) low f zero d lt = record {
    own = (f.0.0, ap (λ v. v.base) f.0.1);
    away = ap (λ v. v.stage) f.0.1;
    leads = λ one. let number : (account p).number ≡ n = ap (λ v. v.own.number) f.0.1 in absurd (omega (arith, one, number, low));
    account_is = ap (λ v. v.own) f.0.1 ∙ ap new_account (omega arith);
  }
  fresh_each b made n (p ∷ ps) low f (suc i) d lt =
      subst (λ (k : ℕ). IsNewPass b made k (get_or ps i d)) (omega arith)
      (fresh_each b made (n + 1) ps (omega (arith, low)) f.1 i d (omega (arith, lt)))

  -- the passes of a new board are new, and have their numbers
  pub new_passes : (b : Board (Site D F)) (n : ℕ) (ps : List (Pass (Site D F))) → AreNewPasses b n ps
      → (length ps ≡ n) × Each (λ i p. IsNewPass b n (i + 1) p) ps
  new_passes b n ps dealt = (
    ap length dealt.passes_are ∙ (omega arith ∙ dealt.many),
    subst (λ (l : List (Pass (Site D F))). Each (λ i p. IsNewPass b n (i + 1) p) l) (sym dealt.passes_are) at,
  )
    where
      at : Each (λ i p. IsNewPass b n (i + 1) p) (dealt.first ∷ dealt.rest)
      at zero d lt = let is = dealt.own.1 in record {
        own = (dealt.own.0, ap (λ v. v.base) is);
        away = ap (λ v. v.stage) is;
        leads = λ one. ap (λ v. v.lead) is;
        account_is = ap (λ v. v.own) is;
      }
      at (suc i) d lt = subst (λ (k : ℕ). IsNewPass b n k (get_or dealt.rest i d)) (omega arith)
          (fresh_each b n 2 dealt.rest (omega arith) dealt.others i d (omega (arith, lt)))

  -- so many passes have become tasks
  pub record MakesTasks (b : Board (Site D F)) (n : ℕ) (passes : List (Pass (Site D F))) (tasks : List (Task D F)) : Type 0 where
    pub many : length passes + length tasks ≡ n
    pub new : Each (λ i p. IsNewPass b n (i + 1) p) passes
    pub started : Each (λ i t. IsStart b n (n - i) t) tasks

  pub makes_none : (b : Board (Site D F)) (n : ℕ) (ps : List (Pass (Site D F))) (ts : List (Task D F)) → AreNewPasses b n ps → ts ≡ []
      → MakesTasks b n ps ts
  makes_none b n ps ts dealt none = let fresh = new_passes b n ps dealt in record {
    many = let long = fresh.0 in let is = ap length none in omega (arith, long, is);
    new = fresh.1;
    started = subst (λ (l : List (Task D F)). Each (λ i t. IsStart b n (n - i) t) l) (sym none) (each_none (λ i t. IsStart b n (n - i) t));
  }

  pub makes_one : (b : Board (Site D F)) (n : ℕ) (ps ps' : List (Pass (Site D F))) (ts ts' : List (Task D F)) (p : Pass (Site D F))
      (t : Task D F) → ps ≡ ps' ++ p ∷ [] → ts' ≡ ts ++ t ∷ [] → t.pass ≡ p → t.readings.items ≡ [] → t.result ≡ Ok tt
      → MakesTasks b n ps ts → MakesTasks b n ps' ts'
  makes_one b n ps ps' ts ts' p t was is pass none ok so =
      let New : ℕ → Pass (Site D F) → Type 0 = λ i q. IsNewPass b n (i + 1) q in
      let Starts : ℕ → Task D F → Type 0 = λ i u. IsStart b n (n - i) u in
      let long = ap length was ∙ length_more ps' p in
      let long' = ap length is ∙ length_more ts t in
      let each : Each New (ps' ++ p ∷ []) = subst (Each New) was so.new in
      let many = so.many in
      record {
        many = omega (arith, many, long, long');
        new = each_front New ps' p each;
        started = subst (Each Starts) (sym is) (each_more Starts ts t so.started (record {
          pass = subst (λ (q : Pass (Site D F)). IsNewPass b n (n - length ts) q) (sym pass)
              (subst (λ (k : ℕ). IsNewPass b n k p) (omega (arith, many, long)) (each_end New ps' p each));
          readings = none;
          ok = ok;
        }));
      }

-- what stands at a place
abbrev Here : {A : Type 0} → Option A → List A → ℕ → Type 0
Here None xs i = drop i xs ≡ []
Here (Some x) xs i = drop i xs ≡ x ∷ drop (suc i) xs

here_at : {A : Type 0} (xs : List A) (i : ℕ) → Here (slice_get xs i) xs i
here_at [] zero = refl
here_at [] (suc i) = refl
here_at (x ∷ xs) zero = refl
here_at {A} (x ∷ xs) (suc i) = by (slice_get xs i) (here_at xs i)
  where
    by : (o : Option A) → Here o xs i → Here o (x ∷ xs) (suc i)
    by None is = is
    by (Some y) is = is

module _ {D F : Type 0} (n last : ℕ) (clients : List (ℕ × List Line)) (all : List (Task D F)) where
  -- Tasks have been taken apart, from the last one on.
  pub record GathersSo (tasks : List (Task D F)) (passes : List (Pass (Site D F))) (readings : List Readings) (whole : Bool) : Type 0 where
    pub back : List (Task D F)
    pub all_are : all ≡ tasks ++ back
    pub many : length passes + length tasks ≡ n
    pub passes_are : ArePassesOf n all passes
    pub none_fails : whole ≡ true → NoneFails (length tasks) all
    pub rises : RisesTo last (length passes) (drop (length readings) clients)
    pub reads : (rest : List Readings) → Pairs (IsReadIn n all) (drop (length readings) clients) rest
        → Pairs (IsReadIn n all) clients (readings ++ rest)

  pub gathers_none : (passes : List (Pass (Site D F))) (readings : List Readings) → passes ≡ [] → readings ≡ [] → length all ≡ n
      → RisesTo last 0 clients → GathersSo all passes readings true
  gathers_none passes readings no_pass no_reading long rises = record {
    back = [];
    all_are = sym (append-nil all);
    many = let none = ap length no_pass in omega (arith, none, long);
    passes_are = subst (ArePassesOf n all) (sym no_pass) (each_none (λ i p. (d : Task D F) → p ≡ (get_or all (n - 1 - i) d).pass));
    none_fails = λ is j d from to. absurd (omega (arith, from, to));
    rises = subst (λ (l : List (Pass (Site D F))). RisesTo last (length l) (drop (length readings) clients)) (sym no_pass)
        (subst (λ (l : List Readings). RisesTo last 0 (drop (length l) clients)) (sym no_reading) rises);
    reads = subst (λ (l : List Readings). (rest : List Readings) → Pairs (IsReadIn n all) (drop (length l) clients) rest
        → Pairs (IsReadIn n all) clients (l ++ rest)) (sym no_reading) (λ rest h. h);
  }

  module _ (long : length all ≡ n) (numbers : Each (IsNumbered n) all) (tasks tasks' : List (Task D F)) (passes passes' : List (Pass (Site D F)))
      (readings readings' : List Readings) (whole whole' : Bool) (t : Task D F) (own : Vec Reading Global) (who : ℕ)
      (popped : tasks ≡ tasks' ++ t ∷ []) (pushed : passes' ≡ passes ++ t.pass ∷ [])
      (noted : readings' ≡ noted_in clients readings who own) (own_is : own ≡ t.readings) (who_is : who ≡ (account t.pass).number)
      (kept : whole' ≡ true → (whole ≡ true) × (t.result ≡ Ok tt))
      (so : GathersSo tasks passes readings whole) where
    split : all ≡ tasks' ++ t ∷ so.back
    split = so.all_are ∙ (ap (λ (l : List (Task D F)). l ++ so.back) popped ∙ append_assoc tasks' (t ∷ []) so.back)

    place : (d : Task D F) → get_or all (length tasks') d ≡ t
    place d = ap (λ (l : List (Task D F)). get_or l (length tasks') d) split ∙ get_or-append_seam tasks' t so.back d

    counted : length passes + (length tasks' + 1) ≡ n
    counted = let many = so.many in let more = ap length popped ∙ length_more tasks' t in omega (arith, many, more)

    number : who ≡ length passes + 1
    number = let is : (account t.pass).number ≡ n - length tasks' =
        ap (λ (u : Task D F). (account u.pass).number) (sym (place t)) ∙ numbers (length tasks') t (omega (arith, counted, long)) in
        omega (arith, who_is, is, counted)

    long_passes : length passes' ≡ length passes + 1
    long_passes = ap length pushed ∙ length_more passes t.pass

    Placed : ℕ → Pass (Site D F) → Type 0
    Placed i p = (d : Task D F) → p ≡ (get_or all (n - 1 - i) d).pass

    passes_then : ArePassesOf n all passes'
    passes_then = subst (λ (l : List (Pass (Site D F))). ArePassesOf n all l) (sym pushed)
        (each_more (λ i p. (d : Task D F) → p ≡ (get_or all (n - 1 - i) d).pass) passes t.pass so.passes_are
        (λ d. ap (λ (u : Task D F). u.pass) (sym (place d))
        ∙ ap (λ (k : ℕ). (get_or all k d).pass) (omega (arith, counted))))

    whole_then : whole' ≡ true → NoneFails (length tasks') all
    whole_then is j d from to =
        let two = kept is in
        let more = ap length popped ∙ length_more tasks' t in
        ⊎_elim
        (λ (same : j ≡ length tasks'). ap (λ (k : ℕ). (get_or all k d).result) same ∙ (ap (λ (u : Task D F). u.result) (place d) ∙ two.1))
        (λ (after : length tasks' < j). so.none_fails two.0 j d (omega (arith, after, more)) to)
        (same_or_after (length tasks') j from)
      where
        same_or_after : (a b : ℕ) → a ≤ b → (b ≡ a) ⊎ (a < b)
        same_or_after zero zero le = inl refl
        same_or_after zero (suc b) le = inr (omega arith)
        same_or_after (suc a) zero le = absurd (omega (arith, le))
        same_or_after (suc a) (suc b) le = ⊎_elim (λ (is : b ≡ a). inl (ap suc is)) (λ (lt : a < b). inr (omega (arith, lt)))
            (same_or_after a b (omega (arith, le)))

    -- what is read of the clients that are left
    record Notes (rs : List Readings) : Type 0 where
      rises : RisesTo last (length passes + 1) (drop (length rs) clients)
      reads : (rest : List Readings) → Pairs (IsReadIn n all) (drop (length rs) clients) rest
          → Pairs (IsReadIn n all) clients (rs ++ rest)

    read_then : (c : ℕ × List Line) → c.0 ≡ who → IsReadIn n all c (record { who = who; readings = own })
    read_then c is = record {
      who = sym is;
      own = λ d. ap (λ (v : Vec Reading Global). v.items) own_is
          ∙ (ap (λ (u : Task D F). u.readings.items) (sym (place d))
          ∙ ap (λ (k : ℕ). (get_or all k d).readings.items) (omega (arith, counted, number, is)));
    }

    notes_client : (c : ℕ × List Line) → drop (length readings) clients ≡ c ∷ drop (suc (length readings)) clients
        → (b : Bool) → (c.0 == who) ≡ b → Notes (noted_if (Some c) readings who own)
    notes_client c here true is = rw is (record {
      rises = subst (λ (k : ℕ). RisesTo last (length passes + 1) (drop k clients)) (sym more)
          (subst (λ (k : ℕ). RisesTo last k (drop (suc (length readings)) clients)) (omega (arith, same, number)) risen.2);
      reads = λ rest later. subst (λ (l : List Readings). Pairs (IsReadIn n all) clients l)
          (sym (append_assoc readings (record { who = who; readings = own } ∷ []) rest))
          (so.reads (record { who = who; readings = own } ∷ rest) (subst (λ (l : List (ℕ × List Line)). Pairs (IsReadIn n all) l
          (record { who = who; readings = own } ∷ rest)) (sym here)
          (read_then c same, subst (λ (k : ℕ). Pairs (IsReadIn n all) (drop k clients) rest) more later)));
    })
      where
        same : c.0 ≡ who
        same = grind (arith, is)

        more : length (readings ++ record { who = who; readings = own } ∷ []) ≡ suc (length readings)
        more = length_more readings (record { who = who; readings = own }) ∙ omega arith

        risen : RisesTo last (length passes) (c ∷ drop (suc (length readings)) clients)
        risen = subst (RisesTo last (length passes)) here so.rises
    notes_client c here false is = rw is (record {
      rises = subst (RisesTo last (length passes + 1)) (sym here)
          (omega (arith, risen.0, number, other), risen.1, risen.2);
      reads = so.reads;
    })
      where
        other : c.0 ≡ who → ⊥
        other e = grind (arith, is, e)

        risen : RisesTo last (length passes) (c ∷ drop (suc (length readings)) clients)
        risen = subst (RisesTo last (length passes)) here so.rises

    notes : (o : Option (ℕ × List Line)) → Here o clients (length readings) → Notes (noted_if o readings who own)
    notes None here = record {
      rises = subst (RisesTo last (length passes + 1)) (sym here) tt;
      reads = so.reads;
    }
    notes (Some c) here = notes_client c here (c.0 == who) refl

    pub gathers_one : GathersSo tasks' passes' readings' whole'
    gathers_one =
        let there : Notes readings' = subst Notes (sym noted) (notes (slice_get clients (length readings)) (here_at clients (length readings))) in
        record {
          back = t ∷ so.back;
          all_are = split;
          many = let more = counted in let one = long_passes in omega (arith, more, one);
          passes_are = passes_then;
          none_fails = whole_then;
          rises = subst (λ (k : ℕ). RisesTo last k (drop (length readings') clients)) (sym long_passes) there.rises;
          reads = there.reads;
        }

  -- all of them have
  module _ (beyond : n ≡ last + 2) (tasks : List (Task D F)) (passes : List (Pass (Site D F))) (readings : List Readings) (whole : Bool)
      (none : tasks ≡ []) (so : GathersSo tasks passes readings whole) where
    pub many_all : length passes ≡ n
    many_all = let many = so.many in let is = ap length none in omega (arith, many, is)

    pub whole_all : whole ≡ true → NoneFails 0 all
    whole_all is = subst (λ (l : List (Task D F)). NoneFails (length l) all) none (so.none_fails is)

    none_left : (cs : List (ℕ × List Line)) → RisesTo last (length passes) cs → cs ≡ []
    none_left [] rises = refl
    none_left (c ∷ cs) rises = let low = rises.0 in let high = rises.1 in let many = many_all in absurd (omega (arith, low, high, many, beyond))

    pub reads_all : Pairs (IsReadIn n all) clients readings
    reads_all = subst (λ (l : List Readings). Pairs (IsReadIn n all) clients l) (append-nil readings)
        (so.reads [] (subst (λ (l : List (ℕ × List Line)). Pairs (IsReadIn n all) l [])
        (sym (none_left (drop (length readings) clients) so.rises)) tt))

-- the last number is the greatest
pub rises_last : (c d : ℕ × List Line) (cs : List (ℕ × List Line)) (low : ℕ) → Rises low (scripts_in (c ∷ cs))
    → RisesTo (get_or (c ∷ cs) (length cs) d).0 low (c ∷ cs) × ((get_or (c ∷ cs) (length cs) d).0 ≤ 14)
rises_last c d [] low rises = ((rises.0, le_refl _, tt), rises.1)
rises_last c d (c' ∷ cs) low rises = let more = rises_last c' d cs c.0 rises.2 in
    ((rises.0, (let lt = more.0.0 in let le = more.0.1 in omega (arith, lt, le)), more.0), more.1)

pub rises_to : (cs : List (ℕ × List Line)) (d : ℕ × List Line) → 0 < length cs → Rises 0 (scripts_in cs)
    → RisesTo (get_or cs (length cs - 1) d).0 0 cs × ((get_or cs (length cs - 1) d).0 ≤ 14)
rises_to [] d some rises = absurd (omega (arith, some))
rises_to (c ∷ cs) d some rises = subst (λ (k : ℕ). RisesTo (get_or (c ∷ cs) k d).0 0 (c ∷ cs) × ((get_or (c ∷ cs) k d).0 ≤ 14)) (omega arith)
    (rises_last c d cs 0 rises)

pub last_is : (cs : List (ℕ × List Line)) (c : ℕ × List Line) → Some c ≡ slice_get cs (length cs - 1) → Rises 0 (scripts_in cs)
    → RisesTo c.0 0 cs × (c.0 ≤ 14)
last_is cs c is rises =
    let within = slice_get_within cs (length cs - 1) c (sym is) in
    subst (λ (x : ℕ × List Line). RisesTo x.0 0 cs × (x.0 ≤ 14)) (get_or_from_slice_get cs (length cs - 1) c c (sym is))
    (rises_to cs c (omega (arith, within)) rises)

pub empty_if : {A : Type 0} (xs : List A) → (0 < length xs → ⊥) → xs ≡ []
empty_if [] not = refl
empty_if (x ∷ xs) not = absurd (not (omega arith))
