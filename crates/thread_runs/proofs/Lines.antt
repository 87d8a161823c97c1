-- The lines of a client, as they are run.
use Rattle.std.proofs.Common.{◌≡◌, inl, inr, ⊎_elim, ℕ, ◌+◌, ◌<◌, ◌≤◌, List, [], ◌∷◌, ◌++◌, length, drop, refl, sym, ◌∙◌, ap, subst, arith}
use Rattle.std.proofs.Common.{append-nil}
use Rattle.std.proofs.lemmas.List.{map-append, append_assoc}
use Rattle.std.specs.Prelude.{Option, Some, None, Result, Ok, Err}
use Rattle.fingerprint.specs.Count.{count_word}
use Rattle.fingerprint.specs.declared.count.CountWord.{CountWord}
use Rattle.dn_model.specs.declared.op.Op.{Op}
use Rattle.dn_model.specs.declared.op.Entry.{Entry}
use Rattle.dn_model.specs.declared.op.Reply.{Reply}
use Rattle.dn_script.specs.declared.job.Command.{Command}
use Rattle.dn_script.specs.declared.job.Command.TheVariants.{Do, Count as Look}
use Rattle.dn_script.specs.declared.job.Line.{Line}
use Rattle.count_board.specs.declared.told.Hand.{Hand}
use Rattle.count_board.specs.declared.view.Account.{Account}
use Rattle.count_board.specs.declared.view.Seen.{Seen}
use Rattle.count_board.specs.declared.view.Seen.TheVariants.{Count}
use Rattle.count_board.specs.declared.board.Board.{Board}
use Rattle.count_board.specs.declared.pass.Pass.{Pass}
use Rattle.count_board.specs.Boards.{IsPassOf}
use Rattle.count_board.specs.Kept.{new_account}
use Rattle.count_board.specs.Passes.{account, IsAway, Notes}
use Rattle.count_board.specs.Reads.{counts_of}
use Rattle.count_board.proofs.Fitting.{counts_of-append}
use Rattle.dn_shared.specs.declared.call.CallFault.{CallFault}
use Rattle.dn_shared.specs.declared.call.CallFault.TheVariants as fault
use Rattle.dn_shared.specs.Calls.{Calls}
use Rattle.dn_shared.specs.Turns.{IsAgain}
use Rattle.job_runs.specs.Scripts.{ops_of}
use Rattle.job_texts.specs.Plan.{op_in, ops_in}
use Rattle.thread_runs.specs.declared.reading.Reading.{Reading}
use Rattle.thread_runs.specs.Reading.{look_in, looks_in, IsReading, ReadsLines, seen_of, seen_in}
use Rattle.thread_runs.specs.Parts.{IsBack, Looks, FliesFirst, RanOp, RanLook, RanCommand, RanLine, RanOps, ReadAll}
use Rattle.thread_runs.proofs.Lists.{rest_none, pairs_append}

-- passes that come back
pub back_here : {H : Type 0} (b : Board H) (p : Pass H) → IsPassOf b p → IsAway p → IsBack b p p
back_here b p own away = (own, away, refl, refl)

pub back_on : {H : Type 0} (b : Board H) (p q r : Pass H) → IsBack b p q → IsBack b q r → IsBack b p r
back_on b p q r one two = (two.0, two.1, two.2 ∙ one.2, two.3 ∙ one.3)

pub back_again : {H : Type 0} (b : Board H) (p q : Pass H) → IsAgain b p q → IsBack b p q
back_again b p q is = (is.0, is.1, is.2, is.3)

module _ {H : Type 0} (b : Board H) (p q : Pass H) (own : IsPassOf b p) where
  pub noted_back : (x : Seen) → IsAway p → Notes p x q → IsBack b p q
  noted_back x away n = (
    (n.0 ∙ own.0, ap (λ v. v.base) n.1 ∙ own.1),
    ap (λ v. v.stage) n.1 ∙ away,
    ap (λ v. v.lead) n.1,
    ap (λ v. v.own.number) n.1,
  )

some_none : (w : CountWord) → Some w ≡ None → ⊥
some_none w e = cc

-- a look that found a count
pub looked : {H : Type 0} (p q : Pass H) (slots line slot : ℕ) (w : CountWord) → slot < slots → Notes p (Count slot (count_word w.rfc w.uc)) q
    → Looks slots line slot (account p) (account q) (record { line = line; slot = slot; count = Some w })
looked p q slots line slot w lt n = record {
  calls = ap (λ v. v.own.calls) n.1;
  hand = ap (λ v. v.own.hand) n.1;
  reading = record { line = refl; slot = refl; past = (λ e. absurd (some_none w e), λ le. absurd (omega (arith, lt, le))) };
  seen = ap (λ v. counts_of v.own.seen) n.1 ∙ counts_of-append (account p).seen (Count slot (count_word w.rfc w.uc));
}

-- and one beyond the slots
pub looked_past : (a : Account) (slots line slot : ℕ) → slots ≤ slot
    → Looks slots line slot a a (record { line = line; slot = slot; count = None })
looked_past a slots line slot le = record {
  calls = refl;
  hand = refl;
  reading = record { line = refl; slot = refl; past = (λ e. le, λ h. refl) };
  seen = sym (append-nil (counts_of a.seen));
}

-- its reading is put to the others
pub look_ran : (slots number slot : ℕ) (a b : Account) (r : Reading) (old mid new : List Reading) → a.hand ≡ None → mid ≡ old
    → new ≡ mid ++ r ∷ [] → Looks slots number slot a b r → RanLook slots number slot a b old new (Ok tt)
look_ran slots number slot a b r old mid new free same is looks = (
  looks.calls,
  looks.hand ∙ free,
  record {
    more = r ∷ [];
    added = is ∙ ap (λ (l : List Reading). l ++ r ∷ []) same;
    reads = (looks.reading, tt);
    seen = looks.seen ∙ ap (λ (l : List Seen). counts_of a.seen ++ l) (sym (append-nil (seen_of r.slot r.count)));
  },
)

-- an operation
ops_more : (calls calls' : List Entry) (e : Entry) → calls' ≡ calls ++ e ∷ [] → ops_of calls' ≡ ops_of calls ++ e.op ∷ []
ops_more calls calls' e is = ap ops_of is ∙ map-append (λ (x : Entry). x.op) calls (e ∷ [])

pub op_ran : (op : Op) (a b : Account) (reply : Reply) → Calls op a b (Ok reply) → RanOp op a b (Ok tt)
op_ran op a b reply is = (ops_more a.calls b.calls (record { who = a.number; op = op; reply = reply }) is.0.0, is.0.1)

pub op_failed : (op : Op) (a b : Account) (e : CallFault) → a.hand ≡ None → Calls op a b (Err e) → RanOp op a b (Err e)
op_failed op a b fault.NoMemory free is = (is.0, is.1)
op_failed op a b fault.Stopped free is = (
  is.0,
  is.1,
  ⊎_elim (λ same. inl (same ∙ free)) (λ flies. inr (op, [], refl, flies.1)) is.2,
)

-- a line
pub command_of_op : (slots number : ℕ) (command : Command) (op : Op) (a b : Account) (old new : List Reading)
    (r : Result (Unit {0}) CallFault) → command ≡ Do op → new ≡ old → counts_of b.seen ≡ counts_of a.seen → RanOp op a b r
    → RanCommand slots number command a b old new r
command_of_op slots number command op a b old new r is same counts ran =
    subst (λ (c : Command). RanCommand slots number c a b old new r) (sym is) (by r ran)
  where
    by : (s : Result (Unit {0}) CallFault) → RanOp op a b s → RanCommand slots number (Do op) a b old new s
    by (Ok done) h = (
      h.0,
      h.1,
      record { more = []; added = same ∙ sym (append-nil old); reads = tt; seen = counts ∙ sym (append-nil (counts_of a.seen)) },
    )
    by (Err fault.NoMemory) h = h
    by (Err fault.Stopped) h = h

pub command_of_look : (slots number slot : ℕ) (command : Command) (a b : Account) (old new : List Reading)
    (r : Result (Unit {0}) CallFault) → command ≡ Look slot → RanLook slots number slot a b old new r
    → RanCommand slots number command a b old new r
command_of_look slots number slot command a b old new r is ran =
    subst (λ (c : Command). RanCommand slots number c a b old new r) (sym is) (by r ran)
  where
    by : (s : Result (Unit {0}) CallFault) → RanLook slots number slot a b old new s → RanCommand slots number (Look slot) a b old new s
    by (Ok done) h = (ap ops_of h.0 ∙ sym (append-nil (ops_of a.calls)), h.1, h.2)
    by (Err fault.NoMemory) h = h
    by (Err fault.Stopped) h = absurd h

-- so many of the lines have been run
pub record RunsSo (slots : ℕ) (lines : List Line) (i : ℕ) (b : Account) (readings : List Reading) : Type 0 where
  pub ops : ops_of b.calls ++ ops_in (drop i lines) ≡ ops_in lines
  pub free : b.hand ≡ None
  pub reads : (rest : List Reading) → ReadsLines slots (drop i lines) rest → ReadsLines slots lines (readings ++ rest)
  pub seen : counts_of b.seen ≡ seen_in readings

pub runs_none : (slots : ℕ) (lines : List Line) (a : Account) (readings : List Reading) → a ≡ new_account a.number → readings ≡ []
    → RunsSo slots lines 0 a readings
runs_none slots lines a readings is none = record {
  ops = ap (λ (c : Account). ops_of c.calls ++ ops_in lines) is;
  free = ap (λ (c : Account). c.hand) is;
  reads = λ rest h. subst (λ (l : List Reading). ReadsLines slots lines (l ++ rest)) (sym none) h;
  seen = ap (λ (c : Account). counts_of c.seen) is ∙ ap seen_in (sym none);
}

pub seen_in-append : (xs ys : List Reading) → seen_in (xs ++ ys) ≡ seen_in xs ++ seen_in ys
seen_in-append [] ys = refl
seen_in-append (x ∷ xs) ys = ap (λ (l : List Seen). seen_of x.slot x.count ++ l) (seen_in-append xs ys)
    ∙ sym (append_assoc (seen_of x.slot x.count) (seen_in xs) (seen_in ys))

flies_more : (ops more : List Op) (hand : Option Hand) → FliesFirst ops hand → FliesFirst (ops ++ more) hand
flies_more ops more hand (inl none) = inl none
flies_more ops more hand (inr (op, rest, is, flies)) =
    inr (op, rest ++ more, ap (λ (l : List Op). l ++ more) is, flies)

module _ (slots : ℕ) (lines : List Line) (i : ℕ) (line : Line) (here : drop i lines ≡ line ∷ drop (i + 1) lines) (a b : Account)
    (old new : List Reading) (so : RunsSo slots lines i a old) where
  ops_here : ops_in (drop i lines) ≡ op_in line.command ++ ops_in (drop (i + 1) lines)
  ops_here = ap ops_in here

  pub runs_on : (r : Result (Unit {0}) CallFault) (done : Unit {0}) → r ≡ Ok done → RanLine slots line a b old new r
      → RunsSo slots lines (i + 1) b new
  runs_on r done is ran = by (subst (λ (s : Result (Unit {0}) CallFault). RanLine slots line a b old new s) is ran)
    where
      by : RanLine slots line a b old new (Ok done) → RunsSo slots lines (i + 1) b new
      by h = record {
        ops = ap (λ (l : List Op). l ++ ops_in (drop (i + 1) lines)) h.0
            ∙ (append_assoc (ops_of a.calls) (op_in line.command) (ops_in (drop (i + 1) lines))
            ∙ (ap (λ (l : List Op). ops_of a.calls ++ l) (sym ops_here) ∙ so.ops));
        free = h.1;
        reads = λ rest later. subst (λ (l : List Reading). ReadsLines slots lines l)
            (sym (append_assoc old h.2.more rest) ∙ ap (λ (l : List Reading). l ++ rest) (sym h.2.added))
            (so.reads (h.2.more ++ rest) (subst (λ (l : List Line). ReadsLines slots l (h.2.more ++ rest)) (sym here)
            (pairs_append (IsReading slots) (look_in line.number line.command) (looks_in (drop (i + 1) lines)) h.2.more rest h.2.reads later)));
        seen = h.2.seen ∙ (ap (λ (l : List Seen). l ++ seen_in h.2.more) so.seen
            ∙ (sym (seen_in-append old h.2.more) ∙ ap seen_in (sym h.2.added)));
      }

  pub runs_failed : (r : Result (Unit {0}) CallFault) (e : CallFault) → r ≡ Err e → RanLine slots line a b old new r
      → RanOps (ops_in lines) None b (Err e)
  runs_failed r e is ran = by e (subst (λ (s : Result (Unit {0}) CallFault). RanLine slots line a b old new s) is ran)
    where
      same : b.calls ≡ a.calls → ops_in lines ≡ ops_of b.calls ++ ops_in (drop i lines)
      same calls = sym so.ops ∙ ap (λ (l : List Entry). ops_of l ++ ops_in (drop i lines)) (sym calls)

      by : (e : CallFault) → RanLine slots line a b old new (Err e) → RanOps (ops_in lines) None b (Err e)
      by fault.NoMemory h = (ops_in (drop i lines), same h.0, h.1)
      by fault.Stopped h = (
        ops_in (drop i lines),
        same h.0,
        h.1,
        subst (λ (l : List Op). FliesFirst l b.hand) (sym ops_here)
            (flies_more (op_in line.command) (ops_in (drop (i + 1) lines)) b.hand h.2),
      )

-- all of them
module _ (slots : ℕ) (lines : List Line) (i : ℕ) (past : length lines ≤ i) (b : Account) (readings : List Reading)
    (so : RunsSo slots lines i b readings) where
  none_left : drop i lines ≡ []
  none_left = rest_none lines i past

  pub runs_all : RanOps (ops_in lines) None b (Ok tt)
  runs_all = (
    sym (append-nil (ops_of b.calls)) ∙ (ap (λ (l : List Line). ops_of b.calls ++ ops_in l) (sym none_left) ∙ so.ops),
    so.free,
  )

  pub reads_all : ReadAll slots lines b readings (Ok tt)
  reads_all = (
    subst (λ (l : List Reading). ReadsLines slots lines l) (append-nil readings)
        (so.reads [] (subst (λ (l : List Line). ReadsLines slots l []) (sym none_left) tt)),
    so.seen,
  )

-- the number of a client's pass stays
pub client_back : (clients : ℕ) (a b : Account) → b.number ≡ a.number → (1 ≤ a.number) × (a.number ≤ clients)
    → (1 ≤ b.number) × (b.number ≤ clients)
client_back clients a b same is = (
  subst (λ (k : ℕ). 1 ≤ k) (sym same) is.0,
  subst (λ (k : ℕ). k ≤ clients) (sym same) is.1,
)
