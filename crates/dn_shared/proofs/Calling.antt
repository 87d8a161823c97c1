-- A call, from its begin to its reply.
use Rattle.std.proofs.Common.{◌≡◌, ◌≢◌, inl, inr, ℕ, ◌≤◌, Bool, true, false, [], ◌∷◌, ◌++◌, refl, sym, ◌∙◌, ap, subst}
use Rattle.std.specs.Prelude.{Some, None, Result, Ok, Err}
use Rattle.dn_model.specs.declared.op.Op.{Op}
use Rattle.dn_model.specs.declared.op.Reply.{Reply}
use Rattle.dn_volume.specs.declared.outcome.Outcome.{Outcome}
use Rattle.dn_volume.specs.declared.outcome.Outcome.TheVariants as told
use Rattle.pm_device.specs.State.{State}
use Rattle.dn_model.specs.Own.{Print}
use Rattle.count_board.specs.declared.told.Hand.TheVariants.{Fly, Gone}
use Rattle.count_board.specs.declared.told.Mark.{Mark}
use Rattle.count_board.specs.declared.view.Account.{Account}
use Rattle.count_board.specs.declared.board.Board.{Board}
use Rattle.count_board.specs.declared.pass.Pass.{Pass}
use Rattle.count_board.specs.Passes.{known, account, Took, Becomes, after_turn}
use Rattle.dn_shared.specs.declared.site.Site.{Site}
use Rattle.dn_shared.specs.declared.call.CallFault.{CallFault}
use Rattle.dn_shared.specs.declared.call.CallFault.TheVariants as fault
use Rattle.dn_shared.specs.Marks.{SaysLast, SaysStopped}
use Rattle.dn_shared.specs.Sites.{IsShared, told_of, mark_of}
use Rattle.dn_shared.specs.Turns.{IsClient, IsAgain, Keeps, IsAnswered, BeginTells, AdvanceTells, WorkTells, SaysAsAnswered, Begun}
use Rattle.dn_shared.specs.Calls.{MayCall, Calls, Starts, Finishes, Loops}
use Rattle.dn_shared.proofs.Marked.{past_last}
use Rattle.dn_shared.proofs.Turned.{account_is, says_last}

no_mark : (m : Mark) → None ≡ Some m → ⊥
no_mark m e = cc

fly_clash : (op : Op) → None ≡ Some (Fly op) → ⊥
fly_clash op e = cc

not_gone : (op : Op) → Some (Fly op) ≡ Some Gone → ⊥
not_gone op e = cc

none_gone : None ≡ Some Gone → ⊥
none_gone e = cc

yours_stopped : told.NotYours ≡ told.Stopped → ⊥
yours_stopped e = cc

low_high : false ≡ true → ⊥
low_high e = cc

-- who may call hasn't left
here_to_call : (a : Account) → MayCall a → a.hand ≢ Some Gone
here_to_call a (inl none) gone = none_gone (sym none ∙ gone)
here_to_call a (inr says) gone = not_gone says.1.0 (sym says.1.1 ∙ gone)

pub calls_as_client : (clients : ℕ) (a : Account) (who : ℕ) → who ≡ a.number → 1 ≤ a.number → a.number ≤ clients → MayCall a → IsClient clients a who
calls_as_client clients a who is some few may = record {
  own = is;
  some = subst (λ (k : ℕ). 1 ≤ k) (sym is) some;
  few = subst (λ (k : ℕ). k ≤ clients) (sym is) few;
  here = here_to_call a may;
}

pub flies_as_client : (clients : ℕ) (a : Account) (who : ℕ) (op : Op) → who ≡ a.number → 1 ≤ a.number → a.number ≤ clients
    → a.hand ≡ Some (Fly op) → IsClient clients a who
flies_as_client clients a who op is some few flies = record {
  own = is;
  some = subst (λ (k : ℕ). 1 ≤ k) (sym is) some;
  few = subst (λ (k : ℕ). k ≤ clients) (sym is) few;
  here = λ gone. not_gone op (sym flies ∙ gone);
}

-- a turn without an event
module _ {D F : Type 0} (state : D → State) (print : Print) (p q r : Pass (Site D F)) (x : Site D F)
    (took : Took (λ (s : Site D F). told_of s) (λ (b s : Site D F). IsShared state print b s) p q x)
    (gave : Becomes q (after_turn (λ (s : Site D F). told_of s) (λ (b s : Site D F). IsShared state print b s) (known q) x) r) where
  look_keeps : Keeps (account p) (account r)
  look_keeps = let after = account_is (λ (s : Site D F). told_of s) (λ (b s : Site D F). IsShared state print b s) p q r x x took gave in
      (ap (λ (c : Account). c.calls) after ∙ took.2.calls, ap (λ (c : Account). c.hand) after ∙ took.2.hand)

  look_says : (stopped : Bool) → stopped ≡ x.volume.parts.stopped → SaysLast (account r) (λ mark. mark.stopped ≡ stopped)
  look_says stopped is = let after = account_is (λ (s : Site D F). told_of s) (λ (b s : Site D F). IsShared state print b s) p q r x x took gave in (
    mark_of x.gone.items x.volume.parts,
    says_last (λ (s : Site D F). told_of s) (λ (b s : Site D F). IsShared state print b s) (account p) x (account r) after,
    sym is,
  )

  look_past : (stopped : Bool) → stopped ≡ x.volume.parts.stopped → SaysStopped (account p) → stopped ≡ true
  look_past stopped is says =
      is ∙ (past_last (told_of x).mark (account p).seen None (λ m e. absurd (no_mark m e)) took.2.marks says.0 says.1).stops says.2

  pub looks : (stopped : Bool) → stopped ≡ x.volume.parts.stopped → Keeps (account p) (account r)
      × SaysLast (account r) (λ mark. mark.stopped ≡ stopped) × (SaysStopped (account p) → stopped ≡ true)
  looks stopped is = (look_keeps, look_says stopped is, look_past stopped is)

-- what a begin tells a client that may call
pub begun_of : (op : Op) (a b : Account) (outcome : Outcome) → MayCall a → BeginTells op a b outcome → (SaysStopped a → outcome ≡ told.Stopped)
    → Begun op a b outcome
begun_of op a b (told.Running left) may is past = is
begun_of op a b (told.Done reply) may is past = is.0
begun_of op a b (told.Busy holder) may is past = is
begun_of op a b (told.Released waiting) may is past = is
begun_of op a b told.Idle may is past = absurd is
begun_of op a b told.NotYours (inl none) is past = absurd (is.1 none)
begun_of op a b told.NotYours (inr says) is past = absurd (yours_stopped (past says.0))
begun_of op a b told.NoMemory may is past = is
begun_of op a b told.Stopped may is past = is

-- a client that finds no memory for a copy has nothing in hand, unless the volume is stopped
pub lacking_of : (op : Op) (a b : Account) (stopped : Bool) → MayCall a → Keeps a b → (SaysStopped a → stopped ≡ true) → stopped ≡ false
    → Begun op a b told.NoMemory
lacking_of op a b stopped (inl none) keeps past is = (keeps, none)
lacking_of op a b stopped (inr says) keeps past is = absurd (low_high (sym is ∙ past says.0))

-- what was kept first, and then answered
pub keeps_on : (a m b : Account) → Keeps a m → Keeps m b → Keeps a b
keeps_on a m b one two = (two.0 ∙ one.0, two.1 ∙ one.1)

answered_on : (op : Op) (reply : Reply) (a m b : Account) → m.number ≡ a.number → m.calls ≡ a.calls → IsAnswered op reply m b → IsAnswered op reply a b
answered_on op reply a m b number calls is = (
  is.0 ∙ (λ i. calls i ++ record { who = number i; op = op; reply = reply } ∷ []),
  is.1,
)

module _ (op : Op) (a m b : Account) (number : m.number ≡ a.number) (keeps : Keeps a m) where
  pub starts_running : (left : ℕ) (outcome : Outcome) → outcome ≡ told.Running left → Begun op m b outcome → SaysAsAnswered outcome b
      → Starts op a b (Ok None)
  starts_running left outcome is begun says =
      let here = subst (Begun op m b) is begun in
      let said = subst (λ (o : Outcome). SaysAsAnswered o b) is says in
      (here.0 ∙ keeps.0, here.1, said, sym keeps.1 ∙ here.2)

  pub starts_done : (reply : Reply) (outcome : Outcome) → outcome ≡ told.Done reply → Begun op m b outcome → SaysAsAnswered outcome b
      → Starts op a b (Ok (Some reply))
  starts_done reply outcome is begun says =
      let here = subst (Begun op m b) is begun in
      let said = subst (λ (o : Outcome). SaysAsAnswered o b) is says in
      (answered_on op reply a m b number keeps.0 here, said)

  pub starts_lacking : (outcome : Outcome) → outcome ≡ told.NoMemory → Begun op m b outcome → SaysAsAnswered outcome b
      → Starts op a b (Err fault.NoMemory)
  starts_lacking outcome is begun says =
      let here = subst (Begun op m b) is begun in
      let said = subst (λ (o : Outcome). SaysAsAnswered o b) is says in
      (here.0.0 ∙ keeps.0, here.0.1 ∙ here.1, said)

  pub starts_stopped : (outcome : Outcome) → outcome ≡ told.Stopped → Begun op m b outcome → SaysAsAnswered outcome b
      → Starts op a b (Err fault.Stopped)
  starts_stopped outcome is begun says =
      let here = subst (Begun op m b) is begun in
      let said = subst (λ (o : Outcome). SaysAsAnswered o b) is says in
      (keeps_on a m b keeps here, said)

  -- a begin that is to be made again
  pub starts_again : (outcome : Outcome) → Begun op m b outcome → ((left : ℕ) → outcome ≡ told.Running left → ⊥)
      → ((reply : Reply) → outcome ≡ told.Done reply → ⊥) → (outcome ≡ told.NoMemory → ⊥) → (outcome ≡ told.Stopped → ⊥)
      → Keeps a b × MayCall b
  starts_again (told.Running left) is running done memory stopped = absurd (running left refl)
  starts_again (told.Done reply) is running done memory stopped = absurd (done reply refl)
  starts_again (told.Busy holder) is running done memory stopped = (keeps_on a m b keeps is.0, inl (is.0.1 ∙ is.1))
  starts_again (told.Released waiting) is running done memory stopped = (keeps_on a m b keeps is.0, inl (is.0.1 ∙ is.1))
  starts_again told.Idle is running done memory stopped = absurd is
  starts_again told.NotYours is running done memory stopped = absurd is
  starts_again told.NoMemory is running done memory stopped = absurd (memory refl)
  starts_again told.Stopped is running done memory stopped = absurd (stopped refl)

  same_op : (op' : Op) → m.hand ≡ Some (Fly op') → a.hand ≡ Some (Fly op) → op' ≡ op
  same_op op' one two = by op' (sym one ∙ (keeps.1 ∙ two))
    where
      by : (o : Op) → Some (Fly o) ≡ Some (Fly op) → o ≡ op
      by o e = cc

  pub finishes_done : (reply : Reply) (outcome : Outcome) → outcome ≡ told.Done reply → AdvanceTells m b outcome → SaysAsAnswered outcome b
      → a.hand ≡ Some (Fly op) → Finishes op a b (Ok reply)
  finishes_done reply outcome is tells says flies =
      let here = subst (AdvanceTells m b) is tells in
      let said = subst (λ (o : Outcome). SaysAsAnswered o b) is says in
      (answered_on op reply a m b number keeps.0 (subst (λ (o : Op). IsAnswered o reply m b) (same_op here.0 here.1 flies) here.2), said)

  pub finishes_stopped : (outcome : Outcome) → outcome ≡ told.Stopped → AdvanceTells m b outcome → SaysAsAnswered outcome b
      → Finishes op a b (Err fault.Stopped)
  finishes_stopped outcome is tells says =
      let here = subst (AdvanceTells m b) is tells in
      let said = subst (λ (o : Outcome). SaysAsAnswered o b) is says in
      (keeps_on a m b keeps here, said)

-- an advance after which the operation is in flight still
pub advances_again : (m b : Account) (outcome : Outcome) → AdvanceTells m b outcome → ((reply : Reply) → outcome ≡ told.Done reply → ⊥)
    → (outcome ≡ told.Stopped → ⊥) → Keeps m b
advances_again m b (told.Running left) is done stopped = is
advances_again m b (told.Done reply) is done stopped = absurd (done reply refl)
advances_again m b (told.Busy holder) is done stopped = absurd is
advances_again m b (told.Released waiting) is done stopped = absurd is
advances_again m b told.Idle is done stopped = absurd is
advances_again m b told.NotYours is done stopped = is.0
advances_again m b told.NoMemory is done stopped = absurd is
advances_again m b told.Stopped is done stopped = absurd (stopped refl)

-- what a call is answered, of its begin and of the rest of it
pub calls_after : (op : Op) (a m b : Account) (r : Result Reply CallFault) → m.number ≡ a.number → Starts op a m (Ok None) → Finishes op m b r → Calls op a b r
calls_after op a m b (Ok reply) number starts finishes = (answered_on op reply a m b number starts.0 finishes.0, finishes.1)
calls_after op a m b (Err fault.NoMemory) number starts finishes = absurd finishes
calls_after op a m b (Err fault.Stopped) number starts finishes =
    (finishes.0.0 ∙ starts.0, finishes.1, inr (starts.3, finishes.0.1 ∙ starts.1))

pub calls_failed : (op : Op) (a b : Account) (e : CallFault) → Starts op a b (Err e) → Calls op a b (Err e)
calls_failed op a b fault.NoMemory starts = starts
calls_failed op a b fault.Stopped starts = (starts.0.0, starts.1, inl starts.0.1)

-- an event of the daemon or of reclaim
pub works_keep : (m b : Account) (outcome : Outcome) → WorkTells m b outcome → Keeps m b
works_keep m b (told.Running left) is = is
works_keep m b (told.Done reply) is = absurd is
works_keep m b (told.Busy holder) is = is
works_keep m b (told.Released waiting) is = absurd is
works_keep m b told.Idle is = is
works_keep m b told.NotYours is = absurd is
works_keep m b told.NoMemory is = is
works_keep m b told.Stopped is = is

module _ (Over : Mark → Type 0) (a m b : Account) (keeps : Keeps a m) (outcome : Outcome) (tells : WorkTells m b outcome)
    (says : SaysAsAnswered outcome b) where
  pub loops_over : outcome ≡ told.Idle → SaysLast b Over → Loops Over a b (Ok tt)
  loops_over is over =
      (keeps_on a m b keeps (works_keep m b outcome tells), over, subst (λ (o : Outcome). SaysAsAnswered o b) is says)

  pub loops_lacking : outcome ≡ told.NoMemory → Loops Over a b (Err fault.NoMemory)
  loops_lacking is = (keeps_on a m b keeps (works_keep m b outcome tells), subst (λ (o : Outcome). SaysAsAnswered o b) is says)

  pub loops_stopped : outcome ≡ told.Stopped → Loops Over a b (Err fault.Stopped)
  loops_stopped is = (keeps_on a m b keeps (works_keep m b outcome tells), subst (λ (o : Outcome). SaysAsAnswered o b) is says)

-- passes that went through turns
pub again_on : {H : Type 0} (b : Board H) (p q r : Pass H) → IsAgain b p q → IsAgain b q r → IsAgain b p r
again_on b p q r one two = (two.0, two.1, two.2 ∙ one.2, two.3 ∙ one.3, two.4 ∙ one.4)

pub client_on : (clients : ℕ) (a m : Account) → m.number ≡ a.number → (1 ≤ a.number) × (a.number ≤ clients)
    → (1 ≤ m.number) × (m.number ≤ clients)
client_on clients a m number is = (
  subst (λ (k : ℕ). 1 ≤ k) (sym number) is.0,
  subst (λ (k : ℕ). k ≤ clients) (sym number) is.1,
)
