-- A turn as a whole: what the pass knows after it.
use Rattle.std.proofs.Common.{◌≡◌, ℕ, ◌≤◌, true, List, [], ◌∷◌, ◌++◌, length, drop, sym, ◌∙◌, ap, subst, arith, append-nil, length-append}
use Rattle.std.specs.Prelude.{Some, None}
use Rattle.pm_device.specs.State.{State}
use Rattle.pm_layout.specs.Geometry.{slots}
use Rattle.dn_model.specs.Own.{Print}
use Rattle.dn_model.specs.Course.{Base}
use Rattle.dn_volume.specs.declared.outcome.Outcome.{Outcome}
use Rattle.dn_volume.specs.declared.batch.Batch.{Batch}
use Rattle.dn_volume.specs.declared.volume.Volume.{Volume}
use Rattle.dn_volume.specs.Agrees.{Agrees}
use Rattle.dn_volume.specs.Sound.{Sound}
use Rattle.dn_core.specs.declared.event.Event.{Event}
use Rattle.dn_core.specs.Steps.{Steps}
use Rattle.atomic_table.specs.Seated.{TableId}
use Rattle.count_board.specs.declared.told.Mark.{Mark}
use Rattle.count_board.specs.declared.view.Account.{Account}
use Rattle.count_board.specs.declared.view.View.{View}
use Rattle.count_board.specs.declared.view.Stage.TheVariants.{Away}
use Rattle.count_board.specs.declared.pass.Pass.{Pass}
use Rattle.count_board.specs.Told.{Told, GoesOn}
use Rattle.count_board.specs.Steps.{account_after}
use Rattle.count_board.specs.Passes.{known, account, IsOf, IsAway, Took, Becomes, MayGive, after_turn}
use Rattle.count_board.specs.declared.view.Seen.{Seen}
use Rattle.count_board.specs.declared.view.Seen.TheVariants.{Turn}
use Rattle.count_board.specs.Reads.{counts_of}
use Rattle.count_board.proofs.Fitting.{counts_of-append}
use Rattle.count_board.proofs.Giving.{gives_on}
use Rattle.dn_shared.specs.declared.site.Site.{Site}
use Rattle.dn_shared.specs.declared.made.Made.{Made}
use Rattle.dn_shared.specs.Left.{all_left}
use Rattle.dn_shared.specs.Marks.{last_mark, SaysStopped}
use Rattle.dn_shared.specs.Sites.{IsShared, told_of, mark_of}
use Rattle.dn_shared.specs.Turns.{MayMake, EventTells, TurnTells, stops}
use Rattle.dn_shared.proofs.Stepped.{KeepsOn, stepped}
use Rattle.dn_shared.proofs.Giving.{behind, inside}
use Rattle.dn_shared.proofs.HandedIn.{handed_in, shared_kept}
use Rattle.dn_shared.proofs.Telling.{tells}
use Rattle.dn_shared.proofs.Marked.{last_turn, past_last, landed_if, stops_as, over_as}

-- a turn is no count
counts_turn : (xs : List Seen) (n : ℕ) (mark : Mark) → counts_of (xs ++ Turn n mark ∷ []) ≡ counts_of xs
counts_turn xs n mark = counts_of-append xs (Turn n mark) ∙ append-nil (counts_of xs)

-- the pass before a turn, while it has the turn, and after it
module _ {H : Type 0} (tells_of : H → Told) (fact : H → H → Type 0) (p q r : Pass H) (x y : H) (took : Took tells_of fact p q x)
    (gave : Becomes q (after_turn tells_of fact (known q) y) r) where
  known_is : known r ≡ record (known p) { own = account_after tells_of fact (account p) y; stage = Away }
  known_is = gave.1 ∙ ap (λ (v : View H). after_turn tells_of fact v y) took.1.1

  pub account_is : account r ≡ account_after tells_of fact (account p) y
  account_is = ap (λ (v : View H). v.own) known_is

  pub again : (z : TableId) (base : H) → IsOf z base p
      → IsOf z base r × IsAway r × ((known r).lead ≡ (known p).lead) × ((account r).number ≡ (account p).number)
      × (counts_of (account r).seen ≡ counts_of (account p).seen)
  again z base own = (
    (gave.0 ∙ (took.1.0 ∙ own.0), ap (λ (v : View H). v.base) known_is ∙ own.1),
    ap (λ (v : View H). v.stage) known_is,
    ap (λ (v : View H). v.lead) known_is,
    ap (λ (v : View H). v.own.number) known_is,
    ap (λ (a : Account). counts_of a.seen) account_is ∙ counts_turn (account p).seen (length (tells_of y).trace) (tells_of y).mark,
  )

-- the last mark is that of the value that was given back
pub says_last : {H : Type 0} (tells_of : H → Told) (fact : H → H → Type 0) (a : Account) (y : H) (b : Account) → b ≡ account_after tells_of fact a y
    → last_mark b.seen ≡ Some (tells_of y).mark
says_last tells_of fact a y b is = ap (λ (c : Account). last_mark c.seen) is ∙ last_turn None a.seen (length (tells_of y).trace) (tells_of y).mark

no_mark : (m : Mark) → None ≡ Some m → ⊥
no_mark m e = cc

module _ {D F : Type 0} (state : D → State) (print : Print) (z : TableId) (base : Site D F) where
  abbrev fact : Site D F → Site D F → Type 0
  fact b x = IsShared state print b x

  abbrev told_as_is : Site D F → Told
  told_as_is x = told_of x

  -- the value as it was taken
  module _ (p q : Pass (Site D F)) (x : Site D F) (own : IsOf z base p) (took : Took told_as_is fact p q x) where
    pub holds_then : IsShared state print base x
    holds_then = took.2.holds base own.1

    number_then : (account q).number ≡ (account p).number
    number_then = ap (λ (v : View (Site D F)). v.own.number) took.1.1

    -- with the copies that were handed in
    module _ (copies : Batch F) where
      abbrev handed : Site D F
      handed = handed_in x copies

      holds_handed : IsShared state print base handed
      holds_handed = shared_kept state print base x copies holds_then

      -- and after an event, which left the volume so
      module _ (y : Site D F) (w : Volume D F) (is : y.volume ≡ w) (gone : y.gone.items ≡ x.gone.items) (opening : y.opening.items ≡ x.opening.items)
          (good : Agrees state w) (sound : (b : Base) → Sound state print b handed.volume → Sound state print b w) (event : Event) (outcome : Outcome)
          (may : MayMake (length base.gone.items) (account p) event) (makes : Steps state print event handed.volume w outcome) where
        agrees : Agrees state y.volume
        agrees = subst (λ (v : Volume D F). Agrees state v) (sym is) good

        sounds : (b : Base) → Sound state print b handed.volume → Sound state print b y.volume
        sounds b s = subst (λ (v : Volume D F). Sound state print b v) (sym is) (sound b s)

        steps : Steps state print event handed.volume y.volume outcome
        steps = subst (λ (v : Volume D F). Steps state print event handed.volume v outcome) (sym is) makes

        on_then : KeepsOn state print (account p).number base handed y
        on_then = stepped state print base handed y gone opening holds_handed (account p) took.2.hand agrees sounds event outcome may steps

        pub longer : (n : ℕ) → n ≡ length x.volume.parts.trace.items → n ≤ length y.volume.parts.trace.items
        longer n is = let long = ap length on_then.traced in let sum = length-append x.volume.parts.trace.items on_then.changes in
            omega (arith, is, long, sum)

        pub ready : (n many : ℕ) → n ≡ length x.volume.parts.trace.items → many ≡ slots base.volume.parts.geometry
            → MayGive told_as_is fact base many q y (drop n y.volume.parts.trace.items)
        ready n many at long = gives_on told_as_is fact z base many p q x y (drop n y.volume.parts.trace.items) took
            (subst (λ (k : ℕ). GoesOn k (told_of x) (told_of y)) (sym number_then) on_then.on)
            (behind x.volume.parts.trace.items y.volume.parts.trace.items on_then.changes n at on_then.traced)
            (inside state print base y n many on_then.holds long) on_then.holds

        -- the pass gives the value back
        module _ (r : Pass (Site D F)) (gave : Becomes q (after_turn told_as_is fact (known q) y) r) (made : Made)
            (outcome_is : made.outcome ≡ outcome) (deserted : made.deserted ≡ all_left y.gone.items) where
          after : account r ≡ account_after told_as_is fact (account p) y
          after = account_is told_as_is fact p q r x y took gave

          mark_after : last_mark (account r).seen ≡ Some (mark_of y.gone.items y.volume.parts)
          mark_after = says_last told_as_is fact (account p) y (account r) after

          stopped_then : SaysStopped (account p) → x.volume.parts.stopped ≡ true
          stopped_then says = (past_last (told_of x).mark (account p).seen None (λ m e. absurd (no_mark m e)) took.2.marks says.0 says.1).stops says.2

          pub turned : TurnTells event made (account p) (account r)
          turned = record {
            tells = subst (λ (o : Outcome). EventTells event (account p) (account r) o) (sym outcome_is)
                (tells state print base handed y gone holds_handed (account p) (account r) took.2.calls took.2.hand
                (ap (λ (c : Account). c.calls) after) (ap (λ (c : Account). c.hand) after) event outcome may steps);
            says = (
              mark_of y.gone.items y.volume.parts,
              mark_after,
              stops_as state print handed.volume y.volume event outcome holds_handed.agrees steps ∙ ap stops (sym outcome_is),
            );
            past = λ says. outcome_is ∙ (steps.stopped (stopped_then says)).0;
            over = λ idle deserts. let all = sym deserted ∙ deserts in (
              mark_of y.gone.items y.volume.parts,
              mark_after,
              over_as state print handed.volume y.volume y.gone.items all
                  (landed_if y.gone.items y.volume.parts on_then.holds.others on_then.holds.landed all)
                  event outcome holds_handed.agrees steps (sym outcome_is ∙ idle),
            );
          }
