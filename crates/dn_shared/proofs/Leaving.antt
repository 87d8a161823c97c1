-- A client leaves.
use Rattle.std.proofs.Common.{◌≡◌, inl, ⊎_elim, ℕ, zero, suc, ◌-◌, ◌<◌, ◌≤◌, le_refl, Bool, true, false, List, [], ◌∷◌, length, set, refl, sym, ◌∙◌, ap, subst, arith, append-nil, length-set}
use Rattle.std.specs.Prelude.{Some, None, slice_get, ◌&&◌, ◌||◌}
use Rattle.std.specs.List.{list_all}
use Rattle.std.proofs.lemmas.Bool.{cases_eq}
use Rattle.pm_device.specs.State.{State}
use Rattle.dn_model.specs.Own.{Print}
use Rattle.dn_volume.specs.declared.flight.Flight.{Flight}
use Rattle.dn_volume.specs.declared.volume.Volume.{Volume}
use Rattle.dn_volume.specs.Parties.{Flies, flight_of}
use Rattle.atomic_table.specs.Seated.{TableId}
use Rattle.count_board.specs.declared.told.Hand.TheVariants.{Gone}
use Rattle.count_board.specs.declared.view.Account.{Account}
use Rattle.count_board.specs.declared.view.View.{View}
use Rattle.count_board.specs.declared.pass.Pass.{Pass}
use Rattle.count_board.specs.Told.{Told, GoesOn, entries_by}
use Rattle.count_board.specs.Passes.{known, account, IsOf, Took, Becomes, MayGive, after_turn}
use Rattle.count_board.proofs.Giving.{gives_on}
use Rattle.dn_shared.specs.declared.site.Site.{Site}
use Rattle.dn_shared.specs.Left.{has_left, or_false, count_left, all_left}
use Rattle.dn_shared.specs.Sites.{IsKept, IsShared, told_as, told_of, hand_of, is_landed, daemon_rests, none_released}
use Rattle.dn_shared.specs.Calls.{Leaves}
use Rattle.dn_shared.proofs.Hands.{of_flies}
use Rattle.dn_shared.proofs.Past.{and_cases, and_both, or_cases, or_left, or_right}
use Rattle.dn_shared.proofs.Telling.{none_hand}
use Rattle.dn_shared.proofs.Turned.{account_is, says_last}

same_place : (gone : List Bool) (k : ℕ) → k < length gone → or_false (slice_get (set gone k true) k) ≡ true
same_place [] k lt = absurd (omega (arith, lt))
same_place (g ∷ gone) zero lt = refl
same_place (g ∷ gone) (suc k) lt = same_place gone k (omega (arith, lt))

other_place : (gone : List Bool) (k j : ℕ) → (j ≡ k → ⊥) → or_false (slice_get (set gone k true) j) ≡ or_false (slice_get gone j)
other_place [] k j ne = refl
other_place (g ∷ gone) zero zero ne = absurd (ne refl)
other_place (g ∷ gone) zero (suc j) ne = refl
other_place (g ∷ gone) (suc k) zero ne = refl
other_place (g ∷ gone) (suc k) (suc j) ne = other_place gone k j (λ e. ne (ap suc e))

more_left : (gone : List Bool) (k : ℕ) → k < length gone
    → (count_left gone ≤ count_left (set gone k true)) × (1 ≤ count_left (set gone k true))
unfolding count_left
more_left [] k lt = absurd (omega (arith, lt))
more_left (true ∷ gone) zero lt = (omega arith, omega arith)
more_left (false ∷ gone) zero lt = (omega arith, omega arith)
more_left (true ∷ gone) (suc k) lt = let more = more_left gone k (omega (arith, lt)) in
    (omega (arith, more.0, more.1), omega (arith, more.0, more.1))
more_left (false ∷ gone) (suc k) lt = let more = more_left gone k (omega (arith, lt)) in
    (omega (arith, more.0, more.1), omega (arith, more.0, more.1))

still_all : (gone : List Bool) (k : ℕ) → all_left gone ≡ true → all_left (set gone k true) ≡ true
still_all [] k all = all
still_all (g ∷ gone) zero all = (and_cases g (list_all (λ h. h) gone) all).1
still_all (g ∷ gone) (suc k) all = let two = and_cases g (list_all (λ h. h) gone) all in
    and_both g (list_all (λ h. h) (set gone k true)) two.0 (still_all gone k two.1)

now_left : (gone : List Bool) (n : ℕ) → 1 ≤ n → n ≤ length gone → has_left (set gone (n - 1) true) n ≡ true
now_left gone zero some few = absurd (omega (arith, some))
now_left gone (suc k) some few =
    subst (λ (j : ℕ). or_false (slice_get (set gone j true) k) ≡ true) (omega arith) (same_place gone k (omega (arith, few)))

others_as : (gone : List Bool) (n who : ℕ) → 1 ≤ n → (who ≡ n → ⊥) → has_left (set gone (n - 1) true) who ≡ has_left gone who
others_as gone n zero some ne = refl
others_as gone zero (suc j) some ne = absurd (omega (arith, some))
others_as gone (suc k) (suc j) some ne =
    subst (λ (i : ℕ). or_false (slice_get (set gone i true) j) ≡ or_false (slice_get gone j)) (omega arith)
    (other_place gone k j (λ e. ne (ap suc e)))

over_more : (s all all' land rest : Bool) → (all ≡ true → all' ≡ true) → (s || ((all && land) && rest)) ≡ true → (s || ((all' && land) && rest)) ≡ true
over_more s all all' land rest more is = ⊎_elim (or_left s ((all' && land) && rest))
    (λ over. let two = and_cases (all && land) rest over in let here = and_cases all land two.0 in
    or_right s ((all' && land) && rest) (and_both (all' && land) rest (and_both all' land (more here.0) here.1) two.1))
    (or_cases s ((all && land) && rest) is)

none_some : (f : Flight) → None ≡ Some f → ⊥
none_some f e = cc

module _ {D F : Type 0} (state : D → State) (print : Print) (base x y : Site D F) (n : ℕ) (some : 1 ≤ n) (few : n ≤ length base.gone.items)
    (same : y.volume ≡ x.volume) (gone : y.gone.items ≡ set x.gone.items (n - 1) true) (opening : y.opening.items ≡ x.opening.items)
    (shared : IsShared state print base x) (none : (told_of x).hand n ≡ None) where
  abbrev then : List Bool
  then = set x.gone.items (n - 1) true

  within : n ≤ length x.gone.items
  within = let long = shared.clients in omega (arith, few, long)

  long_as : length then ≡ length x.gone.items
  long_as = length-set x.gone.items (n - 1) true

  idle : flight_of x.volume.parts n ≡ None
  idle = (none_hand (has_left x.gone.items n) (flight_of x.volume.parts n) none).1

  landed_then : (who : ℕ) (f : Flight) → Flies x.volume.parts who f → has_left then who ≡ false
  landed_then who f flies = ⊎_elim
      (λ (is : who ≡ n). absurd (none_some f (sym idle ∙ (ap (flight_of x.volume.parts) (sym is) ∙ of_flies x.volume.parts who f flies))))
      (λ ne. others_as x.gone.items n who some ne ∙ shared.landed who f flies) (cases_eq who n)

  kept : IsKept state print base x.volume then x.opening.items
  kept = record {
    agrees = shared.agrees;
    clients = long_as ∙ shared.clients;
    few = let least = shared.few in omega (arith, least, long_as);
    others = λ who f flies. let lt = shared.others who f flies in omega (arith, lt, long_as);
    landed = landed_then;
    faults = shared.faults;
    rose = shared.rose;
    opening_is = shared.opening_is;
    geometry = shared.geometry;
    long = shared.long;
    words = shared.words;
    keeps = shared.keeps;
  }

  holds : IsShared state print base y
  holds =
      subst (λ (o : List ℕ). IsKept state print base y.volume y.gone.items o) (sym opening)
      (subst (λ (g : List Bool). IsKept state print base y.volume g x.opening.items) (sym gone)
      (subst (λ (v : Volume D F). IsKept state print base v then x.opening.items) (sym same) kept))

  place_in : n - 1 < length x.gone.items
  place_in = omega (arith, some, within)

  goes_then : GoesOn n (told_of x) (told_as x.volume.parts then)
  goes_then = record {
    more = [];
    added = sym (append-nil x.volume.parts.history.items);
    own = λ k ne. refl;
    hands = λ k ne. ap (λ (b : Bool). hand_of b (flight_of x.volume.parts k)) (others_as x.gone.items n k some ne);
    one_event = inl refl;
    past = record {
      stops = λ is. is;
      leaves = (more_left x.gone.items (n - 1) place_in).0;
      makes = le_refl _;
      daemon = over_more x.volume.parts.stopped (all_left x.gone.items) (all_left then) (is_landed x.volume.parts) (daemon_rests x.volume.parts)
          (still_all x.gone.items (n - 1));
      counts = over_more x.volume.parts.stopped (all_left x.gone.items) (all_left then) (is_landed x.volume.parts) (none_released x.volume.parts)
          (still_all x.gone.items (n - 1));
    };
  }

  told_is : told_of y ≡ told_as x.volume.parts then
  told_is = λ i. told_as (same i).parts (gone i)

  goes : GoesOn n (told_of x) (told_of y)
  goes = subst (λ (t : Told). GoesOn n (told_of x) t) (sym told_is) goes_then

  left_now : (told_of y).hand n ≡ Some Gone
  left_now = ap (λ (t : Told). t.hand n) told_is
      ∙ ap (λ (b : Bool). hand_of b (flight_of x.volume.parts n)) (now_left x.gone.items n some within)

  one_left : 1 ≤ (told_of y).mark.left
  one_left = subst (λ (t : Told). 1 ≤ t.mark.left) (sym told_is) (more_left x.gone.items (n - 1) place_in).1

  calls_same : entries_by n (told_of y).entries ≡ entries_by n (told_of x).entries
  calls_same = ap (λ (v : Volume D F). entries_by n v.parts.history.items) same

module _ {D F : Type 0} (state : D → State) (print : Print) (z : TableId) (base : Site D F) (p q : Pass (Site D F)) (x y : Site D F)
    (own : IsOf z base p) (took : Took (λ (s : Site D F). told_of s) (λ (b s : Site D F). IsShared state print b s) p q x)
    (some : 1 ≤ (account p).number) (few : (account p).number ≤ length base.gone.items) (same : y.volume ≡ x.volume)
    (gone : y.gone.items ≡ set x.gone.items ((account p).number - 1) true) (opening : y.opening.items ≡ x.opening.items)
    (none : (account p).hand ≡ None) where
  abbrev shared : IsShared state print base x
  shared = took.2.holds base own.1

  abbrev none_then : (told_of x).hand (account p).number ≡ None
  none_then = took.2.hand ∙ none

  pub may_leave : (many : ℕ) → MayGive (λ (s : Site D F). told_of s) (λ (b s : Site D F). IsShared state print b s) base many q y []
  may_leave many = gives_on (λ (s : Site D F). told_of s) (λ (b s : Site D F). IsShared state print b s) z base many p q x y [] took
      (subst (λ (k : ℕ). GoesOn k (told_of x) (told_of y)) (sym (ap (λ (v : View (Site D F)). v.own.number) took.1.1))
      (goes state print base x y (account p).number some few same gone opening shared none_then))
      (ap (λ (v : Volume D F). v.parts.trace.items) same ∙ sym (append-nil x.volume.parts.trace.items))
      (λ k d lt. absurd (omega (arith, lt)))
      (holds state print base x y (account p).number some few same gone opening shared none_then)

  pub leaves : (r : Pass (Site D F)) → Becomes q (after_turn (λ (s : Site D F). told_of s) (λ (b s : Site D F). IsShared state print b s) (known q) y) r
      → Leaves (account p) (account r)
  leaves r gave =
      let after = account_is (λ (s : Site D F). told_of s) (λ (b s : Site D F). IsShared state print b s) p q r x y took gave in (
        ap (λ (c : Account). c.calls) after
            ∙ (calls_same state print base x y (account p).number some few same gone opening shared none_then ∙ took.2.calls),
        ap (λ (c : Account). c.hand) after ∙ left_now state print base x y (account p).number some few same gone opening shared none_then,
        (
          (told_of y).mark,
          says_last (λ (s : Site D F). told_of s) (λ (b s : Site D F). IsShared state print b s) (account p) y (account r) after,
          one_left state print base x y (account p).number some few same gone opening shared none_then,
        ),
      )
