-- All passes of one board: as a new board deals them, and after each went through calls of its own.
use Rattle.std.proofs.Common.{◌≡◌, ℕ, zero, suc, ◌+◌, ◌<◌, ◌≤◌, List, [], ◌∷◌, length, get_or, sym, ap, ◌∙◌, subst, arith}
use Rattle.atomic_table.specs.Seated.{TableId}
use Rattle.count_board.specs.declared.pass.Pass.{Pass}
use Rattle.count_board.specs.Passes.{known, account, IsOf, IsAway, Leads, HasFirst, AreAll, AreFresh, AreDealt}

module _ {H : Type 0} (z : TableId) (base : H) where
  -- the pass is away again, with the number and the lead that it had
  abbrev pub Same : Pass H → Pass H → Type 0
  Same p q = IsOf z base q × IsAway q × ((known q).lead ≡ (known p).lead) × ((account q).number ≡ (account p).number)

  -- what is said of each of so many passes
  abbrev Each : ℕ → Pass H → Type 0
  Each made p = IsOf z base p × IsAway p × Leads made p

  pub all_at : (ps : List (Pass H)) → AreAll z base ps → (i : ℕ) (d : Pass H) → i < length ps
      → IsOf z base (get_or ps i d) × IsAway (get_or ps i d)
  all_at ps a i d lt = let h = a.each i d lt in (h.0, h.1)

  pub all_again : (ps qs : List (Pass H)) → AreAll z base ps → length qs ≡ length ps
      → ((i : ℕ) (d : Pass H) → i < length ps → Same (get_or ps i d) (get_or qs i d)) → AreAll z base qs
  all_again ps qs a long same = record {
    each = λ i d lt. let lt' : i < length ps = omega arith in let s = same i d lt' in
        (s.0, s.1, λ one. s.2 ∙ ((a.each i d lt').2 (sym s.3 ∙ one) ∙ sym long));
    first = let f = a.first in (f.0, (omega (arith, f.1.0), λ d. (same f.0 d f.1.0).3 ∙ f.1.1 d));
  }

  fresh_at : (n made : ℕ) (ps : List (Pass H)) → 2 ≤ n → AreFresh z base n ps → (i : ℕ) (d : Pass H) → i < length ps
      → Each made (get_or ps i d)
  fresh_at n made [] low f i d lt = absurd (omega arith)
  fresh_at n made (p ∷ ps) low f zero d lt = let number : (account p).number ≡ n = ap (λ v. v.own.number) f.0.1 in
      ((f.0.0, ap (λ v. v.base) f.0.1), ap (λ v. v.stage) f.0.1, λ one. absurd (omega arith))
  fresh_at n made (p ∷ ps) low f (suc i) d lt = fresh_at (n + 1) made ps (omega arith) f.1 i d (omega arith)

  dealt_at : (made : ℕ) (ps : List (Pass H)) (d : AreDealt z base made ps) (i : ℕ) (e : Pass H) → i < length (d.first ∷ d.rest)
      → Each made (get_or (d.first ∷ d.rest) i e)
  dealt_at made ps d zero e lt = let is = d.own.1 in
      ((d.own.0, ap (λ v. v.base) is), ap (λ v. v.stage) is, λ _. ap (λ v. v.lead) is)
  dealt_at made ps d (suc i) e lt = fresh_at 2 made d.rest (omega arith) d.others i e (omega arith)

  -- the passes of a new board are all its passes
  pub dealt_all : (made : ℕ) (ps : List (Pass H)) → AreDealt z base made ps → AreAll z base ps
  dealt_all made ps d = let many : length ps ≡ length d.rest + 1 = ap length d.passes_are ∙ omega arith in
      let made_is : made ≡ length ps = sym d.many ∙ sym many in record {
        each = λ i e lt. subst (λ (n : ℕ). Each n (get_or ps i e)) made_is
            (subst (λ (l : List (Pass H)). Each made (get_or l i e)) (sym d.passes_are) (dealt_at made ps d i e (omega arith)));
        first = subst HasFirst (sym d.passes_are) (0, (omega arith, λ e. ap (λ v. v.own.number) d.own.1));
      }
