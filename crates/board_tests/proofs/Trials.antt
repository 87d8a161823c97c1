-- What the tests' entries are to other numbers.
use Rattle.std.proofs.Common.{◌≡◌, ◌≢◌, ℕ, ◌+◌, ◌<◌, get_or, List, ◌∷◌, ◌++◌, [], map, replicate, sym, refl, ap, ◌∙◌, subst, ne_eqb, zero, suc, arith}
use Rattle.std.proofs.Common.{All, append-nil}
use Rattle.std.proofs.lemmas.List.{replicate-append-replicate, map-append}
use Rattle.count_board.specs.declared.told.Mark.{Mark}
use Rattle.count_board.specs.declared.view.Account.{Account}
use Rattle.count_board.specs.declared.view.Seen.{Seen}
use Rattle.count_board.specs.declared.view.Seen.TheVariants.{Count, Front, Turn}
use Rattle.count_board.specs.Reads.{counts_of, ReadsFit}
use Rattle.count_board.specs.Ends.{Settles, AllSettle, Ends}
use Rattle.count_board.specs.Passes.{account, IsAway, Leads}
use Rattle.count_board.specs.declared.pass.Pass.{Pass}
use Rattle.count_board.specs.declared.board.Board.{Board}
use Rattle.count_board.specs.Boards.{IsPassOf, AreItsPasses}
use Rattle.count_board.proofs.Fitting.{counts_of-append, counts_fit}
use Rattle.board_tests.specs.declared.tally.Tally.{Tally}
use Rattle.count_board.specs.Told.{Told, entries_by}
use Rattle.board_tests.specs.Kinds.{by}
use Rattle.board_tests.specs.Trial.{counts, HasDone, Stands, IsFirst, IsSecond}

pub none_by : (n k : ℕ) → k ≢ n → entries_by k (by n ∷ []) ≡ []
none_by n k ne = rw (ne_eqb n k (λ e. ne (sym e))) refl

pub all_none : {A : Type 0} (P : A → Type 0) → All P []
all_none P = λ k d lt. absurd (omega arith)

pub all_one : {A : Type 0} (P : A → Type 0) (x : A) → P x → All P (x ∷ [])
all_one P x h zero d lt = h
all_one P x h (suc k) d lt = absurd (omega arith)

-- a turn that was seen, or a front, is no count
pub counts_of-turn : (xs : List Seen) (n : ℕ) (mark : Mark) → counts_of (xs ++ Turn n mark ∷ []) ≡ counts_of xs
counts_of-turn xs n mark = counts_of-append xs (Turn n mark) ∙ append-nil (counts_of xs)

pub counts_of-front : (xs : List Seen) (n : ℕ) → counts_of (xs ++ Front n ∷ []) ≡ counts_of xs
counts_of-front xs n = counts_of-append xs (Front n) ∙ append-nil (counts_of xs)

-- one turn more, and one word
pub done_more : (number made more word : ℕ) (words words' : List ℕ) (a b : Account) → HasDone number made words a → b.number ≡ a.number
    → b.calls ≡ a.calls ++ replicate more (by a.number)
    → counts_of b.seen ≡ counts_of a.seen ++ Count 1 word ∷ [] → words' ≡ words ++ word ∷ [] → HasDone number (made + more) words' b
done_more number made more word words words' a b d same calls read words_are = record {
  number_is = same ∙ d.number_is;
  calls = calls ∙ ((λ i. d.calls i ++ replicate more (by (d.number_is i))) ∙ replicate-append-replicate made more (by number));
  read = read ∙ (ap (λ (l : List Seen). l ++ Count 1 word ∷ []) d.read
      ∙ (sym (map-append (λ (w : ℕ). Count 1 w) words (word ∷ [])) ∙ ap counts (sym words_are)));
}

pub stands : (told : Tally → Told) (words : Tally → List ℕ) (fact : Tally → Tally
    → Type 0) (base x : Tally) (a : Account) (number made : ℕ) (read : List ℕ) → words base ≡ 0 ∷ 0 ∷ []
    → Settles words told fact base x a → HasDone number made read a → Stands number made read (told x).entries (told x).trace
stands told words fact base x a number made read zeros s d = record {
  calls = ap (λ n. entries_by n (told x).entries) (sym d.number_is) ∙ (s.calls ∙ d.calls);
  read = subst (λ (l : List Seen). ReadsFit (0 ∷ 0 ∷ []) (told x).trace l) d.read
      (counts_fit (0 ∷ 0 ∷ []) (told x).trace a.seen (subst (λ (l : List ℕ). ReadsFit l (told x).trace a.seen) zeros s.reads));
}

both_settle : (words : Tally → List ℕ) (told : Tally → Told) (fact : Tally → Tally
    → Type 0) (base x : Tally) (n : ℕ) (items : List (Pass Tally)) (p q : Pass Tally)
    → Ends words told fact base x n (map account items) → items ≡ p ∷ q ∷ [] → Settles words told fact base x (account p)
    × Settles words told fact base x (account q)
both_settle words told fact base x n items p q e is = let each : AllSettle words told fact base x (account p ∷ account q ∷ []) =
    subst (λ (l : List (Pass Tally)). AllSettle words told fact base x (map account l)) is e.each in
    (each.0, each.1.0)

pub head_stands : (words : Tally → List ℕ) (told : Tally → Told) (fact : Tally → Tally
    → Type 0) (base x : Tally) (n : ℕ) (items : List (Pass Tally)) (p q : Pass Tally) (number number' made : ℕ) (read : List ℕ)
    → Ends words told fact base x n (map account items) → items ≡ p ∷ q ∷ [] → words base ≡ 0 ∷ 0 ∷ [] → number' ≡ number
    → HasDone number' made read (account p)
    → Stands number made read (told x).entries (told x).trace
head_stands words told fact base x n items p q number number' made read e is zeros same d =
    stands told words fact base x (account p) number made read zeros (both_settle words told fact base x n items p q e is).0
    (subst (λ (k : ℕ). HasDone k made read (account p)) same d)

pub next_stands : (words : Tally → List ℕ) (told : Tally → Told) (fact : Tally → Tally
    → Type 0) (base x : Tally) (n : ℕ) (items : List (Pass Tally)) (p q : Pass Tally) (number number' made : ℕ) (read : List ℕ)
    → Ends words told fact base x n (map account items) → items ≡ p ∷ q ∷ [] → words base ≡ 0 ∷ 0 ∷ [] → number' ≡ number
    → HasDone number' made read (account q)
    → Stands number made read (told x).entries (told x).trace
next_stands words told fact base x n items p q number number' made read e is zeros same d =
    stands told words fact base x (account q) number made read zeros (both_settle words told fact base x n items p q e is).1
    (subst (λ (k : ℕ). HasDone k made read (account q)) same d)

-- both passes, the second one first
pub all_two : (b : Board Tally) (items : List (Pass Tally)) (first second : Pass Tally) → items ≡ second ∷ first ∷ [] → IsFirst b first
    → IsSecond b second
    → AreItsPasses b items
all_two b items first second is f s = subst (AreItsPasses b) (sym is) record { each = at; first = (1, (omega arith, λ d. f.3)) }
  where
    at : (k : ℕ) (d : Pass Tally) → k < 2 → IsPassOf b (get_or (second ∷ first ∷ []) k d) × IsAway (get_or (second ∷ first ∷ []) k d)
        × Leads 2 (get_or (second ∷ first ∷ []) k d)
    at zero d lt = (s.0, s.1, λ one. absurd (not_one one))
      where
        not_one : (account second).number ≡ 1 → ⊥
        not_one one = let two = s.2 in omega arith
    at (suc zero) d lt = (f.0, f.1, λ _. f.2)
    at (suc (suc k)) d lt = absurd (omega arith)
