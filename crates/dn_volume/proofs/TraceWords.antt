-- The count words that a trace leads to.
use Rattle.std.proofs.Common.{◌≡◌, ◌≢◌, inl, inr, ⊎_elim, ℕ, Bool, true, false, List, [], ◌∷◌, refl, sym, ◌∙◌, ap, subst, arith, map}
use Rattle.std.specs.Prelude.{if◌then◌else◌, ◌==◌, Contains}
use Rattle.std.proofs.lemmas.Bool.{cases_eq}
use Rattle.std.proofs.lemmas.Bool.Decides.{nat_tests}
use Rattle.fingerprint.specs.Count.{count_word}
use Rattle.dn_model.specs.Table.{Row}
use Rattle.dn_model.specs.Disk.{Disk, rows}
use Rattle.law_table.specs.Changes.{recount, recounted}
use Rattle.law_table.proofs.Rows.{same_test, other_test, listed_cases}
use Rattle.law_table.proofs.Counted.{rows_recounted}
use Rattle.dn_volume.specs.Events.{word_in, word_at, word_after}

module _ (slot rfc uc : ℕ) where
  abbrev set : Row → Row
  set = recount slot rfc uc

  other_test' : (r other : ℕ) → (r == other) ≡ true → other ≢ slot → (r == slot) ≡ false
  other_test' r other is ne = grind (arith, nat_tests)

  other_words : (other : ℕ) → other ≢ slot → (rs : List Row) → word_in (map set rs) other ≡ word_in rs other
  other_words other ne [] = refl
  other_words other ne (row ∷ rs) = by_test (other_words other ne rs) (row.slot == other) refl
    where
      by_test : word_in (map set rs) other ≡ word_in rs other → (b : Bool) → (row.slot == other) ≡ b
          → (if b then count_word (set row).rfc (set row).uc else word_in (map set rs) other) ≡ (if b then count_word row.rfc row.uc else word_in rs
          other)
      by_test later true is = ap (λ (t : Bool). count_word (if t then rfc else row.rfc) (if t then uc else row.uc)) (other_test' row.slot other is ne)
      by_test later false is = later

  this_word : (rs : List Row) (row : Row) → row.slot ≡ slot → Contains rs row → word_in (map set rs) slot ≡ count_word rfc uc
  this_word [] row same has = absurd (omega (arith, has.1))
  this_word (r ∷ rs) row same has = elim (cases_eq r.slot slot) [
    | inl here ↦ ap (λ (t : Bool). if t then count_word (if t then rfc else r.rfc) (if t then uc else r.uc) else word_in (map set rs) slot)
        (same_test r.slot slot here)
    | inr there ↦
        ap (λ (t : Bool). if t then count_word (if t then rfc else r.rfc) (if t then uc else r.uc) else word_in (map set rs) slot)
        (other_test r.slot slot there)
        ∙ this_word rs row same (⊎_elim (λ (first : r ≡ row). absurd (there (ap (λ (x : Row). x.slot) first ∙ same))) (λ later. later)
        (listed_cases r rs row has))
  ]

-- one change of the row at a slot leads from the counts of before to those of after
pub words_follow : (d : Disk) (slot rfc uc word : ℕ) (row : Row) → row.slot ≡ slot → Contains (rows d) row → word ≡ count_word rfc uc → (other : ℕ)
    → word_at (recounted d slot rfc uc) other ≡ word_after (record { slot = slot; word = word } ∷ []) other (word_at d other)
words_follow d slot rfc uc word row same has is other = ap (λ (rs : List Row). word_in rs other) (rows_recounted slot rfc uc d) ∙ elim
    (cases_eq other slot) [
      | inl here ↦
          subst (λ (x : ℕ). word_in (map (recount slot rfc uc) (rows d)) x ≡ word_after (record { slot = slot; word = word } ∷ []) x (word_at d x))
          (sym here)
          (this_word slot rfc uc (rows d) row same has ∙ sym is ∙ sym (ap (λ (t : Bool). if t then word else word_at d slot) (same_test slot slot refl)))
      | inr there ↦ other_words slot rfc uc other there (rows d) ∙ sym (ap (λ (t : Bool). if t then word else word_at d other)
          (other_test slot other (λ e. there (sym e))))
    ]
