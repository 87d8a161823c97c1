-- The count word of a row.
use Rattle.std.proofs.Common.{◌≡◌, ◌≢◌, inl, inr, ⊎_elim, ℕ, Bool, List, [], ◌∷◌, sym, ◌∙◌, ap, arith, refl, Contains}
use Rattle.std.specs.Prelude.{if◌then◌else◌}
use Rattle.std.proofs.lemmas.Bool.{cases_eq}
use Rattle.pm_device.specs.State.{State}
use Rattle.fingerprint.specs.Count.{count_word}
use Rattle.dn_model.specs.Table.{Row}
use Rattle.dn_model.specs.Disk.{Disk, rows}
use Rattle.law_table.proofs.Rows.{same_test, other_test, listed_here, listed_later, listed_cases, distinct_same}
use Rattle.fact_table.specs.Table.{IsAtSlot, HasNoneAt}
use Rattle.dn_volume.specs.declared.volume.Parts.{Parts}
use Rattle.dn_volume.specs.Events.{word_in, word_at}
use Rattle.dn_volume.specs.Agrees.{IsVolume}

module _ (slot : ℕ) where
  word_none : (rs : List Row) → ((r : Row) → Contains rs r → r.slot ≢ slot) → word_in rs slot ≡ 0
  word_none [] none = refl
  word_none (r ∷ rs) none =
      ap (λ (t : Bool). if t then count_word r.rfc r.uc else word_in rs slot) (other_test r.slot slot (none r (listed_here r rs)))
      ∙ word_none rs (λ x has. none x (listed_later r rs x has))

  word_found : (word : ℕ) (rs : List Row) → ((r : Row) → Contains rs r → r.slot ≡ slot → count_word r.rfc r.uc ≡ word)
      → (s : Row) → Contains rs s → s.slot ≡ slot → word_in rs slot ≡ word
  word_found word [] each s has at = absurd (let lt = has.1 in omega (arith, lt))
  word_found word (r ∷ rs) each s has at = elim (cases_eq r.slot slot) [
    | inl here ↦ ap (λ (t : Bool). if t then count_word r.rfc r.uc else word_in rs slot) (same_test r.slot slot here) ∙ each r (listed_here r rs) here
    | inr there ↦ ap (λ (t : Bool). if t then count_word r.rfc r.uc else word_in rs slot) (other_test r.slot slot there)
        ∙ word_found word rs (λ x has' is. each x (listed_later r rs x has') is) s
        (⊎_elim (λ same. absurd (there (ap (λ (x : Row). x.slot) same ∙ at))) (λ later. later) (listed_cases r rs s has)) at
  ]

pub word_at_none : (d : Disk) (slot : ℕ) → HasNoneAt d slot → word_at d slot ≡ 0
word_at_none d slot none = word_none slot (rows d) none

pub word_at_row : (d : Disk) (b : Parts) (s : State) → IsVolume d b s → (slot : ℕ) (r : Row) → IsAtSlot d slot r
    → word_at d slot ≡ count_word r.rfc r.uc
word_at_row d b s v slot r is = word_found slot (count_word r.rfc r.uc) (rows d)
    (λ x has at. ap (λ (y : Row). count_word y.rfc y.uc)
    (distinct_same (λ (y : Row). y.slot) (rows d) v.fast.valid.rows_apart.slot x r has is.there (at ∙ sym is.slot_is)))
    r is.there is.slot_is
