use Rattle.std.proofs.Common.{◌≡◌, ℕ, ◌+◌, ◌*◌, ◌<◌, ◌≤◌, Bool, true, false, length, refl, sym, ◌∙◌, ap, arith}
use Rattle.std.specs.Prelude.{◌&&◌, nat_lt, is_none, IsTrue, ◌↔◌}
use Rattle.std.proofs.lemmas.Bool.{false≢true}
use Rattle.std.proofs.lemmas.Bool.Decides.{nat_tests}
use Rattle.law_clean.specs.Cleaned.{pages_for}
use Rattle.dn_volume.specs.declared.volume.InodeState.{InodeState}
use Rattle.dn_volume.specs.declared.volume.Parts.{Parts}
use Rattle.dn_volume.specs.Cleans.{live_slots, is_live, may_clean_as}
use Rattle.log_clean.proofs.worth.may_clean_as.Goals as goal
use Rattle.log_clean.proofs.worth.may_clean_as.Goals.{then-is_loose, else-is_loose}

-- what `a && b` is, by what a is
and_then : (a b v : Bool) → a ≡ true → v ≡ b → v ≡ (a && b)
and_then true b v is same = same
and_then false b v is same = absurd (false≢true is)

and_else : (a b v : Bool) → a ≡ false → v ≡ a → v ≡ (a && b)
and_else true b v is same = absurd (false≢true (sym is))
and_else false b v is same = same

and_assoc : (a b c : Bool) → (a && (b && c)) ≡ ((a && b) && c)
and_assoc true b c = refl
and_assoc false b c = refl

same_bool : (a b : Bool) → (a ≡ true → b ≡ true) → (b ≡ true → a ≡ true) → a ≡ b
same_bool true b to from = sym (to refl)
same_bool false true to from = from refl
same_bool false false to from = refl

both_test : (a b c d : ℕ) → (nat_lt a b && nat_lt c d) ≡ true → (a < b) × (c < d)
both_test a b c d e = (grind (arith, nat_tests), grind (arith, nat_tests))

test_both : (a b c d : ℕ) → a < b → c < d → (nat_lt a b && nat_lt c d) ≡ true
test_both a b c d lt lt2 = grind (arith, nat_tests)

-- the tests of an inode, and of its log
abbrev loose_test : InodeState → Bool
loose_test n = is_live n.used && is_none n.holder && nat_lt n.round 18446744073709551615

abbrev worth_test : ℕ → ℕ → Bool
worth_test pages slots = nat_lt 1 pages && nat_lt (2 * pages_for slots) (pages + 1)

worth_is : (pages slots : ℕ) (r : Bool) → (IsTrue r ↔ ((2 ≤ pages) × (2 * pages_for slots ≤ pages))) → r ≡ worth_test pages slots
worth_is pages slots r is = same_bool r (worth_test pages slots)
    (λ e. let two = is.0 e in test_both 1 pages (2 * pages_for slots) (pages + 1) (omega (arith, two.0)) (omega (arith, two.1)))
    (λ e. let two = both_test 1 pages (2 * pages_for slots) (pages + 1) e in is.1 (omega (arith, two.0), omega (arith, two.1)))

whole : (b : Parts) (ino : ℕ) (n : InodeState) (slots : ℕ) (loose v r : Bool) → loose ≡ loose_test n → slots ≡ live_slots b ino n
    → v ≡ (loose && worth_test n.log_pages slots) → r ≡ (v && nat_lt (pages_for slots) (length b.free.free)) → r ≡ may_clean_as b ino n
unfolding may_clean_as
whole b ino n slots loose v r loose_is slots_is v_is r_is =
    r_is
    ∙ ap (λ (x : Bool). x && nat_lt (pages_for slots) (length b.free.free))
    (v_is ∙ ap (λ (x : Bool). x && worth_test n.log_pages slots) loose_is
    ∙ and_assoc (loose_test n) (nat_lt 1 n.log_pages) (nat_lt (2 * pages_for slots) (n.log_pages + 1)))
    ∙ ap (λ (m : ℕ). loose_test n && nat_lt 1 n.log_pages && nat_lt (2 * pages_for m) (n.log_pages + 1)
    && nat_lt (pages_for m) (length b.free.free)) slots_is

pub returns-then-is_worth_cleaning : goal.returns-then-is_worth_cleaning
returns-then-is_worth_cleaning c =
    let n = c.args.node.now in
    let slots = c.live_slots-slots.result in
    let worth : c.if-is_loose.value ≡ (c.is_loose.result && worth_test n.log_pages slots) = elim c.if-is_loose.branch [
      | then-is_loose w ↦ and_then c.is_loose.result (worth_test n.log_pages slots) _ w.if-is_loose.true
          (w.value-is ∙ worth_is n.log_pages slots _ w.is_worth_cleaning.ensures.test)
      | else-is_loose w ↦ and_else c.is_loose.result (worth_test n.log_pages slots) _ w.if-is_loose.false w.value-is
    ] in
    whole c.args.parts.now c.args.ino n slots c.is_loose.result c.if-is_loose.value _ c.is_loose.ensures c.live_slots-slots.ensures worth
    (and_then c.if-is_loose.value (nat_lt (pages_for slots) (length c.args.parts.now.free.free)) _ c.if-is_worth_cleaning.true
    (ap (λ (k : ℕ). nat_lt k c.count.result) c.pages_for.ensures ∙ ap (λ (k : ℕ). nat_lt (pages_for slots) k) c.count.ensures.count))

pub returns-else-is_worth_cleaning : goal.returns-else-is_worth_cleaning
returns-else-is_worth_cleaning c =
    let n = c.args.node.now in
    let slots = c.live_slots-slots.result in
    let worth : c.if-is_loose.value ≡ (c.is_loose.result && worth_test n.log_pages slots) = elim c.if-is_loose.branch [
      | then-is_loose w ↦ and_then c.is_loose.result (worth_test n.log_pages slots) _ w.if-is_loose.true
          (w.value-is ∙ worth_is n.log_pages slots _ w.is_worth_cleaning.ensures.test)
      | else-is_loose w ↦ and_else c.is_loose.result (worth_test n.log_pages slots) _ w.if-is_loose.false w.value-is
    ] in
    whole c.args.parts.now c.args.ino n slots c.is_loose.result c.if-is_loose.value _ c.is_loose.ensures c.live_slots-slots.ensures worth
    (and_else c.if-is_loose.value (nat_lt (pages_for slots) (length c.args.parts.now.free.free)) _ c.if-is_worth_cleaning.false refl)
