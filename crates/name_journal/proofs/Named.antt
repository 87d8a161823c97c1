-- Which words a journal may hold.
use Rattle.std.proofs.Common.{◌≡◌, inl, inr, ℕ, ◌+◌, ◌-◌, ◌/◌, ◌%◌, ◌<◌, ◌≤◌, List, length, sym, subst, arith}
use Rattle.std.proofs.lemmas.Bool.{cases_lt, cases_eq}
use Rattle.dn_model.specs.Rolled.{IsJournaled}
use Rattle.name_journal.specs.declared.change.Change.{Change}
use Rattle.name_journal.specs.Changes.{address, IsNewAt, AreChanges}

pub journaled : (inodes at : ℕ) → 1024 ≤ at → (at - 1024) / 16 < inodes → (at - 1024) % 16 < 3 → IsJournaled inodes at
journaled inodes at low in_table first = record {
  ino = (at - 1024) / 16;
  field = (at - 1024) % 16;
  in_table = in_table;
  first_three = first;
  is = omega arith;
}

pub journaled_low : (inodes at : ℕ) → IsJournaled inodes at → 1024 ≤ at
journaled_low inodes at is = omega (arith, is.is)

pub journaled_table : (inodes at : ℕ) → IsJournaled inodes at → (at - 1024) / 16 < inodes
journaled_table inodes at is = omega (arith, is.is, is.in_table, is.first_three)

pub journaled_first : (inodes at : ℕ) → IsJournaled inodes at → (at - 1024) % 16 < 3
journaled_first inodes at is = omega (arith, is.is, is.first_three)

-- the first k changes are such
pub record AreBelow (inodes : ℕ) (changes : List Change) (k : ℕ) : Type 0 where
  pub journaled : (i : ℕ) → i < k → IsJournaled inodes (address changes i)
  pub fresh : (i : ℕ) → i < k → IsNewAt changes i

pub none_below : (inodes : ℕ) (changes : List Change) → AreBelow inodes changes 0
none_below inodes changes = record { journaled = λ i lt. absurd (omega arith); fresh = λ i lt. absurd (omega arith) }

pub one_more : (inodes : ℕ) (changes : List Change) (k : ℕ) → AreBelow inodes changes k → IsJournaled inodes (address changes k) → IsNewAt changes k
    → AreBelow inodes changes (k + 1)
one_more inodes changes k below here fresh = record {
  journaled = λ i lt. elim (cases_eq i k) [
    | inl e ↦ subst (λ (j : ℕ). IsJournaled inodes (address changes j)) (sym e) here
    | inr ne ↦ below.journaled
        i (omega arith)
  ];
  fresh = λ i lt. elim (cases_eq i k) [ inl e ↦ subst (λ (j : ℕ). IsNewAt changes j) (sym e) fresh | inr ne ↦ below.fresh i (omega arith) ];
}

pub all_below : (inodes k : ℕ) (changes : List Change) → k ≡ length changes → AreBelow inodes changes k → AreChanges inodes changes
all_below inodes k changes all below = record {
  journaled = λ i lt. below.journaled i (omega arith);
  apart = λ i j lt lt' e. elim (cases_lt i j) [
    | inl before ↦ absurd (below.fresh j (omega arith) i before e)
    | inr from ↦ elim (cases_lt j i) [ inl after ↦ absurd (below.fresh i (omega arith) j after (sym e)) | inr to ↦ omega arith ]
  ];
}

pub is_new : (inodes i : ℕ) (changes : List Change) → i < length changes → AreChanges inodes changes → IsNewAt changes i
is_new inodes i changes lt are j before e = omega (arith, are.apart j i (omega arith) lt e)
