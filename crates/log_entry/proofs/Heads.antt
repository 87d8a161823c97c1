-- What the first slot says of the item that slots may spell.
use Rattle.std.proofs.Common.{◌≡◌, Bool, false, Option, None, Some, ◌≢◌, ℕ, ◌<◌, ◌≤◌, List, [], length, get_or, refl, sym, ◌∙◌, ap, subst, arith}
use Rattle.std.specs.Prelude.{slice_index, IsTrue, IfSome, IsSomeAnd}
use Rattle.std.proofs.lemmas.Bool.{false≢true}
use Rattle.log_entry.specs.Name.{IsLegal}
use Rattle.log_entry.specs.Spelling.{flag_number, name_slots, spelling, IsSpelled}
use Rattle.log_entry.specs.Reading.{Agrees, name_bytes, IsCandidate}
use Rattle.log_entry.proofs.Unique.{flag_one}
use Rattle.log_entry.proofs.Spelled.{spelling_some}
use Rattle.log_entry.proofs.Named.{read_legal, read_agrees}
use Rattle.log_entry.specs.declared.item.Flag.{Flag}
use Rattle.log_entry.specs.declared.item.LogItem.{LogItem}
use Rattle.log_entry.specs.declared.item.LogItem.TheVariants.{Write, Size, Add, Forget}

-- the number of an item's kind
pub kind : LogItem → ℕ
kind item = slice_index (get_or (spelling item) 0 []) 0

pub head_same : (item : LogItem) (slots : List (List ℕ)) → 0 < length slots → Agrees slots (spelling item)
    → get_or slots 0 [] ≡ get_or (spelling item) 0 []
head_same item slots some same = same 0 some (omega (arith, spelling_some item))

pub spelling-add : (ino : ℕ) (name : List ℕ) → spelling (Add ino name) ≡ name_slots 3 ino name
unfolding spelling
spelling-add ino name = refl

pub spelling-forget : (name : List ℕ) → spelling (Forget name) ≡ name_slots 4 0 name
unfolding spelling
spelling-forget name = refl

-- a Write whose first slot is this
pub record IsWriteOf (item : LogItem) (head : List ℕ) : Type 0 where
  pub flag : Flag
  pub number : flag_number flag ≡ slice_index head 5
  pub is : item ≡ Write (slice_index head 1) (slice_index head 2) (slice_index head 3) (slice_index head 4) flag (slice_index head 6)

pub write_head : (item : LogItem) (head : List ℕ) → head ≡ get_or (spelling item) 0 [] → slice_index head 0 ≡ 1 → IsWriteOf item head
unfolding spelling
write_head (Write first count block size flag mask) head e k = record {
  flag = flag;
  number = sym (ap (λ h. slice_index h 5) e);
  is = sym (ap (λ (h : List ℕ). Write (slice_index h 1) (slice_index h 2) (slice_index h 3) (slice_index h 4) flag (slice_index h 6)) e);
}
write_head (Size size) head e k = absurd (omega (arith, ap (λ h. slice_index h 0) e))
write_head (Add ino name) head e k = absurd (omega (arith, ap (λ h. slice_index h 0) e))
write_head (Forget name) head e k = absurd (omega (arith, ap (λ h. slice_index h 0) e))

pub size_head : (item : LogItem) (head : List ℕ) → head ≡ get_or (spelling item) 0 [] → slice_index head 0 ≡ 2 → item ≡ Size (slice_index head 1)
unfolding spelling
size_head (Size size) head e k = sym (ap (λ (h : List ℕ). Size (slice_index h 1)) e)
size_head (Write first count block size flag mask) head e k = absurd (omega (arith, ap (λ h. slice_index h 0) e))
size_head (Add ino name) head e k = absurd (omega (arith, ap (λ h. slice_index h 0) e))
size_head (Forget name) head e k = absurd (omega (arith, ap (λ h. slice_index h 0) e))

-- the name that is read is legal, and its item agrees with the slots
pub record NameFits (item : LogItem) (slots : List (List ℕ)) : Type 0 where
  pub legal : IsLegal (name_bytes slots)
  pub same : Agrees slots (spelling item)

pub add_fits : (item : LogItem) (slots : List (List ℕ)) → 0 < length slots → slice_index (get_or slots 0 []) 0 ≡ 3 → IsSpelled item
    → Agrees slots (spelling item)
    → NameFits (Add (slice_index (get_or slots 0 []) 1) (name_bytes slots)) slots
unfolding spelling
add_fits (Add ino name) slots some k legal same =
    let i : ino ≡ slice_index (get_or slots 0 []) 1 = sym (ap (λ h. slice_index h 1) (head_same (Add ino name) slots some same)) in
    record {
      legal = read_legal 3 ino name slots legal some same;
      same = subst (λ (j : ℕ). Agrees slots (name_slots 3 j (name_bytes slots))) i (read_agrees 3 ino name slots legal some same);
    }
add_fits (Write first count block size flag mask) slots some k legal same =
    absurd (omega (arith, k, ap (λ h. slice_index h 0) (head_same (Write first count block size flag mask) slots some same)))
add_fits (Size size) slots some k legal same = absurd (omega (arith, k, ap (λ h. slice_index h 0) (head_same (Size size) slots some same)))
add_fits (Forget name) slots some k legal same = absurd (omega (arith, k, ap (λ h. slice_index h 0) (head_same (Forget name) slots some same)))

pub forget_fits : (item : LogItem) (slots : List (List ℕ)) → 0 < length slots → slice_index (get_or slots 0 []) 0 ≡ 4 → IsSpelled item
    → Agrees slots (spelling item)
    → NameFits (Forget (name_bytes slots)) slots
unfolding spelling
forget_fits (Forget name) slots some k legal same = record {
  legal = read_legal 4 0 name slots legal some same;
  same = read_agrees 4 0 name slots legal some same;
}
forget_fits (Write first count block size flag mask) slots some k legal same =
    absurd (omega (arith, k, ap (λ h. slice_index h 0) (head_same (Write first count block size flag mask) slots some same)))
forget_fits (Size size) slots some k legal same = absurd (omega (arith, k, ap (λ h. slice_index h 0) (head_same (Size size) slots some same)))
forget_fits (Add ino name) slots some k legal same = absurd (omega (arith, k, ap (λ h. slice_index h 0) (head_same (Add ino name) slots some same)))

-- an item is of one of four kinds
pub some_kind : (item : LogItem) (head : List ℕ) → head ≡ get_or (spelling item) 0 [] → (1 ≤ slice_index head 0) × (slice_index head 0 ≤ 4)
unfolding spelling
some_kind (Write first count block size flag mask) head e = let k = ap (λ h. slice_index h 0) e in (omega (arith, k), omega (arith, k))
some_kind (Size size) head e = let k = ap (λ h. slice_index h 0) e in (omega (arith, k), omega (arith, k))
some_kind (Add ino name) head e = let k = ap (λ h. slice_index h 0) e in (omega (arith, k), omega (arith, k))
some_kind (Forget name) head e = let k = ap (λ h. slice_index h 0) e in (omega (arith, k), omega (arith, k))

pub write_is : (item : LogItem) (head : List ℕ) → head ≡ get_or (spelling item) 0 [] → slice_index head 0 ≡ 1 → (flag : Flag)
    → flag_number flag ≡ slice_index head 5
    → item ≡ Write (slice_index head 1) (slice_index head 2) (slice_index head 3) (slice_index head 4) flag (slice_index head 6)
write_is item head e k flag number =
    let w = write_head item head e k in
    let same : w.flag ≡ flag = flag_one w.flag flag (w.number ∙ sym number) in
    subst (λ (f : Flag). item ≡ Write (slice_index head 1) (slice_index head 2) (slice_index head 3) (slice_index head 4) f (slice_index head 6)) same
    w.is

-- a test that holds and failed
pub refused : (answer : Bool) → IsTrue answer → answer ≡ false → ⊥
refused answer holds failed = false≢true (sym failed ∙ holds)

-- no item, where the name that begins in slots isn't legal
pub unnamed : (item : LogItem) (slots : List (List ℕ)) → (IsLegal (name_bytes slots) → ⊥)
    → ((other : LogItem) → IsSpelled other → Agrees slots (spelling other) → NameFits item slots) → IsCandidate None slots
unnamed item slots none fits = record { spelled = tt; only = λ other good same. absurd (none (fits other good same).legal) }

-- the item of the name that begins in slots
pub named : (make : List ℕ → LogItem) (name : List ℕ) (slots : List (List ℕ)) → name ≡ name_bytes slots → IsSpelled (make name)
    → ((other : LogItem) → IsSpelled other → Agrees slots (spelling other) → NameFits (make (name_bytes slots)) slots)
    → IsCandidate (Some (make name)) slots
named make name slots is spelled fits = record {
  spelled = spelled;
  only = λ other good same. subst (λ (n : List ℕ). Agrees slots (spelling (make n))) (sym is) (fits other good same).same;
}

-- an item that is the only one with this first slot
pub from_head : (found : Option LogItem) (slots : List (List ℕ)) → 0 < length slots → IfSome found IsSpelled
    → ((item : LogItem) → IsSpelled item → get_or slots 0 [] ≡ get_or (spelling item) 0 [] → found ≡ Some item) → IsCandidate found slots
from_head found slots some spelled only = record {
  spelled = spelled;
  only = λ item good same. subst (λ (f : Option LogItem). IsSomeAnd f (λ one. Agrees slots (spelling one)))
      (sym (only item good (head_same item slots some same))) same;
}

pub no_kind : (slots : List (List ℕ)) → 0 < length slots → (slice_index (get_or slots 0 []) 0 ≢ 1) → (slice_index (get_or slots 0 []) 0 ≢ 2)
    → (slice_index (get_or slots 0 []) 0 ≢ 3) → (slice_index (get_or slots 0 []) 0 ≢ 4) → IsCandidate None slots
no_kind slots some one two three four = record {
  spelled = tt;
  only = λ item good same.
      let k = some_kind item (get_or slots 0 []) (head_same item slots some same) in
      absurd (omega (arith, k.0, k.1));
}

pub candidate_spelled : (found : Option LogItem) (item : LogItem) (slots : List (List ℕ)) → IsCandidate found slots → found ≡ Some item
    → IsSpelled item
candidate_spelled found item slots one is = let spelled : IfSome (Some item) IsSpelled = subst (λ (f : Option LogItem). IfSome f IsSpelled) is
    one.spelled in spelled

-- where the candidate doesn't agree, no item does
pub none_agrees : (found : Option LogItem) (item : LogItem) (slots : List (List ℕ)) → IsCandidate found slots → found ≡ Some item
    → (Agrees slots (spelling item) → ⊥) → (other : LogItem) → IsSpelled other → Agrees slots (spelling other) → ⊥
none_agrees found item slots one is refused other good same =
    let all : IsSomeAnd (Some item) (λ i. Agrees slots (spelling i)) =
    subst (λ (f : Option LogItem). IsSomeAnd f (λ i. Agrees slots (spelling i))) is (one.only other good same) in
    refused all

pub none_at_all : (found : Option LogItem) (slots : List (List ℕ)) → IsCandidate found slots → found ≡ None
    → (other : LogItem) → IsSpelled other → Agrees slots (spelling other) → ⊥
none_at_all found slots one is other good same =
    let all : IsSomeAnd None (λ i. Agrees slots (spelling i)) =
    subst (λ (f : Option LogItem). IsSomeAnd f (λ i. Agrees slots (spelling i))) is (one.only other good same) in
    all
