-- The plan of a write, from the pages that it takes and gives back.
use Rattle.std.proofs.Common.{
  ◌≡◌,
  inl,
  inr,
  ℕ,
  ◌+◌,
  ◌-◌,
  ◌/◌,
  ◌<◌,
  ◌≤◌,
  Bool,
  true,
  false,
  List,
  [],
  ◌++◌,
  length,
  sym,
  ◌∙◌,
  ap,
  subst,
  arith,
  length-append,
}
use Rattle.std.specs.Prelude.{◌==◌, nat_lt, if◌then◌else◌, All}
use Rattle.std.proofs.lemmas.List.{length-map, append-nil}
use Rattle.std.proofs.lemmas.Bool.{cases_lt}
use Rattle.std.proofs.lemmas.Bool.Decides.{nat_tests}
use Rattle.log_entry.specs.Spelling.{IsSpelled, pages_of}
use Rattle.dn_model.specs.History.{touched}
use Rattle.law_write.specs.Runs.{run_items}
use Rattle.law_write.proofs.RunItems.{runs-spelled}
use Rattle.file_content.specs.Runs.{seen, all_seen}
use Rattle.file_content.specs.declared.runs.Run.{Run}
use Rattle.file_content.specs.Slots.{IsCutInto}
use Rattle.file_write.specs.Plan.{SplitsLog}

-- there are no more runs than places
pub runs-few : (first : ℕ) (pages : List ℕ) (runs : List Run) (places : ℕ) → length pages ≡ places → IsCutInto first pages (all_seen runs)
    → length runs ≤ places
runs-few first pages runs places long cut = omega (arith, length-map runs seen, cut.few, long)

-- the items of the runs can be spelled
pub runs-spelled-in : (first size : ℕ) (pages : List ℕ) (runs : List Run) → first + length pages ≤ pages_of size → size ≤ 16777216
    → IsCutInto first pages (all_seen runs) → All IsSpelled (run_items (all_seen runs) size)
runs-spelled-in first size pages runs inside small cut = runs-spelled size (all_seen runs) first cut.chained (omega (arith, cut.places, inside)) small

-- the places that bytes touch lie in a file that holds the bytes
pub touched-inside : (at count size n : ℕ) → 1 ≤ count → n ≡ touched at count → at + count ≤ size → at / 4096 + n ≤ pages_of size
touched-inside at count size n some is fits = let none : (count == 0) ≡ false = grind (arith, nat_tests) in
    let n_is : n ≡ (at + count + 4095) / 4096 - at / 4096 = is ∙ ap (λ (b : Bool). if b then 0 else (at + count + 4095) / 4096 - at / 4096) none in
    omega arith

-- the pages of a log, split
pub split-whole : (b : Bool) (log fresh spare : List ℕ) → SplitsLog b log fresh spare → fresh ++ spare ≡ log
split-whole true log fresh spare s = ap (λ xs. xs ++ spare) s.0 ∙ ap (λ xs. log ++ xs) s.1 ∙ append-nil log
split-whole false log fresh spare s = ap (λ xs. xs ++ spare) s.0 ∙ s.1

pub split-unused : (room slots : ℕ) (log fresh spare : List ℕ) → SplitsLog (nat_lt room slots) log fresh spare → slots ≤ room → fresh ≡ []
split-unused room slots log fresh spare s le = let not : nat_lt room slots ≡ false = grind (arith, nat_tests) in
    (subst (λ (b : Bool). SplitsLog b log fresh spare) not s).0

pub split-used : (room slots : ℕ) (log fresh spare : List ℕ) → SplitsLog (nat_lt room slots) log fresh spare → room < slots → spare ≡ []
split-used room slots log fresh spare s lt = let yes : nat_lt room slots ≡ true = grind (arith, nat_tests) in
    (subst (λ (b : Bool). SplitsLog b log fresh spare) yes s).1

abbrev one_if : Bool → ℕ
one_if b = if b then 1 else 0

-- the log's page is kept exactly where the slots need it
pub log-page : (room slots places : ℕ) (fresh spare blocks : List ℕ) → slots ≤ places → length blocks ≡ places
    → length (fresh ++ spare ++ blocks) ≡ places + (if nat_lt room places then 1 else 0)
    → (slots ≤ room → fresh ≡ []) → (room < slots → spare ≡ []) → length fresh ≡ (if nat_lt room slots then 1 else 0)
log-page room slots places fresh spare blocks few long all unused used = elim (cases_lt room slots) [
  | inl more ↦
      let yes : nat_lt room slots ≡ true = grind (arith, nat_tests) in
      let also : nat_lt room places ≡ true = grind (arith, nat_tests) in
      omega (arith, length-append (fresh ++ spare) blocks, length-append fresh spare, ap length (used more), long, all, ap one_if also) ∙ sym
      (ap one_if yes)
  | inr enough ↦
      let no_more : nat_lt room slots ≡ false = grind (arith, nat_tests) in
      ap length (unused enough) ∙ sym (ap one_if no_more)
]
