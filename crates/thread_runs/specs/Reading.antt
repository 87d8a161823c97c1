-- What a client's lines have it read.
use Rattle.std.specs.Prelude.{◌≡◌, ◌↔◌, ℕ, ◌≤◌, List, [], ◌∷◌, ◌++◌, Option, Some, None}
use Rattle.fingerprint.specs.Count.{count_word}
use Rattle.fingerprint.specs.declared.count.CountWord.{CountWord}
use Rattle.dn_script.specs.declared.job.Command.{Command}
use Rattle.dn_script.specs.declared.job.Command.TheVariants.{Do, Count as Look}
use Rattle.dn_script.specs.declared.job.Line.{Line}
use Rattle.count_board.specs.declared.view.Seen.{Seen}
use Rattle.count_board.specs.declared.view.Seen.TheVariants.{Count}
use Rattle.thread_runs.specs.declared.reading.Reading.{Reading}

-- the number of a line that reads a count, and the slot that it reads
abbrev pub look_in : ℕ → Command → List (ℕ × ℕ)
look_in number (Do op) = []
look_in number (Look slot) = (number, slot) ∷ []

abbrev pub looks_in : List Line → List (ℕ × ℕ)
looks_in [] = []
looks_in (line ∷ lines) = look_in line.number line.command ++ looks_in lines

-- what was read by such a line: there is no count exactly where the slot isn't below the slots
pub record IsReading (slots : ℕ) (look : ℕ × ℕ) (r : Reading) : Type 0 where
  pub line : r.line ≡ look.0
  pub slot : r.slot ≡ look.1
  pub past : (r.count ≡ None) ↔ (slots ≤ look.1)

-- two lists are as long, and their members are so in pairs
abbrev pub Pairs : {A B : Type 0} → (A → B → Type 0) → List A → List B → Type 0
Pairs P [] [] = Unit {0}
Pairs P [] (y ∷ ys) = ⊥
Pairs P (x ∷ xs) [] = ⊥
Pairs P (x ∷ xs) (y ∷ ys) = P x y × Pairs P xs ys

-- one reading for each line that reads a count, in order
abbrev pub ReadsLines : ℕ → List Line → List Reading → Type 0
ReadsLines slots lines readings = Pairs (IsReading slots) (looks_in lines) readings

-- the counts that were read, as a pass notes them
abbrev pub seen_of : ℕ → Option CountWord → List Seen
seen_of slot None = []
seen_of slot (Some word) = Count slot (count_word word.rfc word.uc) ∷ []

abbrev pub seen_in : List Reading → List Seen
seen_in [] = []
seen_in (r ∷ rs) = seen_of r.slot r.count ++ seen_in rs
