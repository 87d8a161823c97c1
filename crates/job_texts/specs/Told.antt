-- How a history is told: each entry with the line of its operation.
use Rattle.std.specs.Prelude.{ℕ, ◌+◌, ◌==◌, if◌then◌else◌, List, [], ◌∷◌, ◌++◌, slice_index}
use Rattle.dn_model.specs.declared.op.Entry.{Entry}
use Rattle.dn_report.specs.Report.{Answered, history_text, report_text, stopped_text}

-- the numbers of a client's lines
abbrev pub lines_of : List (ℕ × List ℕ) → ℕ → List ℕ
lines_of [] who = []
lines_of (c ∷ cs) who = if c.0 == who then c.1 else lines_of cs who

-- each entry with its line, where so many of each client's were told before
abbrev pub one_more_of : ℕ → (ℕ → ℕ) → ℕ → ℕ
one_more_of who told q = if q == who then told q + 1 else told q

abbrev pub told_from : List (ℕ × List ℕ) → (ℕ → ℕ) → List Entry → List Answered
told_from numbers told [] = []
told_from numbers told (entry ∷ entries) = record {
  who = entry.who;
  line = slice_index (lines_of numbers entry.who) (told entry.who);
  reply = entry.reply;
} ∷ told_from numbers (one_more_of entry.who told) entries

abbrev pub told_of : List (ℕ × List ℕ) → List Entry → List Answered
told_of numbers history = told_from numbers (λ who. 0) history

-- the text of a run, and that of one that the device stopped
abbrev pub run_text : List (ℕ × List ℕ) → List Entry → ℕ → List ℕ
run_text numbers history free = report_text (told_of numbers history) free

abbrev pub stopped_run_text : List (ℕ × List ℕ) → List Entry → List ℕ
stopped_run_text numbers history = history_text (told_of numbers history) ++ stopped_text
