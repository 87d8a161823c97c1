-- The texts of runs in threads.
use Rattle.std.specs.Prelude.{ℕ, ◌/◌, ◌%◌, ◌^◌, ◌==◌, if◌then◌else◌, List, [], ◌∷◌, ◌++◌, length, codes, slice_index, Option, Some, None}
use Rattle.std.specs.List.{flat_map, range_with_len}
use Rattle.fingerprint.specs.declared.count.CountWord.{CountWord}
use Rattle.dn_model.specs.declared.op.Entry.{Entry}
use Rattle.dn_model.specs.declared.op.CountChange.{CountChange}
use Rattle.dn_report.specs.Report.{spaced_number, line_end, history_text, last_line}
use Rattle.job_texts.specs.Told.{told_of}
use Rattle.thread_texts.specs.declared.lines.CountRead.{CountRead}

-- two counts: of references and of updates under way
abbrev pub counts_text : ℕ → ℕ → List ℕ
counts_text rfc uc = spaced_number rfc ++ spaced_number uc

-- the line of a slot and its count word, behind a letter
abbrev pub word_text : List ℕ → ℕ → ℕ → List ℕ
word_text letter slot word =
    letter ++ spaced_number slot ++ counts_text (word / 2 ^ 32) (word % 2 ^ 32) ++ line_end

-- the line of a row, of the letter o: nothing where the word is 0, which no row has
abbrev pub row_line : ℕ → ℕ → List ℕ
row_line slot word = if word == 0 then [] else word_text (codes "o") slot word

-- the rows, by slot
abbrev pub opening_text : List ℕ → List ℕ
opening_text words =
    flat_map (λ slot. row_line slot (slice_index words slot)) (range_with_len 0 (length words))

-- the line of a change, of the letter t
abbrev pub change_line : CountChange → List ℕ
change_line change = word_text (codes "t") change.slot change.word

-- the counts that a client read, or that there is no such slot
abbrev pub read_text : Option CountWord → List ℕ
read_text (Some count) = counts_text count.rfc count.uc
read_text None = codes " no-slot"

-- and their line: the client, the line of the job, and the slot
abbrev pub read_line : CountRead → List ℕ
read_line read = codes "r" ++ spaced_number read.who ++ spaced_number read.line
    ++ spaced_number read.slot ++ read_text read.count ++ line_end

-- the text of a run that began with these count words and had this history, whose operations have
-- lines of these numbers; these count words changed, these were read, and so many pages are free
abbrev pub thread_text : List ℕ → List (ℕ × List ℕ) → List Entry → List CountChange
    → List CountRead → ℕ → List ℕ
thread_text words numbers history trace reads free =
    opening_text words ++ history_text (told_of numbers history) ++ flat_map change_line trace
    ++ flat_map read_line reads ++ last_line (length history) free
