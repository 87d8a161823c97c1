-- The texts that the program writes.
use Rattle.std.specs.Prelude.{ℕ, List, [], ◌∷◌, ◌++◌, length, codes, decimal}
use Rattle.std.specs.List.{flat_map}
use Rattle.hex.specs.Hex.{encode_lower}
use Rattle.dn_model.specs.declared.op.Refusal.{Refusal}
use Rattle.dn_model.specs.declared.op.Refusal.TheVariants.{
  BadName,
  NotFound,
  Exists,
  TooLong,
  TooBig,
  NoInode,
  NoSpace,
}
use Rattle.dn_model.specs.declared.op.Reply.{Reply}
use Rattle.dn_model.specs.declared.op.Reply.TheVariants.{Done, Bytes, Number, Names, Refused}
use Rattle.dn_report.specs.declared.report.Cause.{Cause}
use Rattle.dn_report.specs.declared.report.Cause.TheVariants.{
  TooFewPages,
  TooManyPages,
  BadInodes,
  WrongSize,
  BadName as NoName,
  NotFound as NoFile,
}

-- a text behind a space
abbrev pub spaced : List ℕ → List ℕ
spaced text = 32 ∷ text

-- a number behind a space
abbrev pub spaced_number : ℕ → List ℕ
spaced_number number = spaced (decimal number)

-- the hexadecimal digits of bytes behind a space, or nothing where there are no bytes
unfoldable pub spaced_digits : List ℕ → List ℕ
spaced_digits [] = []
spaced_digits (b ∷ bs) = spaced (encode_lower (b ∷ bs))

-- bytes: how many, and their digits
abbrev pub bytes_text : List ℕ → List ℕ
bytes_text bytes = codes "bytes" ++ spaced_number (length bytes) ++ spaced_digits bytes

-- names: how many, and each
abbrev pub names_text : List (List ℕ) → List ℕ
names_text names = codes "names" ++ spaced_number (length names) ++ flat_map spaced names

abbrev pub refusal_text : Refusal → List ℕ
refusal_text BadName = codes "bad-name"
refusal_text NotFound = codes "not-found"
refusal_text Exists = codes "exists"
refusal_text TooLong = codes "too-long"
refusal_text TooBig = codes "too-big"
refusal_text NoInode = codes "no-inode"
refusal_text (NoSpace needed free) = codes "no-space" ++ spaced_number needed ++ spaced_number free

abbrev pub reply_text : Reply → List ℕ
reply_text Done = codes "done"
reply_text (Bytes bytes) = bytes_text bytes
reply_text (Number number) = codes "number" ++ spaced_number number
reply_text (Names names) = names_text names
reply_text (Refused refusal) = refusal_text refusal

-- what ends a line
abbrev pub line_end : List ℕ
line_end = 10 ∷ []

-- the line of one operation: the client, its line of the job, and the reply
unfoldable pub history_line : ℕ → ℕ → Reply → List ℕ
history_line who line reply = decimal who ++ spaced_number line ++ spaced (reply_text reply) ++
    line_end

-- the last line: how many operations there were, and the free pages
abbrev pub last_line : ℕ → ℕ → List ℕ
last_line entries free = codes "end" ++ spaced_number entries ++ spaced_number free ++ line_end

-- an operation of a history that was answered
pub record Answered : Type 0 where
  pub who : ℕ
  pub line : ℕ
  pub reply : Reply

-- the history lines
abbrev pub history_text : List Answered → List ℕ
history_text history = flat_map (λ a. history_line a.who a.line a.reply) history

-- the report of a history that left so many pages free
abbrev pub report_text : List Answered → ℕ → List ℕ
report_text history free = history_text history ++ last_line (length history) free

-- the text of a job with a line that is no command
abbrev pub bad_line_text : ℕ → List ℕ
bad_line_text line = codes "bad-line" ++ spaced_number line ++ line_end

-- the text of a job whose schedule has a number that is no actor of it
abbrev pub bad_turn_text : ℕ → List ℕ
bad_turn_text number = codes "bad-turn" ++ spaced_number number ++ line_end

-- the text of an image with a length that none has
abbrev pub bad_length_text : ℕ → List ℕ
bad_length_text bytes = codes "denova: bad length" ++ spaced_number bytes ++ line_end

-- why a call was refused
abbrev pub cause_text : Cause → List ℕ
cause_text TooFewPages = codes "too-few-pages"
cause_text TooManyPages = codes "too-many-pages"
cause_text BadInodes = codes "bad-inodes"
cause_text (WrongSize words) = codes "wrong-size" ++ spaced_number words
cause_text NoName = codes "bad-name"
cause_text NoFile = codes "not-found"

abbrev pub refused_text : Cause → List ℕ
refused_text cause = codes "refused" ++ spaced (cause_text cause) ++ line_end

-- the text of a file system that was made: its pages, inodes and free pages
abbrev pub formatted_text : ℕ → ℕ → ℕ → List ℕ
formatted_text pages inodes free = codes "formatted" ++ spaced_number pages ++ spaced_number
    inodes ++ spaced_number free ++ line_end

-- the texts of the other statuses
abbrev pub usage_text : List ℕ
usage_text = codes "usage" ++ line_end

abbrev pub stopped_text : List ℕ
stopped_text = codes "stopped" ++ line_end

abbrev pub read_fault_text : List ℕ
read_fault_text = codes "read-fault" ++ line_end

abbrev pub no_memory_text : List ℕ
no_memory_text = codes "no-memory" ++ line_end

abbrev pub too_long_text : List ℕ
too_long_text = codes "too-long" ++ line_end
