-- What a line of a job says.
use Rattle.std.specs.Prelude.{
  ◌≡◌,
  ℕ,
  Bool,
  true,
  false,
  ◌&&◌,
  ◌==◌,
  nat_le,
  if◌then◌else◌,
  List,
  [],
  ◌∷◌,
  codes,
  Option,
  Some,
  None,
  Result,
  Ok,
  Err,
  replicate,
}
use Rattle.std.specs.Option.{option_and_then}
use Rattle.std.specs.Str.{bytes_eq}
use Rattle.dn_model.specs.declared.op.Op.TheVariants as op
use Rattle.dn_script.specs.declared.line.JobForm.{JobForm}
use Rattle.dn_script.specs.declared.line.JobForm.TheVariants.{Apply, Replay, Run}
use Rattle.dn_script.specs.declared.line.Keyword.{Keyword}
use Rattle.dn_script.specs.declared.line.Keyword.TheVariants as keyword
use Rattle.dn_script.specs.declared.line.LineMeaning.{LineMeaning}
use Rattle.dn_script.specs.declared.line.LineMeaning.TheVariants.{
  Skip,
  Do,
  Count,
  Client,
  Turns,
  Bad,
}
use Rattle.dn_script.specs.declared.line.LineFault.{LineFault}
use Rattle.dn_script.specs.declared.line.LineFault.TheVariants as fault
use Rattle.dn_script.specs.Text.{
  words,
  one_of,
  two_of,
  three_of,
  four_of,
  number_of,
  hex_of,
  byte_of,
  name_of,
}

infixl 10 ◌>>=◌
abbrev pub ◌>>=◌ : {A B : Type 0} → Option A → (A → Option B) → Option B
o >>= f = option_and_then f o

-- the first word of a command
abbrev pub keyword_of : List ℕ → Option Keyword
keyword_of word =
    if bytes_eq word (codes "create") then Some keyword.Create
    else if bytes_eq word (codes "write") then Some keyword.Write
    else if bytes_eq word (codes "fill") then Some keyword.Fill
    else if bytes_eq word (codes "read") then Some keyword.Read
    else if bytes_eq word (codes "cut") then Some keyword.Cut
    else if bytes_eq word (codes "remove") then Some keyword.Remove
    else if bytes_eq word (codes "rename") then Some keyword.Rename
    else if bytes_eq word (codes "size") then Some keyword.Size
    else if bytes_eq word (codes "list") then Some keyword.List
    else if bytes_eq word (codes "client") then Some keyword.Client
    else if bytes_eq word (codes "turns") then Some keyword.Turns
    else if bytes_eq word (codes "count") then Some keyword.Count
    else None

-- whether jobs of a form have a command
abbrev pub has : JobForm → Keyword → Bool
has Apply keyword.Client = false
has Apply keyword.Turns = false
has Apply keyword.Count = false
has Replay keyword.Count = false
has Run keyword.Turns = false
has form word = true

-- the words after the first, command by command: `create NAME`
abbrev pub create_of : List (List ℕ) → Option LineMeaning
create_of ws = do
  word ← one_of ws
  name ← name_of word
  Some (Do (op.Create name) 0)

-- `write NAME AT HEX`
abbrev pub write_of : List (List ℕ) → Option LineMeaning
write_of ws = do
  w ← three_of ws
  name ← name_of w.0
  at ← number_of w.1
  bytes ← hex_of w.2
  Some (Do (op.Write name at bytes) 0)

-- `fill NAME AT LENGTH BYTE`, which writes one byte again and again
abbrev pub fill_of : List (List ℕ) → Option LineMeaning
fill_of ws = do
  w ← four_of ws
  name ← name_of w.0
  at ← number_of w.1
  count ← number_of w.2
  byte ← byte_of w.3
  if nat_le count 131072 then Some (Do (op.Write name at (replicate count byte)) count) else None

-- `read NAME AT LENGTH`
abbrev pub read_of : List (List ℕ) → Option LineMeaning
read_of ws = do
  w ← three_of ws
  name ← name_of w.0
  at ← number_of w.1
  count ← number_of w.2
  Some (Do (op.Read name at count) count)

-- `cut NAME SIZE`
abbrev pub cut_of : List (List ℕ) → Option LineMeaning
cut_of ws = do
  w ← two_of ws
  name ← name_of w.0
  size ← number_of w.1
  Some (Do (op.Cut name size) 0)

-- `remove NAME`
abbrev pub remove_of : List (List ℕ) → Option LineMeaning
remove_of ws = do
  word ← one_of ws
  name ← name_of word
  Some (Do (op.Remove name) 0)

-- `rename NAME NAME`
abbrev pub rename_of : List (List ℕ) → Option LineMeaning
rename_of ws = do
  w ← two_of ws
  from ← name_of w.0
  to ← name_of w.1
  Some (Do (op.Rename from to) 0)

-- `size NAME`
abbrev pub size_of : List (List ℕ) → Option LineMeaning
size_of ws = do
  word ← one_of ws
  name ← name_of word
  Some (Do (op.Size name) 0)

-- `list`
abbrev pub list_of : List (List ℕ) → Option LineMeaning
list_of [] = Some (Do op.List 1048576)
list_of (w ∷ ws) = None

-- `client N`, from 1 to 14
abbrev pub client_of : List (List ℕ) → Option LineMeaning
client_of ws = do
  word ← one_of ws
  n ← number_of word
  if nat_le 1 n && nat_le n 14 then Some (Client n) else None

-- numbers, each of one word
abbrev pub numbers_of : List (List ℕ) → Option (List ℕ)
numbers_of [] = Some []
numbers_of (w ∷ ws) = do
  n ← number_of w
  ns ← numbers_of ws
  Some (n ∷ ns)

-- `turns N ..`
abbrev pub turns_of : List (List ℕ) → Option LineMeaning
turns_of [] = None
turns_of (w ∷ ws) = do
  ns ← numbers_of (w ∷ ws)
  Some (Turns ns)

-- `count SLOT`
abbrev pub count_of : List (List ℕ) → Option LineMeaning
count_of ws = do
  word ← one_of ws
  slot ← number_of word
  Some (Count slot)

-- the words after a first word
abbrev pub after_keyword : Keyword → List (List ℕ) → Option LineMeaning
after_keyword keyword.Create ws = create_of ws
after_keyword keyword.Write ws = write_of ws
after_keyword keyword.Fill ws = fill_of ws
after_keyword keyword.Read ws = read_of ws
after_keyword keyword.Cut ws = cut_of ws
after_keyword keyword.Remove ws = remove_of ws
after_keyword keyword.Rename ws = rename_of ws
after_keyword keyword.Size ws = size_of ws
after_keyword keyword.List ws = list_of ws
after_keyword keyword.Client ws = client_of ws
after_keyword keyword.Turns ws = turns_of ws
after_keyword keyword.Count ws = count_of ws

-- a command of a form
abbrev pub command_of : JobForm → List (List ℕ) → Option LineMeaning
command_of form [] = None
command_of form (first ∷ ws) = do
  word ← keyword_of first
  if has form word then after_keyword word ws else None

-- the meaning, where a line has one
abbrev pub or_bad : Option LineMeaning → LineMeaning
or_bad None = Bad
or_bad (Some meaning) = meaning

-- what a line of a job of this form says: an empty line and one that begins with `#` say nothing
abbrev pub meaning_of : JobForm → List ℕ → LineMeaning
meaning_of form [] = Skip
meaning_of form (c ∷ cs) = if c == 35 then Skip else or_bad (command_of form (words (c ∷ cs)))

-- what a reader of words returned is what they say, unless memory ran out
abbrev pub Fails : {A : Type 0} → LineFault → Option A → Type 0
Fails fault.NoMemory said = Unit {0}
Fails fault.Bad said = said ≡ None

abbrev pub GivesBy : {X A : Type 0} → (X → A) → Result X LineFault → Option A → Type 0
GivesBy view (Ok x) said = said ≡ Some (view x)
GivesBy view (Err e) said = Fails e said

abbrev pub Gives : {A : Type 0} → Result A LineFault → Option A → Type 0
Gives result said = GivesBy (λ x. x) result said
