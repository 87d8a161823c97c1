-- The command that the words after the program's name give.
use Rattle.std.specs.Prelude.{
  ◌≡◌,
  ℕ,
  Bool,
  true,
  false,
  not,
  ◌&&◌,
  ◌==◌,
  nat_le,
  if◌then◌else◌,
  List,
  [],
  ◌∷◌,
  length,
  codes,
  slice_index,
  bytes_eq,
  Option,
  Some,
  None,
  option_map,
  option_and_then,
}
use Rattle.std.specs.List.{list_all}
use Rattle.dn_script.specs.Text.{number_of, name_of, one_of, two_of}
use Rattle.denova_words.specs.declared.words.Command.{Command}
use Rattle.denova_words.specs.declared.words.Command.TheVariants.{
  Format,
  Apply,
  Replay,
  Check,
  List as ListAll,
  Cat,
  Work,
  Trial,
  Run,
}

-- whether there are no words
abbrev pub has_none : List (List ℕ) → Bool
has_none [] = true
has_none (word ∷ words) = false

-- a command without further words
abbrev pub alone_of : Command → List (List ℕ) → Option Command
alone_of command words = if has_none words then Some command else None

-- `cat NAME`, of a name that isn't empty
abbrev pub cat_of : List (List ℕ) → Option Command
cat_of words = option_map (λ name. Cat name) (option_and_then name_of (one_of words))

-- `work N`, from 1 to 100,000
abbrev pub work_on : ℕ → Option Command
work_on n = if nat_le 1 n && nat_le n 100000 then Some (Work n) else None

abbrev pub work_of : List (List ℕ) → Option Command
work_of words = option_and_then work_on (option_and_then number_of (one_of words))

-- two words that spell numbers
abbrev pub pair_of : List ℕ × List ℕ → Option (ℕ × ℕ)
pair_of w = option_and_then (λ m. option_map (λ n. (m, n)) (number_of w.1)) (number_of w.0)

abbrev pub numbers_of : List (List ℕ) → Option (ℕ × ℕ)
numbers_of words = option_and_then pair_of (two_of words)

-- `format PAGES INODES`
abbrev pub format_of : List (List ℕ) → Option Command
format_of words = option_map (λ n. Format n.0 n.1) (numbers_of words)

-- `trial CALLS PICK`
abbrev pub trial_of : List (List ℕ) → Option Command
trial_of words = option_map (λ n. Trial n.0 n.1) (numbers_of words)

-- the command with this name, where these are the words behind it
abbrev pub named_of : List ℕ → List (List ℕ) → Option Command
named_of name words =
    if bytes_eq name (codes "format") then format_of words
    else if bytes_eq name (codes "apply") then alone_of Apply words
    else if bytes_eq name (codes "replay") then alone_of Replay words
    else if bytes_eq name (codes "check") then alone_of Check words
    else if bytes_eq name (codes "list") then alone_of ListAll words
    else if bytes_eq name (codes "cat") then cat_of words
    else if bytes_eq name (codes "work") then work_of words
    else if bytes_eq name (codes "trial") then trial_of words
    else if bytes_eq name (codes "run") then alone_of Run words
    else None

-- the command of the words behind the image, the first of which names it
abbrev pub order_of : List (List ℕ) → Option Command
order_of [] = None
order_of (name ∷ words) = named_of name words

-- a word that doesn't begin with the byte 45, `-`
abbrev pub is_plain : List ℕ → Bool
is_plain word = not (slice_index word 0 == 45)

-- the command that words give: the first is the image, which isn't empty; none begins with `-`
abbrev pub command_of : List (List ℕ) → Option Command
command_of [] = None
command_of (image ∷ others) =
    if not (length image == 0) && list_all is_plain (image ∷ others) then order_of others else None
