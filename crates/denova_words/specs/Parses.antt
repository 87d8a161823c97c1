-- What the words behind a command's own are to the parser of command lines.
use Rattle.std.specs.Prelude.{◌≡◌, Bool, true, List, [], ◌∷◌, codes, Option, option_and_then, option_map}
use Rattle.clap.specs.Words.{
  App,
  Rule,
  Text,
  HasMatchesOf,
  IsAmong,
  fault_of,
  is_simple_and_free,
  new_rule,
}
use Rattle.clap.specs.declared.ArgMatches.{ArgMatches}
use Rattle.clap.specs.declared.error.ErrorKind.{ErrorKind}

-- the words of a call: a name, the end of what could be flags, and values
abbrev pub value_line : List Text → List Text
value_line values = codes "denova" ∷ codes "--" ∷ values

-- an argument that has to be there
abbrev pub required_rule : Text → Rule
required_rule id = record (new_rule id) { required = true }

-- a command takes words, and these are its matches
pub record Parses (app : App) (words : List Text) (m : ArgMatches) : Type 0 where
  pub fits : is_simple_and_free app ≡ true → fault_of app words ≡ []
  pub matches : HasMatchesOf app words m

-- a command doesn't take words
pub record IsUnfit (app : App) (words : List Text) : Type 0 where
  pub kind : ErrorKind
  pub among : is_simple_and_free app ≡ true → IsAmong kind (fault_of app words)

-- both words, where both are there
abbrev pub both_of : Option Text → Option Text → Option (Text × Text)
both_of first second = option_and_then (λ a. option_map (λ b. (a, b)) second) first
