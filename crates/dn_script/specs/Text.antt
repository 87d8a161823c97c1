-- Lines, words, and the numbers and bytes that words spell.
use Rattle.std.specs.Prelude.{
  ℕ,
  ◌+◌,
  ◌-◌,
  ◌*◌,
  ◌&&◌,
  ◌==◌,
  nat_lt,
  if◌then◌else◌,
  List,
  [],
  ◌∷◌,
  codes,
  Option,
  Some,
  None,
  slice_index,
}
use Rattle.std.specs.Char.{is_ascii_digit}
use Rattle.std.specs.List.{onto_first, slice_split, list_all}
use Rattle.std.specs.Option.{option_map}
use Rattle.std.specs.Result.{result_ok}
use Rattle.std.specs.Str.{bytes_eq}
use Rattle.hex.specs.Hex.{decode_of, decode_sized}

-- the lines of a text: each ends with a byte 10, which the last may lack
unfoldable pub lines : List ℕ → List (List ℕ)
lines [] = []
lines (b ∷ bs) = if b == 10 then [] ∷ lines bs else onto_first b (lines bs)

-- the words of a line, with one space between two
abbrev pub words : List ℕ → List (List ℕ)
words line = slice_split (λ b. b == 32) line

-- the words of what is left of a line
abbrev pub words_left : Option (List ℕ) → List (List ℕ)
words_left None = []
words_left (Some text) = words text

-- the word, where it is the only one
abbrev pub one_of : List (List ℕ) → Option (List ℕ)
one_of [] = None
one_of (a ∷ []) = Some a
one_of (a ∷ b ∷ more) = None

-- the words, where they are two
abbrev pub two_of : List (List ℕ) → Option (List ℕ × List ℕ)
two_of [] = None
two_of (a ∷ rest) = option_map (λ b. (a, b)) (one_of rest)

-- the words, where they are three
abbrev pub three_of : List (List ℕ) → Option (List ℕ × List ℕ × List ℕ)
three_of [] = None
three_of (a ∷ rest) = option_map (λ w. (a, w.0, w.1)) (two_of rest)

-- the words, where they are four
abbrev pub four_of : List (List ℕ) → Option (List ℕ × List ℕ × List ℕ × List ℕ)
four_of [] = None
four_of (a ∷ rest) = option_map (λ w. (a, w.0, w.1, w.2)) (three_of rest)

-- the number n, and then these digits
unfoldable pub value_after : ℕ → List ℕ → ℕ
value_after n [] = n
value_after n (d ∷ ds) = value_after (10 * n + (d - 48)) ds

-- the number n and one digit more, as a number of 64 bits
abbrev pub next_of : ℕ → ℕ → Option ℕ
next_of n d = if is_ascii_digit d && nat_lt (10 * n + (d - 48)) 18446744073709551616 then Some
    (10 * n + (d - 48)) else None

-- digits that go on from n, as a number of 64 bits
abbrev pub digits_after : ℕ → List ℕ → Option ℕ
digits_after n ds = if list_all is_ascii_digit ds && nat_lt (value_after n ds) 18446744073709551616
    then Some (value_after n ds) else None

-- the number that a word spells, in decimal digits without a sign or a leading zero
abbrev pub number_of : List ℕ → Option ℕ
number_of [] = None
number_of (d ∷ []) = digits_after 0 (d ∷ [])
number_of (d ∷ e ∷ ds) = if d == 48 then None else digits_after 0 (d ∷ e ∷ ds)

-- the bytes that a word spells: pairs of hexadecimal digits, or `-` for no bytes
abbrev pub hex_of : List ℕ → Option (List ℕ)
hex_of [] = None
hex_of (c ∷ cs) = if bytes_eq (c ∷ cs) (codes "-") then Some [] else result_ok (decode_of (c ∷ cs))

-- the byte of two hexadecimal digits
abbrev pub byte_of : List ℕ → Option ℕ
byte_of word = option_map (λ bytes. slice_index bytes 0) (result_ok (decode_sized word 1))

-- a name is a word that isn't empty
abbrev pub name_of : List ℕ → Option (List ℕ)
name_of [] = None
name_of (b ∷ bs) = Some (b ∷ bs)
