-- How items are read from slots.
use Rattle.std.specs.Prelude.{
  ◌≡◌,
  ℕ,
  ◌+◌,
  ◌/◌,
  ◌%◌,
  ◌^◌,
  ◌<◌,
  List,
  [],
  Option,
  length,
  map,
  slice_index,
  slice_index_or,
  nat_lt,
  if◌then◌else◌,
  IfSome,
  IsSomeAnd,
}
use Rattle.std.specs.List.{range_with_len}
use Rattle.log_entry.specs.Spelling.{spelling, IsSpelled}
use Rattle.log_entry.specs.declared.item.LogItem.{LogItem}

-- two lists of slots are the same as far as both go
abbrev pub Agrees : List (List ℕ) → List (List ℕ) → Type 0
Agrees xs ys = (k : ℕ) → k < length xs → k < length ys → slice_index_or xs k [] ≡ slice_index_or ys
    k []

-- byte i of a word, byte 0 the least significant
abbrev pub byte_of : ℕ → ℕ → ℕ
byte_of word i = word / 256 ^ i % 256

-- Byte k of the name that begins in slots. Each slot has seven words after its first, and the name
-- follows the
-- first two of the first slot. Past the slots it is the letter a.
abbrev pub name_byte : List (List ℕ) → ℕ → ℕ
name_byte slots k =
    if nat_lt ((k + 16) / 56) (length slots)
    then byte_of (slice_index (slice_index_or slots ((k + 16) / 56) []) (1 + (k + 16) % 56 / 8))
    (k % 8)
    else 97

-- the bytes of the name that begins in slots, as many as the first slot says
unfoldable pub name_bytes : List (List ℕ) → List ℕ
name_bytes slots = map (name_byte slots)
    (range_with_len 0 (slice_index (slice_index_or slots 0 []) 2))

-- The only item that slots can spell or begin to spell. If they do so with any item, they do so
-- with this one.
pub record IsCandidate (found : Option LogItem) (slots : List (List ℕ)) : Type 0 where
  pub spelled : IfSome found IsSpelled
  pub only : (item : LogItem) → IsSpelled item → Agrees slots (spelling item)
      → IsSomeAnd found (λ one. Agrees slots (spelling one))
