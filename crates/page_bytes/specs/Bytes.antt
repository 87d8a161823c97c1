-- The bytes of a page: eight in each word, the least significant first.
use Rattle.std.specs.Prelude.{◌≡◌, ℕ, ◌+◌, ◌*◌, ◌/◌, ◌%◌, ◌^◌, ◌<◌, List, length, slice_index}
use Rattle.pm_device.specs.State.{State}
use Rattle.pm_device.specs.Settled.{IsFlushed}

-- byte j of a word
abbrev pub word_byte : ℕ → ℕ → ℕ
word_byte word j = word / 256 ^ j % 256

-- byte k of a page of an image
abbrev pub page_byte : List ℕ → ℕ → ℕ → ℕ
page_byte image page k = word_byte (slice_index image (512 * page + k / 8)) (k % 8)

-- these are the bytes of the page
pub record IsPageOf (image : List ℕ) (page : ℕ) (bytes : List ℕ) : Type 0 where
  pub whole : length bytes ≡ 4096
  pub each : (k : ℕ) → k < 4096 → slice_index bytes k ≡ page_byte image page k

-- the page holds these bytes, and they are settled by the actor's next fence
pub record HoldsBytes (who page : ℕ) (bytes : List ℕ) (s : State) : Type 0 where
  pub reads : (k : ℕ) → k < 4096 → page_byte s.now page k ≡ slice_index bytes k
  pub flushed : (k : ℕ) → k < 512 → IsFlushed who s (512 * page + k)

-- the word of the eight bytes from a place on
abbrev pub IsWordOf : List ℕ → ℕ → ℕ → Type 0
IsWordOf bytes at word = (j : ℕ) → j < 8 → word_byte word j ≡ slice_index bytes (at + j)

-- the words of these bytes
abbrev pub AreWordsOf : List ℕ → List ℕ → Type 0
AreWordsOf bytes words = (k : ℕ) → k < length words → IsWordOf bytes (8 * k) (slice_index words k)
