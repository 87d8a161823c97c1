-- A text is put into bytes of a file.
use Rattle.std.specs.Prelude.{
  ◌≡◌,
  ℕ,
  ◌+◌,
  ◌-◌,
  ◌<◌,
  ◌≤◌,
  ◌&&◌,
  nat_le,
  nat_lt,
  if◌then◌else◌,
  List,
  length,
  slice_index,
}

-- byte j, which was this one, once the text is put in from byte `at` on
abbrev pub put_byte : ℕ → List ℕ → ℕ → ℕ → ℕ
put_byte at text j old = if nat_le at j && nat_lt j (at + length text) then slice_index text
    (j - at) else old

-- so it is with the bytes from byte `start` on
pub record PutsText (start at : ℕ) (text old new : List ℕ) : Type 0 where
  pub whole : length new ≡ length old
  pub each : (k : ℕ) → k < length old → slice_index new k ≡ put_byte at text (start + k)
      (slice_index old k)

-- so far with those below n
pub record PutsBelow (n start at : ℕ) (text old new : List ℕ) : Type 0 where
  pub whole : length new ≡ length old
  pub done : (k : ℕ) → k < n → k < length old → slice_index new k ≡ put_byte at text (start + k)
      (slice_index old k)
  pub ahead : (k : ℕ) → n ≤ k → slice_index new k ≡ slice_index old k
