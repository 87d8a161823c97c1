-- The image that a pick takes among those that a crash may leave.
use Rattle.std.specs.Prelude.{
  ◌≡◌,
  ℕ,
  ◌-◌,
  ◌*◌,
  ◌/◌,
  ◌%◌,
  ◌^◌,
  ◌<◌,
  ◌==◌,
  if◌then◌else◌,
  bit_xor,
  List,
  length,
  drop,
  slice_index,
  Option,
  Some,
  None,
}
use Rattle.pm_device.specs.Past.{Call, Past, Word, fresh, steps, word_at}

-- the values of a word that a crash may leave, in the order of their stores
abbrev pub left_values : Word → List ℕ
left_values w = drop w.durable w.values

-- a number that depends on the pick and the word
abbrev pub mixed : (pick a : ℕ) → ℕ
mixed pick a = let z = bit_xor pick (a * 11400714819323198485 % 2 ^ 64) in bit_xor z (z / 2 ^ 32)

-- which of n values word a has: the first for pick 0, the last for pick 1
abbrev pub picked_place : (pick a n : ℕ) → ℕ
picked_place pick a n = if pick == 0 then 0 else (if pick == 1 then n - 1 else mixed pick a % n)

-- v is that which the pick takes among the values of word a that a crash may leave
abbrev pub IsPickedWord : (pick a : ℕ) → Word → ℕ → Type 0
IsPickedWord pick a w v = v ≡ slice_index (left_values w)
    (picked_place pick a (length (left_values w)))

-- so it is in each word of an image
pub record IsPicked (p : Past) (m pick : ℕ) (c : List ℕ) : Type 0 where
  pub size : length c ≡ length p.first
  pub each : (a : ℕ) → a < length p.first → IsPickedWord pick a (word_at p m a) (slice_index c a)

-- of a device that doesn't tell its past there is no such image
abbrev pub Picked : Option Past → (m pick : ℕ) → List ℕ → Type 0
Picked None m pick c = ⊥
Picked (Some p) m pick c = IsPicked p m pick c

-- so it is after these calls, in each word of an image
pub record PicksOf (first : List ℕ) (calls : List Call) (pick : ℕ) (c : List ℕ) : Type 0 where
  pub size : length c ≡ length first
  pub each : (a : ℕ) → a < length first
      → IsPickedWord pick a (steps a (fresh (slice_index first a)) calls) (slice_index c a)
