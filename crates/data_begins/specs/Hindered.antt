-- What stands in the way of a write or a cut that the files grant.
use Rattle.std.specs.Prelude.{◌≡◌, ◌⊎◌, ℕ, ◌+◌, ◌<◌, ◌∷◌, [], length, Option, Some, None}
use Rattle.dn_volume.specs.declared.volume.Parts.{Parts}
use Rattle.begin_steps.specs.Held.{IsHeldAmong, AreLooseAmong}
use Rattle.data_begins.specs.declared.hindrance.Hindrance.{Hindrance}
use Rattle.data_begins.specs.declared.hindrance.Hindrance.TheVariants.{Held, Waits, NoSpace}

-- the free pages are too few for so many and the reserve of four
abbrev pub LacksPages : Parts → ℕ → Type 0
LacksPages b needed = (0 < needed) × (length b.free.free < needed + 4)

-- so many releases are too many beside those that wait
abbrev pub IsCrowded : Parts → ℕ → Type 0
IsCrowded b lost = 1048576 < length b.reclaiming.releases.items + lost

abbrev pub IsLoose : Parts → ℕ → Type 0
IsLoose b ino = AreLooseAmong b.inodes.items (ino ∷ [])

pub record MustWait (b : Parts) (ino needed lost : ℕ) : Type 0 where
  pub loose : IsLoose b ino
  pub lacks : LacksPages b needed ⊎ IsCrowded b lost
  pub some : 0 < b.reclaiming.waiting

pub record IsTooFull (b : Parts) (ino needed : ℕ) : Type 0 where
  pub loose : IsLoose b ino
  pub lacks : LacksPages b needed
  pub none : b.reclaiming.waiting ≡ 0

pub record IsFreeToBegin (b : Parts) (ino needed lost : ℕ) : Type 0 where
  pub loose : IsLoose b ino
  pub pages : LacksPages b needed → ⊥
  pub releases : IsCrowded b lost → ⊥

-- that is it: the inode is held; or pages or room for releases are wanting, while something waits
-- to be released; or pages are wanting, while nothing does; or nothing is in the way
abbrev pub IsHindrance : Parts → (ino needed lost : ℕ) → Option Hindrance → Type 0
IsHindrance b ino needed lost None = IsFreeToBegin b ino needed lost
IsHindrance b ino needed lost (Some (Held holder)) = IsHeldAmong b.inodes.items (ino ∷ []) holder
IsHindrance b ino needed lost (Some Waits) = MustWait b ino needed lost
IsHindrance b ino needed lost (Some NoSpace) = IsTooFull b ino needed
