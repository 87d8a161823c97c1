-- What a write or a cut in flight does next.
use Rattle.std.specs.Prelude.{◌≡◌, ◌<◌, length}
use Rattle.dn_volume.specs.declared.flight.Flight.{Flight}
use Rattle.dn_volume.specs.declared.flight.DataChange.{DataChange}
use Rattle.file_ops.specs.declared.advance.DataStep.{DataStep}
use Rattle.file_ops.specs.declared.advance.DataStep.TheVariants.{Fill, Raise, Commit}

-- A page is left to be filled; or all are filled and a row is left to be raised; or nothing is left
-- but the commit.
abbrev pub IsNext : DataStep → Flight → DataChange → Type 0
IsNext Fill f c = c.filled < length c.blocks.items
IsNext Raise f c = (c.filled ≡ length c.blocks.items) × (f.raised < length f.rows.items)
IsNext Commit f c = (c.filled ≡ length c.blocks.items) × (f.raised ≡ length f.rows.items)
