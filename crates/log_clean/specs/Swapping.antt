-- The new log of a cleaning replaces the old one on the device: its head and its tail.
use Rattle.std.specs.Prelude.{ℕ, length, slice_index}
use Rattle.dn_model.specs.Log.{tail_at}
use Rattle.dn_volume.specs.declared.background.Cleaning.{Cleaning}

-- the page at which the new log begins, 0 where it has none
abbrev pub new_head : Cleaning → ℕ
new_head c = slice_index c.pages.items 0

-- and where it ends
abbrev pub new_tail : Cleaning → ℕ
new_tail c = tail_at c.pages.items (length c.slots.items)
