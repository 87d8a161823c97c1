-- What a Write asks.
use Rattle.std.specs.Prelude.{◌≡◌, ℕ, ◌+◌, ◌/◌}
use Rattle.dn_model.specs.Disk.{Disk}
use Rattle.dn_model.specs.History.{touched, extra}
use Rattle.data_begins.specs.declared.asks.DataAsk.{DataAsk}

-- so many bytes of this file from byte `at` on: a page for each place that they touch, and one for
-- the log where its last one lacks the slots
pub record IsWriteAsk (d : Disk) (ino at count : ℕ) (ask : DataAsk) : Type 0 where
  pub ino_is : ask.ino ≡ ino
  pub needs : ask.needed ≡ touched at count + extra (touched at count) (d.inode ino).log
  pub lost : ask.lost ≡ at / 4096
  pub places : ask.lost_places ≡ touched at count
