-- A volume on which no operation is in flight, the daemon has begun nothing and nothing waits for
-- reclaim: what stands on its device then.
use Rattle.std.specs.Prelude.{◌≡◌, ◌≢◌, ◌↔◌, ℕ, ◌<◌, slice_index, Contains, None}
use Rattle.pm_device.specs.State.{State}
use Rattle.pm_device.specs.Settled.{Still}
use Rattle.pm_layout.specs.Geometry.{gate_word}
use Rattle.dn_model.specs.Disk.{Disk, Dying}
use Rattle.dn_model.specs.Image.{StandsFor}
use Rattle.dn_model.specs.Counts.{Exact, IsFree}
use Rattle.dn_volume.specs.declared.flight.Flight.{Flight}
use Rattle.dn_volume.specs.declared.volume.Parts.{Parts}
use Rattle.dn_volume.specs.Parties.{Flies}
use Rattle.dn_volume.specs.Agrees.{IsVolume, HasNoStale}

-- no client has anything in flight
abbrev pub AllLanded : Parts → Type 0
AllLanded b = (who : ℕ) (f : Flight) → Flies b who f → ⊥

-- The words stand for this disk: the journal is closed, each count is the number of mappings of its
-- page, no file is dying, no pointer is stale, and each word is settled.
pub record IsAtRest (d : Disk) (s : State) : Type 0 where
  pub stands_for : StandsFor s.now d
  pub closed : slice_index s.now gate_word ≡ 0
  pub exact : Exact d
  pub no_dying : (ino cut : ℕ) → ino < d.geometry.inodes → (d.inode ino).use_of ≢ Dying cut
  pub pointers : HasNoStale d
  pub still : Still s

-- so it is once nothing is under way, and the free pages are those of the disk
abbrev pub RestingVolumesAreAtRest : Type 0
RestingVolumesAreAtRest = (d : Disk) (b : Parts) (s : State) → IsVolume d b s → AllLanded b
    → b.sharing ≡ None → b.reclaiming.waiting ≡ 0 → b.reclaiming.cleaning ≡ None
    → IsAtRest d s × ((page : ℕ) → Contains b.free.free page ↔ IsFree d page)
