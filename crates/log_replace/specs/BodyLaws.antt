-- The laws of a log that is written page by page.
use Rattle.std.specs.Prelude.{◌≡◌, ◌↔◌, ℕ, ◌*◌, length}
use Rattle.pm_device.specs.State.{State, Agree}
use Rattle.pm_device.specs.Settled.{StoresOnly}
use Rattle.pm_device.specs.Reading.{Said, Stands}
use Rattle.pm_layout.specs.declared.Geometry.{Geometry}
use Rattle.dn_model.specs.Log.{Log, IsPaged}
use Rattle.dn_model.specs.Disk.{Disk, DiskSays}
use Rattle.law_names.specs.NameLaws.{StandsStill}
use Rattle.law_log_swap.specs.Replaced.{MayReplace, BodySays}
use Rattle.log_replace.specs.Bodies.{PageSays, BodyTo}

-- all pages of a log say just what its body says
abbrev pub PagesMakeBody : Type 0
PagesMakeBody = (g : Geometry) (log : Log) → IsPaged g log → (a v : ℕ)
    → BodySays log a v ↔ BodyTo log (length log.pages) a v

-- before the first page is written, all that is to stand stands
abbrev pub NoPageStands : Type 0
NoPageStands = (log : Log) (s : State) → Stands (BodyTo log 0) s

-- While words of a page of the new log are stored to, the disk stands, and so does each image that a
-- stop may leave.
abbrev pub PageStoresChangeNothing : Type 0
PageStoresChangeNothing = (d : Disk) (ino : ℕ) (log : Log) → MayReplace d ino log
    → (k : ℕ) (s t : State) → StoresOnly (Said (PageSays log k)) s t
    → Stands (DiskSays d) s → Agree t.now t.past → length t.now ≡ 512 * d.geometry.pages
    → StandsStill d s t
