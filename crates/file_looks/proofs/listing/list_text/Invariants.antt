use Rattle.std.proofs.Common.{◌≡◌, ℕ, List, take}
use Rattle.std.specs.List.{flat_map}
use Rattle.dn_model.specs.Disk.{Disk}
use Rattle.dn_model.specs.Files.{files}
use Rattle.dn_report.specs.Listing.{file_line}
use Rattle.dn_volume.specs.Agrees.{IsVolume}
use Rattle.file_looks.proofs.listing.list_text.Given as goal

abbrev pub invariant-loop-entry : goal.invariant-loop-entry
invariant-loop-entry g l = (d : Disk) → IsVolume d l.v.parts (g.D.Pm.state l.v.device)
    → l.text.items ≡ flat_map (λ (e : List ℕ × ℕ). file_line (files d) e.0) (take l.entry-index l.entries)
