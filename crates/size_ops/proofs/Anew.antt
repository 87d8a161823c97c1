-- The place that a cut fills anew, on the disk.
use Rattle.std.proofs.Common.{◌≡◌, ℕ, ◌+◌, ◌-◌, ◌<◌, Bool, true, List, ◌∙◌, ap, arith}
use Rattle.std.specs.Prelude.{if◌then◌else◌, ◌&&◌, nat_le, nat_lt, Option, Some}
use Rattle.std.proofs.lemmas.Bool.Decides.{nat_tests}
use Rattle.log_entry.specs.Spelling.{pages_of}
use Rattle.log_entry.specs.declared.item.Flag.TheVariants.{Needed}
use Rattle.dn_model.specs.Log.{placed_from, slot_name, count}
use Rattle.log_entry.specs.declared.item.LogItem.{LogItem}
use Rattle.dn_model.specs.Maps.{Mapping, mapping, mapped_after}
use Rattle.dn_model.specs.Disk.{Disk, maps}
use Rattle.law_write.specs.Writing.{Writes}
use Rattle.law_write.proofs.Mapped.{mapping-grown}
use Rattle.law_write.proofs.MappedPlaces.{uncut}
use Rattle.law_write.proofs.WriteCounts.{maps_new}
use Rattle.law_cut.specs.Cutting.{last_page, cut_items}

-- how a place is mapped by the first place of a run for the daemon to work on
abbrev pub run_mapping : (page slot i : ℕ) → Mapping
run_mapping page slot i = record { block = page + i; slot = slot; bit = i; flag = Needed; mask = 0 }

inside : (first : ℕ) → (nat_le first first && nat_lt first (first + 1)) ≡ true
inside first = grind (arith, nat_tests)

first_place : (first : ℕ) → first - first ≡ 0
first_place first = omega arith

-- the last place is mapped by the item of its run
refilled_item : (pages : List ℕ) (size k page : ℕ) (m : Option Mapping) → last_page size < pages_of size
    → mapped_after (last_page size) m (placed_from pages k (cut_items size (Some page))) ≡ Some (run_mapping page (slot_name pages k) 0)
refilled_item pages size k page m lt =
    uncut size (last_page size) _ lt ∙ uncut size (last_page size) _ lt
    ∙ ap (λ (t : Bool). if t then Some (run_mapping page (slot_name pages k) (last_page size - last_page size)) else m) (inside (last_page size))
    ∙ ap (λ (i : ℕ). Some (run_mapping page (slot_name pages k) i)) (first_place (last_page size))

pub refilled_mapping : (ino : ℕ) (old new : Disk) (w : Writes ino old new) (size page : ℕ) → w.grown.more ≡ cut_items size (Some page)
    → last_page size < pages_of size
    → maps new ino (last_page size) ≡ Some (run_mapping page (slot_name (new.inode ino).log.pages (count (old.inode ino).log)) 0)
refilled_mapping ino old new w size page more lt =
    maps_new ino old new w (last_page size) ∙ mapping-grown old.geometry (old.inode ino).log (new.inode ino).log w.grown w.paged (last_page size)
    ∙ ap (λ (xs : List LogItem). mapped_after (last_page size) (mapping (old.inode ino).log (last_page size)) (placed_from
    (new.inode ino).log.pages (count (old.inode ino).log) xs)) more
    ∙ refilled_item (new.inode ino).log.pages size (count (old.inode ino).log) page (mapping (old.inode ino).log (last_page size)) lt
