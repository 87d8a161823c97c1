-- A log is read, or it has its first fault.
use Rattle.std.proofs.Common.{◌⊎◌, inl, inr, ℕ, ◌/◌, ◌%◌, ◌<◌, List, refl, arith}
use Rattle.std.specs.Prelude.{slice_index, length, Option, Some, None}
use Rattle.std.proofs.lemmas.Bool.{cases_eq}
use Rattle.pm_device.specs.Reading.{Reads}
use Rattle.pm_layout.specs.declared.Geometry.{Geometry}
use Rattle.pm_layout.specs.Geometry.{inode_word}
use Rattle.dn_model.specs.Log.{Log, LogSays}
use Rattle.dn_model.specs.LogFault.{LogFault}
use Rattle.dn_model.specs.Valid.{IsLog}
use Rattle.log_walk.specs.Slots.{first_slots}
use Rattle.log_walk.specs.Walk.{fault_place, slots_before}
use Rattle.log_walk.specs.declared.items.Placed.{Placed}
use Rattle.log_walk.proofs.Outcome.{Outcome, outcome, empty_log}
use Rattle.law_log_read.specs.Laws.{LogsAreReadOrFaulty}
use Rattle.law_log_read.proofs.Pages.{Way, all_pages}
use Rattle.law_log_read.proofs.Items.{AllItems, all_items}

module _ (g : Geometry) (c : List ℕ) (ino : ℕ) where
  abbrev Judged : Type 0
  Judged = ((place : ℕ) × LogFault g c ino place) ⊎ ((log : Log) × Reads (LogSays ino log) c × IsLog g ino log)

  judged : (pages : List ℕ) (items : List Placed) (place : Option ℕ) → Outcome g c ino pages items place → Judged
  judged pages items None has = inr (has.log, has.reads, has.valid)
  judged pages items (Some place) fault = inl (place, fault)

  abbrev head : ℕ
  head = slice_index c (inode_word ino 1)

  abbrev tail : ℕ
  tail = slice_index c (inode_word ino 2)

  walked : 0 < tail → Judged
  walked some =
      let way : Way g c head (tail / 64) = all_pages g c head (tail / 64) in
      let m : ℕ = slots_before (length way.pages) way.whole tail in
      let read : AllItems g ino way.pages (first_slots c way.pages m) = all_items g ino way.pages (first_slots c way.pages m) in
      judged way.pages read.items (fault_place read.end way.whole (tail % 64) read.taken m)
      (outcome g c ino head tail way.pages read.items read.taken m refl refl some way.is.part read.front read.end way.whole way.is.ends refl
      read.ends)

pub log_read : LogsAreReadOrFaulty
log_read g c ino = elim (cases_eq (slice_index c (inode_word ino 2)) 0) [
  | inl none ↦ let has = empty_log g c ino none in inr (has.log, has.reads, has.valid)
  | inr other ↦ walked g c ino (omega arith)
]
