-- What a run in threads promises of the count words that it tells.
use Rattle.std.specs.Prelude.{◌≡◌, ℕ, ◌<◌, List, length, slice_index}
use Rattle.pm_device.specs.State.{State}
use Rattle.pm_layout.specs.Geometry.{slots}
use Rattle.dn_model.specs.Disk.{Disk}
use Rattle.dn_model.specs.Counts.{Exact}
use Rattle.dn_model.specs.Files.{files, IsSameFiles}
use Rattle.dn_model.specs.Own.{Print}
use Rattle.dn_model.specs.declared.op.CountChange.{CountChange}
use Rattle.dn_model.specs.declared.op.Entry.{Entry}
use Rattle.dn_script.specs.declared.job.Line.{Line}
use Rattle.dn_volume.specs.Events.{word_at, word_after}
use Rattle.job_texts.specs.Plan.{scripts_in}
use Rattle.thread_runs.specs.Threads.{HasReadings}
use Rattle.thread_runs.specs.declared.reading.Readings.{Readings}
use Rattle.denova_runs.specs.Runs.{RanWhole}

-- the count word of each slot's row in a disk, 0 without a row
pub record AreWordsOf (d : Disk) (words : List ℕ) : Type 0 where
  pub long : length words ≡ slots d.geometry
  pub each : (slot : ℕ) → slot < length words → slice_index words slot ≡ word_at d slot

-- the last change of each slot leaves the word of its row in a disk; a slot without a change keeps
-- the word that it had
abbrev pub LeavesWords : List ℕ → List CountChange → Disk → Type 0
LeavesWords words trace after = (slot : ℕ) → slot < length words
    → word_at after slot ≡ word_after trace slot (slice_index words slot)

-- All lines of clients were run in threads, from a disk. The mount left a disk with its files,
-- whose counts are exact and are these words; the words changed so, and each count that a client
-- read was there between these changes, its reads in order; and the last changes leave the counts
-- of the disk that is left.
pub record RanCounted (print : Print) (clients : List (ℕ × List Line)) (d : Disk) (s t : State)
    (words : List ℕ) (trace : List CountChange) (readings : List Readings)
    (Tells : List Entry → Disk → ℕ → Type 0) : Type 0 where
  pub opened : Disk
  pub same : IsSameFiles (files opened) (files d)
  pub exact : Exact opened
  pub opening : AreWordsOf opened words
  pub reads : HasReadings (length words) words trace clients readings
  pub whole : RanWhole print (scripts_in clients) d s t
      (λ history after free. LeavesWords words trace after × Tells history after free)
