-- A disk says nothing of a slot that no row has, as its table doesn't.
use Rattle.std.proofs.Common.{◌≢◌, ℕ, ◌<◌, ◌≤◌, arith, ◌+◌}
use Rattle.std.specs.Prelude.{Contains}
use Rattle.pm_device.specs.Words.{IsIn}
use Rattle.pm_layout.specs.Geometry.{slot_word, directs, slots}
use Rattle.dn_model.specs.Table.{Row}
use Rattle.dn_model.specs.Disk.{Disk, rows}
use Rattle.dn_model.specs.Valid.{IsValid}
use Rattle.law_write.proofs.Unread.{slot_word_low}
use Rattle.law_table.specs.Words.{IsTableWord, IsUntold}
use Rattle.law_table.proofs.TableRows.{good_of}
use Rattle.law_table.proofs.Unused.{indirect_untold, closed_untold}
use Rattle.law_table_on_disk.specs.OneWord.{IsUnread}
use Rattle.law_table_on_disk.proofs.NextDisk.{said_of_table}

module _ (d : Disk) (valid : IsValid d) where
  -- of words of the table the table says nothing, and so the disk doesn't
  unread : (first n : ℕ) → ((a : ℕ) → IsIn first n a → IsTableWord d.geometry a) → IsUntold d first n → IsUnread d first n
  unread first n within untold a v says inside = untold a v (said_of_table d valid a v (within a inside) says) inside

  slot_run : (slot first n : ℕ) → slot < slots d.geometry → slot_word d.geometry slot 0 ≤ first → first + n ≤ slot_word d.geometry slot 0 + 8
      → (a : ℕ) → IsIn first n a → IsTableWord d.geometry a
  slot_run slot first n in_slots low high a inside = (
    omega (arith, inside.0),
    omega (
      arith,
      inside.1,
      slot_word_low d.geometry slot 7 in_slots
          (omega arith),
    ),
  )

  module _ (slot : ℕ) where
    pub indirect_unread : directs d.geometry ≤ slot → slot < slots d.geometry → ((r : Row) → Contains (rows d) r → r.slot ≢ slot)
        → IsUnread d (slot_word d.geometry slot 0) 8
    indirect_unread above in_slots none = unread (slot_word d.geometry slot 0) 8 (slot_run slot (slot_word d.geometry slot 0) 8 in_slots (omega arith)
        (omega arith)) (indirect_untold d (good_of d valid) slot above in_slots none)

    pub closed_unread : slot < directs d.geometry → ((r : Row) → Contains (rows d) r → r.slot ≢ slot) → IsUnread d (slot_word d.geometry slot 1) 4
    closed_unread in_directs none = unread (slot_word d.geometry slot 1) 4 (slot_run slot (slot_word d.geometry slot 1) 4 (omega (arith, in_directs))
        (omega arith) (omega arith)) (closed_untold d (good_of d valid) slot in_directs none)
