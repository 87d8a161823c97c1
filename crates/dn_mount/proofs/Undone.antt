-- A rollback leaves images that stand for what the words stood for.
use Rattle.std.proofs.Common.{◌≡◌, ◌⊎◌, inl, inr, ⊎_elim, ℕ, ◌+◌, ◌*◌, ◌/◌, ◌%◌, ◌<◌, ◌≤◌, List, length, sym, ◌∙◌, subst, arith}
use Rattle.std.specs.Prelude.{slice_index, Option}
use Rattle.pm_device.specs.Past.{Past, Left, moment}
use Rattle.pm_device.specs.State.{State, Agree, IsSame, Rose}
use Rattle.pm_device.specs.Settled.{Still, Extends, LeavesOnly, StoresOnly}
use Rattle.pm_device.proofs.Only.{stores_only-then, stores_only-same}
use Rattle.dn_model.specs.Faults.{
  HasGeometry,
  HasGate,
  HasLinks,
  FaultOf,
  not_an_image,
  wrong_version,
  bad_geometry,
  bad_journal,
  bad_inode,
  bad_log,
  bad_link,
  bad_table,
  bad_pointer,
  double_mapped,
  bad_count,
  crowded,
}
use Rattle.dn_model.specs.declared.fault.ImageFault.{ImageFault}
use Rattle.law_image_read.proofs.ImageRead.{read_to_links}
use Rattle.image_head.specs.Heads.{IsHeadFault}
use Rattle.dn_mount.specs.declared.fault.MountFault.{MountFault}
use Rattle.dn_mount.specs.declared.fault.MountFault.TheVariants.{Image, NoMemory, Failed}
use Rattle.dn_mount.specs.Mounted.{RollsBack, IsMountFault}
use Rattle.pm_device.specs.Reading.{Reads, Stands}
use Rattle.pm_layout.specs.declared.Geometry.{Geometry}
use Rattle.pm_layout.specs.Geometry.{InData, inode_word, gate_word}
use Rattle.dn_model.specs.Rolled.{rolled, IsGate, IsJournaled, pair_address}
use Rattle.dn_model.specs.Log.{Log, LogSays, at_tail, at_head, at_footer, at_slot}
use Rattle.dn_model.specs.Disk.{
  Disk,
  DiskSays,
  of_head,
  of_inodes,
  of_logs,
  of_chains,
  of_pointers,
  of_pages,
  at_magic,
  at_version,
  at_pages,
  at_inodes,
  at_gate,
  at_state,
  at_cut,
}
use Rattle.dn_model.specs.Valid.{IsLog, IsValid}
use Rattle.dn_model.specs.Image.{StandsFor}
use Rattle.dn_model.proofs.Regions.{inode_word_low}
use Rattle.law_write.proofs.Unread.{read_in_data}
use Rattle.law_write.proofs.WriteEvent.{length-left}
use Rattle.law_table.proofs.TableRows.{good_of}
use Rattle.law_table_on_disk.proofs.NextDisk.{said_within}
use Rattle.name_journal.specs.Pairs.{HasGateOf}

-- all words of which a valid disk tells a value lie in the device
module _ (d : Disk) (valid : IsValid d) (n : ℕ) (size : n ≡ 512 * d.geometry.pages) where
  abbrev k : Geometry
  k = d.geometry

  inode_in : (ino field : ℕ) → ino < k.inodes → field < 16 → inode_word ino field < n
  inode_in ino field lt small = omega (arith, inode_word_low k ino field lt small, valid.accepted.room, size)

  page_in : (page j : ℕ) → InData k page → j < 512 → 512 * page + j < n
  page_in page j in_data lt = omega (arith, in_data.high, size)

  log_in : (ino : ℕ) (log : Log) → ino < k.inodes → IsLog k ino log → (a v : ℕ) → LogSays ino log a v → a < n
  log_in ino log lt is a v (at_tail place value) = omega (arith, place, inode_in ino 2 lt (omega arith))
  log_in ino log lt is a v (at_head some place value) = omega (arith, place, inode_in ino 1 lt (omega arith))
  log_in ino log lt is a v (at_footer i more place value) = omega (
    arith,
    place,
    page_in (slice_index log.pages i) 504
        (is.paged.in_data i (omega (arith, more))) (omega arith),
  )
  log_in ino log lt is a v (at_slot i j below word place value) =
      omega (
        arith,
        place,
        page_in (slice_index log.pages (i / 63)) (8 * (i % 63) + j)
            (is.paged.in_data (i / 63) (omega (arith, is.paged.fits, below))) (omega (arith, word)),
      )

  pub said_in : (a v : ℕ) → DiskSays d a v → a < n
  said_in a v (of_head (at_magic place value)) = omega (arith, place, size, valid.accepted.pages)
  said_in a v (of_head (at_version place value)) = omega (arith, place, size, valid.accepted.pages)
  said_in a v (of_head (at_pages place value)) = omega (arith, place, size, valid.accepted.pages)
  said_in a v (of_head (at_inodes place value)) = omega (arith, place, size, valid.accepted.pages)
  said_in a v (of_head (at_gate place value)) = omega (arith, place, size, valid.accepted.pages)
  said_in a v (of_inodes (at_state ino lt place value)) = omega (arith, place, inode_in ino 0 lt (omega arith))
  said_in a v (of_inodes (at_cut ino c lt dying place value)) = omega (arith, place, inode_in ino 3 lt (omega arith))
  said_in a v (of_logs told) = log_in told.ino (d.inode told.ino).log told.in_table (valid.logs told.ino told.in_table told.used) a v told.says
  said_in a v (of_chains told) = let low = said_within d (good_of d valid) a v (inl told) in omega (arith, low.1, valid.accepted.room, size)
  said_in a v (of_pointers told) = let low = said_within d (good_of d valid) a v (inr told) in omega (arith, low.1, valid.accepted.room, size)
  said_in a v (of_pages told) = omega (arith, told.place, page_in told.page told.k (read_in_data d valid told.page told.read) told.in_page)

-- what is read, with no store undecided, stands
pub still_stands : (d : Disk) → IsValid d → (s : State) → length s.now ≡ 512 * d.geometry.pages → Reads (DiskSays d) s.now → Still s
    → Stands (DiskSays d) s
still_stands d valid s size reads still = record {
  within = λ a v told. said_in d valid (length s.now) size a v told;
  reads = reads;
  settled = λ a v told. still a (said_in d valid (length s.now) size a v told);
}

-- the gate of an image on the way is let through
module _ (inodes : ℕ) (w c : List ℕ) (gate : IsGate inodes w) (has : HasGateOf w c) where
  module _ (same : slice_index c gate_word ≡ slice_index w gate_word) where
    below : (i : ℕ) → i < slice_index c gate_word → i < slice_index w gate_word
    below i lt = omega (arith, same, lt)

    address_same : (i : ℕ) → i < slice_index c gate_word → pair_address c i ≡ pair_address w i
    address_same i lt = has.pairs (520 + 2 * i) (omega arith) (omega (arith, below i lt, gate.few))

    gate_same : IsGate inodes c
    gate_same = record {
      few = omega (arith, same, gate.few);
      addresses = λ i lt. subst (IsJournaled inodes) (sym (address_same i lt)) (gate.addresses i (below i lt));
      apart = λ i j li lj e. gate.apart i j (below i li) (below j lj) (sym (address_same i li) ∙ e ∙ address_same j lj);
    }

  gate_shut : slice_index c gate_word ≡ 0 → IsGate inodes c
  gate_shut none = record {
    few = omega (arith, none);
    addresses = λ i lt. absurd (omega (arith, lt, none));
    apart = λ i j li lj e. absurd (omega (arith, li, none));
  }

  pub gate_kept : IsGate inodes c
  gate_kept = ⊎_elim gate_same gate_shut has.gate

module _ (s u : State) (long : length u.now ≡ length s.now) (d : Disk) (stood : StandsFor s.now d) where
  pub undo_images : Agree u.now u.past → LeavesOnly s u (λ c. rolled c ≡ rolled s.now) → LeavesOnly s u (HasGateOf s.now)
      → LeavesOnly s u (λ c. StandsFor c d)
  undo_images agree rolls gates = record {
    extends = rolls.extends;
    each = λ m c late left. record {
      size = length-left u.past u.now m c agree left ∙ long ∙ stood.size;
      gate = gate_kept d.geometry.inodes s.now c stood.gate (gates.each m c late left);
      reads = subst (Reads (DiskSays d)) (sym (rolls.each m c late left)) stood.reads;
      valid = stood.valid;
    };
  }

  pub undo_stands : u.now ≡ rolled s.now → Still u → Stands (DiskSays d) u
  undo_stands now still = still_stands d stood.valid u (long ∙ stood.size) (subst (Reads (DiskSays d)) (sym now) stood.reads) still

pub same_then : (s t u : State) → IsSame s t → IsSame t u → IsSame s u
same_then s t u first next = record { now = next.now ∙ first.now; past = next.past ∙ first.past; faults = next.faults ∙ first.faults }

-- a device with the same past leaves the same images
module _ (s t : State) (same : IsSame s t) where
  pub leaves_to_same : (P : List ℕ → Type 0) → LeavesOnly s s P → LeavesOnly s t P
  leaves_to_same P leaves = record {
    extends = subst (Extends s.past) (sym same.past) leaves.extends;
    each = λ m c late left. leaves.each m c late (subst (λ (p : Option Past). Left p m c) same.past left);
  }

  pub leaves_from_same : (u : State) (P : List ℕ → Type 0) → LeavesOnly t u P → LeavesOnly s u P
  leaves_from_same u P leaves = record {
    extends = subst (λ (p : Option Past). Extends p u.past) same.past leaves.extends;
    each = λ m c late left. leaves.each m c (subst (λ (p : Option Past). moment p ≤ m) (sym same.past) late) left;
  }

  module _ (agree : Agree s.now s.past) (u : State) where
    rolls_from_same : RollsBack t u → RollsBack s u
    rolls_from_same back = record {
      now = subst (λ (ws : List ℕ). u.now ≡ rolled ws) same.now back.now;
      still = back.still;
      images = leaves_from_same u (λ c. rolled c ≡ rolled s.now)
          (subst (λ (ws : List ℕ). LeavesOnly t u (λ c. rolled c ≡ rolled ws)) same.now back.images);
      only = stores_only-then (λ a. IsJournaled (slice_index s.now 3) a ⊎ (a ≡ gate_word)) s t u
          (stores_only-same (λ a. IsJournaled (slice_index s.now 3) a ⊎ (a ≡ gate_word)) s t agree same)
          (subst (λ (ws : List ℕ). StoresOnly (λ a. IsJournaled (slice_index ws 3) a ⊎ (a ≡ gate_word)) t u) same.now back.only);
    }

    pub back_from_same : RollsBack t u → RollsBack s u
    back_from_same = rolls_from_same

    pub fault_from_same : (fault : MountFault) → IsMountFault t u fault → IsMountFault s u fault
    fault_from_same (Image fault) is = record {
      is = subst (λ (ws : List ℕ). FaultOf ws fault) same.now is.is;
      head = λ head. let after = is.head head in record {
        now = after.now ∙ same.now;
        past = after.past ∙ same.past;
        faults = after.faults ∙ same.faults;
      };
      rest = λ rest. rolls_from_same (is.rest rest);
    }
    fault_from_same NoMemory is = tt
    fault_from_same Failed is = subst (λ (n : ℕ). Rose n u.faults) same.faults is

-- a gate that isn't refused is one
pub gate_of : (c : List ℕ) → HasGeometry c → ((IsGate (slice_index c 3) c → ⊥) → ⊥) → HasGate c
gate_of c head not_not = ⊎_elim (λ (bad : (f : ImageFault) × FaultOf c f). by_fault bad.0 bad.1) (λ (links :
    (d : Disk) × HasLinks c d). links.1.logs.inodes.gate)
    (read_to_links c)
  where
    by_fault : (f : ImageFault) → FaultOf c f → HasGate c
    by_fault f (not_an_image not) = absurd (not head.image)
    by_fault f (wrong_version image other) = absurd (other head.version)
    by_fault f (bad_geometry image version not) = absurd (not head.accepted head.size)
    by_fault f (bad_journal has not) = absurd (not_not not)
    by_fault f (bad_inode ino has least) = has
    by_fault f (bad_log d ino place has used fault least) = has.gate
    by_fault f (bad_link d ino logs least) = logs.inodes.gate
    by_fault f (bad_table d slot links fault) = links.logs.inodes.gate
    by_fault f (bad_pointer d page table reads least) = table.links.logs.inodes.gate
    by_fault f (double_mapped d page pointers least) = pointers.table.links.logs.inodes.gate
    by_fault f (bad_count d front rest row pointers none split near far) = pointers.table.links.logs.inodes.gate
    by_fault f (crowded d free pointers none near has few) = pointers.table.links.logs.inodes.gate

-- a fault of an image whose head and journal have none is a later one
pub later_fault : (c : List ℕ) → HasGate c → (f : ImageFault) → FaultOf c f → IsHeadFault f → ⊥
later_fault c gate f (not_an_image not) head = not gate.geometry.image
later_fault c gate f (wrong_version image other) head = other gate.geometry.version
later_fault c gate f (bad_geometry image version not) head = not gate.geometry.accepted gate.geometry.size
later_fault c gate f (bad_journal has not) head = not gate.gate
later_fault c gate f (bad_inode ino has least) head = head
later_fault c gate f (bad_log d ino place has used fault least) head = head
later_fault c gate f (bad_link d ino logs least) head = head
later_fault c gate f (bad_table d slot links fault) head = head
later_fault c gate f (bad_pointer d page table reads least) head = head
later_fault c gate f (double_mapped d page pointers least) head = head
later_fault c gate f (bad_count d front rest row pointers none split near far) head = head
later_fault c gate f (crowded d free pointers none near has few) head = head
