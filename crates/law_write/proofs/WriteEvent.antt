-- The last step of a Write: each image that a stop may leave stands for the disk of before or of after.
use Rattle.std.proofs.Common.{◌≡◌, ◌⊎◌, inl, inr, ⊎_elim, ℕ, ◌+◌, ◌*◌, ◌<◌, List, length, refl, sym, ◌∙◌, ap, subst, arith}
use Rattle.std.specs.Prelude.{slice_index, Option, Some, None, IsSome, IsNone}
use Rattle.pm_device.specs.Past.{Past, Left}
use Rattle.pm_device.specs.State.{State, Agree}
use Rattle.pm_device.specs.Settled.{LeavesOnly, StoresOnly}
use Rattle.pm_device.specs.Reading.{Reads, Stands, IsReady, DiffersAt}
use Rattle.pm_device.specs.Commit.{IsCommitted, IsDone}
use Rattle.pm_device.specs.Runs.{length-read_after}
use Rattle.pm_device.proofs.OneWord.{reads_old_or_new, stands_new}
use Rattle.pm_layout.specs.declared.Geometry.{Geometry}
use Rattle.pm_layout.specs.Geometry.{InData, inode_word, gate_word}
use Rattle.dn_model.specs.Log.{count, tail_at}
use Rattle.dn_model.specs.Table.{Row, row_of}
use Rattle.dn_model.specs.Disk.{Disk, DiskSays, of_head, at_gate, IsMapped, IsUsed, rows}
use Rattle.law_write.specs.Events.{Fresh, in_log, in_page, IsReadPage, IsUnused}
use Rattle.dn_model.specs.Valid.{IsValid}
use Rattle.dn_model.specs.Image.{StandsFor}
use Rattle.dn_model.proofs.Regions.{inode_word_low}
use Rattle.dn_model.proofs.L1.{rolled_closed, gate_closed}
use Rattle.law_write.proofs.Unread.{read_in_data}
use Rattle.law_write.proofs.Relog.{relogged_differs}
use Rattle.law_write.specs.Writing.{Writes, WritesWell, IsStored}
use Rattle.law_write.proofs.WriteValid.{written_valid, mapped_cases, not_mapped}

-- an image has as many words as the device
pub length-left : (p : Option Past) (now : List ℕ) (m : ℕ) (c : List ℕ) → Agree now p → Left p m c → length c ≡ length now
length-left None now m c agree left = absurd left
length-left (Some p) now m c agree left = left.size ∙ sym (ap length agree ∙ length-read_after p.first p.calls)

-- an image that reads as a disk that makes sense stands for it
pub stands_for_read : (d : Disk) (c : List ℕ) → IsValid d → Reads (DiskSays d) c → length c ≡ 512 * d.geometry.pages → StandsFor c d
stands_for_read d c valid reads size =
    let shut : slice_index c gate_word ≡ 0 = reads gate_word 0 (of_head (at_gate refl refl)) in
    record {
      size = size;
      gate = gate_closed c d.geometry.inodes shut;
      reads = λ a v told. ap (λ xs. slice_index xs a) (rolled_closed c shut) ∙ reads a v told;
      valid = valid;
    }

module _ (ino : ℕ) (old new : Disk) (w : Writes ino old new) (ok : WritesWell ino old new w) where
  decide : (page : ℕ) → IsMapped new page → IsReadPage old page ⊎ (IsReadPage old page → ⊥)
  decide page mapped = ⊎_elim
      (λ (own : (i : ℕ) × (i < w.n) × (page ≡ w.blocks i)).
      let unused : IsUnused old page = subst (IsUnused old) (sym own.2) (ok.blocks own.0 own.1) in
      inr (λ read. ⊎_elim (not_mapped old page unused) (λ (row : IsSome (row_of (rows old) page)). no_row (row_of (rows old) page) row unused.no_row)
      read))
      (λ (was : IsMapped old page). inl (inl was)) (mapped_cases ino old new w page mapped)
    where
      no_row : (r : Option Row) → IsSome r → IsNone r → ⊥
      no_row None some none = cc
      no_row (Some x) some none = cc

  in_data : (page : ℕ) → IsReadPage new page → InData old.geometry page
  in_data page read = subst (λ (g : Geometry). InData g page) w.relogs.geometry (read_in_data new (written_valid ino old new w ok) page read)

  -- the disk of after says other things at the tail and of fresh words alone
  pub written_differs : DiffersAt (DiskSays old) (DiskSays new) (Fresh ino old new) (inode_word ino 2)
      (tail_at (new.inode ino).log.pages (count (new.inode ino).log))
  written_differs = relogged_differs ino old new w.relogs w.grown w.in_table
      (λ i lt u. (ok.valid.logs i lt u).paged) ok.paged' (subst IsUsed (sym w.live) tt) in_data decide

  -- the fresh words are prepared for the log, or those of the event's pages
  pub fresh_stored : (a v : ℕ) → Fresh ino old new a v → IsStored ino old new w a v
  fresh_stored a v (in_log prepared) = inl prepared
  fresh_stored a v (in_page page k small mapped unread place value) = ⊎_elim
      (λ (own : (i : ℕ) × (i < w.n) × (page ≡ w.blocks i)). inr (record {
        i = own.0;
        below = own.1;
        k = k;
        in_page = small;
        place = place ∙ ap (λ (p : ℕ). 512 * p + k) own.2;
        value = value ∙ ap (λ (p : ℕ). new.word p k) own.2;
      }))
      (λ (was : IsMapped old page). absurd (unread (inl was))) (mapped_cases ino old new w page mapped)

  pub stored_ready : (who : ℕ) (s : State) → IsReady who (IsStored ino old new w) s → IsReady who (Fresh ino old new) s
  stored_ready who s ready = record {
    within = λ a v fresh. ready.within a v (fresh_stored a v fresh);
    reads = λ a v fresh. ready.reads a v (fresh_stored a v fresh);
    flushed = λ a v fresh. ready.flushed a v (fresh_stored a v fresh);
  }

-- while the tail moves
module _ (ino : ℕ) (old new : Disk) (w : Writes ino old new) (ok : WritesWell ino old new w)
    (who : ℕ) (s t : State) (agree : Agree t.now t.past) (size : length t.now ≡ 512 * old.geometry.pages)
    (stands : Stands (DiskSays old) s) (ready : IsReady who (Fresh ino old new) s)
    (leaves : LeavesOnly s t (IsCommitted who (inode_word ino 2) (tail_at (new.inode ino).log.pages (count (new.inode ino).log)) s)) where
  pub written_images : LeavesOnly s t (λ c. StandsFor c old ⊎ StandsFor c new)
  written_images = record {
    extends = leaves.extends;
    each = λ m c late left.
        let long : length c ≡ 512 * old.geometry.pages = length-left t.past t.now m c agree left ∙ size in
        ⊎_elim (λ before. inl (stands_for_read old c ok.valid before long))
        (λ after. inr (stands_for_read new c (written_valid ino old new w ok) after (long ∙ ap (λ g. 512 * g.pages) (sym w.relogs.geometry))))
        (reads_old_or_new (DiskSays old) (DiskSays new) (Fresh ino old new) who _ _ s c (written_differs ino old new w ok) stands ready
        (leaves.each m c late left));
  }

-- once it has moved
module _ (ino : ℕ) (old new : Disk) (w : Writes ino old new) (ok : WritesWell ino old new w)
    (who : ℕ) (s t : State) (size : length s.now ≡ 512 * old.geometry.pages) (stands : Stands (DiskSays old) s)
    (ready : IsReady who (Fresh ino old new) s)
    (done : IsDone who (inode_word ino 2) (tail_at (new.inode ino).log.pages (count (new.inode ino).log)) s t)
    (only : StoresOnly (λ a. a ≡ inode_word ino 2) s t) where
  tail_inside : inode_word ino 2 < length s.now
  tail_inside =
      let low = inode_word_low old.geometry ino 2 w.in_table (omega arith) in
      omega (arith, low, ok.valid.accepted.room, size)

  pub written_stands : Stands (DiskSays new) t
  written_stands = stands_new (DiskSays old) (DiskSays new) (Fresh ino old new) who (inode_word ino 2)
      (tail_at (new.inode ino).log.pages (count (new.inode ino).log)) s t
      (written_differs ino old new w ok) stands ready tail_inside done only
