-- What a change of a file's data leaves to others.
use Rattle.std.proofs.Common.{◌≡◌, ◌≢◌, ⊎_elim, ℕ, ◌/◌, ◌<◌, List, [], ◌∷◌, refl, sym, ◌∙◌, ap, subst, arith}
use Rattle.std.specs.Prelude.{slice_index, Contains}
use Rattle.std.proofs.lemmas.List.Elements.{Contains-append_cases, Contains-get_or}
use Rattle.pm_device.specs.State.{State}
use Rattle.pm_device.specs.Reading.{Said}
use Rattle.pm_device.specs.Pages.{IsInPage}
use Rattle.pm_device.proofs.Only.{stores_only-weaken}
use Rattle.pm_layout.specs.Geometry.{inode_word}
use Rattle.dn_model.specs.Growth.{Prepared, new_head, new_footer, new_slot}
use Rattle.dn_model.specs.Table.{Row, row_of}
use Rattle.dn_model.specs.Disk.{Disk}
use Rattle.law_write.proofs.WriteValid.{named_same, was_used}
use Rattle.law_table.proofs.Rows.{listed_here}
use Rattle.file_commit.specs.Append.{IsItemWord, AppendsOnly}
use Rattle.dn_volume.specs.declared.flight.Flight.{Flight}
use Rattle.dn_volume.specs.declared.flight.Change.TheVariants.{Data}
use Rattle.dn_volume.specs.declared.flight.DataChange.{DataChange}
use Rattle.dn_volume.specs.Parties.{taken_by}
use Rattle.dn_volume.specs.Planned.{slot_of_row}
use Rattle.dn_volume.specs.Rely.{KeepsRest, IsWordOf, of_inode, of_log, of_page, LeavesRest}
use Rattle.file_ops.specs.Ends.{ChangesData}
use Rattle.file_ops.proofs.Freed.{rows_same, unused_kept}
use Rattle.file_ops.proofs.Taken.{fresh_taken, block_taken}

module _ (d e : Disk) (f : Flight) (c : DataChange) (from n : ℕ) (kind : f.change ≡ Data c) (disk : ChangesData d e f c from n) where
  not_in : (i : ℕ) → (Contains (f.ino ∷ []) i → ⊥) → i ≢ f.ino
  not_in i out same = out (subst (Contains (f.ino ∷ [])) (sym same) (listed_here f.ino []))

  block_listed : (i : ℕ) → i < disk.event.n → Contains c.blocks.items (disk.event.blocks i)
  block_listed i lt = subst (Contains c.blocks.items) (sym (disk.blocks i lt)) (Contains-get_or c.blocks.items i 0 (omega (arith, lt, disk.places)))

  pub keeps_rest : KeepsRest (f.ino ∷ []) (taken_by f) d e
  keeps_rest = record {
    geometry = disk.event.relogs.geometry;
    inode = λ i out. disk.event.relogs.others i (not_in i out);
    named_so = λ i name some out. (
      (λ leads. sym (named_same f.ino d e disk.event disk.well name) ∙ leads),
      (λ leads. named_same f.ino d e disk.event disk.well name ∙ leads),
    );
    word = disk.event.relogs.word;
    unused = λ page out unused. unused_kept f.ino d e disk.event disk.well from n disk.drops page unused
        (λ i lt same. out (block_taken f c kind page (subst (Contains c.blocks.items) same (block_listed i lt))))
        (λ fresh. out (fresh_taken f c kind page (subst (λ (ps : List ℕ). Contains ps page) disk.takes fresh)));
    slots = λ i idx m in_table out is. ap (λ (rs : List Row). slot_of_row (row_of rs m.block)) (rows_same f.ino d e disk.event disk.well from n
        disk.drops);
    counting = λ row has some. record {
      still = row;
      there = subst (λ (rs : List Row). Contains rs row) (sym (rows_same f.ino d e disk.event disk.well from n disk.drops)) has;
      slot = refl;
      page = refl;
      print = refl;
    };
  }

  -- a log page of the file, or a fresh one
  page_word : (page a : ℕ) → Contains (e.inode f.ino).log.pages page → IsInPage page a → IsWordOf (f.ino ∷ []) (taken_by f) d a
  page_word page a listed here = ⊎_elim
      (λ (was : Contains (d.inode f.ino).log.pages page). of_log f.ino page (listed_here f.ino []) disk.event.in_table (was_used f.ino d e disk.event)
      was here)
      (λ (fresh : Contains disk.event.grown.fresh page). of_page page
      (fresh_taken f c kind page (subst (λ (ps : List ℕ). Contains ps page) disk.takes fresh)) here)
      (Contains-append_cases (d.inode f.ino).log.pages disk.event.grown.fresh page (subst (λ (ps : List ℕ). Contains ps page) disk.event.grown.pages
      listed))

  head_word : (field a : ℕ) → field < 16 → a ≡ inode_word f.ino field → IsWordOf (f.ino ∷ []) (taken_by f) d a
  head_word field a small is = of_inode f.ino (listed_here f.ino []) disk.event.in_table (omega (arith, is), omega (arith, is, small))

  prepared_word : (a v : ℕ) → Prepared f.ino (d.inode f.ino).log (e.inode f.ino).log a v → IsWordOf (f.ino ∷ []) (taken_by f) d a
  prepared_word a v (new_head none some is value) = head_word 1 a (omega arith) is
  prepared_word a v (new_footer k past lt is value) =
      page_word (slice_index (e.inode f.ino).log.pages k) a (Contains-get_or (e.inode f.ino).log.pages k 0 (omega (arith, lt)))
      (omega (arith, is), omega (arith, is))
  prepared_word a v (new_slot k j past lt small is value) =
      page_word (slice_index (e.inode f.ino).log.pages (k / 63)) a (Contains-get_or (e.inode f.ino).log.pages (k / 63) 0
      (omega (arith, lt, disk.well.paged'.fits))) (omega (arith, is), omega (arith, is, small))

  item_word : (a : ℕ) → IsItemWord f.ino d e a → IsWordOf (f.ino ∷ []) (taken_by f) d a
  item_word a said = ⊎_elim (λ (p : Said (Prepared f.ino (d.inode f.ino).log (e.inode f.ino).log) a). prepared_word a p.value p.told)
      (λ (tail : a ≡ inode_word f.ino 2). head_word 2 a (omega arith) tail) said

  pub leaves_rest : (who : ℕ) (s t : State) → AppendsOnly who f.ino d e s t → LeavesRest who (f.ino ∷ []) (taken_by f) d e s t
  leaves_rest who s t appends = record {
    rest = keeps_rest;
    only = stores_only-weaken (IsItemWord f.ino d e) (IsWordOf (f.ino ∷ []) (taken_by f) d) s t item_word appends.only;
    others = λ q a other out lt flushed. appends.others.flushed q a other (λ item. out (item_word a item)) lt flushed;
  }
