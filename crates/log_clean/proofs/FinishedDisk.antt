-- A cleaned log has replaced the old one: what the disk of after keeps, and what the end of the cleaning leaves to others.
use Rattle.std.proofs.Common.{◌⊎◌, inl, inr, ⊎_elim, ℕ, ◌*◌, List, [], ◌∷◌, refl, sym, ◌∙◌, ap, subst, arith}
use Rattle.std.specs.Prelude.{IsNone, Contains}
use Rattle.pm_device.specs.State.{State}
use Rattle.pm_device.specs.Settled.{StoresOnly, KeepsFlushed, Others}
use Rattle.pm_device.specs.Reading.{Stands}
use Rattle.pm_device.proofs.Only.{stores_only-weaken}
use Rattle.pm_layout.specs.declared.Geometry.{Geometry}
use Rattle.dn_model.specs.Table.{Row, row_of}
use Rattle.dn_model.specs.Disk.{Disk, DiskSays, IsUsed}
use Rattle.law_write.specs.Events.{Relogs, IsUnused}
use Rattle.law_log_swap.specs.Relogged.{KeepsData}
use Rattle.law_log_swap.specs.Replaced.{SwapsLog}
use Rattle.law_log_swap.proofs.Relogged.{relogs}
use Rattle.law_clean.specs.Cleaned.{cleaned_log}
use Rattle.log_replace.specs.CleanedLaws.{MayClean, cleaned_disk}
use Rattle.log_replace.specs.Replacing.{IsEndWord}
use Rattle.log_replace.proofs.CleanedDisk.{cleaned_valid, cleaned_data, cleaned_swaps}
use Rattle.dn_volume.specs.Agrees.{StandsFast, HasNoStale}
use Rattle.dn_volume.specs.Planned.{slot_of_row}
use Rattle.dn_volume.specs.Rely.{KeepsRest, LeavesRest, IsWordOf, of_journal, of_inode}
use Rattle.dn_volume.proofs.Heads.{none_stale_kept}

module _ (d : Disk) (ino : ℕ) (pages : List ℕ) (may : MayClean d ino pages) where
  abbrev e : Disk
  e = cleaned_disk d ino pages

  pub keeps : KeepsData d e ino
  keeps = cleaned_data d ino pages may

  pub swaps : SwapsLog d e ino (cleaned_log ino (d.inode ino).log pages)
  swaps = cleaned_swaps d ino pages may

  pub parts_are : Relogs ino d e
  parts_are = relogs d ino (cleaned_log ino (d.inode ino).log pages)

  -- the unused pages of after: the old log's pages, and those of before but the new log's
  pub unused_kept : (page : ℕ) → IsUnused d page → (Contains pages page → ⊥) → IsUnused e page
  unused_kept page was out = record {
    free = swaps.kept page was.free out;
    no_row = subst (λ (rs : List Row). IsNone (row_of rs page)) (sym keeps.rows_same) was.no_row;
  }

  pub unused_old : (page : ℕ) → Contains (d.inode ino).log.pages page → IsUnused e page
  unused_old page listed = record {
    free = swaps.freed page listed;
    no_row = subst (λ (rs : List Row). IsNone (row_of rs page)) (sym keeps.rows_same)
        (may.valid.single.log_no_row page (record { ino = ino; in_table = may.in_table; used = used; listed = listed }));
  }
    where
      used : IsUsed (d.inode ino).use_of
      used = subst IsUsed (sym may.live) tt

  pub unused_before : (page : ℕ) → IsUnused e page → IsUnused d page ⊎ Contains (d.inode ino).log.pages page
  unused_before page is = ⊎_elim
      (λ free. inl (record { free = free; no_row = subst (λ (rs : List Row). IsNone (row_of rs page)) keeps.rows_same is.no_row }))
      (λ listed. inr listed) (swaps.only page is.free)

  -- a new page is used
  pub new_used : (page : ℕ) → Contains pages page → IsUnused e page → ⊥
  new_used page listed is = swaps.taken page listed is.free

  pub rest_kept : KeepsRest (ino ∷ []) pages d e
  rest_kept = record {
    geometry = parts_are.geometry;
    inode = λ i out. parts_are.others i (λ same. out (subst (Contains (ino ∷ [])) (sym same) (0, omega arith, refl)));
    named_so = λ i name some out. (
      (λ is. sym (keeps.names name) ∙ is),
      (λ is. keeps.names name ∙ is),
    );
    word = λ page k read. parts_are.word page k read;
    unused = λ page out was. unused_kept page was out;
    slots = λ i idx m table out is. ap (λ (rs : List Row). slot_of_row (row_of rs m.block)) keeps.rows_same;
    counting = λ row has counts. record {
      still = row;
      there = subst (λ (rs : List Row). Contains rs row) (sym keeps.rows_same) has;
      slot = refl;
      page = refl;
      print = refl;
    };
  }

  pub end_word_of : (a : ℕ) → IsEndWord ino a → IsWordOf (ino ∷ []) pages d a
  end_word_of a (inl head) = of_inode ino (0, omega arith, refl) may.in_table (omega (arith, head), omega (arith, head))
  end_word_of a (inr (inl tail)) = of_inode ino (0, omega arith, refl) may.in_table (omega (arith, tail), omega (arith, tail))
  end_word_of a (inr (inr journal)) = of_journal journal

  pub no_stale : HasNoStale d → HasNoStale e
  no_stale = none_stale_kept d e parts_are.geometry parts_are.pointer
      (λ row has. record { row = row; there = subst (λ (rs : List Row). Contains rs row) (sym keeps.rows_same) has; page_is = refl })

  module _ (s t : State) (only : StoresOnly (IsEndWord ino) s t) where
    pub leaves : KeepsFlushed (Others 16) (IsEndWord ino) s t → LeavesRest 16 (ino ∷ []) pages d e s t
    leaves others = record {
      rest = rest_kept;
      only = stores_only-weaken (IsEndWord ino) (IsWordOf (ino ∷ []) pages d) s t end_word_of only;
      others = λ q a other out lt flushed. others.flushed q a other (λ is. out (end_word_of a is)) lt flushed;
    }

    pub fast_then : (g : Geometry) → StandsFast d g s → Stands (DiskSays e) t → StandsFast e g t
    fast_then g fast stands = record {
      geometry = parts_are.geometry ∙ fast.geometry;
      long = only.words ∙ fast.long ∙ ap (λ (h : Geometry). 512 * h.pages) (sym parts_are.geometry);
      valid = cleaned_valid d ino pages may;
      stands = stands;
    }
